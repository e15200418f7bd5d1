use Rattle.std.proofs.Common.{◌-◌, length, drop, ◌∙◌, arith, length-drop}
use Rattle.std.proofs.lemmas.List.{take_all}
use Rattle.schema_draft.proofs.Steps.{after_last-from}
use Rattle.schema_draft.proofs.names.last_part.Goals as goal

pub returns : goal.returns
returns c =
    let file = c.args.file.now in
    let start = c.last_start.result in
    take_all (length file - start) (drop start file) (omega (arith, length-drop start file))
    ∙ after_last-from file start c.last_start.ensures.within c.last_start.ensures.behind c.last_start.ensures.slash
