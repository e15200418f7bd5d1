use Rattle.std.proofs.Common.{ap, ◌∙◌}
use Rattle.line_grammar.specs.Lines.{lines}
use Rattle.view_page.proofs.found.checked.Goals as goal

pub returns : goal.returns
returns c =
    let told = c.in_ok-told.told in
    (told.text.items, told.status, c.in_ok-told.ensures.told, c.in_ok-found.ensures ∙ ap lines c.deref.ensures.value)
