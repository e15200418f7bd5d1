use Rattle.std.proofs.Common.{◌∙◌, get_or, arith}
use Rattle.std.proofs.lemmas.List.{length-set}
use Rattle.rule_runs.proofs.Lists.{gathered_more}
use Rattle.rule_runs.proofs.lookup.gather.Goals as goal

pub loop-place-preserved : goal.loop-place-preserved
loop-place-preserved c =
    let v = get_or c.args.tuple.now (get_or c.args.columns.now c.loop-place.place 0) 0 in (
      length-set c.loop-place.room c.loop-place.place v ∙ c.loop-place.invariant.0,
      gathered_more c.args.tuple.now c.args.columns.now c.loop-place.room c.loop-place.place c.loop-place-test.true (omega arith)
          (c.requires.within c.loop-place.place 0 c.loop-place-test.true) c.loop-place.invariant.1,
    )
