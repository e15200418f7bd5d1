use Rattle.std.proofs.Common.{[], ◌∷◌}
use Rattle.std.proofs.lemmas.List.Elements.{All-append, All-cons, All-nil}
use Rattle.dep_search.specs.Pairs.{IsSample}
use Rattle.dep_search.proofs.ahead.push_samples.Goals as goal

pub loop-other-preserved : goal.loop-other-preserved
loop-other-preserved c =
    let P = IsSample c.args.table.now in
    rw c.in_ok-push.ensures.ok (All-append P c.loop-other.samples (c.in_ok-sample.sample ∷ []) c.loop-other.invariant
    (All-cons P c.in_ok-sample.sample [] c.in_ok-sample.ensures (All-nil P)))
