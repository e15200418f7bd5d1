use Rattle.std.proofs.Common.{ap, sym, ◌∙◌}
use Rattle.key_groups.specs.Groups.{with_item}
use Rattle.key_groups.proofs.GroupFacts.{by_key-push}
use Rattle.key_groups.proofs.grouping.by_key.Goals as goal

pub loop-key-preserved : goal.loop-key-preserved
loop-key-preserved g c =
    c.in_ok-add.ensures ∙ ap (λ es. with_item g.K.PartialEq.eq es c.in-Some.key c.in-Some.item) c.loop-key.invariant
    ∙ sym (by_key-push g.K.PartialEq.eq g.met.K.Eq.laws c.in-Some.key c.in-Some.item c.loop-key.yielded)
