use Rattle.std.proofs.Common.{◌≡◌, subst, sym, ◌∙◌}
use Rattle.std.proofs.lemmas.Option.{same_Some}
use Rattle.group_index.specs.declared.group.Group.{Group}
use Rattle.group_index.specs.Pairs.{pairs_of, is_turning, is_both}
use Rattle.group_index.specs.Totals.{IsExtent}
use Rattle.group_index.proofs.GroupFacts.{value_at}
use Rattle.group_index.proofs.groups.extent_at.Goals as goal

pub returns : goal.returns
returns c at stands =
    subst (λ (v : Group). IsExtent (pairs_of v) c.of.result × (is_both c.of.result.spread ≡ is_turning v)) (same_Some c.value_at.result.now at.1 (sym c.value_at.ensures ∙ value_at c.args.groups.now.pairs c.args.place at stands))
    (c.of.ensures.extent, c.of.ensures.turning)
