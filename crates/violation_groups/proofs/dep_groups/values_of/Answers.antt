use Rattle.std.proofs.Common.{ℕ, List, sym, subst, ap, ◌∙◌}
use Rattle.std.specs.Prelude.{All, nat_eq}
use Rattle.std.proofs.lemmas.List.Sorted.{All-permutation}
use Rattle.key_groups.specs.Arranged.{IsRarestFirst}
use Rattle.key_groups.specs.Groups.{by_key, group_size}
use Rattle.key_groups.proofs.Members.{each-keyed}
use Rattle.violation_groups.specs.ByIds.{HasText}
use Rattle.violation_groups.proofs.Grouping.{values-as-told}
use Rattle.violation_groups.proofs.Steps.{if_ok}
use Rattle.violation_groups.proofs.dep_groups.values_of.Goals as goal

pub each_value-requires : goal.each_value-requires
each_value-requires c =
    let grouped = c.in_ok-found.ensures ∙ ap (by_key nat_eq) c.into_vec.ensures in
    All-permutation (λ (value : ℕ × List ℕ). HasText c.args.pool.now value.0) c.in_ok-found.found.items c.rarest_first.new.groups.items c.rarest_first.ensures.permutation
    (subst (All (λ (value : ℕ × List ℕ). HasText c.args.pool.now value.0)) (sym grouped) (each-keyed nat_eq (HasText c.args.pool.now) c.args.rows c.requires))

pub returns : goal.returns
returns c =
    let grouped = c.in_ok-found.ensures ∙ ap (by_key nat_eq) c.into_vec.ensures in
    let sorted = c.rarest_first.new.groups.items in
    if_ok c.each_value.result c.each_value.ensures
    (λ values told. values-as-told c.args.pool.now c.len-len.ensures.distinct c.args.rows sorted values c.requires (subst (λ l. IsRarestFirst group_size l sorted) grouped c.in_ok-rarest_first.ensures.arranged) told)
