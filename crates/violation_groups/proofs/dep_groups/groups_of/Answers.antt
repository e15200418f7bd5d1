use Rattle.std.proofs.Common.{ℕ, sym, subst, map}
use Rattle.std.specs.Prelude.{All}
use Rattle.std.proofs.lemmas.List.Sorted.{All-permutation}
use Rattle.key_groups.specs.Arranged.{IsLargestFirst}
use Rattle.key_groups.specs.Groups.{group_size}
use Rattle.key_groups.proofs.Members.{each-by_key}
use Rattle.violation_groups.specs.ByIds.{HasText, IsKnownGroup, IsKnownKey, group_named}
use Rattle.violation_groups.proofs.Grouping.{groups-arranged, same_key}
use Rattle.violation_groups.proofs.Steps.{if_ok, row-keys-known}
use Rattle.violation_groups.proofs.dep_groups.groups_of.Goals as goal

pub each_group-requires : goal.each_group-requires
each_group-requires c =
    All-permutation (IsKnownGroup c.args.pool.now) c.in_ok-found.found.items c.largest_first.new.groups.items c.largest_first.ensures.permutation
    (subst (All (IsKnownGroup c.args.pool.now)) (sym c.in_ok-found.ensures)
    (each-by_key same_key (IsKnownKey c.args.pool.now) (λ (row : ℕ × ℕ). HasText c.args.pool.now row.0) c.args.rows.items c.requires))

pub returns : goal.returns
returns c =
    let sorted = c.largest_first.new.groups.items in
    if_ok c.each_group.result c.each_group.ensures (λ groups each. record {
      found = map (group_named c.args.pool.now) sorted;
      order = groups-arranged c.args.pool.now c.len-len.ensures.distinct c.args.rows.items sorted (row-keys-known c.args.pool.now c.args.rows.items c.requires)
          (subst (λ l. IsLargestFirst group_size l sorted) c.in_ok-found.ensures c.in_ok-largest_first.ensures.arranged);
      each = each;
    })
