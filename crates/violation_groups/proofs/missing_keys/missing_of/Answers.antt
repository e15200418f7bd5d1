use Rattle.std.proofs.Common.{sym, subst}
use Rattle.std.specs.Prelude.{All}
use Rattle.std.proofs.lemmas.List.Sorted.{All-permutation}
use Rattle.key_groups.specs.Arranged.{IsLargestFirst}
use Rattle.key_groups.specs.Groups.{group_size}
use Rattle.key_groups.proofs.Members.{each-keyed}
use Rattle.violation_groups.specs.ByIds.{HasKnownKey, IsKnownKey}
use Rattle.violation_groups.proofs.Grouping.{missing-as-told, same_key}
use Rattle.violation_groups.proofs.Steps.{if_ok}
use Rattle.violation_groups.proofs.missing_keys.missing_of.Goals as goal

pub each_missing-requires : goal.each_missing-requires
each_missing-requires c =
    All-permutation (HasKnownKey c.args.pool.now) c.in_ok-found.found.items c.largest_first.new.groups.items c.largest_first.ensures.permutation
    (subst (All (HasKnownKey c.args.pool.now)) (sym c.in_ok-found.ensures) (each-keyed same_key (IsKnownKey c.args.pool.now) c.args.rows.items c.requires))

pub returns : goal.returns
returns c =
    let sorted = c.largest_first.new.groups.items in
    if_ok c.each_missing.result c.each_missing.ensures
    (λ missing told. missing-as-told c.args.pool.now c.len-len.ensures.distinct c.args.rows.items sorted missing c.requires (subst (λ l. IsLargestFirst group_size l sorted) c.in_ok-found.ensures c.in_ok-largest_first.ensures.arranged) told)
