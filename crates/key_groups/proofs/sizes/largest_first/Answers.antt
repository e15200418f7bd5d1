use Rattle.std.proofs.Common.{rules}
use Rattle.std.proofs.lemmas.List.Sorted.{answers_always}
use Rattle.key_groups.specs.Groups.{group_size}
use Rattle.key_groups.proofs.Sorting.{on_ok_both, largest}
use Rattle.key_groups.proofs.sizes.largest_first.Goals as goal

pub returns-clause-arranged : goal.returns-clause-arranged
returns-clause-arranged g c =
    on_ok_both c.sort_by_key.result c.sort_by_key.ensures.sorted
    (λ sorted. largest group_size _ _ (sorted (λ group. record { 0 = group_size group }) (answers_always _ _ _ (λ f a r q k. search rules)))
    (c.sort_by_key.ensures.stable (λ group. record { 0 = group_size group }) (answers_always _ _ _ (λ f a r q k. search rules))))
