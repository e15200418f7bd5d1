use Rattle.std.proofs.Common.{rules}
use Rattle.std.proofs.lemmas.List.Sorted.{answers_always}
use Rattle.key_groups.specs.Groups.{group_size}
use Rattle.key_groups.proofs.Sorting.{on_ok_both, rarest}
use Rattle.key_groups.proofs.sizes.rarest_first.Goals as goal

pub returns-clause-arranged : goal.returns-clause-arranged
returns-clause-arranged g c =
    on_ok_both c.sort_by_key.result c.sort_by_key.ensures.sorted
    (λ sorted. rarest group_size _ _ (sorted group_size (answers_always _ _ _ (λ f a r q k. search rules)))
    (c.sort_by_key.ensures.stable group_size (answers_always _ _ _ (λ f a r q k. search rules))))
