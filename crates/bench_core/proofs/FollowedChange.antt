-- Indexes that follow a change as it is made, and as it is taken back.
use Rattle.std.proofs.Common.{◌≡◌, ℕ, List, IsSomeAnd, refl, ◌∙◌}
use Rattle.std.specs.List.{slice_get}
use Rattle.std.specs.Option.{ForSome}
use Rattle.text_lists.specs.declared.limits.Limits.{Limits}
use Rattle.rule_model.specs.Books.{Book}
use Rattle.row_store.specs.Tuple.{ids_if}
use Rattle.row_store.specs.Watches.{with_row}
use Rattle.edit_log.specs.declared.change.Change.{Change}
use Rattle.bench_index.specs.AllIndexes.{AllFollow}
use Rattle.bench_index.specs.declared.all_indexes.AllIndexes.{AllIndexes}
use Rattle.bench_core.specs.Stored.{Stored, state_of}
use Rattle.bench_core.specs.Changes.{HasMade, CanMake, after_change, before_change, made_again, taken_back}
use Rattle.bench_core.specs.Bench.{IsBench}
use Rattle.bench_core.specs.Indexed.{CanFollow, IsIndexed, tuples_of}
use Rattle.bench_core.proofs.Walks.{can-after, made-after}
use Rattle.bench_core.proofs.TuplesAt.{IsFull, row-full, table-where, tuple-changed, tuple-where}
use Rattle.bench_core.proofs.InStepWith.{can-follow, indexed-alike, indexed-followed}

module _ {rules : Book} {limits : Limits} {texts : List (List ℕ)} {index : AllIndexes} (tables : List Stored) (bench : IsBench rules limits (state_of texts tables)) (held : IsIndexed rules texts (tuples_of tables) index) (change : Change) where
  module _ (can : IsSomeAnd (slice_get tables change.table) (CanMake change)) (next : IsBench rules limits (state_of texts (made_again change tables))) where
    old-there : tuples_of tables change.table change.row ≡ ids_if change.old
    old-there = tuple-where tables change.table change.row (ids_if change.old) (CanMake change) (λ table can. can.old) can

    old-full : ForSome (ids_if change.old) (IsFull rules change.table)
    old-full ids is = row-full rules limits texts tables bench change.table change.row ids (old-there ∙ is)

    new-full : ForSome (ids_if change.new) (IsFull rules change.table)
    new-full ids is =
        let there = tuple-where (made_again change tables) change.table change.row (ids_if change.new) (HasMade change) (λ table made. made.new) (made-after change tables can) in
        row-full rules limits texts (made_again change tables) next change.table change.row ids (there ∙ is)

    pub forward-can : CanFollow rules change.table change.row (ids_if change.old) (ids_if change.new) index
    forward-can = can-follow held change.table change.row (ids_if change.old) (ids_if change.new) old-there old-full new-full

    module _ (after : AllIndexes) (followed : AllFollow rules change.table change.row (ids_if change.old) (ids_if change.new) index after) where
      pub forward-followed : IsIndexed rules texts (with_row (tuples_of tables) change.table change.row (ids_if change.new)) after
      forward-followed = indexed-followed held change.table change.row (ids_if change.old) (ids_if change.new) old-there after followed

      pub forward-indexed : IsIndexed rules texts (tuples_of (made_again change tables)) after
      forward-indexed =
          let (table, at) = table-where tables change.table (CanMake change) can in
          indexed-alike forward-followed (tuples_of (made_again change tables)) (tuple-changed change.table change.row (ids_if change.new) (after_change change) tables table at refl)

  module _ (made : IsSomeAnd (slice_get tables change.table) (HasMade change)) (next : IsBench rules limits (state_of texts (taken_back change tables))) where
    new-there : tuples_of tables change.table change.row ≡ ids_if change.new
    new-there = tuple-where tables change.table change.row (ids_if change.new) (HasMade change) (λ table made. made.new) made

    made-full : ForSome (ids_if change.new) (IsFull rules change.table)
    made-full ids is = row-full rules limits texts tables bench change.table change.row ids (new-there ∙ is)

    back-full : ForSome (ids_if change.old) (IsFull rules change.table)
    back-full ids is =
        let there = tuple-where (taken_back change tables) change.table change.row (ids_if change.old) (CanMake change) (λ table can. can.old) (can-after change tables made) in
        row-full rules limits texts (taken_back change tables) next change.table change.row ids (there ∙ is)

    pub back-can : CanFollow rules change.table change.row (ids_if change.new) (ids_if change.old) index
    back-can = can-follow held change.table change.row (ids_if change.new) (ids_if change.old) new-there made-full back-full

    pub back-indexed : (after : AllIndexes) → AllFollow rules change.table change.row (ids_if change.new) (ids_if change.old) index after → IsIndexed rules texts (tuples_of (taken_back change tables)) after
    back-indexed after followed =
        let (table, at) = table-where tables change.table (HasMade change) made in
        indexed-alike (indexed-followed held change.table change.row (ids_if change.new) (ids_if change.old) new-there after followed) (tuples_of (taken_back change tables))
        (tuple-changed change.table change.row (ids_if change.old) (before_change change) tables table at refl)
