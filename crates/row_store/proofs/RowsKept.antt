-- What an edit of the rows does to their number, and to the ids below the next one.
use Rattle.std.proofs.Common.{◌≡◌, ℕ, ◌+◌, ◌<◌, List, None, inl, inr, arith}
use Rattle.std.specs.Prelude.{IsSome}
use Rattle.std.specs.Ordering.{nat_cmp}
use Rattle.std.specs.Cmp.{nat_cmp_total}
use Rattle.std.proofs.lemmas.Bool.Decides.{nat_tests}
use Rattle.std.proofs.lemmas.Bool.{cases_lt}
use Rattle.std.specs.FinMap as map
use Rattle.row_store.specs.Store.{Rows, AllBelow}

-- where a row is, there is at least one
pub there_counts : (rows : Rows) (id : ℕ) → IsSome (map.get rows id) → 0 < map.len rows
there_counts rows id there = grind (arith, there, map.empty_of_len rows, map.get-empty {X = List ℕ} nat_cmp id)

module _ (rows : Rows) (id : ℕ) (ids : List ℕ) where
  pub len_more : map.get rows id ≡ None → map.len (map.insert rows id ids) ≡ map.len rows + 1
  len_more absent = grind (arith, map.len-insert nat_cmp_total rows id ids)

  pub len_same : IsSome (map.get rows id) → map.len (map.insert rows id ids) ≡ map.len rows
  len_same there = grind (arith, map.len-insert nat_cmp_total rows id ids)

  pub len_fewer : IsSome (map.get rows id) → map.len (map.remove rows id) + 1 ≡ map.len rows
  len_fewer there = grind (arith, there_counts rows id there, map.len-remove nat_cmp_total rows id)

  pub below_more : (next : ℕ) → id < next → AllBelow rows next → AllBelow (map.insert rows id ids) next
  below_more next h below q past = grind (arith, nat_tests, below q past, map.get-insert nat_cmp_total rows id ids q)

  pub below_same : (next : ℕ) → IsSome (map.get rows id) → AllBelow rows next → AllBelow (map.insert rows id ids) next
  below_same next there below q past = grind (arith, nat_tests, there, below q past, map.get-insert nat_cmp_total rows id ids q)

  pub below_fewer : (next : ℕ) → AllBelow rows next → AllBelow (map.remove rows id) next
  below_fewer next below q past = grind (arith, nat_tests, below q past, map.get-remove nat_cmp_total rows id q)

-- where the newest row goes, its id may be given again
pub below_newest : (rows : Rows) (id next : ℕ) → next ≡ id + 1 → AllBelow rows next → AllBelow (map.remove rows id) id
below_newest rows id next is below q past = elim (cases_lt q next) [
  | inl early ↦ let same : q ≡ id = omega arith in grind (arith, nat_tests, map.get-remove nat_cmp_total rows id q)
  | inr late ↦ grind (arith, nat_tests, below q late, map.get-remove nat_cmp_total rows id q)
]

pub ruleset rows_kept = (len_more, len_same, len_fewer, below_more, below_fewer)
