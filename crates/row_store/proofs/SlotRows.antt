-- The rows in slots, as a map: what it has at an id, and what an edit of the slots makes of it.
use Rattle.std.proofs.Common.{◌≡◌, ℕ, zero, suc, ◌+◌, ◌<◌, ◌≤◌, true, List, [], ◌∷◌, ◌++◌, length, get_or, set, Option, Some, None, refl, sym, ap, subst, ◌∙◌, arith}
use Rattle.std.specs.Prelude.{T, IsSome, is_some}
use Rattle.std.specs.Ordering.{nat_cmp}
use Rattle.std.specs.Cmp.{nat_cmp_total}
use Rattle.std.proofs.lemmas.Bool.Decides.{nat_tests}
use Rattle.std.proofs.lemmas.Grind.{common_steps}
use Rattle.std.specs.FinMap as map
use Rattle.std.specs.FinMap.Entries.{below_all, find, is_sorted}
use Rattle.row_store.specs.Tuple.{Tuple, ids_of, ids_if}
use Rattle.row_store.specs.Store.{Rows}
use Rattle.row_store.specs.Slots.{entries_from, rows_in}

-- every id of the slots lies above the ids before their first
rising : (low id : ℕ) (slots : List (Option Tuple)) → low < id → below_all nat_cmp low (entries_from id slots) ≡ true
rising low id [] h = refl
rising low id (None ∷ slots) h = rising low (id + 1) slots (omega arith)
rising low id (Some tuple ∷ slots) h = grind (arith, nat_tests, rising low (id + 1) slots (omega arith))

sorted : (id : ℕ) (slots : List (Option Tuple)) → is_sorted nat_cmp (entries_from id slots) ≡ true
sorted id [] = refl
sorted id (None ∷ slots) = sorted (id + 1) slots
sorted id (Some tuple ∷ slots) = grind (arith, rising id (id + 1) slots (omega arith), sorted (id + 1) slots)

find_before : (id q : ℕ) (slots : List (Option Tuple)) → q < id → find nat_cmp q (entries_from id slots) ≡ None
find_before id q [] h = refl
find_before id q (None ∷ slots) h = find_before (id + 1) q slots (omega arith)
find_before id q (Some tuple ∷ slots) h = grind (arith, nat_tests, find_before (id + 1) q slots (omega arith))

find_at : (id k q : ℕ) (slots : List (Option Tuple)) → q ≡ id + k → find nat_cmp q (entries_from id slots) ≡ ids_if (get_or slots k None)
find_at id k q [] e = refl
find_at id zero q (None ∷ slots) e = find_before (id + 1) q slots (omega arith)
find_at id (suc k) q (None ∷ slots) e = find_at (id + 1) k q slots (omega arith)
find_at id zero q (Some tuple ∷ slots) e = grind (arith, nat_tests)
find_at id (suc k) q (Some tuple ∷ slots) e = grind (arith, nat_tests, find_at (id + 1) k q slots (omega arith))

-- what a slot has is the row of its place
pub get-rows_in : (slots : List (Option Tuple)) (id : ℕ) → map.get (rows_in slots) id ≡ ids_if (get_or slots id None)
get-rows_in slots id = map.get-from_sorted nat_cmp (entries_from 0 slots) id (subst T (sym (sorted 0 slots)) tt) ∙ find_at 0 id id slots (omega arith)

same_rows : (slots : List (Option Tuple)) (m : Rows) → ((id : ℕ) → map.get m id ≡ ids_if (get_or slots id None)) → rows_in slots ≡ m
same_rows slots m is = map.same_map nat_cmp_total map.nat_cmp-IsAntisymmetric (rows_in slots) m (λ id. get-rows_in slots id ∙ sym (is id))

pub rows_in-none : rows_in [] ≡ map.empty
rows_in-none = same_rows [] map.empty (map.get-empty nat_cmp)

pub rows_in-filled : (slots : List (Option Tuple)) (id : ℕ) (tuple : Tuple) → id < length slots → rows_in (set slots id (Some tuple)) ≡ map.insert (rows_in slots) id (ids_of tuple)
rows_in-filled slots id tuple h =
    same_rows (set slots id (Some tuple)) (map.insert (rows_in slots) id (ids_of tuple))
    (λ q. grind (arith, nat_tests, common_steps, get-rows_in slots q, map.get-insert nat_cmp_total (rows_in slots) id (ids_of tuple) q))

pub rows_in-emptied : (slots : List (Option Tuple)) (id : ℕ) → id < length slots → rows_in (set slots id None) ≡ map.remove (rows_in slots) id
rows_in-emptied slots id h =
    same_rows (set slots id None) (map.remove (rows_in slots) id)
    (λ q. grind (arith, nat_tests, common_steps, get-rows_in slots q, map.get-remove nat_cmp_total (rows_in slots) id q))

pub rows_in-push : (slots : List (Option Tuple)) (id : ℕ) (tuple : Tuple) → id ≡ length slots → rows_in (slots ++ Some tuple ∷ []) ≡ map.insert (rows_in slots) id (ids_of tuple)
rows_in-push slots id tuple h =
    same_rows (slots ++ Some tuple ∷ []) (map.insert (rows_in slots) id (ids_of tuple))
    (λ q. grind (arith, nat_tests, common_steps, get-rows_in slots q, map.get-insert nat_cmp_total (rows_in slots) id (ids_of tuple) q))

pub rows_in-push_empty : (slots : List (Option Tuple)) → rows_in (slots ++ None ∷ []) ≡ rows_in slots
rows_in-push_empty slots = same_rows (slots ++ None ∷ []) (rows_in slots) (λ q. grind (arith, common_steps, get-rows_in slots q))

entries_few : (id : ℕ) (slots : List (Option Tuple)) → length (entries_from id slots) ≤ length slots
entries_few id [] = omega arith
entries_few id (None ∷ slots) = omega (arith, entries_few (id + 1) slots)
entries_few id (Some tuple ∷ slots) = omega (arith, entries_few (id + 1) slots)

-- what `entries` gives of the rows
pub entries-rows_in : (slots : List (Option Tuple)) → map.entries (rows_in slots) ≡ entries_from 0 slots
entries-rows_in slots = map.entries-from_sorted nat_cmp (entries_from 0 slots) (subst T (sym (sorted 0 slots)) tt)

pub len_few : (slots : List (Option Tuple)) → map.len (rows_in slots) ≤ length slots
len_few slots = rw (map.len-entries, entries-rows_in) (entries_few 0 slots)

pub len_few_filled : (slots : List (Option Tuple)) (id : ℕ) (tuple : Option Tuple) → map.len (rows_in (set slots id tuple)) ≤ length slots
len_few_filled slots id tuple = grind (arith, common_steps, len_few (set slots id tuple))

is_some-ids_if : (o : Option Tuple) → is_some (ids_if o) ≡ is_some o
is_some-ids_if None = refl
is_some-ids_if (Some tuple) = refl

-- a row that is there has a slot that has its tuple
pub row_in_slot : (slots : List (Option Tuple)) (id : ℕ) → IsSome (map.get (rows_in slots) id) → IsSome (get_or slots id None)
row_in_slot slots id there = sym (is_some-ids_if (get_or slots id None)) ∙ ap is_some (sym (get-rows_in slots id)) ∙ there

pub row_within : (slots : List (Option Tuple)) (id : ℕ) → IsSome (map.get (rows_in slots) id) → id < length slots
row_within slots id there = grind (arith, common_steps, row_in_slot slots id there)

pub ruleset slot_rows = (get-rows_in, rows_in-none, rows_in-filled, rows_in-emptied, rows_in-push, rows_in-push_empty, len_few, row_in_slot, row_within)
