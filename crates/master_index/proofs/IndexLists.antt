-- A walk over the indexes that changes one after the other: those that were passed, and those ahead.
use Rattle.std.proofs.Common.{◌≡◌, ℕ, ◌+◌, ◌<◌, ◌≤◌, cond, List, length, get_or, set, take, inl, inr, sym, ap, subst, ◌∙◌, arith}
use Rattle.std.specs.Prelude.{◌==◌, map, sum_by, All}
use Rattle.std.proofs.lemmas.Bool.{cases_lt}
use Rattle.std.proofs.lemmas.List.{get_or-map, get_or-set_same, get_or-set_other, length-map, length-set, take_all}
use Rattle.std.proofs.lemmas.List.Sums.{sum_by_more, sum_by_more_le}
use Rattle.std.proofs.Math.Seq.{map-set_same}
use Rattle.master_index.specs.declared.column_index.ColumnIndex.{ColumnIndex}
use Rattle.master_index.specs.declared.column_list.ColumnList.{ColumnList}
use Rattle.master_index.specs.Between.{Reaches}
use Rattle.master_index.specs.Masters.{IsWideFor, lists_of}

abbrev pub lists_in : List ColumnIndex → List ColumnList
lists_in columns = map (λ index. index.list) columns

-- what holds of each index so far, and those ahead are as they were
abbrev pub SoFar : (ColumnIndex → Type 0) → ℕ → List ColumnIndex → Type 0
SoFar Q i now = (k : ℕ) (d : ColumnIndex) → k < i → Q (get_or now k d)

abbrev pub AheadAs : ℕ → List ColumnIndex → List ColumnIndex → Type 0
AheadAs i was now = (k : ℕ) (d : ColumnIndex) → i ≤ k → get_or now k d ≡ get_or was k d

module _ (was now : List ColumnIndex) (i : ℕ) (y : ColumnIndex) (within : i < length now) where
  pub so_far_more : (Q : ColumnIndex → Type 0) → SoFar Q i now → Q y → SoFar Q (i + 1) (set now i y)
  so_far_more Q done here k d below = elim (cases_lt k i) [
    | inl less ↦ subst Q (sym (get_or-set_other now i k y d (omega arith))) (done k d less)
    | inr not_less ↦
        let at : i ≡ k = omega arith in
        subst (λ n. Q (get_or (set now i y) n d)) at (subst Q (sym (get_or-set_same now i y d within)) here)
  ]

  pub ahead_more : AheadAs i was now → AheadAs (i + 1) was (set now i y)
  ahead_more ahead k d past = get_or-set_other now i k y d (omega arith) ∙ ahead k d (omega arith)

  -- all, where the walk stops at an index
  pub stopped : (Q : ColumnIndex → Type 0) → length now ≡ length was → SoFar Q i now → AheadAs i was now → Q y → All Q was → All Q (set now i y)
  stopped Q same done ahead here all k d inside = elim (cases_lt k (i + 1)) [
    | inl less ↦ so_far_more Q done here k d less
    | inr past ↦ subst Q (sym (ahead_more ahead k d past)) (all k d (omega (arith, inside, length-set now i y, same)))
  ]

  pub lists_more : (d : ColumnIndex) → y.list ≡ (get_or now i d).list → lists_in now ≡ lists_in was → lists_in (set now i y) ≡ lists_in was
  lists_more d same lists = map-set_same (λ (index : ColumnIndex). index.list) now i y d same ∙ lists

-- ---- probes: one a list of the table
abbrev pub cost : ℕ → ColumnList → ℕ
cost table list = cond (table == list.master) 1 0

abbrev pub cost_of : ℕ → List ColumnIndex → ℕ → ℕ
cost_of table columns i = sum_by (cost table) (take i (lists_in columns))

-- how many lists there are, and the list at a place
in_lists : (columns : List ColumnIndex) (i : ℕ) → i < length columns → i < length (lists_in columns)
in_lists columns i within = omega (arith, within, length-map columns (λ (index : ColumnIndex). index.list))

list_at : (columns : List ColumnIndex) (i : ℕ) (d : ColumnIndex) → i < length columns → get_or (lists_in columns) i d.list ≡ (get_or columns i d).list
list_at columns i d within = get_or-map (λ (index : ColumnIndex). index.list) columns i d d.list within

-- an index reaches its columns
pub reached : (columns : List ColumnIndex) (table : ℕ) (tuple : List ℕ) → IsWideFor (lists_in columns) table tuple → (i : ℕ) (d : ColumnIndex) → i < length columns → Reaches table tuple (get_or columns i d).list
reached columns table tuple wide i d within =
    subst (Reaches table tuple) (list_at columns i d within) (wide i d.list (in_lists columns i within))

pub cost_more : (columns : List ColumnIndex) (table i : ℕ) (d : ColumnIndex) → i < length columns → cost_of table columns (i + 1) ≡ cost_of table columns i + cost table (get_or columns i d).list
cost_more columns table i d within = sum_by_more (cost table) (lists_in columns) i d.list (in_lists columns i within) ∙ ap (λ (list : ColumnList). cost_of table columns i + cost table list) (list_at columns i d within)

pub cost_within : (columns : List ColumnIndex) (table i : ℕ) (d : ColumnIndex) → i < length columns → cost_of table columns i + cost table (get_or columns i d).list ≤ lists_of (lists_in columns) table
cost_within columns table i d within = subst (λ (list : ColumnList). cost_of table columns i + cost table list ≤ lists_of (lists_in columns) table) (list_at columns i d within)
    (sum_by_more_le (cost table) (lists_in columns) i d.list (in_lists columns i within))

pub cost_all : (columns : List ColumnIndex) (table i : ℕ) → length columns ≤ i → cost_of table columns i ≡ lists_of (lists_in columns) table
cost_all columns table i past = ap (sum_by (cost table)) (take_all i (lists_in columns) (omega (arith, past, length-map columns (λ (index : ColumnIndex). index.list))))
