-- The entries of the rows of a table, as the rows with their texts: one that is looked up, and one that is put, changed or
-- taken away.
use Rattle.std.proofs.Common.{◌≡◌, ℕ, ◌<◌, Bool, true, false, cond, not, List, [], ◌∷◌, ◌++◌, map, filter, None, All, IsSome, option_map, refl, subst, ap, ◌∙◌, arith, inl, inr, nat_cmp, is_lt, ◌&&◌}
use Rattle.std.specs.Prelude.{T}
use Rattle.std.specs.List.{find}
use Rattle.std.specs.Ordering.{eq_by_cmp}
use Rattle.std.proofs.lemmas.Bool.Decides.{nat_tests}
use Rattle.std.proofs.lemmas.Grind.{common_steps}
use Rattle.std.proofs.lemmas.Bool.{cases_eq, cases_lt}
use Rattle.std.proofs.lemmas.List.{get_or-map, length-map, map-append}
use Rattle.std.proofs.lemmas.List.Elements.{All-head, All-tail}
use Rattle.std.specs.FinMap.Entries as entry
use Rattle.bench_core.specs.State.{Row, has_id}
use Rattle.bench_core.specs.Stored.{StoredRow, row_of, text_of}

-- ---- rows below an id

-- stored rows lie as far below as the rows with their texts
pub below-stored : (texts : List (List ℕ)) (id : ℕ) (rows : List StoredRow) → All (λ (row : Row). row.0 < id) (map (row_of texts) rows) → All (λ (row : StoredRow). row.0 < id) rows
below-stored texts id rows below = λ k d lt. rw (get_or-map (row_of texts) rows k d (row_of texts d) lt) at (below k (row_of texts d) (rw length-map lt))

-- a row above all others goes last
pub put-above : (id : ℕ) (values : List ℕ) (rows : List StoredRow) → All (λ (row : StoredRow). row.0 < id) rows → entry.put nat_cmp id values rows ≡ rows ++ (id, values) ∷ []
put-above id values [] below = refl
put-above id values (row ∷ rows) below =
    let first = All-head (λ (row : StoredRow). row.0 < id) row rows below in
    let ih = put-above id values rows (All-tail (λ (row : StoredRow). row.0 < id) row rows below) in
    grind (arith, nat_tests, first, ih)

-- ---- a row that is looked up

module _ (texts : List (List ℕ)) where
  found_here : (id : ℕ) (row : StoredRow) (rows : List StoredRow) (test : Bool) → (row.0 ≡ id) → option_map (λ (r : Row). r.1) (find (has_id id) (map (row_of texts) (row ∷ rows))) ≡ option_map (map (text_of texts)) (entry.find nat_cmp id (row ∷ rows))
  found_here id row rows test same = grind (arith, nat_tests, common_steps)

  pub found : (id : ℕ) (rows : List StoredRow) → option_map (λ (r : Row). r.1) (find (has_id id) (map (row_of texts) rows)) ≡ option_map (map (text_of texts)) (entry.find nat_cmp id rows)
  found id [] = refl
  found id (row ∷ rows) = let ih = found id rows in elim (cases_eq row.0 id) [
    | inl same ↦ grind (arith, nat_tests, same)
    | inr other ↦ grind (arith, nat_tests, other, ih)
  ]

  -- a row above all others goes last
  pub put-last : (id : ℕ) (values : List ℕ) (rows : List StoredRow) → All (λ (row : Row). row.0 < id) (map (row_of texts) rows) → map (row_of texts) (entry.put nat_cmp id values rows) ≡ map (row_of texts) rows ++ (id, map (text_of texts) values) ∷ []
  put-last id values rows below = ap (map (row_of texts)) (put-above id values rows (below-stored texts id rows below)) ∙ map-append (row_of texts) rows ((id, values) ∷ [])

  both_true : (a b : Bool) → T (a && b) → T a × T b
  both_true true b holds = (tt, holds)
  both_true false b holds = absurd holds

  less : (id other : ℕ) → T (is_lt (nat_cmp id other)) → id < other
  less id other holds = grind (arith, nat_tests)

  -- rows above an id are left as they are
  pub changed-above : (id : ℕ) (other : List (List ℕ)) (rows : List StoredRow) → T (entry.below_all nat_cmp id rows) → map (λ (row : Row). cond (has_id id row) (id, other) row) (map (row_of texts) rows) ≡ map (row_of texts) rows
  changed-above id other [] above = refl
  changed-above id other (row ∷ rows) above =
      let (first, rest) = both_true _ _ above in
      let over = less id row.0 first in
      let ih = changed-above id other rows rest in
      grind (arith, nat_tests, over, ih)

  -- a row below all others isn't there
  found_below : (id : ℕ) (rows : List StoredRow) → T (entry.below_all nat_cmp id rows) → entry.find nat_cmp id rows ≡ None
  found_below id [] below = refl
  found_below id (row ∷ rows) below =
      let (first, rest) = both_true _ _ below in
      let over = less id row.0 first in
      let ih = found_below id rows rest in
      grind (arith, nat_tests, over, ih)

  below_less : (id other : ℕ) (rows : List StoredRow) → id < other → T (entry.below_all nat_cmp other rows) → T (entry.below_all nat_cmp id rows)
  below_less id other [] under below = tt
  below_less id other (row ∷ rows) under below =
      let (first, rest) = both_true _ _ below in
      let over = less other row.0 first in
      let ih = below_less id other rows under rest in
      grind (arith, nat_tests, over, ih)

  -- other values in a row that is there
  pub put-there : (id : ℕ) (values : List ℕ) (rows : List StoredRow) → T (entry.is_sorted nat_cmp rows) → IsSome (entry.find nat_cmp id rows)
      → map (row_of texts) (entry.put nat_cmp id values rows) ≡ map (λ (row : Row). cond (has_id id row) (id, map (text_of texts) values) row) (map (row_of texts) rows)
  put-there id values [] sorted there = absurd (cc)
  put-there id values (row ∷ rows) sorted there =
      let (above, rest) = both_true _ _ sorted in
      elim (cases_eq row.0 id) [
        | inl same ↦
            let others = changed-above id (map (text_of texts) values) rows (subst (λ key. T (entry.below_all nat_cmp key rows)) same above) in
            grind (arith, nat_tests, same, others)
        | inr apart ↦ elim (cases_lt id row.0) [
          | inl before ↦
              let none = found_below id rows (below_less id row.0 rows before above) in
              absurd (grind (arith, nat_tests, there, apart, none))
          | inr after ↦
              let later : IsSome (entry.find nat_cmp id rows) = grind (arith, nat_tests, there, apart) in
              let ih = put-there id values rows rest later in
              grind (arith, nat_tests, apart, after, ih)
        ]
      ]

  -- a row that is taken away
  pub taken : (id : ℕ) (rows : List StoredRow) → map (row_of texts) (entry.where_key nat_cmp (λ key. not (eq_by_cmp nat_cmp id key)) rows) ≡ filter (λ (row : Row). not (has_id id row)) (map (row_of texts) rows)
  taken id [] = refl
  taken id (row ∷ rows) = let ih = taken id rows in elim (cases_eq row.0 id) [
    | inl same ↦ grind (arith, nat_tests, same, ih)
    | inr other ↦ grind (arith, nat_tests, other, ih)
  ]
