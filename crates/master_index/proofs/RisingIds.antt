-- Rising ids: what a search finds in them, and what putting one in and taking one out leaves.
use Rattle.std.proofs.Common.{◌≡◌, ◌≢◌, ℕ, zero, suc, ◌+◌, ◌-◌, ◌<◌, ◌≤◌, true, false, List, [], ◌∷◌, length, get_or, Result, Ok, Err, OnErr, refl, sym, inl, inr, arith}
use Rattle.std.specs.Prelude.{◌==◌, ◌||◌, ◌&&◌, not, insert, remove}
use Rattle.std.specs.Ordering.{nat_cmp}
use Rattle.std.specs.List.Sorted.{IsStrictlyIncreasing, IsBinarySearchResult}
use Rattle.std.proofs.lemmas.Bool.{cases_lt}
use Rattle.std.proofs.lemmas.Bool.Decides.{nat_tests}
use Rattle.std.proofs.lemmas.List.Edits.{length-insert, get_or-insert_below, get_or-insert_at, get_or-insert_above, length-remove, get_or-remove_below, get_or-remove_above}
use Rattle.std.proofs.lemmas.List.Sorted.{searched, list_any-IsPermutation, IsPermutation-insert, IsPermutation-remove}
use Rattle.std.proofs.lemmas.Map.Keys.{sorted_from_strictly_increasing, below_from_sorted}
use Rattle.master_index.specs.ColumnRows.{is_among}

-- an id at an earlier place is less
earlier_less : (xs : List ℕ) → IsStrictlyIncreasing xs → (i j : ℕ) → i < j → j < length xs → get_or xs i 0 < get_or xs j 0
earlier_less xs rising i j lt within = below_from_sorted xs i j 0 (sorted_from_strictly_increasing xs rising) lt within

never_falls : (xs : List ℕ) → IsStrictlyIncreasing xs → (i j : ℕ) → i ≤ j → j < length xs → get_or xs i 0 ≤ get_or xs j 0
never_falls xs rising i j le within = elim (cases_lt i j) [
  | inl lt ↦ omega (arith, earlier_less xs rising i j lt within)
  | inr ge ↦ let same : i ≡ j = omega arith in rw same (omega arith)
]

-- where the search found the id
pub found : (xs : List ℕ) (row i : ℕ) → IsStrictlyIncreasing xs → IsBinarySearchResult (λ y. nat_cmp y row) xs (Ok i) → (i < length xs) × (get_or xs i 0 ≡ row)
found xs row i rising is = searched xs row (Ok i) is (never_falls xs rising)

-- where it belongs, if it wasn't found
pub missed : (xs : List ℕ) (row i : ℕ) → IsStrictlyIncreasing xs → IsBinarySearchResult (λ y. nat_cmp y row) xs (Err i)
    → (i ≤ length xs) × ((k : ℕ) → k < i → get_or xs k 0 < row) × ((k : ℕ) → i ≤ k → k < length xs → row < get_or xs k 0)
missed xs row i rising is = searched xs row (Err i) is (never_falls xs rising)

there : (xs : List ℕ) (row i : ℕ) → i < length xs → get_or xs i 0 ≡ row → is_among row xs ≡ true
there [] row i within at = absurd (omega arith)
there (x ∷ xs) row zero within at = grind (arith, nat_tests)
there (x ∷ xs) row (suc i) within at = grind (arith, nat_tests, there xs row i (omega arith) at)

absent : (xs : List ℕ) (row : ℕ) → ((k : ℕ) → k < length xs → get_or xs k 0 ≢ row) → is_among row xs ≡ false
absent [] row none = refl
absent (x ∷ xs) row none = grind (arith, nat_tests, none zero (omega arith), absent xs row (λ k within. none (suc k) (omega arith)))

-- an id that is there already
pub put_twice : (xs : List ℕ) (row i : ℕ) → IsStrictlyIncreasing xs → IsBinarySearchResult (λ y. nat_cmp y row) xs (Ok i) → (other : ℕ) → is_among other xs ≡ (other == row || is_among other xs)
put_twice xs row i rising is other =
    let at = found xs row i rising is in
    let among = there xs row i at.0 at.1 in
    grind (arith, nat_tests, among)

pub put_among : (xs : List ℕ) (i row other : ℕ) → is_among other (insert xs i row) ≡ (other == row || is_among other xs)
put_among xs i row other = sym (list_any-IsPermutation (λ held. other == held) (row ∷ xs) (insert xs i row) (IsPermutation-insert xs i row))

pub put_rises : (xs : List ℕ) (row i : ℕ) → IsStrictlyIncreasing xs → IsBinarySearchResult (λ y. nat_cmp y row) xs (Err i) → IsStrictlyIncreasing (insert xs i row)
put_rises xs row i rising is k within =
    let at = missed xs row i rising is in
    let len = length-insert xs i row at.0 in
    elim (cases_lt (k + 1) i) [
      | inl before ↦ rw (get_or-insert_below xs i row 0 k (omega arith) at.0, get_or-insert_below xs i row 0 (k + 1) before at.0) (rising k (omega arith))
      | inr late ↦ elim (cases_lt k i) [
        | inl before ↦
            let here : k + 1 ≡ i = omega arith in
            rw (get_or-insert_below xs i row 0 k before at.0, here, get_or-insert_at xs i row 0 at.0) (at.1 k before)
        | inr behind ↦ elim (cases_lt i k) [
          | inl past ↦
              let back : (k - 1) + 1 ≡ k = omega arith in
              let low = get_or-insert_above xs i row 0 (k - 1) (omega arith) at.0 in
              let low_here = rw back at low in
              rw (low_here, get_or-insert_above xs i row 0 k behind at.0) (earlier_less xs rising (k - 1) k (omega arith) (omega arith))
          | inr same_or ↦
              let here : k ≡ i = omega arith in
              rw (get_or-insert_above xs i row 0 k behind at.0, here, get_or-insert_at xs i row 0 at.0) (at.2 i (omega arith) (omega arith))
        ]
      ]
    ]

-- an id that the search missed isn't there
pub missed_absent : (xs : List ℕ) (row i : ℕ) → IsStrictlyIncreasing xs → IsBinarySearchResult (λ y. nat_cmp y row) xs (Err i) → is_among row xs ≡ false
missed_absent xs row i rising is =
    let at = missed xs row i rising is in
    absent xs row (λ k within same. elim (cases_lt k i) [ inl before ↦ omega (arith, at.1 k before) | inr behind ↦ omega (arith, at.2 k behind within) ])

pub absent_answer : (xs : List ℕ) (row i : ℕ) → IsStrictlyIncreasing xs → IsBinarySearchResult (λ y. nat_cmp y row) xs (Err i)
    → {A E : Type 0} (answer : Result A E) → OnErr answer (is_among row xs ≡ false)
absent_answer xs row i rising is (Ok _) = tt
absent_answer xs row i rising is (Err _) = missed_absent xs row i rising is

pub take_none : (xs : List ℕ) (row i : ℕ) → IsStrictlyIncreasing xs → IsBinarySearchResult (λ y. nat_cmp y row) xs (Err i) → (other : ℕ) → is_among other xs ≡ (not (other == row) && is_among other xs)
take_none xs row i rising is other =
    let none = missed_absent xs row i rising is in
    grind (arith, nat_tests, none)

pub take_among : (xs : List ℕ) (row i : ℕ) → IsStrictlyIncreasing xs → IsBinarySearchResult (λ y. nat_cmp y row) xs (Ok i) → (other : ℕ) → is_among other (remove xs i) ≡ (not (other == row) && is_among other xs)
take_among xs row i rising is other =
    let at = found xs row i rising is in
    let gone = absent (remove xs i) row (λ k within same. elim (cases_lt k i) [
      | inl before ↦ omega (arith, get_or-remove_below xs i 0 k before at.0, earlier_less xs rising k i before at.0)
      | inr behind ↦ omega (arith, length-remove xs i at.0, get_or-remove_above xs i 0 k behind at.0, earlier_less xs rising i (k + 1) (omega arith) (omega (arith, length-remove xs i at.0)))
    ]) in
    let all = list_any-IsPermutation (λ held. other == held) xs (row ∷ remove xs i) (IsPermutation-remove xs i row at.0 (sym (get_or_here xs i row at.0 at.1))) in
    grind (arith, nat_tests, gone, all)
  where
    get_or_here : (ys : List ℕ) (j y : ℕ) → j < length ys → get_or ys j 0 ≡ y → get_or ys j y ≡ y
    get_or_here [] j y within h = absurd (omega arith)
    get_or_here (z ∷ ys) zero y within h = h
    get_or_here (z ∷ ys) (suc j) y within h = get_or_here ys j y (omega arith) h
