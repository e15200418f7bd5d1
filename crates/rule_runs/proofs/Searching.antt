-- What a binary search says of rising numbers.
use Rattle.std.proofs.Common.{◌≡◌, ℕ, ◌<◌, ◌≤◌, List, length, get_or, Result, Ok, Err, refl, sym, ◌∙◌, subst, ⊎_elim, ◌↔◌, arith}
use Rattle.std.specs.Prelude.{IsTrue, Contains}
use Rattle.std.specs.Ordering.{nat_cmp}
use Rattle.std.specs.Result.{is_ok}
use Rattle.std.specs.List.Sorted.{IsStrictlyIncreasing, IsBinarySearchResult}
use Rattle.std.proofs.lemmas.Bool.{cases_lt, false≢true}
use Rattle.std.proofs.lemmas.Grind.{get_or_default_zero}
use Rattle.std.proofs.lemmas.List.Sorted.{searched}
use Rattle.std.proofs.lemmas.Map.Keys.{below_from_sorted, sorted_from_strictly_increasing}

never_falls : (xs : List ℕ) → IsStrictlyIncreasing xs → (i j : ℕ) → i ≤ j → j < length xs → get_or xs i 0 ≤ get_or xs j 0
never_falls xs rising i j le within =
    ⊎_elim
    (λ lt. let less = below_from_sorted xs i j 0 (sorted_from_strictly_increasing xs rising) lt within in omega arith)
    (λ ge. let e : i ≡ j = omega arith in subst (λ k. get_or xs i 0 ≤ get_or xs k 0) e (omega arith))
    (cases_lt i j)

-- it finds exactly the numbers that are there
pub search_finds : (xs : List ℕ) (x : ℕ) (r : Result ℕ ℕ) → IsStrictlyIncreasing xs → IsBinarySearchResult (λ y. nat_cmp y x) xs r → IsTrue (is_ok r) ↔ Contains xs x
search_finds xs x (Ok i) rising answer =
    let (within, is) = searched xs x (Ok i) answer (never_falls xs rising) in
    (λ _. (i, within, get_or_default_zero xs i x within ∙ is), λ _. refl)
search_finds xs x (Err i) rising answer =
    let (within, below, above) = searched xs x (Err i) answer (never_falls xs rising) in (
      λ no. absurd (false≢true no),
      λ (k, in_range, is).
          let here = sym (get_or_default_zero xs k x in_range) ∙ is in
          absurd (⊎_elim (λ lt. let b = below k lt in omega arith) (λ ge. let a = above k ge in_range in omega arith) (cases_lt k i)),
    )
