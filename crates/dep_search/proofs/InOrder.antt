-- Sorted keys are candidates in order.
use Rattle.std.proofs.Common.{◌≡◌, ℕ, zero, suc, ◌+◌, ◌<◌, false, List, [], ◌∷◌, map, length, Option, None, Some, get_or, refl, sym, ap, subst, ◌∙◌, arith}
use Rattle.std.specs.Prelude.{IsPermutation, IsSorted, All}
use Rattle.std.specs.Option.{option_map, option_cmp}
use Rattle.std.specs.Ordering.{is_lt, ordering_then, nat_cmp}
use Rattle.std.specs.declared.cmp.Ordering.{Ordering}
use Rattle.std.specs.declared.cmp.Ordering.TheVariants.{Less, Equal, Greater}
use Rattle.std.specs.Cmp.Lexicographic.{slice_cmp}
use Rattle.std.proofs.lemmas.List.Sorted.{IsPermutation-map, All-permutation}
use Rattle.dep_search.specs.Rows.{Row}
use Rattle.dep_search.specs.Found.{IsInOrder, constants, order}
use Rattle.dep_search.specs.declared.candidate.Candidate.{Candidate}
use Rattle.dep_search.specs.Keys.{IsKey, Kept, Key, candidate_of, kept_texts}

-- the order of keys
abbrev kept_cmp : Kept → Kept → Ordering
kept_cmp x y = slice_cmp (λ s t. slice_cmp nat_cmp s.items t.items) x.items y.items

abbrev pub key_cmp : Key → Key → Ordering
key_cmp x y =
    ordering_then (ordering_then (ordering_then (nat_cmp x.0 y.0) (nat_cmp x.1 y.1)) (option_cmp kept_cmp x.2 y.2)) (option_cmp nat_cmp x.3 y.3)

-- comparing lists through a view is comparing what is seen
slice_cmp_map : {A B : Type 0} (R : B → B → Ordering) (f : A → B) (xs ys : List A) → slice_cmp (λ x y. R (f x) (f y)) xs ys ≡ slice_cmp R (map f xs) (map f ys)
slice_cmp_map R f [] [] = refl
slice_cmp_map R f [] (y ∷ ys) = refl
slice_cmp_map R f (x ∷ xs) [] = refl
slice_cmp_map R f (x ∷ xs) (y ∷ ys) = ap (ordering_then (R (f x) (f y))) (slice_cmp_map R f xs ys)

kept_as_texts : (x y : Option Kept) → option_cmp kept_cmp x y ≡ option_cmp (slice_cmp (slice_cmp nat_cmp)) (option_map kept_texts x) (option_map kept_texts y)
kept_as_texts None None = refl
kept_as_texts None (Some y) = refl
kept_as_texts (Some x) None = refl
kept_as_texts (Some x) (Some y) = slice_cmp_map (slice_cmp nat_cmp) (λ text. text.items) x.items y.items

-- what isn't less with a last test isn't less without it
not_less : (o last : Ordering) → is_lt (ordering_then o last) ≡ false → is_lt o ≡ false
not_less Less last e = e
not_less Equal last e = refl
not_less Greater last e = refl

keys_order : (rows : List Row) (sides : List (List ℕ)) (x y : Key) → IsKey rows sides x → IsKey rows sides y
    → is_lt (key_cmp x y) ≡ false → is_lt (order rows sides (candidate_of x) (candidate_of y)) ≡ false
keys_order rows sides x y kx ky e =
    let same : option_cmp kept_cmp x.2 y.2 ≡ option_cmp (slice_cmp (slice_cmp nat_cmp)) (constants rows sides (candidate_of x)) (constants rows sides (candidate_of y)) =
    kept_as_texts x.2 y.2 ∙ (λ i. option_cmp (slice_cmp (slice_cmp nat_cmp)) (kx i) (ky i)) in
    ap (λ o. is_lt (ordering_then (ordering_then (nat_cmp x.0 y.0) (nat_cmp x.1 y.1)) o)) (sym same)
    ∙ not_less (ordering_then (ordering_then (nat_cmp x.0 y.0) (nat_cmp x.1 y.1)) (option_cmp kept_cmp x.2 y.2)) (option_cmp nat_cmp x.3 y.3) e

pub in_order : (rows : List Row) (sides : List (List ℕ)) (found : List Candidate) (keys later : List Key)
    → map candidate_of keys ≡ found → All (IsKey rows sides) keys → IsPermutation keys later → IsSorted key_cmp later
    → IsInOrder rows sides found (map candidate_of later)
in_order rows sides found keys later same each moved sorted = record {
  all = subst (λ l. IsPermutation l (map candidate_of later)) same (IsPermutation-map candidate_of keys later moved);
  sorted = by_places later (All-permutation (IsKey rows sides) keys later moved each) sorted;
}
  where
    read : (xs : List Key) (k : ℕ) (d : Candidate) (e : Key) → k < length xs → get_or (map candidate_of xs) k d ≡ candidate_of (get_or xs k e)
    read [] k d e l = absurd (omega arith)
    read (x ∷ xs) zero d e l = refl
    read (x ∷ xs) (suc k) d e l = read xs k d e (omega arith)

    long : (xs : List Key) → length (map candidate_of xs) ≡ length xs
    long [] = refl
    long (x ∷ xs) = ap suc (long xs)

    by_places : (later : List Key) → All (IsKey rows sides) later → IsSorted key_cmp later → IsSorted (order rows sides) (map candidate_of later)
    by_places [] all sorted = λ k d low high. absurd (omega arith)
    by_places (key ∷ rest) all sorted = λ k d low high.
        let inside : k + 1 < length (key ∷ rest) = omega (arith, long (key ∷ rest)) in
        let next = read (key ∷ rest) (k + 1) d key inside in
        let here = read (key ∷ rest) k d key (omega arith) in
        (λ i. is_lt (order rows sides (next i) (here i)))
        ∙ keys_order rows sides (get_or (key ∷ rest) (k + 1) key) (get_or (key ∷ rest) k key) (all (k + 1) key inside) (all k key (omega arith)) (sorted k key low inside)
