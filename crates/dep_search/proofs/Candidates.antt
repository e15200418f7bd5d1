-- Each member of what is found has its left side, its attribute and its row.
use Rattle.std.proofs.Common.{◌≡◌, ℕ, zero, suc, ◌<◌, Bool, true, false, cond, List, [], ◌∷◌, ◌++◌, length, None, Some, All, sym, subst, arith}
use Rattle.std.specs.Prelude.{nat_eq, nat_lt, slice_index_or}
use Rattle.std.specs.List.{list_all, list_any}
use Rattle.std.proofs.lemmas.List.Elements.{All-append, All-cons, All-nil}
use Rattle.dep_search.specs.Counting.{gathered}
use Rattle.dep_search.specs.Rows.{Row, row_at}
use Rattle.dep_search.specs.Found.{all_found, found_on, found_at, plain_at, constants_at, constant_at, is_plain, is_constant, side_at, longer, sides_of_size}
use Rattle.dep_search.specs.Keys.{IsCandidate}
use Rattle.dep_search.specs.declared.candidate.Candidate.{Candidate}

gathered_all : {A : Type 0} (P : A → Type 0) (f : ℕ → List A) (n : ℕ) → ((k : ℕ) → k < n → All P (f k)) → All P (gathered f n)
gathered_all P f zero each = All-nil P
gathered_all P f (suc n) each = All-append P (gathered f n) (f n) (gathered_all P f n (λ k l. each k (omega arith))) (each n (omega arith))

either_all : {A : Type 0} (P : A → Type 0) (b : Bool) (xs ys : List A) → All P xs → All P ys → All P (cond b xs ys)
either_all P true xs ys f g = f
either_all P false xs ys f g = g

-- what is so of the one plain candidate and of the constant ones is so of all that are found for X and A
at_all : (P : Candidate → Type 0) (rows : List Row) (support side : ℕ) (x : List ℕ) (a : ℕ) → P (record { a = a; side = side; row = None })
    → ((r : ℕ) → r < length rows → P (record { a = a; side = side; row = Some r })) → All P (found_at rows support side x a)
unfolding found_at plain_at constant_at
at_all P rows support side x a plain constant =
    either_all P (list_any (nat_eq a) x) [] (plain_at rows side x a ++ constants_at rows support side x a) (All-nil P)
    (All-append P (plain_at rows side x a) (constants_at rows support side x a)
    (either_all P (is_plain rows x a) (record { a = a; side = side; row = None } ∷ []) [] (All-cons P _ [] plain (All-nil P)) (All-nil P))
    (gathered_all P (constant_at rows support side x a) (length rows) (λ r rl.
    either_all P (is_constant rows support x a r) (record { a = a; side = side; row = Some r } ∷ []) [] (All-cons P _ [] (constant r rl) (All-nil P)) (All-nil P))))

found_all : (P : Candidate → Type 0) (rows : List Row) (support attrs : ℕ) (sides : List (List ℕ))
    → ((side a : ℕ) → side < length sides → a < attrs → P (record { a = a; side = side; row = None }))
    → ((side a r : ℕ) → side < length sides → a < attrs → r < length rows → P (record { a = a; side = side; row = Some r }))
    → All P (all_found rows support attrs sides)
unfolding all_found found_on
found_all P rows support attrs sides plain constant =
    gathered_all P (λ side. found_on rows support attrs side (side_at sides side)) (length sides) (λ side sl.
    gathered_all P (found_at rows support side (side_at sides side)) attrs (λ a al.
    at_all P rows support side (side_at sides side) a (plain side a sl al) (λ r rl. constant side a r sl al rl)))

pub found_attrs : (rows : List Row) (support attrs : ℕ) (sides : List (List ℕ)) → All (λ (c : Candidate). c.a < attrs) (all_found rows support attrs sides)
found_attrs rows support attrs sides = found_all (λ (c : Candidate). c.a < attrs) rows support attrs sides (λ side a sl al. al) (λ side a r sl al rl. al)

pub found_candidates : (rows : List Row) (support attrs : ℕ) (sides : List (List ℕ)) → All (λ (row : Row). length row ≡ attrs) rows
    → All (λ (side : List ℕ). All (λ attr. attr < attrs) side) sides → All (IsCandidate rows sides) (all_found rows support attrs sides)
found_candidates rows support attrs sides long within = found_all (IsCandidate rows sides) rows support attrs sides
    (λ side a sl al. record { side = sl; row = λ r e. absurd (none_some e); x = λ r e. absurd (none_some e); a = λ r e. absurd (none_some e) })
    (λ side a r sl al rl. record {
      side = sl;
      row = λ s e. omega (arith, some_same e, rl);
      x = λ s e.
          let wide : length (row_at rows s) ≡ attrs = long s [] (omega (arith, some_same e, rl)) in
          λ k d kl. omega (arith, wide, within side [] sl k d kl);
      a = λ s e.
          let wide : length (row_at rows s) ≡ attrs = long s [] (omega (arith, some_same e, rl)) in
          omega (arith, wide, al);
    })
  where
    some_same : {r s : ℕ} → Some r ≡ Some s → r ≡ s
    some_same e = cc

    none_some : {r : ℕ} → None ≡ Some r → ⊥
    none_some e = cc

-- left sides have only attributes of the table
abbrev Within : ℕ → List ℕ → Type 0
Within attrs side = All (λ attr. attr < attrs) side

longer_within : (attrs : ℕ) (x : List ℕ) → Within attrs x → All (Within attrs) (longer attrs x)
unfolding longer
longer_within attrs x within =
    gathered_all (Within attrs) (λ attr. cond (list_all (λ before. nat_lt before attr) x) ((x ++ attr ∷ []) ∷ []) []) attrs (λ attr al.
    either_all (Within attrs) (list_all (λ before. nat_lt before attr) x) ((x ++ attr ∷ []) ∷ []) []
    (All-cons (Within attrs) (x ++ attr ∷ []) []
    (All-append (λ (a : ℕ). a < attrs) x (attr ∷ []) within (All-cons (λ (a : ℕ). a < attrs) attr [] al (All-nil (λ (a : ℕ). a < attrs))))
    (All-nil (Within attrs)))
    (All-nil (Within attrs)))

sides_of_size_within : (attrs size : ℕ) → All (Within attrs) (sides_of_size attrs size)
sides_of_size_within attrs zero = All-cons (Within attrs) [] [] (All-nil (λ (a : ℕ). a < attrs)) (All-nil (Within attrs))
sides_of_size_within attrs (suc size) =
    gathered_all (Within attrs) (λ n. longer attrs (slice_index_or (sides_of_size attrs size) n [])) (length (sides_of_size attrs size)) (λ n nl.
    longer_within attrs (slice_index_or (sides_of_size attrs size) n []) (sides_of_size_within attrs size n [] nl))

pub sides_within : (attrs n : ℕ) (sides : List (List ℕ)) → sides ≡ gathered (sides_of_size attrs) n
    → All (λ (side : List ℕ). All (λ attr. attr < attrs) side) sides
sides_within attrs n sides e =
    subst (All (Within attrs)) (sym e) (gathered_all (Within attrs) (sides_of_size attrs) n (λ size l. sides_of_size_within attrs size))
