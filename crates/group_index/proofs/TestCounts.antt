-- How many items of a list pass a test.
use Rattle.std.proofs.Common.{◌≡◌, ℕ, ◌+◌, Bool, true, false, cond, not, ◌&&◌, List, [], ◌∷◌, length, Option, Some, None, refl, sym, ap, ◌∙◌, arith}
use Rattle.std.specs.Prelude.{nat_eq, nat_lt, count_by, filter, filter_map, is_some, Contains}
use Rattle.std.specs.List.{cons_option}
use Rattle.std.specs.declared.ops.Bound.TheVariants.{Excluded, Unbounded}
use Rattle.std.specs.BTreeMap.Range.{range_contains}
use Rattle.std.proofs.lemmas.Bool.Decides.{nat_tests}
use Rattle.std.proofs.lemmas.List.Sums.{sum_by-cons, length-filter}
use Rattle.cfd_semantics.proofs.Members.{contains-here, contains-there}
use Rattle.group_index.specs.Pairs.{Pair}
use Rattle.group_index.proofs.PairFacts.{pair_cmp}

abbrev one_if : Bool → ℕ
one_if b = cond b 1 0

counted-cons : {X : Type 0} (test : X → Bool) (x : X) (xs : List X) → count_by test (x ∷ xs) ≡ one_if (test x) + count_by test xs
counted-cons test x xs = sum_by-cons (λ y. cond (test y) 1 0) x xs

-- two tests that say the same of each member
pub counted_same : {X : Type 0} (one other : X → Bool) (xs : List X) → ((x : X) → Contains xs x → one x ≡ other x) → count_by one xs ≡ count_by other xs
counted_same one other [] same = refl
counted_same one other (x ∷ xs) same =
    counted-cons one x xs
    ∙ ap (λ b. one_if b + count_by one xs) (same x (contains-here x xs))
    ∙ ap (λ n. one_if (other x) + n) (counted_same one other xs (λ y later. same y (contains-there y x xs later)))
    ∙ sym (counted-cons other x xs)

pub counted_all : {X : Type 0} (xs : List X) → count_by (λ x. true) xs ≡ length xs
counted_all [] = refl
counted_all (x ∷ xs) = let first = counted-cons (λ y. true) x xs in let rest = counted_all xs in omega (arith, first, rest)

pub counted_none : {X : Type 0} (xs : List X) → count_by (λ x. false) xs ≡ 0
counted_none [] = refl
counted_none (x ∷ xs) = let first = counted-cons (λ y. false) x xs in let rest = counted_none xs in omega (arith, first, rest)

-- those that don't pass a test, and those that do
pub counted_sides : {X : Type 0} (test : X → Bool) (xs : List X) → count_by (λ x. not (test x)) xs + count_by test xs ≡ length xs
counted_sides test [] = refl
counted_sides test (x ∷ xs) =
    let out = counted-cons (λ y. not (test y)) x xs in
    let is = counted-cons test x xs in
    let rest = counted_sides test xs in
    let one = either (test x) in
    omega (arith, out, is, rest, one)
  where
    either : (b : Bool) → one_if (not b) + one_if b ≡ 1
    either true = refl
    either false = refl

-- what is given of the items is as long as there are items that give something
pub length-given : {X Y : Type 0} (h : X → Option Y) (xs : List X) → length (filter_map h xs) ≡ count_by (λ x. is_some (h x)) xs
length-given h [] = refl
length-given h (x ∷ xs) = of (h x) (filter_map h xs) ∙ ap (λ n. one_if (is_some (h x)) + n) (length-given h xs) ∙ sym (counted-cons (λ y. is_some (h y)) x xs)
  where
    of : {Y : Type 0} (o : Option Y) (ys : List Y) → length (cons_option o ys) ≡ one_if (is_some o) + length ys
    of None ys = omega arith
    of (Some y) ys = omega arith

-- those that pass both tests, the first one first
counted_both : {X : Type 0} (one other : X → Bool) (xs : List X) → count_by other (filter one xs) ≡ count_by (λ x. one x && other x) xs
counted_both one other [] = refl
counted_both one other (x ∷ xs) = by (one x) (counted_both one other xs) ∙ sym (counted-cons (λ y. one y && other y) x xs)
  where
    by : (b : Bool) → count_by other (filter one xs) ≡ count_by (λ y. one y && other y) xs → count_by other (cond b (x ∷ filter one xs) (filter one xs)) ≡ one_if (b && other x) + count_by (λ y. one y && other y) xs
    by true rest = counted-cons other x (filter one xs) ∙ ap (λ n. one_if (other x) + n) rest
    by false rest = omega (arith, rest)

-- ---- pairs by their A ids

-- those with a lower and those with a higher A id are those with another one
pub lower_and_higher : (a : ℕ) (pairs : List Pair) → count_by (λ p. nat_lt p.0 a) pairs + count_by (λ p. nat_lt a p.0) pairs ≡ count_by (λ p. not (nat_eq a p.0)) pairs
lower_and_higher a [] = refl
lower_and_higher a (p ∷ ps) =
    let low = counted-cons (λ (q : Pair). nat_lt q.0 a) p ps in
    let high = counted-cons (λ (q : Pair). nat_lt a q.0) p ps in
    let other = counted-cons (λ (q : Pair). not (nat_eq a q.0)) p ps in
    let rest = lower_and_higher a ps in
    let one = either p.0 in
    omega (arith, low, high, other, rest, one)
  where
    either : (b : ℕ) → one_if (nat_lt b a) + one_if (nat_lt a b) ≡ one_if (not (nat_eq a b))
    either b = grind (arith, nat_tests)

-- the pairs of a range below the A id
pub counted_below : (a : ℕ) (pairs : List Pair) → length (filter (range_contains pair_cmp Unbounded (Excluded (a, 0))) pairs) ≡ count_by (λ p. nat_lt p.0 a) pairs
counted_below a pairs =
    length-filter (range_contains pair_cmp Unbounded (Excluded (a, 0))) pairs ∙ counted_same (range_contains pair_cmp Unbounded (Excluded (a, 0))) (λ p. nat_lt p.0 a) pairs (λ p inside. below p)
  where
    below : (p : Pair) → range_contains pair_cmp Unbounded (Excluded (a, 0)) p ≡ nat_lt p.0 a
    below p = grind (arith, nat_tests)

-- the pairs of a range from the A id on, but for its own
pub counted_above : (a most : ℕ) (pairs : List Pair) → length (filter (λ p. not (nat_eq p.0 a)) (filter (range_contains pair_cmp (Excluded (a, most)) Unbounded) pairs)) ≡ count_by (λ p. nat_lt a p.0) pairs
counted_above a most pairs =
    length-filter (λ (p : Pair). not (nat_eq p.0 a)) (filter (range_contains pair_cmp (Excluded (a, most)) Unbounded) pairs)
    ∙ counted_both (range_contains pair_cmp (Excluded (a, most)) Unbounded) (λ p. not (nat_eq p.0 a)) pairs
    ∙ counted_same (λ p. range_contains pair_cmp (Excluded (a, most)) Unbounded p && not (nat_eq p.0 a)) (λ p. nat_lt a p.0) pairs (λ p inside. above p)
  where
    above : (p : Pair) → (range_contains pair_cmp (Excluded (a, most)) Unbounded p && not (nat_eq p.0 a)) ≡ nat_lt a p.0
    above p = grind (arith, nat_tests)
