-- The pairs of a group, in an ordered set and by themselves.
use Rattle.std.proofs.Common.{◌≡◌, ℕ, ◌<◌, ◌≤◌, Bool, true, false, cond, not, ◌&&◌, ◌||◌, List, [], ◌∷◌, length, slice_get, Option, Some, None, IfSome, refl, sym, ap, ◌∙◌, subst, inl, inr, arith}
use Rattle.std.specs.Prelude.{Contains, MatchOption, option_copied}
use Rattle.std.specs.Borrow.{Bor}
use Rattle.std.specs.Bool.{OnFalse}
use Rattle.std.specs.declared.cmp.Ordering.{Ordering}
use Rattle.std.specs.declared.cmp.Ordering.TheVariants.{Less}
use Rattle.std.specs.declared.ops.Bound.TheVariants.{Excluded, Unbounded}
use Rattle.std.specs.List.{list_any}
use Rattle.std.specs.Ordering.{nat_cmp, ordering_then, is_gt}
use Rattle.std.specs.BTreeSet.{BTreeSet, contains, IsKeyInRange, IsKeyRangeOf}
use Rattle.std.specs.BTreeMap.{is_at}
use Rattle.std.proofs.lemmas.Bool.{cases_lt}
use Rattle.std.proofs.lemmas.Bool.Decides.{nat_tests}
use Rattle.cfd_semantics.proofs.Members.{contains-here, contains-there}
use Rattle.cfd_semantics.proofs.InclusionLaw.{found_by_any, any_from_found}
use Rattle.group_index.specs.Pairs.{Pair, is_pair, has_pair, IsPut, IsTaken, IsAlone, ComesBefore, IsNextHead}

-- the order of the set
abbrev pub pair_cmp : Pair → Pair → Ordering
pair_cmp p q = ordering_then (nat_cmp p.0 q.0) (nat_cmp p.1 q.1)

pub tied : (p q : Pair) → is_at (pair_cmp p) q ≡ is_pair p q
tied p q = grind (arith, nat_tests)

pub any_same : {X : Type 0} (f g : X → Bool) → ((x : X) → f x ≡ g x) → (xs : List X) → list_any f xs ≡ list_any g xs
any_same f g same [] = refl
any_same f g same (x ∷ xs) = ap (λ b. b || list_any f xs) (same x) ∙ ap (λ b. g x || b) (any_same f g same xs)

pub set_has : (s : BTreeSet Pair) (p : Pair) → contains pair_cmp s p ≡ has_pair s.keys p
set_has s p = any_same (is_at (pair_cmp p)) (is_pair p) (tied p) s.keys

pub is_pair_flip : (p q : Pair) → is_pair p q ≡ is_pair q p
is_pair_flip p q = grind (arith, nat_tests)

pub put_from_insert : (s n : BTreeSet Pair) (p : Pair) → ((q : Pair) → contains pair_cmp n q ≡ cond (is_at (pair_cmp p) q) true (contains pair_cmp s q)) → IsPut s.keys n.keys p
put_from_insert s n p updates q =
    sym (set_has n q) ∙ updates q ∙ ap (λ b. cond b true (contains pair_cmp s q)) (tied p q ∙ is_pair_flip p q) ∙ ap (λ b. cond (is_pair q p) true b) (set_has s q) ∙ or (is_pair q p) (has_pair s.keys q)
  where
    or : (b c : Bool) → cond b true c ≡ (b || c)
    or true c = refl
    or false c = refl

pub taken_from_remove : (s n : BTreeSet Pair) (p : Pair) → ((q : Pair) → contains pair_cmp n q ≡ cond (is_at (pair_cmp p) q) false (contains pair_cmp s q)) → IsTaken s.keys n.keys p
taken_from_remove s n p updates q =
    sym (set_has n q) ∙ updates q ∙ ap (λ b. cond b false (contains pair_cmp s q)) (tied p q ∙ is_pair_flip p q) ∙ ap (λ b. cond (is_pair q p) false b) (set_has s q) ∙ and (is_pair q p) (has_pair s.keys q)
  where
    and : (b c : Bool) → cond b false c ≡ (not b && c)
    and true c = refl
    and false c = refl

-- nothing is left
pub alone_from_remove : (old new : List Pair) (p : Pair) → IsTaken old new p → has_pair old p ≡ true → new ≡ [] → IsAlone old p
alone_from_remove old new p taken there none q = by (is_pair q p) refl (has_pair old q) refl
  where
    by : (b : Bool) → is_pair q p ≡ b → (c : Bool) → has_pair old q ≡ c → has_pair old q ≡ is_pair q p
    by true is true has = has ∙ sym is
    by false isnt false hasnt = hasnt ∙ sym isnt
    by true is false hasnt =
        let same : ◌≡◌ {A = Pair} q p = let one : q.0 ≡ p.0 = grind (arith, nat_tests, is) in let other : q.1 ≡ p.1 = grind (arith, nat_tests, is) in λ i. (one i, other i) in
        let has : has_pair old q ≡ true = ap (has_pair old) same ∙ there in
        absurd (cc)
    by false isnt true has =
        let left : has_pair new q ≡ true = rw (taken q, isnt, has) refl in
        let nothing : has_pair new q ≡ false = ap (λ ks. has_pair ks q) none in
        absurd (cc)

-- one is left
pub one_left : (old new : List Pair) (p only : Pair) → IsTaken old new p → new ≡ only ∷ [] → IsTaken old (only ∷ []) p
one_left old new p only taken is = subst (λ (ps : List Pair). IsTaken old ps p) is taken

pub no_pairs : (pairs : List Pair) → length pairs ≡ 0 → pairs ≡ []
no_pairs [] none = refl
no_pairs (p ∷ ps) none = absurd (omega arith)

-- a fact that holds, where a test fails
pub taken_when : (b : Bool) (P : Type 0) → P → OnFalse b P
taken_when true P it = tt
taken_when false P it = it

-- ---- members

pub has_from : (pairs : List Pair) (p : Pair) → Contains pairs p → has_pair pairs p ≡ true
has_from pairs p inside = any_from_found (is_pair p) pairs p inside (grind (arith, nat_tests))

pub same_pair : (p q : Pair) → is_pair p q ≡ true → q ≡ p
same_pair p q is = let one : q.0 ≡ p.0 = grind (arith, nat_tests, is) in let other : q.1 ≡ p.1 = grind (arith, nat_tests, is) in λ i. (one i, other i)

pub member_from : (pairs : List Pair) (p : Pair) → has_pair pairs p ≡ true → Contains pairs p
member_from pairs p has =
    let found = found_by_any (is_pair p) pairs has in
    subst (Contains pairs) (same_pair p found.0 found.2) found.1

-- ---- the next A id

above : (low most : ℕ) (q : Pair) → low < q.0 → pair_cmp (low, most) q ≡ Less
above low most q h = grind (arith, nat_tests)

really_above : (low most : ℕ) (p : Pair) → pair_cmp (low, most) p ≡ Less → p.1 ≤ most → low < p.0
really_above low most p less fits = elim (cases_lt low p.0) [
  | inl h ↦ h
  | inr past ↦ absurd (grind (arith, nat_tests))
]

before : (p q : Pair) → is_gt (pair_cmp p q) ≡ false → ComesBefore p q
before p q not_after = elim (cases_lt p.0 q.0) [
  | inl h ↦ inl h
  | inr past ↦ elim (cases_lt q.0 p.0) [
    | inl h ↦ absurd (grind (arith, nat_tests))
    | inr level ↦ inr (omega arith, grind (arith, nat_tests))
  ]
]

pub none_above : (s : BTreeSet Pair) (low most : ℕ) (found : List Pair) → IsKeyRangeOf pair_cmp (Excluded (low, most)) Unbounded s found → found ≡ [] → IsNextHead s.keys (Some low) None
none_above s low most found are none q inside after =
    let isnt = are.5 none q (above low most q after, tt) in
    let is : contains pair_cmp s q ≡ true = set_has s q ∙ has_from s.keys q inside in
    absurd (cc)

pub first_above : (s : BTreeSet Pair) (low most : ℕ) (found rest : List Pair) (p : Pair) → IsKeyRangeOf pair_cmp (Excluded (low, most)) Unbounded s found → found ≡ p ∷ rest → p.1 ≤ most → IsNextHead s.keys (Some low) (Some p)
first_above s low most found rest p are is fits =
    let own : IsKeyInRange pair_cmp (Excluded (low, most)) Unbounded s p = subst (λ r. IfSome (slice_get r 0) (IsKeyInRange pair_cmp (Excluded (low, most)) Unbounded s)) is are.1 in (
      member_from s.keys p (sym (set_has s p) ∙ own.1),
      really_above low most p own.0.0 fits,
      λ q inside after. before p q (subst (λ r. IfSome (slice_get r 0) (λ k. is_gt (pair_cmp k q) ≡ false)) is (are.2 q (above low most q after, tt) (set_has s q ∙ has_from s.keys q inside))),
    )

-- ---- a test that no member passes

pub none_pass : {X : Type 0} (p : X → Bool) (xs : List X) → ((x : X) → Contains xs x → p x ≡ false) → list_any p xs ≡ false
none_pass p [] none = refl
none_pass p (x ∷ xs) none = rw (none x (contains-here x xs)) (none_pass p xs (λ y inside. none y (contains-there y x xs inside)))

-- the same of what a walk over the range gives first
pub none_above_next : (s : BTreeSet Pair) (low most : ℕ) (found rest : List Pair) (first : Option (Bor Pair)) → IsKeyRangeOf pair_cmp (Excluded (low, most)) Unbounded s found
    → MatchOption first ((found ≡ []) × (rest ≡ [])) (λ p. found ≡ p.now ∷ rest) → option_copied first ≡ None → IsNextHead s.keys (Some low) None
none_above_next s low most found rest None are steps none = none_above s low most found are steps.0
none_above_next s low most found rest (Some p) are steps none = absurd (cc)

pub first_above_next : (s : BTreeSet Pair) (low most : ℕ) (found rest : List Pair) (first : Option (Bor Pair)) (p : Pair) → IsKeyRangeOf pair_cmp (Excluded (low, most)) Unbounded s found
    → MatchOption first ((found ≡ []) × (rest ≡ [])) (λ p. found ≡ p.now ∷ rest) → option_copied first ≡ Some p → p.1 ≤ most → IsNextHead s.keys (Some low) (Some p)
first_above_next s low most found rest None p are steps some fits = absurd (cc)
first_above_next s low most found rest (Some b) p are steps some fits = let same : b.now ≡ p = cc in first_above s low most found rest p are (steps ∙ ap (λ q. q ∷ rest) same) fits
