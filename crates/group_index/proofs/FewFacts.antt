-- A few pairs in a list, as one comes, goes, or is the next one.
use Rattle.std.proofs.Common.{◌≡◌, ◌≢◌, ℕ, Bool, true, false, cond, not, ◌||◌, List, [], ◌∷◌, ◌++◌, Option, Some, refl, sym, ap, ◌∙◌, inl, inr, arith}
use Rattle.std.specs.Prelude.{filter, AllPairs}
use Rattle.std.specs.List.{list_any}
use Rattle.std.specs.BTreeSet.{BTreeSet, contains, InsertsAll}
use Rattle.std.specs.BTreeMap.{is_at}
use Rattle.std.proofs.lemmas.Bool.Decides.{nat_tests}
use Rattle.std.proofs.lemmas.List.Elements.{Contains-push, Contains-push_cases}
use Rattle.std.proofs.lemmas.List.Folds.{list_any_at}
use Rattle.std.proofs.lemmas.List.Quantifiers.{all_pairs_push}
use Rattle.std.proofs.lemmas.Map.Views.{any-filter_same}
use Rattle.group_index.specs.Pairs.{Pair, is_pair, has_pair, IsPut, IsTaken, IsAfter, ComesBefore, IsNextHead}
use Rattle.group_index.proofs.PairFacts.{pair_cmp, tied, any_same, set_has, put_from_insert}

-- one that wasn't there comes
pub once_more : (pairs : List Pair) (p : Pair) → AllPairs (λ q r. q ≢ r) pairs → has_pair pairs p ≡ false → AllPairs (λ q r. q ≢ r) (pairs ++ p ∷ [])
once_more pairs p once absent =
    all_pairs_push (λ q r. q ≢ r) pairs p once
    (λ k d within same. let here : has_pair pairs p ≡ true = list_any_at (is_pair p) pairs k d within (ap (is_pair p) same ∙ itself p) in absurd (cc))
  where
    itself : (q : Pair) → is_pair q q ≡ true
    itself q = grind (arith, nat_tests)

-- all but one stay
pub taken_by_filter : (pairs : List Pair) (p : Pair) → IsTaken pairs (filter (λ q. not (is_pair q p)) pairs) p
taken_by_filter pairs p q = any-filter_same (is_pair q) (λ r. not (is_pair r p)) (not (is_pair q p)) (λ r is. alike q r is) pairs
  where
    alike : (q r : Pair) → is_pair q r ≡ true → not (is_pair r p) ≡ not (is_pair q p)
    alike q r is = grind (arith, nat_tests, is)

-- the pair is the next head, where it isn't behind the one that was
pub comes_next : (pairs : List Pair) (after : Option ℕ) (least p : Pair) → IsNextHead pairs after (Some least) → IsAfter after p.0 → ComesBefore p least → IsNextHead (pairs ++ p ∷ []) after (Some p)
comes_next pairs after least p next above before = (
  Contains-push pairs p,
  above,
  λ q inside is_after. elim (Contains-push_cases pairs p q inside) [
    | inl was ↦ behind p least q before (next.2 q was is_after)
    | inr is ↦ inr (ap (λ r. r.0) is, omega (arith, ap (λ r. r.1) is))
  ],
)
  where
    behind : (a b c : Pair) → ComesBefore a b → ComesBefore b c → ComesBefore a c
    behind a b c (inl one) (inl two) = inl (omega (arith, one, two))
    behind a b c (inl one) (inr two) = inl (omega (arith, one, two.0))
    behind a b c (inr one) (inl two) = inl (omega (arith, one.0, two))
    behind a b c (inr one) (inr two) = inr (one.0 ∙ two.0, omega (arith, one.1, two.1))

-- one comes into an ordered set that is empty, and then all of a list
pub all_put : (empty one all : BTreeSet Pair) (p : Pair) (pairs : List Pair) → empty.keys ≡ [] → ((q : Pair) → contains pair_cmp one q ≡ cond (is_at (pair_cmp p) q) true (contains pair_cmp empty q)) → InsertsAll pair_cmp one pairs all
    → IsPut pairs all.keys p
all_put empty one all p pairs none put inserts q =
    sym (set_has all q)
    ∙ inserts.0 q
    ∙ ap (λ b. b || list_any (is_at (pair_cmp q)) pairs) (set_has one q ∙ put_from_insert empty one p put q ∙ ap (λ ks. is_pair q p || has_pair ks q) none)
    ∙ ap (λ b. (is_pair q p || false) || b) (any_same (is_at (pair_cmp q)) (is_pair q) (tied q) pairs)
    ∙ flat (is_pair q p)
  where
    flat : (b : Bool) → ((b || false) || has_pair pairs q) ≡ (b || has_pair pairs q)
    flat true = refl
    flat false = refl
