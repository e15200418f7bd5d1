-- What passes a test has a part that passes it, no part of which does.
use Rattle.std.proofs.Common.{◌≡◌, ℕ, zero, suc, ◌<◌, ◌≤◌, Bool, true, false, ◌&&◌, List, [], ◌∷◌, filter, length, refl, sym, ap, subst, ◌∙◌, arith, ⊎_elim}
use Rattle.std.specs.List.{Contains, list_any}
use Rattle.std.proofs.lemmas.Bool.{cases_Bool, or_cases, true≢false}
use Rattle.std.proofs.lemmas.List.Kept.{AllPairs-filter}
use Rattle.cfd_semantics.proofs.Members.{contains-here, contains-there}
use Rattle.dep_search.specs.Found.{proper_parts}
use Rattle.dep_finder.proofs.KeptParts.{IsKept, IsRising, filter_filter, filter_less, part_is_kept}

-- one that passes
pub any_found : (p : List ℕ → Bool) (xs : List (List ℕ)) → list_any p xs ≡ true → (x : List ℕ) × Contains xs x × (p x ≡ true)
any_found p [] e = absurd (true≢false (sym e))
any_found p (x ∷ xs) e =
    ⊎_elim (λ (here : p x ≡ true). (x, contains-here x xs, here))
    (λ (later : list_any p xs ≡ true). let (y, among, passes) = any_found p xs later in (y, contains-there y x xs among, passes))
    (or_cases (p x) (list_any p xs) e)

-- some attributes are kept that pass together, and no fewer of them do
pub record HasLeast (p : List ℕ → Bool) (x : List ℕ) : Type 0 where
  pub kept : ℕ → Bool
  pub passes : p (filter kept x) ≡ true
  pub least : list_any p (proper_parts (filter kept x)) ≡ false

itself : (p : List ℕ → Bool) (x : List ℕ) → p x ≡ true → list_any p (proper_parts x) ≡ false → HasLeast p x
itself p x passes least = record {
  kept = λ attr. true;
  passes = subst (λ (y : List ℕ). p y ≡ true) (sym (whole x)) passes;
  least = subst (λ (y : List ℕ). list_any p (proper_parts y) ≡ false) (sym (whole x)) least;
}
  where
    whole : (x : List ℕ) → filter (λ (attr : ℕ). true) x ≡ x
    whole [] = refl
    whole (attr ∷ x) = ap (λ (y : List ℕ). attr ∷ y) (whole x)

of_part : (p : List ℕ → Bool) (x part : List ℕ) → IsKept x part → HasLeast p part → HasLeast p x
of_part p x part is least =
    let same : filter (λ attr. is.kept attr && least.kept attr) x ≡ filter least.kept part = sym (filter_filter is.kept least.kept x) ∙ ap (filter least.kept) is.is in
    record {
      kept = λ attr. is.kept attr && least.kept attr;
      passes = subst (λ (y : List ℕ). p y ≡ true) (sym same) least.passes;
      least = subst (λ (y : List ℕ). list_any p (proper_parts y) ≡ false) (sym same) least.least;
    }

pub least_within : (p : List ℕ → Bool) (most : ℕ) (x : List ℕ) → length x ≤ most → IsRising x → p x ≡ true → HasLeast p x
least_within p zero [] long rising passes = itself p [] passes refl
least_within p zero (attr ∷ x) long rising passes = absurd (omega arith)
least_within p (suc most) x long rising passes =
    ⊎_elim
    (λ (more : list_any p (proper_parts x) ≡ true).
    let (part, among, holds) = any_found p (proper_parts x) more in
    let is = part_is_kept x part rising among in
    let shorter = filter_less is.kept x is.less in
    let still = subst IsRising is.is (AllPairs-filter ◌<◌ is.kept x rising) in
    of_part p x part is (least_within p most part (omega (arith, shorter, ap length is.is)) still holds))
    (λ (none : list_any p (proper_parts x) ≡ false). itself p x passes none)
    (cases_Bool (list_any p (proper_parts x)))
