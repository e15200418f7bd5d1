-- How many leaves a subtree has at most: the ways to choose the demanded cells that have no true variable yet, times one
-- more than the number of variables without a value; one where a reason holds.
use Rattle.std.proofs.Common.{◌≡◌, ℕ, zero, suc, ◌+◌, ◌*◌, ◌<◌, ◌≤◌, ◌⊎◌, Bool, true, false, cond, List, [], ◌∷◌, length, get_or, Option, Some, None, refl, sym, ap, ◌∙◌, subst, inl, inr, ⊎_elim, arith}
use Rattle.std.specs.Prelude.{slice_get}
use Rattle.std.proofs.Math.Nat.{mul-le-mul_left}
use Rattle.std.proofs.lemmas.Bool.{cases_Bool, cases_eq, cases_lt}
use Rattle.std.proofs.lemmas.Option.{slice_get-get_or}
use Rattle.case_tree.specs.declared.clauses.Literal.{Literal}
use Rattle.case_tree.specs.declared.clauses.VarCell.{VarCell}
use Rattle.case_tree.specs.declared.tree.Reason.{Reason}
use Rattle.case_tree.specs.declared.tree.Reason.TheVariants.{NoneOf}
use Rattle.case_tree.specs.CaseTree.{ClauseSet, FollowFrom, Holds, IsIn, value_on, var_count}
use Rattle.case_tree.proofs.Paths.{value_on-same, value_on-other}
use Rattle.case_tree.proofs.Walk.{yes, no}
use Rattle.case_search.specs.Enough.{choices}
use Rattle.case_search.specs.Step.{HasTrue, IsForced, IsOpen, IsWanted, NoReason}
use Rattle.case_search.proofs.Around.{false_of, none_holds}

-- the number of the n variables from `first` on that have no value
abbrev one_if_none : Option Bool → ℕ
one_if_none None = 1
one_if_none (Some b) = 0

abbrev open_in : List Literal → ℕ → ℕ → ℕ
open_in path first zero = 0
open_in path first (suc n) = one_if_none (value_on path first) + open_in path (first + 1) n

one_if_none-le : (literal : Literal) (path : List Literal) (v : ℕ) → one_if_none (value_on (literal ∷ path) v) ≤ one_if_none (value_on path v)
one_if_none-le literal path v =
    ⊎_elim
    (λ same. let none : one_if_none (value_on (literal ∷ path) v) ≡ 0 = ap one_if_none (value_on-same literal path v same) in omega arith)
    (λ other. let equal = ap one_if_none (value_on-other literal path v other) in omega arith)
    (cases_eq literal.var v)

open_in-fewer : (literal : Literal) (path : List Literal) (first n : ℕ) → open_in (literal ∷ path) first n ≤ open_in path first n
open_in-fewer literal path first zero = omega arith
open_in-fewer literal path first (suc n) =
    omega (arith, one_if_none-le literal path first, open_in-fewer literal path (first + 1) n)

-- setting a variable without a value leaves one less
open_in-here : (literal : Literal) (path : List Literal) (first n : ℕ) → value_on path literal.var ≡ None → first ≤ literal.var → literal.var < first + n → open_in (literal ∷ path) first n + 1 ≤ open_in path first n
open_in-here literal path first zero unset low high = absurd (omega arith)
open_in-here literal path first (suc n) unset low high =
    ⊎_elim
    (λ same.
    let after : one_if_none (value_on (literal ∷ path) first) ≡ 0 = ap one_if_none (value_on-same literal path first same) in
    let before : one_if_none (value_on path first) ≡ 1 = ap one_if_none (ap (value_on path) (sym same) ∙ unset) in
    omega (arith, open_in-fewer literal path (first + 1) n))
    (λ other. omega (arith, one_if_none-le literal path first, open_in-here literal path (first + 1) n unset (omega arith) (omega arith)))
    (cases_eq literal.var first)

open_in-pos : (path : List Literal) (v first n : ℕ) → value_on path v ≡ None → first ≤ v → v < first + n → 1 ≤ open_in path first n
open_in-pos path v first zero unset low high = absurd (omega arith)
open_in-pos path v first (suc n) unset low high =
    ⊎_elim
    (λ same. let here : one_if_none (value_on path first) ≡ 1 = ap one_if_none (ap (value_on path) (sym same) ∙ unset) in omega arith)
    (λ other. omega (arith, open_in-pos path v (first + 1) n unset (omega arith) (omega arith)))
    (cases_eq v first)

open_in-le : (path : List Literal) (first n : ℕ) → open_in path first n ≤ n
open_in-le path first zero = omega arith
open_in-le path first (suc n) = omega (arith, one_le (value_on path first), open_in-le path (first + 1) n)
  where
    one_le : (value : Option Bool) → one_if_none value ≤ 1
    one_le None = omega arith
    one_le (Some b) = omega arith

-- f bounds the ways to choose a variable of the cell
abbrev pub IsFactor : List Literal → VarCell → ℕ → Type 0
IsFactor path cell f =
    (1 ≤ f) × (cell.demanded ≡ true → (HasTrue path cell → ⊥) → open_in path cell.first cell.count ≤ f)

abbrev pub AreFactors : List Literal → List VarCell → List ℕ → Type 0
AreFactors path [] [] = Unit {0}
AreFactors path [] (f ∷ fs) = ⊥
AreFactors path (cell ∷ cells) [] = ⊥
AreFactors path (cell ∷ cells) (f ∷ fs) = IsFactor path cell f × AreFactors path cells fs

abbrev pub product : List ℕ → ℕ
product [] = 1
product (f ∷ fs) = f * product fs

product_pos : (path : List Literal) (cells : List VarCell) (fs : List ℕ) → AreFactors path cells fs → 1 ≤ product fs
product_pos path [] [] are = omega arith
product_pos path [] (f ∷ fs) are = absurd are
product_pos path (cell ∷ cells) [] are = absurd are
product_pos path (cell ∷ cells) (zero ∷ fs) are = absurd (omega (arith, are.0.0))
product_pos path (cell ∷ cells) (suc f ∷ fs) are = omega (arith, product_pos path cells fs are.1)

HasTrue-keeps : (literal : Literal) (path : List Literal) (cell : VarCell) → value_on path literal.var ≡ None → HasTrue path cell → HasTrue (literal ∷ path) cell
HasTrue-keeps literal path cell unset (v, inside, is_true) =
    (v, inside, value_on-other literal path v (λ same. let open_v : value_on path v ≡ None = ap (value_on path) (sym same) ∙ unset in cc) ∙ is_true)

IsFactor-keeps : (literal : Literal) (path : List Literal) (cell : VarCell) (f : ℕ) → value_on path literal.var ≡ None → IsFactor path cell f → IsFactor (literal ∷ path) cell f
IsFactor-keeps literal path cell f unset (pos, bound) = (
  pos,
  λ demanded none. omega (arith, open_in-fewer literal path cell.first cell.count, bound demanded (λ some. none (HasTrue-keeps literal path cell unset some))),
)

AreFactors-keep : (literal : Literal) (path : List Literal) (cells : List VarCell) (fs : List ℕ) → value_on path literal.var ≡ None → AreFactors path cells fs → AreFactors (literal ∷ path) cells fs
AreFactors-keep literal path [] [] unset are = tt
AreFactors-keep literal path [] (f ∷ fs) unset are = are
AreFactors-keep literal path (cell ∷ cells) [] unset are = are
AreFactors-keep literal path (cell ∷ cells) (f ∷ fs) unset are =
    (IsFactor-keeps literal path cell f unset are.0, AreFactors-keep literal path cells fs unset are.1)

-- factors for the two branches of a split on a variable of a demanded cell that has two to choose from
pub record Branches (path : List Literal) (cells : List VarCell) (v most : ℕ) : Type 0 where
  pub trues : List ℕ
  pub falses : List ℕ
  pub true_factors : AreFactors (yes v ∷ path) cells trues
  pub false_factors : AreFactors (no v ∷ path) cells falses
  pub within : product trues + product falses ≤ most

branches : (path : List Literal) (v : ℕ) (cells : List VarCell) (k : ℕ) (cell : VarCell) (fs : List ℕ) → value_on path v ≡ None → slice_get cells k ≡ Some cell → cell.demanded ≡ true → IsIn cell v → (HasTrue path cell → ⊥) → 2 ≤ open_in path cell.first cell.count → AreFactors path cells fs → Branches path cells v (product fs)
branches path v [] k cell fs unset there demanded inside none two are = cc
branches path v (x ∷ cells) k cell [] unset there demanded inside none two are = absurd are
branches path v (x ∷ cells) zero cell (zero ∷ fs) unset there demanded inside none two are = absurd (omega (arith, are.0.0))
branches path v (x ∷ cells) zero cell (suc f ∷ fs) unset there demanded inside none two are =
    let same : x ≡ cell = cc in
    let factor = subst (λ (y : VarCell). IsFactor path y (suc f)) same are.0 in
    let bound = factor.1 demanded none in
    let fewer = open_in-here (no v) path cell.first cell.count unset inside.0 inside.1 in
    record {
      trues = 1 ∷ fs;
      falses = f ∷ fs;
      true_factors = (
        subst (λ (y : VarCell). IsFactor (yes v ∷ path) y 1) (sym same) (omega arith, λ _ without. absurd (without (v, inside, value_on-same (yes v) path v refl))),
        AreFactors-keep (yes v) path cells fs unset are.1,
      );
      false_factors = (
        subst (λ (y : VarCell). IsFactor (no v ∷ path) y f) (sym same) (omega arith, λ _ without. omega arith),
        AreFactors-keep (no v) path cells fs unset are.1,
      );
      within = omega arith;
    }
branches path v (x ∷ cells) (suc k) cell (f ∷ fs) unset there demanded inside none two are =
    let rest = branches path v cells k cell fs unset there demanded inside none two are.1 in
    record {
      trues = f ∷ rest.trues;
      falses = f ∷ rest.falses;
      true_factors = (IsFactor-keeps (yes v) path x f unset are.0, rest.true_factors);
      false_factors = (IsFactor-keeps (no v) path x f unset are.0, rest.false_factors);
      within = omega (arith, mul-le-mul_left f rest.within);
    }

-- w bounds the leaves of the subtree at a path
abbrev pub Fits : ClauseSet → List Literal → ℕ → Type 0
Fits set path w =
    (1 ≤ w) × (((reason : Reason) × Holds set path reason) ⊎ ((fs : List ℕ) × (u : ℕ) × AreFactors path set.cells fs × (length path + u ≡ var_count set.cells) × (product fs * (u + 1) ≤ w)))

-- a wanted variable is forced, or its cell has two variables to choose from
two_open : (set : ClauseSet) (path : List Literal) (v k : ℕ) (cell : VarCell) → IsOpen set path v → k < length set.cells → get_or set.cells k cell ≡ cell → cell.demanded ≡ true → IsIn cell v → (HasTrue path cell → ⊥) → IsForced set path v ⊎ (2 ≤ open_in path cell.first cell.count)
two_open set path v k cell (there, unset) in_range is demanded inside none =
    ⊎_elim
    (λ two. inr two)
    (λ one.
    let fewer = open_in-here (no v) path cell.first cell.count unset inside.0 inside.1 in
    let all_false : (u : ℕ) → IsIn cell u → value_on (no v ∷ path) u ≡ Some false =
    λ u u_in.
    ⊎_elim
    (λ same. value_on-same (no v) path u same)
    (λ other.
    let carried = value_on-other (no v) path u other in
    carried ∙ false_of (value_on path u)
    (λ open_u. let more = open_in-pos (no v ∷ path) u cell.first cell.count (carried ∙ open_u) u_in.0 u_in.1 in omega arith)
    (λ true_u. none (u, u_in, true_u)))
    (cases_eq v u)
    in
    inl (
      false,
      NoneOf k,
      (none_holds set (no v ∷ path) set.cells k cell refl in_range (ap (λ (y : VarCell). y.demanded) is ∙ demanded) (subst (λ (y : VarCell). (u : ℕ) → IsIn y u → value_on (no v ∷ path) u ≡ Some false) (sym is) all_false)),
    ))
    (cases_lt 1 (open_in path cell.first cell.count))

-- bounds for the two subtrees of a split
pub record Halves (set : ClauseSet) (path : List Literal) (v w : ℕ) : Type 0 where
  pub if_true : ℕ
  pub if_false : ℕ
  pub true_fits : Fits set (yes v ∷ path) if_true
  pub false_fits : Fits set (no v ∷ path) if_false
  pub within : if_true + if_false ≤ w

-- the variable is of a demanded cell with no true variable and with two variables to choose from
abbrev HasTwo : ClauseSet → List Literal → ℕ → Type 0
HasTwo set path v =
    (k : ℕ) × (cell : VarCell) × (k < length set.cells) × (get_or set.cells k cell ≡ cell) × (cell.demanded ≡ true) × IsIn cell v × (HasTrue path cell → ⊥) × (2 ≤ open_in path cell.first cell.count)

halves_by : (set : ClauseSet) (path : List Literal) (v w : ℕ) → NoReason set path → IsOpen set path v → IsForced set path v ⊎ HasTwo set path v → suc (length path) ≤ var_count set.cells → Fits set path w → Halves set path v w
halves_by set path v w quiet opens why room (pos, inl (reason, held)) = absurd (quiet reason held)
halves_by set path v w quiet opens why room (pos, inr (fs, zero, are, counted, bound)) = absurd (omega arith)
halves_by set path v w quiet opens (inl (true, reason, held)) room (pos, inr (fs, suc u, are, counted, bound)) =
    let some = product_pos path set.cells fs are in
    record {
      if_true = 1;
      if_false = product fs * (u + 1);
      true_fits = (omega arith, inl (reason, held));
      false_fits = (omega (arith, mul-le-mul_left (u + 1) some), inr (fs, u, AreFactors-keep (no v) path set.cells fs opens.1 are, omega arith, omega arith));
      within = omega arith;
    }
halves_by set path v w quiet opens (inl (false, reason, held)) room (pos, inr (fs, suc u, are, counted, bound)) =
    let some = product_pos path set.cells fs are in
    record {
      if_true = product fs * (u + 1);
      if_false = 1;
      true_fits = (omega (arith, mul-le-mul_left (u + 1) some), inr (fs, u, AreFactors-keep (yes v) path set.cells fs opens.1 are, omega arith, omega arith));
      false_fits = (omega arith, inl (reason, held));
      within = omega arith;
    }
halves_by set path v w quiet opens (inr (k, cell, in_range, is, demanded, inside, none, two)) room (pos, inr (fs, suc u, are, counted, bound)) =
    let both = branches path v set.cells k cell fs opens.1 (slice_get-get_or set.cells k cell in_range ∙ ap Some is) demanded inside none two are in
    let true_pos = product_pos (yes v ∷ path) set.cells both.trues both.true_factors in
    let false_pos = product_pos (no v ∷ path) set.cells both.falses both.false_factors in
    record {
      if_true = product both.trues * (u + 1);
      if_false = product both.falses * (u + 1);
      true_fits = (omega (arith, mul-le-mul_left (u + 1) true_pos), inr (both.trues, u, both.true_factors, omega arith, omega arith));
      false_fits = (omega (arith, mul-le-mul_left (u + 1) false_pos), inr (both.falses, u, both.false_factors, omega arith, omega arith));
      within = omega (arith, mul-le-mul_left (u + 1) both.within);
    }

-- the bound of a node covers those of the two subtrees of a split on a forced or a wanted variable
pub halves : (set : ClauseSet) (path : List Literal) (v w : ℕ) → NoReason set path → IsOpen set path v → IsForced set path v ⊎ IsWanted set path v → suc (length path) ≤ var_count set.cells → Fits set path w → Halves set path v w
halves set path v w quiet opens (inl forced) room fits = halves_by set path v w quiet opens (inl forced) room fits
halves set path v w quiet opens (inr (k, cell, in_range, is, (demanded, inside, none))) room fits =
    ⊎_elim
    (λ forced. halves_by set path v w quiet opens (inl forced) room fits)
    (λ two. halves_by set path v w quiet opens (inr (k, cell, in_range, is, demanded, inside, none, two)) room fits)
    (two_open set path v k cell opens in_range is demanded inside none)

-- at the root the bound is the product of the numbers of variables of the demanded cells, times one more than all
pub record Start (cells : List VarCell) : Type 0 where
  pub factors : List ℕ
  pub are : AreFactors [] cells factors
  pub product_is : product factors ≡ choices cells

start : (first : ℕ) (cells : List VarCell) → FollowFrom first cells → Start cells
start first [] follow = record { factors = []; are = tt; product_is = refl }
start first (cell ∷ cells) follow =
    let rest = start (first + cell.count) cells follow.2 in
    ⊎_elim
    (λ demanded. record {
      factors = cell.count ∷ rest.factors;
      are = ((omega (arith, follow.1), λ _ _. open_in-le [] cell.first cell.count), rest.are);
      product_is = ap (λ n. cell.count * n) rest.product_is ∙ sym (ap (λ b. cond b (cell.count * choices cells) (choices cells)) demanded);
    })
    (λ free. record {
      factors = 1 ∷ rest.factors;
      are = ((omega arith, λ demanded none. cc), rest.are);
      product_is = (let one : 1 * product rest.factors ≡ product rest.factors = omega arith in one) ∙ rest.product_is ∙ sym (ap (λ b. cond b (cell.count * choices cells) (choices cells)) free);
    })
    (cases_Bool cell.demanded)

pub root_fits : (set : ClauseSet) → FollowFrom 0 set.cells → Fits set [] (choices set.cells * (var_count set.cells + 1))
root_fits set follow =
    let begin = start 0 set.cells follow in
    let some = product_pos [] set.cells begin.factors begin.are in
    let same = begin.product_is in
    (omega (arith, mul-le-mul_left (var_count set.cells + 1) some, ap (λ n. (var_count set.cells + 1) * n) same), inr (begin.factors, var_count set.cells, begin.are, omega arith, rw same (omega arith)))
