-- The ways to choose, cell by cell, cut off at a most.
use Rattle.std.proofs.Common.{◌≡◌, ℕ, zero, suc, ◌+◌, ◌*◌, ◌<◌, ◌≤◌, Bool, true, false, cond, min, List, [], ◌∷◌, ◌++◌, length, get_or, take, refl, sym, ap, ◌∙◌, ⊎_elim, arith}
use Rattle.std.proofs.Math.Nat.{mul-le-mul_left, mul_assoc, mul_comm}
use Rattle.std.proofs.lemmas.Bool.{cases_Bool, cases_lt}
use Rattle.std.proofs.lemmas.List.{take_more}
use Rattle.case_tree.specs.declared.clauses.VarCell.{VarCell}
use Rattle.case_search.specs.Enough.{choices}

-- the ways of one cell
abbrev ways : VarCell → ℕ
ways cell = cond cell.demanded cell.count 1

choices-cons : (cell : VarCell) (cells : List VarCell) → choices (cell ∷ cells) ≡ ways cell * choices cells
choices-cons cell cells =
    ⊎_elim
    (λ demanded. rw demanded refl)
    (λ free. rw free (let one : choices cells ≡ 1 * choices cells = omega arith in one))
    (cases_Bool cell.demanded)

choices-push : (cells : List VarCell) (cell : VarCell) → choices (cells ++ cell ∷ []) ≡ choices cells * ways cell
choices-push [] cell = choices-cons cell [] ∙ mul_comm (ways cell) 1
choices-push (x ∷ cells) cell =
    choices-cons x (cells ++ cell ∷ []) ∙ ap (λ n. ways x * n) (choices-push cells cell)
    ∙ sym (mul_assoc (ways x) (choices cells) (ways cell)) ∙ ap (λ n. n * ways cell) (sym (choices-cons x cells))

pub choices-demanded : (cells : List VarCell) (i : ℕ) (d : VarCell) → i < length cells → (get_or cells i d).demanded ≡ true → choices (take (i + 1) cells) ≡ choices (take i cells) * (get_or cells i d).count
choices-demanded cells i d in_range demanded =
    ap choices (take_more cells i d in_range) ∙ choices-push (take i cells) (get_or cells i d)
    ∙ ap (λ (b : Bool). choices (take i cells) * cond b (get_or cells i d).count 1) demanded

pub choices-free : (cells : List VarCell) (i : ℕ) (d : VarCell) → i < length cells → (get_or cells i d).demanded ≡ false → choices (take (i + 1) cells) ≡ choices (take i cells)
choices-free cells i d in_range free =
    ap choices (take_more cells i d in_range) ∙ choices-push (take i cells) (get_or cells i d)
    ∙ ap (λ (b : Bool). choices (take i cells) * cond b (get_or cells i d).count 1) free ∙ (let one : choices (take i cells) * 1 ≡ choices (take i cells) = omega arith in one)

-- a product that reaches the most stays there
past_most : (a b most : ℕ) → most ≤ a → min (min a most * min b most) most ≡ min (a * b) most
past_most a zero most past = let none : min 0 most ≡ 0 = omega arith in rw none (omega arith)
past_most a (suc b) zero past = omega arith
past_most a (suc b) (suc most) past =
    let cut : min a (suc most) ≡ suc most = omega arith in
    let some : 1 ≤ min (suc b) (suc most) = omega arith in
    let left : suc most * 1 ≤ suc most * min (suc b) (suc most) = mul-le-mul_left (suc most) some in
    let right : a * 1 ≤ a * suc b = mul-le-mul_left a (let one : 1 ≤ suc b = omega arith in one) in
    rw cut (omega arith)

pub cut_product : (a b most : ℕ) → min (min a most * min b most) most ≡ min (a * b) most
cut_product a b most =
    ⊎_elim
    (λ below.
    ⊎_elim
    (λ other_below.
    let same : min a most ≡ a = omega arith in
    let other_same : min b most ≡ b = omega arith in
    rw (same, other_same) refl)
    (λ other_past.
    ap (λ n. min n most) (mul_comm (min a most) (min b most)) ∙ past_most b a most other_past ∙ ap (λ n. min n most) (mul_comm b a))
    (cases_lt b most))
    (λ past. past_most a b most past)
    (cases_lt a most)

-- the product so far, times the number of variables of one more cell
pub one_more : (product ways vars count most : ℕ) → product ≡ min (ways * vars) most → min (product * min count most) most ≡ min (ways * count * vars) most
one_more product ways vars count most so_far =
    ap (λ n. min (n * min count most) most) so_far ∙ cut_product (ways * vars) count most
    ∙ ap (λ n. min n most) (mul_assoc ways vars count ∙ ap (λ n. ways * n) (mul_comm vars count) ∙ sym (mul_assoc ways count vars))
