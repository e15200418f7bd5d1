-- Fresh texts, and the value that a text counts as.
use Rattle.std.proofs.Common.{inl, inr, ◌⊎◌, ⊎_elim, ◌≡◌, ℕ, zero, suc, ◌+◌, ◌-◌, ◌<◌, Bool, true, false, not, List, [], length, get_or, Contains, refl, sym, ap, ◌∙◌, subst, arith}
use Rattle.std.specs.Str.{bytes_eq}
use Rattle.std.proofs.lemmas.Bool.{cases_Bool, cases_lt, cases_order, false≢true}
use Rattle.std.proofs.lemmas.List.{length-take, get_or-take, get_or_default, length-replicate}
use Rattle.text_lists.specs.Repeats.{is_among}
use Rattle.cell_values.specs.declared.values.CellValues.{CellValues}
use Rattle.cell_values.specs.Fresh.{tildes, longest, fresh_past, IsFreshPast}
use Rattle.cell_values.specs.Standing.{counts_as}
use Rattle.cell_values.proofs.Among.{among_if_Contains, Contains_if_among}
use Rattle.cell_values.proofs.FreshTexts.{longest_bounds, fresh_is}
use Rattle.cell_values.proofs.Meaning.{constants, AreValues, is_constant, is_other}

-- ---- the first number that passes

pub record IsFirst (p : ℕ → Bool) (n : ℕ) : Type 0 where
  pub at : ℕ
  pub within : at < n
  pub passes : p at ≡ true
  pub before : (j : ℕ) → j < at → p j ≡ false

pub search_first : (p : ℕ → Bool) (n : ℕ) → IsFirst p n ⊎ ((j : ℕ) → j < n → p j ≡ false)
search_first p zero = inr (λ j less. absurd (omega arith))
search_first p (suc n) = elim (search_first p n) [
  | inl found ↦ inl (record { at = found.at; within = let inside = found.within in omega arith; passes = found.passes; before = found.before })
  | inr none ↦ elim (cases_Bool (p n)) [
    | inl here ↦ inl (record { at = n; within = omega arith; passes = here; before = none })
    | inr not ↦ inr (λ j less. elim (cases_lt j n) [
      | inl low ↦ none j low
      | inr high ↦ (let same : j ≡ n = omega arith in subst (λ (k : ℕ). p k ≡ false) (sym same) not)
    ])
  ]
]

-- ---- fresh texts

not_false_is : (b : Bool) → not b ≡ false → b ≡ true
not_false_is true e = refl
not_false_is false e = absurd cc

-- there is a fresh text past every count, and the function gives it
pub fresh_there : (count : ℕ) (texts : List (List ℕ)) → IsFreshPast count texts (fresh_past count texts)
fresh_there count texts = elim (search_first (λ j. not (is_among bytes_eq texts (tildes (count + 1 + j)))) (longest texts + 1)) [
  | inl found ↦ (
      let text = tildes (count + 1 + found.at) in
      let inside = found.within in
      let fresh : IsFreshPast count texts text = record {
        length = count + 1 + found.at;
        is_tildes = refl;
        past = omega arith;
        few = omega arith;
        new = λ there. false≢true (sym (ap not (among_if_Contains texts text there)) ∙ found.passes);
        shortest = λ less past within.
            let k = less - (count + 1) in
            let same : count + 1 + k ≡ less = omega arith in
            Contains_if_among texts (tildes less) (subst (λ (n : ℕ). is_among bytes_eq texts (tildes n) ≡ true) same (not_false_is (is_among bytes_eq texts (tildes (count + 1 + k))) (found.before k (omega arith))));
      } in
      subst (IsFreshPast count texts) (fresh_is count texts text fresh) fresh)
  | inr none ↦ (
      let text = tildes (count + 1 + longest texts) in
      let there = Contains_if_among texts text (not_false_is (is_among bytes_eq texts text) (none (longest texts) (omega arith))) in
      let bound = longest_bounds texts text there in
      absurd (omega (arith, length-replicate {A = ℕ} (count + 1 + longest texts) 126)))
]

-- ---- one value

module _ (v : CellValues) (good : AreValues v) where
  pub same_place : (p q : ℕ) → p < length v.values → q < length v.values → get_or v.values p [] ≡ get_or v.values q [] → p ≡ q
  same_place p q p_in q_in same = elim (cases_order p q) [
    | inl equal ↦ equal
    | inr differ ↦ absurd (⊎_elim (λ less. good.distinct p q [] less q_in same) (λ more. good.distinct q p [] more p_in (sym same)) differ)
  ]

  pub constant_there : (p : ℕ) → p < v.constants → Contains (constants v) (get_or v.values p [])
  constant_there p low =
      let size = length-take v.constants v.values in
      let bound = good.bound in
      let inside : p < length (constants v) = omega arith in
      (p, inside, get_or_default (constants v) p (get_or v.values p []) [] inside ∙ get_or-take v.constants v.values p [] low)

  -- a text counts as one value only
  pub counts_once : (text : List ℕ) (p q : ℕ) → p < length v.values → q < length v.values → counts_as v text p ≡ true → counts_as v text q ≡ true → p ≡ q
  counts_once text p q p_in q_in p_counts q_counts = elim (cases_lt p v.constants) [
    | inl p_low ↦ elim (cases_lt q v.constants) [
      | inl q_low ↦ same_place p q p_in q_in (is_constant v text p p_low p_counts ∙ sym (is_constant v text q q_low q_counts))
      | inr q_high ↦ absurd (is_other v text q q_high q_counts (subst (Contains (constants v)) (is_constant v text p p_low p_counts) (constant_there p p_low)))
    ]
    | inr p_high ↦ elim (cases_lt q v.constants) [
      | inl q_low ↦ absurd (is_other v text p p_high p_counts (subst (Contains (constants v)) (is_constant v text q q_low q_counts) (constant_there q q_low)))
      | inr q_high ↦ (let few = good.few in omega arith)
    ]
  ]
