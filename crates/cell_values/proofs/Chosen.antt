-- Texts for the values whose variables are true.
use Rattle.std.proofs.Common.{◌≡◌, ◌≢◌, ℕ, ◌+◌, ◌-◌, ◌<◌, ◌≤◌, Bool, true, false, List, [], length, get_or, take, Option, Some, None, refl, sym, ap, ◌∙◌, subst, inl, inr, arith}
use Rattle.std.specs.Prelude.{Contains, nat_lt}
use Rattle.std.specs.Str.{bytes_eq}
use Rattle.std.proofs.lemmas.Bool.{cases_lt, cases_Bool, lt-ltb, false_from_ne_true, false≢true}
use Rattle.std.proofs.lemmas.Slice.Eq.{bytes_eq-Decides}
use Rattle.cell_values.specs.declared.values.CellValues.{CellValues}
use Rattle.cell_values.specs.Standing.{counts_as, Agrees}
use Rattle.cell_values.proofs.Choices.{constant_there, counts_once, same_place}
use Rattle.cell_values.proofs.Meaning.{AreValues, is_constant, counted_other}
use Rattle.cell_values.proofs.Allowed.{HasOne, HasSome, whole_cell}

-- a place of a constant whose variable is true, or that there is none
abbrev pub IsChosen : (ℕ → Bool) → ℕ → CellValues → Option ℕ → Type 0
IsChosen truth first c (Some place) = (place < c.constants) × (truth (first + place) ≡ true)
IsChosen truth first c None = (place : ℕ) → place < c.constants → truth (first + place) ≡ false

-- where there is a value more than the constants, one is demanded
other_demanded : (c : CellValues) → AreValues c → c.constants < length c.values → c.demanded ≡ true
other_demanded c is more = elim (cases_Bool c.demanded) [
  | inl wanted ↦ wanted
  | inr free ↦ (let low = is.all_constants free in absurd (omega arith))
]

itself_true : (v : List ℕ) → bytes_eq v v ≡ true
itself_true v = (bytes_eq-Decides v v).1 refl

module _ (truth : ℕ → Bool) (first : ℕ) (c : CellValues) (is : AreValues c) (one : HasOne truth (whole_cell first c)) where
  -- the constant counts as itself alone
  pub constant_counts : (place : ℕ) → place < c.constants → counts_as c (get_or c.values place []) place ≡ true
  constant_counts place low = let test : nat_lt place c.constants ≡ true = lt-ltb place c.constants low in rw test (itself_true (get_or c.values place []))

  pub agrees_constant : (place : ℕ) → place < c.constants → truth (first + place) ≡ true → Agrees truth first c (get_or c.values place [])
  agrees_constant place low holds other within =
      let bound = is.bound in
      let place_in : place < length c.values = omega arith in
      let text = get_or c.values place [] in
      elim (cases_Bool (counts_as c text other)) [
        | inl counts ↦
            let same : place ≡ other = counts_once c is text place other place_in within (constant_counts place low) counts in
            ap (λ k. truth (first + k)) (sym same) ∙ holds ∙ sym counts
        | inr not_counts ↦
            false_from_ne_true (truth (first + other)) (λ other_true.
            let same : first + place ≡ first + other = one (first + place) (first + other) (omega arith, omega arith) (omega arith, omega arith) holds other_true in
            let equal : place ≡ other = omega arith in
            false≢true (sym not_counts ∙ ap (counts_as c text) (sym equal) ∙ constant_counts place low)) ∙ sym not_counts
      ]

  -- every text that is no constant, where no constant's variable is true
  pub agrees_other : (text : List ℕ) → ¬ Contains (take c.constants c.values) text → ((place : ℕ) → place < c.constants → truth (first + place) ≡ false) → HasSome truth (whole_cell first c) → Agrees truth first c text
  agrees_other text absent none_true some other within = elim (cases_lt other c.constants) [
    | inl low ↦
        none_true other low
        ∙ sym (false_from_ne_true (counts_as c text other) (λ counts. absent (subst (Contains (take c.constants c.values)) (is_constant c text other low counts) (constant_there c is other low))))
    | inr high ↦
        let (v, v_in, v_true) = some (other_demanded c is (omega arith)) in
        let place = v - first in
        let v_from = v_in.0 in
        let v_to = v_in.1 in
        let v_is : v ≡ first + place = omega arith in
        let few = is.few in
        let place_high : c.constants ≤ place = elim (cases_lt place c.constants) [
          | inl low ↦ absurd (false≢true (sym (none_true place low) ∙ ap truth (sym v_is) ∙ v_true))
          | inr here ↦ here
        ] in
        let same : v ≡ first + other = omega arith in
        ap truth (sym same) ∙ v_true ∙ sym (counted_other c text absent other high)
  ]

-- ---- the texts of both tuples

-- The three clauses of a constant: tuples that agree both have it or neither has it, and tuples that both have it agree.
pub record Matched (truth : ℕ → Bool) (equal first second : ℕ) (c : CellValues) : Type 0 where
  pub there : (place : ℕ) → place < c.constants → truth equal ≡ true → truth (first + place) ≡ true → truth (second + place) ≡ true
  pub back : (place : ℕ) → place < c.constants → truth equal ≡ true → truth (second + place) ≡ true → truth (first + place) ≡ true
  pub agree : (place : ℕ) → place < c.constants → truth (first + place) ≡ true → truth (second + place) ≡ true → truth equal ≡ true

-- that constant, or a text that is no constant
abbrev pub IsText : CellValues → Option ℕ → List ℕ → Type 0
IsText c (Some place) text = text ≡ get_or c.values place []
IsText c None text = ¬ Contains (take c.constants c.values) text

-- The texts that two tuples get. Where neither has a constant, it is one text where they agree, and else two.
pub record AreTexts (truth : ℕ → Bool) (equal : ℕ) (c : CellValues) (one other : Option ℕ) (one_text other_text : List ℕ) : Type 0 where
  pub one_is : IsText c one one_text
  pub other_is : IsText c other other_text
  pub same : truth equal ≡ true → one ≡ None → other ≡ None → one_text ≡ other_text
  pub differ : truth equal ≡ false → one ≡ None → other ≡ None → one_text ≢ other_text

module _ (truth : ℕ → Bool) (c : CellValues) (is : AreValues c) where
  pub text_agrees : (first : ℕ) (place : Option ℕ) (text : List ℕ) → HasOne truth (whole_cell first c) → HasSome truth (whole_cell first c) → IsChosen truth first c place → IsText c place text → Agrees truth first c text
  text_agrees first (Some place) text one some chosen fits = subst (Agrees truth first c) (sym fits) (agrees_constant truth first c is one place chosen.0 chosen.1)
  text_agrees first None text one some chosen fits = agrees_other truth first c is one text fits chosen some

  one_place : (first : ℕ) → HasOne truth (whole_cell first c) → (p q : ℕ) → p < c.constants → q < c.constants → truth (first + p) ≡ true → truth (first + q) ≡ true → p ≡ q
  one_place first one p q p_low q_low p_true q_true =
      let bound = is.bound in
      let same : first + p ≡ first + q = one (first + p) (first + q) (omega arith, omega arith) (omega arith, omega arith) p_true q_true in
      omega arith

  equal_by : (equal first second : ℕ) (one other : Option ℕ) (one_text other_text : List ℕ) → Matched truth equal first second c → HasOne truth (whole_cell second c) → IsChosen truth first c one → IsChosen truth second c other
      → AreTexts truth equal c one other one_text other_text → truth equal ≡ true → one_text ≡ other_text
  equal_by equal first second (Some p) (Some q) one_text other_text matched once one_chosen other_chosen texts holds =
      let same : p ≡ q = one_place second once p q one_chosen.0 other_chosen.0 (matched.there p one_chosen.0 holds one_chosen.1) other_chosen.1 in
      texts.one_is ∙ ap (λ k. get_or c.values k []) same ∙ sym texts.other_is
  equal_by equal first second (Some p) None one_text other_text matched once one_chosen other_chosen texts holds =
      absurd (false≢true (sym (other_chosen p one_chosen.0) ∙ matched.there p one_chosen.0 holds one_chosen.1))
  equal_by equal first second None (Some q) one_text other_text matched once one_chosen other_chosen texts holds =
      absurd (false≢true (sym (one_chosen q other_chosen.0) ∙ matched.back q other_chosen.0 holds other_chosen.1))
  equal_by equal first second None None one_text other_text matched once one_chosen other_chosen texts holds = texts.same holds refl refl

  differ_by : (equal first second : ℕ) (one other : Option ℕ) (one_text other_text : List ℕ) → Matched truth equal first second c → IsChosen truth first c one → IsChosen truth second c other
      → AreTexts truth equal c one other one_text other_text → truth equal ≡ false → one_text ≡ other_text → ⊥
  differ_by equal first second (Some p) (Some q) one_text other_text matched one_chosen other_chosen texts fails same =
      let p_low = one_chosen.0 in
      let q_low = other_chosen.0 in
      let bound = is.bound in
      let places : p ≡ q = same_place c is p q (omega arith) (omega arith) (sym texts.one_is ∙ same ∙ texts.other_is) in
      false≢true (sym fails ∙ matched.agree p one_chosen.0 one_chosen.1 (subst (λ k. truth (second + k) ≡ true) (sym places) other_chosen.1))
  differ_by equal first second (Some p) None one_text other_text matched one_chosen other_chosen texts fails same =
      texts.other_is (subst (Contains (take c.constants c.values)) (sym texts.one_is ∙ same) (constant_there c is p one_chosen.0))
  differ_by equal first second None (Some q) one_text other_text matched one_chosen other_chosen texts fails same =
      texts.one_is (subst (Contains (take c.constants c.values)) (sym texts.other_is ∙ sym same) (constant_there c is q other_chosen.0))
  differ_by equal first second None None one_text other_text matched one_chosen other_chosen texts fails same = texts.differ fails refl refl same

  -- the variable of an attribute says whether the texts are one
  pub equal_texts : (equal first second : ℕ) (one other : Option ℕ) (one_text other_text : List ℕ) → Matched truth equal first second c → HasOne truth (whole_cell second c) → IsChosen truth first c one → IsChosen truth second c other
      → AreTexts truth equal c one other one_text other_text → truth equal ≡ bytes_eq one_text other_text
  equal_texts equal first second one other one_text other_text matched once one_chosen other_chosen texts = elim (cases_Bool (truth equal)) [
    | inl holds ↦ holds ∙ sym ((bytes_eq-Decides one_text other_text).1 (equal_by equal first second one other one_text other_text matched once one_chosen other_chosen texts holds))
    | inr fails ↦ fails ∙ sym (false_from_ne_true (bytes_eq one_text other_text) (λ same. differ_by equal first second one other one_text other_text matched one_chosen other_chosen texts fails ((bytes_eq-Decides one_text other_text).0 same)))
  ]
