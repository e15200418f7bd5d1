-- What the literals of a cell say of a text, where the variables say which value the text counts as.
use Rattle.std.proofs.Common.{inl, inr, ◌≡◌, ℕ, zero, suc, ◌+◌, ◌<◌, ◌≤◌, Bool, true, false, not, cond, List, [], ◌∷◌, length, get_or, take, Contains, refl, sym, ap, ◌∙◌, subst, arith}
use Rattle.std.specs.Prelude.{nat_lt, All}
use Rattle.std.specs.List.{Any}
use Rattle.std.specs.Str.{bytes_eq}
use Rattle.std.proofs.lemmas.Bool.{cases_Bool, cases_lt, not-true, lt-ltb, le-ltb}
use Rattle.std.proofs.lemmas.List.{length-take-le, get_or-take, get_or_default}
use Rattle.std.proofs.lemmas.List.Elements.{All-contains}
use Rattle.cell_values.proofs.Anys.{Any-nil, Any-here, Any-there, Any-cases}
use Rattle.std.proofs.lemmas.Slice.Eq.{bytes_eq-Decides}
use Rattle.cfd_semantics.specs.declared.pattern.Pattern.{Pattern}
use Rattle.cfd_semantics.specs.declared.pattern.Pattern.TheVariants as patterns
use Rattle.cfd_semantics.specs.Pattern.{is_set, matches}
use Rattle.text_lists.specs.Repeats.{AreDistinct, is_among}
use Rattle.rule_model.specs.Declarations.{constants_of}
use Rattle.case_tree.specs.CaseTree.{IsTrueUnder}
use Rattle.cell_values.specs.declared.values.CellValues.{CellValues}
use Rattle.cell_values.specs.Literals.{literals_where, matches_as, meets, misses}
use Rattle.cell_values.specs.Standing.{counts_as, Agrees}
use Rattle.cell_values.proofs.Among.{not_among, absent_if_not}

abbrev pub constants : CellValues → List (List ℕ)
constants v = take v.constants v.values

-- The values of an attribute are distinct: constants, and at most one more, which is none of them. Where it is demanded
-- that a tuple has one there is one, and where it isn't all are constants.
pub record AreValues (v : CellValues) : Type 0 where
  pub bound : v.constants ≤ length v.values
  pub few : length v.values ≤ v.constants + 1
  pub distinct : AreDistinct v.values
  pub some : v.demanded ≡ true → 0 < length v.values
  pub all_constants : v.demanded ≡ false → length v.values ≤ v.constants
  pub other : (place : ℕ) → v.constants ≤ place → place < length v.values → ¬ Contains (constants v) (get_or v.values place [])

-- the constants of the cell are among those of the attribute, and a set is only where each text counts as some value
pub record IsKnownCell (v : CellValues) (cell : Pattern (List ℕ)) : Type 0 where
  pub constants : All (Contains (constants v)) (constants_of cell)
  pub covered : is_set cell ≡ true → v.demanded ≡ true

-- the text counts as some value, where that is demanded
abbrev pub IsCovered : CellValues → List ℕ → Type 0
IsCovered v text = v.demanded ≡ true → (place : ℕ) × (place < length v.values) × (counts_as v text place ≡ true)

-- ---- literals

module _ (truth : ℕ → Bool) (test : List ℕ → Bool) (positive : Bool) where
  -- a value that passes the test, whose variable has the truth value
  pub record IsTold (first : ℕ) (values : List (List ℕ)) : Type 0 where
    pub place : ℕ
    pub within : place < length values
    pub passes : test (get_or values place []) ≡ true
    pub is_true : truth (first + place) ≡ positive

  told_next : (first : ℕ) (value : List ℕ) (values : List (List ℕ)) → IsTold (first + 1) values → IsTold first (value ∷ values)
  told_next first value values told = record {
    place = suc told.place;
    within = let bound = told.within in omega arith;
    passes = told.passes;
    is_true = let same : first + suc told.place ≡ first + 1 + told.place = omega arith in rw same told.is_true;
  }

  told_here : (first : ℕ) (value : List ℕ) (values : List (List ℕ)) → test value ≡ true → truth first ≡ positive → IsTold first (value ∷ values)
  told_here first value values passes is_true = record {
    place = 0;
    within = omega arith;
    passes = passes;
    is_true = let same : first + 0 ≡ first = omega arith in rw same is_true;
  }

  abbrev Lits : ℕ → List (List ℕ) → Type 0
  Lits first values = Any (IsTrueUnder truth) (literals_where test positive first values)

  abbrev LitsAt : ℕ → List ℕ → List (List ℕ) → Bool → Type 0
  LitsAt first value values b = Any (IsTrueUnder truth) (cond b (record { var = first; positive = positive } ∷ literals_where test positive (first + 1) values) (literals_where test positive (first + 1) values))

  pub told_of_true : (first : ℕ) (values : List (List ℕ)) → Lits first values → IsTold first values
  told_of_true first [] any = absurd (Any-nil (IsTrueUnder truth) any)
  told_of_true first (value ∷ values) any = elim (cases_Bool (test value)) [
    | inl passes ↦ elim (Any-cases (IsTrueUnder truth) (record { var = first; positive = positive }) (literals_where test positive (first + 1) values) (subst (LitsAt first value values) passes any)) [
      | inl here ↦ told_here first value values passes here
      | inr there ↦ told_next first value values (told_of_true (first + 1) values there)
    ]
    | inr fails ↦ told_next first value values (told_of_true (first + 1) values (subst (LitsAt first value values) fails any))
  ]

  lits_skip : (first : ℕ) (value : List ℕ) (values : List (List ℕ)) (b : Bool) → Lits (first + 1) values → LitsAt first value values b
  lits_skip first value values true any = Any-there (IsTrueUnder truth) (record { var = first; positive = positive }) (literals_where test positive (first + 1) values) any
  lits_skip first value values false any = any

  pub true_of_told : (first : ℕ) (values : List (List ℕ)) (place : ℕ) → place < length values → test (get_or values place []) ≡ true → truth (first + place) ≡ positive → Lits first values
  true_of_told first [] place within passes is_true = absurd (omega arith)
  true_of_told first (value ∷ values) zero within passes is_true =
      let same : first + 0 ≡ first = omega arith in
      subst (LitsAt first value values) (sym passes) (Any-here (IsTrueUnder truth) (record { var = first; positive = positive }) (literals_where test positive (first + 1) values) (subst (λ (var : ℕ). truth var ≡ positive) same is_true))
  true_of_told first (value ∷ values) (suc place) within passes is_true =
      let same : first + suc place ≡ first + 1 + place = omega arith in
      lits_skip first value values (test value) (true_of_told (first + 1) values place (omega arith) passes (subst (λ (var : ℕ). truth var ≡ positive) same is_true))

-- ---- which value a text counts as

module _ (v : CellValues) (text : List ℕ) where
  -- a constant
  pub counts_constant : (place : ℕ) → place < v.constants → counts_as v text place ≡ bytes_eq (get_or v.values place []) text
  counts_constant place low = let test : nat_lt place v.constants ≡ true = lt-ltb place v.constants low in rw test refl

  pub counts_other : (place : ℕ) → v.constants ≤ place → counts_as v text place ≡ not (is_among bytes_eq (constants v) text)
  counts_other place high = let test : nat_lt place v.constants ≡ false = le-ltb place v.constants high in rw test refl

  pub is_constant : (place : ℕ) → place < v.constants → counts_as v text place ≡ true → get_or v.values place [] ≡ text
  is_constant place low counts = (bytes_eq-Decides (get_or v.values place []) text).0 (sym (counts_constant place low) ∙ counts)

  pub is_other : (place : ℕ) → v.constants ≤ place → counts_as v text place ≡ true → ¬ Contains (constants v) text
  is_other place high counts = absent_if_not (constants v) text (not-true (is_among bytes_eq (constants v) text) (sym (counts_other place high) ∙ counts))

  -- a text that is a constant counts as it
  pub counted_constant : AreValues v → Contains (constants v) text → (place : ℕ) × (place < v.constants) × (place < length v.values) × (get_or v.values place [] ≡ text) × (counts_as v text place ≡ true)
  counted_constant good (k, within, is) =
      let size = length-take-le v.constants v.values good.bound in
      let low : k < v.constants = omega arith in
      let inside : k < length v.values = omega (arith, good.bound) in
      let same : get_or v.values k [] ≡ text = get_or_default v.values k [] text inside ∙ sym (get_or-take v.constants v.values k text low) ∙ is in
      (k, low, inside, same, counts_constant k low ∙ (bytes_eq-Decides (get_or v.values k []) text).1 same)

  -- every other text counts as the other-value
  pub counted_other : ¬ Contains (constants v) text → (place : ℕ) → v.constants ≤ place → counts_as v text place ≡ true
  counted_other absent place high = counts_other place high ∙ ap not (not_among (constants v) text absent)

-- what a cell asks, when the text is none of the constants
abbrev outside : Pattern (List ℕ) → Bool
outside patterns.Any = true
outside (patterns.Is constant) = false
outside (patterns.In members) = false
outside (patterns.NotIn members) = true

not_member : (known members : List (List ℕ)) (text : List ℕ) → All (Contains known) members → ¬ Contains known text → is_among bytes_eq members text ≡ false
not_member known members text all absent = not_among members text (λ there. absent (All-contains (Contains known) members text all there))

matches_outside : (v : CellValues) (cell : Pattern (List ℕ)) (text : List ℕ) → IsKnownCell v cell → ¬ Contains (constants v) text → matches bytes_eq cell text ≡ outside cell
matches_outside v patterns.Any text known absent = refl
matches_outside v (patterns.Is constant) text known absent = elim (cases_Bool (bytes_eq constant text)) [
  | inl same ↦ absurd (absent (subst (Contains (constants v)) ((bytes_eq-Decides constant text).0 same) (known.constants 0 constant (omega arith))))
  | inr not ↦ not
]
matches_outside v (patterns.In members) text known absent = not_member (constants v) members text known.constants absent
matches_outside v (patterns.NotIn members) text known absent = ap not (not_member (constants v) members text known.constants absent)

module _ (v : CellValues) (good : AreValues v) (cell : Pattern (List ℕ)) (known : IsKnownCell v cell) (text : List ℕ) where
  -- a cell can't tell a text from the value that it counts as
  pub same_match : (place : ℕ) → place < length v.values → counts_as v text place ≡ true → matches bytes_eq cell (get_or v.values place []) ≡ matches bytes_eq cell text
  same_match place within counts = elim (cases_lt place v.constants) [
    | inl low ↦ ap (matches bytes_eq cell) (is_constant v text place low counts)
    | inr high ↦
        matches_outside v cell (get_or v.values place []) known (good.other place high within)
        ∙ sym (matches_outside v cell text known (is_other v text place high counts))
  ]

  module _ (truth : ℕ → Bool) (first : ℕ) (agrees : Agrees truth first v text) where
    -- where a variable of `meets` is true, the text matches
    pub match_if_meets : Any (IsTrueUnder truth) (meets first v.values cell) → matches bytes_eq cell text ≡ true
    match_if_meets any =
        let told = told_of_true truth (matches bytes_eq cell) true first v.values any in
        sym (same_match told.place told.within (sym (agrees told.place told.within) ∙ told.is_true)) ∙ told.passes

    -- and a variable is true where the text counts as some value
    pub meets_if_match : (place : ℕ) → place < length v.values → counts_as v text place ≡ true → matches bytes_eq cell text ≡ true → Any (IsTrueUnder truth) (meets first v.values cell)
    meets_if_match place within counts passes =
        true_of_told truth (matches bytes_eq cell) true first v.values place within (same_match place within counts ∙ passes) (agrees place within ∙ counts)

    misses_set : Any (IsTrueUnder truth) (literals_where (matches_as false cell) true first v.values) → matches bytes_eq cell text ≡ false
    misses_set any =
        let told = told_of_true truth (matches_as false cell) true first v.values any in
        sym (same_match told.place told.within (sym (agrees told.place told.within) ∙ told.is_true)) ∙ not-true (matches bytes_eq cell (get_or v.values told.place [])) told.passes

    set_misses : (place : ℕ) → place < length v.values → counts_as v text place ≡ true → matches bytes_eq cell text ≡ false → Any (IsTrueUnder truth) (literals_where (matches_as false cell) true first v.values)
    set_misses place within counts fails =
        true_of_told truth (matches_as false cell) true first v.values place within (ap not (same_match place within counts ∙ fails)) (agrees place within ∙ counts)

-- the literal of a constant
module _ (v : CellValues) (good : AreValues v) (constant : List ℕ) (known : Contains (constants v) constant) (text : List ℕ) (truth : ℕ → Bool) (first : ℕ) (agrees : Agrees truth first v text) where
  constant_misses : Any (IsTrueUnder truth) (literals_where (bytes_eq constant) false first v.values) → bytes_eq constant text ≡ false
  constant_misses any =
      let told = told_of_true truth (bytes_eq constant) false first v.values any in
      let same : constant ≡ get_or v.values told.place [] = (bytes_eq-Decides constant (get_or v.values told.place [])).0 told.passes in
      let counts : counts_as v text told.place ≡ false = sym (agrees told.place told.within) ∙ told.is_true in
      elim (cases_lt told.place v.constants) [
        | inl low ↦ ap (λ (c : List ℕ). bytes_eq c text) same ∙ sym (counts_constant v text told.place low) ∙ counts
        | inr high ↦ absurd (good.other told.place high told.within (subst (Contains (constants v)) same known))
      ]

  misses_constant : bytes_eq constant text ≡ false → Any (IsTrueUnder truth) (literals_where (bytes_eq constant) false first v.values)
  misses_constant differs =
      let (place, low, within, is, itself) = counted_constant v constant good known in
      true_of_told truth (bytes_eq constant) false first v.values place within ((bytes_eq-Decides constant (get_or v.values place [])).1 (sym is))
      (agrees place within ∙ counts_constant v text place low ∙ ap (λ (c : List ℕ). bytes_eq c text) is ∙ differs)

module _ (v : CellValues) (good : AreValues v) (text : List ℕ) (covered : IsCovered v text) (truth : ℕ → Bool) (first : ℕ) (agrees : Agrees truth first v text) where
  -- what `misses` says
  pub differ_if_misses : (cell : Pattern (List ℕ)) → IsKnownCell v cell → Any (IsTrueUnder truth) (misses first v.values cell) → matches bytes_eq cell text ≡ false
  differ_if_misses patterns.Any known any = absurd (Any-nil (IsTrueUnder truth) any)
  differ_if_misses (patterns.Is constant) known any = constant_misses v good constant (known.constants 0 constant (omega arith)) text truth first agrees any
  differ_if_misses (patterns.In members) known any = misses_set v good (patterns.In members) known text truth first agrees any
  differ_if_misses (patterns.NotIn members) known any = misses_set v good (patterns.NotIn members) known text truth first agrees any

  pub misses_if_differ : (cell : Pattern (List ℕ)) → IsKnownCell v cell → matches bytes_eq cell text ≡ false → Any (IsTrueUnder truth) (misses first v.values cell)
  misses_if_differ patterns.Any known fails = absurd cc
  misses_if_differ (patterns.Is constant) known fails = misses_constant v good constant (known.constants 0 constant (omega arith)) text truth first agrees fails
  misses_if_differ (patterns.In members) known fails =
      let (place, within, counts) = covered (known.covered refl) in
      set_misses v good (patterns.In members) known text truth first agrees place within counts fails
  misses_if_differ (patterns.NotIn members) known fails =
      let (place, within, counts) = covered (known.covered refl) in
      set_misses v good (patterns.NotIn members) known text truth first agrees place within counts fails

  -- what `meets` says of a cell that isn't `_`
  pub meets_if_matches : (cell : Pattern (List ℕ)) → IsKnownCell v cell → ¬ (cell ≡ patterns.Any) → matches bytes_eq cell text ≡ true → Any (IsTrueUnder truth) (meets first v.values cell)
  meets_if_matches patterns.Any known some passes = absurd (some refl)
  meets_if_matches (patterns.Is constant) known some passes =
      let same : constant ≡ text = (bytes_eq-Decides constant text).0 passes in
      let (place, low, within, is, counts) = counted_constant v text good (subst (Contains (constants v)) same (known.constants 0 constant (omega arith))) in
      meets_if_match v good (patterns.Is constant) known text truth first agrees place within counts passes
  meets_if_matches (patterns.In members) known some passes =
      let (place, within, counts) = covered (known.covered refl) in
      meets_if_match v good (patterns.In members) known text truth first agrees place within counts passes
  meets_if_matches (patterns.NotIn members) known some passes =
      let (place, within, counts) = covered (known.covered refl) in
      meets_if_match v good (patterns.NotIn members) known text truth first agrees place within counts passes
