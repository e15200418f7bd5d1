-- Where the variables of each attribute begin.
use Rattle.std.proofs.Common.{◌≡◌, ℕ, ◌+◌, ◌<◌, ◌≤◌, Bool, true, false, cond, List, [], ◌∷◌, length, Option, Some, refl, ap, ◌∙◌, subst, inl, inr, arith}
use Rattle.std.specs.Prelude.{filter, find, nat_lt, nat_eq, Contains}
use Rattle.std.specs.List.{AllByRecursion}
use Rattle.std.specs.Option.{option_map_or}
use Rattle.std.proofs.lemmas.Bool.{cond-true, cond-false, lt-ltb, le-ltb, eq-eqb, ne_eqb}
use Rattle.std.proofs.lemmas.List.Sums.{sum_by-cons}
use Rattle.cfd_semantics.proofs.Members.{contains_cases, contains_nothing, contains-here, contains-there}
use Rattle.cell_values.specs.declared.which.Which.{Which}
use Rattle.cell_values.specs.declared.which.Which.TheVariants.{Only, First, Second}
use Rattle.cell_values.specs.declared.which.TupleCount.{TupleCount}
use Rattle.cell_values.specs.declared.which.TupleCount.TheVariants.{One, Two}
use Rattle.cell_values.specs.declared.values.CellValues.{CellValues}
use Rattle.cell_values.specs.Values.{attrs_before, values_before, values_for}
use Rattle.cell_values.specs.Layout.{attr_var, value_var, var_width}
use Rattle.cell_values.proofs.Counting.{size, sum_cond}

-- the attributes rise, and the first is at least so much
abbrev pub RisesFrom : ℕ → List CellValues → Type 0
RisesFrom low [] = Unit {0}
RisesFrom low (cell ∷ cells) = (low ≤ cell.attr) × RisesFrom (cell.attr + 1) cells

-- each attribute is below all that follow
abbrev pub Rising : List CellValues → Type 0
Rising [] = Unit {0}
Rising (cell ∷ cells) = AllByRecursion (λ (later : CellValues). cell.attr < later.attr) cells × Rising cells

all_above : (low below : ℕ) (cells : List CellValues) → below < low → RisesFrom low cells → AllByRecursion (λ (later : CellValues). below < later.attr) cells
all_above low below [] less rises = tt
all_above low below (c ∷ cs) less rises = let least = rises.0 in (omega arith, all_above (c.attr + 1) below cs (omega arith) rises.1)

pub rising_of : (low : ℕ) (cells : List CellValues) → RisesFrom low cells → Rising cells
rising_of low [] rises = tt
rising_of low (c ∷ cs) rises = (all_above (c.attr + 1) c.attr cs (omega arith) rises.1, rising_of (c.attr + 1) cs rises.1)

abbrev before : ℕ → CellValues → Bool
before attr cell = nat_lt cell.attr attr

values_cons : (attr : ℕ) (c : CellValues) (cs : List CellValues) (b : Bool) → nat_lt c.attr attr ≡ b → values_before (c ∷ cs) attr ≡ cond b (size c) 0 + values_before cs attr
values_cons attr c cs b is = sum_cond c (filter (before attr) cs) (before attr c) ∙ ap (λ t. cond t (size c) 0 + values_before cs attr) is

attrs_cons : (attr : ℕ) (c : CellValues) (cs : List CellValues) (b : Bool) → nat_lt c.attr attr ≡ b → attrs_before (c ∷ cs) attr ≡ cond b 1 0 + attrs_before cs attr
attrs_cons attr c cs b is = sum_by-cons (λ (x : CellValues). cond (before attr x) 1 0) c cs ∙ ap (λ t. cond t 1 0 + attrs_before cs attr) is

attr_var-none : (count : TupleCount) (attr : ℕ) → attr_var count [] attr ≡ 0
attr_var-none One attr = omega arith
attr_var-none Two attr = omega arith

pub attr_var-cons : (count : TupleCount) (attr : ℕ) (c : CellValues) (cs : List CellValues) (b : Bool) → nat_lt c.attr attr ≡ b → attr_var count (c ∷ cs) attr ≡ cond b (var_width count c) 0 + attr_var count cs attr
attr_var-cons One attr c cs true is = values_cons attr c cs true is
attr_var-cons One attr c cs false is = values_cons attr c cs false is
attr_var-cons Two attr c cs true is = omega (arith, attrs_cons attr c cs true is, values_cons attr c cs true is)
attr_var-cons Two attr c cs false is = omega (arith, attrs_cons attr c cs false is, values_cons attr c cs false is)

-- ---- in a list that rises

module _ (count : TupleCount) where
  -- the first attribute's variables stand first
  none_before : (attr low : ℕ) (cells : List CellValues) → RisesFrom low cells → attr ≤ low → attr_var count cells attr ≡ 0
  none_before attr low [] rises below = attr_var-none count attr
  none_before attr low (c ∷ cs) rises below =
      let least = rises.0 in
      let rest = none_before attr (c.attr + 1) cs rises.1 (omega arith) in
      omega (arith, attr_var-cons count attr c cs false (le-ltb c.attr attr (omega arith)))

  pub attr_var_here : (low : ℕ) (c : CellValues) (cs : List CellValues) → RisesFrom low (c ∷ cs) → attr_var count (c ∷ cs) c.attr ≡ 0
  attr_var_here low c cs rises = none_before c.attr c.attr (c ∷ cs) (omega arith, rises.1) (omega arith)

  pub attr_var_next : (attr : ℕ) (c : CellValues) (cs : List CellValues) → c.attr < attr → attr_var count (c ∷ cs) attr ≡ var_width count c + attr_var count cs attr
  attr_var_next attr c cs less = attr_var-cons count attr c cs true (lt-ltb c.attr attr less)

pub rises_above : (low : ℕ) (cells : List CellValues) (c : CellValues) → RisesFrom low cells → Contains cells c → low ≤ c.attr
rises_above low [] c rises there = absurd (contains_nothing c there)
rises_above low (d ∷ ds) c rises there = elim (contains_cases c d ds there) [
  | inl same ↦ subst (λ (x : CellValues). low ≤ x.attr) same rises.0
  | inr more ↦ let above = rises_above (d.attr + 1) ds c rises.1 more in let least = rises.0 in omega arith
]

-- an attribute that is there is found
pub find_at : (low : ℕ) (cells : List CellValues) (c : CellValues) → RisesFrom low cells → Contains cells c → find (λ (x : CellValues). nat_eq x.attr c.attr) cells ≡ Some c
find_at low [] c rising there = absurd (contains_nothing c there)
find_at low (d ∷ ds) c rising there = elim (contains_cases c d ds there) [
  | inl same ↦ subst (λ (x : CellValues). find (λ (y : CellValues). nat_eq y.attr x.attr) (d ∷ ds) ≡ Some x) same (cond-true (nat_eq d.attr d.attr) (Some d) (find (λ (y : CellValues). nat_eq y.attr d.attr) ds) (eq-eqb d.attr d.attr refl))
  | inr more ↦
      let above = rises_above (d.attr + 1) ds c rising.1 more in
      cond-false (nat_eq d.attr c.attr) (Some d) (find (λ (y : CellValues). nat_eq y.attr c.attr) ds) (ne_eqb d.attr c.attr (λ e. omega arith)) ∙ find_at (d.attr + 1) ds c rising.1 more
]

pub values_at : (low : ℕ) (cells : List CellValues) (c : CellValues) → RisesFrom low cells → Contains cells c → values_for cells c.attr ≡ c.values
values_at low cells c rises there = ap (λ (o : Option CellValues). option_map_or (λ (cell : CellValues). cell.values) o []) (find_at low cells c rises there)

-- ---- the variables of a tuple among those of an attribute

-- the tuple is one of so many
abbrev pub IsWhichOf : TupleCount → Which → Type 0
IsWhichOf One Only = Unit {0}
IsWhichOf One First = ⊥
IsWhichOf One Second = ⊥
IsWhichOf Two Only = ⊥
IsWhichOf Two First = Unit {0}
IsWhichOf Two Second = Unit {0}

abbrev pub ArePair : TupleCount → Type 0
ArePair One = ⊥
ArePair Two = Unit {0}

-- where the variables of its values begin
abbrev pub offset : Which → CellValues → ℕ
offset Only cell = 0
offset First cell = 1
offset Second cell = 1 + length cell.values

pub value_var_at : (count : TupleCount) (which : Which) → IsWhichOf count which → (low : ℕ) (cells : List CellValues) (c : CellValues) → RisesFrom low cells → Contains cells c → value_var which cells c.attr ≡ attr_var count cells c.attr + offset which c
value_var_at One Only is low cells c rises there = omega arith
value_var_at One First is low cells c rises there = absurd is
value_var_at One Second is low cells c rises there = absurd is
value_var_at Two Only is low cells c rises there = absurd is
value_var_at Two First is low cells c rises there = refl
value_var_at Two Second is low cells c rises there = omega (arith, ap (λ (vs : List (List ℕ)). length vs) (values_at low cells c rises there))

-- and within
pub offset_within : (count : TupleCount) (which : Which) (c : CellValues) → IsWhichOf count which → offset which c + length c.values ≤ var_width count c
offset_within One Only c is = omega arith
offset_within One First c is = absurd is
offset_within One Second c is = absurd is
offset_within Two Only c is = absurd is
offset_within Two First c is = omega arith
offset_within Two Second c is = omega arith

-- ---- what is true of each attribute's variables

-- of each attribute with its first variable
abbrev pub Placed : TupleCount → (ℕ → CellValues → Type 0) → ℕ → List CellValues → Type 0
Placed count P first [] = Unit {0}
Placed count P first (c ∷ cs) = P first c × Placed count P (first + var_width count c) cs

module _ (count : TupleCount) (P : ℕ → CellValues → Type 0) where
  pub placed_at : (first low : ℕ) (cells : List CellValues) (c : CellValues) → RisesFrom low cells → Placed count P first cells → Contains cells c → P (first + attr_var count cells c.attr) c
  placed_at first low [] c rises placed there = absurd (contains_nothing c there)
  placed_at first low (d ∷ ds) c rises placed there = elim (contains_cases c d ds there) [
    | inl same ↦
        let here : first ≡ first + attr_var count (d ∷ ds) d.attr = omega (arith, attr_var_here count low d ds rises) in
        subst (λ (x : CellValues). P (first + attr_var count (d ∷ ds) x.attr) x) same (subst (λ n. P n d) here placed.0)
    | inr more ↦
        let above = rises_above (d.attr + 1) ds c rises.1 more in
        let next : first + var_width count d + attr_var count ds c.attr ≡ first + attr_var count (d ∷ ds) c.attr = omega (arith, attr_var_next count c.attr d ds (omega arith)) in
        subst (λ n. P n c) next (placed_at (first + var_width count d) (d.attr + 1) ds c rises.1 placed.1 more)
  ]

  pub placed_by : (first low : ℕ) (cells : List CellValues) → RisesFrom low cells → ((c : CellValues) → Contains cells c → P (first + attr_var count cells c.attr) c) → Placed count P first cells
  placed_by first low [] rises each = tt
  placed_by first low (d ∷ ds) rises each =
      let here : first + attr_var count (d ∷ ds) d.attr ≡ first = omega (arith, attr_var_here count low d ds rises) in (
        subst (λ n. P n d) here (each d (contains-here d ds)),
        placed_by (first + var_width count d) (d.attr + 1) ds rises.1 (λ c there.
            let above = rises_above (d.attr + 1) ds c rises.1 there in
            let next : first + attr_var count (d ∷ ds) c.attr ≡ first + var_width count d + attr_var count ds c.attr = omega (arith, attr_var_next count c.attr d ds (omega arith)) in
            subst (λ n. P n c) next (each c (contains-there c d ds there))),
      )
