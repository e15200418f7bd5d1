-- The names of a question: no two are the same, so each number comes back from its name.
use Rattle.std.proofs.Common.{inl, inr, ◌≡◌, ◌≢◌, ℕ, suc, ◌<◌, Bool, true, false, ◌&&◌, cond, List, [], ◌∷◌, ◌++◌, length, Option, Some, None, refl, sym, ap, ◌∙◌, subst, arith}
use Rattle.std.specs.Prelude.{slice_get, ◌==◌}
use Rattle.std.specs.List.{AllByRecursion}
use Rattle.std.specs.Str.{bytes_eq}
use Rattle.std.proofs.lemmas.Bool.{cases_Bool}
use Rattle.std.proofs.lemmas.List.Elements.{recursion_from_All}
use Rattle.std.proofs.lemmas.Slice.Eq.{bytes_eq-Decides}
use Rattle.text_lists.specs.Repeats.{AreDistinct}
use Rattle.schema_core.specs.Schemas.{names_of_attrs}
use Rattle.schema_core.specs.Lookups.{attr_number}
use Rattle.schema_core.specs.declared.schema.Attr.{Attr}
use Rattle.rule_parser.specs.RuleText.{attr_name}
use Rattle.rule_parser.proofs.Numbered.{attr_number-name}
use Rattle.cell_values.specs.declared.values.CellValues.{CellValues}
use Rattle.cell_values.proofs.Order.{Rising}
use Rattle.cert_text.specs.declared.answers.Kind.{Kind}
use Rattle.cert_text.specs.declared.answers.Kind.TheVariants.{Consistency, Implication}
use Rattle.cell_values.specs.declared.which.Which.{Which}
use Rattle.cell_values.specs.declared.which.Which.TheVariants.{Only, First, Second}
use Rattle.cert_text.specs.declared.names.CellName.{CellName}
use Rattle.cert_text.specs.declared.names.VarName.{VarName}
use Rattle.cert_text.specs.declared.names.VarName.TheVariants.{Value, Equal}
use Rattle.cert_check.specs.Names.{names_of, cell_name, value_vars, attr_vars, value_cells, attr_cells, same_tuple, same_cell, same_var, is_cell, var_number, cell_number}
use Rattle.cert_check.proofs.Apart.{Apart, Apart-append, AreOthers, Differ, IsPart, all_apart, each-append, each-map, each-more, own_place}

both_true : (a b : Bool) → (a && b) ≡ true → (a ≡ true) × (b ≡ true)
both_true true b is = (refl, is)
both_true false b is = absurd cc

each-all : {X : Type 0} (P : X → Type 0) (xs : List X) → ((x : X) → P x) → AllByRecursion P xs
each-all P [] holds = tt
each-all P (x ∷ xs) holds = (holds x, each-all P xs holds)

-- ---- tests of names

same_bytes : (xs : List ℕ) → bytes_eq xs xs ≡ true
same_bytes xs = (bytes_eq-Decides xs xs).1 refl

tuple_itself : (tuple : Which) → same_tuple tuple tuple ≡ true
tuple_itself Only = refl
tuple_itself First = refl
tuple_itself Second = refl

tuples_same : (one other : Which) → same_tuple one other ≡ true → one ≡ other
tuples_same Only Only is = refl
tuples_same Only First is = absurd cc
tuples_same Only Second is = absurd cc
tuples_same First Only is = absurd cc
tuples_same First First is = refl
tuples_same First Second is = absurd cc
tuples_same Second Only is = absurd cc
tuples_same Second First is = absurd cc
tuples_same Second Second is = refl

cell_itself : (cell : CellName) → same_cell cell cell ≡ true
cell_itself cell = ap (λ (b : Bool). b && bytes_eq cell.attr cell.attr) (tuple_itself cell.tuple) ∙ same_bytes cell.attr

cell_parts : (one other : CellName) → same_cell one other ≡ true → (one.tuple ≡ other.tuple) × (one.attr ≡ other.attr)
cell_parts one other is =
    let parts = both_true (same_tuple one.tuple other.tuple) (bytes_eq one.attr other.attr) is in
    (tuples_same one.tuple other.tuple parts.0, (bytes_eq-Decides one.attr other.attr).0 parts.1)

cells_same : (one other : CellName) → same_cell one other ≡ true → one ≡ other
cells_same one other is = let parts = cell_parts one other is in ap (λ (t : Which). cell_name t one.attr) parts.0 ∙ ap (λ (a : List ℕ). cell_name other.tuple a) parts.1

var_itself : (var : VarName) → same_var var var ≡ true
var_itself (Value cell value) = ap (λ (b : Bool). b && bytes_eq value value) (cell_itself cell) ∙ same_bytes value
var_itself (Equal attr) = same_bytes attr

vars_same : (one other : VarName) → same_var one other ≡ true → one ≡ other
vars_same (Value cell value) (Value other own) is =
    let parts = both_true (same_cell cell other) (bytes_eq value own) is in
    ap (λ (c : CellName). Value c value) (cells_same cell other parts.0) ∙ ap (λ (v : List ℕ). Value other v) ((bytes_eq-Decides value own).0 parts.1)
vars_same (Value cell value) (Equal other) is = absurd cc
vars_same (Equal attr) (Value other own) is = absurd cc
vars_same (Equal attr) (Equal other) is = ap (λ (a : List ℕ). Equal a) ((bytes_eq-Decides attr other).0 is)

-- ---- variables

abbrev pub is_var : VarName → VarName → Type 0
is_var var name = var ≡ name

vars_differ : (x y : VarName) → x ≢ y → Differ same_var is_var x y
vars_differ x y other name is = elim (cases_Bool (same_var name x)) [
  | inl same ↦ absurd (other (sym (is ∙ vars_same name x same)))
  | inr differ ↦ differ
]

var_named : (x name : VarName) → is_var x name → same_var name x ≡ true
var_named x name is = subst (λ (n : VarName). same_var n x ≡ true) is (var_itself x)

-- the attribute that a variable speaks of
abbrev pub attr_of : VarName → List ℕ
attr_of (Value cell value) = cell.attr
attr_of (Equal attr) = attr

abbrev pub VarOf : List ℕ → VarName → Type 0
VarOf attr var = attr_of var ≡ attr

other_var : (a b : List ℕ) (x y : VarName) → VarOf a x → VarOf b y → a ≢ b → Differ same_var is_var x y
other_var a b x y of_x of_y other = vars_differ x y (λ same. other (sym of_x ∙ ap attr_of same ∙ of_y))

abbrev pub part_vars : Kind → List Attr → CellValues → List VarName
part_vars kind attrs cell = attr_vars kind (attr_name attrs cell.attr) cell.values

value_vars_of : (tuple : Which) (attr : List ℕ) (values : List (List ℕ)) → AllByRecursion (VarOf attr) (value_vars tuple attr values)
value_vars_of tuple attr values = each-map (VarOf attr) (λ value. Value (cell_name tuple attr) value) values (λ value. refl)

vars_of : (kind : Kind) (attr : List ℕ) (values : List (List ℕ)) → AllByRecursion (VarOf attr) (attr_vars kind attr values)
vars_of Consistency attr values = value_vars_of Only attr values
vars_of Implication attr values = (refl, each-append (VarOf attr) (value_vars First attr values) (value_vars Second attr values) (value_vars_of First attr values) (value_vars_of Second attr values))

-- distinct texts, one after the other
abbrev pub AreOnce : List (List ℕ) → Type 0
AreOnce [] = Unit {0}
AreOnce (text ∷ texts) = AllByRecursion (λ other. text ≢ other) texts × AreOnce texts

pub once_if_distinct : (texts : List (List ℕ)) → AreDistinct texts → AreOnce texts
once_if_distinct [] distinct = tt
once_if_distinct (text ∷ texts) distinct = (
  recursion_from_All (λ other. text ≢ other) texts (λ k d within. distinct 0 (suc k) d (omega arith) (omega arith)),
  once_if_distinct texts (λ i j d less within. distinct (suc i) (suc j) d (omega arith) (omega arith)),
)

value_of : VarName → List ℕ
value_of (Value cell value) = value
value_of (Equal attr) = attr

values_apart_from : (tuple : Which) (attr text : List ℕ) (values : List (List ℕ)) → AllByRecursion (λ other. text ≢ other) values
    → AllByRecursion (Differ same_var is_var (Value (cell_name tuple attr) text)) (value_vars tuple attr values)
values_apart_from tuple attr text [] others = tt
values_apart_from tuple attr text (value ∷ values) others =
    (vars_differ (Value (cell_name tuple attr) text) (Value (cell_name tuple attr) value) (λ same. others.0 cc), values_apart_from tuple attr text values others.1)

values_apart : (tuple : Which) (attr : List ℕ) (values : List (List ℕ)) → AreOnce values → Apart same_var is_var (value_vars tuple attr values)
values_apart tuple attr [] once = tt
values_apart tuple attr (value ∷ values) once = (values_apart_from tuple attr value values once.0, values_apart tuple attr values once.1)

equality_differs : (attr : List ℕ) (tuple : Which) (values : List (List ℕ)) → AllByRecursion (Differ same_var is_var (Equal attr)) (value_vars tuple attr values)
equality_differs attr tuple values = each-map (Differ same_var is_var (Equal attr)) (λ value. Value (cell_name tuple attr) value) values (λ value. vars_differ (Equal attr) (Value (cell_name tuple attr) value) (λ same. cc))

tuple_of : VarName → Which
tuple_of (Value cell value) = cell.tuple
tuple_of (Equal attr) = Only

tuples_differ : (attr one other : List ℕ) → Value (cell_name First attr) one ≢ Value (cell_name Second attr) other
unfolding tuple_of
tuples_differ attr one other same = let tuples : First ≡ Second = ap tuple_of same in cc

vars_apart : (kind : Kind) (attr : List ℕ) (values : List (List ℕ)) → AreOnce values → Apart same_var is_var (attr_vars kind attr values)
vars_apart Consistency attr values once = values_apart Only attr values once
vars_apart Implication attr values once = (
  each-append (Differ same_var is_var (Equal attr)) (value_vars First attr values) (value_vars Second attr values) (equality_differs attr First values) (equality_differs attr Second values),
  Apart-append same_var is_var (value_vars First attr values) (value_vars Second attr values) (values_apart First attr values once) (values_apart Second attr values once)
      (each-map (λ x. AllByRecursion (Differ same_var is_var x) (value_vars Second attr values)) (λ value. Value (cell_name First attr) value) values
      (λ one. each-map (Differ same_var is_var (Value (cell_name First attr) one)) (λ value. Value (cell_name Second attr) value) values
      (λ other. vars_differ (Value (cell_name First attr) one) (Value (cell_name Second attr) other) (tuples_differ attr one other)))),
)

-- ---- cells

abbrev pub is_of : Option CellName → CellName → Type 0
is_of cell name = cell ≡ Some name

cell_named : (x : Option CellName) (name : CellName) → is_of x name → is_cell name x ≡ true
cell_named x name is = subst (λ (o : Option CellName). is_cell name o ≡ true) (sym is) (cell_itself name)

abbrev pub CellOf : List ℕ → Option CellName → Type 0
CellOf attr cell = (name : CellName) → cell ≡ Some name → name.attr ≡ attr

other_cell : (a b : List ℕ) (x y : Option CellName) → CellOf a x → CellOf b y → a ≢ b → Differ is_cell is_of x y
other_cell a b None y of_x of_y other name is = refl
other_cell a b (Some cell) y of_x of_y other name is = elim (cases_Bool (same_cell name cell)) [
  | inl same ↦ absurd (other (sym (of_x cell refl) ∙ sym (cell_parts name cell same).1 ∙ of_y name is))
  | inr differ ↦ differ
]

abbrev pub part_cells : Kind → List Attr → CellValues → List (Option CellName)
part_cells kind attrs cell = attr_cells kind (attr_name attrs cell.attr) cell.values

-- of the values of an attribute in a tuple there is one cell or none
value_cells_cases : (tuple : Which) (attr : List ℕ) (values : List (List ℕ)) (P : List (Option CellName) → Type 0) → P [] → P (Some (cell_name tuple attr) ∷ []) → P (value_cells tuple attr values)
value_cells_cases tuple attr values P none one = by_test (length values == 0) where
  by_test : (empty : Bool) → P (cond empty [] (Some (cell_name tuple attr) ∷ []))
  by_test true = none
  by_test false = one

its_cell : (tuple : Which) (attr : List ℕ) → CellOf attr (Some (cell_name tuple attr))
its_cell tuple attr name is = let same : cell_name tuple attr ≡ name = cc in sym (ap (λ (c : CellName). c.attr) same)

value_cells_of : (tuple : Which) (attr : List ℕ) (values : List (List ℕ)) → AllByRecursion (CellOf attr) (value_cells tuple attr values)
value_cells_of tuple attr values = value_cells_cases tuple attr values (AllByRecursion (CellOf attr)) tt (its_cell tuple attr, tt)

cells_of : (kind : Kind) (attr : List ℕ) (values : List (List ℕ)) → AllByRecursion (CellOf attr) (attr_cells kind attr values)
cells_of Consistency attr values = value_cells_of Only attr values
cells_of Implication attr values =
    (λ name is. absurd cc, each-append (CellOf attr) (value_cells First attr values) (value_cells Second attr values) (value_cells_of First attr values) (value_cells_of Second attr values))

value_cells_apart : (tuple : Which) (attr : List ℕ) (values : List (List ℕ)) → Apart is_cell is_of (value_cells tuple attr values)
value_cells_apart tuple attr values = value_cells_cases tuple attr values (Apart is_cell is_of) tt (tt, tt)

first_and_second : (attr : List ℕ) → Differ is_cell is_of (Some (cell_name First attr)) (Some (cell_name Second attr))
first_and_second attr name is = let tuple : Second ≡ name.tuple = ap (λ (c : CellName). c.tuple) (some_same is) in subst (λ (t : Which). same_cell (cell_name t name.attr) (cell_name First attr) ≡ false) tuple refl where
  some_same : Some (cell_name Second attr) ≡ Some name → cell_name Second attr ≡ name
  some_same same = cc

cells_apart : (kind : Kind) (attr : List ℕ) (values : List (List ℕ)) → Apart is_cell is_of (attr_cells kind attr values)
cells_apart Consistency attr values = value_cells_apart Only attr values
cells_apart Implication attr values =
    let ones = value_cells First attr values in
    let others = value_cells Second attr values in (
      each-all (Differ is_cell is_of None) (ones ++ others) (λ cell name is. refl),
      Apart-append is_cell is_of ones others (value_cells_apart First attr values) (value_cells_apart Second attr values)
          (value_cells_cases First attr values (AllByRecursion (λ x. AllByRecursion (Differ is_cell is_of x) others)) tt
          (value_cells_cases Second attr values (AllByRecursion (Differ is_cell is_of (Some (cell_name First attr)))) tt (first_and_second attr, tt), tt)),
    )

-- ---- all attributes

-- the attributes are rising ones of a table, and the values of each are distinct
pub record AreNumbered (attrs : List Attr) (cells : List CellValues) : Type 0 where
  pub distinct : AreDistinct (names_of_attrs attrs)
  pub rising : Rising cells
  pub within : AllByRecursion (λ (cell : CellValues). cell.attr < length attrs) cells
  pub once : AllByRecursion (λ (cell : CellValues). AreOnce cell.values) cells

names_apart_from : (attrs : List Attr) (cell : CellValues) (cells : List CellValues) → AreDistinct (names_of_attrs attrs) → cell.attr < length attrs → AllByRecursion (λ (later : CellValues). cell.attr < later.attr) cells → AllByRecursion (λ (later : CellValues). later.attr < length attrs) cells
    → AllByRecursion (λ (later : CellValues). attr_name attrs cell.attr ≢ attr_name attrs later.attr) cells
names_apart_from attrs cell [] distinct within above inside = tt
names_apart_from attrs cell (later ∷ cells) distinct within above inside = (
  λ same. let number : cell.attr ≡ later.attr = sym (attr_number-name attrs cell.attr distinct within) ∙ ap (attr_number attrs) same ∙ attr_number-name attrs later.attr distinct inside.0 in let less = above.0 in omega arith,
  names_apart_from attrs cell cells distinct within above.1 inside.1,
)

abbrev pub own_name : List Attr → CellValues → List ℕ
own_name attrs cell = attr_name attrs cell.attr

names_apart : (attrs : List Attr) (cells : List CellValues) → AreDistinct (names_of_attrs attrs) → Rising cells → AllByRecursion (λ (cell : CellValues). cell.attr < length attrs) cells
    → AreOthers (own_name attrs) cells
names_apart attrs [] distinct rising within = tt
names_apart attrs (cell ∷ cells) distinct rising within = (names_apart_from attrs cell cells distinct within.0 rising.0 within.1, names_apart attrs cells distinct rising.1 within.1)

module _ (kind : Kind) (attrs : List Attr) (cells : List CellValues) (numbered : AreNumbered attrs cells) where
  others : AreOthers (own_name attrs) cells
  others = names_apart attrs cells numbered.distinct numbered.rising numbered.within

  all_vars_apart : Apart same_var is_var (names_of kind attrs cells).vars
  all_vars_apart = all_apart same_var is_var VarOf other_var (part_vars kind attrs) (own_name attrs) cells others
      (each-more (λ (cell : CellValues). AreOnce cell.values) (IsPart same_var is_var VarOf other_var (part_vars kind attrs) (own_name attrs)) cells (λ cell once. (vars_of kind (own_name attrs cell) cell.values, vars_apart kind (own_name attrs cell) cell.values once)) numbered.once)

  all_cells_apart : Apart is_cell is_of (names_of kind attrs cells).cells
  all_cells_apart = all_apart is_cell is_of CellOf other_cell (part_cells kind attrs) (own_name attrs) cells others
      (each-all (IsPart is_cell is_of CellOf other_cell (part_cells kind attrs) (own_name attrs)) cells (λ cell. (cells_of kind (own_name attrs cell) cell.values, cells_apart kind (own_name attrs cell) cell.values)))

  -- the number comes back from the name
  pub var_back : (v : ℕ) (name : VarName) → slice_get (names_of kind attrs cells).vars v ≡ Some name → var_number (names_of kind attrs cells) name ≡ v
  var_back v name there = own_place same_var is_var var_named (names_of kind attrs cells).vars all_vars_apart v name name there refl

  pub cell_back : (at : ℕ) (name : CellName) → slice_get (names_of kind attrs cells).cells at ≡ Some (Some name) → cell_number (names_of kind attrs cells) name ≡ at
  cell_back at name there = own_place is_cell is_of cell_named (names_of kind attrs cells).cells all_cells_apart at (Some name) name there refl
