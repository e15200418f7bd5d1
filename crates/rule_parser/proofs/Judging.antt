-- A valid dependency that is written with names is judged to be the same dependency.
use Rattle.std.proofs.Common.{◌≡◌, ℕ, zero, suc, ◌<◌, Bool, true, false, not, eqb, ◌&&◌, List, [], ◌∷◌, length, get_or, map, Option, Some, None, refl, ap, sym, ◌∙◌, subst, arith}
use Rattle.std.specs.Prelude.{Ok, is_some, find, slice_index}
use Rattle.std.specs.List.{AllByRecursion, AllZip, zip, list_any}
use Rattle.std.specs.Option.{option_map, option_or}
use Rattle.std.specs.Str.{bytes_eq}
use Rattle.std.proofs.lemmas.Bool.{cond-false, or_left, or_right, eq-eqb}
use Rattle.std.proofs.lemmas.List.{length-map, get_or-map}
use Rattle.std.proofs.lemmas.List.Elements.{recursion_from_All}
use Rattle.std.proofs.lemmas.Slice.Eq.{bytes_eq-Decides}
use Rattle.text_lists.specs.Firsts.{first_of, first_in}
use Rattle.text_lists.specs.Repeats.{AreDistinct, first_repeated}
use Rattle.schema_core.specs.Schemas.{Admits, admits, table_place, IsValidSchema, names_of_attrs}
use Rattle.schema_core.specs.declared.schema.Domain.{Domain}
use Rattle.schema_core.specs.declared.schema.Domain.TheVariants.{AnyText, Finite}
use Rattle.schema_core.specs.declared.schema.Attr.{Attr}
use Rattle.schema_core.specs.declared.schema.Schema.{Schema}
use Rattle.text_lists.proofs.RepeatLemmas.{bytes_eq-tells, first_repeated-none}
use Rattle.cfd_semantics.specs.declared.pattern.Pattern.{Pattern}
use Rattle.cfd_semantics.specs.declared.pattern.Pattern.TheVariants.{Any, Is, In, NotIn}
use Rattle.cfd_semantics.specs.declared.dependency.TableauRow.{TableauRow}
use Rattle.rule_model.specs.declared.decl.CfdRow.{CfdRow}
use Rattle.rule_model.specs.declared.decl.CfdDecl.{CfdDecl}
use Rattle.rule_model.specs.declared.decl.Decl.TheVariants.{Cfd}
use Rattle.rule_model.specs.declared.dep.Dep.{Dep}
use Rattle.rule_model.specs.declared.fault.RuleFault.TheVariants.{UnknownTable, UnknownAttr, RepeatedAttr, WidthMismatch, ConstantOutsideDomain, RepeatedConstant}
use Rattle.rule_model.specs.Declarations.{constants_of}
use Rattle.schema_core.specs.Lookups.{attrs_at, attrs_of, attr_number, attr_numbers, domain_at, domain_of}
use Rattle.rule_model.specs.Rules.{AreAttrsOf, IsConstantOf, IsCellOf, IsValidRow, IsValidDep}
use Rattle.rule_model.specs.Rules as rules
use Rattle.rule_model.specs.Faults.{unless, unknown_in, repeated_in, outside_in_cell, outside_in_row, repeated_in_cell, repeated_in_row, schema_tests}
use Rattle.rule_model.specs.Judged.{unless_fault, judged_dep}
use Rattle.rule_parser.specs.RuleText.{table_name, attr_name}
use Rattle.rule_parser.proofs.Numbered.{place_of-name, attr_number-name, table_place-name, table_number-name, attrs_at-distinct}

-- the declaration that the text of a dependency with one row is read as
abbrev pub cfd_of : Schema → Dep → TableauRow (List ℕ) → CfdDecl
cfd_of schema dep row =
    let attrs = attrs_at schema dep.table in
    record {
      name = [];
      table = table_name schema dep.table;
      x = map (attr_name attrs) dep.rule.x;
      y = attr_name attrs dep.rule.a ∷ [];
      rows = record { x = row.x; y = row.a ∷ [] } ∷ [];
    }

-- ---- tests that find nothing

none_in_all : {X Y : Type 0} (test : X → Option Y) (xs : List X) → AllByRecursion (λ x. test x ≡ None) xs → first_in test xs ≡ None
none_in_all test [] none = refl
none_in_all test (x ∷ xs) none = ap (λ found. option_or found (first_in test xs)) none.0 ∙ none_in_all test xs none.1

none_first : {Y : Type 0} (tests : List (Option Y)) → AllByRecursion (λ test. test ≡ None) tests → first_of tests ≡ None
none_first [] none = refl
none_first (test ∷ tests) none = ap (λ found. option_or found (first_of tests)) none.0 ∙ none_first tests none.1

find_none : {X : Type 0} (test : X → Bool) (xs : List X) → AllByRecursion (λ x. test x ≡ false) xs → find test xs ≡ None
find_none test [] fails = refl
find_none test (x ∷ xs) fails = cond-false (test x) (Some x) (find test xs) fails.0 ∙ find_none test xs fails.1

-- ---- names

known_names : (attrs : List Attr) (xs : List ℕ) → AreDistinct (names_of_attrs attrs) → AllByRecursion (λ n. n < length attrs) xs → unknown_in attrs (map (attr_name attrs) xs) ≡ None
known_names attrs [] distinct inside = refl
known_names attrs (n ∷ xs) distinct inside =
    ap (λ (place : Option ℕ). option_or (unless (is_some place) (UnknownAttr (attr_name attrs n))) (unknown_in attrs (map (attr_name attrs) xs))) (place_of-name attrs n distinct inside.0)
    ∙ known_names attrs xs distinct inside.1

numbers_back : (attrs : List Attr) (xs : List ℕ) → AreDistinct (names_of_attrs attrs) → AllByRecursion (λ n. n < length attrs) xs → attr_numbers attrs (map (attr_name attrs) xs) ≡ xs
numbers_back attrs [] distinct inside = refl
numbers_back attrs (n ∷ xs) distinct inside =
    ap (λ m. m ∷ attr_numbers attrs (map (attr_name attrs) xs)) (attr_number-name attrs n distinct inside.0) ∙ ap (λ ms. n ∷ ms) (numbers_back attrs xs distinct inside.1)

names_distinct : (attrs : List Attr) (xs : List ℕ) → AreDistinct (names_of_attrs attrs) → AreAttrsOf attrs xs → AreDistinct xs → AreDistinct (map (attr_name attrs) xs)
names_distinct attrs xs distinct inside once = λ i j d lt within same.
    let j_within : j < length xs = omega (arith, length-map xs (attr_name attrs)) in
    let i_within : i < length xs = omega arith in
    once i j 0 lt j_within
    (sym (attr_number-name attrs (get_or xs i 0) distinct (inside i 0 i_within))
    ∙ ap (attr_number attrs) (sym (get_or-map (attr_name attrs) xs i 0 d i_within) ∙ same ∙ get_or-map (attr_name attrs) xs j 0 d j_within)
    ∙ attr_number-name attrs (get_or xs j 0) distinct (inside j 0 j_within))

none_repeated : (names : List (List ℕ)) → AreDistinct names → repeated_in names ≡ None
none_repeated names distinct = ap (option_map RepeatedAttr) (first_repeated-none bytes_eq bytes_eq-tells names distinct)

-- ---- cells

any_there : (values : List (List ℕ)) (text : List ℕ) (k : ℕ) → k < length values → get_or values k text ≡ text → list_any (λ v. bytes_eq v text) values ≡ true
any_there [] text k inside is = absurd (omega arith)
any_there (v ∷ values) text zero inside is = or_left (bytes_eq v text) (list_any (λ w. bytes_eq w text) values) ((bytes_eq-Decides v text).1 is)
any_there (v ∷ values) text (suc k) inside is = or_right (bytes_eq v text) (list_any (λ w. bytes_eq w text) values) (any_there values text k (omega arith) is)

admitted : (domain : Domain) (value : List ℕ) → Admits domain value → admits domain value ≡ true
admitted AnyText value there = refl
admitted (Finite values) value there = any_there values value there.0 there.1 there.2

all_inside : (domain : Domain) (values : List (List ℕ)) → AllByRecursion (IsConstantOf domain) values → AllByRecursion (λ value. not (admits domain value) ≡ false) values
all_inside domain [] are = tt
all_inside domain (v ∷ values) are = (ap not (admitted domain v are.0.admitted), all_inside domain values are.1)

constants_inside : (domain : Domain) (cell : Pattern (List ℕ)) → IsCellOf domain cell → AllByRecursion (λ value. not (admits domain value) ≡ false) (constants_of cell)
constants_inside domain Any is = tt
constants_inside domain (Is value) is = all_inside domain (value ∷ []) (is, tt)
constants_inside domain (In values) is = all_inside domain values (recursion_from_All (IsConstantOf domain) values is.each)
constants_inside domain (NotIn values) is = all_inside domain values (recursion_from_All (IsConstantOf domain) values is.each)

members_once : (domain : Domain) (cell : Pattern (List ℕ)) → IsCellOf domain cell → first_repeated bytes_eq (constants_of cell) ≡ None
members_once domain Any is = refl
members_once domain (Is value) is = refl
members_once domain (In values) is = first_repeated-none bytes_eq bytes_eq-tells values is.distinct
members_once domain (NotIn values) is = first_repeated-none bytes_eq bytes_eq-tells values is.distinct

cell_fine : (attrs : List Attr) (n : ℕ) (cell : Pattern (List ℕ)) → AreDistinct (names_of_attrs attrs) → n < length attrs → IsCellOf (domain_at attrs n) cell → outside_in_cell attrs (attr_name attrs n, cell) ≡ None
cell_fine attrs n cell distinct inside is =
    let same : domain_of attrs (attr_name attrs n) ≡ domain_at attrs n = ap (domain_at attrs) (attr_number-name attrs n distinct inside) in
    ap (λ domain. option_map (λ value. ConstantOutsideDomain (attr_name attrs n) value) (find (λ value. not (admits domain value)) (constants_of cell))) same
    ∙ ap (option_map (λ value. ConstantOutsideDomain (attr_name attrs n) value)) (find_none (λ value. not (admits (domain_at attrs n) value)) (constants_of cell) (constants_inside (domain_at attrs n) cell is))

cells_fine : (attrs : List Attr) (xs : List ℕ) (cells : List (Pattern (List ℕ))) → AreDistinct (names_of_attrs attrs) → AllByRecursion (λ n. n < length attrs) xs → AllZip (λ n cell. IsCellOf (domain_at attrs n) cell) xs cells
    → AllByRecursion (λ p. outside_in_cell attrs p ≡ None) (zip (map (attr_name attrs) xs) cells)
cells_fine attrs [] [] distinct inside are = tt
cells_fine attrs [] (cell ∷ cells) distinct inside are = absurd are
cells_fine attrs (n ∷ xs) [] distinct inside are = absurd are
cells_fine attrs (n ∷ xs) (cell ∷ cells) distinct inside are = (cell_fine attrs n cell distinct inside.0 are.0, cells_fine attrs xs cells distinct inside.1 are.1)

sets_fine : (attrs : List Attr) (xs : List ℕ) (cells : List (Pattern (List ℕ))) → AllZip (λ n cell. IsCellOf (domain_at attrs n) cell) xs cells → AllByRecursion (λ p. repeated_in_cell p ≡ None) (zip (map (attr_name attrs) xs) cells)
sets_fine attrs [] [] are = tt
sets_fine attrs [] (cell ∷ cells) are = absurd are
sets_fine attrs (n ∷ xs) [] are = absurd are
sets_fine attrs (n ∷ xs) (cell ∷ cells) are =
    (ap (option_map (λ value. RepeatedConstant (attr_name attrs n) value)) (members_once (domain_at attrs n) cell are.0), sets_fine attrs xs cells are.1)

as_long : (attrs : List Attr) (xs : List ℕ) (cells : List (Pattern (List ℕ))) → AllZip (λ n cell. IsCellOf (domain_at attrs n) cell) xs cells → length cells ≡ length xs
as_long attrs [] [] are = refl
as_long attrs [] (cell ∷ cells) are = absurd are
as_long attrs (n ∷ xs) [] are = absurd are
as_long attrs (n ∷ xs) (cell ∷ cells) are = ap suc (as_long attrs xs cells are.1)

-- ---- the whole

is_row : (schema : Schema) (dep : Dep) (row : TableauRow (List ℕ)) → IsValidDep schema dep → dep.rule.rows ≡ row ∷ [] → IsValidRow (attrs_at schema dep.table) dep.rule.x dep.rule.a row
is_row schema dep row valid one =
    let attrs = attrs_at schema dep.table in
    (subst (λ rows. AllByRecursion (IsValidRow attrs dep.rule.x dep.rule.a) rows) one (recursion_from_All (IsValidRow attrs dep.rule.x dep.rule.a) dep.rule.rows valid.rows)).0

-- no test finds a fault
nothing_found : (schema : Schema) (dep : Dep) (row : TableauRow (List ℕ)) → IsValidSchema schema → IsValidDep schema dep → dep.rule.rows ≡ row ∷ [] → first_of (schema_tests schema (Cfd (cfd_of schema dep row))) ≡ None
nothing_found schema dep row schema_valid valid one =
    let attrs = attrs_at schema dep.table in
    let cfd = cfd_of schema dep row in
    let distinct = attrs_at-distinct schema dep.table schema_valid valid.table in
    let inside = recursion_from_All (λ n. n < length attrs) dep.rule.x valid.x in
    let cells = is_row schema dep row valid one in
    let place : table_place schema cfd.table ≡ Some dep.table = table_place-name schema dep.table schema_valid valid.table in
    let same_attrs : attrs_of schema cfd.table ≡ attrs = ap (attrs_at schema) (table_number-name schema dep.table schema_valid valid.table) in
    let x_known : unknown_in attrs cfd.x ≡ None = known_names attrs dep.rule.x distinct inside in
    let y_known : unknown_in attrs cfd.y ≡ None = known_names attrs (dep.rule.a ∷ []) distinct (valid.a, tt) in
    let x_once : repeated_in cfd.x ≡ None = none_repeated cfd.x (names_distinct attrs dep.rule.x distinct valid.x valid.distinct) in
    let width : eqb (length row.x) (length cfd.x) ≡ true = eq-eqb (length row.x) (length cfd.x) (as_long attrs dep.rule.x row.x cells.x ∙ sym (length-map dep.rule.x (attr_name attrs))) in
    let x_inside : first_in (outside_in_cell attrs) (zip cfd.x row.x) ≡ None = none_in_all (outside_in_cell attrs) (zip cfd.x row.x) (cells_fine attrs dep.rule.x row.x distinct inside cells.x) in
    let y_inside : first_in (outside_in_cell attrs) (zip cfd.y (row.a ∷ [])) ≡ None = none_in_all (outside_in_cell attrs) (zip cfd.y (row.a ∷ [])) (cell_fine attrs dep.rule.a row.a distinct valid.a cells.a, tt) in
    let x_sets : first_in repeated_in_cell (zip cfd.x row.x) ≡ None = none_in_all repeated_in_cell (zip cfd.x row.x) (sets_fine attrs dep.rule.x row.x cells.x) in
    let y_sets : first_in repeated_in_cell (zip cfd.y (row.a ∷ [])) ≡ None = none_in_all repeated_in_cell (zip cfd.y (row.a ∷ [])) (sets_fine attrs (dep.rule.a ∷ []) (row.a ∷ []) (cells.a, tt)) in
    let cfd_row : CfdRow = record { x = row.x; y = row.a ∷ [] } in
    let row_inside : outside_in_row attrs cfd cfd_row ≡ None = ap (λ found. option_or found (first_in (outside_in_cell attrs) (zip cfd.y (row.a ∷ [])))) x_inside ∙ y_inside in
    let row_sets : repeated_in_row cfd cfd_row ≡ None = ap (λ found. option_or found (first_in repeated_in_cell (zip cfd.y (row.a ∷ [])))) x_sets ∙ y_sets in
    let table_known : unless (is_some (table_place schema cfd.table)) (UnknownTable cfd.table) ≡ None = ap (λ (found : Option ℕ). unless (is_some found) (UnknownTable cfd.table)) place in
    let attrs_known : first_in (unknown_in (attrs_of schema cfd.table)) (cfd.x ∷ cfd.y ∷ []) ≡ None =
    ap (λ them. first_in (unknown_in them) (cfd.x ∷ cfd.y ∷ [])) same_attrs ∙ none_in_all (unknown_in attrs) (cfd.x ∷ cfd.y ∷ []) (x_known, (y_known, tt)) in
    let all_inside : first_in (outside_in_row (attrs_of schema cfd.table) cfd) cfd.rows ≡ None = ap (λ them. first_in (outside_in_row them cfd) cfd.rows) same_attrs ∙ none_in_all (outside_in_row attrs cfd) cfd.rows (row_inside, tt) in
    none_first (schema_tests schema (Cfd cfd)) (
      table_known,
      (
        refl,
        (
          attrs_known,
          (
            none_in_all repeated_in (cfd.x ∷ cfd.y ∷ []) (x_once, (refl, tt)),
            (
              refl,
              (
                refl,
                (
                  ap (λ (b : Bool). unless ((b && true) && true) WidthMismatch) width,
                  (
                    all_inside,
                    (
                      none_in_all (repeated_in_row cfd) cfd.rows (row_sets, tt),
                      (refl, tt),
                    ),
                  ),
                ),
              ),
            ),
          ),
        ),
      ),
    )

-- the numbers are those that the names were taken of
same_dep : (schema : Schema) (dep : Dep) (row : TableauRow (List ℕ)) → IsValidSchema schema → IsValidDep schema dep → dep.rule.rows ≡ row ∷ [] → rules.dep_at schema (cfd_of schema dep row) 0 ≡ record dep { name = [] }
same_dep schema dep row schema_valid valid one =
    let attrs = attrs_at schema dep.table in
    let cfd = cfd_of schema dep row in
    let distinct = attrs_at-distinct schema dep.table schema_valid valid.table in
    let inside = recursion_from_All (λ n. n < length attrs) dep.rule.x valid.x in
    ap (λ (t : ℕ). record { name = []; table = t; rule = record { x = attr_numbers (attrs_at schema t) cfd.x; a = slice_index (attr_numbers (attrs_at schema t) cfd.y) 0; rows = row ∷ [] } }) (table_number-name schema dep.table schema_valid valid.table)
    ∙ ap (λ (ms : List ℕ). record { name = []; table = dep.table; rule = record { x = ms; a = attr_number attrs (attr_name attrs dep.rule.a); rows = row ∷ [] } }) (numbers_back attrs dep.rule.x distinct inside)
    ∙ ap (λ (m : ℕ). record { name = []; table = dep.table; rule = record { x = dep.rule.x; a = m; rows = row ∷ [] } }) (attr_number-name attrs dep.rule.a distinct valid.a)
    ∙ ap (λ (rows : List (TableauRow (List ℕ))). record { name = []; table = dep.table; rule = record { x = dep.rule.x; a = dep.rule.a; rows = rows } }) (sym one)

pub judged_again : (schema : Schema) (dep : Dep) (row : TableauRow (List ℕ)) → IsValidSchema schema → IsValidDep schema dep → dep.rule.rows ≡ row ∷ [] → judged_dep schema (cfd_of schema dep row) ≡ Ok (record dep { name = [] })
unfolding judged_dep
judged_again schema dep row schema_valid valid one =
    ap (λ fault. unless_fault fault (rules.dep_at schema (cfd_of schema dep row) 0)) (nothing_found schema dep row schema_valid valid one) ∙ ap (λ d. Ok d) (same_dep schema dep row schema_valid valid one)
