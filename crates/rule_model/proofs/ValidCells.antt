-- Cells in which the tests find nothing are valid.
use Rattle.std.proofs.Common.{◌≡◌, ℕ, suc, Bool, true, false, not, ◌||◌, List, [], ◌∷◌, length, None, Contains, refl, arith}
use Rattle.std.specs.List.{AllByRecursion, AllZip, list_any, zip}
use Rattle.std.specs.Str.{bytes_eq}
use Rattle.text_lists.specs.Names.{IsConstant}
use Rattle.schema_core.specs.Schemas.{admits, Admits}
use Rattle.text_lists.specs.Repeats.{AreDistinct}
use Rattle.schema_core.specs.declared.schema.Domain.{Domain}
use Rattle.schema_core.specs.declared.schema.Domain.TheVariants.{AnyText, Finite}
use Rattle.schema_core.specs.declared.schema.Attr.{Attr}
use Rattle.cfd_semantics.specs.declared.pattern.Pattern.{Pattern}
use Rattle.cfd_semantics.specs.declared.pattern.Pattern.TheVariants.{Any, Is, In, NotIn}
use Rattle.std.proofs.lemmas.List.Elements.{All-from_recursion, recursion_from_All}
use Rattle.std.proofs.lemmas.Slice.Eq.{bytes_eq-Decides}
use Rattle.rule_model.specs.declared.edit_rule.EditCell.{EditCell}
use Rattle.rule_model.specs.declared.edit_rule.EditCell.TheVariants as edit_cells
use Rattle.rule_model.specs.Declarations.{constants_of, edit_constants_of, IsWrittenSet, IsWrittenCell, IsWrittenEditCell}
use Rattle.schema_core.specs.Lookups.{attr_numbers, domain_at, domain_of}
use Rattle.rule_model.specs.Rules.{IsConstantOf, IsSetOf, IsCellOf, AreConstantsOf, IsEditCellOf, IsValidPattern, numbered_pattern, pattern_attrs}
use Rattle.rule_model.specs.Faults.{outside_in, outside_in_cell, outside_constant, outside_in_pattern, repeated_in_cell, is_within}
use Rattle.rule_model.proofs.Passing.{all_pass, none_found, map_none, not_false, each_weaker, distinct_if_none}
use Rattle.rule_model.proofs.Known.{IsKnown}

member_at_head : (b : Bool) (v : List ℕ) (vs : List (List ℕ)) (text : List ℕ) → bytes_eq v text ≡ b → (b || list_any (λ v. bytes_eq v text) vs) ≡ true → (list_any (λ v. bytes_eq v text) vs ≡ true → Contains vs text) → Contains (v ∷ vs) text
member_at_head true v vs text same e rest = (0, omega arith, (bytes_eq-Decides v text).0 same)
member_at_head false v vs text same e rest =
    let there = rest e in
    (suc there.0, omega (arith, there.1), there.2)

member_if_any : (values : List (List ℕ)) (text : List ℕ) → list_any (λ v. bytes_eq v text) values ≡ true → Contains values text
member_if_any [] text e = absurd cc
member_if_any (v ∷ vs) text e = member_at_head (bytes_eq v text) v vs text refl e (member_if_any vs text)

pub admitted_if_true : (domain : Domain) (text : List ℕ) → admits domain text ≡ true → Admits domain text
admitted_if_true AnyText text e = tt
admitted_if_true (Finite values) text e = member_if_any values text e

-- what the first domain has, the second has too
pub admitted_if_within : (source target : Domain) → is_within source target ≡ true → (text : List ℕ) → Admits source text → Admits target text
admitted_if_within source AnyText e text there = tt
admitted_if_within AnyText (Finite values) e text there = absurd cc
admitted_if_within (Finite texts) (Finite values) e text there =
    let each = All-from_recursion (λ t. admits (Finite values) t ≡ true) texts (all_pass (admits (Finite values)) texts e) there.0 text there.1 in
    member_if_any values text (rw there.2 at each)

-- ---- constants

-- values are in the domain where none is found outside
inside_if_none : (attrs : List Attr) (name : List ℕ) (values : List (List ℕ)) → outside_in attrs name values ≡ None → AllByRecursion (Admits (domain_of attrs name)) values
inside_if_none attrs name values e =
    let domain = domain_of attrs name in
    each_weaker (λ value. not (admits domain value) ≡ false) (Admits domain) (λ value inside. admitted_if_true domain value (not_false (admits domain value) inside)) values
    (none_found (λ value. not (admits domain value)) values (map_none _ _ e))

both_each : (domain : Domain) (values : List (List ℕ)) → AllByRecursion IsConstant values → AllByRecursion (Admits domain) values → AllByRecursion (IsConstantOf domain) values
both_each domain [] constants inside = tt
both_each domain (v ∷ vs) constants inside = (record { constant = constants.0; admitted = inside.0 }, both_each domain vs constants.1 inside.1)

pub constants_if_none : (attrs : List Attr) (names values : List (List ℕ)) → length values ≡ length names → AllByRecursion IsConstant values
    → AllByRecursion (λ p. outside_constant attrs p ≡ None) (zip names values) → AreConstantsOf attrs (attr_numbers attrs names) values
constants_if_none attrs [] [] wide written outside = tt
constants_if_none attrs [] (value ∷ values) wide written outside = absurd (omega arith)
constants_if_none attrs (name ∷ names) [] wide written outside = absurd (omega arith)
constants_if_none attrs (name ∷ names) (value ∷ values) wide written outside =
    (record { constant = written.0; admitted = (inside_if_none attrs name (value ∷ []) outside.0).0 }, constants_if_none attrs names values (omega arith) written.1 outside.1)

-- ---- cells

set_if_none : (domain : Domain) (values : List (List ℕ)) → IsWrittenSet values → AllByRecursion (Admits domain) values → AreDistinct values → IsSetOf domain values
set_if_none domain values written inside distinct = record {
  some = written.some;
  few = written.few;
  distinct = distinct;
  each = All-from_recursion (IsConstantOf domain) values (both_each domain values (recursion_from_All IsConstant values written.constants) inside);
}

cell_if_inside : (domain : Domain) (cell : Pattern (List ℕ)) → IsWrittenCell cell → AllByRecursion (Admits domain) (constants_of cell) → AreDistinct (constants_of cell) → IsCellOf domain cell
cell_if_inside domain Any written inside distinct = tt
cell_if_inside domain (Is value) written inside distinct = record { constant = written; admitted = inside.0 }
cell_if_inside domain (In values) written inside distinct = set_if_none domain values written inside distinct
cell_if_inside domain (NotIn values) written inside distinct = set_if_none domain values written inside distinct

-- a cell in which no test finds a fault is a cell of its attribute's domain
cell_if_none : (attrs : List Attr) (name : List ℕ) (cell : Pattern (List ℕ)) → IsWrittenCell cell → outside_in_cell attrs (name, cell) ≡ None → repeated_in_cell (name, cell) ≡ None → IsCellOf (domain_of attrs name) cell
cell_if_none attrs name cell written outside repeated =
    cell_if_inside (domain_of attrs name) cell written (inside_if_none attrs name (constants_of cell) outside) (distinct_if_none (constants_of cell) (map_none _ _ repeated))

pub cells_if_none : (attrs : List Attr) (names : List (List ℕ)) (cells : List (Pattern (List ℕ))) → length cells ≡ length names → AllByRecursion IsWrittenCell cells
    → AllByRecursion (λ p. outside_in_cell attrs p ≡ None) (zip names cells) → AllByRecursion (λ p. repeated_in_cell p ≡ None) (zip names cells)
    → AllZip (λ attr cell. IsCellOf (domain_at attrs attr) cell) (attr_numbers attrs names) cells
cells_if_none attrs [] [] wide written outside repeated = tt
cells_if_none attrs [] (cell ∷ cells) wide written outside repeated = absurd (omega arith)
cells_if_none attrs (name ∷ names) [] wide written outside repeated = absurd (omega arith)
cells_if_none attrs (name ∷ names) (cell ∷ cells) wide written outside repeated =
    (cell_if_none attrs name cell written.0 outside.0 repeated.0, cells_if_none attrs names cells (omega arith) written.1 outside.1 repeated.1)

-- ---- patterns of editing rules

edit_cell_if_inside : (domain : Domain) (cell : EditCell) → IsWrittenEditCell cell → AllByRecursion (Admits domain) (edit_constants_of cell) → IsEditCellOf domain cell
edit_cell_if_inside domain edit_cells.Any written inside = tt
edit_cell_if_inside domain (edit_cells.Is value) written inside = record { constant = written; admitted = inside.0 }
edit_cell_if_inside domain (edit_cells.Not value) written inside = record { constant = written; admitted = inside.0 }

pub pattern_if_none : (attrs : List Attr) (pattern : List (List ℕ × EditCell)) → AllByRecursion (IsKnown attrs) (pattern_attrs pattern) → AllByRecursion (λ (p : List ℕ × EditCell). IsWrittenEditCell p.1) pattern
    → AllByRecursion (λ p. outside_in_pattern attrs p ≡ None) pattern → AllByRecursion (IsValidPattern attrs) (numbered_pattern attrs pattern)
pattern_if_none attrs [] known written outside = tt
pattern_if_none attrs ((name, cell) ∷ pattern) known written outside =
    (record { attr = known.0.within; cell = edit_cell_if_inside (domain_of attrs name) cell written.0 (inside_if_none attrs name (edit_constants_of cell) outside.0) }, pattern_if_none attrs pattern known.1 written.1 outside.1)
