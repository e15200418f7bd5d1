-- The faults of a declaration, over a schema, limits and the declarations before it. Each test finds its first fault, if
-- it has one; the tests stand in the order in which their faults are told.
use Rattle.std.specs.Prelude.{ℕ, Bool, true, false, ◌&&◌, ◌==◌, nat_le, not, if◌then◌else◌, List, [], ◌∷◌, ◌++◌, length, drop, find, Option, Some, None, Result, Ok, Err}
use Rattle.std.specs.Option.{option_map, option_or, is_some}
use Rattle.std.specs.List.{list_any, list_all, zip}
use Rattle.std.specs.Str.{bytes_eq}
use Rattle.schema_core.specs.Schemas.{admits, table_place}
use Rattle.text_lists.specs.declared.limits.Limits.{Limits}
use Rattle.text_lists.specs.declared.limits.Limit.{Limit}
use Rattle.text_lists.specs.declared.limits.Limit.TheVariants.{Deps, Cinds, Edits, TableauRows}
use Rattle.schema_core.specs.declared.schema.Domain.{Domain}
use Rattle.schema_core.specs.declared.schema.Domain.TheVariants.{AnyText, Finite}
use Rattle.schema_core.specs.declared.schema.Attr.{Attr}
use Rattle.schema_core.specs.declared.schema.Schema.{Schema}
use Rattle.cfd_semantics.specs.declared.pattern.Pattern.{Pattern}
use Rattle.cfd_semantics.specs.declared.inclusion.InclusionRow.{InclusionRow}
use Rattle.rule_model.specs.declared.decl.CfdRow.{CfdRow}
use Rattle.rule_model.specs.declared.decl.CfdDecl.{CfdDecl}
use Rattle.rule_model.specs.declared.decl.CindDecl.{CindDecl}
use Rattle.rule_model.specs.declared.decl.Decl.{Decl}
use Rattle.rule_model.specs.declared.decl.Decl.TheVariants.{Cfd, Cind, Edit}
use Rattle.rule_model.specs.declared.edit_rule.EditCell.{EditCell}
use Rattle.rule_model.specs.declared.fault.RuleFault.{RuleFault}
use Rattle.rule_model.specs.declared.fault.RuleFault.TheVariants.{DuplicateRule, UnknownTable, NotMaster, UnknownAttr, RepeatedAttr, NoMatchColumn, TargetInX, WidthMismatch, ConstantOutsideDomain, RepeatedConstant, DomainMismatch, TooMany}
use Rattle.rule_model.specs.declared.fault.AddFault.{AddFault}
use Rattle.rule_model.specs.declared.fault.AddFault.TheVariants.{Rule, Memory}
use Rattle.rule_model.specs.declared.counts.Counts.{Counts}
use Rattle.rule_model.specs.Counts.{counts_of}
use Rattle.line_grammar.specs.Faults.{IsUnlessMemory}
use Rattle.text_lists.specs.Firsts.{first_of, first_in}
use Rattle.text_lists.specs.Repeats.{first_repeated}
use Rattle.rule_model.specs.Declarations.{name_of, constants_of, edit_constants_of}
use Rattle.schema_core.specs.Lookups.{table_number, attrs_of, master_at, place_of, domain_of}
use Rattle.rule_model.specs.Rules.{pattern_attrs}

-- a fault where a test does not hold
abbrev pub unless : Bool → RuleFault → Option RuleFault
unless holds fault = if holds then None else Some fault

-- ---- names

-- an earlier declaration has the name
abbrev pub duplicate_rule : List Decl → Decl → Option RuleFault
duplicate_rule earlier decl = unless (not (list_any (λ other. bytes_eq (name_of other) (name_of decl)) earlier)) (DuplicateRule (name_of decl))

-- no table of the schema has the name
abbrev pub unknown_table_name : Schema → List ℕ → Option RuleFault
unknown_table_name schema name = unless (is_some (table_place schema name)) (UnknownTable name)

-- the first named table, in reading order, that the schema lacks
abbrev pub unknown_table : Schema → Decl → Option RuleFault
unknown_table schema (Cfd cfd) = unknown_table_name schema cfd.table
unknown_table schema (Cind cind) = first_in (unknown_table_name schema) (cind.left ∷ cind.right ∷ [])
unknown_table schema (Edit edit) = first_in (unknown_table_name schema) (edit.table ∷ edit.master ∷ [])

-- the master table of an editing rule is not marked as one
abbrev pub not_master : Schema → Decl → Option RuleFault
not_master schema (Cfd cfd) = None
not_master schema (Cind cind) = None
not_master schema (Edit edit) = unless (master_at schema (table_number schema edit.master)) (NotMaster edit.master)

-- no attribute has the name
abbrev pub unknown_name : List Attr → List ℕ → Option RuleFault
unknown_name attrs name = unless (is_some (place_of attrs name)) (UnknownAttr name)

-- the first of several names that is no attribute's
abbrev pub unknown_in : List Attr → List (List ℕ) → Option RuleFault
unknown_in attrs names = first_in (unknown_name attrs) names

-- of a column and the master column that it is matched with, the first that is not in its table
abbrev pub unknown_in_pair : List Attr → List Attr → List ℕ × List ℕ → Option RuleFault
unknown_in_pair attrs masters (name, master) = option_or (unknown_name attrs name) (unknown_name masters master)

-- of the columns of an editing rule: pair by pair, and then the rest of the longer list
unfoldable pub unknown_in_pairs : List Attr → List Attr → List (List ℕ) → List (List ℕ) → Option RuleFault
unknown_in_pairs attrs masters x xm =
    first_of (
    first_in (unknown_in_pair attrs masters) (zip x xm)
    ∷ unknown_in attrs (drop (length xm) x)
    ∷ unknown_in masters (drop (length x) xm)
    ∷ []
    )

-- the first named attribute, in reading order, that is not in its table
abbrev pub unknown_attr : Schema → Decl → Option RuleFault
unknown_attr schema (Cfd cfd) = first_in (unknown_in (attrs_of schema cfd.table)) (cfd.x ∷ cfd.y ∷ [])
unknown_attr schema (Cind cind) =
    first_of (
    unknown_in (attrs_of schema cind.left) cind.x
    ∷ unknown_in (attrs_of schema cind.left) cind.xp
    ∷ unknown_in (attrs_of schema cind.right) cind.y
    ∷ unknown_in (attrs_of schema cind.right) cind.yp
    ∷ []
    )
unknown_attr schema (Edit edit) =
    first_of (
    unknown_in_pairs (attrs_of schema edit.table) (attrs_of schema edit.master) edit.x edit.xm
    ∷ unknown_name (attrs_of schema edit.table) edit.target
    ∷ unknown_name (attrs_of schema edit.master) edit.source
    ∷ unknown_in (attrs_of schema edit.table) (pattern_attrs edit.when)
    ∷ []
    )

-- the first name that stands a second time in a list
abbrev pub repeated_in : List (List ℕ) → Option RuleFault
repeated_in names = option_map RepeatedAttr (first_repeated bytes_eq names)

-- an attribute stands twice: on one side of a CFD, in the two lists of one side of a CIND, among the columns of an
-- editing rule, or in its pattern
abbrev pub repeated_attr : Decl → Option RuleFault
repeated_attr (Cfd cfd) = first_in repeated_in (cfd.x ∷ cfd.y ∷ [])
repeated_attr (Cind cind) = first_in repeated_in ((cind.x ++ cind.xp) ∷ (cind.y ++ cind.yp) ∷ [])
repeated_attr (Edit edit) = first_in repeated_in (edit.x ∷ pattern_attrs edit.when ∷ [])

-- an editing rule matches no column
abbrev pub no_match_column : Decl → Option RuleFault
no_match_column (Cfd cfd) = None
no_match_column (Cind cind) = None
no_match_column (Edit edit) = unless (not (length edit.x == 0)) NoMatchColumn

-- the target of an editing rule is one of its columns
abbrev pub target_in_x : Decl → Option RuleFault
target_in_x (Cfd cfd) = None
target_in_x (Cind cind) = None
target_in_x (Edit edit) = unless (not (list_any (λ name. bytes_eq name edit.target) edit.x)) (TargetInX edit.target)

-- ---- cells

-- a row is as wide as the lists of its declaration
abbrev pub is_as_wide : CfdDecl → CfdRow → Bool
is_as_wide cfd row = length row.x == length cfd.x && length row.y == length cfd.y

abbrev pub is_inclusion_row_as_wide : CindDecl → InclusionRow (List ℕ) → Bool
is_inclusion_row_as_wide cind row = length row.xp == length cind.xp && length row.yp == length cind.yp

-- two lists that belong to one another are equally long, as are rows and the lists of their attributes
abbrev pub is_even : Decl → Bool
is_even (Cfd cfd) = list_all (is_as_wide cfd) cfd.rows
is_even (Cind cind) = length cind.x == length cind.y && list_all (is_inclusion_row_as_wide cind) cind.rows
is_even (Edit edit) = length edit.x == length edit.xm

abbrev pub width_mismatch : Decl → Option RuleFault
width_mismatch decl = unless (is_even decl) WidthMismatch

-- the first of the constants that is not in the domain of the attribute
abbrev pub outside_in : List Attr → List ℕ → List (List ℕ) → Option RuleFault
outside_in attrs name values = option_map (λ value. ConstantOutsideDomain name value) (find (λ value. not (admits (domain_of attrs name) value)) values)

-- the same in a cell, in a constant and in a cell of an editing rule, each beside the name of its attribute
abbrev pub outside_in_cell : List Attr → List ℕ × Pattern (List ℕ) → Option RuleFault
outside_in_cell attrs (name, cell) = outside_in attrs name (constants_of cell)

abbrev pub outside_constant : List Attr → List ℕ × List ℕ → Option RuleFault
outside_constant attrs (name, value) = outside_in attrs name (value ∷ [])

abbrev pub outside_in_pattern : List Attr → List ℕ × EditCell → Option RuleFault
outside_in_pattern attrs (name, cell) = outside_in attrs name (edit_constants_of cell)

-- the same in a row, from left to right
abbrev pub outside_in_row : List Attr → CfdDecl → CfdRow → Option RuleFault
outside_in_row attrs cfd row =
    option_or (first_in (outside_in_cell attrs) (zip cfd.x row.x)) (first_in (outside_in_cell attrs) (zip cfd.y row.y))

abbrev pub outside_in_inclusion_row : List Attr → List Attr → CindDecl → InclusionRow (List ℕ) → Option RuleFault
outside_in_inclusion_row lefts rights cind row =
    option_or (first_in (outside_constant lefts) (zip cind.xp row.xp)) (first_in (outside_constant rights) (zip cind.yp row.yp))

-- the first constant, in reading order, that is not in the domain of its attribute
abbrev pub outside_domain : Schema → Decl → Option RuleFault
outside_domain schema (Cfd cfd) = first_in (outside_in_row (attrs_of schema cfd.table) cfd) cfd.rows
outside_domain schema (Cind cind) = first_in (outside_in_inclusion_row (attrs_of schema cind.left) (attrs_of schema cind.right) cind) cind.rows
outside_domain schema (Edit edit) = first_in (outside_in_pattern (attrs_of schema edit.table)) edit.when

-- the first member that stands a second time in the set of a cell
abbrev pub repeated_in_cell : List ℕ × Pattern (List ℕ) → Option RuleFault
repeated_in_cell (name, cell) = option_map (λ value. RepeatedConstant name value) (first_repeated bytes_eq (constants_of cell))

abbrev pub repeated_in_row : CfdDecl → CfdRow → Option RuleFault
repeated_in_row cfd row = option_or (first_in repeated_in_cell (zip cfd.x row.x)) (first_in repeated_in_cell (zip cfd.y row.y))

-- the first member, in reading order, that stands a second time in its set; only CFDs have sets
abbrev pub repeated_constant : Decl → Option RuleFault
repeated_constant (Cfd cfd) = first_in (repeated_in_row cfd) cfd.rows
repeated_constant (Cind cind) = None
repeated_constant (Edit edit) = None

-- ---- domains and counts

-- what the first domain has, the second has too
abbrev pub is_within : Domain → Domain → Bool
is_within source AnyText = true
is_within AnyText (Finite values) = false
is_within (Finite texts) (Finite values) = list_all (admits (Finite values)) texts

-- the source of an editing rule may be what its target may not
abbrev pub domain_mismatch : Schema → Decl → Option RuleFault
domain_mismatch schema (Cfd cfd) = None
domain_mismatch schema (Cind cind) = None
domain_mismatch schema (Edit edit) =
    unless (is_within (domain_of (attrs_of schema edit.master) edit.source) (domain_of (attrs_of schema edit.table) edit.target)) (DomainMismatch edit.target)

-- more than the limit
abbrev pub over_limit : Limit → ℕ → ℕ → Option RuleFault
over_limit limit most count = unless (nat_le count most) (TooMany limit)

-- there are more rules of a kind, or more tableau rows, than the limits have
abbrev pub too_many : Limits → Counts → Option RuleFault
too_many limits counts =
    first_of (
    over_limit Deps limits.deps counts.deps
    ∷ over_limit Cinds limits.cinds counts.cinds
    ∷ over_limit Edits limits.edits counts.edits
    ∷ over_limit TableauRows limits.tableau_rows counts.tableau_rows
    ∷ []
    )

-- ---- the first fault

-- the tests over a schema alone, in the order in which their faults are told
abbrev pub schema_tests : Schema → Decl → List (Option RuleFault)
schema_tests schema decl =
    unknown_table schema decl
    ∷ not_master schema decl
    ∷ unknown_attr schema decl
    ∷ repeated_attr decl
    ∷ no_match_column decl
    ∷ target_in_x decl
    ∷ width_mismatch decl
    ∷ outside_domain schema decl
    ∷ repeated_constant decl
    ∷ domain_mismatch schema decl
    ∷ []

-- all tests of a declaration, which the last one counts with those before it
abbrev pub tests : Schema → Limits → List Decl → Decl → List (Option RuleFault)
tests schema limits earlier decl = duplicate_rule earlier decl ∷ (schema_tests schema decl ++ too_many limits (counts_of (earlier ++ decl ∷ [])) ∷ [])

-- the first fault of a declaration, if it has one
unfoldable pub fault_of : Schema → Limits → List Decl → Decl → Option RuleFault
fault_of schema limits earlier decl = first_of (tests schema limits earlier decl)

-- ---- answers

-- what a test says: nothing, or its fault
abbrev pub verdict : Option RuleFault → Result (Unit {0}) RuleFault
verdict None = Ok tt
verdict (Some fault) = Err fault

-- what a refusal tells
abbrev pub rule_tells : AddFault → Option RuleFault
rule_tells (Rule fault) = Some fault
rule_tells Memory = None

-- an answer says what a test says, unless memory ran out
abbrev pub Finds : Result (Unit {0}) AddFault → Option RuleFault → Type 0
Finds result found = IsUnlessMemory rule_tells (verdict found) result
