-- A declaration in which no fault is found stands for valid rules.
use Rattle.std.proofs.Common.{◌≡◌, ℕ, zero, suc, ◌<◌, ◌≤◌, true, not, nat_eq, ◌&&◌, List, [], ◌∷◌, ◌++◌, length, get_or, drop, map, Option, None, All, refl, sym, ap, ◌∙◌, subst, arith}
use Rattle.std.specs.Prelude.{slice_index}
use Rattle.std.specs.List.{AllByRecursion, AllZip, zip, list_all}
use Rattle.std.specs.Option.{option_or}
use Rattle.std.proofs.lemmas.Bool.{eqb-true}
use Rattle.std.proofs.lemmas.List.{length-map, map-append}
use Rattle.std.proofs.lemmas.List.Elements.{All-from_recursion, recursion_from_All, All-nil}
use Rattle.std.proofs.lemmas.List.FromFn.{get_or-map-range_with_len, length-map-range_with_len}
use Rattle.text_lists.specs.Names.{IsConstant}
use Rattle.text_lists.specs.Repeats.{AreDistinct}
use Rattle.text_lists.specs.declared.limits.Limits.{Limits}
use Rattle.schema_core.specs.declared.schema.Attr.{Attr}
use Rattle.schema_core.specs.declared.schema.Schema.{Schema}
use Rattle.cfd_semantics.specs.declared.pattern.Pattern.TheVariants.{Any}
use Rattle.cfd_semantics.specs.declared.inclusion.InclusionRow.{InclusionRow}
use Rattle.rule_model.specs.declared.decl.CfdRow.{CfdRow}
use Rattle.rule_model.specs.declared.decl.CfdDecl.{CfdDecl}
use Rattle.rule_model.specs.declared.decl.CindDecl.{CindDecl}
use Rattle.rule_model.specs.declared.decl.EditDecl.{EditDecl}
use Rattle.rule_model.specs.declared.decl.Decl.{Decl}
use Rattle.rule_model.specs.declared.decl.Decl.TheVariants.{Cfd, Cind, Edit}
use Rattle.rule_model.specs.declared.edit_rule.EditCell.{EditCell}
use Rattle.rule_model.specs.Declarations.{IsWrittenCell, IsWrittenEditCell, IsWrittenRow, IsWrittenInclusionRow, IsWrittenCind, IsWrittenEdit, IsWritten}
use Rattle.schema_core.specs.Lookups.{attrs_of, attr_number, attr_numbers, domain_at}
use Rattle.rule_model.specs.Rules.{row_at, dep_at, cind_of, edit_of, deps_of, cinds_of, edits_of, numbered_pattern, pattern_attrs, IsCellOf, IsValidRow, IsValidDep, IsValidInclusionRow, IsValidCind, IsValidEditRule}
use Rattle.rule_model.specs.declared.fault.RuleFault.{RuleFault}
use Rattle.rule_model.specs.Counts.{counts_of}
use Rattle.text_lists.specs.Firsts.{first_of, first_in}
use Rattle.rule_model.specs.Faults.{unknown_table_name, unknown_table, not_master, unknown_name, unknown_in, unknown_in_pair, unknown_in_pairs, unknown_attr, repeated_in, repeated_attr, no_match_column, target_in_x, is_as_wide, is_inclusion_row_as_wide, width_mismatch, outside_in_cell, outside_constant, outside_in_row, outside_in_inclusion_row, outside_in_pattern, outside_domain, repeated_in_cell, repeated_in_row, repeated_constant, domain_mismatch, duplicate_rule, too_many, schema_tests, fault_of}
use Rattle.rule_model.proofs.Passing.{both_none, none_of, none_in, map_none, holds_if_none, both_true, all_pass, not_true, distinct_if_none}
use Rattle.rule_model.proofs.Known.{IsKnown, table_if_none, known_if_none, all_known_if_none, pairs_known, both_known, numbers_within, numbers_distinct, number_outside}
use Rattle.rule_model.proofs.ValidCells.{cells_if_none, constants_if_none, pattern_if_none, admitted_if_within}

-- what each test says of a declaration in which no fault is found
pub record Passes (schema : Schema) (decl : Decl) : Type 0 where
  pub tables : unknown_table schema decl ≡ None
  pub master : not_master schema decl ≡ None
  pub attrs : unknown_attr schema decl ≡ None
  pub once : repeated_attr decl ≡ None
  pub matched : no_match_column decl ≡ None
  pub outside : target_in_x decl ≡ None
  pub widths : width_mismatch decl ≡ None
  pub inside : outside_domain schema decl ≡ None
  pub members : repeated_constant decl ≡ None
  pub fits : domain_mismatch schema decl ≡ None

pub passes_over_schema : (schema : Schema) (decl : Decl) → first_of (schema_tests schema decl) ≡ None → Passes schema decl
passes_over_schema schema decl e =
    let p = none_of (schema_tests schema decl) e in
    let q = p.1.1.1.1.1.1 in
    record {
      tables = p.0;
      master = p.1.0;
      attrs = p.1.1.0;
      once = p.1.1.1.0;
      matched = p.1.1.1.1.0;
      outside = p.1.1.1.1.1.0;
      widths = q.0;
      inside = q.1.0;
      members = q.1.1.0;
      fits = q.1.1.1.0;
    }

-- what is found in front of one more test, and by it
none_before : (tests : List (Option RuleFault)) (last : Option RuleFault) → first_of (tests ++ last ∷ []) ≡ None → (first_of tests ≡ None) × (last ≡ None)
none_before [] last e = (refl, (both_none last None e).0)
none_before (test ∷ tests) last e =
    let both = both_none test (first_of (tests ++ last ∷ [])) e in
    let rest = none_before tests last both.1 in
    (ap (λ (t : Option RuleFault). option_or t (first_of tests)) both.0 ∙ rest.0, rest.1)

pub passes_if_none : (schema : Schema) (limits : Limits) (earlier : List Decl) (decl : Decl) → fault_of schema limits earlier decl ≡ None → Passes schema decl × (too_many limits (counts_of (earlier ++ decl ∷ [])) ≡ None)
unfolding fault_of
passes_if_none schema limits earlier decl e =
    let rest = (both_none (duplicate_rule earlier decl) _ e).1 in
    let both = none_before (schema_tests schema decl) (too_many limits (counts_of (earlier ++ decl ∷ []))) rest in
    (passes_over_schema schema decl both.0, both.1)

both_equal : (a b c d : ℕ) → (nat_eq a b && nat_eq c d) ≡ true → (a ≡ b) × (c ≡ d)
both_equal a b c d e =
    let both = both_true (nat_eq a b) (nat_eq c d) e in
    (eqb-true a b both.0, eqb-true c d both.1)

-- ---- dependencies

pub at_place : {X Y : Type 0} (R : X → Y → Type 0) (xs : List X) (ys : List Y) (i : ℕ) (d : X) (e : Y) → AllZip R xs ys → i < length xs → R (get_or xs i d) (get_or ys i e)
at_place R [] [] i d e h lt = absurd (omega arith)
at_place R [] (y ∷ ys) i d e h lt = absurd h
at_place R (x ∷ xs) [] i d e h lt = absurd h
at_place R (x ∷ xs) (y ∷ ys) zero d e h lt = h.0
at_place R (x ∷ xs) (y ∷ ys) (suc i) d e h lt = at_place R xs ys i d e h.1 (omega arith)

row_valid : (attrs : List Attr) (cfd : CfdDecl) (place : ℕ) (row : CfdRow) → place < length cfd.y → is_as_wide cfd row ≡ true → IsWrittenRow row
    → outside_in_row attrs cfd row ≡ None → repeated_in_row cfd row ≡ None
    → IsValidRow attrs (attr_numbers attrs cfd.x) (slice_index (attr_numbers attrs cfd.y) place) (row_at place row)
row_valid attrs cfd place row lt wide written outside repeated =
    let widths = both_equal (length row.x) (length cfd.x) (length row.y) (length cfd.y) wide in
    let inside = both_none (first_in (outside_in_cell attrs) (zip cfd.x row.x)) (first_in (outside_in_cell attrs) (zip cfd.y row.y)) outside in
    let sets = both_none (first_in repeated_in_cell (zip cfd.x row.x)) (first_in repeated_in_cell (zip cfd.y row.y)) repeated in
    let left = cells_if_none attrs cfd.x row.x widths.0 (recursion_from_All IsWrittenCell row.x written.x) (none_in _ _ inside.0) (none_in _ _ sets.0) in
    let right = cells_if_none attrs cfd.y row.y widths.1 (recursion_from_All IsWrittenCell row.y written.y) (none_in _ _ inside.1) (none_in _ _ sets.1) in
    record {
      x = left;
      a = at_place (λ attr cell. IsCellOf (domain_at attrs attr) cell) (attr_numbers attrs cfd.y) row.y place 0 Any right (omega (arith, length-map cfd.y (attr_number attrs)));
    }

rows_valid : (attrs : List Attr) (cfd : CfdDecl) (place : ℕ) (rows : List CfdRow) → place < length cfd.y → AllByRecursion (λ row. is_as_wide cfd row ≡ true) rows → AllByRecursion IsWrittenRow rows
    → AllByRecursion (λ row. outside_in_row attrs cfd row ≡ None) rows → AllByRecursion (λ row. repeated_in_row cfd row ≡ None) rows
    → AllByRecursion (IsValidRow attrs (attr_numbers attrs cfd.x) (slice_index (attr_numbers attrs cfd.y) place)) (map (row_at place) rows)
rows_valid attrs cfd place [] lt wide written outside repeated = tt
rows_valid attrs cfd place (row ∷ rows) lt wide written outside repeated =
    (row_valid attrs cfd place row lt wide.0 written.0 outside.0 repeated.0, rows_valid attrs cfd place rows lt wide.1 written.1 outside.1 repeated.1)

pub dep_valid : (schema : Schema) (cfd : CfdDecl) (place : ℕ) → place < length cfd.y → Passes schema (Cfd cfd) → All IsWrittenRow cfd.rows → IsValidDep schema (dep_at schema cfd place)
dep_valid schema cfd place lt passes written =
    let attrs = attrs_of schema cfd.table in
    let names = none_in (unknown_in attrs) (cfd.x ∷ cfd.y ∷ []) passes.attrs in
    let x = all_known_if_none attrs cfd.x names.0 in
    let y = all_known_if_none attrs cfd.y names.1.0 in
    let once = none_in repeated_in (cfd.x ∷ cfd.y ∷ []) passes.once in
    let wide = all_pass (is_as_wide cfd) cfd.rows (holds_if_none _ _ passes.widths) in
    let rows = rows_valid attrs cfd place cfd.rows lt wide (recursion_from_All IsWrittenRow cfd.rows written) (none_in (outside_in_row attrs cfd) cfd.rows passes.inside) (none_in (repeated_in_row cfd) cfd.rows passes.members) in
    record {
      table = table_if_none schema cfd.table passes.tables;
      x = numbers_within attrs cfd.x x;
      a = numbers_within attrs cfd.y y place 0 (omega (arith, length-map cfd.y (attr_number attrs)));
      distinct = numbers_distinct attrs cfd.x x (distinct_if_none cfd.x (map_none _ _ once.0));
      rows = All-from_recursion _ _ rows;
    }

-- each dependency of a declaration in which no fault is found is valid
pub deps_valid : (schema : Schema) (decl : Decl) → Passes schema decl → IsWritten decl → All (IsValidDep schema) (deps_of schema decl)
unfolding deps_of
deps_valid schema (Cind cind) passes written k d lt = All-nil (IsValidDep schema) k d lt
deps_valid schema (Edit edit) passes written k d lt = All-nil (IsValidDep schema) k d lt
deps_valid schema (Cfd cfd) passes written k d lt =
    let within : k < length cfd.y = subst (λ (n : ℕ). k < n) (length-map-range_with_len (dep_at schema cfd) 0 (length cfd.y)) lt in
    subst (IsValidDep schema) (sym (get_or-map-range_with_len (dep_at schema cfd) 0 (length cfd.y) k k d within (omega arith))) (dep_valid schema cfd k within passes written.each_row)

-- ---- inclusion dependencies

inclusion_row_valid : (lefts rights : List Attr) (cind : CindDecl) (row : InclusionRow (List ℕ)) → is_inclusion_row_as_wide cind row ≡ true → IsWrittenInclusionRow row
    → outside_in_inclusion_row lefts rights cind row ≡ None → IsValidInclusionRow lefts rights (attr_numbers lefts cind.xp) (attr_numbers rights cind.yp) row
inclusion_row_valid lefts rights cind row wide written outside =
    let widths = both_equal (length row.xp) (length cind.xp) (length row.yp) (length cind.yp) wide in
    let inside = both_none (first_in (outside_constant lefts) (zip cind.xp row.xp)) (first_in (outside_constant rights) (zip cind.yp row.yp)) outside in
    record {
      xp = constants_if_none lefts cind.xp row.xp widths.0 (recursion_from_All IsConstant row.xp written.xp) (none_in _ _ inside.0);
      yp = constants_if_none rights cind.yp row.yp widths.1 (recursion_from_All IsConstant row.yp written.yp) (none_in _ _ inside.1);
    }

inclusion_rows_valid : (lefts rights : List Attr) (cind : CindDecl) (rows : List (InclusionRow (List ℕ))) → AllByRecursion (λ row. is_inclusion_row_as_wide cind row ≡ true) rows → AllByRecursion IsWrittenInclusionRow rows
    → AllByRecursion (λ row. outside_in_inclusion_row lefts rights cind row ≡ None) rows
    → AllByRecursion (IsValidInclusionRow lefts rights (attr_numbers lefts cind.xp) (attr_numbers rights cind.yp)) rows
inclusion_rows_valid lefts rights cind [] wide written outside = tt
inclusion_rows_valid lefts rights cind (row ∷ rows) wide written outside =
    (inclusion_row_valid lefts rights cind row wide.0 written.0 outside.0, inclusion_rows_valid lefts rights cind rows wide.1 written.1 outside.1)

-- no attribute stands twice on one side
side_distinct : (attrs : List Attr) (xs ys : List (List ℕ)) → AllByRecursion (IsKnown attrs) xs → AllByRecursion (IsKnown attrs) ys → repeated_in (xs ++ ys) ≡ None → AreDistinct (attr_numbers attrs xs ++ attr_numbers attrs ys)
side_distinct attrs xs ys front rest once =
    subst AreDistinct (map-append (attr_number attrs) xs ys) (numbers_distinct attrs (xs ++ ys) (both_known attrs xs ys front rest) (distinct_if_none (xs ++ ys) (map_none _ _ once)))

cind_valid : (schema : Schema) (cind : CindDecl) → Passes schema (Cind cind) → IsWrittenCind cind → IsValidCind schema (cind_of schema cind)
cind_valid schema cind passes written =
    let lefts = attrs_of schema cind.left in
    let rights = attrs_of schema cind.right in
    let tables = none_in (unknown_table_name schema) (cind.left ∷ cind.right ∷ []) passes.tables in
    let names = none_of (unknown_in lefts cind.x ∷ unknown_in lefts cind.xp ∷ unknown_in rights cind.y ∷ unknown_in rights cind.yp ∷ []) passes.attrs in
    let x = all_known_if_none lefts cind.x names.0 in
    let xp = all_known_if_none lefts cind.xp names.1.0 in
    let y = all_known_if_none rights cind.y names.1.1.0 in
    let yp = all_known_if_none rights cind.yp names.1.1.1.0 in
    let once = none_in repeated_in ((cind.x ++ cind.xp) ∷ (cind.y ++ cind.yp) ∷ []) passes.once in
    let even = both_true (nat_eq (length cind.x) (length cind.y)) (list_all (is_inclusion_row_as_wide cind) cind.rows) (holds_if_none _ _ passes.widths) in
    let keys : length cind.x ≡ length cind.y = eqb-true (length cind.x) (length cind.y) even.0 in
    let rows = inclusion_rows_valid lefts rights cind cind.rows (all_pass (is_inclusion_row_as_wide cind) cind.rows even.1) (recursion_from_All IsWrittenInclusionRow cind.rows written.each_row) (none_in (outside_in_inclusion_row lefts rights cind) cind.rows passes.inside) in
    record {
      left = table_if_none schema cind.left tables.0;
      right = table_if_none schema cind.right tables.1.0;
      x = numbers_within lefts cind.x x;
      xp = numbers_within lefts cind.xp xp;
      y = numbers_within rights cind.y y;
      yp = numbers_within rights cind.yp yp;
      as_long = length-map cind.x (attr_number lefts) ∙ keys ∙ sym (length-map cind.y (attr_number rights));
      distinct_left = side_distinct lefts cind.x cind.xp x xp once.0;
      distinct_right = side_distinct rights cind.y cind.yp y yp once.1.0;
      rows = All-from_recursion _ _ rows;
    }

pub cinds_valid : (schema : Schema) (decl : Decl) → Passes schema decl → IsWritten decl → All (IsValidCind schema) (cinds_of schema decl)
unfolding cinds_of
cinds_valid schema (Cfd cfd) passes written = All-nil (IsValidCind schema)
cinds_valid schema (Edit edit) passes written = All-nil (IsValidCind schema)
cinds_valid schema (Cind cind) passes written = All-from_recursion (IsValidCind schema) (cind_of schema cind ∷ []) (cind_valid schema cind passes written, tt)

-- ---- editing rules

pattern_numbers : (attrs : List Attr) (pattern : List (List ℕ × EditCell)) → pattern_attrs (numbered_pattern attrs pattern) ≡ attr_numbers attrs (pattern_attrs pattern)
pattern_numbers attrs [] = refl
pattern_numbers attrs (p ∷ pattern) = ap (λ (rest : List ℕ). attr_number attrs p.0 ∷ rest) (pattern_numbers attrs pattern)

not_empty : {X : Type 0} (xs : List X) → not (nat_eq (length xs) 0) ≡ true → 1 ≤ length xs
not_empty [] e = absurd cc
not_empty (x ∷ xs) e = omega arith

pub columns_known : (attrs masters : List Attr) (x xm : List (List ℕ)) → length x ≡ length xm → unknown_in_pairs attrs masters x xm ≡ None → AllByRecursion (IsKnown attrs) x × AllByRecursion (IsKnown masters) xm
unfolding unknown_in_pairs
columns_known attrs masters x xm same e =
    let each = none_of (first_in (unknown_in_pair attrs masters) (zip x xm) ∷ unknown_in attrs (drop (length xm) x) ∷ unknown_in masters (drop (length x) xm) ∷ []) e in
    pairs_known attrs masters x xm same each.0

edit_valid : (schema : Schema) (edit : EditDecl) → Passes schema (Edit edit) → IsWrittenEdit edit → IsValidEditRule schema (edit_of schema edit)
edit_valid schema edit passes written =
    let attrs = attrs_of schema edit.table in
    let masters = attrs_of schema edit.master in
    let tables = none_in (unknown_table_name schema) (edit.table ∷ edit.master ∷ []) passes.tables in
    let names = none_of (unknown_in_pairs attrs masters edit.x edit.xm ∷ unknown_name attrs edit.target ∷ unknown_name masters edit.source ∷ unknown_in attrs (pattern_attrs edit.when) ∷ []) passes.attrs in
    let as_long : length edit.x ≡ length edit.xm = eqb-true (length edit.x) (length edit.xm) (holds_if_none _ _ passes.widths) in
    let columns = columns_known attrs masters edit.x edit.xm as_long names.0 in
    let target = known_if_none attrs edit.target names.1.0 in
    let source = known_if_none masters edit.source names.1.1.0 in
    let pattern = all_known_if_none attrs (pattern_attrs edit.when) names.1.1.1.0 in
    let once = none_in repeated_in (edit.x ∷ pattern_attrs edit.when ∷ []) passes.once in
    let cells = pattern_if_none attrs edit.when pattern (recursion_from_All (λ (p : List ℕ × EditCell). IsWrittenEditCell p.1) edit.when written.pattern) (none_in (outside_in_pattern attrs) edit.when passes.inside) in
    record {
      table = table_if_none schema edit.table tables.0;
      master = table_if_none schema edit.master tables.1.0;
      marked = holds_if_none _ _ passes.master;
      x = numbers_within attrs edit.x columns.0;
      xm = numbers_within masters edit.xm columns.1;
      target = target.within;
      source = source.within;
      some = subst (λ (n : ℕ). 1 ≤ n) (sym (length-map edit.x (attr_number attrs))) (not_empty edit.x (holds_if_none _ _ passes.matched));
      as_long = length-map edit.x (attr_number attrs) ∙ as_long ∙ sym (length-map edit.xm (attr_number masters));
      distinct = numbers_distinct attrs edit.x columns.0 (distinct_if_none edit.x (map_none _ _ once.0));
      distinct_pattern = subst AreDistinct (sym (pattern_numbers attrs edit.when)) (numbers_distinct attrs (pattern_attrs edit.when) pattern (distinct_if_none (pattern_attrs edit.when) (map_none _ _ once.1.0)));
      outside = number_outside attrs edit.x edit.target columns.0 target (not_true _ (holds_if_none _ _ passes.outside));
      pattern = All-from_recursion _ _ cells;
      fits = admitted_if_within _ _ (holds_if_none _ _ passes.fits);
    }

pub edits_valid : (schema : Schema) (decl : Decl) → Passes schema decl → IsWritten decl → All (IsValidEditRule schema) (edits_of schema decl)
unfolding edits_of
edits_valid schema (Cfd cfd) passes written = All-nil (IsValidEditRule schema)
edits_valid schema (Cind cind) passes written = All-nil (IsValidEditRule schema)
edits_valid schema (Edit edit) passes written = All-from_recursion (IsValidEditRule schema) (edit_of schema edit ∷ []) (edit_valid schema edit passes written, tt)
