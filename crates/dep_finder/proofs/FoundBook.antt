-- Valid dependencies of a table that have names of their own are, where the limits allow that many, those of a rule book.
use Rattle.std.proofs.Common.{◌≡◌, ℕ, ◌<◌, ◌≤◌, Bool, false, not, List, [], ◌∷◌, ◌++◌, length, get_or, take, map, None, All, sum_by, refl, ap, sym, ◌∙◌, subst, arith}
use Rattle.std.specs.List.{flat_map}
use Rattle.std.specs.Str.{bytes_eq}
use Rattle.std.proofs.lemmas.Bool.{false_from_ne_true, le-leb}
use Rattle.std.proofs.lemmas.List.{get_or-map, get_or-take, length-map, length-take, take-map}
use Rattle.std.proofs.lemmas.List.Elements.{All-cons, All-from_recursion, All-head, All-map, All-nil, All-tail, All-weaker}
use Rattle.std.proofs.lemmas.List.Folds.{list_any_none}
use Rattle.std.proofs.lemmas.List.Sums.{sum_by-cons, sum_by_more_le}
use Rattle.std.proofs.lemmas.Slice.Eq.{bytes_eq-Decides}
use Rattle.text_lists.specs.Limits.{AreLimits}
use Rattle.text_lists.specs.Names.{IsName}
use Rattle.text_lists.specs.Repeats.{AreDistinct}
use Rattle.text_lists.specs.declared.limits.Limits.{Limits}
use Rattle.text_lists.specs.declared.limits.Limit.TheVariants.{Cinds, Deps, Edits, TableauRows}
use Rattle.schema_core.specs.Lookups.{attrs_at, domain_at}
use Rattle.schema_core.specs.Schemas.{IsValidSchema}
use Rattle.schema_core.specs.declared.schema.Attr.{Attr}
use Rattle.schema_core.specs.declared.schema.Schema.{Schema}
use Rattle.schema_core.specs.declared.schema.Table.{Table}
use Rattle.cfd_semantics.specs.declared.dependency.TableauRow.{TableauRow}
use Rattle.rule_model.specs.Books.{AreFaultless, IsBook, book_cinds, book_deps, book_edits}
use Rattle.rule_model.specs.Counts.{AreWithin, counts_of}
use Rattle.rule_model.specs.Declarations.{IsWritten, IsWrittenCell, IsWrittenRow, cind_count, dep_count, edit_count, name_of, row_count}
use Rattle.rule_model.specs.Faults.{duplicate_rule, fault_of, over_limit, tests, too_many, unless}
use Rattle.rule_model.specs.Rules.{IsValidCind, IsValidDep, IsValidEditRule, IsValidRow, cinds_of, edits_of}
use Rattle.rule_model.specs.declared.counts.Counts.{Counts}
use Rattle.rule_model.specs.declared.decl.Decl.{Decl}
use Rattle.rule_model.specs.declared.dep.Dep.{Dep}
use Rattle.rule_model.specs.declared.fault.RuleFault.TheVariants.{DuplicateRule, TooMany}
use Rattle.rule_model.proofs.Joining.{counts_of-with}
use Rattle.rule_model.proofs.ValidRules.{Passes}
use Rattle.dep_finder.specs.Deps.{IsOver}
use Rattle.dep_finder.specs.FoundText.{decl_of, row_decl}
use Rattle.dep_finder.specs.ReadAgain.{book_of}
use Rattle.dep_finder.specs.Valid.{AreRules, HasOneRow, HaveNames}
use Rattle.dep_finder.proofs.DepsAgain.{deps_again}
use Rattle.dep_finder.proofs.FaultlessRows.{dep_passes, none_first}
use Rattle.rule_parser.proofs.DepsAgain.{cell_written, cells_written}

-- ---- they can be written

row_written : (attrs : List Attr) (x : List ℕ) (a : ℕ) (row : TableauRow (List ℕ)) → IsValidRow attrs x a row → IsWrittenRow (row_decl row)
row_written attrs x a row is = record {
  x = All-from_recursion IsWrittenCell row.x (cells_written attrs x row.x is.x);
  y = All-cons IsWrittenCell row.a [] (cell_written (domain_at attrs a) row.a is.a) (All-nil IsWrittenCell);
}

dep_written : (schema : Schema) (table : Table) (dep : Dep) → IsValidDep schema dep → 1 ≤ length dep.rule.rows → IsName dep.name → IsWritten (decl_of table dep)
dep_written schema table dep valid some is_name' =
    let attrs = attrs_at schema dep.table in
    let IsRow = IsValidRow attrs dep.rule.x dep.rule.a in
    record {
      name = is_name';
      right = omega arith;
      rows = omega (arith, some, length-map dep.rule.rows row_decl);
      each_row = All-map IsWrittenRow row_decl dep.rule.rows
          (All-weaker IsRow (λ (row : TableauRow (List ℕ)). IsWrittenRow (row_decl row)) (λ row is. row_written attrs dep.rule.x dep.rule.a row is) dep.rule.rows valid.rows);
    }

-- ---- how many there are

count_deps : (table : Table) (found : List Dep) → sum_by dep_count (map (decl_of table) found) ≡ length found
count_deps table [] = refl
count_deps table (dep ∷ found) = omega (arith, sum_by-cons dep_count (decl_of table dep) (map (decl_of table) found), count_deps table found)

count_cinds : (table : Table) (found : List Dep) → sum_by cind_count (map (decl_of table) found) ≡ 0
count_cinds table [] = refl
count_cinds table (dep ∷ found) = omega (arith, sum_by-cons cind_count (decl_of table dep) (map (decl_of table) found), count_cinds table found)

count_edits : (table : Table) (found : List Dep) → sum_by edit_count (map (decl_of table) found) ≡ 0
count_edits table [] = refl
count_edits table (dep ∷ found) = omega (arith, sum_by-cons edit_count (decl_of table dep) (map (decl_of table) found), count_edits table found)

count_rows : (table : Table) (found : List Dep) → All HasOneRow found → sum_by row_count (map (decl_of table) found) ≡ length found
count_rows table [] one = refl
count_rows table (dep ∷ found) one =
    let rest = count_rows table found (All-tail HasOneRow dep found one) in
    let here = All-head HasOneRow dep found one in
    omega (arith, sum_by-cons row_count (decl_of table dep) (map (decl_of table) found), rest, here, length-map dep.rule.rows row_decl)

-- the limits allow that many where each has one tableau row, and so many dependencies and rows are allowed
pub few_with_one_row : (limits : Limits) (table : Table) (found : List Dep) → All HasOneRow found → length found ≤ limits.deps → length found ≤ limits.tableau_rows
    → AreWithin limits (counts_of (map (decl_of table) found))
few_with_one_row limits table found one few few_rows = record {
  deps = omega (arith, few, count_deps table found);
  cinds = omega (arith, count_cinds table found);
  edits = omega (arith, count_edits table found);
  tableau_rows = omega (arith, few_rows, count_rows table found one);
}

-- ---- no test finds a fault

-- the names before a place are other names
name_is_new : (table : Table) (found : List Dep) (place : ℕ) (d : Dep) → AreDistinct (map (λ (dep : Dep). dep.name) found) → place < length found
    → duplicate_rule (map (decl_of table) (take place found)) (decl_of table (get_or found place d)) ≡ None
name_is_new table found place d distinct inside =
    let name = (get_or found place d).name in
    let name_in = λ (dep : Dep). dep.name in
    let Differs = λ (other : Decl). bytes_eq (name_of other) name ≡ false in
    let each : All (λ (dep : Dep). Differs (decl_of table dep)) (take place found) =
    λ k e kl.
    let before : k < place = omega (arith, kl, length-take place found) in
    false_from_ne_true (bytes_eq (get_or (take place found) k e).name name) (λ same.
    distinct k place [] before (omega (arith, inside, length-map found name_in))
    (get_or-map name_in found k e [] (omega (arith, before, inside)) ∙ ap name_in (sym (get_or-take place found k e before))
    ∙ (bytes_eq-Decides (get_or (take place found) k e).name name).0 same ∙ sym (get_or-map name_in found place d [] inside))) in
    let none = list_any_none (λ (other : Decl). bytes_eq (name_of other) name) (map (decl_of table) (take place found)) (All-map Differs (decl_of table) (take place found) each) in
    ap (λ (b : Bool). unless (not b) (DuplicateRule name)) none

few_enough : (limits : Limits) (counts : Counts) → AreWithin limits counts → too_many limits counts ≡ None
few_enough limits counts within =
    let tested =
    over_limit Deps limits.deps counts.deps ∷ over_limit Cinds limits.cinds counts.cinds ∷ over_limit Edits limits.edits counts.edits ∷ over_limit TableauRows limits.tableau_rows counts.tableau_rows ∷ [] in
    none_first tested (
      ap (λ (b : Bool). unless b (TooMany Deps)) (le-leb counts.deps limits.deps within.deps),
      (
        ap (λ (b : Bool). unless b (TooMany Cinds)) (le-leb counts.cinds limits.cinds within.cinds),
        (
          ap (λ (b : Bool). unless b (TooMany Edits)) (le-leb counts.edits limits.edits within.edits),
          (ap (λ (b : Bool). unless b (TooMany TableauRows)) (le-leb counts.tableau_rows limits.tableau_rows within.tableau_rows), tt),
        ),
      ),
    )

-- the declarations up to a place are no more than all
few_before : (limits : Limits) (decls : List Decl) (place : ℕ) (d : Decl) → AreWithin limits (counts_of decls) → place < length decls → AreWithin limits (counts_of (take place decls ++ get_or decls place d ∷ []))
few_before limits decls place d within inside =
    subst (AreWithin limits) (sym (counts_of-with (take place decls) (get_or decls place d))) (record {
      deps = omega (arith, sum_by_more_le dep_count decls place d inside, within.deps);
      cinds = omega (arith, sum_by_more_le cind_count decls place d inside, within.cinds);
      edits = omega (arith, sum_by_more_le edit_count decls place d inside, within.edits);
      tableau_rows = omega (arith, sum_by_more_le row_count decls place d inside, within.tableau_rows);
    })

no_fault : (schema : Schema) (limits : Limits) (earlier : List Decl) (decl : Decl) → duplicate_rule earlier decl ≡ None → Passes schema decl → too_many limits (counts_of (earlier ++ decl ∷ [])) ≡ None
    → fault_of schema limits earlier decl ≡ None
unfolding fault_of
no_fault schema limits earlier decl new passes few = none_first (tests schema limits earlier decl) (
  new,
  (
    passes.tables,
    (passes.master, (passes.attrs, (passes.once, (passes.matched, (passes.outside, (passes.widths, (passes.inside, (passes.members, (passes.fits, (few, tt)))))))))),
  ),
)

abbrev no_dep : Dep
no_dep = record { name = []; table = 0; rule = record { x = []; a = 0; rows = [] } }

are_faultless : (schema : Schema) (limits : Limits) (table : Table) (found : List Dep) → IsValidSchema schema → AreRules schema table found → HaveNames found → AreWithin limits (counts_of (map (decl_of table) found))
    → AreFaultless (book_of schema limits table found)
are_faultless schema limits table found schema_valid rules names few = record {
  each = λ place d lt.
      let decls = map (decl_of table) found in
      let inside : place < length found = omega (arith, lt, length-map found (decl_of table)) in
      let dep = get_or found place no_dep in
      let here : get_or decls place d ≡ decl_of table dep = get_or-map (decl_of table) found place no_dep d inside in
      let passes = dep_passes schema table dep schema_valid (rules.of_table place no_dep inside) (rules.valid place no_dep inside) (rules.rows place no_dep inside) in
      no_fault schema limits (take place decls) (get_or decls place d)
      (subst (λ (earlier : List Decl). duplicate_rule earlier (get_or decls place d) ≡ None) (sym (take-map (decl_of table) place found))
      (subst (λ (decl : Decl). duplicate_rule (map (decl_of table) (take place found)) decl ≡ None) (sym here) (name_is_new table found place no_dep names.distinct inside)))
      (subst (Passes schema) (sym here) passes)
      (few_enough limits (counts_of (take place decls ++ get_or decls place d ∷ [])) (few_before limits decls place d few lt));
}

-- ---- the book

no_cinds : (schema : Schema) (table : Table) (found : List Dep) → flat_map (cinds_of schema) (map (decl_of table) found) ≡ []
unfolding cinds_of
no_cinds schema table [] = refl
no_cinds schema table (dep ∷ found) = no_cinds schema table found

no_edits : (schema : Schema) (table : Table) (found : List Dep) → flat_map (edits_of schema) (map (decl_of table) found) ≡ []
unfolding edits_of
no_edits schema table [] = refl
no_edits schema table (dep ∷ found) = no_edits schema table found

pub is_book : (schema : Schema) (limits : Limits) (table : Table) (found : List Dep) → IsValidSchema schema → AreLimits limits → All (IsOver table.attrs) found → AreRules schema table found → HaveNames found
    → AreWithin limits (counts_of (map (decl_of table) found)) → IsBook (book_of schema limits table found)
unfolding book_deps book_cinds book_edits
is_book schema limits table found schema_valid within over rules names few = record {
  schema = schema_valid;
  limits = within;
  written = All-map IsWritten (decl_of table) found (λ k d kl. dep_written schema table (get_or found k d) (rules.valid k d kl) (rules.rows k d kl) (names.each k d kl));
  faultless = are_faultless schema limits table found schema_valid rules names few;
  deps = subst (All (IsValidDep schema)) (sym (deps_again schema table found schema_valid rules.of_table over)) rules.valid;
  cinds = subst (All (IsValidCind schema)) (sym (no_cinds schema table found)) (All-nil (IsValidCind schema));
  edits = subst (All (IsValidEditRule schema)) (sym (no_edits schema table found)) (All-nil (IsValidEditRule schema));
  few = few;
}
