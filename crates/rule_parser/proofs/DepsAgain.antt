-- Reading the canonical text of a dependency gives the dependency, without its name.
use Rattle.std.proofs.Common.{◌≡◌, ℕ, ◌<◌, List, [], ◌∷◌, ◌++◌, length, map, Some, refl, ap, ◌∙◌, subst, append_assoc, arith}
use Rattle.std.specs.Prelude.{Ok}
use Rattle.std.specs.List.{flat_map, AllByRecursion, AllZip}
use Rattle.std.proofs.lemmas.List.{append-nil}
use Rattle.std.proofs.lemmas.List.Elements.{recursion_from_All, All-from_recursion}
use Rattle.text_lists.specs.Names.{IsName, IsConstant}
use Rattle.line_grammar.specs.Faults.{◌>>=◌}
use Rattle.line_grammar.specs.FileLines.{content_of, found_at}
use Rattle.line_grammar.specs.Phrases.{list_until}
use Rattle.schema_core.specs.Schemas.{IsValidSchema}
use Rattle.line_grammar.specs.TokenLists.{none_after}
use Rattle.line_grammar.specs.Tokens.{line_tokens}
use Rattle.line_grammar.specs.declared.tokens.Mark.TheVariants.{OpenBracket, CloseBracket, Arrow, Bars}
use Rattle.line_grammar.specs.declared.tokens.Token.TheVariants.{Name, Sign}
use Rattle.line_grammar.specs.declared.writing.Part.{Part}
use Rattle.line_grammar.specs.declared.writing.Part.TheVariants.{Space}
use Rattle.schema_core.specs.declared.schema.Domain.{Domain}
use Rattle.schema_core.specs.declared.schema.Attr.{Attr}
use Rattle.schema_core.specs.declared.schema.Schema.{Schema}
use Rattle.line_grammar.specs.Spelling.{line_text, tokens_in, IsReadable, mark, comma_separated}
use Rattle.line_grammar.proofs.PartLemmas.{tokens_in-append, AreGood-append, list_until-written}
use Rattle.line_grammar.proofs.SpelledLines.{line_tokens-written}
use Rattle.cfd_semantics.specs.declared.pattern.Pattern.{Pattern}
use Rattle.cfd_semantics.specs.declared.pattern.Pattern.TheVariants.{Any, Is, In, NotIn}
use Rattle.cfd_semantics.specs.declared.dependency.TableauRow.{TableauRow}
use Rattle.rule_model.specs.declared.dep.Dep.{Dep}
use Rattle.rule_model.specs.Declarations.{IsWrittenSet, IsWrittenCell}
use Rattle.rule_model.specs.Judged.{judged_dep}
use Rattle.schema_core.specs.Lookups.{attrs_at, domain_at}
use Rattle.rule_model.specs.Rules.{IsConstantOf, IsSetOf, IsCellOf, IsValidRow, IsValidDep}
use Rattle.rule_parser.specs.RuleLines.{cell_at, dep_at}
use Rattle.rule_parser.specs.RuleFiles.{rule_causes, read_alone, dep_or_fault, reads_dep}
use Rattle.rule_parser.specs.RuleText.{attr_parts, attrs_parts, cell_parts, row_line, cfd_parts, table_name, attr_name, dep_row, dep_line}
use Rattle.rule_parser.proofs.CellsAgain.{cell_again, cells_again, cells_some, no_cell, bars_tokens, cfd_row_readable}
use Rattle.rule_parser.proofs.HeadsAgain.{names, closed_tokens, names_until, cfd_parts_good, cfd_parts_apart}
use Rattle.rule_parser.proofs.NamesAgain.{attrs_valid}
use Rattle.rule_parser.proofs.Numbered.{table_name-IsName, attr_name-IsName}
use Rattle.rule_parser.proofs.Judging.{judged_again}

-- ---- valid cells can be written

pub all_constants : (domain : Domain) (values : List (List ℕ)) → AllByRecursion (IsConstantOf domain) values → AllByRecursion IsConstant values
all_constants domain [] are = tt
all_constants domain (v ∷ values) are = (are.0.constant, all_constants domain values are.1)

set_written : (domain : Domain) (values : List (List ℕ)) → IsSetOf domain values → IsWrittenSet values
set_written domain values is = record {
  some = is.some;
  few = is.few;
  constants = All-from_recursion IsConstant values (all_constants domain values (recursion_from_All (IsConstantOf domain) values is.each));
}

pub cell_written : (domain : Domain) (cell : Pattern (List ℕ)) → IsCellOf domain cell → IsWrittenCell cell
cell_written domain Any is = tt
cell_written domain (Is value) is = is.constant
cell_written domain (In values) is = set_written domain values is
cell_written domain (NotIn values) is = set_written domain values is

pub cells_written : (attrs : List Attr) (xs : List ℕ) (cells : List (Pattern (List ℕ))) → AllZip (λ n cell. IsCellOf (domain_at attrs n) cell) xs cells → AllByRecursion IsWrittenCell cells
cells_written attrs [] [] are = tt
cells_written attrs [] (cell ∷ cells) are = absurd are
cells_written attrs (n ∷ xs) [] are = absurd are
cells_written attrs (n ∷ xs) (cell ∷ cells) are = (cell_written (domain_at attrs n) cell are.0, cells_written attrs xs cells are.1)

pub named : (attrs : List Attr) (xs : List ℕ) → ((n : ℕ) → n < length attrs → IsName (attr_name attrs n)) → AllByRecursion (λ n. n < length attrs) xs → AllByRecursion IsName (map (attr_name attrs) xs)
named attrs [] each inside = tt
named attrs (n ∷ xs) each inside = (each n inside.0, named attrs xs each inside.1)

-- ---- the line is read as the declaration

-- what stands behind the first bracket
after_bracket : (x : List (List ℕ)) (a : List ℕ) (row : List Part)
    → tokens_in (((comma_separated attr_parts x ++ mark CloseBracket ∷ []) ++ Space ∷ mark Arrow ∷ Space ∷ attrs_parts (a ∷ [])) ++ row) ≡ names x ++ Sign CloseBracket ∷ Sign Arrow ∷ Sign OpenBracket ∷ Name a ∷ Sign CloseBracket ∷ tokens_in row
after_bracket x a row =
    ap tokens_in (append_assoc (comma_separated attr_parts x ++ mark CloseBracket ∷ []) (Space ∷ mark Arrow ∷ Space ∷ attrs_parts (a ∷ [])) row) ∙ closed_tokens attr_parts x CloseBracket (Space ∷ mark Arrow ∷ Space ∷ (attrs_parts (a ∷ []) ++ row))

pub line_again : (table : List ℕ) (x : List (List ℕ)) (a : List ℕ) (cells : List (Pattern (List ℕ))) (cell : Pattern (List ℕ)) → AllByRecursion IsWrittenCell cells → IsWrittenCell cell
    → dep_at (tokens_in (cfd_parts table x (a ∷ []) ++ Space ∷ row_line cell_parts cells (cell ∷ []))) ≡ Some (record { name = []; table = table; x = x; y = a ∷ []; rows = record { x = cells; y = cell ∷ [] } ∷ [] }, [])
unfolding dep_at
line_again table x a cells cell written is =
    let row = Space ∷ row_line cell_parts cells (cell ∷ []) in
    let right = tokens_in (comma_separated cell_parts (cell ∷ [])) in
    let columns = names_until CloseBracket x (Sign Arrow ∷ Sign OpenBracket ∷ Name a ∷ Sign CloseBracket ∷ tokens_in row) refl refl in
    let left : list_until cell_at Bars (tokens_in (comma_separated cell_parts cells) ++ Sign Bars ∷ right) ≡ Some (cells, right) = list_until-written cell_at cell_parts Bars cells right (cells_again cells written) (cells_some cells) refl (no_cell right) refl in
    let last : cell_at right ≡ Some (cell, []) = ap cell_at (tokens_in-append (cell_parts cell) []) ∙ cell_again cell [] is in
    rw (after_bracket x a row, columns, bars_tokens cell_parts cells (cell ∷ []), left, last) refl

-- ---- the whole

pub reads_dep-line : (schema : Schema) (dep : Dep) (rows : List (TableauRow (List ℕ))) → IsValidSchema schema → IsValidDep schema dep → dep.rule.rows ≡ rows → length rows ≡ 1 → reads_dep schema (line_text (dep_line schema dep)) ≡ Ok (record dep { name = [] })
unfolding reads_dep
reads_dep-line schema dep [] schema_valid valid are one = absurd (omega arith)
reads_dep-line schema dep (row ∷ other ∷ rows) schema_valid valid are one = absurd (omega arith)
reads_dep-line schema dep (row ∷ []) schema_valid valid are one =
    let attrs = attrs_at schema dep.table in
    let table = table_name schema dep.table in
    let x = map (attr_name attrs) dep.rule.x in
    let a = attr_name attrs dep.rule.a in
    let line = cfd_parts table x (a ∷ []) ++ dep_row row in
    let same : dep_line schema dep ≡ line = ap (λ rs. cfd_parts table x (a ∷ []) ++ flat_map dep_row rs) are ∙ ap (λ ps. cfd_parts table x (a ∷ []) ++ ps) (append-nil (dep_row row)) in
    let is_row : IsValidRow attrs dep.rule.x dep.rule.a row = (subst (λ rs. AllByRecursion (IsValidRow attrs dep.rule.x dep.rule.a) rs) are (recursion_from_All (IsValidRow attrs dep.rule.x dep.rule.a) dep.rule.rows valid.rows)).0 in
    let cells = cells_written attrs dep.rule.x row.x is_row.x in
    let cell = cell_written (domain_at attrs dep.rule.a) row.a is_row.a in
    let each : (n : ℕ) → n < length attrs → IsName (attr_name attrs n) = λ n inside. attr_name-IsName attrs n (attrs_valid schema dep.table schema_valid) inside in
    let x_names = named attrs dep.rule.x each (recursion_from_All (λ n. n < length attrs) dep.rule.x valid.x) in
    let readable_row = cfd_row_readable (record { x = row.x; y = row.a ∷ [] }) (record { x = All-from_recursion IsWrittenCell row.x cells; y = All-from_recursion IsWrittenCell (row.a ∷ []) (cell, tt) }) in
    let readable : IsReadable line = record {
      some = omega arith;
      good = AreGood-append (cfd_parts table x (a ∷ [])) (dep_row row) (cfd_parts_good table x (a ∷ []) (table_name-IsName schema dep.table schema_valid valid.table) x_names (each dep.rule.a valid.a, tt)) readable_row.good;
      apart = cfd_parts_apart table x (a ∷ []) (dep_row row) readable_row.apart;
    } in
    ap (λ ps. read_alone (λ tokens. none_after (dep_at tokens)) (content_of (line_tokens (line_text ps))) >>= λ cfd. dep_or_fault (judged_dep schema cfd)) same
    ∙ ap (λ found. read_alone (λ tokens. none_after (dep_at tokens)) (content_of found) >>= λ cfd. dep_or_fault (judged_dep schema cfd)) (line_tokens-written line readable)
    ∙ ap (λ found. found_at rule_causes 1 (none_after found) >>= λ cfd. dep_or_fault (judged_dep schema cfd)) (line_again table x a row.x row.a cells cell)
    ∙ ap dep_or_fault (judged_again schema dep row schema_valid valid are)
