-- What the certificates of the deciders' answers say is shown.
use Rattle.std.proofs.Common.{◌≡◌, ℕ, true, get_or, ◌<◌, ◌≤◌, List, [], ◌∷◌, length, Option, Some, None, refl, sym, ap, ◌∙◌, subst, arith}
use Rattle.std.specs.Prelude.{map, All, IsSomeAnd, Ok}
use Rattle.std.specs.List.{AllByRecursion, AllZip}
use Rattle.std.specs.Option.{option_map_or}
use Rattle.std.proofs.lemmas.Option.{slice_get-get_or}
use Rattle.schema_core.specs.declared.schema.Table.{Table}
use Rattle.cell_values.proofs.Lists.{AllZip-long}
use Rattle.rule_parser.specs.ReadRules.{IsDepDecl}
use Rattle.cert_text.specs.Written.{IsBudget}
use Rattle.std.proofs.lemmas.List.{length-map}
use Rattle.std.proofs.lemmas.List.Elements.{All-from_recursion, recursion_from_All}
use Rattle.schema_core.specs.Lookups.{attrs_at, domain_at}
use Rattle.text_lists.specs.Names.{IsName}
use Rattle.rule_model.specs.Declarations.{IsWrittenCell, IsWrittenRow}
use Rattle.rule_model.specs.declared.decl.CfdRow.{CfdRow}
use Rattle.rule_parser.specs.RuleText.{attr_name}
use Rattle.rule_parser.proofs.Numbered.{attr_name-IsName, table_name-IsName}
use Rattle.cell_values.proofs.Tables.{attrs_valid}
use Rattle.schema_core.specs.Schemas.{Admits, IsValidSchema, table_place}
use Rattle.schema_core.specs.declared.schema.Attr.{Attr}
use Rattle.schema_core.specs.declared.schema.Schema.{Schema}
use Rattle.case_tree.specs.CaseTree.{leaf_count}
use Rattle.cfd_semantics.specs.declared.dependency.TableauRow.{TableauRow}
use Rattle.rule_model.specs.Books.{Book, IsBook, book_deps}
use Rattle.rule_model.specs.Judged.{judged_dep}
use Rattle.rule_model.specs.Rules.{IsValidDep, IsValidRow}
use Rattle.rule_model.specs.declared.dep.Dep.{Dep}
use Rattle.rule_parser.proofs.Judging.{judged_again}
use Rattle.rule_parser.proofs.DepsAgain.{cell_written, cells_written, named}
use Rattle.cell_values.specs.Tuples.{IsTupleOf, answer_bytes}
use Rattle.cfd_consistency.specs.declared.decider.Consistency.{Consistency}
use Rattle.cfd_consistency.specs.declared.decider.Consistency.TheVariants as found
use Rattle.cfd_implication.specs.declared.answer.Implication.{Implication}
use Rattle.cfd_implication.specs.declared.answer.Implication.TheVariants as told
use Rattle.cert_text.specs.Canonical.{node_lines, tree_lines}
use Rattle.cert_text.specs.CertFiles.{tuple_line}
use Rattle.cert_text.specs.declared.cert.Answer.{Answer}
use Rattle.cert_text.specs.declared.cert.Answer.TheVariants.{Witness, Counter, Tree}
use Rattle.cert_text.specs.declared.cert.CertParts.{CertParts}
use Rattle.cert_text.specs.declared.cert.NodeLine.{NodeLine}
use Rattle.cert_check.specs.Made.{IsCertOfDep, IsFound, IsFoundOfDep, IsNamedCert, IsRightText, IsSomeText, IsWrittenAnswer, IsWrittenDepAnswer, decl_of, decl_row}
use Rattle.cfd_implication.specs.Question.{AskedDep, asked_of, question}
use Rattle.cert_check.specs.Shown.{Asks, DepShows, IsShortTuple, IsRightCert, TableShows, TreeShows, accepted, asks_consistency, asks_from, asks_implication, nodes_of}
use Rattle.cert_check.proofs.QuestionNames.{names_from, names_of_one, names_of_two}
use Rattle.cert_check.proofs.NodesBack.{shown_by, tree_named}

short_by : (attrs : List Attr) (tuple : List (List ℕ)) → IsTupleOf attrs tuple → AllByRecursion (λ (text : List ℕ). length text ≤ answer_bytes) tuple → IsShortTuple attrs tuple
short_by [] [] typed short = tt
short_by [] (text ∷ tuple) typed short = absurd typed
short_by (attr ∷ attrs) [] typed short = absurd typed
short_by (attr ∷ attrs) (text ∷ tuple) typed short = (record { admitted = typed.0; short = short.0 }, short_by attrs tuple typed.1 short.1)

short_tuple : (attrs : List Attr) (tuple : List (List ℕ)) → IsTupleOf attrs tuple → All (λ (text : List ℕ). length text ≤ answer_bytes) tuple → IsShortTuple attrs tuple
short_tuple attrs tuple typed short = short_by attrs tuple typed (recursion_from_All (λ (text : List ℕ). length text ≤ answer_bytes) tuple short)

budget_of : (leaves budget : ℕ) → leaves ≡ budget → 1 ≤ budget → budget ≤ 1000000 → IsBudget leaves
budget_of leaves budget is some within = record { some = omega arith; within = omega arith }

-- a table has attributes, and so its tuples have texts
some_attrs : (schema : Schema) (table : ℕ) → IsValidSchema schema → table < length schema.tables → 1 ≤ length (attrs_at schema table)
some_attrs schema table valid within =
    let d : Table = record { name = []; file = []; master = true; attrs = [] } in
    let same : attrs_at schema table ≡ (get_or schema.tables table d).attrs = ap (λ (o : Option Table). option_map_or (λ (t : Table). t.attrs) o []) (slice_get-get_or schema.tables table d within) in
    let some = (valid.tables table d within).some in
    omega (arith, ap length same)

some_texts : (attrs : List Attr) (tuple : List (List ℕ)) → 1 ≤ length attrs → IsTupleOf attrs tuple → 1 ≤ length tuple
some_texts attrs tuple some typed = omega (arith, AllZip-long (λ (attr : Attr) (text : List ℕ). Admits attr.domain text) attrs tuple typed)

-- ---- consistency

module _ (rules : Book) (good : IsBook rules) (table : ℕ) (within : table < length rules.schema.tables) where
  -- of a right answer each node has a name
  pub found_named : (answer : Consistency) → IsFound (record { rules = rules; table = table }) answer → IsWrittenAnswer (asks_consistency rules table).names answer
  found_named (found.Witness tuple) is = some_texts (attrs_at rules.schema table) tuple (some_attrs rules.schema table good.schema within) is.answer.0.typed
  found_named (found.Never tree) is = let refutes = is.answer.0 in tree_named (asks_consistency rules table).set (asks_consistency rules table).names (names_of_one rules good table within) refutes.tree tree refutes.listed refutes.right
  found_named (found.Spent tree) is =
      let partial = is.answer.0 in
      (tree_named (asks_consistency rules table).set (asks_consistency rules table).names (names_of_one rules good table within) partial.tree tree partial.listed partial.right, budget_of (leaf_count tree) is.budget is.answer.1 is.some is.within)

  pub answer_right : (name : List ℕ) → table_place rules.schema name ≡ Some table → (answer : Consistency) (cert : CertParts) → IsFound (record { rules = rules; table = table }) answer → IsNamedCert (asks_consistency rules table).names name answer cert → IsRightCert rules cert
  answer_right name is (found.Witness tuple) cert found made =
      let shows : TableShows rules (Witness (tuple_line 2 tuple)) table = (short_tuple (attrs_at rules.schema table) tuple found.answer.0.typed found.answer.1, found.answer.0.satisfies) in
      subst (IsRightCert rules) (sym made) (subst (λ (o : Option ℕ). IsSomeAnd o (TableShows rules (Witness (tuple_line 2 tuple)))) (sym is) shows)
  answer_right name is (found.Never tree) cert found made =
      let asks = asks_consistency rules table in
      let shows : TableShows rules (Tree (tree_lines None made.named)) table = shown_by asks.set asks.names (names_of_one rules good table within) None tree made.named made.nodes found.answer.0 in
      subst (IsRightCert rules) (sym made.whole) (subst (λ (o : Option ℕ). IsSomeAnd o (TableShows rules (Tree (tree_lines None made.named)))) (sym is) shows)
  answer_right name is (found.Spent tree) cert found made =
      let asks = asks_consistency rules table in
      let budget = Some (leaf_count tree) in
      let shows : TableShows rules (Tree (tree_lines budget made.named)) table = shown_by asks.set asks.names (names_of_one rules good table within) budget tree made.named made.nodes (found.answer.0, refl) in
      subst (IsRightCert rules) (sym made.whole) (subst (λ (o : Option ℕ). IsSomeAnd o (TableShows rules (Tree (tree_lines budget made.named)))) (sym is) shows)

-- ---- implication

-- the dependency without its name
abbrev nameless : Dep → Dep
nameless dep = record dep { name = [] }

accepted_by : (schema : Schema) (dep : Dep) (rows : List (TableauRow (List ℕ))) → IsValidSchema schema → IsValidDep schema dep → dep.rule.rows ≡ rows → length rows ≡ 1 → judged_dep schema (decl_of schema dep) ≡ Ok (nameless dep)
accepted_by schema dep [] valid dep_valid are one = absurd (omega arith)
accepted_by schema dep (row ∷ other ∷ rows) valid dep_valid are one = absurd (omega arith)
accepted_by schema dep (row ∷ []) valid dep_valid are one =
    ap (λ (rs : List (TableauRow (List ℕ))). judged_dep schema (record (decl_of schema dep) { rows = map decl_row rs })) are ∙ judged_again schema dep row valid dep_valid are

module _ (schema : Schema) (deps : List Dep) (dep : Dep) (valid : IsValidSchema schema) (dep_valid : IsValidDep schema dep) where
  pub told_named : (answer : Implication) → IsFoundOfDep (record { schema = schema; deps = deps; dep = dep }) answer → IsWrittenDepAnswer (asks_from schema deps dep).names answer
  told_named (told.Counter left right) is =
      let some = some_attrs schema dep.table valid dep_valid.table in
      (some_texts (attrs_at schema dep.table) left some is.answer.one_tuple, some_texts (attrs_at schema dep.table) right some is.answer.other_tuple)
  told_named (told.Implied tree) is = let refutes = is.answer.0 in tree_named (asks_from schema deps dep).set (asks_from schema deps dep).names (names_from schema deps dep valid dep_valid) refutes.tree tree refutes.listed refutes.right
  told_named (told.Spent tree) is =
      let partial = is.answer.0 in
      (tree_named (asks_from schema deps dep).set (asks_from schema deps dep).names (names_from schema deps dep valid dep_valid) partial.tree tree partial.listed partial.right, budget_of (leaf_count tree) is.budget is.answer.1 is.some is.within)

  pub judged_decl : length dep.rule.rows ≡ 1 → judged_dep schema (decl_of schema dep) ≡ Ok (nameless dep)
  judged_decl one = accepted_by schema dep dep.rule.rows valid dep_valid refl one

module _ (rules : Book) (good : IsBook rules) (dep : Dep) (valid : IsValidDep rules.schema dep) (one : length dep.rule.rows ≡ 1) where
  -- the question of the dependency without its name is the same
  same_asks : asks_implication rules (nameless dep) ≡ asks_implication rules dep
  unfolding question
  same_asks = refl

  asked : accepted (judged_dep rules.schema (decl_of rules.schema dep)) ≡ Some (nameless dep)
  asked = ap accepted (judged_decl rules.schema (book_deps rules) dep good.schema valid one)

  at_answer : (answer : Answer) → DepShows rules answer (nameless dep) → IsSomeAnd (accepted (judged_dep rules.schema (decl_of rules.schema dep))) (DepShows rules answer)
  at_answer answer shows = subst (λ (o : Option Dep). IsSomeAnd o (DepShows rules answer)) (sym asked) shows

  at_tree : (budget : Option ℕ) (nodes : List NodeLine) → TreeShows (asks_implication rules dep).set budget (nodes_of (asks_implication rules dep).names nodes) → TreeShows (asks_implication rules (nameless dep)).set budget (nodes_of (asks_implication rules (nameless dep)).names nodes)
  at_tree budget nodes shows = subst (λ (a : Asks). TreeShows a.set budget (nodes_of a.names nodes)) (sym same_asks) shows

  pub told_right : (answer : Implication) (cert : CertParts) → IsFoundOfDep (asked_of rules dep) answer → IsCertOfDep (asked_of rules dep) answer cert → IsRightCert rules cert
  told_right (told.Counter left right) cert found made =
      let attrs = attrs_at rules.schema dep.table in
      let counter = found.answer in
      let shows : DepShows rules (Counter (tuple_line 2 left) (tuple_line 3 right)) (nameless dep) = (short_tuple attrs left counter.one_tuple counter.one_short, short_tuple attrs right counter.other_tuple counter.other_short, record { satisfy = counter.satisfy; break = counter.breaks }) in
      subst (IsRightCert rules) (sym made) (at_answer (Counter (tuple_line 2 left) (tuple_line 3 right)) shows)
  told_right (told.Implied tree) cert found made =
      let asks = asks_implication rules dep in
      let shows = shown_by asks.set asks.names (names_of_two rules good dep valid) None tree made.named made.nodes found.answer.0 in
      subst (IsRightCert rules) (sym made.whole) (at_answer (Tree (tree_lines None made.named)) (at_tree None (node_lines 3 made.named) shows))
  told_right (told.Spent tree) cert found made =
      let asks = asks_implication rules dep in
      let budget = Some (leaf_count tree) in
      let shows = shown_by asks.set asks.names (names_of_two rules good dep valid) budget tree made.named made.nodes (found.answer.0, refl) in
      subst (IsRightCert rules) (sym made.whole) (at_answer (Tree (tree_lines budget made.named)) (at_tree budget (node_lines 3 made.named) shows))

-- over the book that the question was made of
pub right_over : (asked : AskedDep) (answer : Implication) (text : List ℕ) → IsValidDep asked.schema asked.dep → length asked.dep.rule.rows ≡ 1 → IsFoundOfDep asked answer → IsSomeText (IsCertOfDep asked answer) text
    → (rules : Book) (dep : Dep) → IsBook rules → asked ≡ asked_of rules dep → IsRightText rules (IsCertOfDep (asked_of rules dep) answer) text
right_over question answer text valid one found told rules dep good is =
    let valid-dep : IsValidDep rules.schema dep = subst (λ (a : AskedDep). IsValidDep a.schema a.dep) is valid in
    let one-row : length dep.rule.rows ≡ 1 = subst (λ (a : AskedDep). length a.dep.rule.rows ≡ 1) is one in
    let found-is = subst (λ (a : AskedDep). IsFoundOfDep a answer) is found in
    let cert-is = subst (λ (a : AskedDep). IsCertOfDep a answer told.cert) is told.is in
    record {
      cert = told.cert;
      is = (cert-is, told_right rules good dep valid-dep one-row answer told.cert found-is cert-is);
      spelled = told.spelled;
    }

-- ---- the declaration can be written

rows_written : (attrs : List Attr) (left : List ℕ) (right : ℕ) (rows : List (TableauRow (List ℕ))) → AllByRecursion (IsValidRow attrs left right) rows → AllByRecursion IsWrittenRow (map decl_row rows)
rows_written attrs left right [] are = tt
rows_written attrs left right (row ∷ rows) are = (
  record {
    x = All-from_recursion IsWrittenCell row.x (cells_written attrs left row.x are.0.x);
    y = All-from_recursion IsWrittenCell (row.a ∷ []) (cell_written (domain_at attrs right) row.a are.0.a, tt);
  },
  rows_written attrs left right rows are.1,
)

one_cell_each : (rows : List (TableauRow (List ℕ))) → AllByRecursion (λ (row : CfdRow). length row.y ≡ 1) (map decl_row rows)
one_cell_each [] = tt
one_cell_each (row ∷ rows) = (refl, one_cell_each rows)

pub decl_written : (schema : Schema) (dep : Dep) → IsValidSchema schema → IsValidDep schema dep → length dep.rule.rows ≡ 1 → IsDepDecl (decl_of schema dep)
decl_written schema dep valid dep_valid one =
    let attrs = attrs_at schema dep.table in
    let each : (n : ℕ) → n < length attrs → IsName (attr_name attrs n) = λ n inside. attr_name-IsName attrs n (attrs_valid schema dep.table valid) inside in
    let rows = map decl_row dep.rule.rows in
    record {
      name = refl;
      table = table_name-IsName schema dep.table valid dep_valid.table;
      x = All-from_recursion IsName (map (attr_name attrs) dep.rule.x) (named attrs dep.rule.x each (recursion_from_All (λ n. n < length attrs) dep.rule.x dep_valid.x));
      y = All-from_recursion IsName (attr_name attrs dep.rule.a ∷ []) (each dep.rule.a dep_valid.a, tt);
      right = refl;
      one = length-map dep.rule.rows decl_row ∙ one;
      rows = All-from_recursion IsWrittenRow rows (rows_written attrs dep.rule.x dep.rule.a dep.rule.rows (recursion_from_All (IsValidRow attrs dep.rule.x dep.rule.a) dep.rule.rows dep_valid.rows));
      width = All-from_recursion (λ (row : CfdRow). length row.y ≡ 1) rows (one_cell_each dep.rule.rows);
    }
