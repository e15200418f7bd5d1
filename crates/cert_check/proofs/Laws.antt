-- A certificate holds exactly where what it says is shown, and then that is right.
use Rattle.std.proofs.Common.{◌≡◌, ◌≢◌, ℕ, List, [], ◌∷◌, length, Option, Some, None, refl, ap, ◌∙◌, subst, arith}
use Rattle.std.specs.Prelude.{map, All, ◌↔◌, IsSomeAnd, Result, Ok, Err}
use Rattle.std.specs.List.{AllByRecursion, Any}
use Rattle.std.proofs.lemmas.List.{length-map}
use Rattle.std.proofs.lemmas.List.Elements.{All-from_recursion}
use Rattle.text_lists.specs.Firsts.{first_of}
use Rattle.schema_core.specs.Lookups.{attrs_at}
use Rattle.schema_core.specs.Schemas.{table_place}
use Rattle.schema_core.specs.declared.schema.Attr.{Attr}
use Rattle.schema_core.specs.declared.schema.Schema.{Schema}
use Rattle.case_tree.specs.CaseTree.{ClauseSet, Place, preorder, places, IsRightAt, Refutes, leaf_count}
use Rattle.case_tree.specs.declared.tree.Node.{Node}
use Rattle.case_tree.specs.declared.tree.Node.TheVariants.{Unclosed}
use Rattle.case_tree.proofs.Soundness.{sound}
use Rattle.rule_model.specs.Books.{Book, book_deps, IsBook}
use Rattle.rule_model.specs.Faults.{schema_tests}
use Rattle.rule_model.specs.Judged.{judged_dep, unless_fault}
use Rattle.rule_model.specs.Rules.{dep_at, row_at, IsValidDep}
use Rattle.rule_model.specs.declared.decl.CfdDecl.{CfdDecl}
use Rattle.rule_model.specs.declared.decl.Decl.TheVariants.{Cfd}
use Rattle.rule_model.specs.declared.dep.Dep.{Dep}
use Rattle.rule_model.specs.declared.fault.RuleFault.{RuleFault}
use Rattle.rule_model.proofs.ValidRules.{passes_over_schema, dep_valid}
use Rattle.cell_values.specs.Tuples.{IsTupleOf}
use Rattle.cfd_consistency.specs.Consistent.{IsConsistent}
use Rattle.cfd_consistency.proofs.Questions.{none_if_refuted}
use Rattle.cfd_implication.specs.Implied.{IsImplied}
use Rattle.cell_values.proofs.Tables.{attrs_each}
use Rattle.cfd_implication.proofs.Theorems.{implied_if_none}
use Rattle.rule_parser.specs.ReadRules.{IsDepDecl}
use Rattle.cert_text.specs.Written.{IsQuestion, IsWrittenCert}
use Rattle.cert_text.specs.declared.cert.Question.{Question}
use Rattle.cert_text.specs.declared.cert.Question.TheVariants.{Consistent, Implies}
use Rattle.cert_text.specs.declared.cert.NodeLine.{NodeLine}
use Rattle.cert_text.specs.declared.cert.Answer.{Answer}
use Rattle.cert_text.specs.declared.cert.Answer.TheVariants.{Witness, Counter, Tree}
use Rattle.cert_text.specs.declared.cert.CertParts.{CertParts}
use Rattle.cert_check.specs.Right.{TreeSays, SaysConsistent, SaysImplied, IsRight, IsRightAnswer}
use Rattle.cert_check.specs.Shown.{AnswerShows, DepShows, IsShortTuple, IsRightCert, TableShows, TreeShows, accepted, asks_consistency, asks_implication, nodes_of}
use Rattle.cert_check.specs.Verdict.{BudgetLine, LineOf, End, Passes, QuestionLines, TreePasses, ConsistencyLines, ImplicationLines, IsCertVerdict}
use Rattle.cert_check.specs.Names.{Names}
use Rattle.cert_check.specs.declared.verdict.CertVerdict.{CertVerdict}
use Rattle.cert_check.specs.declared.verdict.CertVerdict.TheVariants.{Holds, Fails}
use Rattle.cert_check.proofs.NodeLines.{asks_with, as_many, closed_holds, lines_of, pass_back, spent_holds}
use Rattle.cert_check.proofs.OneTrees.{place_node, nodes_at_places}

-- ---- trees

rights : (set : ClauseSet) (budget : Option ℕ) (them : List Place) → AllByRecursion (Passes set budget) them → AllByRecursion (IsRightAt set) them
rights set budget [] pass = tt
rights set budget (place ∷ them) pass = (pass.0.right, rights set budget them pass.1)

closeds : (set : ClauseSet) (them : List Place) → AllByRecursion (Passes set None) them → AllByRecursion (λ (node : Node). node ≢ Unclosed) (map place_node them)
closeds set [] pass = tt
closeds set (place ∷ them) pass = (pass.0.closed, closeds set them pass.1)

module _ (set : ClauseSet) (names : Names) (line : ℕ) where
  -- a tree of which each line passes shows what it says
  tree_shown : (budget : Option ℕ) (lines : List NodeLine) → TreePasses (asks_with set names) (lines_of line budget lines) Holds → TreeShows set budget (nodes_of names lines)
  tree_shown None lines passes =
      let them = places passes.tree in
      let back = pass_back set None End lines them (as_many names lines passes.tree passes.listed) passes.passes in
      record {
        tree = passes.tree;
        listed = passes.listed;
        right = All-from_recursion (IsRightAt set) them (rights set None them back.0);
        closed = All-from_recursion (λ (node : Node). node ≢ Unclosed) (nodes_of names lines) (subst (λ (nodes : List Node). AllByRecursion (λ (node : Node). node ≢ Unclosed) nodes) (nodes_at_places passes.tree ∙ passes.listed) (closeds set them back.0));
      }
  tree_shown (Some budget) lines passes =
      let them = places passes.tree in
      let back = pass_back set (Some budget) (BudgetLine line (Some budget) (preorder passes.tree)) lines them (as_many names lines passes.tree passes.listed) passes.passes in (
        record {
          tree = passes.tree;
          listed = passes.listed;
          right = All-from_recursion (IsRightAt set) them (rights set (Some budget) them back.0);
          open_node = subst (Any (λ (node : Node). node ≡ Unclosed)) passes.listed back.1.0.open_node;
        },
        subst (λ (nodes : List Node). leaf_count nodes ≡ budget) passes.listed back.1.0.leaves,
      )

  tree_passes : (budget : Option ℕ) (lines : List NodeLine) → TreeShows set budget (nodes_of names lines) → TreePasses (asks_with set names) (lines_of line budget lines) Holds
  tree_passes None lines shows = closed_holds set names lines line shows
  tree_passes (Some budget) lines shows = spent_holds set names lines line budget shows.0 shows.1

-- ---- a certificate holds exactly where what it says is shown

table_law : (rules : Book) (answer : Answer) (table : ℕ) → ConsistencyLines rules answer table Holds ↔ TableShows rules answer table
table_law rules (Witness one) table = (λ holds. (holds.0, holds.1.0), λ shows. (shows.0, (shows.1, tt)))
table_law rules (Tree lines) table =
    let asks = asks_consistency rules table in
    (λ holds. tree_shown asks.set asks.names lines.line lines.budget lines.nodes holds, λ shows. tree_passes asks.set asks.names lines.line lines.budget lines.nodes shows)
table_law rules (Counter one other) table = (λ holds. holds, λ shows. shows)

dep_law : (rules : Book) (answer : Answer) (dep : Dep) → ImplicationLines rules answer dep Holds ↔ DepShows rules answer dep
dep_law rules (Counter one other) dep = (λ holds. (holds.0, holds.1.0, holds.1.1.0), λ shows. (shows.0, (shows.1, (shows.2, tt))))
dep_law rules (Tree lines) dep =
    let asks = asks_implication rules dep in
    (λ holds. tree_shown asks.set asks.names lines.line lines.budget lines.nodes holds, λ shows. tree_passes asks.set asks.names lines.line lines.budget lines.nodes shows)
dep_law rules (Witness one) dep = (λ holds. holds, λ shows. shows)

fails_not : (line : ℕ) → Holds ≡ Fails line → ⊥
fails_not line same = cc

line_law : {X : Type 0} (line : ℕ) (found : Option X) (lines : X → CertVerdict → Type 0) (shows : X → Type 0) → ((x : X) → lines x Holds ↔ shows x) → LineOf line found lines Holds ↔ IsSomeAnd found shows
line_law line None lines shows each = (λ holds. absurd (fails_not line holds), λ shown. absurd shown)
line_law line (Some x) lines shows each = each x

question_law : (rules : Book) (line : ℕ) (question : Question) (answer : Answer) → QuestionLines rules line question answer Holds ↔ AnswerShows rules question answer
question_law rules line (Consistent name) answer = line_law line (table_place rules.schema name) (ConsistencyLines rules answer) (TableShows rules answer) (table_law rules answer)
question_law rules line (Implies decl) answer = line_law line (accepted (judged_dep rules.schema decl)) (ImplicationLines rules answer) (DepShows rules answer) (dep_law rules answer)

pub shown_law : (rules : Book) (cert : CertParts) → IsCertVerdict rules cert Holds ↔ IsRightCert rules cert
shown_law rules cert = question_law rules cert.asked.line cert.asked.question cert.answer

-- ---- tuples

typed : (attrs : List Attr) (tuple : List (List ℕ)) → IsShortTuple attrs tuple → IsTupleOf attrs tuple
typed [] [] is = tt
typed [] (text ∷ tuple) is = absurd is
typed (attr ∷ attrs) [] is = absurd is
typed (attr ∷ attrs) (text ∷ tuple) is = (is.0.admitted, typed attrs tuple is.1)

-- ---- consistency

tree_says : (set : ClauseSet) (budget : Option ℕ) (nodes : List Node) (fact : Type 0) → (Refutes set nodes → fact) → TreeShows set budget nodes → TreeSays budget fact
tree_says set None nodes fact means shows = means shows
tree_says set (Some budget) nodes fact means shows = tt

consistent_answer : (rules : Book) → IsBook rules → (answer : Answer) (table : ℕ) → TableShows rules answer table → SaysConsistent answer (IsConsistent rules table)
consistent_answer rules good (Witness one) table shows = (one.values, record { typed = typed (attrs_at rules.schema table) one.values shows.0; satisfies = shows.1 })
consistent_answer rules good (Tree lines) table shows =
    let asks = asks_consistency rules table in
    let nodes = nodes_of asks.names lines.nodes in
    tree_says asks.set lines.budget nodes (¬ IsConsistent rules table) (none_if_refuted rules good table nodes) shows
consistent_answer rules good (Counter one other) table shows = shows

found_right : {X : Type 0} (found : Option X) (Shows Says : X → Type 0) → ((x : X) → found ≡ Some x → Shows x → Says x) → IsSomeAnd found Shows → IsSomeAnd found Says
found_right None Shows Says each shown = shown
found_right (Some x) Shows Says each shown = each x refl shown

-- ---- implication

pub record IsJudged (schema : Schema) (decl : CfdDecl) (dep : Dep) : Type 0 where
  pub is : dep_at schema decl 0 ≡ dep
  pub valid : IsValidDep schema dep
  pub one : length dep.rule.rows ≡ 1

by_fault : (schema : Schema) (decl : CfdDecl) (dep : Dep) → IsDepDecl decl → (fault : Option RuleFault) → first_of (schema_tests schema (Cfd decl)) ≡ fault → unless_fault fault (dep_at schema decl 0) ≡ Ok dep → IsJudged schema decl dep
by_fault schema decl dep written None none is =
    let same : dep_at schema decl 0 ≡ dep = cc in
    let valid = dep_valid schema decl 0 (omega (arith, written.right)) (passes_over_schema schema (Cfd decl) none) written.rows in
    let one : length (dep_at schema decl 0).rule.rows ≡ 1 = length-map decl.rows (row_at 0) ∙ written.one in
    record {
      is = same;
      valid = subst (IsValidDep schema) same valid;
      one = subst (λ (d : Dep). length d.rule.rows ≡ 1) same one;
    }
by_fault schema decl dep written (Some fault) some is = absurd cc

-- what is accepted is valid, of one tableau row
pub judged_valid : (schema : Schema) (decl : CfdDecl) (dep : Dep) → IsDepDecl decl → judged_dep schema decl ≡ Ok dep → IsJudged schema decl dep
unfolding judged_dep
judged_valid schema decl dep written is = by_fault schema decl dep written (first_of (schema_tests schema (Cfd decl))) refl is

implied_answer : (rules : Book) → IsBook rules → (dep : Dep) → IsValidDep rules.schema dep → length dep.rule.rows ≡ 1 → (answer : Answer) → DepShows rules answer dep → SaysImplied answer (IsImplied rules.schema (book_deps rules) dep)
implied_answer rules good dep valid one (Counter left right) shows = λ implied.
    let attrs = attrs_at rules.schema dep.table in
    let tuples = left.values ∷ right.values ∷ [] in
    let are : All (IsTupleOf attrs) tuples = All-from_recursion (IsTupleOf attrs) tuples (typed attrs left.values shows.0, (typed attrs right.values shows.1, tt)) in
    shows.2.break (implied tuples are shows.2.satisfy)
implied_answer rules good dep valid one (Tree lines) shows =
    let asks = asks_implication rules dep in
    let nodes = nodes_of asks.names lines.nodes in
    let deps = book_deps rules in
    tree_says asks.set lines.budget nodes (IsImplied rules.schema deps dep) (λ refutes. implied_if_none rules.schema deps dep (attrs_each rules.schema dep.table good.schema) good.deps valid one (sound asks.set nodes refutes)) shows
implied_answer rules good dep valid one (Witness tuple) shows = shows

accepted_is : (found : Result Dep RuleFault) (dep : Dep) → accepted found ≡ Some dep → found ≡ Ok dep
accepted_is (Ok own) dep is = let same : own ≡ dep = cc in ap (λ (d : Dep). Ok d) same
accepted_is (Err fault) dep is = absurd cc

-- ---- certificates

by_question : (rules : Book) → IsBook rules → (question : Question) (answer : Answer) → IsQuestion question → AnswerShows rules question answer → IsRightAnswer rules question answer
by_question rules good (Consistent name) answer written shown =
    found_right (table_place rules.schema name) (TableShows rules answer) (λ table. SaysConsistent answer (IsConsistent rules table)) (λ table is. consistent_answer rules good answer table) shown
by_question rules good (Implies decl) answer written shown =
    found_right (accepted (judged_dep rules.schema decl)) (DepShows rules answer) (λ dep. SaysImplied answer (IsImplied rules.schema (book_deps rules) dep))
    (λ dep is. let judged = judged_valid rules.schema decl dep written (accepted_is (judged_dep rules.schema decl) dep is) in implied_answer rules good dep judged.valid judged.one answer) shown

-- what is shown is the right answer
pub right_if_shown : (rules : Book) (cert : CertParts) → IsBook rules → IsWrittenCert cert → IsRightCert rules cert → IsRight rules cert
right_if_shown rules cert good written shown = by_question rules good cert.asked.question cert.answer written.question shown
