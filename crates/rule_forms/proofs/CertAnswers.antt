-- Certificates of what the deciders answer.
use Rattle.std.proofs.Common.{◌≡◌, ℕ, ◌<◌, List, [], ◌∷◌, None, Some, sym, ap, ◌∙◌, subst}
use Rattle.std.specs.Prelude.{IfSome}
use Rattle.std.proofs.lemmas.List.Elements.{All-from_recursion}
use Rattle.shelf_io.specs.Sink.{SinkTold}
use Rattle.schema_core.specs.Lookups.{attrs_at, table_number}
use Rattle.schema_core.specs.declared.schema.Schema.{Schema}
use Rattle.rule_model.specs.Books.{Book, book_deps}
use Rattle.rule_model.specs.declared.dep.Dep.{Dep}
use Rattle.case_tree.specs.CaseTree.{leaf_count}
use Rattle.case_search.specs.Enough.{enough_of}
use Rattle.cell_values.specs.Tuples.{IsTupleOf}
use Rattle.cfd_consistency.specs.Answer as consistency
use Rattle.cfd_consistency.specs.Consistent.{IsConsistent}
use Rattle.cfd_consistency.specs.Question as consistency_question
use Rattle.cfd_consistency.specs.Question.{AskedTable}
use Rattle.cfd_consistency.specs.declared.decider.Consistency.{Consistency}
use Rattle.cfd_consistency.specs.declared.decider.Consistency.TheVariants as found
use Rattle.cfd_implication.specs.Answers as implication
use Rattle.cfd_implication.specs.Implied.{IsCounter, IsImplied}
use Rattle.cfd_implication.specs.Question as implication_question
use Rattle.cfd_implication.specs.Question.{asked_of}
use Rattle.cfd_implication.specs.declared.answer.Implication.{Implication}
use Rattle.cfd_implication.specs.declared.answer.Implication.TheVariants as told
use Rattle.cert_text.specs.declared.cert.CertParts.{CertParts}
use Rattle.cert_text.specs.declared.cert.Question.TheVariants.{Consistent, Implies}
use Rattle.cert_check.specs.Made.{IsCertOf, IsCertOfDep, IsRightText, decl_of, name_of, names_asked, names_asked_of}
use Rattle.cert_check.specs.Shown.{IsRightCert}
use Rattle.cli_output.specs.declared.status.Status.{Status}
use Rattle.cli_output.specs.Output.{Ends, Only, Outputs}
use Rattle.cli_output.proofs.Outputs.{Ends-wider}
use Rattle.rule_forms.specs.Certificates.{Answers, TellsWhether, cert_status, leaf_lines, spent_budget}
use Rattle.rule_forms.specs.ConsistentForm.{consistency_status, consistent_outputs}
use Rattle.rule_forms.specs.ImpliesForm.{implication_status, implies_outputs}
use Rattle.rule_forms.proofs.LeafLines.{all_within, none_within, tree_within}

-- what is told of an answer is what is written
pub told_written : (outputs : Outputs) (text bytes : List ℕ) (own status : Status) (sink sink_after : SinkTold) → bytes ≡ text → outputs text own → Ends (Only bytes own) status sink sink_after → Ends outputs status sink sink_after
told_written outputs text bytes own status sink sink_after same is ends =
    Ends-wider (Only bytes own) outputs
    (λ b s o. subst (λ (t : List ℕ). outputs t s) (sym (o.0 ∙ same)) (subst (λ (other : Status). outputs text other) (sym o.1) is)) status sink sink_after ends

-- ---- a table

unspent : (cert : CertParts) (budget enough : ℕ) → spent_budget cert.answer ≡ None → IfSome (spent_budget cert.answer) (λ named. (named ≡ budget) × (budget < enough))
unspent cert budget enough none = subst (λ o. IfSome o (λ named. (named ≡ budget) × (budget < enough))) (sym none) tt

is_spent : (cert : CertParts) (leaves budget enough : ℕ) → spent_budget cert.answer ≡ Some leaves → leaves ≡ budget → budget < enough → IfSome (spent_budget cert.answer) (λ named. (named ≡ budget) × (budget < enough))
is_spent cert leaves budget enough some same below = subst (λ o. IfSome o (λ named. (named ≡ budget) × (budget < enough))) (sym some) (same, below)

of_table : (asked : AskedTable) (budget : ℕ) (answer : Consistency) (cert : CertParts) → consistency.IsConsistencyAnswer asked.rules budget asked.table answer → IsCertOf asked answer cert → IsRightCert asked.rules cert
    → Answers asked.rules (Consistent (name_of asked)) budget (enough_of (consistency_question.question asked.rules asked.table).cells) cert
of_table asked budget (found.Witness tuple) cert right is shown = record {
  asks = ap (λ (c : CertParts). c.asked.question) is;
  right = shown;
  within = none_within cert budget (ap (λ (c : CertParts). leaf_lines c.answer) is);
  spent = unspent cert budget (enough_of (consistency_question.question asked.rules asked.table).cells) (ap (λ (c : CertParts). spent_budget c.answer) is);
}
of_table asked budget (found.Never tree) cert right is shown = record {
  asks = ap (λ (c : CertParts). c.asked.question) is.whole;
  right = shown;
  within = tree_within (names_asked asked) (Consistent (name_of asked)) None tree cert budget is right.1;
  spent = unspent cert budget (enough_of (consistency_question.question asked.rules asked.table).cells) (ap (λ (c : CertParts). spent_budget c.answer) is.whole);
}
of_table asked budget (found.Spent tree) cert right is shown = record {
  asks = ap (λ (c : CertParts). c.asked.question) is.whole;
  right = shown;
  within = all_within (names_asked asked) (Consistent (name_of asked)) (Some (leaf_count tree)) tree cert budget is right.1;
  spent = is_spent cert (leaf_count tree) budget (enough_of (consistency_question.question asked.rules asked.table).cells) (ap (λ (c : CertParts). spent_budget c.answer) is.whole) right.1 right.2;
}

status_of_table : (asked : AskedTable) (answer : Consistency) (cert : CertParts) → IsCertOf asked answer cert → consistency_status answer ≡ cert_status cert
status_of_table asked (found.Witness tuple) cert is = ap cert_status (sym is)
status_of_table asked (found.Never tree) cert is = ap cert_status (sym is.whole)
status_of_table asked (found.Spent tree) cert is = ap cert_status (sym is.whole)

-- the status of what was answered tells whether they are consistent
table_tells : (asked : AskedTable) (budget : ℕ) (answer : Consistency) → consistency.IsConsistencyAnswer asked.rules budget asked.table answer → TellsWhether (IsConsistent asked.rules asked.table) (consistency_status answer)
table_tells asked budget (found.Witness tuple) right = record { yes = λ e. (tuple, right.0); no = λ e. absurd cc }
table_tells asked budget (found.Never tree) right = record { yes = λ e. absurd cc; no = λ e. right.2 }
table_tells asked budget (found.Spent tree) right = record { yes = λ e. absurd cc; no = λ e. absurd cc }

-- the text of the certificate of what was answered to a question about a table answers it
pub table_told : (asked : AskedTable) (budget : ℕ) (answer : Consistency) (text : List ℕ) → table_number asked.rules.schema (name_of asked) ≡ asked.table → consistency.IsConsistencyAnswer asked.rules budget asked.table answer
    → IsRightText asked.rules (IsCertOf asked answer) text → consistent_outputs (name_of asked) budget asked.rules text (consistency_status answer)
table_told asked budget answer text number right right_text = (
  (
    right_text.cert,
    subst (λ table. Answers asked.rules (Consistent (name_of asked)) budget (enough_of (consistency_question.question asked.rules table).cells) right_text.cert) (sym number) (of_table asked budget answer right_text.cert right right_text.is.0 right_text.is.1),
    right_text.spelled,
    status_of_table asked answer right_text.cert right_text.is.0,
  ),
  subst (λ table. TellsWhether (IsConsistent asked.rules table) (consistency_status answer)) (sym number) (table_tells asked budget answer right),
)

-- ---- a dependency

-- the certificate of what was answered about a dependency answers its question
dep_answer : (rules : Book) (dep : Dep) (budget : ℕ) (answer : Implication) (cert : CertParts) → implication.IsImplicationAnswer rules.schema (book_deps rules) dep budget answer → IsCertOfDep (asked_of rules dep) answer cert → IsRightCert rules cert
    → Answers rules (Implies (decl_of rules.schema dep)) budget (enough_of (implication_question.question rules.schema (book_deps rules) dep).cells) cert
dep_answer rules dep budget (told.Counter one other) cert right is shown = record {
  asks = ap (λ (c : CertParts). c.asked.question) is;
  right = shown;
  within = none_within cert budget (ap (λ (c : CertParts). leaf_lines c.answer) is);
  spent = unspent cert budget (enough_of (implication_question.question rules.schema (book_deps rules) dep).cells) (ap (λ (c : CertParts). spent_budget c.answer) is);
}
dep_answer rules dep budget (told.Implied tree) cert right is shown = record {
  asks = ap (λ (c : CertParts). c.asked.question) is.whole;
  right = shown;
  within = tree_within (names_asked_of (asked_of rules dep)) (Implies (decl_of rules.schema dep)) None tree cert budget is right.1;
  spent = unspent cert budget (enough_of (implication_question.question rules.schema (book_deps rules) dep).cells) (ap (λ (c : CertParts). spent_budget c.answer) is.whole);
}
dep_answer rules dep budget (told.Spent tree) cert right is shown = record {
  asks = ap (λ (c : CertParts). c.asked.question) is.whole;
  right = shown;
  within = all_within (names_asked_of (asked_of rules dep)) (Implies (decl_of rules.schema dep)) (Some (leaf_count tree)) tree cert budget is right.1;
  spent = is_spent cert (leaf_count tree) budget (enough_of (implication_question.question rules.schema (book_deps rules) dep).cells) (ap (λ (c : CertParts). spent_budget c.answer) is.whole) right.1 right.2;
}

status_of_dep : (rules : Book) (dep : Dep) (answer : Implication) (cert : CertParts) → IsCertOfDep (asked_of rules dep) answer cert → implication_status answer ≡ cert_status cert
status_of_dep rules dep (told.Counter one other) cert is = ap cert_status (sym is)
status_of_dep rules dep (told.Implied tree) cert is = ap cert_status (sym is.whole)
status_of_dep rules dep (told.Spent tree) cert is = ap cert_status (sym is.whole)

-- two tuples that satisfy the rules and not the dependency show that it isn't implied
counter_refutes : (schema : Schema) (deps : List Dep) (dep : Dep) (one other : List (List ℕ)) → IsCounter schema deps dep one other → ¬ IsImplied schema deps dep
counter_refutes schema deps dep one other counter = λ implied.
    counter.breaks (implied (one ∷ other ∷ []) (All-from_recursion (IsTupleOf (attrs_at schema dep.table)) (one ∷ other ∷ []) (counter.one_tuple, (counter.other_tuple, tt))) counter.satisfy)

-- the status of what was answered tells whether it is implied
dep_tells : (rules : Book) (dep : Dep) (budget : ℕ) (answer : Implication) → implication.IsImplicationAnswer rules.schema (book_deps rules) dep budget answer → TellsWhether (IsImplied rules.schema (book_deps rules) dep) (implication_status answer)
dep_tells rules dep budget (told.Counter one other) right = record { yes = λ e. absurd cc; no = λ e. counter_refutes rules.schema (book_deps rules) dep one other right }
dep_tells rules dep budget (told.Implied tree) right = record { yes = λ e. right.2; no = λ e. absurd cc }
dep_tells rules dep budget (told.Spent tree) right = record { yes = λ e. absurd cc; no = λ e. absurd cc }

-- the text of the certificate of what was answered about a dependency answers its question
pub dep_told : (rules : Book) (dep : Dep) (budget : ℕ) (answer : Implication) (text : List ℕ) → implication.IsImplicationAnswer rules.schema (book_deps rules) dep budget answer → IsRightText rules (IsCertOfDep (asked_of rules dep) answer) text
    → implies_outputs budget (record { rules = rules; dep = dep }) text (implication_status answer)
dep_told rules dep budget answer text right right_text = (
  (right_text.cert, dep_answer rules dep budget answer right_text.cert right right_text.is.0 right_text.is.1, right_text.spelled, status_of_dep rules dep answer right_text.cert right_text.is.0),
  dep_tells rules dep budget answer right,
)
