-- Certificates as outputs: the text of one that answers a question, with the status of its answer.
use Rattle.std.specs.Prelude.{◌≡◌, ℕ, ◌<◌, ◌≤◌, Bool, true, false, Option, None, Some, IfSome}
use Rattle.std.specs.List.{count_by}
use Rattle.rule_model.specs.Books.{Book}
use Rattle.cert_text.specs.CertFiles.{kind_of}
use Rattle.cert_text.specs.CertText.{IsCertText}
use Rattle.cert_text.specs.declared.answers.Kind.{Kind}
use Rattle.cert_text.specs.declared.answers.Kind.TheVariants.{Consistency, Implication}
use Rattle.cert_text.specs.declared.cert.Answer.{Answer}
use Rattle.cert_text.specs.declared.cert.Answer.TheVariants.{Witness, Counter, Tree}
use Rattle.cert_text.specs.declared.cert.CertParts.{CertParts}
use Rattle.cert_text.specs.declared.cert.NodeLine.{NodeLine}
use Rattle.cert_text.specs.declared.cert.Question.{Question}
use Rattle.cert_text.specs.declared.names.NodeName.{NodeName}
use Rattle.cert_text.specs.declared.names.NodeName.TheVariants.{Split, Leaf, Open}
use Rattle.cert_check.specs.Shown.{IsRightCert}
use Rattle.cli_output.specs.declared.status.Status.{Status}
use Rattle.cli_output.specs.declared.status.Status.TheVariants.{Clean, Findings, Spent}
use Rattle.cli_output.specs.Output.{Outputs}

-- A tree that leaves no case open: no tuple satisfies the rules, or whatever satisfies them satisfies the asked dependency.
abbrev pub closed_status : Kind → Status
closed_status Consistency = Findings
closed_status Implication = Clean

abbrev pub tree_status : Kind → Option ℕ → Status
tree_status kind None = closed_status kind
tree_status kind (Some budget) = Spent

-- a tuple shows that the rules are consistent, and two that the dependency isn't implied
abbrev pub answer_status : Kind → Answer → Status
answer_status kind (Witness one) = Clean
answer_status kind (Counter one other) = Findings
answer_status kind (Tree tree) = tree_status kind tree.budget

abbrev pub cert_status : CertParts → Status
cert_status cert = answer_status (kind_of cert.asked.question) cert.answer

-- the budget, where it was spent
abbrev pub spent_budget : Answer → Option ℕ
spent_budget (Witness one) = None
spent_budget (Counter one other) = None
spent_budget (Tree tree) = tree.budget

abbrev pub is_leaf : NodeName → Bool
is_leaf (Split v) = false
is_leaf (Leaf reason) = true
is_leaf Open = false

-- how many lines of an answer's tree are leaves; tuples have none
abbrev pub leaf_lines : Answer → ℕ
leaf_lines (Witness one) = 0
leaf_lines (Counter one other) = 0
leaf_lines (Tree tree) = count_by (λ (line : NodeLine). is_leaf line.node) tree.nodes

-- A certificate that answers a question with a budget. It asks the question, it is right over the rules, and its tree has no
-- more leaves than the budget. Where the budget was spent, that is the given one, and it is less than enough.
pub record Answers (rules : Book) (question : Question) (budget enough : ℕ) (cert : CertParts) : Type 0 where
  pub asks : cert.asked.question ≡ question
  pub right : IsRightCert rules cert
  pub within : leaf_lines cert.answer ≤ budget
  pub spent : IfSome (spent_budget cert.answer) (λ named. (named ≡ budget) × (budget < enough))

-- the canonical text of such a certificate, which is read again as that certificate, with the status of its answer
abbrev pub certificates : (CertParts → Type 0) → Outputs
certificates IsOne bytes status = (cert : CertParts) × IsOne cert × IsCertText cert bytes × (status ≡ cert_status cert)

-- What a status tells of whether a fact holds: `Clean` that it does, and `Findings` that it doesn't. Any other tells nothing.
pub record TellsWhether (fact : Type 0) (status : Status) : Type 0 where
  pub yes : status ≡ Clean → fact
  pub no : status ≡ Findings → ¬ fact
