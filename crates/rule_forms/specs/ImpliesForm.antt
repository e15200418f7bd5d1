-- The form `implies PROJECT DEP BUDGET`: a certificate of whether the rules of a project imply a dependency.
use Rattle.std.specs.Prelude.{ℕ, List, Ok}
use Rattle.text_lists.specs.declared.limits.Limits.{Limits}
use Rattle.rule_model.specs.Books.{book_deps}
use Rattle.rule_parser.specs.RuleFiles.{reads_dep}
use Rattle.case_search.specs.Enough.{enough_of}
use Rattle.cfd_implication.specs.Implied.{IsImplied}
use Rattle.cfd_implication.specs.Question.{question}
use Rattle.cfd_implication.specs.declared.answer.Implication.{Implication}
use Rattle.cfd_implication.specs.declared.answer.Implication.TheVariants.{Counter, Implied, Spent}
use Rattle.cert_text.specs.declared.cert.CertParts.{CertParts}
use Rattle.cert_text.specs.declared.cert.Question.TheVariants.{Implies}
use Rattle.cert_check.specs.Made.{decl_of}
use Rattle.cli_output.specs.declared.refusal.Cause.TheVariants as cause
use Rattle.cli_output.specs.declared.status.Status.{Status}
use Rattle.cli_output.specs.declared.status.Status.TheVariants as status
use Rattle.cli_output.specs.declared.status.Status.TheVariants.{Clean, Findings}
use Rattle.cli_output.specs.Fetching.{Fetching, ◌>>=◌, about, given}
use Rattle.cli_output.specs.Output.{Outputs, Task}
use Rattle.cli_output.specs.RuleFiles.{fetch_book, spelled}
use Rattle.rule_forms.specs.Certificates.{Answers, TellsWhether, certificates}
use Rattle.rule_forms.specs.declared.implies_form.Asked.{Asked}

-- the rules of a project, and the dependency that the word spells over their schema; its fault refuses the word
unfoldable pub fetch_asked : Limits → List ℕ → List ℕ → Fetching Asked
fetch_asked limits project word =
    fetch_book limits project >>= λ rules.
    given (about word (spelled cause.Rules (reads_dep rules.schema word))) >>= λ dep.
    given (Ok (record { rules = rules; dep = dep }))

-- a certificate of the question whether the rules imply the dependency
abbrev pub IsDepAnswer : Asked → ℕ → CertParts → Type 0
IsDepAnswer asked budget =
    Answers asked.rules (Implies (decl_of asked.rules.schema asked.dep)) budget (enough_of (question asked.rules.schema (book_deps asked.rules) asked.dep).cells)

-- the status of what the decider answers
abbrev pub implication_status : Implication → Status
implication_status (Counter one other) = Findings
implication_status (Implied tree) = Clean
implication_status (Spent tree) = status.Spent

-- its text, with a status that tells whether they do
abbrev pub implies_outputs : ℕ → Asked → Outputs
implies_outputs budget asked bytes status =
    certificates (IsDepAnswer asked budget) bytes status × TellsWhether (IsImplied asked.rules.schema (book_deps asked.rules) asked.dep) status

-- the schema and the rules are fetched
abbrev pub implies_task : Limits → List ℕ → List ℕ → ℕ → Task
implies_task limits project word budget = record {
  Found = Asked;
  fetching = fetch_asked limits project word;
  outputs = implies_outputs budget;
  most_fetches = 2;
}
