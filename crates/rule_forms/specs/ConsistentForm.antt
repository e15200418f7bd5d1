-- The form `consistent PROJECT TABLE BUDGET`: a certificate of whether the dependencies of a table are consistent.
use Rattle.std.specs.Prelude.{ℕ, List, Option, None, Some, Result, Ok, Err}
use Rattle.schema_core.specs.Lookups.{table_number}
use Rattle.schema_core.specs.Schemas.{table_place}
use Rattle.text_lists.specs.declared.limits.Limits.{Limits}
use Rattle.rule_model.specs.Books.{Book}
use Rattle.case_search.specs.Enough.{enough_of}
use Rattle.cfd_consistency.specs.Consistent.{IsConsistent}
use Rattle.cfd_consistency.specs.Question.{question}
use Rattle.cfd_consistency.specs.declared.decider.Consistency.{Consistency}
use Rattle.cfd_consistency.specs.declared.decider.Consistency.TheVariants.{Witness, Never, Spent}
use Rattle.cert_text.specs.declared.cert.CertParts.{CertParts}
use Rattle.cert_text.specs.declared.cert.Question.TheVariants.{Consistent}
use Rattle.cli_output.specs.declared.refusal.Cause.{Cause}
use Rattle.cli_output.specs.declared.refusal.Cause.TheVariants.{UnknownTable}
use Rattle.cli_output.specs.declared.status.Status.{Status}
use Rattle.cli_output.specs.declared.status.Status.TheVariants as status
use Rattle.cli_output.specs.declared.status.Status.TheVariants.{Clean, Findings}
use Rattle.cli_output.specs.Fetching.{Fetching, ◌>>=◌, about, given}
use Rattle.cli_output.specs.Output.{Outputs, Task}
use Rattle.cli_output.specs.RuleFiles.{fetch_book}
use Rattle.rule_forms.specs.Certificates.{Answers, TellsWhether, certificates}

-- the rules, if their schema has the table
abbrev pub if_known : Book → Option ℕ → Result Book Cause
if_known rules None = Err UnknownTable
if_known rules (Some place) = Ok rules

-- the rules of a project that has the table; the word is refused where it hasn't
unfoldable pub fetch_known : Limits → List ℕ → List ℕ → Fetching Book
fetch_known limits project table = fetch_book limits project >>= λ rules. given (about table (if_known rules (table_place rules.schema table)))

-- a certificate of the question whether the dependencies of the table are consistent
abbrev pub IsTableAnswer : Book → List ℕ → ℕ → CertParts → Type 0
IsTableAnswer rules table budget =
    Answers rules (Consistent table) budget (enough_of (question rules (table_number rules.schema table)).cells)

-- the status of what the decider answers
abbrev pub consistency_status : Consistency → Status
consistency_status (Witness tuple) = Clean
consistency_status (Never tree) = Findings
consistency_status (Spent tree) = status.Spent

-- its text, with a status that tells whether they are
abbrev pub consistent_outputs : List ℕ → ℕ → Book → Outputs
consistent_outputs table budget rules bytes status =
    certificates (IsTableAnswer rules table budget) bytes status × TellsWhether (IsConsistent rules (table_number rules.schema table)) status

-- the schema and the rules are fetched
abbrev pub consistent_task : Limits → List ℕ → List ℕ → ℕ → Task
consistent_task limits project table budget = record {
  Found = Book;
  fetching = fetch_known limits project table;
  outputs = consistent_outputs table budget;
  most_fetches = 2;
}
