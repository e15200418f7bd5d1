-- The form `list PROJECT` of `cfdview`: the violations of a project, in groups.
use Rattle.std.specs.Prelude.{◌≡◌, ◌↔◌, ℕ, ◌&&◌, Bool, true, List, [], ◌∷◌, All}
use Rattle.text_lists.specs.declared.limits.Limits.{Limits}
use Rattle.cfd_semantics.specs.Tuple.{tuples_of}
use Rattle.rule_model.specs.Books.{Book, book_cinds, book_deps}
use Rattle.rule_model.specs.Satisfied.{SatisfyCind, SatisfyDep}
use Rattle.rule_model.specs.declared.cind.Cind.{Cind}
use Rattle.rule_model.specs.declared.dep.Dep.{Dep}
use Rattle.rule_parser.specs.RuleText.{table_name}
use Rattle.bench_core.specs.History.{History}
use Rattle.bench_core.specs.State.{State, rows_at}
use Rattle.violation_groups.specs.Groups.{AreFindings}
use Rattle.violation_groups.specs.declared.groups.Findings.{Findings}
use Rattle.view_options.specs.declared.options.ListOptions.{ListOptions}
use Rattle.view_list.specs.Listed.{is_asked, list_body, list_refusal, list_text}
use Rattle.cli_output.specs.Output.{Only, Outputs, Task}
use Rattle.cli_output.specs.declared.status.Status.TheVariants.{Clean, Refused}
use Rattle.project_files.specs.Project.{ProjectRead}
use Rattle.view_project.specs.Looking.{LooksAt, counts_of}
use Rattle.view_project.specs.ProjectTask.{project_task}
use Rattle.view_forms.specs.Statuses.{status_of}

-- a rule of that name over that table is asked for
abbrev pub is_wanted : ListOptions → List ℕ → List ℕ → Bool
is_wanted options name table = is_asked options.rule name && is_asked options.table table

-- The rows of the state satisfy each rule that is asked for, which are all of them where no rule and no table is named.
pub record AreWantedSatisfied (rules : Book) (state : State) (options : ListOptions) : Type 0 where
  pub deps : All (λ (dep : Dep). is_wanted options dep.name (table_name rules.schema dep.table) ≡ true → SatisfyDep dep (tuples_of (rows_at state dep.table))) (book_deps rules)
  pub cinds : All (λ (cind : Cind). is_wanted options cind.name (table_name rules.schema cind.left) ≡ true → SatisfyCind cind (tuples_of (rows_at state cind.left)) (tuples_of (rows_at state cind.right))) (book_cinds rules)

-- the violations of a state, so many rows having been read of each table
abbrev pub list_shown : Book → List ℕ → State → ListOptions → Outputs
list_shown rules counts state options bytes status =
    (findings : Findings) × AreFindings rules state findings × Only (list_text (list_body rules counts options findings)) (status_of (list_body rules counts options findings)) bytes status

-- the same; and the status says whether what is asked for is satisfied
abbrev pub list_told : Book → List ℕ → State → ListOptions → Outputs
list_told rules counts state options bytes status = list_shown rules counts state options bytes status × (status ≡ Clean ↔ AreWantedSatisfied rules state options)

-- the line that refuses what is asked for, where there is one, and else what is told
abbrev pub told_unless : List ℕ → Outputs → Outputs
told_unless [] told = told
told_unless (byte ∷ bytes) told = Only (byte ∷ bytes) Refused

-- the violations of a state, or the line that refuses the table or the rule that is asked for
abbrev pub list_of : Book → List ℕ → State → ListOptions → Outputs
list_of rules counts state options = told_unless (list_refusal rules options) (list_told rules counts state options)

abbrev pub list_outputs : ListOptions → ProjectRead → Outputs
list_outputs options project bytes status =
    let start = project.tables in
    (last : History) × LooksAt options.loaded project last × list_of start.rules (counts_of start.history.present) last.present options bytes status

abbrev pub list_task : Limits → ListOptions → Task
list_task limits options = project_task limits options.project (list_outputs options)
