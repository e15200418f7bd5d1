-- What each form of words asks for.
use Rattle.std.specs.Prelude.{ℕ, List, Option, None, Some, Ok, codes}
use Rattle.text_lists.specs.declared.limits.Limits.{Limits}
use Rattle.call_words.specs.declared.form.Form.{Form}
use Rattle.call_words.specs.declared.form.Form.TheVariants.{Check, Consistent, Cover, Desk, Find, Generate, Implies, Report, Run}
use Rattle.cli_output.specs.declared.status.Status.TheVariants.{Usage}
use Rattle.cli_output.specs.Fetching.{given}
use Rattle.cli_output.specs.Output.{Only, Task}
use Rattle.find_form.specs.FindForm.{find_task}
use Rattle.project_forms.specs.DeskForm.{counted_desk_task, desk_task}
use Rattle.project_forms.specs.GenerateForm.{generate_task}
use Rattle.project_forms.specs.ReportForm.{counted_report_task, report_task}
use Rattle.project_forms.specs.RunForm.{counted_run_task, run_task}
use Rattle.rule_forms.specs.CheckForm.{check_task}
use Rattle.rule_forms.specs.ConsistentForm.{consistent_task}
use Rattle.rule_forms.specs.CoverForm.{cover_task}
use Rattle.rule_forms.specs.ImpliesForm.{implies_task}
use Rattle.call_words.specs.Words.{form_of}

-- the line that is written where the words have no form
abbrev pub usage_line : List ℕ
usage_line = codes "usage: run PROJECT | report PROJECT | consistent PROJECT TABLE BUDGET | implies PROJECT DEP BUDGET | check PROJECT CERT | generate N | cover PROJECT TABLE BUDGET | find PROJECT TABLE WIDTH SUPPORT | desk PROJECT EVENTS\n"

abbrev pub usage_task : Task
usage_task = record {
  Found = Unit {0};
  fetching = given (Ok tt);
  outputs = λ _. Only usage_line Usage;
  most_fetches = 0;
}

-- what each form asks for; without a form the usage line is asked for
abbrev pub form_task : Limits → Option Form → Task
form_task limits None = usage_task
form_task limits (Some (Run project)) = run_task limits project
form_task limits (Some (Report project)) = report_task limits project
form_task limits (Some (Consistent project table budget)) = consistent_task limits project table budget
form_task limits (Some (Implies project dep budget)) = implies_task limits project dep budget
form_task limits (Some (Cover project table budget)) = cover_task limits project table budget
form_task limits (Some (Check project cert)) = check_task limits project cert
form_task limits (Some (Find project table width support)) = find_task limits project table width support
form_task limits (Some (Desk project events)) = desk_task limits project events
form_task limits (Some (Generate seed)) = generate_task seed

-- what the words ask for
abbrev pub task_of : Limits → List (List ℕ) → Task
task_of limits words = form_task limits (form_of words)

-- the same with the probes of indexes, of which there were so many before the call and so many after it, where a form has a
-- bound for them
abbrev pub counted_form_task : ℕ → ℕ → Limits → Option Form → Task
counted_form_task before after limits None = usage_task
counted_form_task before after limits (Some (Run project)) = counted_run_task before after limits project
counted_form_task before after limits (Some (Report project)) = counted_report_task before after limits project
counted_form_task before after limits (Some (Desk project events)) = counted_desk_task before after limits project events
counted_form_task before after limits (Some form) = form_task limits (Some form)

abbrev pub counted_task_of : ℕ → ℕ → Limits → List (List ℕ) → Task
counted_task_of before after limits words = counted_form_task before after limits (form_of words)
