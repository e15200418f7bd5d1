-- What the words of a call of `cfdview` ask for.
use Rattle.std.specs.Prelude.{◌≡◌, ℕ, List, [], Ok}
use Rattle.text_lists.specs.declared.limits.Limits.{Limits}
use Rattle.cli_output.specs.declared.status.Status.TheVariants.{Clean, Usage}
use Rattle.cli_output.specs.Fetching.{given}
use Rattle.cli_output.specs.Output.{Only, Task}
use Rattle.view_check.specs.CheckForm.{check_task}
use Rattle.view_forms.specs.ListForm.{list_task}
use Rattle.view_forms.specs.RowForm.{row_task}
use Rattle.view_page.specs.PageForm.{page_task}
use Rattle.view_schema.specs.SchemaForm.{schema_task}
use Rattle.view_words.specs.Asking.{asked_of}
use Rattle.view_words.specs.declared.form.Asked.{Asked}
use Rattle.view_words.specs.declared.form.Asked.TheVariants as asked
use Rattle.view_words.specs.declared.form.Form.{Form}
use Rattle.view_words.specs.declared.form.Form.TheVariants as form

-- nothing is written where the words ask for nothing that there is
abbrev pub usage_task : Task
usage_task = record {
  Found = Unit {0};
  fetching = given (Ok tt);
  outputs = λ _. Only [] Usage;
  most_fetches = 0;
}

-- some text is written where they ask for help
abbrev pub help_task : Task
help_task = record {
  Found = Unit {0};
  fetching = given (Ok tt);
  outputs = λ _ bytes status. status ≡ Clean;
  most_fetches = 0;
}

-- what a form asks for
abbrev pub form_task : Limits → Form → Task
form_task limits (form.List options) = list_task limits options
form_task limits (form.Row options) = row_task limits options
form_task limits (form.Check project) = check_task limits project
form_task limits (form.Schema files) = schema_task limits files
form_task limits (form.Page options) = page_task limits options

abbrev pub asked_task : Limits → Asked → Task
asked_task limits (asked.Form form) = form_task limits form
asked_task limits asked.Help = help_task
asked_task limits asked.Nothing = usage_task

-- what the words ask for
abbrev pub task_of : Limits → List (List ℕ) → Task
task_of limits words = asked_task limits (asked_of words)
