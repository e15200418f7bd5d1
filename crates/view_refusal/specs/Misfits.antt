-- A line that is no line of its file's grammar at its place: the mark where it leaves its form, and the form.
use Rattle.std.specs.Prelude.{ℕ, ◌-◌, List, [], if◌then◌else◌, slice_get, Option, None, Some}
use Rattle.line_grammar.specs.Lines.{lines}
use Rattle.line_forms.specs.Fits.{told_below}
use Rattle.line_forms.specs.Forms.{place_at}
use Rattle.line_forms.specs.declared.place.Place.{Place}
use Rattle.line_forms.specs.declared.place.Place.TheVariants as place
use Rattle.schema_core.specs.declared.schema.SchemaCause.{SchemaCause}
use Rattle.schema_core.specs.declared.schema.SchemaCause.TheVariants as schema
use Rattle.rule_parser.specs.declared.fault.ParseCause.{ParseCause}
use Rattle.rule_parser.specs.declared.fault.ParseCause.TheVariants as parse
use Rattle.cli_output.specs.declared.refusal.Cause.{Cause}
use Rattle.cli_output.specs.declared.refusal.Cause.TheVariants as cause
use Rattle.cli_output.specs.declared.refusal.LineFlaw.{LineFlaw}
use Rattle.cli_output.specs.declared.refusal.LineFlaw.TheVariants as flaw
use Rattle.view_refusal.specs.Showing.{is_short}
use Rattle.view_refusal.specs.declared.misfits.Misfit.{Misfit}

-- the line of that number, in a file whose first line stands at that place
abbrev pub misfit : ℕ → Place → Option Misfit
misfit line start = Some (record { line = line; start = start })

abbrev pub schema_misfit : ℕ → SchemaCause → Option Misfit
schema_misfit line schema.BadLine = misfit line place.Schema
schema_misfit line other = None

abbrev pub rule_misfit : ℕ → ParseCause → Option Misfit
rule_misfit line parse.BadLine = misfit line place.Rules
rule_misfit line other = None

abbrev pub script_misfit : ℕ → LineFlaw → Option Misfit
script_misfit line flaw.BadLine = misfit line place.Script
script_misfit line other = None

-- the line of such a cause
abbrev pub misfit_in : Cause → Option Misfit
misfit_in (cause.Schema line why) = schema_misfit line why
misfit_in (cause.Rules line why) = rule_misfit line why
misfit_in (cause.Line line why) = script_misfit line why
misfit_in other = None

-- nothing below a line that isn't shown
abbrev pub told_at : Misfit → List ℕ → Option (List ℕ) → List ℕ
told_at at bytes None = []
told_at at bytes (Some line) = if is_short line then told_below (place_at at.start at.line bytes) at.line line else []

abbrev pub told_in : Misfit → List ℕ → List ℕ
told_in at bytes = told_at at bytes (slice_get (lines bytes) (at.line - 1))

-- what is told below it, where the file was found again
abbrev pub misfit_text : Option Misfit → Option (List ℕ) → List ℕ
misfit_text None bytes = []
misfit_text (Some at) None = []
misfit_text (Some at) (Some bytes) = told_in at bytes
