use Rattle.std.proofs.Common.{ℕ, Bool, true, false, List, sym, subst, ◌∙◌}
use Rattle.std.specs.Prelude.{◌==◌, if◌then◌else◌}
use Rattle.generator.specs.Summary.{IsMade}
use Rattle.cli_output.specs.declared.status.Status.TheVariants.{Clean, Findings}
use Rattle.cli_output.specs.Output.{IsWhole, Only}
use Rattle.cli_output.proofs.Outputs.{Ends-wider}
use Rattle.project_forms.specs.GenerateForm.{generate_outputs}
use Rattle.project_forms.proofs.generate_form.generate_project.Goals as goal

-- the status of a count isn't one of a call that was cut short
status_is_whole : (none : Bool) → IsWhole (if none then Clean else Findings)
status_is_whole true = tt
status_is_whole false = tt

pub end_with-requires : goal.end_with-requires
end_with-requires g c = subst IsWhole (sym c.status_of.ensures) (status_is_whole (c.in-Ok.summary.lines == 0))

pub returns-in-Ok : goal.returns-in-Ok
returns-in-Ok g c =
    let seed = c.args.seed in
    let summary = c.in-Ok.summary in
    Ends-wider (Only c.deref.result.now c.status_of.result) (generate_outputs seed)
    (λ bytes status only. (summary.lines, subst (λ (text : List ℕ). IsMade seed text summary.lines) (sym (only.0 ∙ c.deref.ensures.value)) c.in-Ok.ensures, only.1 ∙ c.status_of.ensures))
    c.end_with.result (g.O.Sink.told c.args.out.now) (g.O.Sink.told c.end_with.new.out) c.end_with.ensures.ends
