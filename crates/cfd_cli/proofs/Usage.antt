-- What is written where words have no form.
use Rattle.std.proofs.Common.{◌≡◌, ℕ, List, Option, None, refl, subst, ◌∙◌}
use Rattle.shelf_io.specs.Files.{Files}
use Rattle.text_lists.specs.declared.limits.Limits.{Limits}
use Rattle.call_words.specs.declared.form.Form.{Form}
use Rattle.cli_output.specs.declared.status.Status.{Status}
use Rattle.cli_output.specs.declared.status.Status.TheVariants.{Usage}
use Rattle.cli_output.specs.Output.{Only, Output, Task, Writes}
use Rattle.cli_output.proofs.Outputs.{Writes-wider, output-found}
use Rattle.cfd_cli.specs.Forms.{usage_line, usage_task}

-- the usage line is an output of whatever is the usage task where there is no form
pub usage-written : (asked : Option Form → Task) (limits : Limits) (holding : Option Files) (form : Option Form) (line : List ℕ) (status : Status) (before after : Option (List ℕ))
    → (Writes (Output limits usage_task holding) status before after → Writes (Output limits (asked None) holding) status before after) → None ≡ form → line ≡ usage_line
    → Writes (Only line Usage) status before after → Writes (Output limits (asked form) holding) status before after
usage-written asked limits holding form line status before after as_usage none is_line written =
    subst (λ (f : Option Form). Writes (Output limits (asked f) holding) status before after) none
    (as_usage (output-found limits usage_task holding tt (λ files told. refl) status before after (Writes-wider (Only line Usage) (Only usage_line Usage) (λ bytes s o. (o.0 ∙ is_line, o.1)) status before after written)))
