use Rattle.std.proofs.Common.{ℕ, List, subst, sym}
use Rattle.cli_output.specs.declared.status.Status.{Status}
use Rattle.cli_output.specs.Output.{Only}
use Rattle.cli_output.proofs.Outputs.{Ends-wider}
use Rattle.project_flaws.specs.Told.{IsTold}
use Rattle.project_flaws.specs.declared.told.Counts.TheVariants.{Told}
use Rattle.project_flaws.specs.Rows.{all_rows}
use Rattle.view_check.proofs.answer.tell_bench.Goals as goal

pub returns-in-Ok : goal.returns-in-Ok
returns-in-Ok g c =
    let rules = c.args.bench.now.rules in
    let tables = all_rows c.args.bench.now.history.present in
    let told = c.in-Ok.told in
    Ends-wider (Only c.deref.result.now told.status) (IsTold Told rules tables)
    (λ (bytes : List ℕ) (status : Status) o. subst (λ s. IsTold Told rules tables bytes s) (sym o.1) (subst (λ b. IsTold Told rules tables b told.status) (sym o.0) (subst (λ b. IsTold Told rules tables b told.status) (sym c.deref.ensures.value) c.in-Ok.ensures.told)))
    c.end_with.result (g.O.Sink.told c.args.out.now) (g.O.Sink.told c.end_with.new.out) c.end_with.ensures.ends
