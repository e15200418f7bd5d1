use Rattle.std.proofs.Common.{refl}
use Rattle.cli_output.specs.declared.fetching.Stop.TheVariants.{ReadFault, Memory}
use Rattle.view_check.proofs.SeenSteps.{seen-refused, seen-stopped, seen-whole}
use Rattle.view_check.proofs.fetching.fetch_seen.Goals as goal

pub returns-in-Ok : goal.returns-in-Ok
returns-in-Ok g c = seen-whole c.args.limits.now c.args.name.now c.in-Ok.project _ _ _ _ c.in-Ok.ensures.fetches

pub returns-in-Err-Refused : goal.returns-in-Err-Refused
returns-in-Err-Refused g c =
    seen-refused c.args.limits.now c.args.name.now c.in-Err-Refused.refusal c.fetch_off_unless.result _ _ _ _ _ (rw c.in-Err-Refused.field-0-is at c.in-Err-Refused.ensures.fetches) (rw c.is_absent.ensures at c.fetch_off_unless.ensures)

pub returns-in-Err-ReadFault : goal.returns-in-Err-ReadFault
returns-in-Err-ReadFault g c = seen-stopped c.args.limits.now c.args.name.now ReadFault _ _ _ _ refl (rw c.in-Err-ReadFault.field-0-is at c.in-Err-ReadFault.ensures.fetches)

pub returns-in-Err-Memory : goal.returns-in-Err-Memory
returns-in-Err-Memory g c = seen-stopped c.args.limits.now c.args.name.now Memory _ _ _ _ refl (rw c.in-Err-Memory.field-0-is at c.in-Err-Memory.ensures.fetches)
