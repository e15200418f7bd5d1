use Rattle.std.proofs.Common.{arith, refl}
use Rattle.std.proofs.lemmas.Grind.{common_steps}
use Rattle.std.proofs.lemmas.Option.{gets}
use Rattle.edit_log.proofs.log.Log.back.Goals as goal

-- the clause on the log afterwards comes first
pub returns : goal.returns
returns c = ((refl, λ _. tt, grind (arith, common_steps)), record { after = tt; given = grind (arith, common_steps, gets) })
