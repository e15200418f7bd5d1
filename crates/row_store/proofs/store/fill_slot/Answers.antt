use Rattle.std.proofs.Common.{arith}
use Rattle.std.specs.Prelude.{Some}
use Rattle.row_store.proofs.SlotRows.{len_few_filled}
use Rattle.row_store.proofs.store.fill_slot.Goals as goal

pub returns-then-place-len-clause-few : goal.returns-then-place-len-clause-few
returns-then-place-len-clause-few c = omega (arith, len_few_filled c.args.slots.now.items c.args.place (Some c.args.tuple))
