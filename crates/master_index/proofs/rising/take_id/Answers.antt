use Rattle.master_index.proofs.RisingIds.{take_none, take_among}
use Rattle.master_index.proofs.rising.take_id.Goals as goal

pub returns-in-Err-clause-left : goal.returns-in-Err-clause-left
returns-in-Err-clause-left c =
    let is = rw c.as_slice.ensures.value at c.in-Err.ensures.position in
    take_none c.args.rows.now.items c.args.row _ c.requires is

pub returns-in-Ok-clause-left : goal.returns-in-Ok-clause-left
returns-in-Ok-clause-left c other =
    let is = rw c.as_slice.ensures.value at c.in-Ok.ensures.position in
    rw c.remove.ensures.items (take_among c.args.rows.now.items c.args.row c.in-Ok.place c.requires is other)
