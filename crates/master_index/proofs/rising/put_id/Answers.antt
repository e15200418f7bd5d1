use Rattle.master_index.proofs.RisingIds.{put_twice, put_among, put_rises, absent_answer}
use Rattle.master_index.proofs.rising.put_id.Goals as goal

pub returns-in-Ok-clause-ok : goal.returns-in-Ok-clause-ok
returns-in-Ok-clause-ok c =
    let is = rw c.as_slice.ensures.value at c.in-Ok.ensures.position in
    put_twice c.args.rows.now.items c.args.row _ c.requires is

pub returns-in_ok-insert-in-Err-clause-rising : goal.returns-in_ok-insert-in-Err-clause-rising
returns-in_ok-insert-in-Err-clause-rising c =
    let is = rw c.as_slice.ensures.value at c.in-Err.ensures.position in
    rw c.in_ok-insert-in-Err.ensures.items (put_rises c.args.rows.now.items c.args.row c.in-Err.place c.requires is)

pub returns-in_ok-insert-in-Err-clause-ok : goal.returns-in_ok-insert-in-Err-clause-ok
returns-in_ok-insert-in-Err-clause-ok c other = rw c.in_ok-insert-in-Err.ensures.items (put_among c.args.rows.now.items c.in-Err.place c.args.row other)

pub returns-in_err-insert-in-Err-clause-new : goal.returns-in_err-insert-in-Err-clause-new
returns-in_err-insert-in-Err-clause-new c =
    let is = rw c.as_slice.ensures.value at c.in-Err.ensures.position in
    absent_answer c.args.rows.now.items c.args.row c.in-Err.place c.requires is c.from_residual.result
