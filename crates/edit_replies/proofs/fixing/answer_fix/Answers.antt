use Rattle.bench_core.specs.History.{accepted}
use Rattle.edit_replies.specs.Fixing.{asked, rewritten}
use Rattle.edit_replies.specs.Telling.{IsToldFixed}
use Rattle.edit_replies.proofs.Accepted.{fix-accepted}
use Rattle.edit_replies.proofs.Told.{written-so}
use Rattle.edit_replies.proofs.fixing.answer_fix.Goals as goal

pub write_fix-requires : goal.write_fix-requires
write_fix-requires g c =
    let bench = c.args.bench.now in
    let before = bench.history in
    let told : IsToldFixed bench.limits before (asked bench.rules before.present c.args.table.now c.args.row c.args.vouched.now) c.tell_fix.new.reply.items c.in-Some.values =
    rw c.in-Some.is at c.in_ok-values.ensures in (
      accepted before (rewritten before.present told.asked c.in-Some.values),
      fix-accepted bench.rules bench.limits before c.args.table.now c.args.row c.args.vouched.now c.in-Some.values told.asked told.made-is told.fit,
    )

pub returns-in-Some-clause-ok : goal.returns-in-Some-clause-ok
returns-in-Some-clause-ok g c =
    let bench = c.args.bench.now in
    let before = bench.history in
    let told : IsToldFixed bench.limits before (asked bench.rules before.present c.args.table.now c.args.row c.args.vouched.now) c.tell_fix.new.reply.items c.in-Some.values =
    rw c.in-Some.is at c.in_ok-values.ensures in
    written-so bench.rules bench.limits before c.write_fix.new.bench.history _ c.tell_fix.new.reply.items c.in-Some.values told _ c.write_fix.result
    (fix-accepted bench.rules bench.limits before c.args.table.now c.args.row c.args.vouched.now c.in-Some.values told.asked told.made-is told.fit) c.write_fix.ensures.ok

pub returns-in-None-clause-ok : goal.returns-in-None-clause-ok
returns-in-None-clause-ok g c = rw c.in-None.is at c.in_ok-values.ensures
