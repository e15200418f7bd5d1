use Rattle.std.proofs.Common.{◌≡◌, Some, None, ap}
use Rattle.std.proofs.lemmas.Result.{on_ok_weaker}
use Rattle.row_store.specs.Tuple.{ids_of, ids_behind}
use Rattle.bench_index.proofs.MasterChanges.{follow-insert, follow-remove}
use Rattle.bench_index.proofs.masters.follow_as_master.Goals as goal

pub returns-in-None-Some-clause-ok : goal.returns-in-None-Some-clause-ok
returns-in-None-Some-clause-ok g c =
    let new = ids_of c.in-None-Some.new.now in
    let is_new : ids_behind c.args.new ≡ Some new = ap ids_behind c.in-None-Some.is-1 in
    rw (c.if-not-is_master.false, is_new) (on_ok_weaker c.add.result (follow-insert c.args.table c.args.row new c.args.masters.now c.add.new.self c.add.ensures.lists) c.add.ensures.ok)

pub returns-in-Some-None-clause-ok : goal.returns-in-Some-None-clause-ok
returns-in-Some-None-clause-ok g c =
    let is_new : ids_behind c.args.new ≡ None = ap ids_behind c.in-Some-None.is-1 in
    rw (c.if-not-is_master.false, is_new) (follow-remove c.args.table c.args.row c.args.masters.now c.remove.new.self c.remove.ensures.lists c.remove.ensures.rows)

pub returns-in-Some-Some-clause-ok : goal.returns-in-Some-Some-clause-ok
returns-in-Some-Some-clause-ok g c =
    let new = ids_of c.in-Some-Some.new.now in
    let is_new : ids_behind c.args.new ≡ Some new = ap ids_behind c.in-Some-Some.is-1 in
    rw (c.if-not-is_master.false, is_new) (on_ok_weaker c.replace.result (follow-insert c.args.table c.args.row new c.args.masters.now c.replace.new.self c.replace.ensures.lists) c.replace.ensures.ok)
