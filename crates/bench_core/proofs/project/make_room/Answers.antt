use Rattle.std.proofs.Common.{◌≡◌, ◌<◌, true, sym, subst, ◌∙◌, arith}
use Rattle.std.specs.Option.{is_some}
use Rattle.bench_core.specs.Turns.{HasRoomFor, tuple_before}
use Rattle.bench_core.proofs.Holding.{on-ok, same-stored, set-there, stored-same}
use Rattle.bench_core.proofs.Turning.{not-both, some-there}
use Rattle.bench_core.proofs.project.make_room.Goals as goal

pub index_mut-requires : goal.index_mut-requires
index_mut-requires c = omega (arith, c.requires, c.args.stores.now.ok.0)

pub returns-then-is_some-clause-room : goal.returns-then-is_some-clause-room
returns-then-is_some-clause-room c =
    let before = tuple_before c.args.direction c.args.change.now in
    some-there (HasRoomFor c.args.direction c.args.change.now) c.args.stores.now.items c.args.change.now.table c.requires
    (λ store none. absurd (not-both (is_some before) (subst (λ tuple. is_some tuple ≡ true) c.tuple_before.ensures (sym c.is_some.ensures ∙ c.if-is_some.true)) none))

pub returns-clause-room : goal.returns-clause-room
returns-clause-room c =
    let change = c.args.change.now in
    on-ok c.ready_insert.result (0 < c.ready_insert.new.self.spare) _
    (λ ready. set-there (HasRoomFor c.args.direction change) c.args.stores.now.items change.table c.ready_insert.new.self c.requires (λ _. ready)) c.ready_insert.ensures.ready

pub returns-clause-same : goal.returns-clause-same
returns-clause-same c =
    stored-same c.args.stores.now.items c.args.change.now.table c.index_mut.result.now c.ready_insert.new.self c.index_mut.ensures.value (same-stored c.ready_insert.new.self c.index_mut.result.now c.ready_insert.ensures.rows c.ready_insert.ensures.next)
