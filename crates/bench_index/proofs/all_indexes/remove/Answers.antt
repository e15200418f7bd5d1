use Rattle.std.proofs.Common.{None}
use Rattle.row_store.specs.Tuple.{ids_of}
use Rattle.bench_index.proofs.WatchSteps.{made-removed, follow_loss}
use Rattle.bench_index.proofs.MasterChanges.{follow-other, follow-remove}
use Rattle.bench_index.proofs.all_indexes.remove.Goals as goal
use Rattle.bench_index.proofs.all_indexes.remove.Goals.{then-is_master, else-is_master}

pub returns-clause-groups : goal.returns-clause-groups
returns-clause-groups g c = follow_loss g.G.Watch c.args.table c.args.row g.met.G.Watch.names_row c.args.groups.now c.lose.new.groups (ids_of c.args.old.now) c.lose.ensures.groups

pub returns-clause-cinds : goal.returns-clause-cinds
returns-clause-cinds g c = follow_loss g.C.Watch c.args.table c.args.row g.met.C.Watch.names_row c.args.cinds.now c.lose.new.cinds (ids_of c.args.old.now) c.lose.ensures.cinds

pub returns-clause-masters : goal.returns-clause-masters
returns-clause-masters g c =
    elim c.if-is_master.branch [
      | then-is_master w ↦ rw (w.if-is_master.true, w.masters-is) (follow-remove c.args.table c.args.row c.args.masters.now w.remove.new.self w.remove.ensures.lists w.remove.ensures.rows)
      | else-is_master w ↦ rw (w.if-is_master.false, w.masters-is) (follow-other c.args.table c.args.row None c.args.masters.now)
    ]

pub returns-clause-made : goal.returns-clause-made
returns-clause-made g c =
    (made-removed g.G.Watch c.args.table c.args.row c.args.groups.now c.lose.new.groups (ids_of c.args.old.now) None c.lose.ensures.groups, made-removed g.C.Watch c.args.table c.args.row c.args.cinds.now c.lose.new.cinds (ids_of c.args.old.now) None c.lose.ensures.cinds)
