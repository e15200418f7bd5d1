use Rattle.std.proofs.Common.{ap, refl, sym, subst, ◌∙◌}
use Rattle.bench_core.specs.Changes.{CanMake, after_change, history_of, made_again}
use Rattle.bench_core.specs.Bench.{Holds, tables_of}
use Rattle.bench_core.proofs.Holding.{held-more, history-was-accepted}
use Rattle.row_store.specs.Tuple.{ids_if}
use Rattle.bench_core.specs.Indexed.{IsIndexed, tuples_of}
use Rattle.bench_core.specs.Turns.{IsTurn}
use Rattle.bench_core.specs.declared.changes.Direction.TheVariants.{Forward}
use Rattle.bench_core.proofs.InStepWith.{indexed-alike}
use Rattle.bench_core.proofs.TuplesAt.{table-where, tuple-changed}
use Rattle.bench_core.proofs.project.Project.done.Goals as goal

pub turn_counted-requires-clause-turn : goal.turn_counted-requires-clause-turn
turn_counted-requires-clause-turn c =
    let held = c.requires.held in (
      c.args.self.now.rules,
      c.args.self.now.limits,
      c.args.self.now.pool,
      record { is = c.requires.is; can = c.requires.can; present = held.history.present; counts = held.counts; then_present = c.requires.within },
    )

pub returns-clause-held : goal.returns-clause-held
returns-clause-held c =
    let held = c.requires.held in
    let self = c.args.self.now in
    let turn : IsTurn self.rules self.limits self.pool Forward c.args.change (tables_of self) self.counts =
    record { is = c.requires.is; can = c.requires.can; present = held.history.present; counts = held.counts; then_present = c.requires.within } in
    let counts = c.turn_counted.new.counts in
    subst (λ tables. Holds self.rules self.limits self.pool c.push_ready.new.self tables counts.weights.items counts.rows counts.cells) (sym c.turn_counted.ensures.tables)
    (held-more held c.args.change c.requires.can c.requires.is c.requires.within c.push_ready.new.self c.push_ready.ensures.past c.push_ready.ensures.undone counts.weights.items counts.rows counts.cells
    (c.turn_counted.ensures.counts self.rules self.limits self.pool turn))

pub returns-clause-history : goal.returns-clause-history
returns-clause-history c =
    ap (history_of c.args.self.now.pool c.push_ready.new.self.past c.push_ready.new.self.undone) c.turn_counted.ensures.tables
    ∙ history-was-accepted c.requires.held c.args.change c.requires.can c.requires.is c.requires.within c.push_ready.new.self c.push_ready.ensures.past c.push_ready.ensures.undone

pub returns-clause-indexed : goal.returns-clause-indexed
returns-clause-indexed c index held =
    let change = c.args.change in
    let self = c.args.self.now in
    let (table, at) = table-where (tables_of self) change.table (CanMake change) c.requires.can in
    let made = indexed-alike held (tuples_of (made_again change (tables_of self))) (tuple-changed change.table change.row (ids_if change.new) (after_change change) (tables_of self) table at refl) in
    subst (λ tables. IsIndexed self.rules self.pool (tuples_of tables) index) (sym c.turn_counted.ensures.tables) made
