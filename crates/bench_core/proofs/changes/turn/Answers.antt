use Rattle.std.proofs.Common.{subst}
use Rattle.bench_core.specs.Stored.{stored}
use Rattle.bench_core.specs.Turns.{CanTurn}
use Rattle.bench_core.proofs.changes.turn.Goals as goal

pub take_back-requires-clause-made : goal.take_back-requires-clause-made
take_back-requires-clause-made c = subst (λ direction. CanTurn direction c.args.change.now (stored c.args.store.now)) c.in-Back.is c.requires.can

pub make-requires-clause-can : goal.make-requires-clause-can
make-requires-clause-can c = subst (λ direction. CanTurn direction c.args.change.now (stored c.args.store.now)) c.in-Forward.is c.requires.can
