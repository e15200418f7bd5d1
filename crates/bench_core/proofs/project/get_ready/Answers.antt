use Rattle.bench_core.proofs.Holding.{on-err}
use Rattle.bench_core.proofs.InStepWith.{indexed-refused}
use Rattle.bench_core.proofs.project.get_ready.Goals as goal

pub returns-in_err-make_room-clause-refused : goal.returns-in_err-make_room-clause-refused
returns-in_err-make_room-clause-refused g c = on-err c.from_residual.result _ (λ texts tuples held. held)

pub returns-in_err-ready-clause-refused : goal.returns-in_err-ready-clause-refused
returns-in_err-ready-clause-refused g c = on-err c.from_residual-in_err-ready.result _ (λ texts tuples held. held)

pub returns-in_err-follow_change-clause-refused : goal.returns-in_err-follow_change-clause-refused
returns-in_err-follow_change-clause-refused g c = on-err c.from_residual-in_err-follow_change.result _ (λ texts tuples held. indexed-refused held c.follow_change.new.index c.in_err-follow_change.ensures.refused)
