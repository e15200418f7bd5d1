use Rattle.std.proofs.Common.{sym, subst, arith}
use Rattle.std.specs.Prelude.{◌↔◌, Contains}
use Rattle.std.specs.List.Sorted.{IsStrictlyIncreasing}
use Rattle.master_index.specs.Masters.{IsRowWith}
use Rattle.master_index.proofs.index.MasterIndex.matches.Goals as goal

pub returns-in-Some-clause-rising : goal.returns-in-Some-clause-rising
returns-in-Some-clause-rising c = subst IsStrictlyIncreasing (sym c.as_slice.ensures) c.in-Some.ensures.rising

pub returns-in-Some-clause-exactly : goal.returns-in-Some-clause-exactly
returns-in-Some-clause-exactly c row = subst (λ xs. Contains xs row ↔ IsRowWith c.args.self.now.rows c.args.master c.args.columns.now c.args.ids.now row) (sym c.as_slice.ensures) (c.in-Some.ensures.exactly row)

pub returns-in-None-clause-exactly : goal.returns-in-None-clause-exactly
returns-in-None-clause-exactly c row = (λ has. absurd (omega (arith, has.1)), λ with_ids. absurd (c.in-None.ensures row with_ids))
