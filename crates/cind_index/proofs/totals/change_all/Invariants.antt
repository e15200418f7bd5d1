use Rattle.cind_index.proofs.TotalFacts.{ChangedBelow}
use Rattle.cind_index.proofs.totals.change_all.Given as goal

-- the numbers of the rows that were passed are changed
abbrev pub invariant-loop-k : goal.invariant-loop-k
invariant-loop-k l = ChangedBelow l.change l.tableau l.rows l.initial.counts.items l.counts.items l.k
