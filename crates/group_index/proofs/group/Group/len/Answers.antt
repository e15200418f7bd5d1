use Rattle.std.proofs.Common.{◌≢◌, sym, subst}
use Rattle.std.specs.Prelude.{AllPairs}
use Rattle.group_index.specs.declared.group.Group.{Group}
use Rattle.group_index.specs.Pairs.{pairs_of}
use Rattle.group_index.proofs.ListedFacts.{once_in_order}
use Rattle.group_index.proofs.group.Group.len.Goals as goal

pub returns-in-Many-clause-once : goal.returns-in-Many-clause-once
returns-in-Many-clause-once c = subst (λ (g : Group). AllPairs (λ p q. p ≢ q) (pairs_of g)) (sym c.in-Many.is) (once_in_order c.in-Many.pairs.keys c.len.ensures.ordered)

pub returns-in-Few-clause-once : goal.returns-in-Few-clause-once
returns-in-Few-clause-once c = rw (c.in-Few.is, ← c.as_slice.ensures.same) c.as_slice.ensures.once
