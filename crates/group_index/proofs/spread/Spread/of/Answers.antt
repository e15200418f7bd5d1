use Rattle.std.proofs.Common.{ap, sym, ◌∙◌}
use Rattle.group_index.specs.Pairs.{is_turning}
use Rattle.group_index.proofs.TurnFacts.{turning_spread}
use Rattle.group_index.proofs.spread.Spread.of.Goals as goal

pub returns-in-Turning-clause-spread : goal.returns-in-Turning-clause-spread
returns-in-Turning-clause-spread c = rw c.in-Turning.is (turning_spread c.in-Turning.turning c.pairs-pairs.ensures.differ)

pub returns-in-Few-clause-spread : goal.returns-in-Few-clause-spread
returns-in-Few-clause-spread c = rw (c.in-Few.is, ← c.as_slice.ensures.same) c.spread_among.ensures.spread

pub returns-in-Many-clause-spread : goal.returns-in-Many-clause-spread
returns-in-Many-clause-spread c = rw c.in-Many.is c.spread_of.ensures.spread

pub returns-in-Few-clause-turning : goal.returns-in-Few-clause-turning
returns-in-Few-clause-turning c = c.spread_among.ensures.steady ∙ ap is_turning (sym c.in-Few.is)

pub returns-in-Many-clause-turning : goal.returns-in-Many-clause-turning
returns-in-Many-clause-turning c = c.spread_of.ensures.steady ∙ ap is_turning (sym c.in-Many.is)
