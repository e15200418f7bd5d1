use Rattle.std.proofs.Common.{◌≡◌}
use Rattle.table_flaws.specs.Flaws.{columns_flaws}
use Rattle.table_flaws.proofs.flaws.flaws_of.Given as goal

abbrev pub invariant-loop-attr : goal.invariant-loop-attr
invariant-loop-attr l = l.flaws ≡ columns_flaws l.rows l.attr
