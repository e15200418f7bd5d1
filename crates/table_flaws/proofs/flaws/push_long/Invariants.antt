use Rattle.std.proofs.Common.{◌≡◌, ◌++◌, map, take}
use Rattle.table_flaws.specs.declared.flaws.Flaw.TheVariants.{Long}
use Rattle.table_flaws.proofs.flaws.push_long.Given as goal

abbrev pub invariant-loop-row : goal.invariant-loop-row
invariant-loop-row l = l.flaws ≡ l.fn.flaws ++ map (λ row. Long l.attr row) (take l.row-index l.row-items)
