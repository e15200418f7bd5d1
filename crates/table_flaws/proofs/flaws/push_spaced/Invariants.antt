use Rattle.std.proofs.Common.{◌≡◌, ◌++◌, map, take}
use Rattle.table_flaws.specs.declared.flaws.Flaw.TheVariants.{Spaced}
use Rattle.table_flaws.proofs.flaws.push_spaced.Given as goal

abbrev pub invariant-loop-row : goal.invariant-loop-row
invariant-loop-row l = l.flaws ≡ l.fn.flaws ++ map (λ row. Spaced l.attr row) (take l.row-index l.row-items)
