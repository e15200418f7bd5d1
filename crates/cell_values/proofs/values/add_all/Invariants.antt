use Rattle.std.proofs.Common.{◌≡◌, drop}
use Rattle.cell_values.specs.Values.{once_after}
use Rattle.cell_values.proofs.values.add_all.Given as goal

-- what is left leads to the same
abbrev pub invariant-loop-text : goal.invariant-loop-text
invariant-loop-text l = once_after l.values (drop l.text-index l.texts) ≡ once_after l.initial.values l.texts
