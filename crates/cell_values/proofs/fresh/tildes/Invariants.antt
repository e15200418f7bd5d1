use Rattle.std.proofs.Common.{◌≡◌}
use Rattle.std.specs.String.{string_bytes}
use Rattle.cell_values.specs.Fresh.{tildes}
use Rattle.cell_values.proofs.fresh.tildes.Given as goal

abbrev pub invariant-loop : goal.invariant-loop
invariant-loop l = string_bytes l.text ≡ tildes l.counter
