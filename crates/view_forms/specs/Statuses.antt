-- The status that goes with what is told of the rules.
use Rattle.std.specs.Prelude.{ℕ, List, [], ◌∷◌}
use Rattle.cli_output.specs.declared.status.Status.{Status}
use Rattle.cli_output.specs.declared.status.Status.TheVariants.{Clean, Findings}

-- something is told of them, or nothing is
abbrev pub status_of : List ℕ → Status
status_of [] = Clean
status_of (byte ∷ bytes) = Findings
