-- The exit status of the program.
use Rattle.std.specs.Prelude.{ℕ}
use Rattle.cli_output.specs.declared.status.Status.{Status}
use Rattle.cli_output.specs.declared.status.Status.TheVariants.{Clean, Findings, Usage, Refused, ReadFault, WriteFault, Memory, Spent}

abbrev pub number_of : Status → ℕ
number_of Clean = 0
number_of Findings = 1
number_of Usage = 2
number_of Refused = 3
number_of ReadFault = 4
number_of WriteFault = 5
number_of Memory = 6
number_of Spent = 7
