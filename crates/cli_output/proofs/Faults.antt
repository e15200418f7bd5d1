-- Faults that are handed on.
use Rattle.std.proofs.Common.{ℕ, ◌≤◌, Err, arith}
use Rattle.shelf_io.specs.Rising.{Rose}
use Rattle.cli_output.specs.declared.fetching.Stop.{Stop}
use Rattle.cli_output.specs.declared.fetching.Stop.TheVariants.{Refused, ReadFault, Memory}
use Rattle.cli_output.specs.Fetching.{IsReadFault}

-- a failed fetch stays one, whatever would have been read
pub same_fault : (X Y : Type 0) (stop : Stop) → IsReadFault {X = X} (Err stop) → IsReadFault {X = Y} (Err stop)
same_fault X Y (Refused refusal) fault = fault
same_fault X Y ReadFault fault = fault
same_fault X Y Memory fault = fault

-- a count that rose at last has risen since before
pub Rose-from : (first between last : ℕ) → Rose between last → first ≤ between → Rose first last
Rose-from first between last rose below = omega (arith, rose)
