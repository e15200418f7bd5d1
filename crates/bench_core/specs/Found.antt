-- The value of what was tested, or the fault that was found.
use Rattle.std.specs.Prelude.{Option, Some, None, Result, Ok, Err}

abbrev pub unless_found : {X E : Type 0} → Option E → X → Result X E
unless_found None x = Ok x
unless_found (Some fault) x = Err fault
