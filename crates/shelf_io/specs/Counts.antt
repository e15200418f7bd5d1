-- Counts of a device that never fall.
use Rattle.std.specs.Prelude.{Result, Ok, Err}
use Rattle.shelf_io.specs.declared.shelf.FetchFault.{FetchFault}
use Rattle.shelf_io.specs.declared.shelf.FetchFault.TheVariants.{Absent, Failed, Memory}
use Rattle.shelf_io.specs.declared.counts.FetchCounts.{FetchCounts}
use Rattle.shelf_io.specs.Rising.{raised}

-- no fetch was made
abbrev pub no_counts : FetchCounts
no_counts = record { calls = 0; faults = 0; absences = 0 }

-- the counts after a fetch: a call more, and a fault or an absence more where the fetch answered that
abbrev pub counts_after : {B : Type 0} → Result B FetchFault → FetchCounts → FetchCounts
counts_after (Ok bytes) counts = record counts { calls = raised counts.calls }
counts_after (Err Absent) counts = record counts { calls = raised counts.calls; absences = raised counts.absences }
counts_after (Err Failed) counts = record counts { calls = raised counts.calls; faults = raised counts.faults }
counts_after (Err Memory) counts = record counts { calls = raised counts.calls }
