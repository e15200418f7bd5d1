-- A sink in memory, as contracts see it.
use Rattle.std.specs.Prelude.{ℕ, ◌-◌, ◌≤◌, ◌⊎◌, List, ◌++◌, length, take, min, Contains}
use Rattle.shelf_io.specs.Rising.{raised}

-- what was written, the room for it in all, the numbers of the puts that fail, and the counts
pub record SinkState : Type 0 where
  pub bytes : List ℕ
  pub room : ℕ
  pub failing : List ℕ
  pub calls : ℕ
  pub faults : ℕ

-- the next put of a piece that isn't empty fails: its number is listed, or no room is left
abbrev pub IsRefusing : SinkState → Type 0
IsRefusing sink = Contains sink.failing (raised sink.calls) ⊎ (sink.room ≤ length sink.bytes)

-- how many bytes of a piece there is room for
abbrev pub count_that_fits : SinkState → List ℕ → ℕ
count_that_fits sink piece = min (length piece) (sink.room - length sink.bytes)

-- so many bytes of a piece were appended
abbrev pub after_put : SinkState → List ℕ → ℕ → SinkState
after_put sink piece taken = record sink { bytes = sink.bytes ++ take taken piece; calls = raised sink.calls }

-- a put failed
abbrev pub after_failure : SinkState → SinkState
after_failure sink = record sink { calls = raised sink.calls; faults = raised sink.faults }
