-- Lines that are put to what takes them.
use Rattle.std.specs.Prelude.{List, ◌++◌}
use Rattle.violation_report.specs.declared.line.Line.{Line}

-- whatever was put before, these lines are put after it
abbrev pub Takes : {T : Type 0} → (T → List Line → T → Type 0) → T → List Line → T → Type 0
Takes {T} Took old lines new = (start : T) (before : List Line) → Took start before old → Took start (before ++ lines) new
