use Rattle.std.proofs.Common.{◌≡◌, ℕ, ◌<◌, false}
use Rattle.rule_runs.specs.Marks.{marked}
use Rattle.fix_engine.specs.Rivals.{AgreesWithout}
use Rattle.fix_engine.proofs.rivals.rival_of.Given as goal

abbrev pub invariant-loop-attr : goal.invariant-loop-attr
invariant-loop-attr l = (attr : ℕ) → attr < l.attr → marked l.start.vouched attr ≡ false → AgreesWithout l.start l.first.tuple attr
