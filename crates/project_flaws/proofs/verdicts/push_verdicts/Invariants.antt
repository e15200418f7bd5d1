use Rattle.std.proofs.Common.{◌≡◌, ◌++◌}
use Rattle.project_flaws.specs.Told.{verdicts_text}
use Rattle.project_flaws.proofs.verdicts.push_verdicts.Given as goal

-- what was told, with what is left, is all of it
abbrev pub invariant-loop-table : goal.invariant-loop-table
invariant-loop-table l = l.out.items ++ verdicts_text l.table-iterator.a.rest.now l.table-iterator.b.rest.now ≡ l.fn.out.items ++ verdicts_text l.tables l.verdicts
