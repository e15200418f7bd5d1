use Rattle.std.proofs.Common.{◌≡◌, take}
use Rattle.std.specs.Prelude.{filter}
use Rattle.project_flaws.specs.Cited.{is_cited}
use Rattle.project_flaws.proofs.cited.cited_of.Given as goal

abbrev pub invariant-loop-row : goal.invariant-loop-row
invariant-loop-row l = l.rows ≡ filter (is_cited l.clauses l.nodes) (take l.row-index l.written)
