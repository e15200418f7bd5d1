use Rattle.std.proofs.Common.{◌≡◌, take}
use Rattle.std.specs.List.{flat_map}
use Rattle.project_flaws.specs.Cited.{written_in}
use Rattle.project_flaws.proofs.cited.written_rows.Given as goal

abbrev pub invariant-loop-decl : goal.invariant-loop-decl
invariant-loop-decl l = l.rows ≡ flat_map (written_in l.table) (take l.decl-index l.decls)
