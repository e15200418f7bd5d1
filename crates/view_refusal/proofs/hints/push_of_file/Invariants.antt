use Rattle.std.proofs.Common.{◌≡◌, ◌++◌, take}
use Rattle.std.specs.List.{flat_map}
use Rattle.view_refusal.specs.Hints.{file_hint}
use Rattle.view_refusal.proofs.hints.push_of_file.Given as goal

abbrev pub invariant-loop-table : goal.invariant-loop-table
invariant-loop-table l = l.out.items ≡ l.fn.out.items ++ flat_map (file_hint l.what l.fault) (take l.table-index l.tables)
