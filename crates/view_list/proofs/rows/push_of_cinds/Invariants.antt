use Rattle.std.proofs.Common.{◌≡◌, ◌++◌, take}
use Rattle.std.specs.List.{flat_map, zip}
use Rattle.view_list.specs.Rows.{cind_of_row}
use Rattle.view_list.proofs.rows.push_of_cinds.Given as goal

abbrev pub invariant-loop-i : goal.invariant-loop-i
invariant-loop-i l = l.out.items ≡ l.fn.out.items ++ flat_map (cind_of_row l.schema l.counts l.table l.row) (take l.i (zip l.cinds l.found))
