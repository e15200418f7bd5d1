use Rattle.std.proofs.Common.{◌≡◌, ◌++◌, take}
use Rattle.std.specs.List.{flat_map, zip}
use Rattle.view_list.specs.Rows.{cell_line}
use Rattle.view_list.proofs.rows.push_row_values.Given as goal

abbrev pub invariant-loop-i : goal.invariant-loop-i
invariant-loop-i l = l.out.items ≡ l.fn.out.items ++ flat_map cell_line (take l.i (zip l.attrs l.texts))
