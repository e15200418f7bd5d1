use Rattle.std.proofs.Common.{◌≡◌, ◌++◌, take}
use Rattle.std.specs.List.{flat_map, zip}
use Rattle.view_list.specs.Listed.{cind_part}
use Rattle.view_list.proofs.listed.push_cinds.Given as goal

abbrev pub invariant-loop-i : goal.invariant-loop-i
invariant-loop-i l = l.out.items ≡ l.fn.out.items ++ flat_map (cind_part l.options l.schema l.counts) (take l.i (zip l.cinds l.found))
