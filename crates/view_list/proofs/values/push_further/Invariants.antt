use Rattle.std.proofs.Common.{◌≡◌, ◌++◌, take}
use Rattle.std.specs.List.{flat_map, zip}
use Rattle.view_list.specs.Pieces.{further, value_text}
use Rattle.view_list.proofs.values.push_further.Given as goal

abbrev pub invariant-loop-i : goal.invariant-loop-i
invariant-loop-i l = l.out.items ≡ l.fn.out.items ++ flat_map (further (value_text l.attrs)) (take l.i (zip l.places l.values))
