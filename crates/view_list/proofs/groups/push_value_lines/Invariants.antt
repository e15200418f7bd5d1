use Rattle.std.proofs.Common.{◌≡◌, ◌++◌, take}
use Rattle.std.specs.List.{flat_map}
use Rattle.view_list.specs.Groups.{value_line}
use Rattle.view_list.proofs.groups.push_value_lines.Given as goal

abbrev pub invariant-loop-value : goal.invariant-loop-value
invariant-loop-value l = l.out.items ≡ l.fn.out.items ++ flat_map (value_line l.most l.read l.attrs l.attr) (take l.value-index l.values)
