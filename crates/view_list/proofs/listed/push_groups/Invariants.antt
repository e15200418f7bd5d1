use Rattle.std.proofs.Common.{◌≡◌, ◌++◌, take}
use Rattle.std.specs.List.{flat_map}
use Rattle.view_list.specs.Groups.{group_text}
use Rattle.view_list.proofs.listed.push_groups.Given as goal

abbrev pub invariant-loop-group : goal.invariant-loop-group
invariant-loop-group l = l.out.items ≡ l.fn.out.items ++ flat_map (group_text l.most l.read l.attrs l.dep) (take l.group-index l.groups)
