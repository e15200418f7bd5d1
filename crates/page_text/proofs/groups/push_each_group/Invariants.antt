use Rattle.std.proofs.Common.{◌≡◌, ◌++◌, take}
use Rattle.std.specs.List.{flat_map}
use Rattle.page_text.specs.Groups.{group_text}
use Rattle.page_text.proofs.groups.push_each_group.Given as goal

abbrev pub invariant-loop-group : goal.invariant-loop-group
invariant-loop-group l = l.out.items ≡ l.fn.out.items ++ flat_map (group_text l.attrs l.dep l.shown) (take l.group-index l.groups)
