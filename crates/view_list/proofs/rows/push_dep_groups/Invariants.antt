use Rattle.std.proofs.Common.{◌≡◌, ◌++◌, None, take}
use Rattle.std.specs.List.{flat_map}
use Rattle.view_list.specs.Groups.{group_text}
use Rattle.view_list.specs.Listed.{only_if}
use Rattle.view_list.specs.Rows.{stands_in}
use Rattle.violation_groups.specs.declared.groups.Group.{Group}
use Rattle.view_list.proofs.rows.push_dep_groups.Given as goal

abbrev pub invariant-loop-group : goal.invariant-loop-group
invariant-loop-group l = l.out.items ≡ l.fn.out.items ++ flat_map (λ (group : Group). only_if (stands_in l.row group) (group_text None l.read l.attrs l.dep group)) (take l.group-index l.groups)
