use Rattle.std.proofs.Common.{◌≡◌, ◌++◌, None, take}
use Rattle.std.specs.List.{flat_map}
use Rattle.view_list.specs.Groups.{missing_text}
use Rattle.view_list.specs.Listed.{only_if}
use Rattle.view_list.specs.Rows.{has_id}
use Rattle.violation_groups.specs.declared.groups.Missing.{Missing}
use Rattle.view_list.proofs.rows.push_cind_groups.Given as goal

abbrev pub invariant-loop-key : goal.invariant-loop-key
invariant-loop-key l = l.out.items ≡ l.fn.out.items ++ flat_map (λ (missing : Missing). only_if (has_id l.row missing.rows) (missing_text None l.read l.schema l.cind missing)) (take l.key-index l.missing)
