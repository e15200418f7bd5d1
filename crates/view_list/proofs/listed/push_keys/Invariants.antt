use Rattle.std.proofs.Common.{◌≡◌, ◌++◌, take}
use Rattle.std.specs.List.{flat_map}
use Rattle.view_list.specs.Groups.{missing_text}
use Rattle.view_list.proofs.listed.push_keys.Given as goal

abbrev pub invariant-loop-key : goal.invariant-loop-key
invariant-loop-key l = l.out.items ≡ l.fn.out.items ++ flat_map (missing_text l.most l.read l.schema l.cind) (take l.key-index l.missing)
