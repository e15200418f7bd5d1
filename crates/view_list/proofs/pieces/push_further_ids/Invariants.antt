use Rattle.std.proofs.Common.{◌≡◌, ◌++◌, take}
use Rattle.std.specs.List.{flat_map}
use Rattle.view_list.specs.Pieces.{further, id_text}
use Rattle.view_list.proofs.pieces.push_further_ids.Given as goal

abbrev pub invariant-loop-id : goal.invariant-loop-id
invariant-loop-id l = l.out.items ≡ l.fn.out.items ++ flat_map (further (id_text l.read)) (take l.id-index l.ids)
