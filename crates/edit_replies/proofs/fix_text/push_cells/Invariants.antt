use Rattle.std.proofs.Common.{◌≡◌, ◌++◌, ◌≤◌, length, take, filter}
use Rattle.std.specs.List.{flat_map}
use Rattle.edit_replies.specs.Fixing.{cell_text, cells, differs}
use Rattle.edit_replies.proofs.fix_text.push_cells.Given as goal

abbrev pub invariant-loop-place : goal.invariant-loop-place
invariant-loop-place l =
    let changed = filter differs (take l.place (cells l.attrs l.old l.new)) in
    record {
      text : l.out.items ≡ l.initial.out.items ++ flat_map cell_text changed;
      count : l.count ≡ length changed;
      few : l.count ≤ l.place;
    }
