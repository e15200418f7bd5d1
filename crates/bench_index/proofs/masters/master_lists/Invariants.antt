use Rattle.std.specs.Prelude.{◌≡◌, map, take}
use Rattle.bench_index.specs.MasterLists.{columns_of, each_once}
use Rattle.bench_index.proofs.masters.master_lists.Given as goal

abbrev pub invariant-loop-place : goal.invariant-loop-place
invariant-loop-place l = l.lists.items ≡ each_once (map columns_of (take l.place l.edits))
