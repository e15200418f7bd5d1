use Rattle.std.proofs.Common.{◌≡◌}
use Rattle.std.specs.Prelude.{All, map}
use Rattle.std.specs.FinMap as finite
use Rattle.master_index.specs.InStep.{IsInStepWith}
use Rattle.master_index.proofs.index.MasterIndex.new.Given as goal

-- an index of each list so far, each without rows
abbrev pub invariant-loop-list : goal.invariant-loop-list
invariant-loop-list l = record {
  lists : map (λ index. index.list) l.columns.items ≡ l.yielded;
  empty : All (IsInStepWith finite.empty) l.columns.items;
}
