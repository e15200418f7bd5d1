use Rattle.std.proofs.Common.{◌≡◌, map, take}
use Rattle.std.specs.List.{All}
use Rattle.dep_search.specs.Keys.{IsKey, candidate_of}
use Rattle.dep_search.proofs.sorting.keys_of.Given as goal

abbrev pub invariant-loop-candidate : goal.invariant-loop-candidate
invariant-loop-candidate l = record {
  same : map candidate_of l.keys.items ≡ take l.candidate-index l.found;
  each : All (IsKey l.rows l.sides) l.keys.items;
}
