use Rattle.std.proofs.Common.{◌≡◌, ◌+◌}
use Rattle.dep_search.specs.Counting.{gathered}
use Rattle.dep_search.specs.Found.{sides_of_size}
use Rattle.dep_search.proofs.sides.left_sides.Given as goal

abbrev pub invariant-loop-size : goal.invariant-loop-size
invariant-loop-size l = record {
  so_far : l.sides ≡ gathered (sides_of_size l.attrs) (l.size + 1);
  level : l.level ≡ sides_of_size l.attrs l.size;
}
