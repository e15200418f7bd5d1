use Rattle.std.proofs.Common.{◌≡◌, ◌&&◌, [], ◌∷◌}
use Rattle.std.specs.Prelude.{if◌then◌else◌, nat_eq, nat_le, slice_index}
use Rattle.dep_search.specs.Counting.{gathered}
use Rattle.dep_search.proofs.settled.large.Given as goal

abbrev pub invariant-loop-r : goal.invariant-loop-r
invariant-loop-r l = l.list ≡ gathered (λ r. if nat_eq (slice_index l.leaders r) r && nat_le l.support (slice_index l.sizes r) then r ∷ [] else []) l.r
