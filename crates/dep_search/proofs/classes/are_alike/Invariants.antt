use Rattle.std.proofs.Common.{◌≡◌, true, eqb}
use Rattle.std.specs.Prelude.{slice_index}
use Rattle.dep_search.specs.Counting.{every}
use Rattle.dep_search.proofs.classes.are_alike.Given as goal

abbrev pub invariant-loop-r : goal.invariant-loop-r
invariant-loop-r l = every (λ r. eqb (slice_index l.ids r) (slice_index l.ids (slice_index l.leaders r))) l.r ≡ true
