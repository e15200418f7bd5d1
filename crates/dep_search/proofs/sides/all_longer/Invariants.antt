use Rattle.std.proofs.Common.{◌≡◌, []}
use Rattle.std.specs.Prelude.{slice_index_or}
use Rattle.dep_search.specs.Counting.{gathered}
use Rattle.dep_search.specs.Found.{longer}
use Rattle.dep_search.proofs.sides.all_longer.Given as goal

abbrev pub invariant-loop-n : goal.invariant-loop-n
invariant-loop-n l = l.more ≡ gathered (λ n. longer l.attrs (slice_index_or l.sides n [])) l.n
