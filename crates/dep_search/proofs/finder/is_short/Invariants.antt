use Rattle.std.proofs.Common.{◌≡◌, [], true, take, length}
use Rattle.std.specs.Prelude.{slice_index_or, nat_le}
use Rattle.std.specs.List.{list_all}
use Rattle.dep_search.proofs.finder.is_short.Given as goal

abbrev pub invariant-loop-attr : goal.invariant-loop-attr
invariant-loop-attr l = list_all (λ attr. nat_le (length (slice_index_or l.row attr [])) 1024) (take l.attr-index l.attrs) ≡ true
