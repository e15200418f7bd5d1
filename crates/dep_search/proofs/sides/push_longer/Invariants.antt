use Rattle.std.proofs.Common.{◌≡◌, [], ◌∷◌, ◌++◌}
use Rattle.std.specs.Prelude.{nat_lt, if◌then◌else◌}
use Rattle.std.specs.List.{list_all}
use Rattle.dep_search.specs.Counting.{gathered}
use Rattle.dep_search.proofs.sides.push_longer.Given as goal

abbrev pub invariant-loop-attr : goal.invariant-loop-attr
invariant-loop-attr l =
    l.more ≡ l.initial.more ++ gathered (λ attr. if list_all (λ before. nat_lt before attr) l.x then (l.x ++ attr ∷ []) ∷ [] else []) l.attr
