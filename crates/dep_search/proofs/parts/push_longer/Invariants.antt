use Rattle.std.proofs.Common.{◌≡◌, List, ℕ, ◌++◌, ◌∷◌, map, take}
use Rattle.dep_search.proofs.parts.push_longer.Given as goal

abbrev pub invariant-loop-part : goal.invariant-loop-part
invariant-loop-part l = l.more ≡ l.initial.more ++ map (λ (part : List ℕ). l.attr ∷ part) (take l.part-index l.parts)
