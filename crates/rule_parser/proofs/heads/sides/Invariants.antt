use Rattle.std.proofs.Common.{◌≡◌, ℕ, ◌++◌, List, map}
use Rattle.rule_parser.proofs.heads.sides.Given as goal

-- the sides so far, and those of the pairs that are left
abbrev pub invariant-loop-attr : goal.invariant-loop-attr
invariant-loop-attr l =
    (l.x ++ map (λ (pair : List ℕ × List ℕ). pair.0) l.attr-iterator.rest.items ≡ map (λ (pair : List ℕ × List ℕ). pair.0) l.fn.pairs)
    × (l.xm ++ map (λ (pair : List ℕ × List ℕ). pair.1) l.attr-iterator.rest.items ≡ map (λ (pair : List ℕ × List ℕ). pair.1) l.fn.pairs)
