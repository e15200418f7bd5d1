-- The truth values that a path gives.
use Rattle.std.proofs.Common.{◌≡◌, ℕ, List, ◌∷◌, Some}
use Rattle.std.proofs.lemmas.Bool.{eq-eqb, ne_eqb, cond-true, cond-false}
use Rattle.case_tree.specs.declared.clauses.Literal.{Literal}
use Rattle.case_tree.specs.CaseTree.{value_on}

-- the nearest split decides its own variable
pub value_on-same : (literal : Literal) (path : List Literal) (v : ℕ) → literal.var ≡ v → value_on (literal ∷ path) v ≡ Some literal.positive
value_on-same literal path v same = cond-true _ _ _ (eq-eqb literal.var v same)

-- and no other
pub value_on-other : (literal : Literal) (path : List Literal) (v : ℕ) → (literal.var ≡ v → ⊥) → value_on (literal ∷ path) v ≡ value_on path v
value_on-other literal path v other = cond-false _ _ _ (ne_eqb literal.var v other)
