use Rattle.std.proofs.Common.{◌∷◌, [], List, reverse, ap, ◌∙◌, subst, arith}
use Rattle.std.specs.Vec.{vec_capacity}
use Rattle.std.proofs.lemmas.List.{reverse-append}
use Rattle.case_tree.specs.declared.clauses.Literal.{Literal}
use Rattle.case_tree.specs.Walk.{IsTrail}
use Rattle.case_tree.proofs.Trails.{last_known, IsTrail-pop}
use Rattle.case_tree.proofs.trail.Trail.pop.Goals as goal
use Rattle.case_tree.proofs.trail.Trail.pop.Goals.{In_ok-literal}

-- the trail before the pop, with the last split in front
before : (c : In_ok-literal) → IsTrail c.self.inside.values.items (c.in_ok-literal.literal ∷ reverse c.pop.new.self.items) (vec_capacity c.self.inside.splits)
before c =
    subst (λ (path : List Literal). IsTrail c.self.inside.values.items path (vec_capacity c.self.inside.splits))
    (ap reverse c.in_ok-literal.ensures.items ∙ reverse-append c.pop.new.self.items (c.in_ok-literal.literal ∷ []))
    c.self.invariant

pub index_mut-requires : goal.index_mut-requires
index_mut-requires c = omega (arith, last_known _ _ _ _ (before (goal.at.index_mut-requires c).In_ok-literal))

pub invariant_of-self-2 : goal.invariant_of-self-2
invariant_of-self-2 c = rw c.in_ok-literal.ensures.capacity (IsTrail-pop _ _ _ _ (before (goal.at.invariant_of-self-2 c).In_ok-literal))
