use Rattle.std.proofs.Common.{◌≡◌, length}
use Rattle.case_tree.proofs.trail.Trail.clear.Given as goal

abbrev pub invariant-loop : goal.invariant-loop
invariant-loop l = l.self.vars ≡ l.initial.self.vars

abbrev pub decreases-loop : goal.decreases-loop
decreases-loop l = length l.self.path
