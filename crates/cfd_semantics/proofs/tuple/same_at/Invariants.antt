use Rattle.std.proofs.Common.{◌≡◌, drop}
use Rattle.cfd_semantics.proofs.Values.{agree}
use Rattle.cfd_semantics.proofs.tuple.same_at.Given as goal

-- what is left of the attributes decides
abbrev pub invariant-loop-place : goal.invariant-loop-place
invariant-loop-place g l =
    agree g.V.PartialEq.eq l.tuple (drop l.place l.x) l.other (drop l.place l.y) ≡ agree g.V.PartialEq.eq l.tuple l.x l.other l.y
