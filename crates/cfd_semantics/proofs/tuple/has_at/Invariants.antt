use Rattle.std.proofs.Common.{◌≡◌, drop}
use Rattle.cfd_semantics.proofs.Values.{agrees}
use Rattle.cfd_semantics.proofs.tuple.has_at.Given as goal

-- what is left of the constants and the attributes decides
abbrev pub invariant-loop-place : goal.invariant-loop-place
invariant-loop-place g l =
    agrees g.V.PartialEq.eq (drop l.place l.constants) l.tuple (drop l.place l.x) ≡ agrees g.V.PartialEq.eq l.constants l.tuple l.x
