use Rattle.std.proofs.Common.{◌≡◌, drop}
use Rattle.cfd_semantics.specs.Pattern.{matches}
use Rattle.cfd_semantics.proofs.Values.{agrees}
use Rattle.cfd_semantics.proofs.tuple.matches_at.Given as goal

-- what is left of the cells and the attributes decides
abbrev pub invariant-loop-place : goal.invariant-loop-place
invariant-loop-place g l =
    agrees (matches g.V.PartialEq.eq) (drop l.place l.cells) l.tuple (drop l.place l.x) ≡ agrees (matches g.V.PartialEq.eq) l.cells l.tuple l.x
