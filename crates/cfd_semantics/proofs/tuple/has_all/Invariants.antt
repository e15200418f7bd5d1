use Rattle.std.proofs.Common.{◌≡◌, drop}
use Rattle.std.specs.Prelude.{is_some}
use Rattle.cfd_semantics.specs.Tuple.{values_at}
use Rattle.cfd_semantics.proofs.tuple.has_all.Given as goal

-- the attributes that are left decide
abbrev pub invariant-loop-attribute : goal.invariant-loop-attribute
invariant-loop-attribute g l = is_some (values_at l.tuple (drop l.attribute-index l.x)) ≡ is_some (values_at l.tuple l.x)
