use Rattle.std.proofs.Common.{◌≡◌, drop}
use Rattle.cfd_semantics.specs.Tuple.{values_at}
use Rattle.violation_groups.proofs.IdsAt.{collects}
use Rattle.violation_groups.proofs.listed.ids_at.Given as goal

abbrev pub invariant-loop-attribute : goal.invariant-loop-attribute
invariant-loop-attribute l = collects l.found.items l.ids (drop l.attribute-index l.attributes) ≡ values_at l.ids l.attributes
