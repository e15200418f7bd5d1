use Rattle.std.proofs.Common.{◌≡◌, take, map}
use Rattle.bench_core.specs.Stored.{text_of}
use Rattle.violation_groups.proofs.named.texts_of.Given as goal

abbrev pub invariant-loop-id : goal.invariant-loop-id
invariant-loop-id l = l.texts ≡ map (text_of l.pool) (take l.id-index l.ids)
