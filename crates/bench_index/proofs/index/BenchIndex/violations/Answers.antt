use Rattle.std.proofs.Common.{◌≡◌, ◌+◌, ◌*◌, ◌≤◌, length, refl, subst}
use Rattle.std.proofs.lemmas.Option.{slice_get_read}
use Rattle.std.proofs.lemmas.Result.{IfOk-weaker}
use Rattle.group_index.specs.GroupSet.{GroupSet}
use Rattle.bench_index.specs.Indexes.{AreViolationsOfDep}
use Rattle.bench_index.specs.Lists.{OfViolations}
use Rattle.bench_index.proofs.Reading.{same_at, read_violations}
use Rattle.bench_index.proofs.index.BenchIndex.violations.Goals as goal

pub returns-clause-violations : goal.returns-clause-violations
returns-clause-violations g c =
    let index = c.args.self.now in
    let s = c.index.result.now in
    let here = slice_get_read index.groups.items (length index.groups.items) c.args.dep s refl c.requires.number c.index.ensures in
    IfOk-weaker c.all_violations.result (λ found. OfViolations s (λ all. found ≡ all)) (AreViolationsOfDep index c.args.dep) (λ found fact. read_violations index c.args.dep s here found fact) c.all_violations.ensures.list

pub returns-clause-probes : goal.returns-clause-probes
returns-clause-probes g c x at =
    let index = c.args.self.now in
    let s = c.index.result.now in
    let here = slice_get_read index.groups.items (length index.groups.items) c.args.dep s refl c.requires.number c.index.ensures in
    subst (λ (x : GroupSet). c.all_violations.new.steps ≤ c.args.steps.now + length x.made.dependency.rows * x.dirty) (same_at index.groups.items c.args.dep s x here at) c.all_violations.ensures.probes
