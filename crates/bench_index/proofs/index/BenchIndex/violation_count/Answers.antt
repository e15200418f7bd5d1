use Rattle.std.proofs.Common.{◌≡◌, ◌+◌, ◌*◌, ◌≤◌, length, refl, subst}
use Rattle.std.proofs.lemmas.Option.{slice_get_read}
use Rattle.std.proofs.lemmas.Result.{IfOk-weaker}
use Rattle.group_index.specs.GroupSet.{GroupSet}
use Rattle.bench_index.specs.Replies.{IsViolationCountOfDep}
use Rattle.bench_index.specs.Lists.{OfViolations}
use Rattle.bench_index.proofs.Reading.{same_at, read_violation_count}
use Rattle.bench_index.proofs.index.BenchIndex.violation_count.Goals as goal

pub returns-clause-count : goal.returns-clause-count
returns-clause-count g c =
    let index = c.args.self.now in
    let s = c.index.result.now in
    let here = slice_get_read index.groups.items (length index.groups.items) c.args.dep s refl c.requires.number c.index.ensures in
    IfOk-weaker c.count_violations.result (λ count. OfViolations s (λ all. count ≡ length all)) (IsViolationCountOfDep index c.args.dep) (λ count fact. read_violation_count index c.args.dep s here count fact) c.count_violations.ensures.count

pub returns-clause-probes : goal.returns-clause-probes
returns-clause-probes g c x at =
    let index = c.args.self.now in
    let s = c.index.result.now in
    let here = slice_get_read index.groups.items (length index.groups.items) c.args.dep s refl c.requires.number c.index.ensures in
    subst (λ (x : GroupSet). c.count_violations.new.steps ≤ c.args.steps.now + length x.made.dependency.rows * x.dirty) (same_at index.groups.items c.args.dep s x here at) c.count_violations.ensures.probes
