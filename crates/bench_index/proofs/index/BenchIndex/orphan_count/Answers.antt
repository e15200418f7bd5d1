use Rattle.std.proofs.Common.{◌≡◌, ◌+◌, ◌*◌, ◌≤◌, length, refl, subst}
use Rattle.std.proofs.lemmas.Option.{slice_get_read}
use Rattle.std.proofs.lemmas.Result.{IfOk-weaker}
use Rattle.cind_index.specs.declared.index.CindIndex.{CindIndex}
use Rattle.bench_index.specs.Replies.{IsOrphanCountOfCind}
use Rattle.bench_index.specs.Lists.{OfOrphans}
use Rattle.bench_index.proofs.Reading.{same_at, read_orphan_count}
use Rattle.bench_index.proofs.index.BenchIndex.orphan_count.Goals as goal

pub returns-clause-count : goal.returns-clause-count
returns-clause-count g c =
    let index = c.args.self.now in
    let s = c.index.result.now in
    let here = slice_get_read index.cinds.items (length index.cinds.items) c.args.cind s refl c.requires.number c.index.ensures in
    IfOk-weaker c.count_orphans.result (λ count. OfOrphans s (λ all. count ≡ length all)) (IsOrphanCountOfCind index c.args.cind) (λ count fact. read_orphan_count index c.args.cind s here count fact) c.count_orphans.ensures.count

pub returns-clause-probes : goal.returns-clause-probes
returns-clause-probes g c x at =
    let index = c.args.self.now in
    let s = c.index.result.now in
    let here = slice_get_read index.cinds.items (length index.cinds.items) c.args.cind s refl c.requires.number c.index.ensures in
    subst (λ (x : CindIndex). c.count_orphans.new.steps ≤ c.args.steps.now + length x.rule.rows * x.keys.marked) (same_at index.cinds.items c.args.cind s x here at) c.count_orphans.ensures.probes
