use Rattle.std.proofs.Common.{◌≡◌, ◌+◌, ◌*◌, ◌≤◌, length, refl, subst}
use Rattle.std.proofs.lemmas.Option.{slice_get_read}
use Rattle.std.proofs.lemmas.Result.{IfOk-weaker}
use Rattle.cind_index.specs.declared.index.CindIndex.{CindIndex}
use Rattle.bench_index.specs.Indexes.{AreOrphansOfCind}
use Rattle.bench_index.specs.Lists.{OfOrphans}
use Rattle.bench_index.proofs.Reading.{same_at, read_orphans}
use Rattle.bench_index.proofs.index.BenchIndex.orphans.Goals as goal

pub returns-clause-orphans : goal.returns-clause-orphans
returns-clause-orphans g c =
    let index = c.args.self.now in
    let s = c.index.result.now in
    let here = slice_get_read index.cinds.items (length index.cinds.items) c.args.cind s refl c.requires.number c.index.ensures in
    IfOk-weaker c.all_orphans.result (λ found. OfOrphans s (λ all. found ≡ all)) (AreOrphansOfCind index c.args.cind) (λ found fact. read_orphans index c.args.cind s here found fact) c.all_orphans.ensures.list

pub returns-clause-probes : goal.returns-clause-probes
returns-clause-probes g c x at =
    let index = c.args.self.now in
    let s = c.index.result.now in
    let here = slice_get_read index.cinds.items (length index.cinds.items) c.args.cind s refl c.requires.number c.index.ensures in
    subst (λ (x : CindIndex). c.all_orphans.new.steps ≤ c.args.steps.now + length x.rule.rows * x.keys.marked) (same_at index.cinds.items c.args.cind s x here at) c.all_orphans.ensures.probes
