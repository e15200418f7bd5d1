use Rattle.std.proofs.Common.{◌+◌, ◌≤◌, length, refl, subst}
use Rattle.std.proofs.lemmas.Option.{slice_get_read}
use Rattle.std.proofs.lemmas.Result.{IfOk-weaker}
use Rattle.row_store.specs.Tuple.{ids_of}
use Rattle.cind_index.specs.declared.index.CindIndex.{CindIndex}
use Rattle.bench_index.specs.Lists.{AreOrphanLinesOf}
use Rattle.bench_index.specs.Replies.{AreOrphansOfRow}
use Rattle.bench_index.proofs.Reading.{same_at, read_orphan_lines}
use Rattle.bench_index.proofs.index.BenchIndex.orphans_of_row.Goals as goal

pub orphan_lines-requires : goal.orphan_lines-requires
orphan_lines-requires g c =
    let index = c.args.self.now in
    let s = c.index.result.now in
    c.requires.wide s (slice_get_read index.cinds.items (length index.cinds.items) c.args.cind s refl c.requires.number c.index.ensures)

pub returns-clause-orphans : goal.returns-clause-orphans
returns-clause-orphans g c =
    let index = c.args.self.now in
    let s = c.index.result.now in
    let ids = ids_of c.args.tuple.now in
    let here = slice_get_read index.cinds.items (length index.cinds.items) c.args.cind s refl c.requires.number c.index.ensures in
    IfOk-weaker c.orphan_lines.result (AreOrphanLinesOf s c.args.row ids) (AreOrphansOfRow index c.args.cind c.args.row ids)
    (λ lines are. read_orphan_lines index c.args.cind s here c.args.row ids lines (c.requires.wide s here) are) c.orphan_lines.ensures.lines

pub returns-clause-probes : goal.returns-clause-probes
returns-clause-probes g c x at =
    let index = c.args.self.now in
    let s = c.index.result.now in
    let here = slice_get_read index.cinds.items (length index.cinds.items) c.args.cind s refl c.requires.number c.index.ensures in
    subst (λ (x : CindIndex). c.orphan_lines.new.steps ≤ c.args.steps.now + length x.rule.rows) (same_at index.cinds.items c.args.cind s x here at) c.orphan_lines.ensures.probes
