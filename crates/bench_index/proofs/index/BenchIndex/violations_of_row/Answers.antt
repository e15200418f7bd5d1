use Rattle.std.proofs.Common.{◌≡◌, ◌+◌, ◌<◌, ◌≤◌, List, get_or, length, refl, ap, ◌∙◌, subst, rules}
use Rattle.std.proofs.lemmas.Option.{slice_get_read}
use Rattle.std.proofs.lemmas.Result.{IfOk-weaker}
use Rattle.row_store.specs.Tuple.{ids_of}
use Rattle.rule_model.specs.Books.{book_deps}
use Rattle.rule_model.specs.declared.dep.Dep.{Dep}
use Rattle.group_index.specs.GroupSet.{GroupSet}
use Rattle.bench_index.specs.ByIds.{IsDependencyByIds}
use Rattle.bench_index.specs.Indexes.{IsIndexOfDep}
use Rattle.bench_index.specs.Lists.{AreLinesOf}
use Rattle.bench_index.specs.Replies.{AreViolationsOfRow}
use Rattle.bench_index.proofs.Asking.{dep_within}
use Rattle.bench_index.proofs.Reading.{same_at, zip_at, read_lines}
use Rattle.bench_index.proofs.index.BenchIndex.violations_of_row.Goals as goal

pub index-requires : goal.index-requires
index-requires g c =
    let within : c.args.dep < length c.args.self.now.groups.items = dep_within c.args.rules.now c.args.pool.now c.args.self.now c.requires.made c.args.dep c.requires.number in
    search rules

pub violation_lines-requires-clause-rule : goal.violation_lines-requires-clause-rule
violation_lines-requires-clause-rule g c =
    let index = c.args.self.now in
    let texts = c.args.pool.now in
    let deps = book_deps c.args.rules.now in
    let dep = c.index-as_slice-dep.result in
    let s = c.index.result.now in
    let within = dep_within c.args.rules.now texts index c.requires.made c.args.dep c.requires.number in
    let here = slice_get_read index.groups.items (length index.groups.items) c.args.dep s refl within c.index.ensures in
    let is : dep ≡ get_or deps c.args.dep dep = c.index-as_slice-dep.is ∙ ap (λ (ds : List Dep). get_or ds c.args.dep dep) (c.as_slice.ensures ∙ c.deps.ensures.deps) in
    let at = slice_get_read deps (length deps) c.args.dep dep refl c.requires.number is in
    let own = zip_at (IsIndexOfDep texts) deps index.groups.items c.args.dep dep s c.requires.made.groups at here in
    subst (λ (d : Dep). IsDependencyByIds texts d.rule s.made.dependency) c.index-as_slice-dep.is own.rule

pub violation_lines-requires-clause-wide : goal.violation_lines-requires-clause-wide
violation_lines-requires-clause-wide g c =
    let index = c.args.self.now in
    let s = c.index.result.now in
    let within = dep_within c.args.rules.now c.args.pool.now index c.requires.made c.args.dep c.requires.number in
    c.requires.wide s (slice_get_read index.groups.items (length index.groups.items) c.args.dep s refl within c.index.ensures)

pub returns-clause-violations : goal.returns-clause-violations
returns-clause-violations g c =
    let index = c.args.self.now in
    let s = c.index.result.now in
    let ids = ids_of c.args.tuple.now in
    let within = dep_within c.args.rules.now c.args.pool.now index c.requires.made c.args.dep c.requires.number in
    let here = slice_get_read index.groups.items (length index.groups.items) c.args.dep s refl within c.index.ensures in
    IfOk-weaker c.violation_lines.result (AreLinesOf s c.args.row ids) (AreViolationsOfRow index c.args.dep c.args.row ids)
    (λ lines are. read_lines index c.args.dep s here c.args.row ids lines (c.requires.wide s here) are) c.violation_lines.ensures.lines

pub returns-clause-probes : goal.returns-clause-probes
returns-clause-probes g c x at =
    let index = c.args.self.now in
    let s = c.index.result.now in
    let within = dep_within c.args.rules.now c.args.pool.now index c.requires.made c.args.dep c.requires.number in
    let here = slice_get_read index.groups.items (length index.groups.items) c.args.dep s refl within c.index.ensures in
    subst (λ (x : GroupSet). c.violation_lines.new.steps ≤ c.args.steps.now + length x.made.dependency.rows) (same_at index.groups.items c.args.dep s x here at) c.violation_lines.ensures.probes
