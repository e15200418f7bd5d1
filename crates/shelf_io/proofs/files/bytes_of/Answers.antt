use Rattle.std.proofs.Common.{sym, ap, ◌∙◌, Some}
use Rattle.std.proofs.lemmas.List.{at_drop_all}
use Rattle.std.specs.FinMap.{get-empty}
use Rattle.std.specs.Cmp.Lexicographic.{slice_cmp}
use Rattle.std.specs.Ordering.{nat_cmp}
use Rattle.shelf_io.specs.Files.{file_at}
use Rattle.shelf_io.specs.Held.{files_of}
use Rattle.shelf_io.proofs.Lookup.{file_at-named, file_at-not_named}
use Rattle.shelf_io.proofs.files.bytes_of.Goals as goal

pub returns-then-eq : goal.returns-then-eq
returns-then-eq c =
    let named = file_at-named c.args.files.now c.loop-file.file-index c.file-item.result c.args.name.now _ _ c.loop-file-test.true c.file-item.is c.as_str.ensures.value c.eq.ensures c.if-eq.true in
    ap Some c.deref.ensures.value ∙ sym (c.loop-file.invariant ∙ named)

pub loop-file-preserved : goal.loop-file-preserved
loop-file-preserved c =
    c.loop-file.invariant ∙ file_at-not_named c.args.files.now c.loop-file.file-index c.file-item.result c.args.name.now _ _ c.loop-file-test.true c.file-item.is c.as_str.ensures.value c.eq.ensures c.if-eq.false

pub returns : goal.returns
returns c =
    sym (c.loop-file.invariant ∙ at_drop_all (λ rest. file_at (files_of rest) c.args.name.now) c.args.files.now c.loop-file.file-index c.loop-file-test.false
    ∙ get-empty (slice_cmp nat_cmp) c.args.name.now)
