use Rattle.std.proofs.Common.{ap, ◌∙◌, sym}
use Rattle.shelf_io.specs.Files.{with_file, file_at}
use Rattle.shelf_io.specs.Held.{files_of}
use Rattle.shelf_io.proofs.Lookup.{files_of-push, none_there}
use Rattle.shelf_io.proofs.files.HeldFiles.hold.Goals as goal

pub returns-clause-ok : goal.returns-clause-ok
returns-clause-ok c =
    let none = ap (λ files. file_at (files_of files) c.args.name.now) (sym c.deref.ensures.value)
    ∙ none_there c.bytes_of.result _ c.bytes_of.ensures (sym c.is_some.ensures ∙ c.if-is_some.false) in
    ap files_of c.in_ok-push.ensures.items
    ∙ files_of-push c.self.inside.files.items _ c.args.name.now c.args.bytes.now c.in_ok-from_str.ensures.ok c.in_ok-from_slice.ensures.items none
    ∙ ap (λ files. with_file files c.args.name.now c.args.bytes.now) c.self.view_is
