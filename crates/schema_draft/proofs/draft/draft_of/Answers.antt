use Rattle.std.proofs.Common.{◌≡◌, [], ◌++◌, take, ap, sym, ◌∙◌}
use Rattle.std.proofs.lemmas.List.{append-nil, drop_all}
use Rattle.text_lists.specs.Limits.{standard}
use Rattle.schema_core.specs.SchemaFiles.{reads}
use Rattle.schema_draft.specs.Drafts.{draft_behind, draft_of}
use Rattle.schema_draft.proofs.DraftReads.{reads-draft}
use Rattle.schema_draft.proofs.draft.draft_of.Goals as goal

pub returns : goal.returns
unfolding draft_of
returns c =
    let whole : c.loop-place.out.items ≡ draft_behind [] c.args.sheets.now =
    sym (append-nil c.loop-place.out.items)
    ∙ ap (λ left. c.loop-place.out.items ++ draft_behind (take c.loop-place.place c.args.sheets.now) left) (sym (drop_all c.loop-place.place c.args.sheets.now c.loop-place-test.false))
    ∙ c.loop-place.invariant in
    record {
      text = whole;
      read_again = λ are valid. ap (reads standard) whole ∙ reads-draft c.args.sheets.now are valid;
    }
