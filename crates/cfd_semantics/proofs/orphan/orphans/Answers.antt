use Rattle.std.proofs.Common.{◌≡◌, ap, ◌∙◌, arith}
use Rattle.std.proofs.lemmas.List.{take_all}
use Rattle.cfd_semantics.specs.declared.inclusion.InclusionRow.{InclusionRow}
use Rattle.cfd_semantics.specs.Numbered.{numbered}
use Rattle.cfd_semantics.specs.Orphan.{left_entries, right_entries, orphaned, orphans}
use Rattle.cfd_semantics.specs.Renaming.{renamed_inclusion, renamed_rows}
use Rattle.cfd_semantics.proofs.RenamedInclusion.{orphan_list-renamed}
use Rattle.cfd_semantics.proofs.InclusionLaw.{orphans_are_none_where_included}
use Rattle.cfd_semantics.proofs.Numbers.{numbered-more}
use Rattle.cfd_semantics.proofs.orphan.orphans.Goals as goal

pub loop-number-preserved : goal.loop-number-preserved
loop-number-preserved g c =
    let kept = c.loop-number.invariant in
    let step = numbered-more (λ t. orphaned g.V.PartialEq.eq t (left_entries c.args.inclusion.now c.args.lefts.now) (right_entries c.args.inclusion.now c.args.rights.now)) c.as_slice-tableau.result.now c.loop-number.number c.index-tableau-number.result c.loop-number-test.true c.index-tableau-number.is in
    grind (arith, step, kept, c.in_ok-found.ensures, c.in_ok-push_numbered.ensures, c.as_slice-tableau.ensures)

-- once all tableau rows are passed
listed : (g : _) (c : goal.After-loop-number g) → c.loop-number.all ≡ orphans g.V.PartialEq.eq c.args.inclusion.now (left_entries c.args.inclusion.now c.args.lefts.now) (right_entries c.args.inclusion.now c.args.rights.now)
listed g c =
    let gives = λ (t : InclusionRow g.row.V.Denot). orphaned g.V.PartialEq.eq t (left_entries c.args.inclusion.now c.args.lefts.now) (right_entries c.args.inclusion.now c.args.rights.now) in
    c.loop-number.invariant ∙ ap (numbered gives) (take_all c.loop-number.number c.as_slice-tableau.result.now c.loop-number-test.false) ∙ ap (numbered gives) c.as_slice-tableau.ensures

pub returns-clause-law : goal.returns-clause-law
returns-clause-law g c = rw (listed g c) (orphans_are_none_where_included g.V.PartialEq.eq c.args.inclusion.now c.args.lefts.now c.args.rights.now)

pub returns-clause-by_numbers : goal.returns-clause-by_numbers
returns-clause-by_numbers g c = λ count name by_number lefts rights numbering constants known all is_named lefts_named rights_named.
    listed g c ∙ ap (λ i. orphans g.V.PartialEq.eq i (left_entries i c.args.lefts.now) (right_entries i c.args.rights.now)) is_named
    ∙ ap (λ rows. orphans g.V.PartialEq.eq (renamed_inclusion name by_number) (left_entries (renamed_inclusion name by_number) rows) (right_entries (renamed_inclusion name by_number) c.args.rights.now)) lefts_named
    ∙ ap (λ rows. orphans g.V.PartialEq.eq (renamed_inclusion name by_number) (left_entries (renamed_inclusion name by_number) (renamed_rows name lefts)) (right_entries (renamed_inclusion name by_number) rows)) rights_named
    ∙ orphan_list-renamed numbering.apart by_number lefts rights constants known all
