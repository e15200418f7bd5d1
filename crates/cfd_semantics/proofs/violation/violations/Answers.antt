use Rattle.std.proofs.Common.{◌≡◌, List, ◌++◌, map, sym, ap, ◌∙◌}
use Rattle.std.proofs.lemmas.List.{take_all}
use Rattle.cfd_semantics.specs.declared.dependency.TableauRow.{TableauRow}
use Rattle.cfd_semantics.specs.declared.violation.Violation.{Violation}
use Rattle.cfd_semantics.specs.Numbered.{numbered}
use Rattle.cfd_semantics.specs.Violation.{entries, violating, violations}
use Rattle.cfd_semantics.specs.Renaming.{renamed_dependency}
use Rattle.cfd_semantics.proofs.Renamed.{listing-renamed}
use Rattle.cfd_semantics.proofs.Law.{listing_is_empty_where_satisfied}
use Rattle.cfd_semantics.proofs.Numbers.{numbered-more}
use Rattle.cfd_semantics.proofs.violation.violations.Goals as goal

pub loop-number-preserved : goal.loop-number-preserved
loop-number-preserved g c =
    let gives = λ (t : TableauRow g.row.V.Denot). violating g.V.PartialEq.eq t (entries c.args.dependency.now c.args.rows.now) in
    let piece = λ (found : List Violation). map (λ violation. (c.loop-number.number, violation)) found in
    let step = numbered-more gives c.as_slice-tableau.result.now c.loop-number.number c.index-tableau-number.result c.loop-number-test.true c.index-tableau-number.is in
    c.in_ok-push_numbered.ensures ∙ ap (λ found. c.loop-number.all ++ piece found) (c.as_slice.ensures ∙ c.in_ok-found.ensures)
    ∙ ap (λ all. all ++ piece (gives c.index-tableau-number.result)) c.loop-number.invariant ∙ sym step

-- once all tableau rows are passed
listed : (g : _) (c : goal.After-loop-number g) → c.loop-number.all ≡ violations g.V.PartialEq.eq c.args.dependency.now (entries c.args.dependency.now c.args.rows.now)
listed g c =
    let gives = λ (t : TableauRow g.row.V.Denot). violating g.V.PartialEq.eq t (entries c.args.dependency.now c.args.rows.now) in
    c.loop-number.invariant ∙ ap (numbered gives) (take_all c.loop-number.number c.as_slice-tableau.result.now c.loop-number-test.false) ∙ ap (numbered gives) c.as_slice-tableau.ensures

pub returns-clause-law : goal.returns-clause-law
returns-clause-law g c = rw (listed g c) (listing_is_empty_where_satisfied g.met.V.Eq.laws c.args.dependency.now c.args.rows.now)

pub returns-clause-by_numbers : goal.returns-clause-by_numbers
returns-clause-by_numbers g c = λ count name by_number numbers numbering cells tuples is_named rows_named.
    listed g c ∙ ap (λ d. violations g.V.PartialEq.eq d (entries d c.args.rows.now)) is_named
    ∙ ap (λ rows. violations g.V.PartialEq.eq (renamed_dependency name by_number) (entries (renamed_dependency name by_number) rows)) rows_named
    ∙ listing-renamed numbering.apart by_number numbers cells tuples
