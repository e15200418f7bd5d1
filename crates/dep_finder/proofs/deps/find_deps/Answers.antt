use Rattle.std.proofs.Common.{◌<◌, ◌^◌, ℕ, List, All, length, subst, sym, ap, ◌∙◌, arith}
use Rattle.std.specs.Prelude.{IsPermutation}
use Rattle.std.proofs.lemmas.List.Sorted.{All-permutation, length_permutation}
use Rattle.dep_search.specs.Keys.{IsCandidate}
use Rattle.dep_search.specs.declared.candidate.Candidate.{Candidate}
use Rattle.dep_finder.specs.Deps.{IsOver}
use Rattle.dep_finder.specs.Valid.{HasOneRow, HaveNames}
use Rattle.dep_finder.proofs.FoundNames.{have_names}
use Rattle.dep_finder.proofs.Numbered.{deps_long}
use Rattle.dep_finder.proofs.LeastFound.{named_least, steps_named}
use Rattle.dep_finder.proofs.Over.{deps_over}
use Rattle.dep_finder.proofs.ValidFound.{named_valid, one_row}
use Rattle.dep_finder.proofs.deps.find_deps.Goals as goal

pub deps_of-requires : goal.deps_of-requires
deps_of-requires c =
    let rows = c.as_slice-rows.result.now in
    let moved = subst (λ (l : List Candidate). IsPermutation l c.in_ok-found-2.found) c.as_slice-3.ensures c.in_ok-found-2.ensures.all in
    let all = All-permutation (IsCandidate rows c.as_slice.result.now) c.in_ok-found.found c.in_ok-found-2.found moved c.in_ok-found.ensures.candidates in
    subst (λ (s : List (List ℕ)). All (IsCandidate rows s) c.as_slice-5.result.now) (c.as_slice.ensures ∙ sym c.as_slice-4.ensures)
    (subst (All (IsCandidate rows c.as_slice.result.now)) (sym c.as_slice-5.ensures) all)

pub returns-clause-over : goal.returns-clause-over
returns-clause-over c =
    let rows = c.as_slice-rows.result.now in
    let attrs = c.args.table.now.attrs in
    let many = c.as_slice-attrs.ensures in
    let moved = subst (λ (l : List Candidate). IsPermutation l c.in_ok-found-2.found) c.as_slice-3.ensures c.in_ok-found-2.ensures.all in
    let known = All-permutation (IsCandidate rows c.as_slice.result.now) c.in_ok-found.found c.in_ok-found-2.found moved c.in_ok-found.ensures.candidates in
    let known_here = subst (λ (s : List (List ℕ)). All (IsCandidate rows s) c.as_slice-5.result.now) (c.as_slice.ensures ∙ sym c.as_slice-4.ensures)
    (subst (All (IsCandidate rows c.as_slice.result.now)) (sym c.as_slice-5.ensures) known) in
    let at = All-permutation (λ (found : Candidate). found.a < length c.as_slice-attrs.result.now) c.in_ok-found.found c.in_ok-found-2.found moved c.in_ok-found.ensures.attrs in
    let at_here = subst (λ (n : ℕ). All (λ (found : Candidate). found.a < n) c.as_slice-5.result.now) (ap length many)
    (subst (All (λ (found : Candidate). found.a < length c.as_slice-attrs.result.now)) (sym c.as_slice-5.ensures) at) in
    let within = subst (λ (n : ℕ). All (λ (side : List ℕ). All (λ attr. attr < n) side) c.as_slice-4.result.now) (ap length many)
    (subst (All (λ (side : List ℕ). All (λ attr. attr < length c.as_slice-attrs.result.now) side)) (sym c.as_slice-4.ensures) c.in_ok-sides.ensures.within) in
    subst (All (IsOver attrs)) (sym c.in_ok-deps_of.ensures.is)
    (deps_over attrs c.args.number rows c.as_slice-4.result.now 0 c.as_slice-5.result.now within known_here at_here)

pub returns-clause-few : goal.returns-clause-few
returns-clause-few c =
    let moved = subst (λ (l : List Candidate). IsPermutation l c.in_ok-found-2.found) c.as_slice-3.ensures c.in_ok-found-2.ensures.all in
    omega (
      arith,
      ap length c.in_ok-deps_of.ensures.is,
      deps_long c.args.number c.as_slice-rows.result.now c.as_slice-4.result.now 0 c.as_slice-5.result.now,
      ap length c.as_slice-5.ensures,
      length_permutation c.in_ok-found.found c.in_ok-found-2.found moved,
      c.in_ok-found.ensures.few,
    )

pub returns-clause-least : goal.returns-clause-least
returns-clause-least c =
    let rows = c.args.rows.now in
    let attrs = length c.args.table.now.attrs in
    named_least c.args.number rows attrs c.args.width c.args.support c.in_ok-deps_of.field-0 c.requires.rows c.requires.support
    (steps_named c.args.number rows c.as_slice-rows.result.now attrs (length c.as_slice-attrs.result.now) c.args.width c.args.support
    c.in_ok-sides.sides c.as_slice.result.now c.as_slice-2.result.now c.as_slice-4.result.now
    c.in_ok-found.found c.as_slice-3.result.now c.in_ok-found-2.found c.as_slice-5.result.now c.in_ok-deps_of.field-0
    c.as_slice-rows.ensures (ap length c.as_slice-attrs.ensures) c.in_ok-sides.ensures.all c.as_slice.ensures c.as_slice-2.ensures c.as_slice-4.ensures
    c.in_ok-found.ensures.ok c.as_slice-3.ensures c.in_ok-found-2.ensures c.as_slice-5.ensures c.in_ok-deps_of.ensures.is)

pub returns-clause-valid : goal.returns-clause-valid
returns-clause-valid c =
    let table = c.args.table.now in
    let rows = c.args.rows.now in
    let attrs = length table.attrs in
    named_valid table c.args.number rows c.args.width c.args.support c.in_ok-deps_of.field-0
    (steps_named c.args.number rows c.as_slice-rows.result.now attrs (length c.as_slice-attrs.result.now) c.args.width c.args.support
    c.in_ok-sides.sides c.as_slice.result.now c.as_slice-2.result.now c.as_slice-4.result.now
    c.in_ok-found.found c.as_slice-3.result.now c.in_ok-found-2.found c.as_slice-5.result.now c.in_ok-deps_of.field-0
    c.as_slice-rows.ensures (ap length c.as_slice-attrs.ensures) c.in_ok-sides.ensures.all c.as_slice.ensures c.as_slice-2.ensures c.as_slice-4.ensures
    c.in_ok-found.ensures.ok c.as_slice-3.ensures c.in_ok-found-2.ensures c.as_slice-5.ensures c.in_ok-deps_of.ensures.is)
    c.in_ok-deps_of.ensures.texts

pub returns-clause-one_row : goal.returns-clause-one_row
returns-clause-one_row c =
    subst (All HasOneRow) (sym c.in_ok-deps_of.ensures.is) (one_row c.args.number c.as_slice-rows.result.now c.as_slice-4.result.now 0 c.as_slice-5.result.now)

pub returns-clause-names : goal.returns-clause-names
returns-clause-names c =
    let moved = subst (λ (l : List Candidate). IsPermutation l c.in_ok-found-2.found) c.as_slice-3.ensures c.in_ok-found-2.ensures.all in
    let few : length c.as_slice-5.result.now < 2 ^ 64 = omega (arith, ap length c.as_slice-5.ensures, length_permutation c.in_ok-found.found c.in_ok-found-2.found moved, c.in_ok-found.ensures.few, c.ranges.most) in
    subst HaveNames (sym c.in_ok-deps_of.ensures.is) (have_names c.args.number c.as_slice-rows.result.now c.as_slice-4.result.now c.as_slice-5.result.now few)
