use Rattle.std.proofs.Common.{◌≡◌, ◌<◌, All, subst, length, ap, sym, ◌∙◌}
use Rattle.dep_search.specs.Keys.{IsCandidate}
use Rattle.dep_search.specs.declared.candidate.Candidate.{Candidate}
use Rattle.dep_search.proofs.Candidates.{found_attrs, found_candidates}
use Rattle.dep_search.proofs.finder.all_found.Goals as goal

pub returns-clause-candidates : goal.returns-clause-candidates
returns-clause-candidates c =
    let attrs : length c.as_slice.result.now ≡ c.args.attrs = ap length c.as_slice.ensures ∙ c.in_ok-columns.ensures.many in
    subst (All (IsCandidate c.args.rows.now c.args.sides.now))
    (sym (rw attrs at c.in_ok-found.ensures.ok))
    (found_candidates c.args.rows.now c.args.support c.args.attrs c.args.sides.now c.requires.rows c.requires.sides)

pub returns-clause-attrs : goal.returns-clause-attrs
returns-clause-attrs c =
    let attrs : length c.as_slice.result.now ≡ c.args.attrs = ap length c.as_slice.ensures ∙ c.in_ok-columns.ensures.many in
    subst (All (λ (found : Candidate). found.a < c.args.attrs))
    (sym (rw attrs at c.in_ok-found.ensures.ok))
    (found_attrs c.args.rows.now c.args.support c.args.attrs c.args.sides.now)
