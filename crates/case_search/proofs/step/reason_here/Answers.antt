use Rattle.std.proofs.Common.{◌≡◌, ◌∷◌, ap, ◌∙◌, subst}
use Rattle.case_tree.specs.Walk.{Way}
use Rattle.case_search.specs.Guards.{parent}
use Rattle.case_search.specs.Places.{list_of}
use Rattle.case_search.specs.Step.{QuietAbove}
use Rattle.case_search.proofs.Around.{quiet_but}
use Rattle.case_search.proofs.Guarded.{guarded_but}
use Rattle.case_search.proofs.step.reason_here.Goals as goal

pub reason_by-requires-clause-quiet : goal.reason_by-requires-clause-quiet
reason_by-requires-clause-quiet c =
    let set = c.args.clauses.now in
    let above = parent c.args.trail.now.path in
    let is : c.last_of.new.trail.path ≡ c.in-Some.last ∷ above = ap (λ (way : Way). way.path) c.in-Some.ensures.trail ∙ c.in-Some.ensures.last in
    rw is (quiet_but set c.in-Some.last above (subst (QuietAbove set) c.in-Some.ensures.last c.requires.quiet))

pub reason_by-requires-clause-guarded : goal.reason_by-requires-clause-guarded
reason_by-requires-clause-guarded c =
    let set = c.args.clauses.now in
    let above = parent c.args.trail.now.path in
    let is : c.last_of.new.trail.path ≡ c.in-Some.last ∷ above = ap (λ (way : Way). way.path) c.in-Some.ensures.trail ∙ c.in-Some.ensures.last in
    rw is (guarded_but set (list_of c.args.guards.now) c.in-Some.last above c.requires.guarded)
