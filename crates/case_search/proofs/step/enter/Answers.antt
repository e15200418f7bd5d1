use Rattle.std.proofs.Common.{◌≡◌, ◌∷◌, ap, ◌∙◌}
use Rattle.case_tree.specs.Walk.{Way}
use Rattle.case_search.specs.Guards.{parent}
use Rattle.case_search.specs.Places.{list_of, opposite_of}
use Rattle.case_search.proofs.Guarded.{guarded_but, just_false}
use Rattle.case_search.proofs.step.enter.Goals as goal

pub pass_on-requires : goal.pass_on-requires
pass_on-requires c =
    let last = c.in-Some.last in
    let above = parent c.args.trail.now.path in
    let same : c.last_of.new.trail.path ≡ c.args.trail.now.path = ap (λ (way : Way). way.path) c.in-Some.ensures.trail in
    let is : c.last_of.new.trail.path ≡ last ∷ above = same ∙ c.in-Some.ensures.last in
    let gone : c.opposite.result ≡ opposite_of last = c.opposite.ensures in
    record {
      vars = c.requires.counted;
      quiet = rw same c.requires.quiet;
      is_false = rw (is, gone) (just_false last above);
      guarded = rw (is, gone) (guarded_but c.args.clauses.now (list_of c.args.guards.now) last above c.requires.guarded);
    }
