use Rattle.case_search.specs.Places.{list_of}
use Rattle.case_search.proofs.Guarded.{passed, passed_over}
use Rattle.case_search.proofs.guards.pass_one.Goals as goal

pub returns-in_ok-add-clause-guarded : goal.returns-in_ok-add-clause-guarded
returns-in_ok-add-clause-guarded c =
    passed c.args.clauses.now c.args.trail.now.path c.args.gone (list_of c.args.guards.now) (list_of c.take.new.self) c.in-Some.at c.requires.guarded c.in-Some.ensures.taken c.take.ensures.others (list_of c.add.new.self) c.in-Some-next_guard.literal c.in-Some-next_guard.ensures.found c.in-Some-next_guard.ensures.not_false c.in_ok-add.ensures.added c.in_ok-add.ensures.others

pub returns-in_default-next_guard-clause-guarded : goal.returns-in_default-next_guard-clause-guarded
returns-in_default-next_guard-clause-guarded c =
    passed_over c.args.clauses.now c.args.trail.now.path c.args.gone (list_of c.args.guards.now) (list_of c.take.new.self) c.in-Some.at c.requires.guarded c.in-Some.ensures.taken c.take.ensures.others c.requires.quiet c.in_default-next_guard.ensures.none
