use Rattle.case_search.specs.Places.{list_of}
use Rattle.case_search.proofs.Around.{quiet_but}
use Rattle.case_search.proofs.Guarded.{guarded_but}
use Rattle.case_search.proofs.step.makes_reason.Goals as goal

pub reason_by-reason-requires-clause-quiet : goal.reason_by-reason-requires-clause-quiet
reason_by-reason-requires-clause-quiet c =
    rw c.push.ensures.path (quiet_but c.args.clauses.now c.args.literal c.args.trail.now.path c.requires.quiet)

pub reason_by-reason-requires-clause-guarded : goal.reason_by-reason-requires-clause-guarded
reason_by-reason-requires-clause-guarded c =
    rw c.push.ensures.path (guarded_but c.args.clauses.now (list_of c.args.guards.now) c.args.literal c.args.trail.now.path c.requires.guarded)
