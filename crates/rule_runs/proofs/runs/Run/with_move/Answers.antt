use Rattle.std.proofs.Common.{ℕ, List, ◌++◌, ◌∷◌, [], ap, sym, subst, ◌∙◌}
use Rattle.rule_runs.specs.declared.moves.Move.{Move}
use Rattle.rule_runs.specs.declared.runs.Run.{Run}
use Rattle.rule_runs.specs.Moves.{after}
use Rattle.rule_runs.specs.Starts.{IsTupleOf, basis_of, stage_of}
use Rattle.rule_runs.proofs.Running.{run_from_push, run_from_tuple}
use Rattle.rule_runs.proofs.runs.Run.with_move.Goals as goal

pub take_step-requires-clause-tuple : goal.take_step-requires-clause-tuple
take_step-requires-clause-tuple c =
    let start = c.args.start.now in
    let same = c.from-2.ensures ∙ c.in_ok-from_slice-2.ensures.items ∙ c.as_slice-2.ensures in
    subst (IsTupleOf start start.table) (sym same) (run_from_tuple start c.args.self.now c.requires.start c.requires.run)

pub returns-clause-run : goal.returns-clause-run
returns-clause-run c =
    let start = c.args.start.now in
    let run = c.args.self.now in
    let longer : Run = record { moves = c.push.new.self; tuple = c.take_step.new.self.tuple; covered = c.take_step.new.self.covered } in
    let tuple = c.from-2.ensures ∙ c.in_ok-from_slice-2.ensures.items ∙ c.as_slice-2.ensures in
    let moves = c.take_step.ensures.moves ∙ c.from.ensures ∙ c.in_ok-from_slice.ensures.items ∙ c.as_slice.ensures in
    run_from_push start run longer c.args.a_move c.requires.run c.requires.applies
    (c.in_ok-push.ensures.ok ∙ ap (λ (ms : List Move). ms ++ c.args.a_move ∷ []) moves)
    (c.take_step.ensures.stage ∙ ap (λ (t : List ℕ). after (basis_of start) (stage_of t run.covered) c.args.a_move) tuple)
