use Rattle.std.proofs.Common.{◌≡◌, ℕ, ◌+◌, List, [], ◌∷◌, ◌++◌, get_or, take, ap, sym, subst, ◌∙◌}
use Rattle.std.proofs.lemmas.List.{take_more}
use Rattle.rule_runs.specs.declared.moves.Move.{Move}
use Rattle.rule_runs.specs.Moves.{Stage, Applies, after, IsRunOf, end_after}
use Rattle.rule_runs.specs.Starts.{IsTupleOf, basis_of, first_stage, stage_at, stage_of}
use Rattle.rule_runs.proofs.StartFacts.{after_tuple}
use Rattle.rule_runs.proofs.Running.{end-push, run-push}
use Rattle.rule_runs.proofs.runs.run_ok.Goals as goal

pub loop-at-preserved : goal.loop-at-preserved
loop-at-preserved c =
    let start = c.args.start.now in
    let basis = basis_of start in
    let moves = c.args.moves.now in
    let at = c.loop-at.at in
    let next : Move = get_or moves at (record { rule = 0; master = 0 }) in
    let room = c.loop-at.room in
    let inv = c.loop-at.invariant in
    let longer : take (at + 1) moves ≡ take at moves ++ next ∷ [] = take_more moves at (record { rule = 0; master = 0 }) c.loop-at-test.true in
    let told = c.applies.ensures.0 c.if-not-applies.false in
    let applies : Applies basis (stage_at room) next = subst (λ (t : List ℕ). Applies basis (stage_of t room.covered) next) c.as_slice.ensures told in
    let here = subst (λ (s : Stage ℕ). Applies basis s next) inv.end applies in
    record {
      run = subst (IsRunOf basis (first_stage start)) (sym longer) (run-push (Applies basis) (after basis) (first_stage start) (take at moves) next inv.run here);
      end = c.take_step.ensures.stage ∙ ap (λ (s : Stage ℕ). after basis s next) inv.end
          ∙ sym (ap (end_after basis (first_stage start)) longer ∙ end-push (Applies basis) (after basis) (first_stage start) (take at moves) next);
      tuple = subst (λ (s : Stage ℕ). IsTupleOf start start.table s.tuple) (sym c.take_step.ensures.stage) (after_tuple start (stage_at room) next c.requires.start inv.tuple applies);
      moves = c.take_step.ensures.moves ∙ inv.moves;
    }
