use Rattle.std.proofs.Common.{[], ◌∷◌, ◌++◌, ℕ, List, ap, sym, subst, ◌∙◌, arith}
use Rattle.std.proofs.lemmas.List.{append-nil}
use Rattle.rule_runs.specs.declared.moves.Move.{Move}
use Rattle.rule_runs.specs.declared.runs.Run.{Run}
use Rattle.rule_runs.specs.Marks.{marked}
use Rattle.rule_runs.specs.Moves.{Stage, Applies}
use Rattle.rule_runs.specs.Starts.{IsTupleOf, basis_of, stage_at, stage_of}
use Rattle.rule_runs.proofs.StartFacts.{after_tuple}
use Rattle.rule_runs.proofs.Running.{run_from_tuple, run_from_push, goes_on-push, left-push, left-refl, left-trans}
use Rattle.rule_runs.proofs.runs.extend.Goals as goal

pub loop-next-init : goal.loop-next-init
loop-next-init c = record {
  run = c.requires.run;
  tuple = run_from_tuple c.args.start.now c.args.run c.requires.start c.requires.run;
  goes_on = ([], sym (append-nil c.args.run.moves));
  left = left-refl c.args.left_out (marked c.args.run.covered);
}

pub loop-next-smaller : goal.loop-next-smaller
loop-next-smaller c = omega (arith, c.take_step.ensures.more, c.take_step.ensures.most)

pub loop-next-preserved : goal.loop-next-preserved
loop-next-preserved c =
    let start = c.args.start.now in
    let basis = basis_of start in
    let next = c.in-Some.next in
    let old = c.loop-next.longer in
    let new : Run = record { moves = c.push.new.self; tuple = c.take_step.new.self.tuple; covered = c.take_step.new.self.covered } in
    let applies : Applies basis (stage_at old) next = subst (λ (t : List ℕ). Applies basis (stage_of t old.covered) next) c.as_slice.ensures c.in-Some.ensures.applies in
    let moves = c.in_ok-push.ensures.ok ∙ ap (λ (ms : List Move). ms ++ next ∷ []) c.take_step.ensures.moves in
    let inv = c.loop-next.invariant in
    record {
      run = run_from_push start old new next inv.run applies moves c.take_step.ensures.stage;
      tuple = subst (λ (s : Stage ℕ). IsTupleOf start start.table s.tuple) (sym c.take_step.ensures.stage) (after_tuple start (stage_at old) next c.requires.start inv.tuple applies);
      goes_on = goes_on-push c.args.run old new next inv.goes_on moves;
      left = left-trans c.args.left_out (marked new.covered) (marked old.covered) (marked c.args.run.covered)
          (left-push start (stage_at old) (stage_at new) next c.args.left_out c.in-Some.ensures.book c.requires.start inv.tuple applies c.in-Some.ensures.allowed c.take_step.ensures.stage) inv.left;
    }
