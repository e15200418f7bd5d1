-- Runs from a start, one move after another.
use Rattle.std.proofs.Common.{◌≡◌, ℕ, Bool, false, List, [], ◌∷◌, ◌++◌, Option, Some, None, Result, Ok, Err, refl, sym, ap, ◌∙◌, subst, append_assoc}
use Rattle.std.specs.Prelude.{◌≢◌, IfSome, IfOk}
use Rattle.std.proofs.lemmas.Option.{none-some}
use Rattle.rule_model.specs.Books.{IsBook}
use Rattle.rule_runs.specs.declared.moves.Move.{Move}
use Rattle.rule_runs.specs.declared.moves.Start.{Start}
use Rattle.rule_runs.specs.declared.runs.Run.{Run}
use Rattle.rule_runs.specs.Marks.{marked}
use Rattle.rule_runs.specs.Runs.{IsRun, end_of, IsLast}
use Rattle.rule_runs.specs.Moves.{Stage, Basis, Applies, after, target_of, IsClosedBut, IsRunOf, end_after}
use Rattle.rule_runs.specs.Starts.{basis_of, first_stage, stage_at, width_of, IsStart, IsTupleOf, IsRunFrom, GoesOn}
use Rattle.rule_runs.proofs.Moving.{parts, target-some, attr_of, attr-is, are_moves}
use Rattle.rule_runs.proofs.StartFacts.{after_tuple, writes_within}

module _ {Stage Move : Type 0} (Applies : Stage → Move → Type 0) (after : Stage → Move → Stage) where
  pub end-push : (s : Stage) (ms : List Move) (m : Move) → end_of Applies after s (ms ++ m ∷ []) ≡ after (end_of Applies after s ms) m
  end-push s [] m = refl
  end-push s (n ∷ ms) m = end-push (after s n) ms m

  pub run-push : (s : Stage) (ms : List Move) (m : Move) → IsRun Applies after s ms → Applies (end_of Applies after s ms) m → IsRun Applies after s (ms ++ m ∷ [])
  run-push s [] m run applies = (applies, tt)
  run-push s (n ∷ ms) m (first, run) applies = (first, run-push (after s n) ms m run applies)

  -- the parts of a run that goes on
  pub end-append : (s : Stage) (ms ns : List Move) → end_of Applies after s (ms ++ ns) ≡ end_of Applies after (end_of Applies after s ms) ns
  end-append s [] ns = refl
  end-append s (m ∷ ms) ns = end-append (after s m) ms ns

  pub run-rest : (s : Stage) (ms ns : List Move) → IsRun Applies after s (ms ++ ns) → IsRun Applies after (end_of Applies after s ms) ns
  run-rest s [] ns run = run
  run-rest s (m ∷ ms) ns (first, run) = run-rest (after s m) ms ns run

  pub run-front : (s : Stage) (ms ns : List Move) → IsRun Applies after s (ms ++ ns) → IsRun Applies after s ms
  run-front s [] ns run = tt
  run-front s (m ∷ ms) ns (first, run) = (first, run-front (after s m) ms ns run)

-- where nothing is left out, nothing applies
pub closed_none : {V : Type 0} (basis : Basis V) (stage : Stage V) → IsClosedBut basis None stage → IsLast (Applies basis) (after basis) stage
closed_none basis stage closed move applies =
    let (c, is, corrects) = parts basis stage move applies in
    none-some (attr_of basis move) (sym (closed move applies) ∙ target-some basis move c is)

-- each run ends in a tuple of the table
pub run_tuple : (start : Start) (stage : Stage ℕ) (moves : List Move) → IsStart start → IsTupleOf start start.table stage.tuple → IsRunOf (basis_of start) stage moves → IsTupleOf start start.table (end_after (basis_of start) stage moves).tuple
run_tuple start stage [] is_start is_tuple run = is_tuple
run_tuple start stage (m ∷ moves) is_start is_tuple (applies, run) =
    run_tuple start (after (basis_of start) stage m) moves is_start (after_tuple start stage m is_start is_tuple applies) run

pub run_from_tuple : (start : Start) (run : Run) → IsStart start → IsRunFrom start run → IsTupleOf start start.table run.tuple
run_from_tuple start run is_start from =
    subst (λ (s : Stage ℕ). IsTupleOf start start.table s.tuple) from.end (run_tuple start (first_stage start) run.moves is_start is_start.tuple from.each)

-- the run without a move
pub run_from_begin : (start : Start) (run : Run) → run.moves ≡ [] → stage_at run ≡ first_stage start → IsRunFrom start run
run_from_begin start run moves stage = record {
  each = subst (IsRunOf (basis_of start) (first_stage start)) (sym moves) tt;
  end = ap (end_after (basis_of start) (first_stage start)) moves ∙ sym stage;
}

-- a run with one more move
pub run_from_push : (start : Start) (run longer : Run) (move : Move) → IsRunFrom start run → Applies (basis_of start) (stage_at run) move → longer.moves ≡ run.moves ++ move ∷ [] → stage_at longer ≡ after (basis_of start) (stage_at run) move → IsRunFrom start longer
run_from_push start run longer move from applies moves stage =
    let here = subst (λ s. Applies (basis_of start) s move) (sym from.end) applies in
    record {
      each = subst (IsRunOf (basis_of start) (first_stage start)) (sym moves) (run-push (Applies (basis_of start)) (after (basis_of start)) (first_stage start) run.moves move from.each here);
      end = ap (end_after (basis_of start) (first_stage start)) moves ∙ end-push (Applies (basis_of start)) (after (basis_of start)) (first_stage start) run.moves move ∙ ap (λ s. after (basis_of start) s move) from.end ∙ sym stage;
    }

pub goes_on-push : (run longer longest : Run) (move : Move) → GoesOn run longer → longest.moves ≡ longer.moves ++ move ∷ [] → GoesOn run longest
goes_on-push run longer longest move (more, is) moves = (more ++ move ∷ [], moves ∙ ap (λ ms. ms ++ move ∷ []) is ∙ append_assoc run.moves more (move ∷ []))

-- a move with another target leaves an attribute as it was
pub left-push : (start : Start) (stage next : Stage ℕ) (move : Move) (left_out : Option ℕ) → IsBook start.rules.now → IsStart start → IsTupleOf start start.table stage.tuple → Applies (basis_of start) stage move → target_of (basis_of start) move ≢ left_out → next ≡ after (basis_of start) stage move → IfSome left_out (λ attr. next.validated attr ≡ stage.validated attr)
left-push start stage next move None book is_start is_tuple applies other is = tt
left-push start stage next move (Some attr) book is_start is_tuple applies other is =
    let basis = basis_of start in
    let (c, there, corrects) = parts basis stage move applies in
    let target = target-some basis move c there in
    let moves = are_moves basis (width_of start start.table) (writes_within start book is_start) in
    ap (λ (s : Stage ℕ). s.validated attr) is ∙ moves.has_other stage move attr is_tuple.width applies (λ e. other (target ∙ ap Some (sym e)))

-- a move that applies writes what isn't marked
pub unmarked : (start : Start) (run : Run) (move : Move) → Applies (basis_of start) (stage_at run) move → marked run.covered (attr_of (basis_of start) move) ≡ false
unmarked start run move applies =
    let (c, there, (ready, same)) = parts (basis_of start) (stage_at run) move applies in
    ap (marked run.covered) (attr-is (basis_of start) move c there) ∙ ready.target

-- sets that agree on what is left out
pub left-refl : (left_out : Option ℕ) (f : ℕ → Bool) → IfSome left_out (λ a. f a ≡ f a)
left-refl None f = tt
left-refl (Some a) f = refl

pub left-trans : (left_out : Option ℕ) (f g h : ℕ → Bool) → IfSome left_out (λ a. f a ≡ g a) → IfSome left_out (λ a. g a ≡ h a) → IfSome left_out (λ a. f a ≡ h a)
left-trans None f g h one other = tt
left-trans (Some a) f g h one other = one ∙ other

pub left-ok : {E : Type 0} (r : Result Run E) (left_out : Option ℕ) (f g : ℕ → Bool) → ((a : ℕ) → f a ≡ g a) → IfOk r (λ run. IfSome left_out (λ a. marked run.covered a ≡ f a)) → IfOk r (λ run. IfSome left_out (λ a. marked run.covered a ≡ g a))
left-ok (Ok run) None f g same left = tt
left-ok (Ok run) (Some a) f g same left = left ∙ same a
left-ok (Err e) left_out f g same left = tt
