-- Why it is enough to leave out one attribute at a time: if each closure without an attribute leads to the tuple of one
-- full run, and so does each move that still applies after it, then all maximal runs end as that run does.
use Rattle.std.proofs.Common.{◌≡◌, ℕ, ◌<◌, true, false, List, [], ◌∷◌, ◌++◌, sym, ap, ◌∙◌, subst}
use Rattle.std.specs.Prelude.{slice_get}
use Rattle.std.proofs.lemmas.Option.{same_Some}
use Rattle.rule_model.specs.Books.{IsBook}
use Rattle.rule_runs.specs.declared.moves.Move.{Move}
use Rattle.rule_runs.specs.declared.moves.Start.{Start}
use Rattle.rule_runs.specs.declared.runs.Run.{Run}
use Rattle.rule_runs.specs.Marks.{marked}
use Rattle.rule_runs.specs.Moves.{Basis, Stage, Applies, IsMaximalRun, after, end_after}
use Rattle.rule_runs.specs.Starts.{IsStart, basis_of, first_stage, stage_of, width_of}
use Rattle.rule_runs.proofs.Agreeing as agreeing
use Rattle.rule_runs.proofs.Agreeing.{Closes}
use Rattle.rule_runs.proofs.Extending as extending
use Rattle.rule_runs.proofs.Extending.{AreMoves}
use Rattle.rule_runs.proofs.Lists.{same_elements}
use Rattle.rule_runs.proofs.Moving.{HasWidth, are_moves, attr-is, attr_of, has, parts, same_stage, target-some, value_at, value_written}
use Rattle.rule_runs.proofs.Running.{end-append, end-push, run-front, run-rest}
use Rattle.rule_runs.proofs.StartFacts.{writes_within}
use Rattle.fix_engine.specs.Fixes.{TuplesTellValidated}
use Rattle.fix_engine.specs.Questions.{asked_at}
use Rattle.fix_engine.specs.Rivals.{AgreesWithout, IsFullRunTo, LeadsTo}

module _ (start : Start) (book : IsBook start.rules.now) (is_start : IsStart start) where
  abbrev basis : Basis ℕ
  basis = basis_of start

  abbrev first : Stage ℕ
  first = first_stage start

  abbrev width : ℕ
  width = width_of start start.table

  moves_are : AreMoves (Applies basis) (after basis) (has basis) (value_at basis) (attr_of basis) (value_written basis) (HasWidth basis width)
  moves_are = are_moves basis width (writes_within start book is_start)

  -- a move that applies validates an attribute of the table
  within : (s : Stage ℕ) (m : Move) → HasWidth basis width s → Applies basis s m → attr_of basis m < width
  within s m good applies =
      let (c, there, (ready, same)) = parts basis s m applies in
      subst (λ a. a < width) (sym (attr-is basis m c there)) ((writes_within start book is_start).target m c.0 c.1 there ready.table)

  -- what is validated after some moves has its value wherever they lead
  leads-value : (moves : List Move) (tuple : List ℕ) (a : ℕ) → LeadsTo start moves tuple → (end_after basis first moves).validated a ≡ true → slice_get tuple a ≡ slice_get (end_after basis first moves).tuple a
  leads-value moves tuple a (more, run, is) validated =
      let s = end_after basis first moves in
      let front = run-front (Applies basis) (after basis) first moves more run in
      let rest = run-rest (Applies basis) (after basis) first moves more run in
      let good = extending.run-good (Applies basis) (after basis) (has basis) (value_at basis) (attr_of basis) (value_written basis) (HasWidth basis width) moves_are first moves is_start.tuple.width front in
      let (_, same) = extending.run-extends (Applies basis) (after basis) (has basis) (value_at basis) (attr_of basis) (value_written basis) (HasWidth basis width) moves_are s more good rest a validated in
      ap (λ t. slice_get t a) (sym is) ∙ ap (λ (t : Stage ℕ). slice_get t.tuple a) (end-append (Applies basis) (after basis) first moves more) ∙ same

  -- a closure that leads to the full run's tuple agrees with it
  closes : (full : Run) (attr : ℕ) (agrees : AgreesWithout start full.tuple attr) → IsFullRunTo (asked_at start) full → Closes (Applies basis) (after basis) (has basis) (value_at basis) (attr_of basis) (value_written basis) first (end_after basis first full.moves) attr agrees.closure.moves
  closes full attr agrees to =
      let closure = agrees.closure in
      let end = agrees.run.end in
      let at_end = λ (m : Move). subst (λ s. Applies basis s m) end in
      let same = λ (a : ℕ). ap (λ (s : Stage ℕ). slice_get s.tuple a) to.end in
      record {
        run = agrees.run.each;
        out = ap (λ (s : Stage ℕ). s.validated attr) end ∙ agrees.out;
        others = λ m applies.
            let (c, there, corrects) = parts basis (end_after basis first closure.moves) m applies in
            same_Some (attr_of basis m) attr (sym (target-some basis m c there) ∙ agrees.closed m (at_end m applies));
        agrees = λ a validated. sym (leads-value closure.moves full.tuple a agrees.leads validated) ∙ sym (same a);
        writes = λ m applies.
            let s = end_after basis first closure.moves in
            let good = extending.run-good (Applies basis) (after basis) (has basis) (value_at basis) (attr_of basis) (value_written basis) (HasWidth basis width) moves_are first closure.moves is_start.tuple.width agrees.run.each in
            let after_m = end-push (Applies basis) (after basis) first closure.moves m in
            let target = attr_of basis m in
            let validated = ap (λ (t : Stage ℕ). t.validated target) after_m ∙ moves_are.has_target s m good applies in
            sym (moves_are.value_target s m good applies)
            ∙ sym (ap (λ (t : Stage ℕ). slice_get t.tuple target) after_m)
            ∙ sym (leads-value (closure.moves ++ m ∷ []) full.tuple target (agrees.each m (at_end m applies)) validated)
            ∙ sym (same target);
      }

  -- so all maximal runs end as the full run does
  pub all_end : (full : Run) → IsFullRunTo (asked_at start) full → ((attr : ℕ) → attr < width → marked start.vouched attr ≡ false → AgreesWithout start full.tuple attr) → (moves : List Move) → IsMaximalRun basis first moves → end_after basis first moves ≡ stage_of full.tuple full.covered
  all_end full to without moves maximal =
      let last = end_after basis first full.moves in
      let alike = agreeing.ends-alike (Applies basis) (after basis) (has basis) (value_at basis) (attr_of basis) (value_written basis) (HasWidth basis width) moves_are (λ b. b < width) within first is_start.tuple.width full.moves to.full
      (λ b in_range out. let agrees = without b in_range out in (agrees.closure.moves, closes full b agrees to)) moves maximal in
      let s = end_after basis first moves in
      same_stage s.tuple last.tuple s.validated last.validated (same_elements s.tuple last.tuple (λ a. (alike a).1)) (λ a. (alike a).0) ∙ to.end

  -- maximal runs that end in one tuple have validated the same attributes, whatever is vouched for
  pub tuples_tell : (stage : Stage ℕ) → HasWidth basis width stage → TuplesTellValidated (record { basis = basis; stage = stage; width = width })
  tuples_tell stage good one other full_one full_other same =
      extending.same-validated (Applies basis) (after basis) (has basis) (value_at basis) (attr_of basis) (value_written basis) (HasWidth basis width) moves_are stage one other good full_one full_other (λ a. ap (λ t. slice_get t a) same)
