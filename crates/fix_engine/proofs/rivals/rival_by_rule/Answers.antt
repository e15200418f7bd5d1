use Rattle.std.proofs.Common.{◌≡◌, ℕ, true, List, [], ◌∷◌, ◌++◌, Option, Some, None, get_or, refl, sym, subst, ◌∙◌, eqb}
use Rattle.std.specs.Prelude.{IfSome, is_some}
use Rattle.std.specs.Option.{option_eq}
use Rattle.std.proofs.lemmas.Bool.{eqb-true, false≢true}
use Rattle.std.proofs.lemmas.List.{take_all}
use Rattle.std.proofs.lemmas.List.Elements.{All-contains, All-more, Contains-get_or}
use Rattle.std.specs.List.{All}
use Rattle.rule_runs.specs.declared.moves.Move.{Move}
use Rattle.rule_runs.specs.Moves.{Applies, value_written}
use Rattle.rule_runs.specs.Starts.{IsTupleOf, basis_of, stage_of}
use Rattle.rule_runs.proofs.Running.{run_from_tuple}
use Rattle.fix_engine.specs.Rivals.{AgreesBy}
use Rattle.fix_engine.proofs.AlikeMoves.{agrees_alike, all_alike}
use Rattle.fix_engine.proofs.FullRuns.{leads_on}
use Rattle.fix_engine.proofs.rivals.rival_by_rule.Goals as goal

pub rows_to_try-row-items-requires-clause-tuple : goal.rows_to_try-row-items-requires-clause-tuple
rows_to_try-row-items-requires-clause-tuple c =
    let start = c.args.start.now in
    subst (IsTupleOf start start.table) (sym c.as_slice.ensures) (run_from_tuple start c.args.closure.now c.requires.start c.requires.closure)

-- a value that agreed, and so does what else writes it
agreed_on : (value agreed : Option ℕ) (P : ℕ → Type 0) (Q : Type 0) → option_eq eqb value agreed ≡ true → is_some value ≡ true → IfSome agreed P → ((v : ℕ) → value ≡ Some v → P v → Q) → Q
agreed_on None agreed P Q same some alike then = absurd (false≢true some)
agreed_on (Some v) None P Q same some alike then = absurd (false≢true same)
agreed_on (Some v) (Some w) P Q same some alike then = then v refl (subst P (sym (eqb-true v w same)) alike)

pub loop-row-preserved-then-eq : goal.loop-row-preserved-then-eq
loop-row-preserved-then-eq c =
    let start = c.args.start.now in
    let closure = c.args.closure.now in
    let tuple = c.args.first.now.tuple in
    let rows = c.rows_to_try-row-items.result.now in
    let row = get_or rows c.loop-row.row-index 0 in
    let inv = c.loop-row.invariant in
    let Agrees = λ (r : ℕ). AgreesBy start closure tuple (record { rule = c.args.rule; master = r }) in
    let Writing = λ (value : ℕ). (r : ℕ) → value_written (basis_of start) (record { rule = c.args.rule; master = r }) ≡ Some value → AgreesBy start closure tuple (record { rule = c.args.rule; master = r }) in
    let agrees : AgreesBy start closure tuple (record { rule = c.args.rule; master = row }) =
    agreed_on c.written-value.result c.loop-row.agreed Writing (AgreesBy start closure tuple (record { rule = c.args.rule; master = row }))
    (sym c.eq.ensures ∙ c.if-eq.true) (sym c.is_some.ensures ∙ c.if-is_some.true) inv.alike (λ v is alike. alike row (sym c.written-value.ensures ∙ is)) in
    record { rows = All-more Agrees rows c.loop-row.row-index 0 c.loop-row-test.true inv.rows agrees; alike = inv.alike }

pub loop-row-preserved : goal.loop-row-preserved
loop-row-preserved c =
    let start = c.args.start.now in
    let closure = c.args.closure.now in
    let tuple = c.args.first.now.tuple in
    let rows = c.rows_to_try-row-items.result.now in
    let row = get_or rows c.loop-row.row-index 0 in
    let move : Move = record { rule = c.args.rule; master = row } in
    let among = Contains-get_or rows c.loop-row.row-index 0 c.loop-row-test.true in
    let applies = subst (λ (t : List ℕ). Applies (basis_of start) (stage_of t closure.covered) move) c.as_slice.ensures (c.rows_to_try-row-items.ensures.only row among) in
    let leads = leads_on start (closure.moves ++ move ∷ []) tuple c.in_ok-with_move.field-0 c.in_ok-run.run' c.in_ok-with_move.ensures.moves c.in_ok-run.ensures.goes_on c.in_ok-run.ensures.run c.in_default.ensures.none in
    record {
      rows = All-more (λ r. AgreesBy start closure tuple (record { rule = c.args.rule; master = r })) rows c.loop-row.row-index 0 c.loop-row-test.true c.loop-row.invariant.rows (λ _. leads);
      alike = all_alike start closure tuple move c.requires.closure applies leads c.written-value.result c.written-value.ensures;
    }

-- a row that wasn't tried writes what one that was tried writes
pub returns-clause-none : goal.returns-clause-none
returns-clause-none c row applies =
    let start = c.args.start.now in
    let closure = c.args.closure.now in
    let tuple = c.args.first.now.tuple in
    let rows = c.rows_to_try-row-items.result.now in
    let Agrees = λ (r : ℕ). AgreesBy start closure tuple (record { rule = c.args.rule; master = r }) in
    let here = subst (λ (t : List ℕ). Applies (basis_of start) (stage_of t closure.covered) (record { rule = c.args.rule; master = row })) (sym c.as_slice.ensures) applies in
    let (other, among, same) = c.rows_to_try-row-items.ensures.each row here in
    let all = subst (All Agrees) (take_all c.loop-row.row-index rows c.loop-row-test.false) c.loop-row.invariant.rows in
    let tried = subst (λ (t : List ℕ). Applies (basis_of start) (stage_of t closure.covered) (record { rule = c.args.rule; master = other })) c.as_slice.ensures (c.rows_to_try-row-items.ensures.only other among) in
    agrees_alike start closure tuple (record { rule = c.args.rule; master = other }) (record { rule = c.args.rule; master = row }) c.requires.closure refl tried same
    (All-contains Agrees rows other all among tried) applies
