use Rattle.std.proofs.Common.{◌≡◌, ◌+◌, Bool, ◌++◌, [], List, length, sym, ap, ◌∙◌, subst, arith}
use Rattle.std.specs.Prelude.{All}
use Rattle.std.proofs.lemmas.List.{get_or_default}
use Rattle.std.proofs.lemmas.List.Elements.{All-head, All-weaker}
use Rattle.rule_model.specs.Rules.{IsValidDep}
use Rattle.rule_model.specs.declared.dep.Dep.{Dep}
use Rattle.cfd_implication.specs.Answers.{IsImplicationAnswer}
use Rattle.cfd_implication.specs.declared.answer.Implication.{Implication}
use Rattle.rule_cover.specs.declared.fates.Fate.{Fate}
use Rattle.rule_cover.specs.declared.fates.Piece.{Piece}
use Rattle.rule_cover.specs.Fates.{AreRight}
use Rattle.rule_cover.specs.Pieces.{IsPiece}
use Rattle.rule_cover.specs.Rounds.{Halves}
use Rattle.rule_cover.proofs.Turns.{HasFound, all_others, found_all, found_none, found_pushed, next_round}
use Rattle.rule_cover.proofs.finder.fates_of.Goals as goal

pub loop-number-init : goal.loop-number-init
loop-number-init c =
    let schema = c.args.schema.now in
    let numbers = c.args.numbers.now in
    subst (λ (round : Halves). HasFound schema c.args.budget round.after numbers 0 round c.new-fates.result) (sym c.first-round.ensures)
    (subst (λ (fates : List (Piece × Fate)). HasFound schema c.args.budget c.args.pieces numbers 0 (record { before = []; after = c.args.pieces }) fates) (sym c.new-fates.ensures)
    (found_none schema c.args.budget c.args.pieces numbers c.requires.numbers c.requires.pieces))

pub ask-asked-requires : goal.ask-asked-requires
ask-asked-requires c = let others = c.loop-number.invariant.others in omega (arith, others, c.loop-number-test.true)

pub implies_from-requires-clause-deps : goal.implies_from-requires-clause-deps
implies_from-requires-clause-deps c =
    let schema = c.args.schema.now in
    let asked = c.ask-asked.result in
    let found = subst (λ (round : Halves). HasFound schema c.args.budget c.first-round.result.after c.args.numbers.now c.loop-number.number-index round c.loop-number.fates) c.ask-asked.ensures c.loop-number.invariant in
    subst (λ (ds : List Dep). All (IsValidDep schema) ds) (sym c.others.ensures)
    (All-weaker (IsPiece schema) (IsValidDep schema) (λ piece is. is.valid) (asked.before ++ asked.after) (all_others schema asked found.before found.after))

pub implies_from-requires-clause-dep : goal.implies_from-requires-clause-dep
implies_from-requires-clause-dep c =
    let schema = c.args.schema.now in
    let asked = c.ask-asked.result in
    let found = subst (λ (round : Halves). HasFound schema c.args.budget c.first-round.result.after c.args.numbers.now c.loop-number.number-index round c.loop-number.fates) c.ask-asked.ensures c.loop-number.invariant in
    subst (λ (d : Dep). IsValidDep schema d) (sym c.piece.ensures) (All-head (IsPiece schema) asked.piece asked.after found.after).valid

pub implies_from-requires-clause-row : goal.implies_from-requires-clause-row
implies_from-requires-clause-row c =
    let schema = c.args.schema.now in
    let asked = c.ask-asked.result in
    let found = subst (λ (round : Halves). HasFound schema c.args.budget c.first-round.result.after c.args.numbers.now c.loop-number.number-index round c.loop-number.fates) c.ask-asked.ensures c.loop-number.invariant in
    subst (λ (d : Dep). length d.rule.rows ≡ 1) (sym c.piece.ensures) (All-head (IsPiece schema) asked.piece asked.after found.after).row

pub loop-number-preserved : goal.loop-number-preserved
loop-number-preserved c =
    let schema = c.args.schema.now in
    let budget = c.args.budget in
    let pieces = c.first-round.result.after in
    let numbers = c.args.numbers.now in
    let index = c.loop-number.number-index in
    let asked = c.ask-asked.result in
    let fate = c.fate_of-fate.result in
    let found = subst (λ (round : Halves). HasFound schema budget pieces numbers index round c.loop-number.fates) c.ask-asked.ensures c.loop-number.invariant in
    let of_piece = subst (λ (d : Dep). IsImplicationAnswer schema c.others.result.now d budget c.in_ok-answer.answer) c.piece.ensures c.in_ok-answer.ensures.answer in
    let of_others = subst (λ (ds : List Dep). IsImplicationAnswer schema ds asked.piece budget c.in_ok-answer.answer) c.others.ensures of_piece in
    let answer = subst (λ (a : Implication). IsImplicationAnswer schema (asked.before ++ asked.after) asked.piece budget a) (sym c.fate_of-fate.ensures) of_others in
    let lt = c.loop-number-test.true in
    let more = found_pushed schema budget pieces numbers index asked c.loop-number.fates c.push.new.self _ fate lt c.in_ok-push.ensures.ok (get_or_default numbers index _ _ lt) found answer in
    subst (λ (round : Halves). HasFound schema budget pieces numbers (index + 1) round c.push.new.self) (sym (c.in_ok-round.ensures ∙ ap (λ (b : Bool). next_round asked b) c.stays.ensures)) more

pub returns-clause-numbers : goal.returns-clause-numbers
returns-clause-numbers c =
    (found_all c.args.schema.now c.args.budget c.first-round.result.after c.args.numbers.now c.loop-number.number-index c.loop-number.round c.loop-number.fates (omega (arith, c.loop-number-test.false)) c.loop-number.invariant).0

pub returns-clause-right : goal.returns-clause-right
returns-clause-right c =
    subst (λ (ds : List Dep). AreRight c.args.schema.now c.args.budget [] ds c.loop-number.fates) (ap (λ (round : Halves). round.after) c.first-round.ensures)
    (found_all c.args.schema.now c.args.budget c.first-round.result.after c.args.numbers.now c.loop-number.number-index c.loop-number.round c.loop-number.fates (omega (arith, c.loop-number-test.false)) c.loop-number.invariant).1
