use Rattle.std.proofs.Common.{◌≡◌, ℕ, ◌+◌, Bool, ◌∷◌, ◌++◌, [], List, length, sym, ap, ◌∙◌, subst, arith}
use Rattle.std.specs.Prelude.{All}
use Rattle.std.proofs.lemmas.List.Elements.{All-head}
use Rattle.line_grammar.specs.Spelling.{file_text}
use Rattle.rule_model.specs.declared.dep.Dep.{Dep}
use Rattle.rule_cover.specs.CoverText.{AreFateTexts, last_parts}
use Rattle.rule_cover.specs.Fates.{left}
use Rattle.rule_cover.specs.Pieces.{IsPiece}
use Rattle.rule_cover.specs.Rounds.{Halves}
use Rattle.rule_cover.proofs.Turns.{HasTold, all_others, next_round, number_within, right_long, told_all, told_answer, told_more, told_none, told_some}
use Rattle.rule_cover.proofs.text.fates_text.Goals as goal

pub loop-number-init : goal.loop-number-init
loop-number-init c =
    let schema = c.args.schema.now in
    let fates = c.args.fates.now in
    subst (λ (round : Halves). HasTold schema round.after fates 0 round c.new-out.result.items) (sym c.first-round.ensures)
    (subst (λ (bytes : List ℕ). HasTold schema c.args.pieces.deps fates 0 (record { before = []; after = c.args.pieces.deps }) bytes) (sym c.new-out.ensures.items)
    (told_none schema c.args.pieces.deps fates c.requires.right c.requires.pieces))

pub ask-asked-requires : goal.ask-asked-requires
ask-asked-requires c =
    told_some c.args.schema.now c.first-round.result.after c.args.fates.now c.loop-number.number-index c.loop-number.round c.loop-number.out.items c.loop-number-item.result c.loop-number-test.true c.loop-number.invariant

pub push_fate-requires-clause-others : goal.push_fate-requires-clause-others
push_fate-requires-clause-others c =
    let told = subst (λ (round : Halves). HasTold c.args.schema.now c.first-round.result.after c.args.fates.now c.loop-number.number-index round c.loop-number.out.items) c.ask-asked.ensures c.loop-number.invariant in
    all_others c.args.schema.now c.ask-asked.result told.before told.after

pub push_fate-requires-clause-piece : goal.push_fate-requires-clause-piece
push_fate-requires-clause-piece c =
    let told = subst (λ (round : Halves). HasTold c.args.schema.now c.first-round.result.after c.args.fates.now c.loop-number.number-index round c.loop-number.out.items) c.ask-asked.ensures c.loop-number.invariant in
    All-head (IsPiece c.args.schema.now) c.ask-asked.result.piece c.ask-asked.result.after told.after

pub push_fate-requires-clause-right : goal.push_fate-requires-clause-right
push_fate-requires-clause-right c =
    let told = subst (λ (round : Halves). HasTold c.args.schema.now c.first-round.result.after c.args.fates.now c.loop-number.number-index round c.loop-number.out.items) c.ask-asked.ensures c.loop-number.invariant in
    told_answer c.args.schema.now c.first-round.result.after c.args.fates.now c.loop-number.number-index c.ask-asked.result c.loop-number.out.items c.loop-number-item.result c.loop-number-test.true c.loop-number-item.is told

pub push_fate-requires-clause-row : goal.push_fate-requires-clause-row
push_fate-requires-clause-row c = number_within c.args.fates.now c.loop-number.number-index c.loop-number-item.result c.loop-number-test.true c.loop-number-item.is c.requires.rows

pub loop-number-preserved : goal.loop-number-preserved
loop-number-preserved c =
    let schema = c.args.schema.now in
    let pieces = c.first-round.result.after in
    let fates = c.args.fates.now in
    let index = c.loop-number.number-index in
    let asked = c.ask-asked.result in
    let out = c.loop-number.out.items in
    let item = c.loop-number-item.result in
    let told = subst (λ (round : Halves). HasTold schema pieces fates index round out) c.ask-asked.ensures c.loop-number.invariant in
    let pushed = c.in_ok-push_fate.ensures in
    let more = told_more schema pieces fates index asked out pushed.0 item c.loop-number-test.true c.loop-number-item.is told pushed.1 in
    subst (λ (bytes : List ℕ). HasTold schema pieces fates (index + 1) c.in_ok-round.round bytes) (sym pushed.2)
    (subst (λ (round : Halves). HasTold schema pieces fates (index + 1) round (out ++ pushed.0)) (sym (c.in_ok-round.ensures ∙ ap (λ (b : Bool). next_round asked b) c.stays.ensures)) more)

pub returns : goal.returns
returns c =
    let schema = c.args.schema.now in
    let fates = c.args.fates.now in
    let deps = c.args.pieces.deps in
    let out = c.loop-number.out.items in
    let pieces-are : c.first-round.result.after ≡ deps = ap (λ (round : Halves). round.after) c.first-round.ensures in
    let all = told_all schema c.first-round.result.after fates c.loop-number.number-index c.loop-number.round out (omega (arith, c.loop-number-test.false)) c.loop-number.invariant in
    let stay-is : c.count.result ≡ length (left deps fates) = c.count.ensures ∙ all.1 ∙ ap (λ (ds : List Dep). length (left ds fates)) pieces-are in
    let all-is : length fates ≡ length deps = sym (right_long schema c.requires.right.0 [] deps fates c.requires.right.1) in
    let last =
    c.in_ok-push_last.ensures
    ∙ ap (λ (n : ℕ). out ++ file_text (last_parts n (length fates) ∷ [])) stay-is
    ∙ ap (λ (n : ℕ). out ++ file_text (last_parts (length (left deps fates)) n ∷ [])) all-is in
    (out, subst (λ (ds : List Dep). AreFateTexts schema [] ds fates out) pieces-are all.2, last)
