use Rattle.std.proofs.Common.{ℕ, ◌<◌, List, ◌≡◌, Some, length, get_or, refl, sym, ◌∙◌, subst}
use Rattle.std.specs.Prelude.{slice_get}
use Rattle.std.proofs.lemmas.Bool.{ltb-true, lt-ltb, false≢true}
use Rattle.std.proofs.lemmas.Option.{slice_get_read}
use Rattle.rule_model.specs.declared.edit_rule.EditRule.{EditRule}
use Rattle.rule_model.specs.Books.{book_edits}
use Rattle.rule_runs.specs.Starts.{stage_of}
use Rattle.rule_runs.proofs.StartFacts.{rule_of, applies_by_rule, move_within}
use Rattle.rule_runs.proofs.lookup.ready_rule.Goals as goal
use Rattle.rule_runs.proofs.lookup.ready_rule.Goals.{in_default-via-in-Some+else-is_ready, in_default-via-in_default}

-- the rule of a number that is in range
there : (xs ys : List EditRule) (number : ℕ) (rule : EditRule) → xs ≡ ys → number < length xs → rule ≡ get_or xs number rule → slice_get ys number ≡ Some rule
there xs ys number rule same within is =
    subst (λ (zs : List EditRule). slice_get zs number ≡ Some rule) same (slice_get_read xs (length xs) number rule refl within is)

pub is_ready-requires-clause-rule : goal.is_ready-requires-clause-rule
is_ready-requires-clause-rule c =
    let within = ltb-true c.args.number (length c.as_slice.result.now) (sym c.in-Some.ensures.lookup.0) in
    let is = there c.as_slice.result.now (book_edits c.args.start.now.rules.now) c.args.number c.in-Some.rule.now (c.as_slice.ensures ∙ c.edits.ensures.edits) within c.in-Some.ensures.lookup.1 in
    rule_of c.args.start.now c.args.number c.in-Some.rule.now c.edits.ensures.valid c.requires.start is

pub returns-in-Some : goal.returns-in-Some
returns-in-Some c =
    let within = ltb-true c.args.number (length c.as_slice.result.now) (sym c.in-Some.ensures.lookup.0) in
    let is = there c.as_slice.result.now (book_edits c.args.start.now.rules.now) c.args.number c.in-Some.rule.now (c.as_slice.ensures ∙ c.edits.ensures.edits) within c.in-Some.ensures.lookup.1 in
    record {
      there = is;
      rule_of = rule_of c.args.start.now c.args.number c.in-Some.rule.now c.edits.ensures.valid c.requires.start is;
      ready = c.is_ready.ensures.0 c.if-is_ready.true;
    }

pub returns-in_default : goal.returns-in_default
returns-in_default c row applies =
    let start = c.args.start.now in
    let stage = stage_of c.args.tuple.now c.args.z in
    let all = c.as_slice.ensures ∙ c.edits.ensures.edits in
    let known = move_within start stage (record { rule = c.args.number; master = row }) applies in
    let in_range = subst (λ (xs : List EditRule). c.args.number < length xs) (sym all) known in
    elim c.in_default.branch [
      | in_default-via-in-Some+else-is_ready w ↦
          let is = there c.as_slice.result.now (book_edits start.rules.now) c.args.number w.in-Some.rule.now all in_range w.in-Some.ensures.lookup.1 in
          let ready = ((applies_by_rule start stage c.args.number w.in-Some.rule.now row is).0 applies).0 in
          false≢true (sym w.if-is_ready.false ∙ w.is_ready.ensures.1 ready)
      | in_default-via-in_default w ↦
          false≢true (w.in_default.ensures.lookup.0 ∙ lt-ltb c.args.number (length c.as_slice.result.now) in_range)
    ]
