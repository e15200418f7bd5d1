use Rattle.std.proofs.Common.{ℕ, List, Some, length, get_or, set, refl, sym, ap, ◌∙◌, ◌≡◌, subst}
use Rattle.std.proofs.lemmas.Option.{none-some, slice_get_read, slice_get-get_or, slice_get_within, same_Some}
use Rattle.std.specs.FinMap as finite
use Rattle.row_store.specs.Tuple.{ids_of, ids_behind}
use Rattle.rule_model.specs.declared.edit_rule.EditRule.{EditRule}
use Rattle.rule_model.specs.Books.{book_edits}
use Rattle.rule_runs.specs.Marks.{marked}
use Rattle.rule_runs.specs.Starts.{basis_of, stage_at}
use Rattle.rule_runs.proofs.Moving.{attr-is, parts, step_is}
use Rattle.rule_runs.proofs.Running.{unmarked}
use Rattle.rule_runs.specs.Moves.{correction}
use Rattle.rule_runs.proofs.StartFacts.{move_parts, move_within, correction_from, writes_within}
use Rattle.rule_runs.proofs.runs.Run.take_step.Goals as goal

-- the move's rule and master row
known : (c : goal.After-self-1) → correction (basis_of c.args.start.now) c.args.a_move ≡ Some (c.index-as_slice-a_move.result, ids_of c.in-Some.master.now)
known c =
    let start = c.args.start.now in
    let rule = c.index-as_slice-a_move.result in
    let within = move_within start (stage_at c.args.self.now) c.args.a_move c.requires.applies in
    let there = slice_get_read (book_edits start.rules.now) (length (book_edits start.rules.now)) c.args.a_move.rule rule refl within (subst (λ (xs : List EditRule). rule ≡ get_or xs c.args.a_move.rule rule) (c.as_slice.ensures ∙ c.edits.ensures.edits) c.index-as_slice-a_move.is) in
    correction_from start c.args.a_move rule (ids_of c.in-Some.master.now) there (sym c.tuple.ensures ∙ ap ids_behind c.in-Some.is)

-- its master row is there
not_absent : (c : goal.In_default) → ⊥
not_absent c =
    let start = c.args.start.now in
    let rule = c.index-as_slice-a_move.result in
    let (d, is, corrects) = parts (basis_of start) (stage_at c.args.self.now) c.args.a_move c.requires.applies in
    let there = move_parts start c.args.a_move d.0 d.1 is in
    let within = slice_get_within (book_edits start.rules.now) c.args.a_move.rule d.0 there.0 in
    let known = slice_get_read (book_edits start.rules.now) (length (book_edits start.rules.now)) c.args.a_move.rule rule refl within (subst (λ (xs : List EditRule). rule ≡ get_or xs c.args.a_move.rule rule) (c.as_slice.ensures ∙ c.edits.ensures.edits) c.index-as_slice-a_move.is) in
    let same : rule ≡ d.0 = same_Some rule d.0 (sym known ∙ there.0) in
    none-some d.1 (sym (ap ids_behind c.in_default.is) ∙ c.tuple.ensures ∙ ap (λ (r : EditRule). finite.get start.masters.now.rows (r.master, c.args.a_move.master)) same ∙ there.1)

pub returns-in-Some-clause-stage : goal.returns-in-Some-clause-stage
returns-in-Some-clause-stage c =
    let start = c.args.start.now in
    let rule = c.index-as_slice-a_move.result in
    let master = ids_of c.in-Some.master.now in
    let wide = (writes_within start c.edits.ensures.valid c.requires.start).source c.args.a_move rule master (known c) in
    step_is (basis_of start) c.args.self.now.tuple c.set.new.self (marked c.args.self.now.covered) (marked c.with-self.result) c.args.a_move rule master (get_or master rule.source 0) (known c)
    (slice_get-get_or master rule.source 0 wide)
    (c.set.ensures.list ∙ ap (λ (m : List ℕ). set c.args.self.now.tuple rule.target (get_or m rule.source 0)) c.deref.ensures.value)
    c.with-self.ensures.set

pub returns-in-Some-clause-more : goal.returns-in-Some-clause-more
returns-in-Some-clause-more c =
    let start = c.args.start.now in
    let free = unmarked start c.args.self.now c.args.a_move c.requires.applies in
    c.with-self.ensures.more (sym (ap (marked c.args.self.now.covered) (attr-is (basis_of start) c.args.a_move _ (known c))) ∙ free)

pub returns-in_default-clause-stage : goal.returns-in_default-clause-stage
returns-in_default-clause-stage c = absurd (not_absent c)

pub returns-in_default-clause-more : goal.returns-in_default-clause-more
returns-in_default-clause-more c = absurd (not_absent c)

pub returns-in_default-clause-most : goal.returns-in_default-clause-most
returns-in_default-clause-most c = absurd (not_absent c)
