use Rattle.std.proofs.Common.{Bool, true, cond, sym, ◌∙◌, ap, subst}
use Rattle.std.specs.Str.{bytes_eq}
use Rattle.std.proofs.lemmas.Bool.{not-true, not-false}
use Rattle.text_lists.specs.Repeats.{IsFirstRepeated}
use Rattle.text_lists.proofs.RepeatLemmas.{bytes_eq-tells, first_repeated-is, AreDistinct-from_none, found_next, new_next, none_left, is_among-more}
use Rattle.schema_draft.proofs.repeats.first_repeated.Goals as goal

pub returns-then-not-branch-clause-text : goal.returns-then-not-branch-clause-text
returns-then-not-branch-clause-text c =
    sym (found_next c.args.texts.now c.loop-text.text-index c.text-item.result _ c.loop-text-test.true c.text-item.is c.loop-text.invariant.left
    (sym (c.loop-text.invariant.seen (record { ref_ptr = (0, 0); now = c.text-item.result })) ∙ not-false _ (sym c.in_ok-insert.ensures.added ∙ c.if-not-branch.true)))

pub returns-then-not-branch-clause-law : goal.returns-then-not-branch-clause-law
returns-then-not-branch-clause-law c =
    subst (IsFirstRepeated c.args.texts.now) (sym (returns-then-not-branch-clause-text c)) (first_repeated-is bytes_eq bytes_eq-tells c.args.texts.now)

pub loop-text-preserved : goal.loop-text-preserved
loop-text-preserved c = record {
  left = new_next c.args.texts.now c.loop-text.text-index c.text-item.result _ c.loop-text-test.true c.text-item.is c.loop-text.invariant.left
      (sym (c.loop-text.invariant.seen (record { ref_ptr = (0, 0); now = c.text-item.result })) ∙ not-true _ (sym c.in_ok-insert.ensures.added ∙ c.if-not-branch.false));
  seen = λ q. c.in_ok-insert.ensures.updates.0 q ∙ ap (λ (b : Bool). cond (bytes_eq c.text-item.result q.now) true b) (c.loop-text.invariant.seen q)
      ∙ is_among-more c.args.texts.now c.loop-text.text-index c.text-item.result q.now c.loop-text-test.true c.text-item.is;
}

pub returns-clause-law : goal.returns-clause-law
returns-clause-law c =
    AreDistinct-from_none bytes_eq bytes_eq-tells c.args.texts.now (none_left c.args.texts.now c.loop-text.text-index _ c.loop-text-test.false c.loop-text.invariant.left)
