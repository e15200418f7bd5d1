use Rattle.std.proofs.Common.{◌≡◌, Bool, true, cond, sym, take, ◌∙◌, ap, subst}
use Rattle.std.specs.Str.{bytes_eq}
use Rattle.std.proofs.lemmas.Bool.{not-true, not-false}
use Rattle.std.proofs.lemmas.Map.Text.{is_eq-slice_cmp}
use Rattle.text_lists.specs.Repeats.{is_among, IsFirstRepeated}
use Rattle.text_lists.proofs.RepeatLemmas.{bytes_eq-tells, first_repeated-is, AreDistinct-from_none, found_next, new_next, none_left, is_among-more}
use Rattle.text_lists.proofs.repeats.first_repeated.Goals as goal

pub returns-then-not-branch-clause-text : goal.returns-then-not-branch-clause-text
returns-then-not-branch-clause-text c =
    sym (found_next c.args.texts.now c.loop-text.text-index c.text-item.result _ c.loop-text-test.true c.text-item.is c.loop-text.invariant.left
    (ap (is_among bytes_eq (take c.loop-text.text-index c.args.texts.now)) (sym c.as_str.ensures.bytes) ∙ sym (c.loop-text.invariant.seen c.as_str.result) ∙ not-false _ (sym c.in_ok-insert.ensures.added ∙ c.if-not-branch.true)))

pub returns-then-not-branch-clause-law : goal.returns-then-not-branch-clause-law
returns-then-not-branch-clause-law c =
    subst (IsFirstRepeated c.args.texts.now) (sym (returns-then-not-branch-clause-text c)) (first_repeated-is bytes_eq bytes_eq-tells c.args.texts.now)

same_choice : {a b : Bool} (other : Bool) → a ≡ b → cond a true other ≡ cond b true other
same_choice other same = ap (λ c. cond c true other) same

pub loop-text-preserved : goal.loop-text-preserved
loop-text-preserved c = record {
  left = new_next c.args.texts.now c.loop-text.text-index c.text-item.result _ c.loop-text-test.true c.text-item.is c.loop-text.invariant.left
      (ap (is_among bytes_eq (take c.loop-text.text-index c.args.texts.now)) (sym c.as_str.ensures.bytes) ∙ sym (c.loop-text.invariant.seen c.as_str.result) ∙ not-true _ (sym c.in_ok-insert.ensures.added ∙ c.if-not-branch.false));
  seen = λ q. c.in_ok-insert.ensures.updates.0 q
      ∙ same_choice _ (is_eq-slice_cmp c.as_str.result.now q.now ∙ ap (λ t. bytes_eq t q.now) c.as_str.ensures.bytes)
      ∙ ap (λ (b : Bool). cond (bytes_eq c.text-item.result q.now) true b) (c.loop-text.invariant.seen q)
      ∙ is_among-more c.args.texts.now c.loop-text.text-index c.text-item.result q.now c.loop-text-test.true c.text-item.is;
}

pub returns-clause-law : goal.returns-clause-law
returns-clause-law c =
    AreDistinct-from_none bytes_eq bytes_eq-tells c.args.texts.now (none_left c.args.texts.now c.loop-text.text-index _ c.loop-text-test.false c.loop-text.invariant.left)
