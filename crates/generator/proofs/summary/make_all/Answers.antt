use Rattle.std.proofs.Common.{[], ◌∷◌, Some, refl, ◌∙◌}
use Rattle.shelf_io.specs.Transcript.{Answers}
use Rattle.shelf_io.proofs.Transcripts.{answers-more, answers-none}
use Rattle.session.proofs.SameRules.{under_same}
use Rattle.generator.specs.Summary.{IsThousand}
use Rattle.generator.proofs.summary.make_all.Goals as goal

pub loop-thousand-init : goal.loop-thousand-init
loop-thousand-init g c =
    let start = c.args.bench.now in
    record {
      told = answers-none (IsThousand start.rules start.limits) start.history c.args.thousands.now (Some c.args.text.now.items);
      rules = refl;
      limits = refl;
    }

pub loop-thousand-preserved : goal.loop-thousand-preserved
loop-thousand-preserved g c =
    let start = c.args.bench.now in
    let so_far = c.loop-thousand.invariant in
    let last = c.make_thousand.new.bench.history in
    let next = under_same (λ rules limits. Answers (IsThousand rules limits) c.loop-thousand.bench.history (c.thousand-item.result ∷ []) last (Some c.loop-thousand.text.items) (Some c.make_thousand.new.text.items)) _ _ _ _ so_far.rules so_far.limits c.in_ok-make_thousand.ensures.told in
    record {
      told = answers-more (IsThousand start.rules start.limits) start.history c.loop-thousand.bench.history last c.args.thousands.now c.loop-thousand.thousand-index c.thousand-item.result
          (Some c.args.text.now.items) (Some c.loop-thousand.text.items) (Some c.make_thousand.new.text.items) c.loop-thousand-test.true c.thousand-item.is so_far.told next;
      rules = c.make_thousand.ensures.made_with.0 ∙ so_far.rules;
      limits = c.make_thousand.ensures.made_with.1 ∙ so_far.limits;
    }
