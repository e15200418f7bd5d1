use Rattle.std.proofs.Common.{◌≡◌, Some, take}
use Rattle.shelf_io.specs.Transcript.{Answers}
use Rattle.generator.specs.Summary.{IsThousand}
use Rattle.generator.proofs.summary.make_all.Given as goal

abbrev pub invariant-loop-thousand : goal.invariant-loop-thousand
invariant-loop-thousand g l =
    let start = l.initial.bench in
    record {
      told : Answers (IsThousand start.rules start.limits) start.history (take l.thousand-index l.thousands) l.bench.history (Some l.initial.text.items) (Some l.text.items);
      rules : l.bench.rules ≡ start.rules;
      limits : l.bench.limits ≡ start.limits;
    }
