use Rattle.std.proofs.Common.{sym, ◌∙◌}
use Rattle.group_index.proofs.PairFacts.{first_above_next, none_above_next}
use Rattle.group_index.proofs.group.head_after.Goals as goal

pub returns-in_err-a : goal.returns-in_err-a
returns-in_err-a c =
    rw (c.in-Some.is, c.from_residual.ensures) (none_above_next c.args.pairs.now c.in-Some.low _ c.range.result c.next.new.self c.next.result (c.range.ensures.in_range tt) c.next.ensures.steps (sym c.copied-2.ensures ∙ c.in_err-a.was))

pub returns : goal.returns
returns c =
    rw (c.in-Some.is, c.within_ids.ensures.same) (first_above_next c.args.pairs.now c.in-Some.low _ c.range.result c.next.new.self c.next.result (c.in_ok-a.a, c.in_ok-a.row) (c.range.ensures.in_range tt) c.next.ensures.steps (sym c.copied-2.ensures ∙ c.in_ok-a.was) c.within_ids.ensures.within)
