use Rattle.std.proofs.Common.{sym, ap, ◌∙◌, cond, length}
use Rattle.group_index.specs.Pairs.{pairs_of}
use Rattle.group_index.proofs.counting.count_mixed.Goals as goal

pub returns-then-is_mixed : goal.returns-then-is_mixed
returns-then-is_mixed c =
    let pairs = pairs_of c.args.group.now in
    c.len.ensures.len ∙ sym (ap (λ b. cond b (length pairs) 0) (sym (c.if-is_mixed.ensures pairs c.of.ensures.spread)))

pub returns-else-is_mixed : goal.returns-else-is_mixed
returns-else-is_mixed c =
    let pairs = pairs_of c.args.group.now in
    sym (ap (λ b. cond b (length pairs) 0) (sym (c.if-is_mixed.ensures pairs c.of.ensures.spread)))
