use Rattle.std.proofs.Common.{refl, sym, inl, inr}
use Rattle.cind_index.proofs.CountFacts.{holds_lone}
use Rattle.cind_index.proofs.side_rows.count_lone.Goals as goal

pub returns-then-are_same : goal.returns-then-are_same
returns-then-are_same c own = holds_lone c.args.held.now c.args.pattern.now 1 (inl (sym c.if-are_same.ensures, refl)) own

pub returns-else-are_same : goal.returns-else-are_same
returns-else-are_same c own = holds_lone c.args.held.now c.args.pattern.now 0 (inr (sym c.if-are_same.ensures, refl)) own
