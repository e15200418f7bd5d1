use Rattle.std.proofs.Common.{ap, subst, length}
use Rattle.std.specs.Option.{ForSome}
use Rattle.cind_index.specs.KeysHeld.{KeyedRows}
use Rattle.cind_index.specs.Totals.{told, AreZero}
use Rattle.cind_index.proofs.TotalFacts.{totals_none}
use Rattle.cind_index.proofs.index.CindIndex.new.Goals as goal

pub invariant_of-result-clause-counted : goal.invariant_of-result-clause-counted
invariant_of-result-clause-counted c =
    totals_none c.args.rule.rows c.with_hasher.result c.new-totals.result (ap (λ (m : KeyedRows). m.pairs) c.with_hasher.ensures)
    (subst (λ rows. ForSome (told c.new-totals.result) (AreZero (length rows))) c.as_slice.ensures c.new-totals.ensures)
