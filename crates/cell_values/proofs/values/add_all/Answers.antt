use Rattle.std.proofs.Common.{ℕ, List, subst}
use Rattle.value_pool.specs.Pool.{Interns}
use Rattle.cell_values.specs.Values.{once_after}
use Rattle.cell_values.proofs.Gathering.{once_after_step, interned_is}
use Rattle.cell_values.proofs.values.add_all.Goals as goal

pub loop-text-preserved : goal.loop-text-preserved
loop-text-preserved c =
    let next = interned_is c.loop-text.values c.text-item.result c.add.new.self (subst (λ (t : List ℕ). Interns c.loop-text.values t c.add.new.self) c.as_str.ensures.bytes c.in_ok-add.ensures.interned) in
    once_after_step c.loop-text.values c.add.new.self (once_after c.args.values.now c.args.texts.now) c.args.texts.now c.loop-text.text-index c.text-item.result c.loop-text-test.true c.text-item.is next c.loop-text.invariant
