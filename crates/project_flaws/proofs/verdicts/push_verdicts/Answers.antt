use Rattle.std.proofs.Common.{◌++◌, inl, inr}
use Rattle.view_refusal.proofs.Pairs.{nothing_left-first, nothing_left-second}
use Rattle.project_flaws.specs.Told.{verdict_text, verdicts_text}
use Rattle.project_flaws.proofs.verdicts.push_verdicts.Goals as goal

pub returns : goal.returns
returns c =
    let tables = c.loop-table.table-iterator.a.rest.now in
    let verdicts = c.loop-table.table-iterator.b.rest.now in
    let whole = c.args.out.now.items ++ verdicts_text c.args.tables.now c.args.verdicts.now in
    elim c.in-None.ensures.steps [
      | inl p ↦ nothing_left-first verdict_text tables verdicts c.loop-table.out.items whole p.1.0 c.loop-table.invariant
      | inr p ↦ nothing_left-second verdict_text tables verdicts c.loop-table.out.items whole p.1.0 c.loop-table.invariant
    ]
