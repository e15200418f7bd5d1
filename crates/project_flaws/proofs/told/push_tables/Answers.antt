use Rattle.std.proofs.Common.{◌++◌, inl, inr}
use Rattle.view_refusal.proofs.Pairs.{nothing_left-first, nothing_left-second}
use Rattle.project_flaws.specs.Told.{pair_clean, pair_text, tables_clean, tables_text}
use Rattle.project_flaws.proofs.Clean.{none_left-first, none_left-second}
use Rattle.project_flaws.proofs.told.push_tables.Goals as goal

pub returns-clause-text : goal.returns-clause-text
returns-clause-text c =
    let tables = c.loop-table.table-iterator.a.rest.now in
    let all = c.loop-table.table-iterator.b.rest.now in
    let whole = c.args.out.now.items ++ tables_text c.args.counts c.args.tables.now c.args.all.now in
    elim c.in-None.ensures.steps [
      | inl p ↦ nothing_left-first (pair_text c.args.counts) tables all c.loop-table.out.items whole p.1.0 c.loop-table.invariant.text
      | inr p ↦ nothing_left-second (pair_text c.args.counts) tables all c.loop-table.out.items whole p.1.0 c.loop-table.invariant.text
    ]

pub returns-clause-clean : goal.returns-clause-clean
returns-clause-clean c =
    let tables = c.loop-table.table-iterator.a.rest.now in
    let all = c.loop-table.table-iterator.b.rest.now in
    let whole = tables_clean c.args.tables.now c.args.all.now in
    elim c.in-None.ensures.steps [
      | inl p ↦ none_left-first pair_clean tables all c.loop-table.clean whole p.1.0 c.loop-table.invariant.clean
      | inr p ↦ none_left-second pair_clean tables all c.loop-table.clean whole p.1.0 c.loop-table.invariant.clean
    ]
