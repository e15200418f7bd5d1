use Rattle.std.proofs.Common.{sym, subst}
use Rattle.std.specs.Prelude.{All}
use Rattle.dep_search.specs.Settled.{IsLeader}
use Rattle.dep_search.proofs.Listed.{if_ok}
use Rattle.dep_search.proofs.Parted.{lent_tells, leads_lead, settled_rows}
use Rattle.dep_search.proofs.facts.settled_at.Goals as goal

pub settled_by-requires-clause-leads : goal.settled_by-requires-clause-leads
settled_by-requires-clause-leads c =
    let table = c.args.table.now in
    let grouped = c.args.grouped.now in
    subst (All (IsLeader grouped.classes.leaders)) (sym c.requires.leads)
    (leads_lead table.rows.now table.support grouped.x grouped.classes.leaders c.requires.grouped.led)

pub returns : goal.returns
returns c =
    let table = c.args.table.now in
    let grouped = c.args.grouped.now in
    let tells = lent_tells table.rows.now table.columns.now c.args.a c.index-table-a.result c.as_slice.result.now c.requires.table.columns c.requires.a c.index-table-a.is c.as_slice.ensures in
    if_ok c.settled_by.result (λ settled told.
    settled_rows table.rows.now table.support grouped.x grouped.classes.leaders c.args.a c.as_slice.result.now c.args.leads.now settled
    c.requires.grouped.led tells c.requires.leads told) c.settled_by.ensures
