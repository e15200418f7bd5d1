use Rattle.std.proofs.Common.{sym, subst}
use Rattle.std.specs.Prelude.{All}
use Rattle.dep_search.proofs.Known.{IsLead, leads_are}
use Rattle.dep_search.proofs.finder.push_constants.Goals as goal

pub push_constant-requires-clause-row : goal.push_constant-requires-clause-row
push_constant-requires-clause-row c =
    let table = c.args.table.now in
    let x = c.args.side.now.grouped.now.x in
    (subst (All (IsLead table.rows.now table.support x)) (sym c.requires.side.leads) (leads_are table.rows.now table.support x) c.loop-r.r-index 0 c.loop-r-test.true).row

pub push_constant-requires-clause-first : goal.push_constant-requires-clause-first
push_constant-requires-clause-first c =
    let table = c.args.table.now in
    let x = c.args.side.now.grouped.now.x in
    (subst (All (IsLead table.rows.now table.support x)) (sym c.requires.side.leads) (leads_are table.rows.now table.support x) c.loop-r.r-index 0 c.loop-r-test.true).first

pub push_constant-requires-clause-support : goal.push_constant-requires-clause-support
push_constant-requires-clause-support c =
    let table = c.args.table.now in
    let x = c.args.side.now.grouped.now.x in
    (subst (All (IsLead table.rows.now table.support x)) (sym c.requires.side.leads) (leads_are table.rows.now table.support x) c.loop-r.r-index 0 c.loop-r-test.true).many
