use Rattle.std.proofs.Common.{length, sym, ◌∙◌}
use Rattle.dep_search.proofs.Closed.{known_determines}
use Rattle.dep_search.proofs.facts.is_known_at.Goals as goal

pub returns : goal.returns
returns c = λ e.
    let table = c.args.table.now in
    known_determines table.rows.now (length table.columns.now) table.support c.args.store.now c.args.place c.args.a c.args.part.now
    c.requires.store c.requires.a c.requires.place (sym c.is_all_at.ensures ∙ e)
