use Rattle.std.proofs.Common.{◌∙◌, sym, length}
use Rattle.std.specs.Prelude.{nat_eq}
use Rattle.std.specs.List.{list_any}
use Rattle.std.proofs.lemmas.Bool.{or_right}
use Rattle.dep_search.specs.Found.{determines, proper_parts}
use Rattle.dep_search.proofs.Closed.{given_settled}
use Rattle.dep_search.proofs.Known.{parts_determine}
use Rattle.dep_search.proofs.finder.settled_on.Goals as goal

pub returns-then-is_any_all : goal.returns-then-is_any_all
returns-then-is_any_all c =
    let table = c.args.table.now in
    let side = c.args.side.now in
    let x = side.grouped.now.x in
    let parts = parts_determine table.rows.now (length table.columns.now) table.support c.args.store.now c.args.a side.places.now (proper_parts x)
    c.requires.side.facts c.requires.a c.requires.side.places in
    given_settled table.rows.now table.support x c.args.a c.new.result
    (or_right (list_any (nat_eq c.args.a) x) (list_any (λ part. determines table.rows.now part c.args.a) (proper_parts x))
    (sym parts ∙ sym c.is_any_all.ensures ∙ c.if-is_any_all.true))
