use Rattle.std.proofs.Common.{◌∙◌, sym}
use Rattle.std.specs.Prelude.{nat_eq}
use Rattle.std.specs.List.{list_any}
use Rattle.std.proofs.lemmas.Bool.{or_left, or_right}
use Rattle.dep_search.specs.Found.{determines, proper_parts}
use Rattle.dep_search.proofs.Kept.{any_flipped}
use Rattle.dep_search.proofs.facts.is_given.Goals as goal

pub returns-then-contains : goal.returns-then-contains
returns-then-contains c = λ _.
    let x = c.args.x.now in
    or_left (list_any (nat_eq c.args.a) x) (list_any (λ part. determines c.args.table.now.rows.now part c.args.a) (proper_parts x))
    (sym (any_flipped c.args.a x) ∙ sym c.contains.ensures.value ∙ c.if-contains.true)

pub returns : goal.returns
returns c = λ e.
    let x = c.args.x.now in
    or_right (list_any (nat_eq c.args.a) x) (list_any (λ part. determines c.args.table.now.rows.now part c.args.a) (proper_parts x))
    (rw (sym c.requires.parts) (c.is_determined.ensures e))
