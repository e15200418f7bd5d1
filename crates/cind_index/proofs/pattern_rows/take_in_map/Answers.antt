use Rattle.std.proofs.Common.{rules, Some, sym, ap, ◌∙◌, not, ◌&&◌}
use Rattle.std.specs.Prelude.{◌==◌}
use Rattle.cind_index.proofs.MapFacts.{rows_updated, one_less, beside_same, among}
use Rattle.cind_index.proofs.pattern_rows.take_in_map.Goals as goal

pub returns-in-Some-clause-left : goal.returns-in-Some-clause-left
returns-in-Some-clause-left c left =
    let old = c.args.patterns.now in
    let new = c.get_mut.follows.lender c.take.new.self in
    let written = (c.get_mut.follows.holds c.take.new.self).3 (search rules) in
    one_less old new c.args.pattern.now c.args.row (Some c.in-Some.rows.now) (Some c.take.new.self) (sym c.in-Some.ensures.value)
    (rows_updated old new c.args.pattern.now (Some c.take.new.self) written.1 written.3) (c.take.ensures.left left)

pub returns-in-Some-clause-none : goal.returns-in-Some-clause-none
returns-in-Some-clause-none c none other =
    ap (λ found. not (other == c.args.row) && among found other) (sym c.in-Some.ensures.value) ∙ c.take.ensures.none none other

pub returns-in-Some-clause-others : goal.returns-in-Some-clause-others
returns-in-Some-clause-others c =
    let old = c.args.patterns.now in
    let new = c.get_mut.follows.lender c.take.new.self in
    let written = (c.get_mut.follows.holds c.take.new.self).3 (search rules) in
    beside_same old new c.args.pattern.now c.args.row (Some c.in-Some.rows.now) (Some c.take.new.self) (sym c.in-Some.ensures.value)
    (rows_updated old new c.args.pattern.now (Some c.take.new.self) written.1 written.3)
