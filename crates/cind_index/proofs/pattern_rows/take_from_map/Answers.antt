use Rattle.std.proofs.Common.{None, refl}
use Rattle.cind_index.proofs.MapFacts.{rows_updated, last_less}
use Rattle.cind_index.proofs.pattern_rows.take_from_map.Goals as goal

pub returns-then-take_in_map : goal.returns-then-take_in_map
returns-then-take_in_map c =
    last_less c.args.patterns.now c.take_in_map.new.patterns c.remove.new.self c.args.pattern.now c.args.row (c.if-take_in_map.ensures.none refl) c.take_in_map.ensures.others
    (rows_updated c.take_in_map.new.patterns c.remove.new.self c.args.pattern.now None c.remove.ensures.updates.1 c.remove.ensures.updates.3)
