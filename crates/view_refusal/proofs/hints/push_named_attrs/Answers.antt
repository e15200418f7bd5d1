use Rattle.view_refusal.specs.Hints.{attrs_if_named}
use Rattle.view_refusal.proofs.Ends.{flat_map-more}
use Rattle.view_refusal.proofs.hints.push_named_attrs.Goals as goal

pub loop-table-preserved : goal.loop-table-preserved
loop-table-preserved c =
    flat_map-more (attrs_if_named c.args.tokens.now) c.args.tables.now c.loop-table.table-index c.table-item.result c.args.out.now.items c.loop-table.out.items c.push_attrs_if_named.new.out.items c.loop-table-test.true c.table-item.is c.loop-table.invariant c.in_ok-push_attrs_if_named.ensures
