use Rattle.group_index.specs.Pairs.{pairs_of}
use Rattle.group_index.proofs.LeadFacts.{walk_begins, leads_go_on, head_goes_on, walk_ends}
use Rattle.group_index.proofs.leads.Leads.of.Goals as goal

pub loop-head-init : goal.loop-head-init
loop-head-init c =
    let both = walk_begins c.args.cell.now (pairs_of c.args.group.now) c.next_head-head.result c.next_head-head.ensures in
    record { leads = both.0; at_head = both.1 }

pub loop-head-smaller : goal.loop-head-smaller
loop-head-smaller c = walk_ends (pairs_of c.args.group.now) c.loop-head.head (c.in-Some.a, c.in-Some.row) c.next_head-head-in-Some.result c.in-Some.is c.loop-head.invariant.at_head c.next_head-head-in-Some.ensures

pub loop-head-preserved : goal.loop-head-preserved
loop-head-preserved c = record {
  leads = rw (c.with_head-leads.ensures.first, c.with_head-leads.ensures.second)
      (leads_go_on c.args.cell.now (pairs_of c.args.group.now) c.loop-head.head (c.in-Some.a, c.in-Some.row) c.next_head-head-in-Some.result c.loop-head.leads.first c.loop-head.leads.second c.in-Some.is c.loop-head.invariant.at_head c.next_head-head-in-Some.ensures c.loop-head.invariant.leads);
  at_head = head_goes_on (pairs_of c.args.group.now) (c.in-Some.a, c.in-Some.row) c.next_head-head-in-Some.result c.next_head-head-in-Some.ensures;
}
