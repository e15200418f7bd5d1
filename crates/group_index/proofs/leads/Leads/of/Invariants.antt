use Rattle.group_index.specs.Pairs.{pairs_of}
use Rattle.group_index.specs.Leads.{AreLeads}
use Rattle.group_index.proofs.LeadFacts.{IsPassed, IsHead, left}
use Rattle.group_index.proofs.leads.Leads.of.Given as goal

-- the leads are those of the A ids that were passed
abbrev pub invariant-loop-head : goal.invariant-loop-head
invariant-loop-head l = record {
  leads : AreLeads l.cell (IsPassed (pairs_of l.group) l.head) l.leads.first l.leads.second;
  at_head : IsHead (pairs_of l.group) l.head;
}

-- how many pairs are left
abbrev pub decreases-loop-head : goal.decreases-loop-head
decreases-loop-head l = left l.head (pairs_of l.group)
