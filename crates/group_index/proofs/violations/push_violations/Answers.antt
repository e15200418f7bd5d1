use Rattle.std.proofs.Common.{sym, ap, ◌∙◌}
use Rattle.group_index.specs.Pairs.{pairs_of}
use Rattle.group_index.proofs.AnswerFacts.{put_answer}
use Rattle.group_index.proofs.ListedFacts.{once_in_order, adds_listed}
use Rattle.group_index.proofs.violations.push_violations.Goals as goal

pub returns-in-Few : goal.returns-in-Few
returns-in-Few c =
    put_answer c.push_among-in-Few.result c.push_among-in-Few.ensures
    (adds_listed c.args.cell.now c.args.group.now c.as_slice.result.now c.of-leads.result.first c.of-leads.result.second c.args.found.now.items c.push_among-in-Few.new.found.items (ap pairs_of c.in-Few.is ∙ sym c.as_slice.ensures.same) c.of-leads.ensures c.as_slice.ensures.once)

pub returns-in-Many : goal.returns-in-Many
returns-in-Many c =
    put_answer c.push_all_listed.result c.push_all_listed.ensures
    (adds_listed c.args.cell.now c.args.group.now c.in-Many.pairs.keys c.of-leads.result.first c.of-leads.result.second c.args.found.now.items c.push_all_listed.new.found.items (ap pairs_of c.in-Many.is) c.of-leads.ensures (once_in_order c.in-Many.pairs.keys c.len-len.ensures.ordered))
