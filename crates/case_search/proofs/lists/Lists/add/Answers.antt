use Rattle.std.proofs.Common.{◌<◌, length, arith, ap, List, ℕ}
use Rattle.case_search.proofs.Listed.{list_after, list_before, list_other, lists_count}
use Rattle.case_search.proofs.lists.Lists.add.Goals as goal

pub returns-clause-added : goal.returns-clause-added
returns-clause-added c =
    let lists = c.self.inside.lists.items in
    let in_range : c.args.var < length lists = omega (arith, c.requires, ap {B = ℕ} (λ (ls : List (List ℕ)). length ls) c.self.view_is, lists_count lists) in
    let after = list_after lists c.args.var c.push.new.self in_range in
    let before = list_before lists c.args.var c.index_mut.result.now in_range c.index_mut.ensures.value in
    let pushed = c.in_ok-push.ensures.items in
    let view = c.self.view_is in
    cc

pub returns-clause-others : goal.returns-clause-others
returns-clause-others c v other =
    let same = list_other c.self.inside.lists.items c.args.var v c.push.new.self other in
    let view = c.self.view_is in
    cc
