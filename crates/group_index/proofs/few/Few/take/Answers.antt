use Rattle.std.proofs.Common.{◌≡◌, ◌≢◌, not, filter, rules, tests}
use Rattle.std.proofs.lemmas.Fn.{filter_same}
use Rattle.std.proofs.lemmas.List.Kept.{AllPairs-filter}
use Rattle.group_index.specs.Pairs.{Pair, is_pair}
use Rattle.group_index.proofs.FewFacts.{taken_by_filter}
use Rattle.group_index.proofs.few.Few.take.Goals as goal

kept : (c : goal.After-retain) → c.retain.new.self.items ≡ filter (λ q. not (is_pair q (c.args.a, c.args.row))) c.self.inside.pairs.items
kept c = filter_same _ (λ (q : Pair). not (is_pair q (c.args.a, c.args.row))) _ (λ x b q k. search (rules, tests)) _ _ c.retain.ensures.filtered

pub invariant_of-self : goal.invariant_of-self
invariant_of-self c = rw (kept c) (AllPairs-filter (λ p q. p ≢ q) (λ (q : Pair). not (is_pair q (c.args.a, c.args.row))) c.self.inside.pairs.items c.self.invariant)

pub returns-clause-taken : goal.returns-clause-taken
returns-clause-taken c = rw (kept c, ← c.self.view_is) (taken_by_filter c.self.inside.pairs.items (c.args.a, c.args.row))
