use Rattle.std.proofs.Common.{not, ◌≡◌, ◌+◌, sym, ap, ◌∙◌, arith}
use Rattle.std.specs.Prelude.{nat_eq, count_by}
use Rattle.group_index.specs.declared.group.Group.{Group}
use Rattle.group_index.specs.Pairs.{pairs_of}
use Rattle.group_index.proofs.TestCounts.{lower_and_higher}
use Rattle.group_index.proofs.group.Group.count_others.Goals as goal

pub returns-in-Many : goal.returns-in-Many
returns-in-Many c =
    let both = lower_and_higher c.args.a c.in-Many.pairs.keys in
    let sum : c.count_before.result + c.count_behind.result ≡ count_by (λ p. not (nat_eq c.args.a p.0)) c.in-Many.pairs.keys = omega (arith, both, c.count_before.ensures.count, c.count_behind.ensures.count) in
    sum ∙ ap (λ (g : Group). count_by (λ p. not (nat_eq c.args.a p.0)) (pairs_of g)) (sym c.in-Many.is)
