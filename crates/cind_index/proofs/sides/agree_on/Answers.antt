use Rattle.std.proofs.Common.{sym, subst}
use Rattle.row_store.specs.Tuple.{ids_of}
use Rattle.row_store.specs.Watch.{IsWide}
use Rattle.cind_index.specs.Entries.{key_on, pattern_on}
use Rattle.cind_index.proofs.SideFacts.{wide_back}
use Rattle.cind_index.proofs.sides.agree_on.Goals as goal

pub agree-requires-then-agree-clause-wide_one : goal.agree-requires-then-agree-clause-wide_one
agree-requires-then-agree-clause-wide_one c =
    subst (λ xs. IsWide xs (ids_of c.args.one.now)) (sym c.pattern_on.ensures) (wide_back (key_on c.args.rule.now c.args.side) (pattern_on c.args.rule.now c.args.side) (ids_of c.args.one.now) c.requires.wide_one)

pub agree-requires-then-agree-clause-wide_other : goal.agree-requires-then-agree-clause-wide_other
agree-requires-then-agree-clause-wide_other c =
    subst (λ xs. IsWide xs (ids_of c.args.other.now)) (sym c.pattern_on.ensures) (wide_back (key_on c.args.rule.now c.args.side) (pattern_on c.args.rule.now c.args.side) (ids_of c.args.other.now) c.requires.wide_other)
