use Rattle.std.proofs.Common.{sym, subst}
use Rattle.row_store.specs.Tuple.{ids_of}
use Rattle.row_store.specs.Watch.{IsWide}
use Rattle.cind_index.specs.Entries.{key_on, pattern_on}
use Rattle.cind_index.proofs.SideFacts.{wide_front, wide_back}
use Rattle.cind_index.proofs.sides.write_entry.Goals as goal

pub write_key-requires-clause-wide : goal.write_key-requires-clause-wide
write_key-requires-clause-wide c =
    let rule = c.args.rule.now in
    let ids = ids_of c.args.tuple.now in
    subst (λ xs. IsWide xs ids) (sym c.key_on.ensures) (wide_front (key_on rule c.args.side) (pattern_on rule c.args.side) ids c.requires.wide)

pub write_key-requires-2-clause-wide : goal.write_key-requires-2-clause-wide
write_key-requires-2-clause-wide c =
    let rule = c.args.rule.now in
    let ids = ids_of c.args.tuple.now in
    subst (λ xs. IsWide xs ids) (sym c.pattern_on.ensures) (wide_back (key_on rule c.args.side) (pattern_on rule c.args.side) ids c.requires.wide)
