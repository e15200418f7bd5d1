use Rattle.std.proofs.Common.{sym, ap, subst, ◌∙◌}
use Rattle.row_store.specs.Tuple.{ids_at, ids_of}
use Rattle.row_store.specs.Watch.{IsWide}
use Rattle.cind_index.specs.declared.side.Side.TheVariants.{Left}
use Rattle.cind_index.specs.Entries.{is_entry, gives_on}
use Rattle.cind_index.proofs.OwnEntries.{values_there}
use Rattle.cind_index.proofs.KeyFacts.{has_place}
use Rattle.cind_index.proofs.SideFacts.{wide_front, wide_back, less_by, gives_own}
use Rattle.cind_index.proofs.index.CindIndex.take_back.Goals as goal

pub write_key-requires-clause-wide : goal.write_key-requires-clause-wide
write_key-requires-clause-wide c =
    let rule = c.args.self.now.rule in
    subst (λ xs. IsWide xs (ids_of c.args.tuple.now)) (sym c.as_slice.ensures) (wide_back rule.x rule.xp (ids_of c.args.tuple.now) c.requires.wide)

pub take_at-requires-clause-within : goal.take_at-requires-clause-within
take_at-requires-clause-within c =
    let rule = c.args.self.now.rule in
    let ids = ids_of c.args.tuple.now in
    has_place c.args.self.now.keys c.args.place (ids_at ids rule.x) (c.requires.at (ids_at ids rule.x) (values_there ids rule.x (wide_front rule.x rule.xp ids c.requires.wide)))

pub returns-clause-left : goal.returns-clause-left
returns-clause-left c =
    let rule = c.args.self.now.rule in
    let ids = ids_of c.args.tuple.now in
    let row = c.args.row in
    let pattern = c.as_slice-pattern.ensures ∙ c.write_key.ensures.ids ∙ ap (ids_at ids) c.as_slice.ensures in
    less_by Left (is_entry (ids_at ids rule.x) c.as_slice-pattern.result.now row) (gives_on rule Left row ids) c.args.self.now.keys c.take_at.new.keys
    (λ e. ap (λ p. is_entry (ids_at ids rule.x) p row e) pattern ∙ sym (gives_own rule Left row ids e c.requires.wide))
    (c.take_at.ensures.left (ids_at ids rule.x) (c.requires.at (ids_at ids rule.x) (values_there ids rule.x (wide_front rule.x rule.xp ids c.requires.wide))))
