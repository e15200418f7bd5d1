use Rattle.std.proofs.Common.{sym, ap, refl, ◌∙◌}
use Rattle.row_store.specs.Tuple.{ids_at, ids_behind, ids_of}
use Rattle.cind_index.specs.Entries.{is_entry, gives_on, key_on}
use Rattle.cind_index.specs.Index.{made_of}
use Rattle.cind_index.proofs.SideFacts.{wide_here, less_by, gives_own, gone_by}
use Rattle.cind_index.proofs.index.CindIndex.remove_on.Goals as goal

pub write_entry-requires-clause-wide : goal.write_entry-requires-clause-wide
write_entry-requires-clause-wide g c =
    wide_here (made_of c.args.self.now) c.args.table c.args.side (ids_of c.args.old.now) (c.if-not-differs_on.ensures.here refl) c.requires.wide_old

pub returns-clause-left : goal.returns-clause-left
returns-clause-left g c =
    let index = c.args.self.now in
    let ids = ids_of c.args.old.now in
    let side = c.args.side in
    let row = c.args.row in
    let here = c.if-not-differs_on.ensures.here refl in
    let wide = wide_here (made_of index) c.args.table side ids here c.requires.wide_old in
    let key = c.write_entry.ensures.key in
    let pattern = c.as_slice-pattern.ensures ∙ c.write_entry.ensures.pattern in
    gone_by (made_of index) side c.args.table row ids (ids_behind c.args.new) index.keys c.take_entry.new.keys here (c.if-not-differs_on.ensures.differ refl)
    (less_by side (is_entry c.write_entry.new.key.items c.as_slice-pattern.result.now row) (gives_on index.rule side row ids) index.keys c.take_entry.new.keys
    (λ e. ap (λ k. is_entry k c.as_slice-pattern.result.now row e) key ∙ ap (λ p. is_entry (ids_at ids (key_on index.rule side)) p row e) pattern ∙ sym (gives_own index.rule side row ids e wide))
    c.take_entry.ensures.left)
