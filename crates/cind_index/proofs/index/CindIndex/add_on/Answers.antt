use Rattle.std.proofs.Common.{sym, ap, subst, refl, ◌∙◌, ℕ, Option, Some, None}
use Rattle.std.specs.Prelude.{IfSome}
use Rattle.std.proofs.lemmas.Option.{same_Some}
use Rattle.row_store.specs.Tuple.{ids_at, ids_of}
use Rattle.cind_index.specs.Entries.{is_entry, key_on, pattern_on}
use Rattle.cind_index.specs.KeysHeld.{held, HasKeyAt}
use Rattle.cind_index.proofs.OwnEntries.{values_there}
use Rattle.cind_index.specs.Index.{made_of, given}
use Rattle.cind_index.proofs.MapFacts.{on_ok, if_ok}
use Rattle.cind_index.proofs.SideFacts.{wide_here, wide_front, more_by, gives_own, given_here, not_held}
use Rattle.cind_index.proofs.index.CindIndex.add_on.Goals as goal

if_some : (P Q : ℕ → Type 0) (o : Option ℕ) → ((v : ℕ) → P v → Q v) → IfSome o P → IfSome o Q
if_some P Q None f p = tt
if_some P Q (Some v) f p = f v p

pub write_entry-requires-clause-wide : goal.write_entry-requires-clause-wide
write_entry-requires-clause-wide g c =
    wide_here (made_of c.args.self.now) c.args.table c.args.side (ids_of c.args.new.now) (c.if-not-differs_on.ensures.here refl) c.requires.wide_new

pub returns-clause-ok : goal.returns-clause-ok
returns-clause-ok g c =
    let index = c.args.self.now in
    let ids = ids_of c.args.new.now in
    let side = c.args.side in
    let row = c.args.row in
    let here = c.if-not-differs_on.ensures.here refl in
    let wide = wide_here (made_of index) c.args.table side ids here c.requires.wide_new in
    let key = c.in_ok-key.ensures.ok ∙ c.as_slice.ensures ∙ c.write_entry.ensures.key in
    let pattern = c.as_slice-pattern.ensures ∙ c.write_entry.ensures.pattern in
    on_ok c.put_entry.result (more_by side (is_entry c.in_ok-key.key.items c.as_slice-pattern.result.now row) (given (made_of index) side c.args.table row ids) index.keys c.put_entry.new.keys
    (λ e. ap (λ k. is_entry k c.as_slice-pattern.result.now row e) key ∙ ap (λ p. is_entry (ids_at ids (key_on index.rule side)) p row e) pattern
    ∙ sym (gives_own index.rule side row ids e wide) ∙ sym (given_here (made_of index) side c.args.table row ids e here))) c.put_entry.ensures.ok

pub returns-clause-new : goal.returns-clause-new
returns-clause-new g c =
    let index = c.args.self.now in
    let ids = ids_of c.args.new.now in
    let side = c.args.side in
    let row = c.args.row in
    let here = c.if-not-differs_on.ensures.here refl in
    let wide = wide_here (made_of index) c.args.table side ids here c.requires.wide_new in
    let key = c.in_ok-key.ensures.ok ∙ c.as_slice.ensures ∙ c.write_entry.ensures.key in
    let pattern = c.as_slice-pattern.ensures ∙ c.write_entry.ensures.pattern in
    if_ok _ _ c.put_entry.result (λ new_at known. if_some _ _ new_at (λ place has. (
      here,
      (λ key_is at. subst (λ xs. HasKeyAt c.put_entry.new.keys place xs)
          (key ∙ same_Some (ids_at ids (key_on index.rule side)) key_is (sym (values_there ids (key_on index.rule side) (wide_front (key_on index.rule side) (pattern_on index.rule side) ids wide)) ∙ at)) has.0),
      not_held index.rule side row ids index.keys wide
          (ap (λ k. held index.keys side (record { key = k; pattern = ids_at ids (pattern_on index.rule side); row = row })) (sym key)
          ∙ ap (λ p. held index.keys side (record { key = c.in_ok-key.key.items; pattern = p; row = row })) (sym pattern) ∙ has.1),
    )) known) c.put_entry.ensures.new
