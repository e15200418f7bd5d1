use Rattle.std.proofs.Common.{sym, ap, subst, ◌∙◌, get_or, not, true, false}
use Rattle.std.specs.Str.{bytes_eq}
use Rattle.row_store.specs.Tuple.{ids_at, ids_of}
use Rattle.row_store.specs.Watch.{IsWide}
use Rattle.cind_index.specs.declared.side.Side.TheVariants.{Right}
use Rattle.cind_index.specs.RowsHeld.{has_some, rows_on}
use Rattle.cind_index.proofs.SideFacts.{wide_front, wide_back}
use Rattle.cind_index.proofs.OrphanFacts.{own_left, row_at, TellsOrphan, other_constants, key_is_found, key_is_absent}
use Rattle.cind_index.proofs.index.CindIndex.is_orphan.Goals as goal

pub has_ids-requires : goal.has_ids-requires
has_ids-requires g c =
    let rule = c.args.self.now.rule in
    subst (λ xs. IsWide xs (ids_of c.args.tuple.now)) (sym c.as_slice-2.ensures) (wide_back rule.x rule.xp (ids_of c.args.tuple.now) c.requires.wide)

pub write_key-requires-clause-wide : goal.write_key-requires-clause-wide
write_key-requires-clause-wide g c =
    let rule = c.args.self.now.rule in
    subst (λ xs. IsWide xs (ids_of c.args.tuple.now)) (sym c.as_slice-x.ensures) (wide_front rule.x rule.xp (ids_of c.args.tuple.now) c.requires.wide)

pub returns-then-not-has_ids-clause-orphan : goal.returns-then-not-has_ids-clause-orphan
returns-then-not-has_ids-clause-orphan g c x at row left is =
    let index = c.args.self.now in
    let ids = ids_of c.args.tuple.now in
    let t = c.index-as_slice-k.result in
    let one = row_at index.rule.rows c.args.k t x c.requires.k (c.index-as_slice-k.is ∙ ap (λ rows. get_or rows c.args.k t) c.as_slice.ensures) at in
    let own = own_left index.rule row ids left c.requires.wide is in
    let test = ap (λ xs. bytes_eq xs (ids_at ids index.rule.xp)) (sym c.as_slice-3.ensures) ∙ ap (λ attributes. bytes_eq c.as_slice-3.result.now (ids_at ids attributes)) (sym c.as_slice-2.ensures) ∙ sym c.if-not-has_ids.ensures in
    subst (λ r. TellsOrphan false index.keys r left) one (other_constants index.keys t left (ids_at ids index.rule.xp) own.1 test)

pub returns-in-Some-clause-orphan : goal.returns-in-Some-clause-orphan
returns-in-Some-clause-orphan g c x at row left is =
    let index = c.args.self.now in
    let ids = ids_of c.args.tuple.now in
    let t = c.index-as_slice-k.result in
    let one = row_at index.rule.rows c.args.k t x c.requires.k (c.index-as_slice-k.is ∙ ap (λ rows. get_or rows c.args.k t) c.as_slice.ensures) at in
    let own = own_left index.rule row ids left c.requires.wide is in
    let test = ap (λ xs. bytes_eq xs (ids_at ids index.rule.xp)) (sym c.as_slice-3.ensures) ∙ ap (λ attributes. bytes_eq c.as_slice-3.result.now (ids_at ids attributes)) (sym c.as_slice-2.ensures) ∙ sym c.if-not-has_ids.ensures in
    let key = c.write_key.ensures.ids ∙ ap (ids_at ids) c.as_slice-x.ensures ∙ own.0 in
    subst (λ b. TellsOrphan (not b) index.keys x left) (sym c.has_answer.ensures)
    (subst (λ r. TellsOrphan (not (has_some (rows_on c.value_at.result.now Right) t.yp)) index.keys r left) one
    (key_is_found index.keys c.in-Some.ensures.distinct c.write_key.new.key c.in-Some.place c.value_at.result.now t left (ids_at ids index.rule.xp) c.in-Some.ensures.found c.value_at.ensures key own.1 test))

pub returns-clause-orphan : goal.returns-clause-orphan
returns-clause-orphan g c x at row left is =
    let index = c.args.self.now in
    let ids = ids_of c.args.tuple.now in
    let t = c.index-as_slice-k.result in
    let one = row_at index.rule.rows c.args.k t x c.requires.k (c.index-as_slice-k.is ∙ ap (λ rows. get_or rows c.args.k t) c.as_slice.ensures) at in
    let own = own_left index.rule row ids left c.requires.wide is in
    let test = ap (λ xs. bytes_eq xs (ids_at ids index.rule.xp)) (sym c.as_slice-3.ensures) ∙ ap (λ attributes. bytes_eq c.as_slice-3.result.now (ids_at ids attributes)) (sym c.as_slice-2.ensures) ∙ sym c.if-not-has_ids.ensures in
    let key = c.write_key.ensures.ids ∙ ap (ids_at ids) c.as_slice-x.ensures ∙ own.0 in
    subst (λ r. TellsOrphan true index.keys r left) one (key_is_absent index.keys c.write_key.new.key t left (ids_at ids index.rule.xp) c.in-None.ensures.absent key own.1 test)
