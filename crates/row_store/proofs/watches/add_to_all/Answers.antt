use Rattle.std.proofs.Common.{cond, ◌++◌, take, drop, sym, ap, subst, ◌∙◌, arith}
use Rattle.std.specs.Prelude.{All, sum_by}
use Rattle.std.specs.List.{AllZip}
use Rattle.std.proofs.lemmas.List.{take-append-drop}
use Rattle.std.proofs.lemmas.List.Elements.{All-take, recursion_from_All}
use Rattle.std.proofs.lemmas.List.Sums.{sum_by-take-le}
use Rattle.row_store.specs.Tuple.{ids_of, ids_behind}
use Rattle.row_store.specs.Watch.{IsWide}
use Rattle.row_store.specs.Watches.{HoldsOfRow, HoldsOfBoth, HasRemoved, HoldsTheSame, probes_of}
use Rattle.row_store.proofs.Zips.{all_through, zip_then, zip_append, sum_kept}
use Rattle.row_store.proofs.TakenBack.{both_held, taken_back}
use Rattle.row_store.proofs.watches.add_to_all.Goals as goal

pub remove_from_all-requires-clause-present : goal.remove_from_all-requires-clause-present
remove_from_all-requires-clause-present g c =
    let added = c.add_until_refused-added.result in
    let held = all_through (HoldsOfRow g.W.Watch c.args.table c.args.row (ids_behind c.args.old)) (HoldsOfBoth g.W.Watch c.args.table c.args.row (ids_of c.args.new.now) (ids_behind c.args.old)) _
    (both_held g.W.Watch c.args.table c.args.row (ids_behind c.args.old) (ids_of c.args.new.now))
    (take added c.args.watches.now) _ (All-take (HoldsOfRow g.W.Watch c.args.table c.args.row (ids_behind c.args.old)) added c.args.watches.now c.requires.present) c.add_until_refused-added.ensures.added in
    subst (All (HoldsOfBoth g.W.Watch c.args.table c.args.row (ids_of c.args.new.now) (ids_behind c.args.old))) (sym c.split_at_mut-front.ensures.front) held

pub remove_from_all-requires-clause-wide_old : goal.remove_from_all-requires-clause-wide_old
remove_from_all-requires-clause-wide_old g c =
    let added = c.add_until_refused-added.result in
    let IsWideFor : g.row.W.Denot → Type 0 = λ watch. IsWide (g.W.Watch.attributes (g.W.Watch.made watch) c.args.table) (ids_of c.args.new.now) in
    let wide = all_through IsWideFor IsWideFor _
    (λ before after wide step. subst (λ made. IsWide (g.W.Watch.attributes made c.args.table) (ids_of c.args.new.now)) (sym step.made) wide)
    (take added c.args.watches.now) _ (All-take IsWideFor added c.args.watches.now c.requires.wide_new) c.add_until_refused-added.ensures.added in
    subst (All IsWideFor) (sym c.split_at_mut-front.ensures.front) wide

pub remove_from_all-requires-clause-wide_new : goal.remove_from_all-requires-clause-wide_new
remove_from_all-requires-clause-wide_new g c ids is =
    let added = c.add_until_refused-added.result in
    let IsWideFor : g.row.W.Denot → Type 0 = λ watch. IsWide (g.W.Watch.attributes (g.W.Watch.made watch) c.args.table) ids in
    let wide = all_through IsWideFor IsWideFor _
    (λ before after wide step. subst (λ made. IsWide (g.W.Watch.attributes made c.args.table) ids) (sym step.made) wide)
    (take added c.args.watches.now) _ (All-take IsWideFor added c.args.watches.now (c.requires.wide_old ids is)) c.add_until_refused-added.ensures.added in
    subst (All IsWideFor) (sym c.split_at_mut-front.ensures.front) wide

-- what was added is taken back in front, and the others hold what they held
pub returns-clause-err : goal.returns-clause-err
returns-clause-err g c =
    let was = c.args.watches.now in
    let added = c.add_until_refused-added.result in
    let between = c.add_until_refused-added.new.watches in
    let Present : g.row.W.Denot → Type 0 = HoldsOfRow g.W.Watch c.args.table c.args.row (ids_behind c.args.old) in
    let removed = subst (λ xs. AllZip (HasRemoved g.W.Watch c.args.table c.args.row (ids_of c.args.new.now) (ids_behind c.args.old)) xs c.remove_from_all.new.watches) c.split_at_mut-front.ensures.front c.remove_from_all.ensures.removed in
    let front = zip_then Present _ _ (HoldsTheSame g.W.Watch)
    (taken_back g.W.Watch c.args.table c.args.row (ids_behind c.args.old) (ids_of c.args.new.now) g.met.W.Watch.names_row)
    (take added was) (take added between) c.remove_from_all.new.watches
    (recursion_from_All Present _ (All-take Present added was c.requires.present)) c.add_until_refused-added.ensures.added removed in
    let back = subst (λ xs. AllZip (HoldsTheSame g.W.Watch) (drop added was) xs) (sym c.split_at_mut-front.ensures.back) c.add_until_refused-added.ensures.others in
    subst (λ xs. AllZip (HoldsTheSame g.W.Watch) xs (c.remove_from_all.new.watches ++ c.split_at_mut-front.result.1.now)) (take-append-drop added was)
    (zip_append _ (take added was) c.remove_from_all.new.watches (drop added was) c.split_at_mut-front.result.1.now front back)

-- each watch in front costs as much to take back as it did to add
pub returns-clause-probes_twice : goal.returns-clause-probes_twice
returns-clause-probes_twice g c =
    let cost = probes_of g.W.Watch c.args.table in
    let was = c.args.watches.now in
    let added = c.add_until_refused-added.result in
    let same = ap (sum_by cost) c.split_at_mut-front.ensures.front ∙ sum_kept cost _ (λ before after step. ap (λ made. cond (g.W.Watch.needed made c.args.table) (g.W.Watch.cost made) 0) step.made) (take added was) _ c.add_until_refused-added.ensures.added in
    omega (arith, c.add_until_refused-added.ensures.probes, c.remove_from_all.ensures.probes, same, sum_by-take-le cost was added)
