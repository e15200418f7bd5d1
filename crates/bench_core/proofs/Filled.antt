-- A table that is loaded row by row, and tables one after another.
use Rattle.std.proofs.Common.{◌≡◌, ℕ, ◌+◌, ◌<◌, ◌≤◌, List, [], ◌∷◌, ◌++◌, map, length, get_or, All, Option, Some, None, refl, sym, ap, subst, ◌∙◌, arith, nat_cmp}
use Rattle.std.specs.List.{enumerate_from, slice_get}
use Rattle.std.specs.Option.{ForSome}
use Rattle.std.specs.Cmp.{nat_cmp_total}
use Rattle.std.proofs.lemmas.List.{map-append, length-map, get_or-map}
use Rattle.std.proofs.lemmas.List.FromFn.{length-enumerate_from, get_or-enumerate_from}
use Rattle.std.proofs.lemmas.List.Elements.{All-nil, All-map, All-push, All-get_or, All-same}
use Rattle.std.specs.FinMap as finmap
use Rattle.row_store.specs.Store.{Store, Rows}
use Rattle.row_store.specs.Tuple.{Tuple, ids_of}
use Rattle.row_takers.specs.Taken as taken
use Rattle.row_takers.specs.Taken.{rows_in}
use Rattle.text_lists.specs.declared.limits.Limits.{Limits}
use Rattle.rule_model.specs.Books.{Book}
use Rattle.bench_core.specs.State.{TableState, State, rows_at}
use Rattle.bench_core.specs.Loading.{loaded_table}
use Rattle.bench_core.specs.Stored.{AreInOrder, HasOneMore, Stored, StoredRow, stored, row_of, text_of, table_state, state_of, HaveTexts, RowsHaveTexts}
use Rattle.edit_log.specs.Journal.{Journal}
use Rattle.bench_core.specs.Changes.{IsChange}
use Rattle.bench_core.specs.Bench.{IsBench, AreCounts, Holds}
use Rattle.bench_core.proofs.Numbers.{enumerate_from-push}
use Rattle.bench_core.proofs.Named.{AreNamed}
use Rattle.bench_core.proofs.Entries.{put-above}
use Rattle.bench_core.proofs.Planned.{found-has}
use Rattle.bench_core.proofs.Holding.{held-log}

-- ---- one table

no-length : {X : Type 0} (xs : List X) → length xs ≡ 0 → xs ≡ []
no-length [] none = refl
no-length (x ∷ xs) none = absurd (omega arith)

entries-none : (rows : Rows) → rows ≡ finmap.empty → finmap.entries rows ≡ []
entries-none rows is = no-length (finmap.entries rows) (sym (finmap.len-entries rows) ∙ ap finmap.len is ∙ finmap.len-empty nat_cmp (List ℕ))

pub in_order-none : (table : Stored) → table.rows ≡ finmap.empty → table.next ≡ 1 → AreInOrder [] table
in_order-none table none first = record { entries-are = entries-none table.rows none; next-is = first }

length-push : {X : Type 0} (xs : List X) (x : X) → length (xs ++ x ∷ []) ≡ length xs + 1
length-push [] x = refl
length-push (y ∷ ys) x = let ih = length-push ys x in omega arith

-- a row more, at the next id
pub in_order-more : (so_far : List (List ℕ)) (ids : List ℕ) (table more : Stored) → AreInOrder so_far table → more.rows ≡ finmap.insert table.rows table.next ids → more.next ≡ table.next + 1 → AreInOrder (so_far ++ ids ∷ []) more
in_order-more so_far ids table more is more-is after =
    let place : table.next ≡ 1 + length so_far = let next = is.next-is in omega arith in
    let below : All (λ (row : StoredRow). row.0 < table.next) (enumerate_from 1 so_far) = λ k d lt.
    let there : k < length so_far = rw (length-enumerate_from 1 so_far) at lt in
    rw (get_or-enumerate_from 1 so_far k d there) (omega arith) in
    record {
      entries-are =
          ap finmap.entries more-is
          ∙ finmap.entries-insert nat_cmp_total table.rows table.next ids
          ∙ put-above table.next ids (finmap.entries table.rows) (All-same (λ (row : StoredRow). row.0 < table.next) (finmap.entries table.rows) (enumerate_from 1 so_far) is.entries-are below)
          ∙ (λ i. is.entries-are i ++ (place i, ids) ∷ [])
          ∙ sym (enumerate_from-push 1 so_far ids);
      next-is = let next = is.next-is in rw (length-push so_far ids) (omega arith);
    }

module _ {tuples : List (List ℕ)} {table : Stored} (is : AreInOrder tuples table) where
  -- what holds of all tuples, and of numbers from one on, holds of each row
  each-row : (P : ℕ → List ℕ → Type 0) → ((id k : ℕ) (d : List ℕ) → 1 ≤ id → k < length tuples → P id (get_or tuples k d)) → All (λ (row : StoredRow). P row.0 row.1) (finmap.entries table.rows)
  each-row P holds = All-same (λ (row : StoredRow). P row.0 row.1) (finmap.entries table.rows) (enumerate_from 1 tuples) is.entries-are (λ k d lt.
      let there : k < length tuples = rw (length-enumerate_from 1 tuples) at lt in
      rw (get_or-enumerate_from 1 tuples k d there) (holds (1 + k) k d.1 (omega arith) there))

  row-has : (P : ℕ → List ℕ → Type 0) → ((id k : ℕ) (d : List ℕ) → 1 ≤ id → k < length tuples → P id (get_or tuples k d)) → (row : ℕ) → ForSome (finmap.get table.rows row) (P row)
  row-has P holds row ids at = found-has P row ids (finmap.entries table.rows) (each-row P holds) (sym (finmap.get-entries table.rows row) ∙ at)

  -- each row is as wide as the tuples
  pub rows-wide : (width : ℕ) → All (λ ids. length ids ≡ width) tuples → (row : ℕ) → ForSome (finmap.get table.rows row) (λ ids. length ids ≡ width)
  rows-wide width wide = row-has (λ id ids. length ids ≡ width) (λ id k d from there. wide k d there)

  -- no row is at the place before the first
  pub first-none : finmap.get table.rows 0 ≡ None
  first-none = none-of (finmap.get table.rows 0) (λ ids at. let from = row-has (λ id ids. 1 ≤ id) (λ id k d from there. from) 0 ids at in absurd (omega (arith, from)))
    where
      none-of : (found : Option (List ℕ)) → ((ids : List ℕ) → found ≡ Some ids → ⊥) → found ≡ None
      none-of None none = refl
      none-of (Some ids) none = absurd (none ids refl)

-- the same of a table whose texts lie in a pool
module _ (texts : List (List ℕ)) (rows : List Tuple) (table : Stored) (is : AreInOrder (map ids_of rows) table) where
  enumerated : (n : ℕ) (rows : List Tuple) → map (row_of texts) (enumerate_from n (map ids_of rows)) ≡ enumerate_from n (rows_in texts rows)
  enumerated n [] = refl
  enumerated n (row ∷ rows) = ap (λ later. (n, taken.texts_of texts (ids_of row)) ∷ later) (enumerated (n + 1) rows)

  pub table-loaded : table_state texts table ≡ loaded_table (rows_in texts rows)
  table-loaded = λ i. record {
    rows = (ap (map (row_of texts)) is.entries-are ∙ enumerated 1 rows) i;
    next_id = (is.next-is ∙ ap (λ n. n + 1) (length-map rows ids_of ∙ sym (length-map rows (λ tuple. taken.texts_of texts (ids_of tuple))))) i;
  }

  pub table-named : taken.AreNamed texts rows → RowsHaveTexts texts table.rows
  table-named named = each-row is (λ id ids. HaveTexts texts ids) (λ id k d from there. All-map (HaveTexts texts) ids_of rows named k d there)

-- its tuples are as wide as their texts
pub tuples-wide : (texts : List (List ℕ)) (width : ℕ) (rows : List Tuple) → All (λ (row : List (List ℕ)). length row ≡ width) (rows_in texts rows) → All (λ ids. length ids ≡ width) (map ids_of rows)
tuples-wide texts width rows wide = All-map (λ (ids : List ℕ). length ids ≡ width) ids_of rows (λ k d lt.
    let view : Tuple → List (List ℕ) = λ tuple. taken.texts_of texts (ids_of tuple) in
    sym (length-map (ids_of (get_or rows k d)) (text_of texts)) ∙ (rw (get_or-map view rows k d (view d) lt) at (wide k (view d) (rw length-map lt))))

-- ---- several tables

module _ (texts : List (List ℕ)) (rows : List Tuple) (before after : List Stored) (more : HasOneMore (map ids_of rows) before after) where
  pub state-more : state_of texts after ≡ state_of texts before ++ loaded_table (rows_in texts rows) ∷ []
  state-more =
      ap (state_of texts) more.last
      ∙ map-append (table_state texts) before (more.table ∷ [])
      ∙ ap (λ table. state_of texts before ++ table ∷ []) (table-loaded texts rows more.table more.in_order)

  pub named-more : taken.AreNamed texts rows → AreNamed texts before → AreNamed texts after
  named-more named so_far =
      subst (AreNamed texts) (sym more.last) (All-push (λ (table : Stored). RowsHaveTexts texts table.rows) before more.table so_far (table-named texts rows more.table more.in_order named))

pub length-state : (texts : List (List ℕ)) (stores : List Store) → length (state_of texts (map stored stores)) ≡ length stores
length-state texts stores = length-map (map stored stores) (table_state texts) ∙ length-map stores stored

-- a bench that is loaded has no changes yet
pub held-fresh : (rules : Book) (limits : Limits) (texts : List (List ℕ)) (log : Journal) (stores : List Store) (weights : List ℕ) (rows cells : ℕ) → log.past ≡ [] → log.undone ≡ [] → IsBench rules limits (state_of texts (map stored stores))
    → AreCounts rules (state_of texts (map stored stores)) weights rows cells → AreNamed texts (map stored stores) → Holds rules limits texts log (map stored stores) weights rows cells
held-fresh rules limits texts log stores weights rows cells past undone bench counts named =
    let none : Journal = record { past = []; undone = []; spare = 0 } in
    let held : Holds rules limits texts none (map stored stores) weights rows cells = record {
      history = record { past = All-nil (IsBench rules limits); present = bench; undone = All-nil (IsBench rules limits) };
      counts = counts;
      past = tt;
      undone = tt;
      named = named;
      past-named = All-nil (IsChange texts);
      undone-named = All-nil (IsChange texts);
    } in
    held-log log past undone held

-- ---- the rows of a table with their texts

pub rows_at-is : (state : State) (n : ℕ) (table : TableState) → slice_get state n ≡ Some table → rows_at state n ≡ table.rows
rows_at-is state n table is = rw is refl

-- a row of the table has texts for its ids
pub row-named : (texts : List (List ℕ)) (rows : List StoredRow) (n : ℕ) (row : StoredRow) → All (λ (row : StoredRow). HaveTexts texts row.1) rows → n < length rows → row ≡ get_or rows n row → HaveTexts texts row.1
row-named texts rows n row have within is = subst (λ (row : StoredRow). HaveTexts texts row.1) (sym is) (All-get_or (λ (row : StoredRow). HaveTexts texts row.1) rows n row within have)
