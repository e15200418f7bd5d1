-- Texts that join others: the ids that had a text have it still, so nothing that is stored changes its texts.
use Rattle.std.proofs.Common.{◌≡◌, ℕ, zero, suc, ◌+◌, ◌<◌, List, [], ◌∷◌, ◌++◌, map, take, length, get_or, set, not, cond, Bool, Option, Some, None, All, refl, sym, ap, ◌∙◌, arith, nat_cmp}
use Rattle.std.specs.Option.{ForSome}
use Rattle.std.specs.Ordering.{eq_by_cmp}
use Rattle.std.specs.Cmp.{nat_cmp_total}
use Rattle.std.specs.declared.cmp.Ordering.TheVariants.{Less, Equal, Greater}
use Rattle.std.proofs.lemmas.Bool.Decides.{nat_tests}
use Rattle.std.proofs.lemmas.List.{map-append, take_more}
use Rattle.std.proofs.lemmas.List.Elements.{All-nil, All-cons, All-head, All-tail, All-push, All-filter, All-weaker, All-same, All-set}
use Rattle.std.proofs.lemmas.Option.{slice_get_within, get_or_from_slice_get}
use Rattle.std.specs.FinMap as finmap
use Rattle.std.specs.FinMap.{nat_cmp-IsAntisymmetric}
use Rattle.std.specs.FinMap.Entries as entry
use Rattle.row_store.specs.Store.{Rows}
use Rattle.row_store.specs.Tuple.{ids_if}
use Rattle.value_pool.specs.Pool.{HasId, KeepsIds}
use Rattle.row_takers.proofs.Kept.{AreIds, have-kept, texts-kept}
use Rattle.edit_log.specs.declared.change.Change.{Change}
use Rattle.bench_core.specs.Stored.{Stored, StoredRow, text_of, row_of, table_state, state_of, HaveTexts, RowsHaveTexts}
use Rattle.bench_core.specs.Changes.{with_tuple, before_change, after_change, at_table, taken_back, made_again, before_all, states_before, states_after, history_of, IsChange}

abbrev pub AreNamed : List (List ℕ) → List Stored → Type 0
AreNamed texts tables = All (λ (table : Stored). RowsHaveTexts texts table.rows) tables

-- ---- what is stored keeps its texts

module _ (old new : List (List ℕ)) (kept : KeepsIds old new) where
  pub stored-rows-kept : (rows : List StoredRow) → All (λ (row : StoredRow). HaveTexts old row.1) rows → map (row_of new) rows ≡ map (row_of old) rows
  stored-rows-kept [] have = refl
  stored-rows-kept (row ∷ rows) have =
      λ i. (row.0, texts-kept old new kept row.1 (All-head (λ (row : StoredRow). HaveTexts old row.1) row rows have) i) ∷ stored-rows-kept rows (All-tail (λ (row : StoredRow). HaveTexts old row.1) row rows have) i

  pub rows-kept : (rows : Rows) → RowsHaveTexts old rows → RowsHaveTexts new rows
  rows-kept rows have = All-weaker (λ (row : StoredRow). HaveTexts old row.1) (λ (row : StoredRow). HaveTexts new row.1) (λ row. have-kept old new kept row.1) (finmap.entries rows) have

  pub table-kept : (table : Stored) → RowsHaveTexts old table.rows → table_state new table ≡ table_state old table
  table-kept table have = λ i. record { rows = stored-rows-kept (finmap.entries table.rows) have i; next_id = table.next }

  pub state-kept : (tables : List Stored) → AreNamed old tables → state_of new tables ≡ state_of old tables
  state-kept [] named = refl
  state-kept (table ∷ tables) named =
      λ i. table-kept table (All-head (λ (table : Stored). RowsHaveTexts old table.rows) table tables named) i ∷ state-kept tables (All-tail (λ (table : Stored). RowsHaveTexts old table.rows) table tables named) i

  pub named-kept : (tables : List Stored) → AreNamed old tables → AreNamed new tables
  named-kept tables named = All-weaker (λ (table : Stored). RowsHaveTexts old table.rows) (λ (table : Stored). RowsHaveTexts new table.rows) (λ table. rows-kept table.rows) tables named

  pub change-kept : (change : Change) → IsChange old change → IsChange new change
  change-kept change is = record {
    there = is.there;
    old = λ values at. have-kept old new kept values (is.old values at);
    new = λ values at. have-kept old new kept values (is.new values at);
  }

  pub changes-kept : (changes : List Change) → All (IsChange old) changes → All (IsChange new) changes
  changes-kept changes are = All-weaker (IsChange old) (IsChange new) change-kept changes are

-- ---- a change leaves names to all ids

differs : (k q : ℕ) (there : Option (List ℕ)) → cond (eq_by_cmp nat_cmp q k) None there ≡ cond (not (eq_by_cmp nat_cmp k q)) there None
differs k q there = grind (arith, nat_tests)

-- the entries once a row is taken away
pub entries-remove : (rows : Rows) (id : ℕ) → finmap.entries (finmap.remove rows id) ≡ entry.where_key nat_cmp (λ key. not (eq_by_cmp nat_cmp id key)) (finmap.entries rows)
entries-remove rows id =
    let left : ℕ → Bool = λ key. not (eq_by_cmp nat_cmp id key) in
    entry.same_entries nat_cmp nat_cmp_total nat_cmp-IsAntisymmetric (finmap.entries (finmap.remove rows id)) (entry.where_key nat_cmp left (finmap.entries rows))
    (finmap.entries_sorted (finmap.remove rows id)) (entry.is_sorted-where_key nat_cmp left (finmap.entries rows) (finmap.entries_sorted rows))
    (λ q. sym (finmap.get-entries (finmap.remove rows id) q) ∙ finmap.get-remove nat_cmp_total rows id q ∙ differs id q (finmap.get rows q)
    ∙ ap (λ there. cond (left q) there None) (finmap.get-entries rows q)
    ∙ sym (entry.find-where_key nat_cmp left q (λ x tie. ap left (sym (nat_cmp-IsAntisymmetric q x tie))) (finmap.entries rows)))

module _ (texts : List (List ℕ)) where
  all-put : (id : ℕ) (values : List ℕ) (rows : List StoredRow) → HaveTexts texts values → All (λ (row : StoredRow). HaveTexts texts row.1) rows → All (λ (row : StoredRow). HaveTexts texts row.1) (entry.put nat_cmp id values rows)
  all-put id values [] new have = All-cons (λ (row : StoredRow). HaveTexts texts row.1) (id, values) [] new (All-nil (λ (row : StoredRow). HaveTexts texts row.1))
  all-put id values (row ∷ rows) new have =
      let P : StoredRow → Type 0 = λ row. HaveTexts texts row.1 in
      let first = All-head P row rows have in
      let rest = All-tail P row rows have in
      elim (nat_cmp id row.0) as (λ r. All P (entry.by_order r ((id, values) ∷ row ∷ rows) ((row.0, values) ∷ rows) (row ∷ entry.put nat_cmp id values rows))) [
        | Less ↦ All-cons P (id, values) (row ∷ rows) new have
        | Equal ↦ All-cons P (row.0, values) rows new rest
        | Greater ↦ All-cons P row (entry.put nat_cmp id values rows) first (all-put id values rows new rest)
      ]

  pub named-insert : (rows : Rows) (id : ℕ) (values : List ℕ) → RowsHaveTexts texts rows → HaveTexts texts values → RowsHaveTexts texts (finmap.insert rows id values)
  named-insert rows id values have new =
      All-same (λ (row : StoredRow). HaveTexts texts row.1) (finmap.entries (finmap.insert rows id values)) (entry.put nat_cmp id values (finmap.entries rows)) (finmap.entries-insert nat_cmp_total rows id values) (all-put id values (finmap.entries rows) new have)

  named-with : (rows : Rows) (id : ℕ) (tuple : Option (List ℕ)) → RowsHaveTexts texts rows → ForSome tuple (HaveTexts texts) → RowsHaveTexts texts (with_tuple rows id tuple)
  named-with rows id None have new =
      All-same (λ (row : StoredRow). HaveTexts texts row.1) (finmap.entries (finmap.remove rows id)) (entry.where_key nat_cmp (λ key. not (eq_by_cmp nat_cmp id key)) (finmap.entries rows)) (entries-remove rows id)
      (All-filter (λ (row : StoredRow). not (eq_by_cmp nat_cmp id row.0)) (λ (row : StoredRow). HaveTexts texts row.1) (finmap.entries rows) have)
  named-with rows id (Some values) have new = named-insert rows id values have (new values refl)

  all-at : (n : ℕ) (becomes : Stored → Stored) (tables : List Stored) → ((table : Stored) → RowsHaveTexts texts table.rows → RowsHaveTexts texts (becomes table).rows) → AreNamed texts tables → AreNamed texts (at_table n becomes tables)
  all-at n becomes [] leads named = named
  all-at zero becomes (table ∷ tables) leads named =
      let P : Stored → Type 0 = λ table. RowsHaveTexts texts table.rows in
      All-cons P (becomes table) tables (leads table (All-head P table tables named)) (All-tail P table tables named)
  all-at (suc n) becomes (table ∷ tables) leads named =
      let P : Stored → Type 0 = λ table. RowsHaveTexts texts table.rows in
      All-cons P table (at_table n becomes tables) (All-head P table tables named) (all-at n becomes tables leads (All-tail P table tables named))

  pub named-back : (change : Change) (tables : List Stored) → IsChange texts change → AreNamed texts tables → AreNamed texts (taken_back change tables)
  named-back change tables is named = all-at change.table (before_change change) tables (λ table have. named-with table.rows change.row (ids_if change.old) have is.old) named

  pub named-again : (change : Change) (tables : List Stored) → IsChange texts change → AreNamed texts tables → AreNamed texts (made_again change tables)
  named-again change tables is named = all-at change.table (after_change change) tables (λ table have. named-with table.rows change.row (ids_if change.new) have is.new) named

  named-before : (past : List Change) (tables : List Stored) → All (IsChange texts) past → AreNamed texts tables → AreNamed texts (before_all past tables)
  named-before [] tables are named = named
  named-before (change ∷ past) tables are named =
      named-back change (before_all past tables) (All-head (IsChange texts) change past are) (named-before past tables (All-tail (IsChange texts) change past are) named)

-- ---- so the history stays

module _ (old new : List (List ℕ)) (kept : KeepsIds old new) where
  before-kept : (past : List Change) (tables : List Stored) → All (IsChange old) past → AreNamed old tables → states_before new past tables ≡ states_before old past tables
  before-kept [] tables are named = refl
  before-kept (change ∷ past) tables are named =
      λ i. state-kept old new kept (before_all (change ∷ past) tables) (named-before old (change ∷ past) tables are named) i ∷ before-kept past tables (All-tail (IsChange old) change past are) named i

  after-kept : (undone : List Change) (tables : List Stored) → All (IsChange old) undone → AreNamed old tables → states_after new undone tables ≡ states_after old undone tables
  after-kept [] tables are named = refl
  after-kept (change ∷ undone) tables are named =
      let next = named-again old change tables (All-head (IsChange old) change undone are) named in
      λ i. state-kept old new kept (made_again change tables) next i ∷ after-kept undone (made_again change tables) (All-tail (IsChange old) change undone are) next i

  pub history-kept : (past undone : List Change) (tables : List Stored) → All (IsChange old) past → All (IsChange old) undone → AreNamed old tables → history_of new past undone tables ≡ history_of old past undone tables
  history-kept past undone tables past-are undone-are named =
      λ i. record { past = before-kept past tables past-are named i; present = state-kept old new kept tables named i; undone = after-kept undone tables undone-are named i }

-- ---- texts that are interned

pub text-of-id : (texts : List (List ℕ)) (text : List ℕ) (id : ℕ) → HasId texts text id → text_of texts id ≡ text
text-of-id texts text id has = get_or_from_slice_get texts id text [] has

-- ids of the texts so far, with one more
pub ids-more : (old new : List (List ℕ)) (ids : List ℕ) (all : List (List ℕ)) (i id : ℕ) (text : List ℕ) → AreIds old ids (take i all) → KeepsIds old new → HasId new text id → i < length all → text ≡ get_or all i text → AreIds new (ids ++ id ∷ []) (take (i + 1) all)
ids-more old new ids all i id text are kept has within is = record {
  same =
      map-append (text_of new) ids (id ∷ [])
      ∙ (λ j. texts-kept old new kept ids are.named j ++ text-of-id new text id has j ∷ [])
      ∙ (λ j. are.same j ++ is j ∷ [])
      ∙ sym (take_more all i text within);
  named = All-push (λ value. value < length new) ids id (have-kept old new kept ids are.named) (slice_get_within new id text has);
}

map-set : {X Y : Type 0} (f : X → Y) (xs : List X) (i : ℕ) (x : X) → map f (set xs i x) ≡ set (map f xs) i (f x)
map-set f [] i x = refl
map-set f (y ∷ ys) zero x = refl
map-set f (y ∷ ys) (suc i) x = ap (λ rest. f y ∷ rest) (map-set f ys i x)

-- another text at a column
pub ids-set : (old new : List (List ℕ)) (ids : List ℕ) (column id : ℕ) (text : List ℕ) → HaveTexts old ids → KeepsIds old new → HasId new text id → AreIds new (set ids column id) (set (map (text_of old) ids) column text)
ids-set old new ids column id text have kept has = record {
  same = map-set (text_of new) ids column id ∙ (λ j. set (texts-kept old new kept ids have j) column (text-of-id new text id has j));
  named = All-set (λ value. value < length new) ids column id (slice_get_within new id text has) (have-kept old new kept ids have);
}

-- the texts of ids, with those of one more
pub texts-more : (texts : List (List ℕ)) (ids : List ℕ) (i : ℕ) (text : List ℕ) → i < length ids → HasId texts text (get_or ids i 0) → map (text_of texts) (take (i + 1) ids) ≡ map (text_of texts) (take i ids) ++ text ∷ []
texts-more texts ids i text within has =
    ap (map (text_of texts)) (take_more ids i 0 within)
    ∙ map-append (text_of texts) (take i ids) (get_or ids i 0 ∷ [])
    ∙ ap (λ t. map (text_of texts) (take i ids) ++ t ∷ []) (text-of-id texts text (get_or ids i 0) has)
