-- The rows of tables in stores: what a look-up finds there, and what a change of one store makes of it.
use Rattle.std.proofs.Common.{◌≡◌, ℕ, zero, suc, ◌+◌, ◌<◌, ◌≤◌, Bool, true, false, cond, List, [], ◌∷◌, ◌++◌, length, get_or, set, Option, Some, None, inl, inr, refl, sym, ap, subst, ◌∙◌, true≢false, arith}
use Rattle.std.specs.Prelude.{◌==◌, ◌&&◌, map, IsSome}
use Rattle.std.specs.Ordering.{nat_cmp, eq_by_cmp}
use Rattle.std.specs.Cmp.{nat_cmp_total}
use Rattle.std.specs.FinMap as finite
use Rattle.std.specs.FinMap.Entries.{find}
use Rattle.std.specs.Option.{option_or}
use Rattle.std.proofs.lemmas.Bool.{cases_lt}
use Rattle.std.proofs.lemmas.Bool.Decides.{nat_tests}
use Rattle.row_store.specs.Store.{Store, Rows}
use Rattle.master_index.specs.Masters.{RowName, MasterRows, row_name_cmp}
use Rattle.master_index.specs.Tables.{named_from, rows_of_tables, HasRoom}
use Rattle.master_index.proofs.MasterRowFacts.{names_total, names_apart, name_tie, row_after_insert, row_after_remove, no_row}

-- ---- what is found under a name
find_over : (xs ys : List (RowName × List ℕ)) (name : RowName) → find row_name_cmp name (xs ++ ys) ≡ option_or (find row_name_cmp name xs) (find row_name_cmp name ys)
find_over [] ys name = refl
find_over (x ∷ xs) ys name = by (eq_by_cmp row_name_cmp name x.0) (find_over xs ys name)
  where
    by : (b : Bool) → find row_name_cmp name (xs ++ ys) ≡ option_or (find row_name_cmp name xs) (find row_name_cmp name ys)
        → cond b (Some x.1) (find row_name_cmp name (xs ++ ys)) ≡ option_or (cond b (Some x.1) (find row_name_cmp name xs)) (find row_name_cmp name ys)
    by true rest = refl
    by false rest = rest

nothing : (b : Bool) → ◌≡◌ {A = Option (List ℕ)} (cond b None None) None
nothing true = refl
nothing false = refl

tie : (one other : ℕ) → eq_by_cmp nat_cmp one other ≡ (one == other)
tie one other = grind (arith, nat_tests)

choice : (a b : Bool) (x : List ℕ) (rest : Option (List ℕ)) → cond (a && b) (Some x) (cond a rest None) ≡ cond a (cond b (Some x) rest) None
choice true b x rest = refl
choice false b x rest = refl

find_named : (table : ℕ) (es : List (ℕ × List ℕ)) (t r : ℕ) → find row_name_cmp (t, r) (map (λ e. ((table, e.0), e.1)) es) ≡ cond (t == table) (find nat_cmp r es) None
find_named table [] t r = sym (nothing (t == table))
find_named table (e ∷ es) t r =
    ap (λ b. cond b (Some e.1) (find row_name_cmp (t, r) (map (λ e. ((table, e.0), e.1)) es))) (name_tie (t, r) (table, e.0))
    ∙ ap (λ o. cond ((t == table) && (r == e.0)) (Some e.1) o) (find_named table es t r)
    ∙ choice (t == table) (r == e.0) e.1 (find nat_cmp r es)
    ∙ ap (λ b. cond (t == table) (cond b (Some e.1) (find nat_cmp r es)) None) (sym (tie r e.0))

-- the rows of a table are found under its number, and of no other
same_number : (table t : ℕ) (o : Option (List ℕ)) → t ≡ table → cond (t == table) o None ≡ o
same_number table t o same = grind (arith, nat_tests, same)

other_number : (table t : ℕ) (o : Option (List ℕ)) → table < t → cond (t == table) o None ≡ None
other_number table t o apart = grind (arith, nat_tests, apart)

lower_number : (table t : ℕ) (o : Option (List ℕ)) → t < table → cond (t == table) o None ≡ None
lower_number table t o apart = grind (arith, nat_tests, apart)

or_none : (o : Option (List ℕ)) → option_or o None ≡ o
or_none None = refl
or_none (Some x) = refl

named_before : (base : ℕ) (tables : List Rows) (t r : ℕ) → t < base → find row_name_cmp (t, r) (named_from base tables) ≡ None
named_before base [] t r before = refl
named_before base (rows ∷ later) t r before =
    find_over (map (λ e. ((base, e.0), e.1)) (finite.entries rows)) (named_from (base + 1) later) (t, r)
    ∙ ap (λ o. option_or o (find row_name_cmp (t, r) (named_from (base + 1) later))) (find_named base (finite.entries rows) t r ∙ lower_number base t (find nat_cmp r (finite.entries rows)) before)
    ∙ named_before (base + 1) later t r (omega arith)

named_at : (base k : ℕ) (tables : List Rows) (t r : ℕ) → t ≡ base + k → find row_name_cmp (t, r) (named_from base tables) ≡ finite.get (get_or tables k finite.empty) r
named_at base k [] t r at = sym (finite.get-empty nat_cmp r)
named_at base zero (rows ∷ later) t r at =
    find_over (map (λ e. ((base, e.0), e.1)) (finite.entries rows)) (named_from (base + 1) later) (t, r)
    ∙ ap (λ o. option_or o (find row_name_cmp (t, r) (named_from (base + 1) later))) (find_named base (finite.entries rows) t r ∙ same_number base t (find nat_cmp r (finite.entries rows)) (omega arith))
    ∙ ap (λ o. option_or (find nat_cmp r (finite.entries rows)) o) (named_before (base + 1) later t r (omega arith))
    ∙ or_none (find nat_cmp r (finite.entries rows)) ∙ sym (finite.get-entries rows r)
named_at base (suc k) (rows ∷ later) t r at =
    find_over (map (λ e. ((base, e.0), e.1)) (finite.entries rows)) (named_from (base + 1) later) (t, r)
    ∙ ap (λ o. option_or o (find row_name_cmp (t, r) (named_from (base + 1) later))) (find_named base (finite.entries rows) t r ∙ other_number base t (find nat_cmp r (finite.entries rows)) (omega arith))
    ∙ named_at (base + 1) k later t r (omega arith)

-- ---- a row is that of its table's store
abbrev pub rows_at : List Store → ℕ → Rows
rows_at stores table = get_or (map (λ store. store.rows) stores) table finite.empty

pub row_found : (stores : List Store) (t r : ℕ) → finite.get (rows_of_tables stores) (t, r) ≡ finite.get (rows_at stores t) r
row_found stores t r = finite.get-from_entries names_total (named_from 0 (map (λ store. store.rows) stores)) (t, r) ∙ named_at 0 t (map (λ store. store.rows) stores) t r (omega arith)

rows_past : (stores : List Store) (t : ℕ) → length stores ≤ t → rows_at stores t ≡ finite.empty
rows_past [] t past = refl
rows_past (s ∷ stores) zero past = absurd (omega arith)
rows_past (s ∷ stores) (suc t) past = rows_past stores t (omega arith)

rows_within : (stores : List Store) (t : ℕ) (d : Store) → t < length stores → rows_at stores t ≡ (get_or stores t d).rows
rows_within [] t d within = absurd (omega arith)
rows_within (s ∷ stores) zero d within = refl
rows_within (s ∷ stores) (suc t) d within = rows_within stores t d (omega arith)

pub row_in : (stores : List Store) (t r : ℕ) (store : Store) → t < length stores → store ≡ get_or stores t store → finite.get (rows_of_tables stores) (t, r) ≡ finite.get store.rows r
row_in stores t r store within at = row_found stores t r ∙ ap (λ rows. finite.get rows r) (rows_within stores t store within ∙ sym (ap (λ s. s.rows) at))

pub no_table : (stores : List Store) (t r : ℕ) → length stores ≤ t → finite.get (rows_of_tables stores) (t, r) ≡ None
no_table stores t r past = row_found stores t r ∙ ap (λ rows. finite.get rows r) (rows_past stores t past) ∙ finite.get-empty nat_cmp r

-- a row that is there has a table
pub table_there : (stores : List Store) (t r : ℕ) → IsSome (finite.get (rows_of_tables stores) (t, r)) → t < length stores
table_there stores t r there = elim (cases_lt t (length stores)) [
  | inl within ↦ within
  | inr past ↦ absurd (true≢false (sym (subst IsSome (no_table stores t r past) there)))
]

-- ---- room for a row
pub room_within : (stores : List Store) (table row : ℕ) → HasRoom stores table row → table < length stores
room_within [] table row room = absurd room
room_within (s ∷ stores) zero row room = omega arith
room_within (s ∷ stores) (suc table) row room = omega (arith, room_within stores table row room)

-- ---- what a change makes of the rows
same_rows : (stores : List Store) (m : MasterRows) → ((t r : ℕ) → finite.get m (t, r) ≡ finite.get (rows_at stores t) r) → rows_of_tables stores ≡ m
same_rows stores m is = finite.same_map names_total names_apart (rows_of_tables stores) m (λ name. row_found stores name.0 name.1 ∙ sym (is name.0 name.1))

rows_put_at : (stores : List Store) (table t : ℕ) (now : Store) → table < length stores → rows_at (set stores table now) t ≡ cond (t == table) now.rows (rows_at stores t)
rows_put_at [] table t now within = absurd (omega arith)
rows_put_at (s ∷ stores) zero zero now within = grind (arith, nat_tests)
rows_put_at (s ∷ stores) zero (suc t) now within = grind (arith, nat_tests)
rows_put_at (s ∷ stores) (suc table) zero now within = grind (arith, nat_tests)
rows_put_at (s ∷ stores) (suc table) (suc t) now within = grind (arith, nat_tests, rows_put_at stores table t now (omega arith))

pub no_tables : rows_of_tables [] ≡ finite.empty
no_tables = same_rows [] finite.empty (λ t r. no_row t r ∙ sym (finite.get-empty nat_cmp r))

rows_one_more : (stores : List Store) (t : ℕ) (new : Store) → new.rows ≡ finite.empty → rows_at (stores ++ new ∷ []) t ≡ rows_at stores t
rows_one_more [] zero new empty = empty
rows_one_more [] (suc t) new empty = refl
rows_one_more (s ∷ stores) zero new empty = refl
rows_one_more (s ∷ stores) (suc t) new empty = rows_one_more stores t new empty

pub table_pushed : (stores : List Store) (new : Store) → new.rows ≡ finite.empty → rows_of_tables (stores ++ new ∷ []) ≡ rows_of_tables stores
table_pushed stores new empty = same_rows (stores ++ new ∷ []) (rows_of_tables stores) (λ t r. row_found stores t r ∙ ap (λ rows. finite.get rows r) (sym (rows_one_more stores t new empty)))

-- the table's store was this one, and now it is that one
module _ (stores : List Store) (table : ℕ) (was now : Store) (within : table < length stores) (at : was ≡ get_or stores table was) where
  chosen : (t : ℕ) → cond (t == table) now.rows (rows_at stores t) ≡ rows_at (set stores table now) t
  chosen t = sym (rows_put_at stores table t now within)

  was_there : rows_at stores table ≡ was.rows
  was_there = rows_within stores table was within ∙ sym (ap (λ s. s.rows) at)

  changed : (m : MasterRows) → ((t r : ℕ) → finite.get m (t, r) ≡ finite.get (cond (t == table) now.rows (rows_at stores t)) r) → rows_of_tables (set stores table now) ≡ m
  changed m is = same_rows (set stores table now) m (λ t r. is t r ∙ ap (λ rows. finite.get rows r) (chosen t))

  pub table_alike : now.rows ≡ was.rows → rows_of_tables (set stores table now) ≡ rows_of_tables stores
  table_alike same = changed (rows_of_tables stores) (λ t r. row_found stores t r ∙ ap (λ rows. finite.get rows r) (by t (t == table) refl))
    where
      by : (t : ℕ) (b : Bool) → (t == table) ≡ b → rows_at stores t ≡ cond b now.rows (rows_at stores t)
      by t true is = let here : t ≡ table = grind (arith, nat_tests, is) in ap (rows_at stores) here ∙ was_there ∙ sym same
      by t false is = refl

  pub row_put : (row : ℕ) (ids : List ℕ) → now.rows ≡ finite.insert was.rows row ids → rows_of_tables (set stores table now) ≡ finite.insert (rows_of_tables stores) (table, row) ids
  row_put row ids put = changed (finite.insert (rows_of_tables stores) (table, row) ids) (λ t r.
      row_after_insert (rows_of_tables stores) table row t r ids ∙ ap (λ o. cond ((t == table) && (r == row)) (Some ids) o) (row_found stores t r) ∙ by t r (t == table) refl)
    where
      by : (t r : ℕ) (b : Bool) → (t == table) ≡ b → cond (b && (r == row)) (Some ids) (finite.get (rows_at stores t) r) ≡ finite.get (cond b now.rows (rows_at stores t)) r
      by t r true is = let here : t ≡ table = grind (arith, nat_tests, is) in
          ap (λ n. cond (r == row) (Some ids) (finite.get (rows_at stores n) r)) here ∙ ap (λ rows. cond (r == row) (Some ids) (finite.get rows r)) was_there
          ∙ ap (λ b. cond b (Some ids) (finite.get was.rows r)) (sym (tie r row)) ∙ sym (finite.get-insert nat_cmp_total was.rows row ids r) ∙ ap (λ rows. finite.get rows r) (sym put)
      by t r false is = refl

  pub row_taken : (row : ℕ) → now.rows ≡ finite.remove was.rows row → rows_of_tables (set stores table now) ≡ finite.remove (rows_of_tables stores) (table, row)
  row_taken row taken = changed (finite.remove (rows_of_tables stores) (table, row)) (λ t r.
      row_after_remove (rows_of_tables stores) table row t r ∙ ap (λ o. cond ((t == table) && (r == row)) None o) (row_found stores t r) ∙ by t r (t == table) refl)
    where
      by : (t r : ℕ) (b : Bool) → (t == table) ≡ b → cond (b && (r == row)) None (finite.get (rows_at stores t) r) ≡ finite.get (cond b now.rows (rows_at stores t)) r
      by t r true is = let here : t ≡ table = grind (arith, nat_tests, is) in
          ap (λ n. cond (r == row) None (finite.get (rows_at stores n) r)) here ∙ ap (λ rows. cond (r == row) None (finite.get rows r)) was_there
          ∙ ap (λ b. cond b None (finite.get was.rows r)) (sym (tie r row)) ∙ sym (finite.get-remove nat_cmp_total was.rows row r) ∙ ap (λ rows. finite.get rows r) (sym taken)
      by t r false is = refl

-- ---- a row that is there, and the store of its table
module _ (stores : List Store) (t r : ℕ) (there : IsSome (finite.get (rows_of_tables stores) (t, r))) (store : Store) (at : store ≡ get_or stores t store) where
  pub row_stands : IsSome (finite.get store.rows r)
  row_stands = subst IsSome (row_in stores t r store (table_there stores t r there) at) there

  pub row_was : (ids : List ℕ) → finite.get store.rows r ≡ Some ids → finite.get (rows_of_tables stores) (t, r) ≡ Some ids
  row_was ids is = row_in stores t r store (table_there stores t r there) at ∙ is

  pub row_gone : (now : Store) → now.rows ≡ finite.remove store.rows r → rows_of_tables (set stores t now) ≡ finite.remove (rows_of_tables stores) (t, r)
  row_gone now is = row_taken stores t store now (table_there stores t r there) at r is

  pub row_changed : (now : Store) (ids : List ℕ) → now.rows ≡ finite.insert store.rows r ids → rows_of_tables (set stores t now) ≡ finite.insert (rows_of_tables stores) (t, r) ids
  row_changed now ids is = row_put stores t store now (table_there stores t r there) at r ids is
