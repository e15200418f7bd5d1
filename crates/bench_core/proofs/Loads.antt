-- Loading tables one after another.
use Rattle.std.proofs.Common.{map-id, ◌≡◌, ℕ, ◌+◌, ◌<◌, ◌≤◌, Bool, true, false, List, [], ◌∷◌, ◌++◌, length, take, map, get_or, All, Option, None, Some, arith, ap, sym, ◌∙◌, subst, inl, inr, zero-add, ◌-◌, ◌*◌, ◌^◌, ◌&&◌, ◌||◌, not, nat_le, nat_lt, slice_index, Ok, Err, min, suc, zero, zero-mul, refl}
use Rattle.std.specs.List.{AllZip, enumerate_from, position, position_or_len, range_with_len}
use Rattle.std.proofs.lemmas.List.{take-map, take-take, take-append-le, take_all, take_more, map-append, length-map, length-append, get_or-map}
use Rattle.std.proofs.lemmas.List.Sums.{fails_before_first, position_or_len_is, sum_by-cons}
use Rattle.std.proofs.lemmas.List.FromFn.{length-map-range_with_len, get_or-map-range_with_len, length-enumerate_from, get_or-enumerate_from, length-range_with_len, get_or-range_with_len}
use Rattle.std.proofs.lemmas.Option.{none-some}
use Rattle.std.proofs.lemmas.Slice.Zip.{AllZip-long}
use Rattle.std.proofs.lemmas.List.Elements.{All-weaker}
use Rattle.std.proofs.lemmas.Bool.{cases_lt, lt-ltb, le-ltb, ltb-false, or_parts, and_parts, lt-leb, le-leb, leb-true, false≢true}
use Rattle.schema_core.specs.Lookups.{attrs_at}
use Rattle.schema_core.specs.Rows.{IsRowOf}
use Rattle.text_lists.specs.declared.limits.Limits.{Limits}
use Rattle.schema_core.specs.declared.schema.Table.{Table}
use Rattle.text_lists.specs.Limits.{AreLimits}
use Rattle.rule_model.specs.Books.{Book}
use Rattle.bench_core.specs.State.{TableState, State, IsTableState}
use Rattle.bench_core.specs.Sizes.{is_over, total_rows, total_cells, weight, stopped_weight}
use Rattle.bench_core.specs.Loading.{Tuples, AreTables, first_over, loaded, loaded_table}
use Rattle.bench_core.specs.Found.{unless_found}
use Rattle.bench_core.specs.Bench.{AreCounts, IsBench}
use Rattle.bench_core.proofs.States.{side_by_side}
use Rattle.bench_core.proofs.Totals.{total_rows-push, total_cells-push, nat_le-stopped}

-- tables so far that are a front of all of them
take-loaded : (tables so_far : List Tuples) → so_far ≡ take (length so_far) tables → take (length so_far) (map loaded_table tables) ≡ map loaded_table so_far
take-loaded tables so_far front = take-map loaded_table (length so_far) tables ∙ sym (ap (map loaded_table) front)

-- the same with the next table
take-loaded-more : (tables so_far : List Tuples) (x : Tuples) → length so_far < length tables → so_far ≡ take (length so_far) tables → x ≡ get_or tables (length so_far) x
    → take (length so_far + 1) (map loaded_table tables) ≡ map loaded_table so_far ++ loaded_table x ∷ []
take-loaded-more tables so_far x there front next =
    take-map loaded_table (length so_far + 1) tables
    ∙ ap (map loaded_table) (take_more tables (length so_far) x there ∙ (ap (λ (ts : List Tuples). ts ++ get_or tables (length so_far) x ∷ []) (sym front) ∙ ap (λ (y : Tuples). so_far ++ y ∷ []) (sym next)))
    ∙ map-append loaded_table so_far (x ∷ [])

-- no front of the tables is too many
abbrev pub IsClear : Book → Limits → State → Type 0
IsClear rules limits tables = (place : ℕ) → place < length tables → is_over rules limits (take (place + 1) tables) ≡ false

-- with one more table
pub IsClear-more : (rules : Book) (limits : Limits) (tables : State) (t : TableState) → IsClear rules limits tables → is_over rules limits (tables ++ t ∷ []) ≡ false → IsClear rules limits (tables ++ t ∷ [])
IsClear-more rules limits tables t clear last = λ place lt.
    elim (cases_lt place (length tables)) [
      | inl here ↦ subst (λ (ts : State). is_over rules limits ts ≡ false) (sym (take-append-le (place + 1) tables (t ∷ []) (omega arith))) (clear place here)
      | inr past ↦ subst (λ (ts : State). is_over rules limits ts ≡ false) (sym (take_all (place + 1) (tables ++ t ∷ []) (omega (arith, length-append tables (t ∷ []))))) last
    ]

-- the first number below n that passes
position-some : (p : ℕ → Bool) (n i : ℕ) → i < n → ((k : ℕ) → k < i → p k ≡ false) → p i ≡ true → position p (range_with_len 0 n) ≡ Some i
position-some p n i there before here =
    let long = length-range_with_len 0 n in
    let first : position_or_len p (range_with_len 0 n) ≡ i = position_or_len_is p (range_with_len 0 n) i 0 (omega arith)
    (λ k lt. rw (get_or-range_with_len 0 n k 0 (omega arith), zero-add) (before k lt)) (λ lt. rw (get_or-range_with_len 0 n i 0 there, zero-add) here) in
    rw (first, long, lt-ltb i n there)

-- no number below n passes
position-none : (p : ℕ → Bool) (n : ℕ) → ((k : ℕ) → k < n → p k ≡ false) → position p (range_with_len 0 n) ≡ None
position-none p n before =
    let long = length-range_with_len 0 n in
    let first : position_or_len p (range_with_len 0 n) ≡ n = position_or_len_is p (range_with_len 0 n) n 0 (omega arith)
    (λ k lt. rw (get_or-range_with_len 0 n k 0 lt, zero-add) (before k lt)) (λ lt. absurd (omega arith)) in
    rw (first, long, le-ltb n n (omega arith))

-- where no number below n passes, each fails
none-fails : (p : ℕ → Bool) (n k : ℕ) → position p (range_with_len 0 n) ≡ None → k < n → p k ≡ false
none-fails p n k none lt =
    let numbers = range_with_len 0 n in
    let long = length-range_with_len 0 n in
    elim (cases_lt (position_or_len p numbers) (length numbers)) [
      | inl within ↦
          let some : position p numbers ≡ Some (position_or_len p numbers) = rw (lt-ltb (position_or_len p numbers) (length numbers) within) in
          absurd (none-some _ (sym none ∙ some))
      | inr past ↦ let fails = fails_before_first p numbers k 0 (omega arith) in rw (get_or-range_with_len 0 n k 0 lt, zero-add) at fails
    ]

-- where no front is too many, there is no first table with which they are
pub first_over-none : (rules : Book) (limits : Limits) (tables : State) → IsClear rules limits tables → first_over rules limits tables ≡ None
first_over-none rules limits tables clear = position-none (λ place. is_over rules limits (take (place + 1) tables)) (length tables) clear

-- with the next table the rows so far are too many
pub first_over-some : (rules : Book) (limits : Limits) (tables so_far : List Tuples) (x : Tuples) → length so_far < length tables → so_far ≡ take (length so_far) tables → x ≡ get_or tables (length so_far) x
    → IsClear rules limits (map loaded_table so_far) → is_over rules limits (map loaded_table so_far ++ loaded_table x ∷ []) ≡ true → first_over rules limits (map loaded_table tables) ≡ Some (length so_far)
first_over-some rules limits tables so_far x there front next clear over =
    position-some (λ place. is_over rules limits (take (place + 1) (map loaded_table tables))) (length (map loaded_table tables)) (length so_far) (rw (length-map tables loaded_table) there)
    (λ place lt. subst (λ (ts : State). is_over rules limits ts ≡ false) (ap (take (place + 1)) (sym (take-loaded tables so_far front)) ∙ take-take (place + 1) (length so_far) (map loaded_table tables) (omega arith)) (clear place (rw (length-map so_far loaded_table) lt)))
    (subst (λ (ts : State). is_over rules limits ts ≡ true) (sym (take-loaded-more tables so_far x there front next)) over)

-- a place of a numbering is one of what it numbers
inside : {X : Type 0} (rows : List X) (k : ℕ) → k < length (enumerate_from 1 rows) → k < length rows
inside rows k lt = rw (length-enumerate_from 1 rows) at lt

-- a table as it is loaded is a state of it
pub loaded-state : (table : Table) (cell_bytes last_id : ℕ) (rows : Tuples) → All (IsRowOf table.attrs cell_bytes) rows → length rows ≤ last_id → IsTableState cell_bytes last_id table (loaded_table rows)
loaded-state table cell_bytes last_id rows fit few = record {
  fit = λ k d lt. let there : k < length rows = inside rows k lt in rw (get_or-enumerate_from 1 rows k d there) (fit k d.1 there);
  from_one = λ k d lt. rw (get_or-enumerate_from 1 rows k d (inside rows k lt)) (omega arith);
  rising = λ i j d lt in_rows. let there : j < length rows = inside rows j in_rows in rw (get_or-enumerate_from 1 rows i d (omega arith), get_or-enumerate_from 1 rows j d there) (omega arith);
  below_next = λ k d lt. let there : k < length rows = inside rows k lt in rw (get_or-enumerate_from 1 rows k d there) (omega arith);
  next = (omega arith, omega arith);
}

-- tables as they are loaded are states of them, where they have no more rows than there are ids
pub loaded-states : (tables : List Table) (cell_bytes last_id : ℕ) (rows : List Tuples) → AllZip (λ (table : Table) (rs : Tuples). All (IsRowOf table.attrs cell_bytes) rs) tables rows
    → total_rows (map loaded_table rows) ≤ last_id → AllZip (IsTableState cell_bytes last_id) tables (map loaded_table rows)
loaded-states [] cell_bytes last_id [] fit few = tt
loaded-states [] cell_bytes last_id (r ∷ rs) fit few = absurd fit
loaded-states (t ∷ ts) cell_bytes last_id [] fit few = absurd fit
loaded-states (t ∷ ts) cell_bytes last_id (r ∷ rs) fit few =
    let long = length-enumerate_from 1 r in
    let total = sum_by-cons (λ (t : TableState). length t.rows) (loaded_table r) (map loaded_table rs) in
    (loaded-state t cell_bytes last_id r fit.0 (omega arith), loaded-states ts cell_bytes last_id rs fit.1 (omega arith))

-- the same in the words of a loop that holds what it loaded so far
pub first_over-here : (rules : Book) (limits : Limits) (tables so_far : List Tuples) (x : Tuples) (loaded : State) (n : ℕ) → length so_far < length tables → so_far ≡ take (length so_far) tables → x ≡ get_or tables (length so_far) x
    → loaded ≡ map loaded_table so_far → n ≡ length loaded → IsClear rules limits loaded → is_over rules limits (loaded ++ loaded_table x ∷ []) ≡ true → first_over rules limits (map loaded_table tables) ≡ Some n
first_over-here rules limits tables so_far x loaded n there front next is n-is clear over =
    let place : n ≡ length so_far = n-is ∙ (ap length is ∙ length-map so_far loaded_table) in
    let first = first_over-some rules limits tables so_far x there front next (subst (IsClear rules limits) is clear) (subst (λ (ts : State). is_over rules limits (ts ++ loaded_table x ∷ []) ≡ true) is over) in
    rw place first

-- all tables together are not too many, where no front is
pub rows-within : (rules : Book) (limits : Limits) (tables : State) → first_over rules limits tables ≡ None → total_rows tables ≤ limits.rows
rows-within rules limits [] none = omega arith
rows-within rules limits (t ∷ tables) none =
    let all = t ∷ tables in
    let fails = none-fails (λ place. is_over rules limits (take (place + 1) all)) (length all) (length tables) none (omega arith) in
    let over : is_over rules limits all ≡ false = rw (take_all (length tables + 1) all (omega arith)) at fails in
    ltb-false limits.rows (total_rows all) (or_parts _ _ over).0

pub cells-within : (rules : Book) (limits : Limits) (tables : State) → first_over rules limits tables ≡ None → total_cells rules tables ≤ limits.index_cells
cells-within rules limits [] none = omega arith
cells-within rules limits (t ∷ tables) none =
    let all = t ∷ tables in
    let fails = none-fails (λ place. is_over rules limits (take (place + 1) all)) (length all) (length tables) none (omega arith) in
    let over : is_over rules limits all ≡ false = rw (take_all (length tables + 1) all (omega arith)) at fails in
    ltb-false limits.index_cells (total_cells rules all) (or_parts _ _ over).1

-- ---- a loop that loads one table after another

-- what it holds: the tables so far, no front of which is too many, and how much they are
pub record IsSoFar (rules : Book) (limits : Limits) (so_far : List Tuples) (state : State) (weights : List ℕ) (rows cells : ℕ) : Type 0 where
  pub loaded-is : state ≡ map loaded_table so_far
  pub clear : IsClear rules limits state
  pub counts : AreCounts rules state weights rows cells
  pub few_rows : rows ≤ limits.rows
  pub few_cells : cells ≤ limits.index_cells

not-false : (b : Bool) → not b ≡ false → b ≡ true
not-false true is = refl
not-false false is = absurd (false≢true (sym is))

not-true : (b : Bool) → not b ≡ true → b ≡ false
not-true true is = absurd (false≢true is)
not-true false is = refl

-- a product with a factor that stops, within a bound below where it stops, doesn't stop
mul-unstopped : (k w m most : ℕ) → k * min w m ≤ most → most < m → k * min w m ≡ k * w
mul-unstopped zero w m most within below = simp zero-mul
mul-unstopped (suc k) w m most within below = elim (cases_lt m w) [
  | inl above ↦
      let least : min w m ≡ m = omega arith in
      let low : m ≤ suc k * m = grind arith in
      let high : suc k * m ≤ most = rw least at within in
      absurd (omega arith)
  | inr few ↦ let least : min w m ≡ w = omega arith in rw least refl
]

not-over : (a b c d : ℕ) → (nat_le a b && nat_le c d) ≡ not (nat_lt b a || nat_lt d c)
not-over a b c d = elim (cases_lt b a) [
  | inl more ↦ rw (lt-leb a b more, lt-ltb b a more) refl
  | inr few ↦ elim (cases_lt d c) [
    | inl more ↦ rw (le-leb a b few, le-ltb b a few, lt-leb c d more, lt-ltb d c more) refl
    | inr less ↦ rw (le-leb a b few, le-ltb b a few, le-leb c d less, le-ltb d c less) refl
  ]
]

module _ {rules : Book} {limits : Limits} {so_far : List Tuples} {state : State} {weights : List ℕ} {rows cells : ℕ} (held : IsSoFar rules limits so_far state weights rows cells)
    (allowed : AreLimits limits) (within : length state < length rules.schema.tables) (x : Tuples) where
  pub in_weights : length state < length weights
  in_weights = rw (held.counts.weights-is) (rw (length-map-range_with_len (stopped_weight rules) 0 (length rules.schema.tables)) within)

  weight-is : slice_index weights (length state) ≡ stopped_weight rules (length state)
  weight-is = rw (held.counts.weights-is) (get_or-map-range_with_len (stopped_weight rules) 0 (length rules.schema.tables) (length state) (length state) 0 within (omega arith))

  rows-more : total_rows (state ++ loaded_table x ∷ []) ≡ rows + length x
  rows-more = rw (total_rows-push state (loaded_table x), held.counts.rows-is, length-enumerate_from 1 x) refl

  cells-more : total_cells rules (state ++ loaded_table x ∷ []) ≡ cells + length x * weight rules (length state)
  cells-more = rw (total_cells-push rules state (loaded_table x), held.counts.cells-is, length-enumerate_from 1 x) refl

  pub room-is : (nat_le (rows + length x) limits.rows && nat_le (cells + length x * slice_index weights (length state)) limits.index_cells) ≡ not (is_over rules limits (state ++ loaded_table x ∷ []))
  room-is =
      let most = allowed.index_cells in
      rw (weight-is, nat_le-stopped cells (length x) (weight rules (length state)) (2 ^ 64 - 1) limits.index_cells (omega arith), rows-more, cells-more) (not-over (rows + length x) limits.rows (cells + length x * weight rules (length state)) limits.index_cells)

  -- where there is room for the next table
  module _ (room : (nat_le (rows + length x) limits.rows && nat_le (cells + length x * slice_index weights (length state)) limits.index_cells) ≡ true) where
    pub rows-fit : rows + length x ≤ limits.rows
    rows-fit = leb-true (rows + length x) limits.rows (and_parts (nat_le (rows + length x) limits.rows) _ room).0

    pub cells-fit : cells + length x * slice_index weights (length state) ≤ limits.index_cells
    cells-fit = leb-true _ _ (and_parts (nat_le (rows + length x) limits.rows) _ room).1

    product : length x * slice_index weights (length state) ≡ length x * weight rules (length state)
    product =
        let most = allowed.index_cells in
        let fit = cells-fit in
        let stopped : length x * stopped_weight rules (length state) ≤ limits.index_cells = rw (← weight-is) (omega arith) in
        rw weight-is (mul-unstopped (length x) (weight rules (length state)) (2 ^ 64 - 1) limits.index_cells stopped (omega arith))

    clear-more : is_over rules limits (state ++ loaded_table x ∷ []) ≡ false
    clear-more = not-true (is_over rules limits (state ++ loaded_table x ∷ [])) (sym room-is ∙ room)

    pub held-more : IsSoFar rules limits (so_far ++ x ∷ []) (state ++ loaded_table x ∷ []) weights (rows - 0 + length x) (cells - 0 * slice_index weights (length state) + length x * slice_index weights (length state))
    held-more =
        let none : 0 * slice_index weights (length state) ≡ 0 = zero-mul (slice_index weights (length state)) in
        let fit = cells-fit in
        let fit_rows = rows-fit in
        let more = rows-more in
        let more_cells = cells-more in
        record {
          loaded-is = rw (held.loaded-is) (sym (map-append loaded_table so_far (x ∷ [])));
          clear = IsClear-more rules limits state (loaded_table x) held.clear clear-more;
          counts = record {
            weights-is = held.counts.weights-is;
            rows-is = omega arith;
            cells-is = rw (none, product, more_cells) (omega arith);
          };
          few_rows = omega arith;
          few_cells = rw none (omega arith);
        }

-- ---- one turn of the loop

-- the table is the next one after those so far
pub record IsNext (tables so_far : List Tuples) (x : Tuples) : Type 0 where
  pub there : length so_far < length tables
  pub front : so_far ≡ take (length so_far) tables
  pub next : x ≡ get_or tables (length so_far) x

-- the same of what a loop goes over, seen as tables
pub is-next : {X : Type 0} (view : X → Tuples) (all so_far : List X) (x : X) → length so_far < length all → map (λ t. t) so_far ≡ take (length so_far) all → x ≡ get_or all (length so_far) x → IsNext (map view all) (map view so_far) (view x)
is-next view all so_far x there front next = record {
  there = rw (length-map so_far view, length-map all view) there;
  front = ap (map view) (sym (map-id so_far) ∙ front) ∙ sym (take-map view (length so_far) all) ∙ ap (λ n. take n (map view all)) (sym (length-map so_far view));
  next = rw (length-map so_far view) (ap view next ∙ sym (get_or-map view all (length so_far) x (view x) there));
}

module _ {rules : Book} {limits : Limits} {so_far : List Tuples} {state : State} {weights : List ℕ} {rows cells : ℕ} (held : IsSoFar rules limits so_far state weights rows cells)
    (allowed : AreLimits limits) (tables : List Tuples) (each : length tables ≡ length rules.schema.tables) (x : Tuples) (is : IsNext tables so_far x) (n k : ℕ) (n-is : n ≡ length state) (k-is : k ≡ length x) where
  within : length state < length rules.schema.tables
  within = rw (held.loaded-is, length-map so_far loaded_table, ← each) is.there

  pub place_in_weights : n < length weights
  place_in_weights = rw n-is (in_weights held allowed within x)

  -- the table is the first with which they are too many
  pub loaded-full : (has : Bool) → has ≡ (nat_le (rows + k) limits.rows && nat_le (cells + k * slice_index weights n) limits.index_cells) → has ≡ false → loaded rules limits tables ≡ Err n
  loaded-full has tested full =
      let room : has ≡ not (is_over rules limits (state ++ loaded_table x ∷ [])) = (rw (k-is, n-is) at tested) ∙ room-is held allowed within x in
      let over : is_over rules limits (state ++ loaded_table x ∷ []) ≡ true = not-false (is_over rules limits (state ++ loaded_table x ∷ [])) (sym room ∙ full) in
      rw (first_over-here rules limits tables so_far x state n is.there is.front is.next held.loaded-is n-is held.clear over) refl

  module _ (has : Bool) (tested : has ≡ (nat_le (rows + k) limits.rows && nat_le (cells + k * slice_index weights n) limits.index_cells)) (free : has ≡ true) where
    room : (nat_le (rows + length x) limits.rows && nat_le (cells + length x * slice_index weights (length state)) limits.index_cells) ≡ true
    room = sym (rw (k-is, n-is) at tested) ∙ free

    pub few_tuples : rows + length x ≤ limits.rows
    few_tuples = rows-fit held allowed within x room

    pub few_more_cells : cells + k * slice_index weights n ≤ limits.index_cells
    few_more_cells = rw (k-is, n-is) (cells-fit held allowed within x room)

    pub turned : IsSoFar rules limits (so_far ++ x ∷ []) (state ++ loaded_table x ∷ []) weights (rows - 0 + k) (cells - 0 * slice_index weights n + k * slice_index weights n)
    turned = rw (k-is, n-is) (held-more held allowed within x room)

-- each row of the next table has as many texts as the table has attributes
pub turn-full : {rules : Book} {limits : Limits} {so_far : List Tuples} {state : State} {weights : List ℕ} {rows cells : ℕ} → IsSoFar rules limits so_far state weights rows cells → (cell_bytes : ℕ) (tables : List Tuples) → AreTables rules.schema cell_bytes tables
    → (x : Tuples) → IsNext tables so_far x → (n : ℕ) → n ≡ length state → All (λ (texts : List (List ℕ)). length texts ≡ length (attrs_at rules.schema n)) x
turn-full {rules} {so_far = so_far} held cell_bytes tables fit x turn n is =
    let place : n ≡ length so_far = is ∙ ap length held.loaded-is ∙ length-map so_far loaded_table in
    let (table, found, fits) = side_by_side (λ (table : Table) (rows : Tuples). All (IsRowOf table.attrs cell_bytes) rows) rules.schema.tables tables (length so_far) x fit turn.there in
    let wide = All-weaker (IsRowOf table.attrs cell_bytes) (λ (texts : List (List ℕ)). length texts ≡ length table.attrs) (λ row of. AllZip-long _ _ _ of.domains) x (subst (All (IsRowOf table.attrs cell_bytes)) (sym turn.next) fits) in
    rw (place, found) wide

-- the bench of tables that are loaded
loaded_as : (rules : Book) (limits : Limits) (tables : List Tuples) (state : State) → AreLimits limits → AreTables rules.schema limits.cell_bytes tables → (found : Option ℕ) → first_over rules limits (map loaded_table tables) ≡ found
    → unless_found found (map loaded_table tables) ≡ Ok state → IsBench rules limits state
loaded_as rules limits tables state allowed fit (Some place) first is = absurd (cc)
loaded_as rules limits tables state allowed fit None first is =
    let same : map loaded_table tables ≡ state = cc in
    let few = rows-within rules limits (map loaded_table tables) first in
    let ids = allowed.id_for_each_row in
    subst (IsBench rules limits) same (record {
      allowed = allowed;
      tables = loaded-states rules.schema.tables limits.cell_bytes limits.last_id tables fit (omega arith);
      few_rows = few;
      few_cells = cells-within rules limits (map loaded_table tables) first;
    })

pub loaded-bench : (rules : Book) (limits : Limits) (tables : List Tuples) (state : State) → AreLimits limits → AreTables rules.schema limits.cell_bytes tables → loaded rules limits tables ≡ Ok state → IsBench rules limits state
loaded-bench rules limits tables state allowed fit is = loaded_as rules limits tables state allowed fit (first_over rules limits (map loaded_table tables)) refl is

-- where the loop ends, all tables are loaded
pub loaded-all : {rules : Book} {limits : Limits} {so_far : List Tuples} {state : State} {weights : List ℕ} {rows cells : ℕ} → IsSoFar rules limits so_far state weights rows cells → (tables : List Tuples) → so_far ≡ tables → loaded rules limits tables ≡ Ok state
loaded-all {rules} {limits} {so_far} {state} held tables all =
    let same : state ≡ map loaded_table tables = held.loaded-is ∙ ap (map loaded_table) all in
    let none : first_over rules limits (map loaded_table tables) ≡ None = first_over-none rules limits (map loaded_table tables) (subst (IsClear rules limits) same held.clear) in
    rw (none, same) refl
