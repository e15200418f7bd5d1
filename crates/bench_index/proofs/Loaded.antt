-- A table whose rows join one by one.
use Rattle.std.proofs.Common.{◌≡◌, ℕ, ◌+◌, ◌-◌, ◌*◌, ◌≤◌, Bool, true, false, cond, List, Option, Some, None, refl, sym, ap, subst, ◌∙◌, arith}
use Rattle.std.specs.Prelude.{◌==◌, ◌&&◌, nat_lt}
use Rattle.std.specs.List.{AllZip}
use Rattle.std.proofs.lemmas.Bool.Decides.{nat_tests}
use Rattle.row_store.specs.Watch.{entries_of}
use Rattle.row_store.specs.Watches.{HoldsOfRow, IsInStep, with_row}
use Rattle.row_store.specs.declared.watch.Watch.{Ghosts}
use Rattle.row_store.proofs.InStep.{in_step_alike}
use Rattle.row_store.proofs.Zips.{all_through}
use Rattle.bench_index.specs.InStep.{AreInStep, AreMadeAlike}
use Rattle.bench_index.specs.AllIndexes.{Tuples}
use Rattle.bench_index.specs.Loading.{IsWithoutRows, HasGained, HasLoaded, HasNoRows, rows_below, with_table}
use Rattle.bench_index.proofs.Zips.{zip_weaker}

module _ (tuples : Tuples) (table : ℕ) (own : ℕ → Option (List ℕ)) where
  -- no row is there yet
  pub with-none : own 0 ≡ None → IsWithoutRows table tuples → (t r : ℕ) → tuples t r ≡ with_table tuples table (rows_below 1 own) t r
  with-none first without t r = by (t == table) refl (nat_lt r 1) refl
    where
      by : (b : Bool) → (t == table) ≡ b → (c : Bool) → nat_lt r 1 ≡ c → tuples t r ≡ cond b (cond c (own r) None) (tuples t r)
      by false _ c _ = refl
      by true here false _ =
          let at : t ≡ table = grind (arith, nat_tests, here) in
          ap (λ n. tuples n r) at ∙ without r
      by true here true less =
          let at : t ≡ table = grind (arith, nat_tests, here) in
          let zero : 0 ≡ r = grind (arith, nat_tests, less) in
          ap (λ n. tuples n r) at ∙ without r ∙ sym first ∙ ap own zero

  -- the row with this id isn't there yet
  pub not-yet : (id : ℕ) → with_table tuples table (rows_below id own) table id ≡ None
  not-yet id = by (table == table) (grind (arith, nat_tests)) (nat_lt id id) (grind (arith, nat_tests))
    where
      by : (b : Bool) → b ≡ true → (c : Bool) → c ≡ false → cond b (cond c (own id) None) (tuples table id) ≡ None
      by true _ false _ = refl
      by true _ true is = absurd (cc)
      by false is c _ = absurd (cc)

  -- it joins
  pub with-more : (id : ℕ) → (t r : ℕ) → with_row (with_table tuples table (rows_below id own)) table id (own id) t r ≡ with_table tuples table (rows_below (id + 1) own) t r
  with-more id t r = by (t == table)
    where
      at : (c : Bool) → (r == id) ≡ c → (d e : Bool) → nat_lt r id ≡ d → nat_lt r (id + 1) ≡ e → cond c (own id) (cond d (own r) None) ≡ cond e (own r) None
      at true here d true _ _ = let same : id ≡ r = grind (arith, nat_tests, here) in ap own same
      at true here d false _ more = absurd (grind (arith, nat_tests, here, more))
      at false other true true _ _ = refl
      at false other false false _ _ = refl
      at false other true false less more = absurd (grind (arith, nat_tests, less, more))
      at false other false true less more = absurd (grind (arith, nat_tests, other, less, more))

      by : (b : Bool) → cond (b && (r == id)) (own id) (cond b (rows_below id own r) (tuples t r)) ≡ cond b (rows_below (id + 1) own r) (tuples t r)
      by false = refl
      by true = at (r == id) refl (nat_lt r id) (nat_lt r (id + 1)) refl refl

  -- all are there
  pub with-all : (next : ℕ) → ((id : ℕ) → next ≤ id → own id ≡ None) → (t r : ℕ) → with_table tuples table (rows_below next own) t r ≡ with_table tuples table own t r
  with-all next above t r = ap (λ row. cond (t == table) row (tuples t r)) (by (nat_lt r next) refl)
    where
      by : (c : Bool) → nat_lt r next ≡ c → cond c (own r) None ≡ own r
      by true _ = refl
      by false beyond =
          let over : next ≤ r = grind (arith, nat_tests, beyond) in
          sym (above r over)

module _ {Self : Type 0} (watch : Ghosts Self) (table : ℕ) (own : ℕ → Option (List ℕ)) where
  pub none-loaded : own 0 ≡ None → (w : Self) → HasLoaded watch table (rows_below 1 own) w w
  none-loaded first w = record {
    made = refl;
    in_step = λ tuples without held. in_step_alike watch tuples (with_table tuples table (rows_below 1 own)) (with-none tuples table own first without) w held;
  }

  -- of the row that is to join, nothing is held
  pub none-of_row : (id : ℕ) (before now : Self) → HasNoRows watch table before → HasLoaded watch table (rows_below id own) before now → HoldsOfRow watch table id None now
  none-of_row id before now none loaded =
      subst (λ tuple. HoldsOfRow watch table id tuple now) (not-yet none.tuples table own id) (loaded.in_step none.tuples none.none none.in_step table id)

  pub more-loaded : (id : ℕ) (before now after : Self) → HasLoaded watch table (rows_below id own) before now → HasGained watch table id (own id) now after → HasLoaded watch table (rows_below (id + 1) own) before after
  more-loaded id before now after loaded gained = record {
    made = gained.made ∙ loaded.made;
    in_step = λ tuples without held.
        let reached = with_table tuples table (rows_below id own) in
        in_step_alike watch (with_row reached table id (own id)) (with_table tuples table (rows_below (id + 1) own)) (with-more tuples table own id) after
        (gained.in_step reached (not-yet tuples table own id) (loaded.in_step tuples without held));
  }

  pub all-loaded : (next : ℕ) → ((id : ℕ) → next ≤ id → own id ≡ None) → (before after : Self) → HasLoaded watch table (rows_below next own) before after → HasLoaded watch table own before after
  all-loaded next above before after loaded = record {
    made = loaded.made;
    in_step = λ tuples without held.
        in_step_alike watch (with_table tuples table (rows_below next own)) (with_table tuples table own) (with-all tuples table own next above) after (loaded.in_step tuples without held);
  }

  -- a table that gives nothing
  pub nothing-loaded : ((how : watch.Made) (t r : ℕ) (ids : List ℕ) (entry : watch.Entry) → watch.needed how t ≡ false → watch.gives how t r ids entry ≡ false)
      → (w : Self) → watch.needed (watch.made w) table ≡ false → HasLoaded watch table own w w
  nothing-loaded unneeded w needless = record {
    made = refl;
    in_step = λ tuples without held t r entry is_table is_row. by tuples without t r entry (held t r entry is_table is_row) (t == table) refl;
  }
    where
      none : (t r : ℕ) (entry : watch.Entry) → t ≡ table → (tuple : Option (List ℕ)) → entries_of (watch.gives (watch.made w) t r) tuple entry ≡ false
      none t r entry at None = refl
      none t r entry at (Some ids) = unneeded (watch.made w) t r ids entry (ap (watch.needed (watch.made w)) at ∙ needless)

      by : (tuples : Tuples) → IsWithoutRows table tuples → (t r : ℕ) (entry : watch.Entry) → watch.holds w entry ≡ entries_of (watch.gives (watch.made w) t r) (tuples t r) entry → (b : Bool) → (t == table) ≡ b
          → watch.holds w entry ≡ entries_of (watch.gives (watch.made w) t r) (cond b (own r) (tuples t r)) entry
      by tuples without t r entry held false _ = held
      by tuples without t r entry held true here =
          let at : t ≡ table = grind (arith, nat_tests, here) in
          held ∙ none t r entry at (tuples t r) ∙ sym (none t r entry at (own r))

  -- a list of watches that took the rows
  pub made-loaded : (before after : List Self) → AllZip (HasLoaded watch table own) before after → AreMadeAlike watch before after
  made-loaded before after loaded = zip_weaker (HasLoaded watch table own) (λ b a. watch.made a ≡ watch.made b) (λ b a step. step.made) before after loaded

  pub in_step-loaded : (tuples : Tuples) → IsWithoutRows table tuples → (before after : List Self) → AllZip (HasLoaded watch table own) before after → AreInStep watch tuples before → AreInStep watch (with_table tuples table own) after
  in_step-loaded tuples without before after loaded held =
      all_through (IsInStep watch tuples) (IsInStep watch (with_table tuples table own)) (HasLoaded watch table own) (λ b a held step. step.in_step tuples without held) before after held loaded

-- ---- probes

pub probes-more : (row begun before after cost : ℕ) → 1 ≤ row → before ≤ begun + (row - 1) * cost → after ≤ before + cost → after ≤ begun + (row + 1 - 1) * cost
probes-more row begun before after cost from so_far next =
    let same : row + 1 - 1 ≡ (row - 1) + 1 = omega (arith, from) in
    let more : ((row - 1) + 1) * cost ≡ (row - 1) * cost + cost = grind arith in
    rw (same, more) (omega (arith, so_far, next))

pub probes-end : (row next begun after cost : ℕ) → next ≤ row → row - 1 ≤ next - 1 → after ≤ begun + (row - 1) * cost → after ≤ begun + (next - 1) * cost
probes-end row next begun after cost end upto so_far =
    let same : row - 1 ≡ next - 1 = omega (arith, end, upto) in
    subst (λ n. after ≤ begun + n * cost) same so_far

pub probes-watch : (n begun before after sum one more : ℕ) → before ≤ begun + n * sum → after ≤ before + n * one → more ≡ sum + one → after ≤ begun + n * more
probes-watch n begun before after sum one more so_far next all =
    let both : n * (sum + one) ≡ n * sum + n * one = grind arith in
    rw (all, both) (omega (arith, so_far, next))
