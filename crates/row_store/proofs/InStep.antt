-- A watch that is in step with the rows stays in step when one row changes: first its new entries are
-- added, where it has a new tuple, and then its old ones are taken away, where it had an old tuple.
use Rattle.std.proofs.Common.{◌≡◌, ℕ, Bool, true, false, cond, List, Option, Some, None, refl, sym, ap, subst, ◌∙◌, arith}
use Rattle.std.specs.Prelude.{◌||◌, ◌&&◌, ◌==◌}
use Rattle.std.proofs.lemmas.Bool.Decides.{nat_tests}
use Rattle.row_store.specs.Watch.{entries_of}
use Rattle.row_store.specs.Watches.{HoldsOfRow, HoldsOfBoth, HasAdded, HasRemoved, HoldsTheSame, IsInStep, with_row}
use Rattle.row_store.specs.declared.watch.Watch.{Ghosts}

or_false : (a : Bool) → (a || false) ≡ a
or_false true = refl
or_false false = refl

are_apart : (t table r row : ℕ) → ((t == table) && (r == row)) ≡ false → t ≡ table → r ≡ row → ⊥
are_apart t table r row apart t_is r_is = grind (arith, nat_tests)

module _ {Self : Type 0} (watch : Ghosts Self) (table row : ℕ) where
  -- a new row
  pub new_row_held : (new : List ℕ) (before after : Self) → HoldsOfRow watch table row None before → HasAdded watch table row new before after → HoldsOfRow watch table row (Some new) after
  new_row_held new before after none added entry is_table is_row =
      let of_table = rw added.made at is_table in
      let of_row = rw added.made at is_row in
      rw added.made (added.entries entry ∙ ap (λ b. b || watch.gives (watch.made before) table row new entry) (none entry of_table of_row))

  -- a row with another tuple, before the entries of the old one are taken away
  pub changed_row_held : (old new : List ℕ) (before after : Self) → HoldsOfRow watch table row (Some old) before → HasAdded watch table row new before after → HoldsOfBoth watch table row old (Some new) after
  changed_row_held old new before after held added entry is_table is_row =
      let of_table = rw added.made at is_table in
      let of_row = rw added.made at is_row in
      rw added.made (added.entries entry ∙ ap (λ b. b || watch.gives (watch.made before) table row new entry) (held entry of_table of_row))

  -- a row that is to go
  pub going_row_held : (old : List ℕ) (before : Self) → HoldsOfRow watch table row (Some old) before → HoldsOfBoth watch table row old None before
  going_row_held old before held entry is_table is_row = held entry is_table is_row ∙ sym (or_false (watch.gives (watch.made before) table row old entry))

  -- what is left of the row once the old tuple's entries are taken away
  pub left_row_held : (old : List ℕ) (new : Option (List ℕ)) (before after : Self) → HoldsOfBoth watch table row old new before → HasRemoved watch table row old new before after → HoldsOfRow watch table row new after
  left_row_held old new before after held removed entry is_table is_row =
      let of_table = rw removed.made at is_table in
      let of_row = rw removed.made at is_row in
      let both = held entry of_table of_row in
      rw removed.made (removed.entries entry
      ∙ elim (watch.gives (watch.made before) table row old entry)
      as (λ b. watch.holds before entry ≡ (b || entries_of (watch.gives (watch.made before) table row) new entry) →
      cond b (entries_of (watch.gives (watch.made before) table row) new entry) (watch.holds before entry) ≡ entries_of (watch.gives (watch.made before) table row) new entry) [
        | true ↦ λ _. refl
        | false ↦ λ is. is
      ] both)

  -- nothing else changes, since no other row gives these entries
  abbrev pub KeepsOthers : Self → Self → Type 0
  KeepsOthers before after = (entry : watch.Entry) → ((watch.table_of (watch.made before) entry ≡ table) × (watch.row_of (watch.made before) entry ≡ row) → ⊥) → watch.holds after entry ≡ watch.holds before entry

  module _ (names : (how : watch.Made) (t r : ℕ) (ids : List ℕ) (entry : watch.Entry) → watch.gives how t r ids entry ≡ true → (watch.table_of how entry ≡ t) × (watch.row_of how entry ≡ r)) where
    not_given : (how : watch.Made) (ids : List ℕ) (entry : watch.Entry) → ((watch.table_of how entry ≡ table) × (watch.row_of how entry ≡ row) → ⊥) → watch.gives how table row ids entry ≡ false
    not_given how ids entry other =
        elim (watch.gives how table row ids entry) as (λ b. watch.gives how table row ids entry ≡ b → b ≡ false) [
          | true ↦ λ given. absurd (other (names how table row ids entry given))
          | false ↦ λ _. refl
        ] refl

    pub others_kept_adding : (new : List ℕ) (before after : Self) → HasAdded watch table row new before after → KeepsOthers before after
    others_kept_adding new before after added entry other =
        added.entries entry ∙ ap (λ b. watch.holds before entry || b) (not_given (watch.made before) new entry other) ∙ or_false (watch.holds before entry)

    pub others_kept_removing : (old : List ℕ) (new : Option (List ℕ)) (before after : Self) → HasRemoved watch table row old new before after → KeepsOthers before after
    others_kept_removing old new before after removed entry other =
        removed.entries entry ∙ ap (λ b. cond b (entries_of (watch.gives (watch.made before) table row) new entry) (watch.holds before entry)) (not_given (watch.made before) old entry other)

  -- a watch that holds what the changed row gives, and nothing else of the others, is in step
  pub in_step_after : (rows : ℕ → ℕ → Option (List ℕ)) (new : Option (List ℕ)) (before after : Self) → watch.made after ≡ watch.made before
      → IsInStep watch rows before → HoldsOfRow watch table row new after → KeepsOthers before after → IsInStep watch (with_row rows table row new) after
  in_step_after rows new before after made in_step held others t r entry is_table is_row =
      let of_table = rw made at is_table in
      let of_row = rw made at is_row in
      elim ((t == table) && (r == row))
      as (λ b. ((t == table) && (r == row)) ≡ b → watch.holds after entry ≡ entries_of (watch.gives (watch.made after) t r) (cond b new (rows t r)) entry) [
        | true ↦ λ same.
            let t_is : t ≡ table = grind (arith, nat_tests) in
            let r_is : r ≡ row = grind (arith, nat_tests) in
            held entry (is_table ∙ t_is) (is_row ∙ r_is)
            ∙ ap (λ n. entries_of (watch.gives (watch.made after) n row) new entry) (sym t_is)
            ∙ ap (λ n. entries_of (watch.gives (watch.made after) t n) new entry) (sym r_is)
        | false ↦ λ apart.
            let other : (watch.table_of (watch.made before) entry ≡ table) × (watch.row_of (watch.made before) entry ≡ row) → ⊥ =
            λ named. are_apart t table r row apart (sym of_table ∙ named.0) (sym of_row ∙ named.1) in
            rw made (others entry other ∙ in_step t r entry of_table of_row)
      ] refl

module _ {Self : Type 0} (watch : Ghosts Self) (rows : ℕ → ℕ → Option (List ℕ)) where
  -- what holds the same entries is in step with the same rows
  pub still_in_step : (before after : Self) → HoldsTheSame watch before after → IsInStep watch rows before → IsInStep watch rows after
  still_in_step before after same in_step t r entry is_table is_row =
      let of_table = rw same.made at is_table in
      let of_row = rw same.made at is_row in
      rw same.made (same.entries entry ∙ in_step t r entry of_table of_row)

  -- rows that are alike have the same watches in step
  pub in_step_alike : (others : ℕ → ℕ → Option (List ℕ)) → ((t r : ℕ) → rows t r ≡ others t r) → (w : Self) → IsInStep watch rows w → IsInStep watch others w
  in_step_alike others alike w in_step t r entry is_table is_row =
      in_step t r entry is_table is_row ∙ ap (λ ids. entries_of (watch.gives (watch.made w) t r) ids entry) (alike t r)

  module _ (names : (how : watch.Made) (t r : ℕ) (ids : List ℕ) (entry : watch.Entry) → watch.gives how t r ids entry ≡ true → (watch.table_of how entry ≡ t) × (watch.row_of how entry ≡ r))
      (table row : ℕ) where
    pub in_step_inserted : (new : List ℕ) → rows table row ≡ None → (before after : Self) → IsInStep watch rows before → HasAdded watch table row new before after
        → IsInStep watch (with_row rows table row (Some new)) after
    in_step_inserted new absent before after in_step added =
        in_step_after watch table row rows (Some new) before after added.made in_step
        (new_row_held watch table row new before after (subst (λ ids. HoldsOfRow watch table row ids before) absent (in_step table row)) added)
        (others_kept_adding watch table row names new before after added)

    pub in_step_changed : (old new : List ℕ) → rows table row ≡ Some old → (before between after : Self) → IsInStep watch rows before
        → HasAdded watch table row new before between → HasRemoved watch table row old (Some new) between after
        → IsInStep watch (with_row rows table row (Some new)) after
    in_step_changed old new there before between after in_step added removed =
        in_step_after watch table row rows (Some new) before after (removed.made ∙ added.made) in_step
        (left_row_held watch table row old (Some new) between after
        (changed_row_held watch table row old new before between (subst (λ ids. HoldsOfRow watch table row ids before) there (in_step table row)) added) removed)
        (λ entry other. others_kept_removing watch table row names old (Some new) between after removed entry (rw added.made other)
        ∙ others_kept_adding watch table row names new before between added entry other)

    pub in_step_deleted : (old : List ℕ) → rows table row ≡ Some old → (before after : Self) → IsInStep watch rows before → HasRemoved watch table row old None before after
        → IsInStep watch (with_row rows table row None) after
    in_step_deleted old there before after in_step removed =
        in_step_after watch table row rows None before after removed.made in_step
        (left_row_held watch table row old None before after
        (going_row_held watch table row old before (subst (λ ids. HoldsOfRow watch table row ids before) there (in_step table row))) removed)
        (others_kept_removing watch table row names old None before after removed)
