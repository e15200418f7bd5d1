-- Entries that were added are taken back by a removal with the tuples the other way round.
use Rattle.std.proofs.Common.{◌≡◌, ℕ, Bool, true, false, cond, List, Option, refl, sym, ap, ◌∙◌}
use Rattle.std.specs.Prelude.{◌||◌}
use Rattle.row_store.specs.Watch.{entries_of}
use Rattle.row_store.specs.Watches.{HoldsOfRow, HoldsOfBoth, HasAdded, HasRemoved, HoldsTheSame}
use Rattle.row_store.specs.declared.watch.Watch.{Ghosts}

or_swap : (a b : Bool) → (a || b) ≡ (b || a)
or_swap true true = refl
or_swap true false = refl
or_swap false true = refl
or_swap false false = refl

or_false : (a : Bool) → (a || false) ≡ a
or_false true = refl
or_false false = refl

module _ {Self : Type 0} (watch : Ghosts Self) (table row : ℕ) (old : Option (List ℕ)) (new : List ℕ) where
  -- after the adding it holds what the row gives with either tuple
  pub both_held : (before after : Self) → HoldsOfRow watch table row old before → HasAdded watch table row new before after → HoldsOfBoth watch table row new old after
  both_held before after present added entry is_table is_row =
      let of_table = rw added.made at is_table in
      let of_row = rw added.made at is_row in
      rw added.made (added.entries entry ∙ ap (λ b. b || watch.gives (watch.made before) table row new entry) (present entry of_table of_row) ∙ or_swap (entries_of (watch.gives (watch.made before) table row) old entry) (watch.gives (watch.made before) table row new entry))

  -- and the removal leaves what was there before
  pub taken_back : ((how : watch.Made) (t r : ℕ) (ids : List ℕ) (entry : watch.Entry) → watch.gives how t r ids entry ≡ true → (watch.table_of how entry ≡ t) × (watch.row_of how entry ≡ r))
      → (before between after : Self) → HoldsOfRow watch table row old before → HasAdded watch table row new before between → HasRemoved watch table row new old between after → HoldsTheSame watch before after
  taken_back names before between after present added removed = record {
    made = removed.made ∙ added.made;
    entries = λ entry.
        let left = rw added.made at removed.entries entry in
        left ∙ elim (watch.gives (watch.made before) table row new entry)
        as (λ b. watch.gives (watch.made before) table row new entry ≡ b →
        cond b (entries_of (watch.gives (watch.made before) table row) old entry) (watch.holds between entry) ≡ watch.holds before entry) [
          | true ↦ λ given. let named = names (watch.made before) table row new entry given in sym (present entry named.0 named.1)
          | false ↦ λ not_given. added.entries entry ∙ ap (λ b. watch.holds before entry || b) not_given ∙ or_false (watch.holds before entry)
        ] refl;
  }
