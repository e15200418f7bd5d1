-- Lists of watches, each of which takes a step.
use Rattle.std.proofs.Common.{◌≡◌, ℕ, true, List, Option, Some, None, Result, Ok, Err, OnErr, refl, sym, ap, ◌∙◌, subst}
use Rattle.std.specs.Prelude.{All, sum_by, if◌then◌else◌}
use Rattle.std.proofs.lemmas.List.Elements.{recursion_from_All}
use Rattle.row_store.specs.Watches.{HoldsOfRow, HoldsOfBoth, HasAdded, HasRemoved, HoldsTheSame, IsInStep, with_row, probes_of}
use Rattle.row_store.specs.Watch.{IsWide}
use Rattle.row_store.specs.declared.watch.Watch.{Ghosts}
use Rattle.row_store.proofs.Zips.{all_through, zip_then, zip_same, sum_kept}
use Rattle.row_store.proofs.InStep.{in_step_inserted, in_step_changed, in_step_deleted, changed_row_held}
use Rattle.row_store.proofs.TakenBack.{both_held, taken_back}
use Rattle.bench_index.specs.InStep.{AreMadeAlike, AreTheSame, AreWide, Follow, HaveAdded, HaveRemoved}
use Rattle.bench_index.proofs.Zips.{zip_weaker, zip_joined, Joined}

pub on_err : {A E P : Type 0} (r : Result A E) → P → OnErr r P
on_err (Ok _) p = tt
on_err (Err _) p = p

module _ {Self : Type 0} (watch : Ghosts Self) where
  pub same-kept : (watches : List Self) → AreTheSame watch watches watches
  same-kept watches = zip_same (HoldsTheSame watch) (λ w. record { made = refl; entries = λ _. refl }) watches

  pub made-same : (before after : List Self) → AreTheSame watch before after → AreMadeAlike watch before after
  made-same before after same = zip_weaker (HoldsTheSame watch) (λ b a. watch.made a ≡ watch.made b) (λ b a step. step.made) before after same

  pub made-kept : (watches : List Self) → AreMadeAlike watch watches watches
  made-kept watches = zip_same (λ b a. watch.made a ≡ watch.made b) (λ w. refl) watches

  module _ (table : ℕ) where
    -- the step of each keeps what it was made with, so also how wide a tuple must be, and what a call costs
    pub wide_after : (before after : List Self) → AreMadeAlike watch before after → (ids : List ℕ) → AreWide watch table ids before → AreWide watch table ids after
    wide_after before after alike ids wide =
        let IsWideFor : Self → Type 0 = λ w. IsWide (watch.attributes (watch.made w) table) ids in
        all_through IsWideFor IsWideFor (λ b a. watch.made a ≡ watch.made b) (λ b a wide same. subst (λ made. IsWide (watch.attributes made table) ids) (sym same) wide) before after wide alike

    pub probes_after : (before after : List Self) → AreMadeAlike watch before after → sum_by (probes_of watch table) after ≡ sum_by (probes_of watch table) before
    probes_after before after alike =
        sum_kept (probes_of watch table) (λ b a. watch.made a ≡ watch.made b) (λ b a same. ap (λ made. if watch.needed made table then watch.cost made else 0) same) before after alike

    module _ (row : ℕ) where
      pub made-added : (before after : List Self) (ids : List ℕ) → HaveAdded watch table row ids before after → AreMadeAlike watch before after
      made-added before after ids added = zip_weaker (HasAdded watch table row ids) (λ b a. watch.made a ≡ watch.made b) (λ b a step. step.made) before after added

      pub made-removed : (before after : List Self) (old : List ℕ) (new : Option (List ℕ)) → HaveRemoved watch table row old new before after → AreMadeAlike watch before after
      made-removed before after old new removed = zip_weaker (HasRemoved watch table row old new) (λ b a. watch.made a ≡ watch.made b) (λ b a step. step.made) before after removed

      pub made-changed : (before between after : List Self) (ids old : List ℕ) (new : Option (List ℕ)) → HaveAdded watch table row ids before between → HaveRemoved watch table row old new between after → AreMadeAlike watch before after
      made-changed before between after ids old new added removed =
          let both = zip_joined (HasAdded watch table row ids) (HasRemoved watch table row old new) before between after added removed in
          zip_weaker (Joined (HasAdded watch table row ids) (HasRemoved watch table row old new)) (λ b a. watch.made a ≡ watch.made b) (λ b a step. step.2.made ∙ step.1.made) before after both

      -- what they hold of the row after the adding
      pub both_after : (before after : List Self) (old : Option (List ℕ)) (new : List ℕ) → All (HoldsOfRow watch table row old) before → HaveAdded watch table row new before after → All (HoldsOfBoth watch table row new old) after
      both_after before after old new present added =
          all_through (HoldsOfRow watch table row old) (HoldsOfBoth watch table row new old) (HasAdded watch table row new) (both_held watch table row old new) before after present added

      pub changed_after : (before after : List Self) (old new : List ℕ) → All (HoldsOfRow watch table row (Some old)) before → HaveAdded watch table row new before after → All (HoldsOfBoth watch table row old (Some new)) after
      changed_after before after old new present added =
          all_through (HoldsOfRow watch table row (Some old)) (HoldsOfBoth watch table row old (Some new)) (HasAdded watch table row new) (changed_row_held watch table row old new) before after present added

      module _ (names : (how : watch.Made) (t r : ℕ) (ids : List ℕ) (entry : watch.Entry) → watch.gives how t r ids entry ≡ true → (watch.table_of how entry ≡ t) × (watch.row_of how entry ≡ r)) where
        -- what was added is taken back
        pub same_after : (before between after : List Self) (old : Option (List ℕ)) (new : List ℕ) → All (HoldsOfRow watch table row old) before → HaveAdded watch table row new before between → HaveRemoved watch table row new old between after
            → AreTheSame watch before after
        same_after before between after old new present added removed =
            zip_then (HoldsOfRow watch table row old) (HasAdded watch table row new) (HasRemoved watch table row new old) (HoldsTheSame watch) (taken_back watch table row old new names)
            before between after (recursion_from_All (HoldsOfRow watch table row old) before present) added removed

        pub follow_gain : (before after : List Self) (new : List ℕ) → HaveAdded watch table row new before after → Follow watch table row None (Some new) before after
        follow_gain before after new added rows absent in_step =
            all_through (IsInStep watch rows) (IsInStep watch (with_row rows table row (Some new))) (HasAdded watch table row new) (λ b a in_step step. in_step_inserted watch rows names table row new absent b a in_step step) before after in_step added

        pub follow_loss : (before after : List Self) (old : List ℕ) → HaveRemoved watch table row old None before after → Follow watch table row (Some old) None before after
        follow_loss before after old removed rows there in_step =
            all_through (IsInStep watch rows) (IsInStep watch (with_row rows table row None)) (HasRemoved watch table row old None) (λ b a in_step step. in_step_deleted watch rows names table row old there b a in_step step) before after in_step removed

        pub follow_change : (before between after : List Self) (old new : List ℕ) → HaveAdded watch table row new before between → HaveRemoved watch table row old (Some new) between after → Follow watch table row (Some old) (Some new) before after
        follow_change before between after old new added removed rows there in_step =
            let both = zip_joined (HasAdded watch table row new) (HasRemoved watch table row old (Some new)) before between after added removed in
            all_through (IsInStep watch rows) (IsInStep watch (with_row rows table row (Some new))) (Joined (HasAdded watch table row new) (HasRemoved watch table row old (Some new)))
            (λ b a in_step step. in_step_changed watch rows names table row old new there b step.0 a in_step step.1 step.2) before after in_step both
