-- Indexes that are in step with tuples, as the pool grows and as a row gets another tuple.
use Rattle.std.proofs.Common.{◌≡◌, ℕ, cond, List, Option, None, ap, ◌∙◌}
use Rattle.std.specs.Option.{ForSome}
use Rattle.std.proofs.lemmas.List.Elements.{All-weaker}
use Rattle.schema_core.specs.Lookups.{master_at}
use Rattle.value_pool.specs.Pool.{KeepsIds}
use Rattle.rule_model.specs.Books.{Book}
use Rattle.row_store.specs.Watches.{IsInStep, with_row}
use Rattle.row_store.specs.declared.watch.Watch.{Ghosts}
use Rattle.row_store.proofs.InStep.{in_step_alike}
use Rattle.bench_index.specs.AllIndexes.{AllFollow, AreAsBefore}
use Rattle.bench_index.specs.InStep.{AreInStep}
use Rattle.bench_index.specs.Watching.{group_watch, cind_watch}
use Rattle.bench_index.specs.declared.all_indexes.AllIndexes.{AllIndexes}
use Rattle.bench_index.proofs.AllSteps.{in_step-grown, still_in_step}
use Rattle.bench_core.specs.Indexed.{CanFollow, IsIndexed}
use Rattle.bench_core.proofs.TuplesAt.{IsFull}

in-step-alike : {Self : Type 0} (watch : Ghosts Self) (tuples others : ℕ → ℕ → Option (List ℕ)) → ((t r : ℕ) → tuples t r ≡ others t r) → (watches : List Self) → AreInStep watch tuples watches → AreInStep watch others watches
in-step-alike watch tuples others alike watches held = All-weaker (IsInStep watch tuples) (IsInStep watch others) (in_step_alike watch tuples others alike) watches held

module _ {rules : Book} {texts : List (List ℕ)} {tuples : ℕ → ℕ → Option (List ℕ)} {index : AllIndexes} (held : IsIndexed rules texts tuples index) where
  -- tuples that are the same by another name
  pub indexed-alike : (others : ℕ → ℕ → Option (List ℕ)) → ((t r : ℕ) → tuples t r ≡ others t r) → IsIndexed rules texts others index
  indexed-alike others alike = record {
    valid = held.valid;
    in_step = record {
      indexes = held.in_step.indexes;
      groups = in-step-alike group_watch tuples others alike index.index.groups.items held.in_step.groups;
      cinds = in-step-alike cind_watch tuples others alike index.index.cinds.items held.in_step.cinds;
      lists = held.in_step.lists;
      rows = λ t r. held.in_step.rows t r ∙ ap (λ o. cond (master_at rules.schema t) o None) (alike t r);
    };
  }

  -- the pool grows
  pub indexed-kept : (new : List (List ℕ)) → KeepsIds texts new → IsIndexed rules new tuples index
  indexed-kept new kept = record { valid = held.valid; in_step = in_step-grown rules texts new tuples index kept held.in_step }

  -- the indexes were refused memory
  pub indexed-refused : (after : AllIndexes) → AreAsBefore index after → IsIndexed rules texts tuples after
  indexed-refused after same = record { valid = held.valid; in_step = still_in_step rules texts tuples index after same held.in_step }

  module _ (n row : ℕ) (old new : Option (List ℕ)) (there : tuples n row ≡ old) where
    -- the indexes can follow a row between tuples that have the attributes of its table
    pub can-follow : ForSome old (IsFull rules n) → ForSome new (IsFull rules n) → CanFollow rules n row old new index
    can-follow old-full new-full = record {
      there = record { texts = texts; tuples = tuples; in_step = held.in_step; there = there };
      wide_old = old-full;
      wide_new = new-full;
    }

    -- once they have followed
    pub indexed-followed : (after : AllIndexes) → AllFollow rules n row old new index after → IsIndexed rules texts (with_row tuples n row new) after
    indexed-followed after followed = record { valid = held.valid; in_step = followed texts tuples there held.in_step }
