-- A change that is gone over in one of two directions: what holds of both.
use Rattle.std.proofs.Common.{◌≡◌, ℕ, zero, suc, ◌+◌, ◌<◌, ◌≤◌, List, [], ◌∷◌, length, get_or, Option, Some, None, Bool, true, false, IsSomeAnd, ap, sym, subst, ◌∙◌, arith}
use Rattle.std.proofs.lemmas.Option.{slice_get-get_or}
use Rattle.std.specs.List.{slice_get}
use Rattle.text_lists.specs.declared.limits.Limits.{Limits}
use Rattle.rule_model.specs.Books.{Book}
use Rattle.row_store.specs.Tuple.{ids_if}
use Rattle.edit_log.specs.declared.change.Change.{Change}
use Rattle.edit_log.specs.Journal.{Journal}
use Rattle.bench_index.specs.AllIndexes.{AllFollow, most_probes}
use Rattle.bench_index.specs.declared.all_indexes.AllIndexes.{AllIndexes}
use Rattle.bench_core.specs.declared.changes.Direction.{Direction}
use Rattle.bench_core.specs.declared.changes.Direction.TheVariants.{Back, Forward}
use Rattle.bench_core.specs.Stored.{Stored, state_of}
use Rattle.bench_core.specs.Changes.{IsChange, IsGiven, history_of, states_after, states_before}
use Rattle.bench_core.specs.Bench.{AreCounts, Holds, IsBench}
use Rattle.bench_core.specs.Indexed.{AreOfTheChange, CanFollow, IsIndexed, tuples_of}
use Rattle.bench_core.specs.Turns.{CanTurn, HasNoNext, IsStep, Moves, next_change, next_state, tuple_after, tuple_before, turned_all}
use Rattle.bench_core.proofs.Holding.{bench-back, bench-forward, first-can, first-is, held-back, held-forward, history-was-redone, history-was-undone, last-is, last-made, no-first, no-last, no-past, no-undone, row-small, some-first, some-last}
use Rattle.bench_core.proofs.FollowedChange.{back-can, back-indexed, forward-can, forward-indexed}
use Rattle.bench_core.proofs.ProbesOfChange.{no-redo-probes, no-undo-probes, redo-probes, undo-probes}

-- ---- the next change of a log

module _ (texts : List (List ℕ)) (log : Journal) (tables : List Stored) where
  pub next-or-none : (direction : Direction) (change : Change) → next_change direction log ≡ Some change → HasNoNext direction (history_of texts log.past log.undone tables) → ⊥
  next-or-none Back change next none = some-last log.past change next (no-past texts log.past tables none)
  next-or-none Forward change next none = some-first log.undone change next (no-undone texts log.undone tables none)

  pub has-no-next : (direction : Direction) → next_change direction log ≡ None → HasNoNext direction (history_of texts log.past log.undone tables)
  has-no-next Back none = ap (λ changes. states_before texts changes tables) (no-last log.past none)
  has-no-next Forward none = ap (λ changes. states_after texts changes tables) (no-first log.undone none)

  pub no-turn-probes : (rules : Book) (direction : Direction) → next_change direction log ≡ None → (n : ℕ) → AreOfTheChange rules (state_of texts tables) (next_state direction (history_of texts log.past log.undone tables)) n n
  no-turn-probes rules Back none = no-undo-probes rules texts log.past log.undone tables (no-last log.past none)
  no-turn-probes rules Forward none = no-redo-probes rules texts log.past log.undone tables (no-first log.undone none)

  pub turn-probes : (rules : Book) (change : Change) (before after : ℕ) → after ≤ before + most_probes rules change.table → (direction : Direction) → next_change direction log ≡ Some change
      → AreOfTheChange rules (state_of texts tables) (next_state direction (history_of texts log.past log.undone tables)) before after
  turn-probes rules change before after few Back = undo-probes rules texts log.past log.undone tables change before after few
  turn-probes rules change before after few Forward = redo-probes rules texts log.past log.undone tables change before after few

-- ---- a bench over which it is gone

module _ {rules : Book} {limits : Limits} {texts : List (List ℕ)} {log : Journal} {tables : List Stored} {weights : List ℕ} {rows cells : ℕ} (held : Holds rules limits texts log tables weights rows cells) (change : Change) where
  pub turn-can : (direction : Direction) → next_change direction log ≡ Some change → IsSomeAnd (slice_get tables change.table) (CanTurn direction change)
  turn-can Back = last-made held change
  turn-can Forward = first-can held change

  pub turn-is : (direction : Direction) → next_change direction log ≡ Some change → IsChange texts change
  turn-is Back = last-is held change
  turn-is Forward = first-is held change

  pub turn-bench : (direction : Direction) → next_change direction log ≡ Some change → IsBench rules limits (state_of texts (turned_all direction change tables))
  turn-bench Back = bench-back held change
  turn-bench Forward = bench-forward held change

  module _ (after : Journal) where
    pub history-stepped : (direction : Direction) → Moves direction (Some change) log after → IsStep direction (history_of texts log.past log.undone tables) (history_of texts after.past after.undone (turned_all direction change tables))
    history-stepped Back moved = history-was-undone held change after moved
    history-stepped Forward moved = history-was-redone held change after moved

    pub held-turned : (direction : Direction) → Moves direction (Some change) log after → (weights : List ℕ) (rows cells : ℕ) → AreCounts rules (state_of texts (turned_all direction change tables)) weights rows cells
        → Holds rules limits texts after (turned_all direction change tables) weights rows cells
    held-turned Back moved = held-back held change after moved
    held-turned Forward moved = held-forward held change after moved

module _ {rules : Book} {limits : Limits} {texts : List (List ℕ)} {index : AllIndexes} (tables : List Stored) (bench : IsBench rules limits (state_of texts tables)) (held : IsIndexed rules texts (tuples_of tables) index) (change : Change) where
  pub turn-followed : (direction : Direction) → IsSomeAnd (slice_get tables change.table) (CanTurn direction change) → IsBench rules limits (state_of texts (turned_all direction change tables))
      → CanFollow rules change.table change.row (ids_if (tuple_before direction change)) (ids_if (tuple_after direction change)) index
  turn-followed Back = back-can tables bench held change
  turn-followed Forward = forward-can tables bench held change

  pub turn-indexed : (direction : Direction) → IsSomeAnd (slice_get tables change.table) (CanTurn direction change) → IsBench rules limits (state_of texts (turned_all direction change tables))
      → (after : AllIndexes) → AllFollow rules change.table change.row (ids_if (tuple_before direction change)) (ids_if (tuple_after direction change)) index after → IsIndexed rules texts (tuples_of (turned_all direction change tables)) after
  turn-indexed Back = back-indexed tables bench held change
  turn-indexed Forward = forward-indexed tables bench held change

-- ---- the id of its row

given-small : {X : Type 0} (old : Option X) (row next : ℕ) → IsGiven old row next → row ≤ next
given-small None row next is = omega arith
given-small (Some tuple) row next is = omega arith

pub turn-row : (direction : Direction) (change : Change) (table : Stored) → CanTurn direction change table → change.row ≤ table.next
turn-row Back change table made = given-small change.old change.row table.next made.next
turn-row Forward change table can = row-small change.old change.row table.next can.next

-- ---- one store of several

-- what holds of all holds at a place
pub some-there : {X : Type 0} (P : X → Type 0) (xs : List X) (n : ℕ) → n < length xs → ((x : X) → P x) → IsSomeAnd (slice_get xs n) P
some-there P [] n within holds = absurd (omega arith)
some-there P (x ∷ xs) zero within holds = holds x
some-there P (x ∷ xs) (suc n) within holds = some-there P xs n (omega arith) holds

pub not-both : (b : Bool) → b ≡ true → b ≡ false → ⊥
not-both true one other = absurd (cc)
not-both false one other = absurd (cc)

-- what holds at a place holds of what is read there
pub read-there : {X : Type 0} (P : X → Type 0) (xs : List X) (n : ℕ) (x : X) → n < length xs → x ≡ get_or xs n x → IsSomeAnd (slice_get xs n) P → P x
read-there P xs n x within is holds = subst (λ at. IsSomeAnd at P) (slice_get-get_or xs n x within ∙ ap Some (sym is)) holds
