-- Changes that are taken back and made again, and the states that they lead to.
use Rattle.std.proofs.Common.{◌≡◌, ℕ, zero, suc, ◌+◌, List, [], ◌∷◌, ◌++◌, Option, Some, None, IsSomeAnd, refl, sym, ap, subst, ◌∙◌, arith, inl, inr}
use Rattle.std.specs.List.{slice_get}
use Rattle.std.specs.Cmp.{nat_cmp_total}
use Rattle.std.proofs.lemmas.Bool.Decides.{nat_tests}
use Rattle.std.proofs.lemmas.Bool.{cases_eq}
use Rattle.std.specs.FinMap as finmap
use Rattle.std.specs.FinMap.{nat_cmp-IsAntisymmetric}
use Rattle.row_store.specs.Store.{Rows}
use Rattle.row_store.specs.Tuple.{Tuple, ids_if}
use Rattle.edit_log.specs.declared.change.Change.{Change}
use Rattle.bench_core.specs.History.{accepted, IsUndone, IsRedone}
use Rattle.bench_core.specs.Stored.{Stored, state_of}
use Rattle.bench_core.specs.Changes.{with_tuple, next_where, before_change, after_change, at_table, taken_back, made_again, before_all, states_before, states_after, history_of, HasMade, CanMake, IsGiven, CanGive, WereMade}

-- ---- one table of several

pub at_table-twice : (n : ℕ) (f g : Stored → Stored) (tables : List Stored) → IsSomeAnd (slice_get tables n) (λ table. g (f table) ≡ table) → at_table n g (at_table n f tables) ≡ tables
at_table-twice n f g [] same = refl
at_table-twice zero f g (table ∷ tables) same = ap (λ t. t ∷ tables) same
at_table-twice (suc n) f g (table ∷ tables) same = ap (λ ts. table ∷ ts) (at_table-twice n f g tables same)

pub at_table-there : (n : ℕ) (f : Stored → Stored) (tables : List Stored) (P Q : Stored → Type 0) → ((table : Stored) → P table → Q (f table)) → IsSomeAnd (slice_get tables n) P → IsSomeAnd (slice_get (at_table n f tables) n) Q
at_table-there n f [] P Q leads holds = absurd holds
at_table-there zero f (table ∷ tables) P Q leads holds = leads table holds
at_table-there (suc n) f (table ∷ tables) P Q leads holds = at_table-there n f tables P Q leads holds

there-weaker : (n : ℕ) (tables : List Stored) (P Q : Stored → Type 0) → ((table : Stored) → P table → Q table) → IsSomeAnd (slice_get tables n) P → IsSomeAnd (slice_get tables n) Q
there-weaker n [] P Q weaker holds = absurd holds
there-weaker zero (table ∷ tables) P Q weaker holds = weaker table holds
there-weaker (suc n) (table ∷ tables) P Q weaker holds = there-weaker n tables P Q weaker holds

-- ---- one tuple

pub get-with_tuple : (rows : Rows) (id : ℕ) (tuple : Option (List ℕ)) → finmap.get (with_tuple rows id tuple) id ≡ tuple
get-with_tuple rows id None = grind (arith, nat_tests, finmap.get-remove nat_cmp_total rows id id)
get-with_tuple rows id (Some values) = grind (arith, nat_tests, finmap.get-insert nat_cmp_total rows id values id)

pub get-with_tuple_apart : (rows : Rows) (id : ℕ) (tuple : Option (List ℕ)) (q : ℕ) → (q ≡ id → ⊥) → finmap.get (with_tuple rows id tuple) q ≡ finmap.get rows q
get-with_tuple_apart rows id None q apart = grind (arith, nat_tests, apart, finmap.get-remove nat_cmp_total rows id q)
get-with_tuple_apart rows id (Some values) q apart = grind (arith, nat_tests, apart, finmap.get-insert nat_cmp_total rows id values q)

-- a tuple that is put where another was put, in place of the one that was there
with_tuple-twice : (rows : Rows) (id : ℕ) (other tuple : Option (List ℕ)) → finmap.get rows id ≡ tuple → with_tuple (with_tuple rows id other) id tuple ≡ rows
with_tuple-twice rows id other tuple there =
    finmap.same_map nat_cmp_total nat_cmp-IsAntisymmetric (with_tuple (with_tuple rows id other) id tuple) rows (λ q. elim (cases_eq q id) [
      | inl same ↦ ap (finmap.get (with_tuple (with_tuple rows id other) id tuple)) same ∙ get-with_tuple (with_tuple rows id other) id tuple ∙ sym there ∙ ap (finmap.get rows) (sym same)
      | inr apart ↦ get-with_tuple_apart (with_tuple rows id other) id tuple q apart ∙ get-with_tuple_apart rows id other q apart
    ])

-- ---- one change of one table

next-back : (old : Option Tuple) (row next : ℕ) → IsGiven old row next → next_where old (row + 1) (next_where old row next) ≡ next
next-back None row next is = sym is
next-back (Some old) row next is = refl

next-again : (old : Option Tuple) (row next : ℕ) → CanGive old row next → next_where old row (next_where old (row + 1) next) ≡ next
next-again None row next is = sym is
next-again (Some old) row next is = refl

give-back : (old : Option Tuple) (row next : ℕ) → IsGiven old row next → CanGive old row (next_where old row next)
give-back None row next is = refl
give-back (Some old) row next is = is

given-again : (old : Option Tuple) (row next : ℕ) → CanGive old row next → IsGiven old row (next_where old (row + 1) next)
given-again None row next is = refl
given-again (Some old) row next is = is

same_stored : (rows others : Rows) (next other : ℕ) → rows ≡ others → next ≡ other → ◌≡◌ {A = Stored} (record { rows = rows; next = next }) (record { rows = others; next = other })
same_stored rows others next other is same = λ i. record { rows = is i; next = same i }

back-again : (change : Change) (table : Stored) → HasMade change table → after_change change (before_change change table) ≡ table
back-again change table made = same_stored _ _ _ _ (with_tuple-twice table.rows change.row (ids_if change.old) (ids_if change.new) made.new) (next-back change.old change.row table.next made.next)

again-back : (change : Change) (table : Stored) → CanMake change table → before_change change (after_change change table) ≡ table
again-back change table can = same_stored _ _ _ _ (with_tuple-twice table.rows change.row (ids_if change.new) (ids_if change.old) can.old) (next-again change.old change.row table.next can.next)

pub can-make : (change : Change) (table : Stored) → HasMade change table → CanMake change (before_change change table)
can-make change table made = record { old = get-with_tuple table.rows change.row (ids_if change.old); next = give-back change.old change.row table.next made.next }

pub has-made : (change : Change) (table : Stored) → CanMake change table → HasMade change (after_change change table)
has-made change table can = record { new = get-with_tuple table.rows change.row (ids_if change.new); next = given-again change.old change.row table.next can.next }

-- ---- one change of the tables

module _ (change : Change) (tables : List Stored) where
  pub made-back : IsSomeAnd (slice_get tables change.table) (HasMade change) → made_again change (taken_back change tables) ≡ tables
  made-back made = at_table-twice change.table (before_change change) (after_change change) tables (there-weaker change.table tables (HasMade change) _ (back-again change) made)

  pub taken-again : IsSomeAnd (slice_get tables change.table) (CanMake change) → taken_back change (made_again change tables) ≡ tables
  taken-again can = at_table-twice change.table (after_change change) (before_change change) tables (there-weaker change.table tables (CanMake change) _ (again-back change) can)

  pub can-after : IsSomeAnd (slice_get tables change.table) (HasMade change) → IsSomeAnd (slice_get (taken_back change tables) change.table) (CanMake change)
  can-after made = at_table-there change.table (before_change change) tables (HasMade change) (CanMake change) (can-make change) made

  pub made-after : IsSomeAnd (slice_get tables change.table) (CanMake change) → IsSomeAnd (slice_get (made_again change tables) change.table) (HasMade change)
  made-after can = at_table-there change.table (after_change change) tables (CanMake change) (HasMade change) (has-made change) can

-- ---- all changes

module _ (change : Change) (tables : List Stored) where
  before_all-push : (past : List Change) → before_all (past ++ change ∷ []) tables ≡ before_all past (taken_back change tables)
  before_all-push [] = refl
  before_all-push (first ∷ past) = ap (taken_back first) (before_all-push past)

  pub states_before-push : (texts : List (List ℕ)) (past : List Change)
      → states_before texts (past ++ change ∷ []) tables ≡ states_before texts past (taken_back change tables) ++ state_of texts (taken_back change tables) ∷ []
  states_before-push texts [] = refl
  states_before-push texts (first ∷ past) = λ i. state_of texts (taken_back first (before_all-push past i)) ∷ states_before-push texts past i

  pub were-made-push : (past : List Change) → WereMade past (taken_back change tables) → IsSomeAnd (slice_get tables change.table) (HasMade change) → WereMade (past ++ change ∷ []) tables
  were-made-push [] were made = (made, tt)
  were-made-push (first ∷ past) were made = (subst (λ ts. IsSomeAnd (slice_get ts first.table) (HasMade first)) (sym (before_all-push past)) were.0, were-made-push past were.1 made)

  pub were-made-pop : (past : List Change) → WereMade (past ++ change ∷ []) tables → WereMade past (taken_back change tables) × IsSomeAnd (slice_get tables change.table) (HasMade change)
  were-made-pop [] were = (tt, were.0)
  were-made-pop (first ∷ past) were =
      let later = were-made-pop past were.1 in
      ((subst (λ ts. IsSomeAnd (slice_get ts first.table) (HasMade first)) (before_all-push past) were.0, later.0), later.1)

-- ---- the history

module _ (texts : List (List ℕ)) (change : Change) (tables : List Stored) where
  -- once the last past change is taken back
  pub history-undone : (past undone : List Change) → IsSomeAnd (slice_get tables change.table) (HasMade change)
      → IsUndone (history_of texts (past ++ change ∷ []) undone tables) (history_of texts past (change ∷ undone) (taken_back change tables))
  history-undone past undone made =
      let same = made-back change tables made in
      record {
        past = states_before-push change tables texts past;
        undone = λ i. state_of texts (same i) ∷ states_after texts undone (same i);
      }

  -- once the first undone one is made again
  pub history-redone : (past undone : List Change) → IsSomeAnd (slice_get tables change.table) (CanMake change)
      → IsRedone (history_of texts past (change ∷ undone) tables) (history_of texts (past ++ change ∷ []) undone (made_again change tables))
  history-redone past undone can =
      let same = taken-again change tables can in
      record {
        past = states_before-push change (made_again change tables) texts past ∙ (λ i. states_before texts past (same i) ++ state_of texts (same i) ∷ []);
        undone = refl;
      }

  -- once another change is made
  pub history-accepted : (past undone : List Change) → IsSomeAnd (slice_get tables change.table) (CanMake change)
      → history_of texts (past ++ change ∷ []) [] (made_again change tables) ≡ accepted (history_of texts past undone tables) (state_of texts (made_again change tables))
  history-accepted past undone can =
      let same = taken-again change tables can in
      let before : states_before texts (past ++ change ∷ []) (made_again change tables) ≡ states_before texts past tables ++ state_of texts tables ∷ [] =
      states_before-push change (made_again change tables) texts past ∙ (λ i. states_before texts past (same i) ++ state_of texts (same i) ∷ []) in
      λ i. record { past = before i; present = state_of texts (made_again change tables); undone = [] }
