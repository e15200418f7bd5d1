-- What a bench holds, as a change is taken back, made again, or made for the first time.
use Rattle.std.proofs.Common.{◌≡◌, ℕ, zero, suc, ◌+◌, ◌-◌, ◌*◌, ◌^◌, ◌<◌, ◌≤◌, List, [], ◌∷◌, ◌++◌, map, set, length, get_or, Option, Some, None, Result, Ok, Err, IfOk, OnErr, OnOk, All, IsSomeAnd, refl, sym, ap, subst, ◌∙◌, arith, slice_index}
use Rattle.std.specs.List.{slice_get, slice_set}
use Rattle.std.proofs.lemmas.List.{length-map}
use Rattle.std.proofs.lemmas.List.Elements.{All-nil, All-cons, All-head, All-tail, All-pop, All-push, All-same}
use Rattle.std.proofs.lemmas.Option.{none-some, same_Some, slice_get-get_or, slice_get_within, get_or_from_slice_get}
use Rattle.std.specs.FinMap as finmap
use Rattle.text_lists.specs.declared.limits.Limits.{Limits}
use Rattle.rule_model.specs.Books.{Book}
use Rattle.row_store.specs.Store.{Store}
use Rattle.row_store.specs.Tuple.{Tuple, ids_if, ids_of}
use Rattle.edit_log.specs.declared.change.Change.{Change}
use Rattle.edit_log.specs.Journal.{Journal, last_change, first_change}
use Rattle.edit_log.specs.Log.{MovesBack, MovesForward}
use Rattle.value_pool.specs.Pool.{KeepsIds}
use Rattle.bench_core.specs.State.{State, IsTableState}
use Rattle.edit_log.specs.declared.edit.Edit.{Edit}
use Rattle.bench_core.specs.Edited.{edited}
use Rattle.bench_core.specs.declared.edit.Applied.{Applied}
use Rattle.bench_core.specs.History.{History, accepted, history_edited, IsUndone, IsRedone}
use Rattle.bench_core.specs.Stored.{Stored, stored, table_state, state_of}
use Rattle.bench_core.specs.Changes.{at_table, taken_back, made_again, states_before, states_after, history_of, HasMade, CanMake, IsGiven, CanGive, WereMade, CanBeMade, IsChange}
use Rattle.bench_core.specs.Bench.{IsBench, IsHistory, AreCounts, Holds}
use Rattle.bench_core.proofs.Walks.{history-undone, history-redone, history-accepted, were-made-pop, were-made-push, can-after, made-after, made-back, taken-again}
use Rattle.bench_core.proofs.Named.{named-back, named-again, named-kept, changes-kept, history-kept, state-kept}
use Rattle.bench_core.proofs.States.{side_by_side}
use Rattle.bench_core.proofs.Recounts as recounts

-- ---- the ends of a list

last-at : {X : Type 0} (xs : List X) (n : ℕ) (x : X) → length xs ≡ n + 1 → slice_get xs n ≡ Some x → (front : List X) × (xs ≡ front ++ x ∷ [])
last-at [] n x long is = absurd (none-some x is)
last-at (y ∷ []) zero x long is = ([], ap (λ z. z ∷ []) (same_Some y x is))
last-at (y ∷ []) (suc n) x long is = absurd (omega arith)
last-at (y ∷ z ∷ zs) zero x long is = absurd (omega arith)
last-at (y ∷ z ∷ zs) (suc n) x long is = let (front, same) = last-at (z ∷ zs) n x (omega arith) is in (y ∷ front, ap (λ rest. y ∷ rest) same)

pub last-splits : {X : Type 0} (xs : List X) (x : X) → slice_get xs (length xs - 1) ≡ Some x → (front : List X) × (xs ≡ front ++ x ∷ [])
last-splits [] x is = absurd (none-some x is)
last-splits (y ∷ ys) x is = last-at (y ∷ ys) (length (y ∷ ys) - 1) x (omega arith) is

pub first-splits : {X : Type 0} (xs : List X) (x : X) → slice_get xs 0 ≡ Some x → (rest : List X) × (xs ≡ x ∷ rest)
first-splits [] x is = absurd (none-some x is)
first-splits (y ∷ ys) x is = (ys, ap (λ z. z ∷ ys) (same_Some y x is))

pub no-last : {X : Type 0} (xs : List X) → slice_get xs (length xs - 1) ≡ None → xs ≡ []
no-last [] is = refl
no-last (y ∷ ys) is = absurd (none-some _ (sym is ∙ slice_get-get_or (y ∷ ys) (length (y ∷ ys) - 1) y (omega arith)))

pub no-first : {X : Type 0} (xs : List X) → slice_get xs 0 ≡ None → xs ≡ []
no-first [] is = refl
no-first (y ∷ ys) is = absurd (none-some y (sym is))

-- a history without a past has no past changes
pub no-past : (texts : List (List ℕ)) (past : List Change) (tables : List Stored) → states_before texts past tables ≡ [] → past ≡ []
no-past texts [] tables is = refl
no-past texts (change ∷ past) tables is = absurd (cc)

pub no-undone : (texts : List (List ℕ)) (undone : List Change) (tables : List Stored) → states_after texts undone tables ≡ [] → undone ≡ []
no-undone texts [] tables is = refl
no-undone texts (change ∷ undone) tables is = absurd (cc)

pub some-last : (past : List Change) (change : Change) → last_change past ≡ Some change → past ≡ [] → ⊥
some-last past change is none = none-some change (sym (ap last_change none) ∙ is)

pub some-first : (undone : List Change) (change : Change) → first_change undone ≡ Some change → undone ≡ [] → ⊥
some-first undone change is none = none-some change (sym (ap first_change none) ∙ is)

-- ---- results and tuples

pub ok-weaker : {X E : Type 0} (P Q : X → Type 0) (result : Result X E) → ((x : X) → P x → Q x) → IfOk result P → IfOk result Q
ok-weaker P Q (Ok x) weaker holds = weaker x holds
ok-weaker P Q (Err e) weaker holds = holds

pub on-err : {X E : Type 0} (result : Result X E) (P : Type 0) → P → OnErr result P
on-err (Ok x) P holds = tt
on-err (Err e) P holds = holds

pub on-ok : {X E : Type 0} (result : Result X E) (P Q : Type 0) → (P → Q) → OnOk result P → OnOk result Q
on-ok (Ok x) P Q weaker holds = weaker holds
on-ok (Err e) P Q weaker holds = holds

pub given-none : (old : Option Tuple) (row next : ℕ) → ids_if old ≡ None → IsGiven old row next → next ≡ row + 1
given-none None row next none is = is
given-none (Some tuple) row next none is = absurd (none-some (ids_of tuple) (sym none))

-- ---- states of a history

module _ (rules : Book) (limits : Limits) where
  pub history-back : (before after : History) → IsUndone before after → IsHistory rules limits before → IsHistory rules limits after
  history-back before after is all =
      let parts = All-pop (IsBench rules limits) before.past after.past (Some after.present) is.past all.past in
      record {
        past = parts.0;
        present = parts.1;
        undone = All-same (IsBench rules limits) after.undone (before.present ∷ before.undone) is.undone (All-cons (IsBench rules limits) before.present before.undone all.present all.undone);
      }

  pub history-forward : (before after : History) → IsRedone before after → IsHistory rules limits before → IsHistory rules limits after
  history-forward before after is all =
      let next = All-same (IsBench rules limits) (after.present ∷ after.undone) before.undone (sym is.undone) all.undone in
      record {
        past = All-same (IsBench rules limits) after.past (before.past ++ before.present ∷ []) is.past (All-push (IsBench rules limits) before.past before.present all.past all.present);
        present = All-head (IsBench rules limits) after.present after.undone next;
        undone = All-tail (IsBench rules limits) after.present after.undone next;
      }

  pub history-more : (history : History) (state : State) → IsHistory rules limits history → IsBench rules limits state → IsHistory rules limits (accepted history state)
  history-more history state all next = record {
    past = All-push (IsBench rules limits) history.past history.present all.past all.present;
    present = next;
    undone = All-nil (IsBench rules limits);
  }

-- ---- one table of several

pub state-at : (texts : List (List ℕ)) (n : ℕ) (becomes : Stored → Stored) (tables : List Stored) (table : Stored) → slice_get tables n ≡ Some table
    → state_of texts (at_table n becomes tables) ≡ slice_set (state_of texts tables) n (table_state texts (becomes table))
state-at texts n becomes [] table is = absurd (none-some table is)
state-at texts zero becomes (t ∷ tables) table is = ap (λ t. table_state texts (becomes t) ∷ state_of texts tables) (same_Some t table is)
state-at texts (suc n) becomes (t ∷ tables) table is = ap (λ rest. table_state texts t ∷ rest) (state-at texts n becomes tables table is)

pub state-there : (texts : List (List ℕ)) (n : ℕ) (tables : List Stored) (table : Stored) → slice_get tables n ≡ Some table → slice_get (state_of texts tables) n ≡ Some (table_state texts table)
state-there texts n [] table is = absurd (none-some table is)
state-there texts zero (t ∷ tables) table is = ap (λ t. Some (table_state texts t)) (same_Some t table is)
state-there texts (suc n) (t ∷ tables) table is = state-there texts n tables table is

pub stored-at : (stores : List Store) (n : ℕ) (store : Store) → n < length stores → store ≡ get_or stores n store → slice_get (map stored stores) n ≡ Some (stored store)
stored-at [] n store within is = absurd (omega arith)
stored-at (s ∷ stores) zero store within is = ap (λ s. Some (stored s)) (sym is)
stored-at (s ∷ stores) (suc n) store within is = stored-at stores n store (omega arith) is

pub stored-set : (stores : List Store) (n : ℕ) (store after : Store) (becomes : Stored → Stored) → n < length stores → store ≡ get_or stores n store → stored after ≡ becomes (stored store)
    → map stored (set stores n after) ≡ at_table n becomes (map stored stores)
stored-set [] n store after becomes within is made = absurd (omega arith)
stored-set (s ∷ stores) zero store after becomes within is made = ap (λ t. t ∷ map stored stores) (made ∙ ap (λ s. becomes (stored s)) is)
stored-set (s ∷ stores) (suc n) store after becomes within is made = ap (λ rest. stored s ∷ rest) (stored-set stores n store after becomes (omega arith) is made)

pub stored-same : (stores : List Store) (n : ℕ) (store after : Store) → store ≡ get_or stores n store → stored after ≡ stored store → map stored (set stores n after) ≡ map stored stores
stored-same [] n store after is same = refl
stored-same (s ∷ stores) zero store after is same = ap (λ t. t ∷ map stored stores) (same ∙ ap stored is)
stored-same (s ∷ stores) (suc n) store after is same = ap (λ rest. stored s ∷ rest) (stored-same stores n store after is same)

-- what holds at a table's place holds of the table
pub of-table : (P : Stored → Type 0) (tables : List Stored) (n : ℕ) (table : Stored) → slice_get tables n ≡ Some table → IsSomeAnd (slice_get tables n) P → P table
of-table P tables n table is holds = subst (λ at. IsSomeAnd at P) is holds

pub there-within : (P : Stored → Type 0) (tables : List Stored) (n : ℕ) → IsSomeAnd (slice_get tables n) P → n < length tables
there-within P [] n holds = absurd holds
there-within P (t ∷ tables) zero holds = omega arith
there-within P (t ∷ tables) (suc n) holds = let later = there-within P tables n holds in omega arith

-- ---- a change is taken back

module _ {rules : Book} {limits : Limits} {texts : List (List ℕ)} {log : Journal} {tables : List Stored} {weights : List ℕ} {rows cells : ℕ} (held : Holds rules limits texts log tables weights rows cells) (change : Change) where
  module _ (last : last_change log.past ≡ Some change) where
    front : (past : List Change) × (log.past ≡ past ++ change ∷ [])
    front = last-splits log.past change last

    popped : WereMade (front.0) (taken_back change tables) × IsSomeAnd (slice_get tables change.table) (HasMade change)
    popped = were-made-pop change tables (front.0) (subst (λ past. WereMade past tables) (front.1) held.past)

    pub last-made : IsSomeAnd (slice_get tables change.table) (HasMade change)
    last-made = popped.1

    pub last-is : IsChange texts change
    last-is = (All-pop (IsChange texts) log.past (front.0) (Some change) (front.1) held.past-named).1

    back-is : IsUndone (history_of texts log.past log.undone tables) (history_of texts (front.0) (change ∷ log.undone) (taken_back change tables))
    back-is = subst (λ past. IsUndone (history_of texts past log.undone tables) (history_of texts (front.0) (change ∷ log.undone) (taken_back change tables))) (sym (front.1)) (history-undone texts change tables (front.0) log.undone last-made)

    -- the state before it is one that the bench may have
    pub bench-back : IsBench rules limits (state_of texts (taken_back change tables))
    bench-back = (history-back rules limits _ _ back-is held.history).present

  module _ (after : Journal) (moved : MovesBack (Some change) log after) where
    made-last : WereMade after.past (taken_back change tables) × IsSomeAnd (slice_get tables change.table) (HasMade change)
    made-last = were-made-pop change tables after.past (subst (λ past. WereMade past tables) moved.0 held.past)

    pub history-was-undone : IsUndone (history_of texts log.past log.undone tables) (history_of texts after.past after.undone (taken_back change tables))
    history-was-undone =
        let one = history-undone texts change tables after.past log.undone made-last.1 in
        let two = subst (λ past. IsUndone (history_of texts past log.undone tables) (history_of texts after.past (change ∷ log.undone) (taken_back change tables))) (sym moved.0) one in
        subst (λ undone. IsUndone (history_of texts log.past log.undone tables) (history_of texts after.past undone (taken_back change tables))) (sym moved.1) two

    pub held-back : (weights : List ℕ) (rows cells : ℕ) → AreCounts rules (state_of texts (taken_back change tables)) weights rows cells → Holds rules limits texts after (taken_back change tables) weights rows cells
    held-back weights rows cells counts =
        let named = All-pop (IsChange texts) log.past after.past (Some change) moved.0 held.past-named in
        record {
          history = history-back rules limits _ _ history-was-undone held.history;
          counts = counts;
          past = made-last.0;
          undone = subst (λ undone. CanBeMade undone (taken_back change tables)) (sym moved.1) (can-after change tables made-last.1, subst (λ ts. CanBeMade log.undone ts) (sym (made-back change tables made-last.1)) held.undone);
          named = named-back texts change tables named.1 held.named;
          past-named = named.0;
          undone-named = All-same (IsChange texts) after.undone (change ∷ log.undone) moved.1 (All-cons (IsChange texts) change log.undone named.1 held.undone-named);
        }

  -- ---- a change is made again

  module _ (first : first_change log.undone ≡ Some change) where
    rest : (undone : List Change) × (log.undone ≡ change ∷ undone)
    rest = first-splits log.undone change first

    pub first-can : IsSomeAnd (slice_get tables change.table) (CanMake change)
    first-can = (subst (λ undone. CanBeMade undone tables) (rest.1) held.undone).0

    pub first-is : IsChange texts change
    first-is = All-head (IsChange texts) change (rest.0) (All-same (IsChange texts) (change ∷ rest.0) log.undone (sym (rest.1)) held.undone-named)

    forward-is : IsRedone (history_of texts log.past log.undone tables) (history_of texts (log.past ++ change ∷ []) (rest.0) (made_again change tables))
    forward-is = subst (λ undone. IsRedone (history_of texts log.past undone tables) (history_of texts (log.past ++ change ∷ []) (rest.0) (made_again change tables))) (sym (rest.1)) (history-redone texts change tables log.past (rest.0) first-can)

    pub bench-forward : IsBench rules limits (state_of texts (made_again change tables))
    bench-forward = (history-forward rules limits _ _ forward-is held.history).present

  module _ (after : Journal) (moved : MovesForward (Some change) log after) where
    can-first : IsSomeAnd (slice_get tables change.table) (CanMake change) × CanBeMade after.undone (made_again change tables)
    can-first = subst (λ undone. CanBeMade undone tables) moved.1 held.undone

    pub history-was-redone : IsRedone (history_of texts log.past log.undone tables) (history_of texts after.past after.undone (made_again change tables))
    history-was-redone =
        let one = history-redone texts change tables log.past after.undone can-first.0 in
        let two = subst (λ undone. IsRedone (history_of texts log.past undone tables) (history_of texts (log.past ++ change ∷ []) after.undone (made_again change tables))) (sym moved.1) one in
        subst (λ past. IsRedone (history_of texts log.past log.undone tables) (history_of texts past after.undone (made_again change tables))) (sym moved.0) two

    pub held-forward : (weights : List ℕ) (rows cells : ℕ) → AreCounts rules (state_of texts (made_again change tables)) weights rows cells → Holds rules limits texts after (made_again change tables) weights rows cells
    held-forward weights rows cells counts =
        let next = All-same (IsChange texts) (change ∷ after.undone) log.undone (sym moved.1) held.undone-named in
        let is = All-head (IsChange texts) change after.undone next in
        record {
          history = history-forward rules limits _ _ history-was-redone held.history;
          counts = counts;
          past = subst (λ past. WereMade past (made_again change tables)) (sym moved.0)
              (were-made-push change (made_again change tables) log.past (subst (λ ts. WereMade log.past ts) (sym (taken-again change tables can-first.0)) held.past) (made-after change tables can-first.0));
          undone = can-first.1;
          named = named-again texts change tables is held.named;
          past-named = All-same (IsChange texts) after.past (log.past ++ change ∷ []) moved.0 (All-push (IsChange texts) log.past change held.past-named is);
          undone-named = All-tail (IsChange texts) change after.undone next;
        }

  -- ---- a change is made for the first time

  module _ (can : IsSomeAnd (slice_get tables change.table) (CanMake change)) (is : IsChange texts change) (next : IsBench rules limits (state_of texts (made_again change tables)))
      (after : Journal) (past-is : after.past ≡ log.past ++ change ∷ []) (undone-is : after.undone ≡ []) where
    pub history-was-accepted : history_of texts after.past after.undone (made_again change tables) ≡ accepted (history_of texts log.past log.undone tables) (state_of texts (made_again change tables))
    history-was-accepted = (λ i. history_of texts (past-is i) (undone-is i) (made_again change tables)) ∙ history-accepted texts change tables log.past log.undone can

    pub held-more : (weights : List ℕ) (rows cells : ℕ) → AreCounts rules (state_of texts (made_again change tables)) weights rows cells → Holds rules limits texts after (made_again change tables) weights rows cells
    held-more weights rows cells counts = record {
      history = subst (IsHistory rules limits) (sym history-was-accepted) (history-more rules limits _ _ held.history next);
      counts = counts;
      past = subst (λ past. WereMade past (made_again change tables)) (sym past-is)
          (were-made-push change (made_again change tables) log.past (subst (λ ts. WereMade log.past ts) (sym (taken-again change tables can)) held.past) (made-after change tables can));
      undone = subst (λ undone. CanBeMade undone (made_again change tables)) (sym undone-is) tt;
      named = named-again texts change tables is held.named;
      past-named = All-same (IsChange texts) after.past (log.past ++ change ∷ []) past-is (All-push (IsChange texts) log.past change held.past-named is);
      undone-named = All-same (IsChange texts) after.undone [] undone-is (All-nil (IsChange texts));
    }

-- ---- the store of a table

pub same-stored : (one other : Store) → one.rows ≡ other.rows → one.next ≡ other.next → stored one ≡ stored other
same-stored one other rows next = λ i. record { rows = rows i; next = next i }

pub all-there : (P : Stored → Type 0) (tables : List Stored) (n : ℕ) (table : Stored) → All P tables → slice_get tables n ≡ Some table → P table
all-there P tables n table all is = subst P (get_or_from_slice_get tables n table table is) (all n table (slice_get_within tables n table is))

pub row-small : (old : Option Tuple) (row next : ℕ) → CanGive old row next → row ≤ next
row-small None row next is = omega arith
row-small (Some tuple) row next is = omega arith

-- the id of a row is far from the last number
pub id-left : (rules : Book) (limits : Limits) (texts : List (List ℕ)) (tables : List Stored) (n : ℕ) (table : Stored) (row : ℕ) → IsBench rules limits (state_of texts tables) → slice_get tables n ≡ Some table → row ≤ table.next → row + 1 < 2 ^ 64
id-left rules limits texts tables n table row bench at small =
    let there = state-there texts n tables table at in
    let inside = slice_get_within (state_of texts tables) n (table_state texts table) there in
    let (declared, found, holds) = side_by_side (IsTableState limits.cell_bytes limits.last_id) rules.schema.tables (state_of texts tables) n (table_state texts table) bench.tables inside in
    let state = subst (IsTableState limits.cell_bytes limits.last_id declared) (get_or_from_slice_get (state_of texts tables) n (table_state texts table) (table_state texts table) there) holds in
    let most = bench.allowed.last_id in
    let next = state.next.1 in
    omega arith

-- ---- the pool grows

pub held-named : {rules : Book} {limits : Limits} {log : Journal} {tables : List Stored} {weights : List ℕ} {rows cells : ℕ} (old new : List (List ℕ)) → KeepsIds old new → Holds rules limits old log tables weights rows cells → Holds rules limits new log tables weights rows cells
held-named {rules} {limits} {log} {tables} {weights} {rows} {cells} old new kept held = record {
  history = subst (IsHistory rules limits) (sym (history-kept old new kept log.past log.undone tables held.past-named held.undone-named held.named)) held.history;
  counts = subst (λ state. AreCounts rules state weights rows cells) (sym (state-kept old new kept tables held.named)) held.counts;
  past = held.past;
  undone = held.undone;
  named = named-kept old new kept tables held.named;
  past-named = changes-kept old new kept log.past held.past-named;
  undone-named = changes-kept old new kept log.undone held.undone-named;
}

-- a log with the same changes
pub held-log : {rules : Book} {limits : Limits} {texts : List (List ℕ)} {log : Journal} {tables : List Stored} {weights : List ℕ} {rows cells : ℕ} (after : Journal) → after.past ≡ log.past → after.undone ≡ log.undone → Holds rules limits texts log tables weights rows cells → Holds rules limits texts after tables weights rows cells
held-log {rules} {limits} {texts} {log} {tables} {weights} {rows} {cells} after past undone held = record {
  history = subst (λ changes. IsHistory rules limits (history_of texts changes after.undone tables)) (sym past) (subst (λ changes. IsHistory rules limits (history_of texts log.past changes tables)) (sym undone) held.history);
  counts = held.counts;
  past = subst (λ changes. WereMade changes tables) (sym past) held.past;
  undone = subst (λ changes. CanBeMade changes tables) (sym undone) held.undone;
  named = held.named;
  past-named = All-same (IsChange texts) after.past log.past past held.past-named;
  undone-named = All-same (IsChange texts) after.undone log.undone undone held.undone-named;
}

-- what is set at a place stands there
pub set-there : {X : Type 0} (P : X → Type 0) (xs : List X) (n : ℕ) (x : X) → n < length xs → P x → IsSomeAnd (slice_get (slice_set xs n x) n) P
set-there P [] n x within holds = absurd (omega arith)
set-there P (y ∷ ys) zero x within holds = holds
set-there P (y ∷ ys) (suc n) x within holds = set-there P ys n x (omega arith) holds

-- an edit of the present state is one of the history
pub history-edited-is : (rules : Book) (limits : Limits) (past : History) (edit : Edit) (state : State) (told : Applied) → edited rules limits past.present edit ≡ Ok (state, told) → history_edited rules limits past edit ≡ Ok (accepted past state, told)
history-edited-is rules limits past edit state told is = rw is refl

-- ---- the numbers of a table that changes

module _ (rules : Book) (limits : Limits) (texts : List (List ℕ)) (tables : List Stored) (weights : List ℕ) (rows cells : ℕ) (bench : IsBench rules limits (state_of texts tables)) (counts : AreCounts rules (state_of texts tables) weights rows cells)
    (n : ℕ) (table : Stored) (at : slice_get tables n ≡ Some table) where
  pub n-inside : n < length (state_of texts tables)
  n-inside = slice_get_within (state_of texts tables) n (table_state texts table) (state-there texts n tables table at)

  pub n-in_weights : n < length weights
  n-in_weights = recounts.in_weights bench counts n n-inside

  at-state : get_or (state_of texts tables) n (table_state texts table) ≡ table_state texts table
  at-state = get_or_from_slice_get (state_of texts tables) n (table_state texts table) (table_state texts table) (state-there texts n tables table at)

  pub rows-are : (one : Stored) → length ((table_state texts one).rows) ≡ finmap.len one.rows
  rows-are one = length-map (finmap.entries one.rows) _ ∙ sym (finmap.len-entries one.rows)

  module _ (becomes : Stored → Stored) (later : IsBench rules limits (state_of texts (at_table n becomes tables))) where
    later-set : IsBench rules limits (slice_set (state_of texts tables) n (table_state texts (becomes table)))
    later-set = subst (IsBench rules limits) (state-at texts n becomes tables table at) later

    pub n-rows-fit : (finmap.len table.rows ≤ rows) × (rows + finmap.len (becomes table).rows < 2 ^ 64)
    n-rows-fit = rw (← rows-are table, ← rows-are (becomes table)) (recounts.rows-fit bench counts n n-inside (table_state texts table) (table_state texts (becomes table)) at-state later-set)

    pub n-cells-fit : (finmap.len table.rows * slice_index weights n ≤ cells) × (cells + finmap.len (becomes table).rows * slice_index weights n < 2 ^ 64)
    n-cells-fit = rw (← rows-are table, ← rows-are (becomes table)) (recounts.cells-fit bench counts n n-inside (table_state texts table) (table_state texts (becomes table)) at-state later-set)

    pub n-counts : AreCounts rules (state_of texts (at_table n becomes tables)) weights (rows - finmap.len table.rows + finmap.len (becomes table).rows) (cells - finmap.len table.rows * slice_index weights n + finmap.len (becomes table).rows * slice_index weights n)
    n-counts =
        subst (λ state. AreCounts rules state weights (rows - finmap.len table.rows + finmap.len (becomes table).rows) (cells - finmap.len table.rows * slice_index weights n + finmap.len (becomes table).rows * slice_index weights n)) (sym (state-at texts n becomes tables table at))
        (rw (← rows-are table, ← rows-are (becomes table)) (recounts.counts-after bench counts n n-inside (table_state texts table) (table_state texts (becomes table)) at-state later-set))

    pub n-counted : (before after : ℕ) → before ≡ finmap.len table.rows → after ≡ finmap.len (becomes table).rows → (new_weights : List ℕ) (new_rows new_cells : ℕ) → new_weights ≡ weights → new_rows ≡ rows - before + after
        → new_cells ≡ cells - before * slice_index weights n + after * slice_index weights n → AreCounts rules (state_of texts (at_table n becomes tables)) new_weights new_rows new_cells
    n-counted before after before-is after-is new_weights new_rows new_cells weights-is rows-is cells-is = rw (weights-is, rows-is, cells-is, before-is, after-is) n-counts
