-- What a change of one key's rows makes of the two sets of entries and of the marks.
use Rattle.std.proofs.Common.{◌≡◌, ◌≢◌, ℕ, zero, suc, ◌+◌, ◌-◌, ◌<◌, ◌≤◌, ◌⊎◌, Bool, true, false, not, ◌&&◌, ◌||◌, List, [], ◌∷◌, ◌++◌, length, swap, slice_get, Option, Some, None, Result, Ok, Err, OnErr, refl, sym, ap, ◌∙◌, subst, inl, inr, arith}
use Rattle.std.specs.Prelude.{◌==◌, IsSomeAnd}
use Rattle.std.specs.List.{list_any}
use Rattle.std.specs.Map.{keys_of, values_of}
use Rattle.std.specs.Str.{bytes_eq}
use Rattle.std.proofs.lemmas.Bool.{cases_eq, cases_lt}
use Rattle.std.proofs.lemmas.Bool.Decides.{nat_tests}
use Rattle.std.proofs.lemmas.Option.{none-some, same_Some, slice_get_within}
use Rattle.marked_map.specs.MarkedMap.{with_mark, without_mark, KeepsOthers, HaveDistinctKeys, HasKey, IsAbsent, Enters}
use Rattle.cfd_semantics.specs.declared.inclusion.InclusionRow.{InclusionRow}
use Rattle.cfd_semantics.specs.Orphan.{SideEntry}
use Rattle.cfd_semantics.proofs.InclusionLaw.{both_true}
use Rattle.cind_index.specs.Laws.{same_number}
use Rattle.cind_index.specs.declared.side.Side.{Side}
use Rattle.cind_index.specs.declared.side.Side.TheVariants.{Left, Right}
use Rattle.cind_index.specs.declared.key_rows.KeyRows.{KeyRows}
use Rattle.cind_index.specs.RowsHeld.{has, rows_on, across, is_dirty, ChangesOn, HasRowMore, HasRowLess, HaveTheSame, HasNothing}
use Rattle.cind_index.specs.Entries.{is_entry}
use Rattle.cind_index.specs.KeysHeld.{Ids, KeyedRows, is_under, held, AreMarkedRight, AreMarkedRightBut, HasKeyAt, KeepsKeys, HoldTheSame, HoldsMore, HoldsLess}
use Rattle.cind_index.proofs.MapFacts.{equal_lists, same_list, flip_lists}
use Rattle.cind_index.proofs.PairFacts.{never, clash, any_at, none_pass, swapped_pass, swapped_apart, set_value_at, set_here, set_beside, set_more, set_same, set_less, push_more, MarksRight, MarksRightBut, settled, removed_pass}

abbrev pub Pair : Type 0
Pair = Ids × KeyRows

-- the keys' own `==`
abbrev pub same_key : Ids → Ids → Bool
same_key x y = bytes_eq x.items y.items

abbrev pub dirty_pair : List (InclusionRow ℕ) → Pair → Bool
dirty_pair tableau pair = is_dirty tableau pair.1

-- ---- pairs, by their keys and values

pub key_there : (es : List Pair) (i : ℕ) (x : Pair) → slice_get es i ≡ Some x → slice_get (keys_of es) i ≡ Some x.0
key_there [] i x at = absurd (none-some x at)
key_there (e ∷ es) zero x at = ap (λ (p : Pair). Some p.0) (same_Some e x at)
key_there (e ∷ es) (suc i) x at = key_there es i x at

pub value_there : (es : List Pair) (i : ℕ) (x : Pair) → slice_get es i ≡ Some x → slice_get (values_of es) i ≡ Some x.1
value_there [] i x at = absurd (none-some x at)
value_there (e ∷ es) zero x at = ap (λ (p : Pair). Some p.1) (same_Some e x at)
value_there (e ∷ es) (suc i) x at = value_there es i x at

pub pair_there : (es : List Pair) (i : ℕ) (k : Ids) (v : KeyRows) → slice_get (keys_of es) i ≡ Some k → slice_get (values_of es) i ≡ Some v → slice_get es i ≡ Some (k, v)
pair_there [] i k v at_key at_value = absurd (none-some k at_key)
pair_there (e ∷ es) zero k v at_key at_value =
    let key : e.0 ≡ k = same_Some e.0 k at_key in
    let value : e.1 ≡ v = same_Some e.1 v at_value in
    λ i. Some (key i, value i)
pair_there (e ∷ es) (suc i) k v at_key at_value = pair_there es i k v at_key at_value

-- a value is that of some pair
pub with_key : (es : List Pair) (i : ℕ) (v : KeyRows) → slice_get (values_of es) i ≡ Some v → (k : Ids) × (slice_get es i ≡ Some (k, v))
with_key [] i v at = absurd (none-some v at)
with_key (e ∷ es) zero v at = (e.0, let value : e.1 ≡ v = same_Some e.1 v at in λ i. Some (e.0, value i))
with_key (e ∷ es) (suc i) v at = with_key es i v at

-- no pair stands twice where no key does
pub once : (m : KeyedRows) → HaveDistinctKeys same_key m → (i j : ℕ) (x : Pair) → slice_get m.pairs i ≡ Some x → slice_get m.pairs j ≡ Some x → i ≡ j
once m distinct i j x at also = distinct i j x.0 x.0 (key_there m.pairs i x at) (key_there m.pairs j x also) (same_list x.0.items)

pub has_key_at : (m : KeyedRows) (place : ℕ) (k : Ids) (v : KeyRows) (key : List ℕ) → slice_get m.pairs place ≡ Some (k, v) → k.items ≡ key → HasKeyAt m place key
has_key_at m place k v key at is = subst (λ (o : Option Pair). IsSomeAnd o (λ pair. pair.0.items ≡ key)) (sym at) is

pub key_at : (m : KeyedRows) (place : ℕ) (k : Ids) (v : KeyRows) (key : List ℕ) → slice_get m.pairs place ≡ Some (k, v) → HasKeyAt m place key → k.items ≡ key
key_at m place k v key at has = subst (λ (o : Option Pair). IsSomeAnd o (λ pair. pair.0.items ≡ key)) at has

-- ---- marks, in both words

pub to_right : (tableau : List (InclusionRow ℕ)) (m : KeyedRows) → AreMarkedRight tableau m → MarksRight (dirty_pair tableau) m
to_right tableau m are = record { marked = are.marked; unmarked = are.unmarked }

pub from_right : (tableau : List (InclusionRow ℕ)) (m : KeyedRows) → MarksRight (dirty_pair tableau) m → AreMarkedRight tableau m
from_right tableau m are = record { marked = are.marked; unmarked = are.unmarked }

pub to_but : (tableau : List (InclusionRow ℕ)) (place : ℕ) (m : KeyedRows) → AreMarkedRightBut place tableau m → MarksRightBut (dirty_pair tableau) place m
to_but tableau place m are = record { marked = are.marked; unmarked = are.unmarked }

pub from_but : (tableau : List (InclusionRow ℕ)) (place : ℕ) (m : KeyedRows) → MarksRightBut (dirty_pair tableau) place m → AreMarkedRightBut place tableau m
from_but tableau place m are = record { marked = are.marked; unmarked = are.unmarked }

-- ---- a pair takes its mark

-- it stays, or changes places with another
pub data Moved (old new : KeyedRows) (place at : ℕ) : Type 0 where
  stays : new ≡ old → at ≡ place → Moved old new place at
  swaps : at < length old.pairs → new.pairs ≡ swap old.pairs place at → Moved old new place at

pub moved_same : (old new : KeyedRows) (place at : ℕ) → place < length old.pairs → Moved old new place at → HoldTheSame old new
moved_same old new place at within (stays is same) side e = ap (λ m. held m side e) is
moved_same old new place at within (swaps beside is) side e = ap (list_any (is_under side e)) is ∙ swapped_pass (is_under side e) old.pairs place at within beside

pub moved_apart : (old new : KeyedRows) (place at : ℕ) → HaveDistinctKeys same_key old → place < length old.pairs → Moved old new place at
    → (i : ℕ) (x : Pair) → i ≢ at → slice_get new.pairs i ≡ Some x → slice_get old.pairs place ≢ Some x
moved_apart old new place at distinct within (stays is same) i x apart there was = apart (once old distinct i place x (ap (λ (m : KeyedRows). slice_get m.pairs i) (sym is) ∙ there) was ∙ sym same)
moved_apart old new place at distinct within (swaps beside is) i x apart there was =
    swapped_apart old.pairs place at within beside (once old distinct) i x apart (ap (λ es. slice_get es i) (sym is) ∙ there) was

pub mark_moves : (old new : KeyedRows) (place at : ℕ) → place < length old.pairs → (place < old.marked → (at ≡ place) × (new ≡ old)) → (old.marked ≤ place → (at ≡ old.marked) × (new ≡ with_mark old place)) → Moved old new place at
mark_moves old new place at within already marks = elim (cases_lt place old.marked) [
  | inl low ↦ let is = already low in stays is.1 is.0
  | inr high ↦ let is = marks high in let first = is.0 in swaps (omega (arith, first, high, within)) (ap (λ (m : KeyedRows). m.pairs) is.1 ∙ ap (swap old.pairs place) (sym is.0))
]

pub unmark_moves : (old new : KeyedRows) (place at : ℕ) → place < length old.pairs → (old.marked ≤ place → (at ≡ place) × (new ≡ old)) → (place < old.marked → (at + 1 ≡ old.marked) × (new ≡ without_mark old place))
    → at < length old.pairs → Moved old new place at
unmark_moves old new place at within already unmarks there = elim (cases_lt place old.marked) [
  | inl low ↦
      let is = unmarks low in
      let last = is.0 in
      let same : at ≡ old.marked - 1 = omega (arith, last) in
      swaps there (ap (λ (m : KeyedRows). m.pairs) is.1 ∙ ap (swap old.pairs place) (sym same))
  | inr high ↦ let is = already high in stays is.1 is.0
]

pub takes_mark : (tableau : List (InclusionRow ℕ)) (old new : KeyedRows) (place at : ℕ) (k : Ids) (v : KeyRows) → HaveDistinctKeys same_key old → place < length old.pairs → slice_get old.pairs place ≡ Some (k, v)
    → Moved old new place at → slice_get new.pairs at ≡ slice_get old.pairs place → KeepsOthers old place new → ((at < new.marked) × (is_dirty tableau v ≡ true)) ⊎ ((new.marked ≤ at) × (is_dirty tableau v ≡ false))
    → AreMarkedRightBut place tableau old → AreMarkedRight tableau new
takes_mark tableau old new place at k v distinct within was moved same keeps right others =
    from_right tableau new (settled (dirty_pair tableau) old new place at (k, v) (same ∙ was) (moved_apart old new place at distinct within moved) keeps right (to_but tableau place old others))

-- ---- tests

-- an entry's test, the other way round
pub entry_flip : (key pattern : List ℕ) (row : ℕ) (e : SideEntry ℕ) → is_entry key pattern row e ≡ (bytes_eq e.key key && (bytes_eq e.pattern pattern && e.row == row))
entry_flip key pattern row e =
    ap (λ b. b && bytes_eq pattern e.pattern && (row == e.row)) (flip_lists key e.key) ∙ ap (λ b. bytes_eq e.key key && b && (row == e.row)) (flip_lists pattern e.pattern)
    ∙ ap (λ b. bytes_eq e.key key && bytes_eq e.pattern pattern && b) (flip_numbers row e.row) ∙ assoc (bytes_eq e.key key) (bytes_eq e.pattern pattern) (e.row == row)
  where
    flip_numbers : (m n : ℕ) → (m == n) ≡ (n == m)
    flip_numbers m n = grind (arith, nat_tests)

    assoc : (a b c : Bool) → ((a && b) && c) ≡ (a && (b && c))
    assoc true b c = refl
    assoc false b c = refl

pub entry_is : (key pattern : List ℕ) (row : ℕ) (e : SideEntry ℕ) → is_entry key pattern row e ≡ true → record { key = key; pattern = pattern; row = row } ≡ e
entry_is key pattern row e is =
    let first = both_true (bytes_eq key e.key && bytes_eq pattern e.pattern) (row == e.row) is in
    let lists = both_true (bytes_eq key e.key) (bytes_eq pattern e.pattern) first.0 in
    let k = equal_lists key e.key lists.0 in
    let p = equal_lists pattern e.pattern lists.1 in
    let r : row ≡ e.row = same_number row e.row first.1 in
    λ i. record { key = k i; pattern = p i; row = r i }

or_over : (a q h : Bool) → (a && (q || h)) ≡ ((a && h) || (a && q))
or_over true true true = refl
or_over true true false = refl
or_over true false true = refl
or_over true false false = refl
or_over false q h = refl

less_over : (a q h : Bool) → (a && (not q && h)) ≡ ((a && h) && not (a && q))
less_over true true true = refl
less_over true true false = refl
less_over true false true = refl
less_over true false false = refl
less_over false q h = refl

-- ---- a row comes in under a key that is there

module _ (m : KeyedRows) (place : ℕ) (k : Ids) (v w : KeyRows) (at : slice_get m.pairs place ≡ Some (k, v)) (side : Side) where
  abbrev pub written : KeyedRows
  written = record { pairs = set_value_at m.pairs place w; marked = m.marked }

  same_beside : HaveTheSame (rows_on v (across side)) (rows_on w (across side)) → (e : SideEntry ℕ) → held written (across side) e ≡ held m (across side) e
  same_beside same e = set_same (is_under (across side) e) m.pairs place k v w at (ap (λ b. bytes_eq e.key k.items && b) (same e.pattern e.row))

  pub put_there : (key pattern : List ℕ) (row : ℕ) → k.items ≡ key → ChangesOn side (HasRowMore pattern row) v w → HoldsMore side (is_entry key pattern row) m written
  put_there key pattern row is changes = record {
    here = λ e. set_more (is_under side e) m.pairs place k v w (is_entry key pattern row e) at
        (ap (λ b. bytes_eq e.key k.items && b) (changes.here e.pattern e.row) ∙ or_over (bytes_eq e.key k.items) (bytes_eq e.pattern pattern && e.row == row) (has (rows_on v side) e.pattern e.row)
        ∙ ap (λ t. (bytes_eq e.key k.items && has (rows_on v side) e.pattern e.row) || t) (ap (λ xs. bytes_eq e.key xs && (bytes_eq e.pattern pattern && e.row == row)) is ∙ sym (entry_flip key pattern row e)));
    beside = same_beside changes.beside;
  }

  -- only the pair with the key can have an entry
  elsewhere : HaveDistinctKeys same_key m → (key : List ℕ) → k.items ≡ key → (i : ℕ) (x : Pair) → i ≢ place → slice_get m.pairs i ≡ Some x → bytes_eq key x.0.items ≡ false
  elsewhere distinct key is i x apart there =
      never (bytes_eq key x.0.items) (λ same. apart (distinct i place x.0 k (key_there m.pairs i x there) (key_there m.pairs place (k, v) at)
      (ap (λ xs. bytes_eq x.0.items xs) (is ∙ equal_lists key x.0.items same) ∙ same_list x.0.items)))

  pub entry_there : (key pattern : List ℕ) (row : ℕ) → HaveDistinctKeys same_key m → k.items ≡ key → held m side (record { key = key; pattern = pattern; row = row }) ≡ has (rows_on v side) pattern row
  entry_there key pattern row distinct is = of (has (rows_on v side) pattern row) refl
    where
      own : bytes_eq key k.items ≡ true
      own = ap (bytes_eq key) is ∙ same_list key

      of : (b : Bool) → has (rows_on v side) pattern row ≡ b → held m side (record { key = key; pattern = pattern; row = row }) ≡ b
      of true is_b = any_at (is_under side (record { key = key; pattern = pattern; row = row })) m.pairs (k, v) place at (ap (λ b. b && has (rows_on v side) pattern row) own ∙ is_b)
      of false is_b = none_pass (is_under side (record { key = key; pattern = pattern; row = row })) m.pairs (λ x i there. elim (cases_eq i place) [
        | inl e ↦
            let it : (k, v) ≡ x = same_Some (k, v) x (sym at ∙ ap (slice_get m.pairs) (sym e) ∙ there) in
            ap (is_under side (record { key = key; pattern = pattern; row = row })) (sym it) ∙ ap (λ b. b && has (rows_on v side) pattern row) own ∙ is_b
        | inr apart ↦ ap (λ b. b && has (rows_on x.1 side) pattern row) (elsewhere distinct key is i x apart there)
      ])

  pub take_there : (key pattern : List ℕ) (row : ℕ) → HaveDistinctKeys same_key m → k.items ≡ key → ChangesOn side (HasRowLess pattern row) v w → HoldsLess side (is_entry key pattern row) m written
  take_there key pattern row distinct is changes = record {
    here = λ e. set_less (is_under side e) m.pairs place k v w (is_entry key pattern row e) at
        (ap (λ b. bytes_eq e.key k.items && b) (changes.here e.pattern e.row) ∙ less_over (bytes_eq e.key k.items) (bytes_eq e.pattern pattern && e.row == row) (has (rows_on v side) e.pattern e.row)
        ∙ ap (λ t. (bytes_eq e.key k.items && has (rows_on v side) e.pattern e.row) && not t) (ap (λ xs. bytes_eq e.key xs && (bytes_eq e.pattern pattern && e.row == row)) is ∙ sym (entry_flip key pattern row e)))
        (λ i x apart there gone.
        let same = (both_true (bytes_eq e.key key) (bytes_eq e.pattern pattern && e.row == row) (sym (entry_flip key pattern row e) ∙ gone)).0 in
        ap (λ b. b && has (rows_on x.1 side) e.pattern e.row) (ap (λ xs. bytes_eq xs x.0.items) (equal_lists e.key key same) ∙ elsewhere distinct key is i x apart there));
    beside = same_beside changes.beside;
  }

  pub same_there : ChangesOn side HaveTheSame v w → HoldTheSame m written
  same_there same s e = set_same (is_under s e) m.pairs place k v w at (ap (λ b. bytes_eq e.key k.items && b) (on s side same))
    where
      on : (s side : Side) → ChangesOn side HaveTheSame v w → has (rows_on w s) e.pattern e.row ≡ has (rows_on v s) e.pattern e.row
      on Left Left same = same.here e.pattern e.row
      on Right Right same = same.here e.pattern e.row
      on Left Right same = same.beside e.pattern e.row
      on Right Left same = same.beside e.pattern e.row

  pub same_keys : KeepsKeys m written
  same_keys p key has_key = elim (cases_eq p place) [
    | inl e ↦ has_key_at written p k w key (ap (slice_get (set_value_at m.pairs place w)) e ∙ set_here m.pairs place k v w at) (key_at m place k v key at (subst (λ q. HasKeyAt m q key) e has_key))
    | inr apart ↦ subst (λ (o : Option Pair). IsSomeAnd o (λ pair. pair.0.items ≡ key)) (sym (set_beside m.pairs place p w apart)) has_key
  ]

  pub written_distinct : HaveDistinctKeys same_key m → HaveDistinctKeys same_key written
  written_distinct distinct = subst (λ ks. (i j : ℕ) (x y : Ids) → slice_get ks i ≡ Some x → slice_get ks j ≡ Some y → same_key x y ≡ true → i ≡ j) (sym (keys_kept m.pairs place)) distinct
    where
      keys_kept : (es : List Pair) (n : ℕ) → keys_of (set_value_at es n w) ≡ keys_of es
      keys_kept [] n = refl
      keys_kept (e ∷ es) zero = refl
      keys_kept (e ∷ es) (suc n) = ap (λ ks. e.0 ∷ ks) (keys_kept es n)

-- ---- a key comes in

module _ (m : KeyedRows) (k : Ids) (fresh : KeyRows) (side : Side) where
  abbrev pub pushed : KeyedRows
  pushed = record { pairs = m.pairs ++ (k, fresh) ∷ []; marked = m.marked }

  pub put_new : (pattern : List ℕ) (row : ℕ) → ((ids : List ℕ) (other : ℕ) → has (rows_on fresh side) ids other ≡ (bytes_eq ids pattern && other == row)) → HasNothing (rows_on fresh (across side))
      → HoldsMore side (is_entry k.items pattern row) m pushed
  put_new pattern row here beside = record {
    here = λ e. push_more (is_under side e) m.pairs (k, fresh)
        ∙ ap (λ t. held m side e || t) (ap (λ b. bytes_eq e.key k.items && b) (here e.pattern e.row) ∙ sym (entry_flip k.items pattern row e));
    beside = λ e. push_more (is_under (across side) e) m.pairs (k, fresh)
        ∙ ap (λ t. held m (across side) e || t) (ap (λ b. bytes_eq e.key k.items && b) (beside e.pattern e.row) ∙ and_false (bytes_eq e.key k.items)) ∙ or_false (held m (across side) e);
  }
    where
      and_false : (b : Bool) → (b && false) ≡ false
      and_false true = refl
      and_false false = refl

      or_false : (b : Bool) → (b || false) ≡ b
      or_false true = refl
      or_false false = refl

  pub entry_new : (pattern : List ℕ) (row : ℕ) → IsAbsent same_key m k → held m side (record { key = k.items; pattern = pattern; row = row }) ≡ false
  entry_new pattern row absent = none_pass (is_under side (record { key = k.items; pattern = pattern; row = row })) m.pairs
      (λ x i there. ap (λ b. b && has (rows_on x.1 side) pattern row) (absent i x.0 (key_there m.pairs i x there)))

-- ---- a key goes away that has nothing left

pub nothing_held : (m new : KeyedRows) (place : ℕ) (k : Ids) (v : KeyRows) → slice_get m.pairs place ≡ Some (k, v) → ((side : Side) → HasNothing (rows_on v side)) → KeepsOthers m place new → HoldTheSame m new
nothing_held m new place k v at nothing keeps side e =
    removed_pass (is_under side e) m new place (k, v) at (ap (λ b. bytes_eq e.key k.items && b) (nothing side e.pattern e.row) ∙ and_false (bytes_eq e.key k.items)) keeps
  where
    and_false : (b : Bool) → (b && false) ≡ false
    and_false true = refl
    and_false false = refl

pub gone_apart : (m new : KeyedRows) (place : ℕ) (k : Ids) (v : KeyRows) → slice_get m.pairs place ≡ Some (k, v) → IsAbsent same_key new k
    → (i : ℕ) (x : Pair) → slice_get new.pairs i ≡ Some x → slice_get m.pairs place ≢ Some x
gone_apart m new place k v at gone i x there was =
    let is : (k, v) ≡ x = same_Some (k, v) x (sym at ∙ was) in
    clash (same_key k x.0) (ap (λ (p : Pair). same_key k p.0) (sym is) ∙ same_list k.items) (gone i x.0 (key_there new.pairs i x there))

-- ---- steps one after the other

pub less_then_same : (side : Side) (test : SideEntry ℕ → Bool) (old mid new : KeyedRows) → HoldsLess side test old mid → HoldTheSame mid new → HoldsLess side test old new
less_then_same side test old mid new first second = record { here = λ e. second side e ∙ first.here e; beside = λ e. second (across side) e ∙ first.beside e }

pub more_then_same : (side : Side) (test : SideEntry ℕ → Bool) (old mid new : KeyedRows) → HoldsMore side test old mid → HoldTheSame mid new → HoldsMore side test old new
more_then_same side test old mid new first second = record { here = λ e. second side e ∙ first.here e; beside = λ e. second (across side) e ∙ first.beside e }

-- an entry that was there already adds nothing
pub nothing_more : (side : Side) (key pattern : List ℕ) (row : ℕ) (old new : KeyedRows) → held old side (record { key = key; pattern = pattern; row = row }) ≡ true → HoldsMore side (is_entry key pattern row) old new → HoldTheSame old new
nothing_more side key pattern row old new there more s e = on s side more there
  where
    already : (b t : Bool) → (t ≡ true → b ≡ true) → (b || t) ≡ b
    already true t known = refl
    already false true known = sym (known refl)
    already false false known = refl

    here : (side : Side) → HoldsMore side (is_entry key pattern row) old new → held old side (record { key = key; pattern = pattern; row = row }) ≡ true → held new side e ≡ held old side e
    here side more there = more.here e ∙ already (held old side e) (is_entry key pattern row e) (λ is. ap (held old side) (sym (entry_is key pattern row e is)) ∙ there)

    on : (s side : Side) → HoldsMore side (is_entry key pattern row) old new → held old side (record { key = key; pattern = pattern; row = row }) ≡ true → held new s e ≡ held old s e
    on Left Left more there = here Left more there
    on Right Right more there = here Right more there
    on Left Right more there = more.beside e
    on Right Left more there = more.beside e

pub same_then_same : (old mid new : KeyedRows) → HoldTheSame old mid → HoldTheSame mid new → HoldTheSame old new
same_then_same old mid new first second side e = second side e ∙ first side e

-- ---- where a key was looked up

pub value_of_key : (es : List Pair) (i : ℕ) (k : Ids) → slice_get (keys_of es) i ≡ Some k → (v : KeyRows) × (slice_get es i ≡ Some (k, v))
value_of_key [] i k at = absurd (none-some k at)
value_of_key (e ∷ es) zero k at = (e.1, let key : e.0 ≡ k = same_Some e.0 k at in λ i. Some (key i, e.1))
value_of_key (e ∷ es) (suc i) k at = value_of_key es i k at

pub key_found : (m : KeyedRows) (key : Ids) (place : ℕ) → HasKey same_key m key place → HasKeyAt m place key.items
key_found m key place (stored, at, same) =
    let it = value_of_key m.pairs place stored at in
    has_key_at m place stored it.0 key.items it.1 (sym (equal_lists key.items stored.items same))

pub has_place : (m : KeyedRows) (place : ℕ) (key : List ℕ) → HasKeyAt m place key → place < length m.pairs
has_place m place key has_key = of (slice_get m.pairs place) refl has_key
  where
    of : (o : Option Pair) → slice_get m.pairs place ≡ o → IsSomeAnd o (λ pair. pair.0.items ≡ key) → place < length m.pairs
    of None at has_key = absurd has_key
    of (Some x) at has_key = slice_get_within m.pairs place x at

pub same_place : (m new : KeyedRows) (place at : ℕ) (key : List ℕ) → slice_get new.pairs at ≡ slice_get m.pairs place → HasKeyAt m place key → HasKeyAt new at key
same_place m new place at key same has_key = subst (λ (o : Option Pair). IsSomeAnd o (λ pair. pair.0.items ≡ key)) (sym same) has_key

-- where a key isn't, nothing goes away
pub nothing_less : (m : KeyedRows) (k : Ids) (side : Side) (pattern : List ℕ) (row : ℕ) → IsAbsent same_key m k → HoldsLess side (is_entry k.items pattern row) m m
nothing_less m k side pattern row absent = record {
  here = λ e. still (held m side e) (is_entry k.items pattern row e) (λ is.
      ap (held m side) (sym (entry_is k.items pattern row e is))
      ∙ none_pass (is_under side (record { key = k.items; pattern = pattern; row = row })) m.pairs (λ x i there. ap (λ b. b && has (rows_on x.1 side) pattern row) (absent i x.0 (key_there m.pairs i x there))));
  beside = λ e. refl;
}
  where
    still : (b t : Bool) → (t ≡ true → b ≡ false) → b ≡ (b && not t)
    still b true none = none refl ∙ sym (and_false b)
      where
        and_false : (b : Bool) → (b && false) ≡ false
        and_false true = refl
        and_false false = refl
    still true false none = refl
    still false false none = refl

-- ---- a key was entered

pub entered_new : (old new : KeyedRows) (key : Ids) (fresh : KeyRows) (place : ℕ) → Enters same_key old key fresh place new → place ≡ length old.pairs
    → IsAbsent same_key old key × (new ≡ record { pairs = old.pairs ++ (key, fresh) ∷ []; marked = old.marked })
entered_new old new key fresh place (inl there) last = absurd (let at = slice_get_within (keys_of old.pairs) place there.0.0 there.0.1 in omega (arith, at, keys_length old.pairs, last))
  where
    keys_length : (es : List Pair) → length (keys_of es) ≡ length es
    keys_length [] = refl
    keys_length (e ∷ es) = ap (λ n. suc n) (keys_length es)
entered_new old new key fresh place (inr (absent, is, same)) last = (absent, same)

pub record Found (old new : KeyedRows) (key : Ids) (place : ℕ) (v : KeyRows) : Type 0 where
  pub k : Ids
  pub at : slice_get old.pairs place ≡ Some (k, v)
  pub is : k.items ≡ key.items
  pub same : old ≡ new

pub entered_there : (old new : KeyedRows) (key : Ids) (fresh : KeyRows) (place : ℕ) (v : KeyRows) → Enters same_key old key fresh place new → place ≢ length old.pairs
    → slice_get (values_of new.pairs) place ≡ Some v → Found old new key place v
entered_there old new key fresh place v (inr (absent, is, same)) before value = absurd (before is)
entered_there old new key fresh place v (inl ((stored, at, equal), same)) before value = record {
  k = stored;
  at = pair_there old.pairs place stored v at (ap (λ (m : KeyedRows). slice_get (values_of m.pairs) place) (sym same) ∙ value);
  is = sym (equal_lists key.items stored.items equal);
  same = sym same;
}

-- ---- results

pub err_of : {A E P : Type 0} (r : Result A E) → P → OnErr r P
err_of (Ok v) p = tt
err_of (Err e) p = p
