-- What two tuples of a row give for one side.
use Rattle.std.proofs.Common.{◌≡◌, ℕ, ◌<◌, Bool, true, false, not, cond, ◌&&◌, ◌||◌, List, [], ◌∷◌, ◌++◌, length, Option, Some, None, refl, sym, ap, ◌∙◌, subst}
use Rattle.std.specs.Prelude.{All, ◌==◌}
use Rattle.std.specs.Str.{bytes_eq}
use Rattle.std.proofs.lemmas.List.Elements.{All-nil, All-cons, All-head, All-tail}
use Rattle.std.proofs.lemmas.Option.{same_Some}
use Rattle.row_store.specs.Watch.{IsWide, entries_of}
use Rattle.cfd_semantics.specs.declared.inclusion.Inclusion.{Inclusion}
use Rattle.cfd_semantics.specs.Orphan.{SideEntry, side_entry_of}
use Rattle.cfd_semantics.specs.Tuple.{values_at}
use Rattle.row_store.specs.Tuple.{ids_at}
use Rattle.cind_index.specs.declared.side.Side.{Side}
use Rattle.cind_index.specs.declared.index.CindIndex.{CindIndex}
use Rattle.cind_index.specs.Entries.{CindMade, is_entry, key_on, pattern_on, table_on, gives_on, attributes_on}
use Rattle.cind_index.specs.KeysHeld.{KeyedRows, held, HoldsMore, HoldsLess, HasKeyAt}
use Rattle.cind_index.specs.Laws.{two_parts, same_number, given_has_row}
use Rattle.cind_index.proofs.OwnEntries.{number_itself, values_there, gives_its_entry}
use Rattle.cind_index.specs.Index.{given}
use Rattle.cind_index.proofs.MapFacts.{same_list, equal_lists}
use Rattle.cind_index.proofs.PairFacts.{never, clash}
use Rattle.cind_index.proofs.KeyFacts.{entry_is}

-- ---- wide tuples

pub all_front : {X : Type 0} (P : X → Type 0) (xs ys : List X) → All P (xs ++ ys) → All P xs
all_front P [] ys all = All-nil P
all_front P (x ∷ xs) ys all = All-cons P x xs (All-head P x (xs ++ ys) all) (all_front P xs ys (All-tail P x (xs ++ ys) all))

pub all_back : {X : Type 0} (P : X → Type 0) (xs ys : List X) → All P (xs ++ ys) → All P ys
all_back P [] ys all = all
all_back P (x ∷ xs) ys all = all_back P xs ys (All-tail P x (xs ++ ys) all)

pub wide_front : (x xp ids : List ℕ) → IsWide (x ++ xp) ids → IsWide x ids
wide_front x xp ids wide = all_front (λ a. a < length ids) x xp wide

pub wide_back : (x xp ids : List ℕ) → IsWide (x ++ xp) ids → IsWide xp ids
wide_back x xp ids wide = all_back (λ a. a < length ids) x xp wide

-- at the side's table
pub wide_here : (made : CindMade) (table : ℕ) (side : Side) (ids : List ℕ) → table ≡ table_on made side → IsWide (attributes_on made table side) ids → IsWide (key_on made.rule side ++ pattern_on made.rule side) ids
wide_here made table side ids here wide = subst (λ b. IsWide (cond b (key_on made.rule side ++ pattern_on made.rule side) []) ids) (ap (λ t. t == table_on made side) here ∙ number_itself (table_on made side)) wide

-- ---- what tuples give

module _ (rule : Inclusion ℕ) (side : Side) where
  -- the entry of a wide tuple
  pub gives_own : (row : ℕ) (ids : List ℕ) (e : SideEntry ℕ) → IsWide (key_on rule side ++ pattern_on rule side) ids → gives_on rule side row ids e ≡ is_entry (ids_at ids (key_on rule side)) (ids_at ids (pattern_on rule side)) row e
  gives_own row ids e wide = gives_its_entry (key_on rule side) (pattern_on rule side) row ids e (wide_front (key_on rule side) (pattern_on rule side) ids wide) (wide_back (key_on rule side) (pattern_on rule side) ids wide)

  pub has_row : (row : ℕ) (ids : List ℕ) (e : SideEntry ℕ) → gives_on rule side row ids e ≡ true → row ≡ e.row
  has_row row ids e gives = given_has_row (key_on rule side) (pattern_on rule side) row ids e (side_entry_of (key_on rule side) (pattern_on rule side) (row, ids)) refl gives

  abbrev pub agrees : List ℕ → List ℕ → Bool
  agrees one other = bytes_eq (ids_at one (key_on rule side)) (ids_at other (key_on rule side)) && bytes_eq (ids_at one (pattern_on rule side)) (ids_at other (pattern_on rule side))

  pub same_given : (row : ℕ) (one other : List ℕ) (e : SideEntry ℕ) → IsWide (key_on rule side ++ pattern_on rule side) one → IsWide (key_on rule side ++ pattern_on rule side) other
      → agrees one other ≡ true → gives_on rule side row one e ≡ gives_on rule side row other e
  same_given row one other e wide wide_other agree =
      let parts = two_parts (bytes_eq (ids_at one (key_on rule side)) (ids_at other (key_on rule side))) (bytes_eq (ids_at one (pattern_on rule side)) (ids_at other (pattern_on rule side))) agree in
      gives_own row one e wide
      ∙ ap (λ k. is_entry k (ids_at one (pattern_on rule side)) row e) (equal_lists (ids_at one (key_on rule side)) (ids_at other (key_on rule side)) parts.0)
      ∙ ap (λ p. is_entry (ids_at other (key_on rule side)) p row e) (equal_lists (ids_at one (pattern_on rule side)) (ids_at other (pattern_on rule side)) parts.1)
      ∙ sym (gives_own row other e wide_other)

  pub differ_given : (row : ℕ) (one other : List ℕ) (e : SideEntry ℕ) → IsWide (key_on rule side ++ pattern_on rule side) one → IsWide (key_on rule side ++ pattern_on rule side) other
      → agrees one other ≡ false → (gives_on rule side row one e && gives_on rule side row other e) ≡ false
  differ_given row one other e wide wide_other apart = never (gives_on rule side row one e && gives_on rule side row other e) (λ both.
      let parts = two_parts (gives_on rule side row one e) (gives_on rule side row other e) both in
      let first = entry_is (ids_at one (key_on rule side)) (ids_at one (pattern_on rule side)) row e (sym (gives_own row one e wide) ∙ parts.0) in
      let second = entry_is (ids_at other (key_on rule side)) (ids_at other (pattern_on rule side)) row e (sym (gives_own row other e wide_other) ∙ parts.1) in
      let keys : ids_at one (key_on rule side) ≡ ids_at other (key_on rule side) = ap (λ (f : SideEntry ℕ). f.key) first ∙ sym (ap (λ (f : SideEntry ℕ). f.key) second) in
      let patterns : ids_at one (pattern_on rule side) ≡ ids_at other (pattern_on rule side) = ap (λ (f : SideEntry ℕ). f.pattern) first ∙ sym (ap (λ (f : SideEntry ℕ). f.pattern) second) in
      clash (agrees one other) (both_so (ap (λ xs. bytes_eq xs (ids_at other (key_on rule side))) keys ∙ same_list (ids_at other (key_on rule side))) (ap (λ xs. bytes_eq xs (ids_at other (pattern_on rule side))) patterns ∙ same_list (ids_at other (pattern_on rule side)))) apart)
    where
      both_so : {a b : Bool} → a ≡ true → b ≡ true → (a && b) ≡ true
      both_so {a} {b} one two = ap (λ c. c && b) one ∙ two

-- ---- the two sets after a change

pub more_by : (side : Side) (f g : SideEntry ℕ → Bool) (old new : KeyedRows) → ((e : SideEntry ℕ) → f e ≡ g e) → HoldsMore side f old new → HoldsMore side g old new
more_by side f g old new same more = record { here = λ e. more.here e ∙ ap (λ b. held old side e || b) (same e); beside = more.beside }

pub less_by : (side : Side) (f g : SideEntry ℕ → Bool) (old new : KeyedRows) → ((e : SideEntry ℕ) → f e ≡ g e) → HoldsLess side f old new → HoldsLess side g old new
less_by side f g old new same less = record { here = λ e. less.here e ∙ ap (λ b. held old side e && not b) (same e); beside = less.beside }

-- at its table a row gives what its tuple gives
pub given_here : (made : CindMade) (side : Side) (table row : ℕ) (ids : List ℕ) (e : SideEntry ℕ) → table ≡ table_on made side → given made side table row ids e ≡ gives_on made.rule side row ids e
given_here made side table row ids e here = ap (λ b. b && gives_on made.rule side row ids e) (ap (λ t. t == table_on made side) here ∙ number_itself (table_on made side))

-- what is held already adds nothing
pub nothing_new : (made : CindMade) (side : Side) (table row : ℕ) (old : Option (List ℕ)) (new : List ℕ) (keys : KeyedRows)
    → ((e : SideEntry ℕ) → table ≡ table_on made side → row ≡ e.row → held keys side e ≡ entries_of (gives_on made.rule side row) old e)
    → ((row : ℕ) (e : SideEntry ℕ) → table ≡ table_on made side → entries_of (gives_on made.rule side row) old e ≡ gives_on made.rule side row new e)
    → HoldsMore side (given made side table row new) keys keys
nothing_new made side table row old new keys present same = record { here = λ e. still (held keys side e) (given made side table row new e) (known e); beside = λ e. refl }
  where
    still : (b t : Bool) → (t ≡ true → b ≡ true) → b ≡ (b || t)
    still true t has = refl
    still false true has = has refl
    still false false has = refl

    known : (e : SideEntry ℕ) → given made side table row new e ≡ true → held keys side e ≡ true
    known e is =
        let parts = two_parts (table == table_on made side) (gives_on made.rule side row new e) is in
        let here = same_number table (table_on made side) parts.0 in
        present e here (has_row made.rule side row new e parts.1) ∙ same row e here ∙ parts.1

-- what stays since the new tuple gives it too
pub nothing_gone : (made : CindMade) (side : Side) (table row : ℕ) (old : List ℕ) (new : Option (List ℕ)) (keys : KeyedRows)
    → ((e : SideEntry ℕ) → table ≡ table_on made side → row ≡ e.row → held keys side e ≡ (gives_on made.rule side row old e || entries_of (gives_on made.rule side row) new e))
    → ((row : ℕ) (e : SideEntry ℕ) → table ≡ table_on made side → entries_of (gives_on made.rule side row) new e ≡ gives_on made.rule side row old e)
    → (e : SideEntry ℕ) → held keys side e ≡ cond (given made side table row old e) (entries_of (given made side table row) new e) (held keys side e)
nothing_gone made side table row old new keys present same e = of (given made side table row old e) refl
  where
    on_new : (new : Option (List ℕ)) → table ≡ table_on made side → entries_of (given made side table row) new e ≡ entries_of (gives_on made.rule side row) new e
    on_new None here = refl
    on_new (Some ids) here = given_here made side table row ids e here

    of : (b : Bool) → given made side table row old e ≡ b → held keys side e ≡ cond b (entries_of (given made side table row) new e) (held keys side e)
    of false is = refl
    of true is =
        let parts = two_parts (table == table_on made side) (gives_on made.rule side row old e) is in
        let here = same_number table (table_on made side) parts.0 in
        present e here (has_row made.rule side row old e parts.1) ∙ ap (λ b. b || entries_of (gives_on made.rule side row) new e) parts.1
        ∙ sym parts.1 ∙ sym (same row e here) ∙ sym (on_new new here)

-- what goes away
pub gone_by : (made : CindMade) (side : Side) (table row : ℕ) (old : List ℕ) (new : Option (List ℕ)) (keys left : KeyedRows) → table ≡ table_on made side
    → ((row : ℕ) (e : SideEntry ℕ) → (entries_of (gives_on made.rule side row) new e && gives_on made.rule side row old e) ≡ false)
    → HoldsLess side (gives_on made.rule side row old) keys left
    → (e : SideEntry ℕ) → held left side e ≡ cond (given made side table row old e) (entries_of (given made side table row) new e) (held keys side e)
gone_by made side table row old new keys left here differ less e =
    less.here e ∙ of (gives_on made.rule side row old e) refl ∙ ap (λ b. cond b (entries_of (given made side table row) new e) (held keys side e)) (sym (given_here made side table row old e here))
  where
    on_new : (new : Option (List ℕ)) → entries_of (given made side table row) new e ≡ entries_of (gives_on made.rule side row) new e
    on_new None = refl
    on_new (Some ids) = given_here made side table row ids e here

    and_true : (b : Bool) → (b && true) ≡ b
    and_true true = refl
    and_true false = refl

    and_false : (b : Bool) → (b && false) ≡ false
    and_false true = refl
    and_false false = refl

    of : (b : Bool) → gives_on made.rule side row old e ≡ b → (held keys side e && not b) ≡ cond b (entries_of (given made side table row) new e) (held keys side e)
    of false is = and_true (held keys side e)
    of true is = and_false (held keys side e) ∙ sym (on_new new ∙ sym (and_true (entries_of (gives_on made.rule side row) new e)) ∙ ap (λ b. entries_of (gives_on made.rule side row) new e && b) (sym is) ∙ differ row e)

-- the place where a tuple's key was put
pub stands : (index : CindIndex) (side : Side) (ids : List ℕ) (place : ℕ) → IsWide (key_on index.rule side) ids → HasKeyAt index.keys place (ids_at ids (key_on index.rule side))
    → (key : List ℕ) → values_at ids (key_on index.rule side) ≡ Some key → HasKeyAt index.keys place key
stands index side ids place wide has_key key at =
    subst (HasKeyAt index.keys place) (same_Some (ids_at ids (key_on index.rule side)) key (sym (values_there ids (key_on index.rule side) wide) ∙ at)) has_key

-- the entry of a tuple wasn't held
pub not_held : (rule : Inclusion ℕ) (side : Side) (row : ℕ) (ids : List ℕ) (keys : KeyedRows) → IsWide (key_on rule side ++ pattern_on rule side) ids
    → held keys side (record { key = ids_at ids (key_on rule side); pattern = ids_at ids (pattern_on rule side); row = row }) ≡ false
    → (e : SideEntry ℕ) → gives_on rule side row ids e ≡ true → held keys side e ≡ false
not_held rule side row ids keys wide none e gives =
    ap (held keys side) (sym (entry_is (ids_at ids (key_on rule side)) (ids_at ids (pattern_on rule side)) row e (sym (gives_own rule side row ids e wide) ∙ gives))) ∙ none
