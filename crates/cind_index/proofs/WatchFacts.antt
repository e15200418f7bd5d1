-- What the conditions of a watch say of one side of an index.
use Rattle.std.proofs.Common.{◌≡◌, ℕ, ◌||◌, List, Option, Some, None, refl, sym, ap, ◌∙◌, subst}
use Rattle.std.specs.Option.{ForSome}
use Rattle.row_store.specs.Watch.{IsWide, entries_of}
use Rattle.cfd_semantics.specs.Orphan.{SideEntry}
use Rattle.cind_index.specs.declared.side.Side.{Side}
use Rattle.cind_index.specs.declared.side.Side.TheVariants.{Left, Right}
use Rattle.cind_index.specs.declared.index.CindIndex.{CindIndex}
use Rattle.cind_index.specs.Entries.{CindMade, CindEntry, table_on, gives_on, gives_entry, attributes_on, attributes_of}
use Rattle.cind_index.specs.KeysHeld.{held}
use Rattle.cind_index.specs.Index.{made_of, HoldsOfRowOn}
use Rattle.cind_index.proofs.SideFacts.{wide_front, wide_back, given_here}

pub for_some : {A : Type 0} (P Q : A → Type 0) (o : Option A) → ((v : A) → P v → Q v) → ForSome o P → ForSome o Q
for_some P Q o f p v is = f v (p v is)

-- a tuple that is wide enough for both sides is for each
pub wide_on : (made : CindMade) (table : ℕ) (side : Side) (ids : List ℕ) → IsWide (attributes_of made table) ids → IsWide (attributes_on made table side) ids
wide_on made table Left ids wide = wide_front (attributes_on made table Left) (attributes_on made table Right) ids wide
wide_on made table Right ids wide = wide_back (attributes_on made table Left) (attributes_on made table Right) ids wide

pub wide_now : (old new : CindMade) (table : ℕ) (side : Side) (ids : List ℕ) → new ≡ old → IsWide (attributes_of old table) ids → IsWide (attributes_on new table side) ids
wide_now old new table side ids same wide = subst (λ m. IsWide (attributes_on m table side) ids) (sym same) (wide_on old table side ids wide)

pub wide_if : (old new : CindMade) (table : ℕ) (side : Side) (tuple : Option (List ℕ)) → new ≡ old → ForSome tuple (IsWide (attributes_of old table)) → ForSome tuple (IsWide (attributes_on new table side))
wide_if old new table side tuple same wide = for_some (IsWide (attributes_of old table)) (IsWide (attributes_on new table side)) tuple (λ ids. wide_now old new table side ids same) wide

entries_here : (made : CindMade) (side : Side) (table row : ℕ) (tuple : Option (List ℕ)) (e : SideEntry ℕ) → table ≡ table_on made side
    → entries_of (gives_entry made table row) tuple (record { side = side; entry = e }) ≡ entries_of (gives_on made.rule side row) tuple e
entries_here made side table row None e here = refl
entries_here made side table row (Some ids) e here = given_here made side table row ids e here

-- of the row, a side holds what it gives
pub present_on : (old new : CindIndex) (side : Side) (table row : ℕ) (tuple : Option (List ℕ)) → made_of new ≡ made_of old → ((e : SideEntry ℕ) → held new.keys side e ≡ held old.keys side e)
    → ((e : CindEntry) → table_on (made_of old) e.side ≡ table → e.entry.row ≡ row → held old.keys e.side e.entry ≡ entries_of (gives_entry (made_of old) table row) tuple e)
    → HoldsOfRowOn side table row tuple new
present_on old new side table row tuple made same present e here row_is =
    let here_old : table ≡ table_on (made_of old) side = here ∙ ap (λ m. table_on m side) made in
    same e ∙ present (record { side = side; entry = e }) (sym here_old) (sym row_is) ∙ entries_here (made_of old) side table row tuple e here_old
    ∙ ap (λ (m : CindMade). entries_of (gives_on m.rule side row) tuple e) (sym made)

-- and before a removal what it gives with either tuple
pub present_both : (old new : CindIndex) (side : Side) (table row : ℕ) (was : List ℕ) (tuple : Option (List ℕ)) → made_of new ≡ made_of old → ((e : SideEntry ℕ) → held new.keys side e ≡ held old.keys side e)
    → ((e : CindEntry) → table_on (made_of old) e.side ≡ table → e.entry.row ≡ row → held old.keys e.side e.entry ≡ (gives_entry (made_of old) table row was e || entries_of (gives_entry (made_of old) table row) tuple e))
    → (e : SideEntry ℕ) → table ≡ table_on (made_of new) side → row ≡ e.row → held new.keys side e ≡ (gives_on new.rule side row was e || entries_of (gives_on new.rule side row) tuple e)
present_both old new side table row was tuple made same present e here row_is =
    let here_old : table ≡ table_on (made_of old) side = here ∙ ap (λ m. table_on m side) made in
    same e ∙ present (record { side = side; entry = e }) (sym here_old) (sym row_is)
    ∙ ap (λ b. b || entries_of (gives_entry (made_of old) table row) tuple (record { side = side; entry = e })) (given_here (made_of old) side table row was e here_old)
    ∙ ap (λ b. gives_on old.rule side row was e || b) (entries_here (made_of old) side table row tuple e here_old)
    ∙ ap (λ (m : CindMade). gives_on m.rule side row was e || entries_of (gives_on m.rule side row) tuple e) (sym made)
