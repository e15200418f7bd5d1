-- The entry that a row gives, where its tuple has all attributes.
use Rattle.std.proofs.Common.{◌≡◌, ℕ, ◌<◌, true, false, ◌&&◌, List, [], ◌∷◌, length, Some, refl, ap, ◌∙◌, arith}
use Rattle.std.specs.Prelude.{◌==◌, nat_eq, slice_get, slice_index, All}
use Rattle.std.specs.Option.{option_map_or}
use Rattle.std.proofs.lemmas.Bool.Decides.{nat_tests}
use Rattle.std.proofs.lemmas.List.Elements.{All-head, All-tail}
use Rattle.std.proofs.lemmas.Option.{slice_get-get_or}
use Rattle.std.proofs.lemmas.Slice.Eq.{bytes_eq-Decides}
use Rattle.cfd_semantics.specs.Tuple.{values_at}
use Rattle.cfd_semantics.specs.Violation.{Entry, entry_of}
use Rattle.cfd_semantics.specs.EntrySets.{gives}
use Rattle.row_store.specs.Watch.{IsWide}
use Rattle.row_store.specs.Tuple.{ids_at}
use Rattle.group_index.specs.GroupSet.{GroupsMade, is_entry, gives_entry}

-- the tuple has the attributes
abbrev pub HasAll : GroupsMade → List ℕ → Type 0
HasAll made ids = IsWide (made.dependency.a ∷ made.dependency.x) ids

abbrev pub entry_at : GroupsMade → ℕ → List ℕ → Entry ℕ
entry_at made row ids = record { x = ids_at ids made.dependency.x; a = slice_index ids made.dependency.a; row = row }

there : (ids : List ℕ) (i : ℕ) → i < length ids → slice_get ids i ≡ Some (slice_index ids i)
there ids i within = slice_get-get_or ids i 0 within

values_there : (ids x : List ℕ) → All (λ attribute. attribute < length ids) x → values_at ids x ≡ Some (ids_at ids x)
values_there ids [] wide = refl
values_there ids (i ∷ is) wide =
    rw (there ids i (All-head (λ attribute. attribute < length ids) i is wide), values_there ids is (All-tail (λ attribute. attribute < length ids) i is wide)) refl

pub entry_there : (made : GroupsMade) (row : ℕ) (ids : List ℕ) → HasAll made ids → entry_of made.dependency (row, ids) ≡ Some (entry_at made row ids)
entry_there made row ids wide =
    rw (values_there ids made.dependency.x (All-tail (λ attribute. attribute < length ids) made.dependency.a made.dependency.x wide), there ids made.dependency.a (All-head (λ attribute. attribute < length ids) made.dependency.a made.dependency.x wide)) refl

pub given : (made : GroupsMade) (table row : ℕ) (ids : List ℕ) → table ≡ made.table → HasAll made ids → (e : Entry ℕ) → gives_entry made table row ids e ≡ is_entry (entry_at made row ids) e
given made table row ids is wide e =
    let at : (table == made.table) ≡ true = grind (arith, nat_tests) in
    ap (λ b. b && gives nat_eq made.dependency row ids e) at ∙ ap (λ o. option_map_or (λ own. is_entry own e) o false) (entry_there made row ids wide)

-- the row's own entry is one
pub own_entry : (entry : Entry ℕ) → is_entry entry entry ≡ true
own_entry entry =
    let a : nat_eq entry.a entry.a ≡ true = grind (arith, nat_tests) in
    let row : (entry.row == entry.row) ≡ true = grind (arith, nat_tests) in
    rw ((bytes_eq-Decides entry.x entry.x).1 refl, a, row) refl
