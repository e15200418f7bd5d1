-- The entry that a row gives for a side, where its tuple has all attributes.
use Rattle.std.proofs.Common.{◌≡◌, ℕ, ◌<◌, true, false, ◌&&◌, List, [], ◌∷◌, length, get_or, Some, refl, ap, ◌∙◌, arith}
use Rattle.std.specs.Prelude.{nat_eq, ◌==◌}
use Rattle.std.specs.Str.{bytes_eq}
use Rattle.std.specs.Option.{option_map_or}
use Rattle.std.proofs.lemmas.Bool.Decides.{nat_tests}
use Rattle.std.proofs.lemmas.List.Elements.{All-head, All-tail}
use Rattle.std.proofs.lemmas.Option.{slice_get-get_or}
use Rattle.row_store.specs.Watch.{IsWide}
use Rattle.cfd_semantics.specs.Tuple.{values_at, with_both}
use Rattle.cfd_semantics.specs.Orphan.{SideEntry}
use Rattle.cfd_semantics.specs.EntrySets.{gives_side}
use Rattle.cfd_semantics.proofs.SideLists.{side_from_parts}
use Rattle.row_store.specs.Tuple.{ids_at}
use Rattle.cind_index.specs.Entries.{is_entry}

-- a wide tuple has the attributes
pub values_there : (tuple x : List ℕ) → IsWide x tuple → values_at tuple x ≡ Some (ids_at tuple x)
values_there tuple [] wide = refl
values_there tuple (a ∷ x) wide =
    ap (λ one. with_both (λ v vs. v ∷ vs) one (values_at tuple x)) (slice_get-get_or tuple a 0 (All-head (λ attribute. attribute < length tuple) a x wide))
    ∙ ap (with_both (λ v vs. v ∷ vs) (Some (get_or tuple a 0))) (values_there tuple x (All-tail (λ attribute. attribute < length tuple) a x wide))

-- what it gives for a side is the entry with its ids
pub gives_its_entry : (x xp : List ℕ) (row : ℕ) (tuple : List ℕ) (e : SideEntry ℕ) → IsWide x tuple → IsWide xp tuple → gives_side nat_eq x xp row tuple e ≡ is_entry (ids_at tuple x) (ids_at tuple xp) row e
gives_its_entry x xp row tuple e wide wide_xp =
    ap (λ own. option_map_or (λ (own : SideEntry ℕ). bytes_eq own.key e.key && bytes_eq own.pattern e.pattern && (own.row == e.row)) own false)
    (side_from_parts x xp (row, tuple) (ids_at tuple x) (ids_at tuple xp) (values_there tuple x wide) (values_there tuple xp wide_xp))

pub number_itself : (n : ℕ) → (n == n) ≡ true
number_itself n = grind (arith, nat_tests)
