-- A map that keeps the known values apart changes no orphan.
use Rattle.std.proofs.Common.{◌≡◌, ℕ, Bool, true, false, cond, List, [], ◌∷◌, map, filter, Option, None, Some, refl, ap, ◌∙◌}
use Rattle.std.specs.Option.{option_map}
use Rattle.std.specs.List.{All, list_any, filter_map}
use Rattle.std.proofs.lemmas.List.Elements.{All-head, All-tail, All-weaker}
use Rattle.cfd_semantics.specs.declared.inclusion.InclusionRow.{InclusionRow}
use Rattle.cfd_semantics.specs.declared.inclusion.Inclusion.{Inclusion}
use Rattle.cfd_semantics.specs.Tuple.{with_both, values_at}
use Rattle.cfd_semantics.specs.Orphan.{SideEntry, side_entry_of, left_entries, right_entries, answers, is_orphan, orphaned, orphans}
use Rattle.cfd_semantics.specs.Renaming.{KeepsApart, renamed_rows, renamed_inclusion_row, renamed_inclusion, HasKnownConstants, HasKnownTuples}
use Rattle.cfd_semantics.proofs.SideLists.{side_parts}
use Rattle.cfd_semantics.proofs.Numbers.{numbered-same}
use Rattle.cfd_semantics.proofs.Renamed.{same_values-renamed, values_at-renamed, values_at-known, given-renamed, All-given}

abbrev pub renamed_side_entry : {V W : Type 0} → (V → W) → SideEntry V → SideEntry W
renamed_side_entry name e = record { key = map name e.key; pattern = map name e.pattern; row = e.row }

pub record HasKnownSide {V : Type 0} (Known : V → Type 0) (e : SideEntry V) : Type 0 where
  pub key : All Known e.key
  pub pattern : All Known e.pattern

answers-renamed : {V W : Type 0} {Known : V → Type 0} {name : V → W} {eq : V → V → Bool} {named_eq : W → W → Bool} (apart : KeepsApart Known name eq named_eq) (t : InclusionRow V) (left right : SideEntry V) → HasKnownConstants Known t → HasKnownSide Known left → HasKnownSide Known right → answers named_eq (renamed_inclusion_row name t) (renamed_side_entry name left) (renamed_side_entry name right) ≡ answers eq t left right
answers-renamed apart t left right constants known beside =
    rw (same_values-renamed apart left.key right.key known.key beside.key, same_values-renamed apart t.yp right.pattern constants.yp beside.pattern)

any_answers-renamed : {V W : Type 0} {Known : V → Type 0} {name : V → W} {eq : V → V → Bool} {named_eq : W → W → Bool} (apart : KeepsApart Known name eq named_eq) (t : InclusionRow V) (left : SideEntry V) (rights : List (SideEntry V)) → HasKnownConstants Known t → HasKnownSide Known left → All (HasKnownSide Known) rights → list_any (answers named_eq (renamed_inclusion_row name t) (renamed_side_entry name left)) (map (renamed_side_entry name) rights) ≡ list_any (answers eq t left) rights
any_answers-renamed apart t left [] constants known all = refl
any_answers-renamed {Known = Known} apart t left (right ∷ rest) constants known all =
    rw (answers-renamed apart t left right constants known (All-head (HasKnownSide Known) right rest all), any_answers-renamed apart t left rest constants known (All-tail (HasKnownSide Known) right rest all))

pub is_orphan-renamed : {V W : Type 0} {Known : V → Type 0} {name : V → W} {eq : V → V → Bool} {named_eq : W → W → Bool} (apart : KeepsApart Known name eq named_eq) (t : InclusionRow V) (rights : List (SideEntry V)) (left : SideEntry V) → HasKnownConstants Known t → All (HasKnownSide Known) rights → HasKnownSide Known left → is_orphan named_eq (renamed_inclusion_row name t) (map (renamed_side_entry name) rights) (renamed_side_entry name left) ≡ is_orphan eq t rights left
is_orphan-renamed apart t rights left constants all known =
    rw (same_values-renamed apart t.xp left.pattern constants.xp known.pattern, any_answers-renamed apart t left rights constants known all)

kept-rows : {V W : Type 0} (name : V → W) (e : SideEntry V) (ws : List (SideEntry W)) (vs : List (SideEntry V)) (b : Bool) → map (λ left. left.row) ws ≡ map (λ left. left.row) vs → map (λ left. left.row) (cond b (renamed_side_entry name e ∷ ws) ws) ≡ map (λ left. left.row) (cond b (e ∷ vs) vs)
kept-rows name e ws vs true h = ap (λ rows. e.row ∷ rows) h
kept-rows name e ws vs false h = h

rows-filtered : {V W : Type 0} (name : V → W) (p : SideEntry V → Bool) (q : SideEntry W → Bool) (all : List (SideEntry V)) → All (λ left. q (renamed_side_entry name left) ≡ p left) all → map (λ left. left.row) (filter q (map (renamed_side_entry name) all)) ≡ map (λ left. left.row) (filter p all)
rows-filtered name p q [] same = refl
rows-filtered name p q (e ∷ es) same =
    rw (All-head (λ left. q (renamed_side_entry name left) ≡ p left) e es same)
    (kept-rows name e (filter q (map (renamed_side_entry name) es)) (filter p es) (p e) (rows-filtered name p q es (All-tail (λ left. q (renamed_side_entry name left) ≡ p left) e es same)))

-- the orphans of a tableau row stay the same
pub orphaned-renamed : {V W : Type 0} {Known : V → Type 0} {name : V → W} {eq : V → V → Bool} {named_eq : W → W → Bool} (apart : KeepsApart Known name eq named_eq) (t : InclusionRow V) (lefts rights : List (SideEntry V)) → HasKnownConstants Known t → All (HasKnownSide Known) lefts → All (HasKnownSide Known) rights → orphaned named_eq (renamed_inclusion_row name t) (map (renamed_side_entry name) lefts) (map (renamed_side_entry name) rights) ≡ orphaned eq t lefts rights
orphaned-renamed {Known = Known} {name} {eq} {named_eq} apart t lefts rights constants known all =
    rows-filtered name (is_orphan eq t rights) (is_orphan named_eq (renamed_inclusion_row name t) (map (renamed_side_entry name) rights)) lefts
    (All-weaker (HasKnownSide Known) _ (λ left here. is_orphan-renamed apart t rights left constants all here) lefts known)

-- the orphans of an inclusion stay the same
pub orphans-renamed : {V W : Type 0} {Known : V → Type 0} {name : V → W} {eq : V → V → Bool} {named_eq : W → W → Bool} (apart : KeepsApart Known name eq named_eq) (i : Inclusion V) (lefts rights : List (SideEntry V)) → All (HasKnownConstants Known) i.rows → All (HasKnownSide Known) lefts → All (HasKnownSide Known) rights → orphans named_eq (renamed_inclusion name i) (map (renamed_side_entry name) lefts) (map (renamed_side_entry name) rights) ≡ orphans eq i lefts rights
orphans-renamed {Known = Known} {name} {eq} {named_eq} apart i lefts rights constants known all =
    numbered-same (λ t. orphaned eq t lefts rights) (λ t. orphaned named_eq t (map (renamed_side_entry name) lefts) (map (renamed_side_entry name) rights)) (renamed_inclusion_row name) i.rows
    (All-weaker (HasKnownConstants Known) (λ t. orphaned named_eq (renamed_inclusion_row name t) (map (renamed_side_entry name) lefts) (map (renamed_side_entry name) rights) ≡ orphaned eq t lefts rights) (λ t here. orphaned-renamed apart t lefts rights here known all) i.rows constants)

-- ---- from the rows of a table

both-renamed : {V W : Type 0} (name : V → W) (row : ℕ) (key pattern : Option (List V))
    → with_both (λ k p. record { key = k; pattern = p; row = row }) (option_map (map name) key) (option_map (map name) pattern)
    ≡ option_map (renamed_side_entry name) (with_both (λ k p. record { key = k; pattern = p; row = row }) key pattern)
both-renamed name row None pattern = refl
both-renamed name row (Some key) None = refl
both-renamed name row (Some key) (Some pattern) = refl

-- the entry of a renamed row is the renamed entry of the row
pub side_entry_of-renamed : {V W : Type 0} (name : V → W) (x xp : List ℕ) (row : ℕ × List V) → side_entry_of x xp (row.0, map name row.1) ≡ option_map (renamed_side_entry name) (side_entry_of x xp row)
side_entry_of-renamed name x xp row =
    rw (values_at-renamed name row.1 x, values_at-renamed name row.1 xp) (both-renamed name row.0 (values_at row.1 x) (values_at row.1 xp))

side_entries-renamed : {V W : Type 0} (name : V → W) (x xp : List ℕ) (rows : List (ℕ × List V)) → filter_map (side_entry_of x xp) (renamed_rows name rows) ≡ map (renamed_side_entry name) (filter_map (side_entry_of x xp) rows)
side_entries-renamed {V} name x xp rows = given-renamed (side_entry_of x xp) (side_entry_of x xp) (λ (row : ℕ × List V). (row.0, map name row.1)) (renamed_side_entry name) rows (side_entry_of-renamed name x xp)

side_entries-known : {V : Type 0} (Known : V → Type 0) (x xp : List ℕ) (rows : List (ℕ × List V)) → HasKnownTuples Known rows → All (HasKnownSide Known) (filter_map (side_entry_of x xp) rows)
side_entries-known {V} Known x xp rows known =
    All-given (λ (row : ℕ × List V). All Known row.1) (HasKnownSide Known) (side_entry_of x xp)
    (λ row e here is. let parts = side_parts x xp row e is in record { key = values_at-known Known row.1 x e.key here parts.key; pattern = values_at-known Known row.1 xp e.pattern here parts.pattern }) rows known

-- the orphans of an inclusion over rows stay the same
pub orphan_list-renamed : {V W : Type 0} {Known : V → Type 0} {name : V → W} {eq : V → V → Bool} {named_eq : W → W → Bool} (apart : KeepsApart Known name eq named_eq) (i : Inclusion V) (lefts rights : List (ℕ × List V)) → All (HasKnownConstants Known) i.rows → HasKnownTuples Known lefts → HasKnownTuples Known rights
    → orphans named_eq (renamed_inclusion name i) (left_entries (renamed_inclusion name i) (renamed_rows name lefts)) (right_entries (renamed_inclusion name i) (renamed_rows name rights)) ≡ orphans eq i (left_entries i lefts) (right_entries i rights)
orphan_list-renamed {Known = Known} {name} {eq} {named_eq} apart i lefts rights constants known all =
    ap (λ es. orphans named_eq (renamed_inclusion name i) es (right_entries (renamed_inclusion name i) (renamed_rows name rights))) (side_entries-renamed name i.x i.xp lefts)
    ∙ ap (orphans named_eq (renamed_inclusion name i) (map (renamed_side_entry name) (left_entries i lefts))) (side_entries-renamed name i.y i.yp rights)
    ∙ orphans-renamed apart i (left_entries i lefts) (right_entries i rights) constants (side_entries-known Known i.x i.xp lefts known) (side_entries-known Known i.y i.yp rights all)
