-- Groups by ids under their texts.
use Rattle.std.proofs.Common.{◌≡◌, ℕ, Bool, true, false, ◌&&◌, List, [], ◌∷◌, map, refl, sym, ap, subst, ◌∙◌, arith, Some}
use Rattle.std.specs.Prelude.{All, nat_eq}
use Rattle.std.specs.Str.{bytes_eq}
use Rattle.std.proofs.lemmas.Bool.Decides.{nat_tests}
use Rattle.std.proofs.lemmas.List.{length-map}
use Rattle.std.proofs.lemmas.Option.{slice_get-get_or}
use Rattle.std.proofs.lemmas.Slice.Eq.{bytes_eq-Decides}
use Rattle.value_pool.specs.Pool.{HaveOneId}
use Rattle.cfd_semantics.specs.Renaming.{KeepsApart}
use Rattle.cfd_semantics.specs.Tuple.{same_values}
use Rattle.cfd_semantics.proofs.Renamed.{same_values-renamed}
use Rattle.bench_core.specs.Stored.{text_of}
use Rattle.key_groups.specs.Groups.{by_key, group_size}
use Rattle.key_groups.specs.Arranged.{IsLargestFirst, IsRarestFirst}
use Rattle.key_groups.proofs.Arranging.{arranged-renamed}
use Rattle.key_groups.proofs.Renaming.{by_key-renamed}
use Rattle.violation_groups.specs.Listed.{same_shared}
use Rattle.violation_groups.specs.Groups.{missing_of, missing_size, value_rows, value_size}
use Rattle.violation_groups.specs.declared.groups.Missing.{Missing}
use Rattle.violation_groups.specs.declared.groups.ValueRows.{ValueRows}
use Rattle.violation_groups.specs.ByIds.{HasText, IsKnownKey, IsKnownKeyed, Key, group_named, key_named, keyed_named, missing_named, row_named, value_named, value_rows_named}

-- the keys' own test
abbrev pub same_key : Key → Key → Bool
same_key key other = nat_eq key.0 other.0 && same_values nat_eq key.1.items other.1.items

map-id : {T : Type 0} (xs : List T) → map (λ x. x) xs ≡ xs
map-id [] = refl
map-id (x ∷ xs) = ap (λ l. x ∷ l) (map-id xs)

module _ (texts : List (List ℕ)) (one_id : HaveOneId texts) where
  -- values that differ have texts that differ
  values-apart : (v w : ℕ) → HasText texts v → HasText texts w → bytes_eq (text_of texts v) (text_of texts w) ≡ nat_eq v w
  values-apart v w v-known w-known = by (bytes_eq (text_of texts v) (text_of texts w)) refl
    where
      differ : (b : Bool) → nat_eq v w ≡ b → bytes_eq (text_of texts v) (text_of texts w) ≡ false → false ≡ b
      differ false _ _ = refl
      differ true same isnt =
          let equal : v ≡ w = grind (arith, nat_tests, same) in
          sym isnt ∙ (bytes_eq-Decides (text_of texts v) (text_of texts w)).1 (ap (text_of texts) equal)

      by : (b : Bool) → bytes_eq (text_of texts v) (text_of texts w) ≡ b → bytes_eq (text_of texts v) (text_of texts w) ≡ nat_eq v w
      by true is =
          let same = (bytes_eq-Decides (text_of texts v) (text_of texts w)).0 is in
          let equal : v ≡ w = one_id (text_of texts v) v w (slice_get-get_or texts v [] v-known) (slice_get-get_or texts w [] w-known ∙ ap Some (sym same)) in
          is ∙ grind (arith, nat_tests, equal)
      by false is = is ∙ differ (nat_eq v w) refl is

  kept-apart : KeepsApart (HasText texts) (text_of texts) nat_eq bytes_eq
  kept-apart = record { same = values-apart }

  keys-apart : (key other : Key) → IsKnownKey texts key → IsKnownKey texts other → same_shared (key_named texts key) (key_named texts other) ≡ same_key key other
  keys-apart key other known beside = ap (λ b. nat_eq key.0 other.0 && b) (same_values-renamed kept-apart key.1.items other.1.items known beside)

  -- ---- values

  values-told : (groups : List (ℕ × List ℕ)) → map value_rows (map (λ (group : ℕ × List ℕ). (text_of texts group.0, map (λ row. row) group.1)) groups) ≡ map (value_rows_named texts) groups
  values-told [] = refl
  values-told (group ∷ groups) =
      ap (λ rows. record { value = text_of texts group.0; rows = rows } ∷ map value_rows (map (λ (group : ℕ × List ℕ). (text_of texts group.0, map (λ row. row) group.1)) groups)) (map-id group.1)
      ∙ ap (λ l. value_rows_named texts group ∷ l) (values-told groups)

  pub values-arranged : (rows : List (ℕ × ℕ)) (sorted : List (ℕ × List ℕ)) → All (λ (row : ℕ × ℕ). HasText texts row.0) rows → IsRarestFirst group_size (by_key nat_eq rows) sorted
      → IsRarestFirst value_size (map value_rows (by_key bytes_eq (map (value_named texts) rows))) (map (value_rows_named texts) sorted)
  values-arranged rows sorted known is =
      let told = ap (map value_rows) (by_key-renamed nat_eq bytes_eq (HasText texts) (text_of texts) values-apart (λ (row : ℕ). row) rows known) ∙ values-told (by_key nat_eq rows) in
      subst (λ l. IsRarestFirst value_size l (map (value_rows_named texts) sorted)) (sym told)
      (arranged-renamed _ group_size value_size (value_rows_named texts) (λ group. refl) (by_key nat_eq rows) sorted is)

  -- ---- groups

  pub groups-arranged : (rows : List (Key × (ℕ × ℕ))) (sorted : List (Key × List (ℕ × ℕ))) → All (λ (row : Key × (ℕ × ℕ)). IsKnownKey texts row.0) rows
      → IsLargestFirst group_size (by_key same_key rows) sorted → IsLargestFirst group_size (by_key same_shared (map (row_named texts) rows)) (map (group_named texts) sorted)
  groups-arranged rows sorted known is =
      subst (λ l. IsLargestFirst group_size l (map (group_named texts) sorted)) (sym (by_key-renamed same_key same_shared (IsKnownKey texts) (key_named texts) keys-apart (value_named texts) rows known))
      (arranged-renamed _ group_size group_size (group_named texts) (λ group. length-map group.1 (value_named texts)) (by_key same_key rows) sorted is)

  -- ---- missing keys

  missing-told : (groups : List (Key × List ℕ)) → map missing_of (map (λ (group : Key × List ℕ). (key_named texts group.0, map (λ row. row) group.1)) groups) ≡ map (missing_named texts) groups
  missing-told [] = refl
  missing-told (group ∷ groups) =
      ap (λ rows. record { k = group.0.0; key = map (text_of texts) group.0.1.items; rows = rows } ∷ map missing_of (map (λ (group : Key × List ℕ). (key_named texts group.0, map (λ row. row) group.1)) groups)) (map-id group.1)
      ∙ ap (λ l. missing_named texts group ∷ l) (missing-told groups)

  pub missing-arranged : (rows : List (Key × ℕ)) (sorted : List (Key × List ℕ)) → All (IsKnownKeyed texts) rows
      → IsLargestFirst group_size (by_key same_key rows) sorted → IsLargestFirst missing_size (map missing_of (by_key same_shared (map (keyed_named texts) rows))) (map (missing_named texts) sorted)
  missing-arranged rows sorted known is =
      let told = ap (map missing_of) (by_key-renamed same_key same_shared (IsKnownKey texts) (key_named texts) keys-apart (λ (row : ℕ). row) rows known) ∙ missing-told (by_key same_key rows) in
      subst (λ l. IsLargestFirst missing_size l (map (missing_named texts) sorted)) (sym told)
      (arranged-renamed _ group_size missing_size (missing_named texts) (λ group. refl) (by_key same_key rows) sorted is)

  -- the same of lists that are these
  pub values-as-told : (rows : List (ℕ × ℕ)) (sorted : List (ℕ × List ℕ)) (values : List ValueRows) → All (λ (row : ℕ × ℕ). HasText texts row.0) rows → IsRarestFirst group_size (by_key nat_eq rows) sorted
      → values ≡ map (value_rows_named texts) sorted → IsRarestFirst value_size (map value_rows (by_key bytes_eq (map (value_named texts) rows))) values
  values-as-told rows sorted values known is told =
      subst (IsRarestFirst value_size (map value_rows (by_key bytes_eq (map (value_named texts) rows)))) (sym told) (values-arranged rows sorted known is)

  pub missing-as-told : (rows : List (Key × ℕ)) (sorted : List (Key × List ℕ)) (missing : List Missing) → All (IsKnownKeyed texts) rows → IsLargestFirst group_size (by_key same_key rows) sorted
      → missing ≡ map (missing_named texts) sorted → IsLargestFirst missing_size (map missing_of (by_key same_shared (map (keyed_named texts) rows))) missing
  missing-as-told rows sorted missing known is told =
      subst (IsLargestFirst missing_size (map missing_of (by_key same_shared (map (keyed_named texts) rows)))) (sym told) (missing-arranged rows sorted known is)
