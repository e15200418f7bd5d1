-- The groups of a rule have a row for each line of the list.
use Rattle.std.proofs.Common.{◌≡◌, ℕ, List, [], ◌∷◌, length, map, refl, ◌∙◌, arith}
use Rattle.std.specs.Prelude.{sum_by}
use Rattle.std.specs.Cmp.{IsEquivalence, and_equiv, nat_eq_equiv, on_equiv}
use Rattle.std.specs.Cmp.Lexicographic.{lists_equiv, nat_list_eq_equiv}
use Rattle.std.specs.List.{AllZip}
use Rattle.std.specs.Str.{bytes_eq}
use Rattle.std.proofs.lemmas.List.Sums.{sum_by-cons}
use Rattle.key_groups.specs.Groups.{by_key, group_size as items_size}
use Rattle.key_groups.proofs.Members.{size-by_key}
use Rattle.key_groups.proofs.Totals.{arranged-total}
use Rattle.violation_groups.specs.Listed.{Shared, Valued, same_shared}
use Rattle.violation_groups.specs.Groups.{AreGroups, AreMissing, IsGroup, group_size, missing_of, missing_size, value_rows, value_size}
use Rattle.violation_groups.specs.declared.groups.Group.{Group}
use Rattle.violation_groups.specs.declared.groups.Missing.{Missing}

shared_laws : IsEquivalence same_shared
shared_laws = and_equiv (on_equiv (λ (shared : Shared). shared.0) nat_eq_equiv) (on_equiv (λ (shared : Shared). shared.1) (lists_equiv nat_list_eq_equiv))

total-map : {X Y : Type 0} (size : X → ℕ) (other_size : Y → ℕ) (name : X → Y) → ((x : X) → other_size (name x) ≡ size x) → (xs : List X) → sum_by other_size (map name xs) ≡ sum_by size xs
total-map size other_size name same [] = refl
total-map size other_size name same (x ∷ xs) =
    let rest = total-map size other_size name same xs in
    omega (arith, rest, same x, sum_by-cons other_size (name x) (map name xs), sum_by-cons size x xs)

group-total : (found : Shared × List Valued) (group : Group) → IsGroup found group → group_size group ≡ items_size found
group-total found group is =
    arranged-total value_size _ (map value_rows (by_key bytes_eq found.1)) group.values is.values
    ∙ total-map items_size value_size value_rows (λ value. refl) (by_key bytes_eq found.1)
    ∙ size-by_key bytes_eq nat_list_eq_equiv found.1

groups-total : (found : List (Shared × List Valued)) (groups : List Group) → AllZip IsGroup found groups → sum_by group_size groups ≡ sum_by items_size found
groups-total [] [] each = refl
groups-total [] (group ∷ groups) each = absurd each
groups-total (one ∷ found) [] each = absurd each
groups-total (one ∷ found) (group ∷ groups) each =
    let rest = groups-total found groups each.1 in
    omega (arith, rest, group-total one group each.0, sum_by-cons group_size group groups, sum_by-cons items_size one found)

pub listed-total : (listed : List (Shared × Valued)) (groups : List Group) → AreGroups listed groups → sum_by group_size groups ≡ length listed
listed-total listed groups are =
    groups-total are.found groups are.each ∙ arranged-total items_size _ (by_key same_shared listed) are.found are.order ∙ size-by_key same_shared shared_laws listed

pub missing-total : (listed : List (Shared × ℕ)) (missing : List Missing) → AreMissing listed missing → sum_by missing_size missing ≡ length listed
missing-total listed missing are =
    arranged-total missing_size _ (map missing_of (by_key same_shared listed)) missing are
    ∙ total-map items_size missing_size missing_of (λ found. refl) (by_key same_shared listed)
    ∙ size-by_key same_shared shared_laws listed
