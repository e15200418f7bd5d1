-- What a watch promises of the entries that rows give: they name the row, and rows of a table that isn't needed give none.
use Rattle.std.proofs.Common.{◌≡◌, ℕ, ◌↔◌, Bool, true, false, ◌&&◌, List, refl, ap, arith}
use Rattle.std.specs.Prelude.{◌==◌, nat_eq}
use Rattle.std.proofs.lemmas.Bool.Decides.{nat_tests}
use Rattle.cfd_semantics.specs.Violation.{Entry}
use Rattle.cfd_semantics.specs.EntrySets.{gives}
use Rattle.cfd_semantics.proofs.EntryFacts.{entry_parts}
use Rattle.cfd_semantics.proofs.RowSets.{gives_decides}
use Rattle.group_index.specs.GroupSet.{GroupsMade, gives_entry}

both_true : (a b : Bool) → (a && b) ≡ true → (a ≡ true) × (b ≡ true)
both_true true true h = (refl, refl)
both_true true false h = absurd (cc)
both_true false b h = absurd (cc)

pub gives_names_row : (how : GroupsMade) (table row : ℕ) (ids : List ℕ) (e : Entry ℕ) → gives_entry how table row ids e ≡ true → (how.table ≡ table) × (e.row ≡ row)
gives_names_row how table row ids e given =
    let both = both_true (table == how.table) (gives nat_eq how.dependency row ids e) given in
    (grind (arith, nat_tests, both.0), (entry_parts how.dependency (row, ids) e ((gives_decides nat_eq exact how.dependency row ids e).0 both.1)).is_row)
  where
    exact : (v w : ℕ) → (nat_eq v w ≡ true) ↔ (v ≡ w)
    exact v w = grind (arith, nat_tests)

pub unneeded_gives_none : (how : GroupsMade) (table row : ℕ) (ids : List ℕ) (e : Entry ℕ) → (table == how.table) ≡ false → gives_entry how table row ids e ≡ false
unneeded_gives_none how table row ids e unneeded = ap (λ b. b && gives nat_eq how.dependency row ids e) unneeded
