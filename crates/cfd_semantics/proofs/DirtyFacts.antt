-- A group is dirty exactly where its A values say so: for a tableau row that it matches on X, one of them doesn't match, or
-- two that do differ.
use Rattle.std.proofs.Common.{◌≡◌, ◌↔◌, Bool, true, refl, sym, ◌∙◌}
use Rattle.std.specs.Prelude.{IsTrue}
use Rattle.std.specs.Cmp.{IsEquivalence}
use Rattle.std.proofs.lemmas.Cmp.{lists_equiv}
use Rattle.cfd_semantics.specs.declared.dependency.TableauRow.{TableauRow}
use Rattle.cfd_semantics.specs.declared.dependency.Dependency.{Dependency}
use Rattle.cfd_semantics.specs.Pattern.{all_match}
use Rattle.cfd_semantics.specs.Tuple.{same_values}
use Rattle.cfd_semantics.specs.Violation.{Entry}
use Rattle.cfd_semantics.specs.Dirty.{IsInGroup, Violates, IsDirtyGroup, Disagrees, IsDirtyByValues}
use Rattle.cfd_semantics.specs.Dirty.Violates.{single, pair}
use Rattle.cfd_semantics.specs.Dirty.Disagrees.{outside, two}
use Rattle.cfd_semantics.proofs.Law.{all_match-equal}
use Rattle.cfd_semantics.proofs.Parts.{single_parts, pair_parts, pair_from_parts}

module _ {V : Type 0} {eq : V → V → Bool} (laws : IsEquivalence eq) (holds : Entry V → Bool) where
  -- all entries of a group match a tableau row on X, or none does
  pub group_matches : (t : TableauRow V) (x : _) (e : Entry V) → IsInGroup eq holds x e → all_match eq t.x x ≡ all_match eq t.x e.x
  group_matches t x e inside = all_match-equal laws t.x x e.x inside.same

  same_group : (x : _) (e other : Entry V) → IsInGroup eq holds x e → IsInGroup eq holds x other → same_values eq e.x other.x ≡ true
  same_group x e other inside beside =
      sym ((lists_equiv laws).congr x e.x other.x inside.same) ∙ beside.same

  pub violates_by_values : (t : TableauRow V) (x : _) → Violates eq holds t x ↔ (IsTrue (all_match eq t.x x) × Disagrees eq holds t x)
  violates_by_values t x = (to, λ both. from both.0 both.1)
    where
      to : Violates eq holds t x → IsTrue (all_match eq t.x x) × Disagrees eq holds t x
      to (single e inside is) = let parts = single_parts eq t e is in (group_matches t x e inside ∙ parts.x, outside e inside parts.a)
      to (pair e other inside partner) =
          let parts = pair_parts eq t e other partner.pair in
          let both : IsInGroup eq holds x other = record { held = partner.held; same = (lists_equiv laws).congr x e.x other.x inside.same ∙ parts.same } in
          (group_matches t x e inside ∙ parts.x, two e other inside both parts.a parts.other_a parts.differ)

      from : IsTrue (all_match eq t.x x) → Disagrees eq holds t x → Violates eq holds t x
      from matched (outside e inside not_a) = single e inside (rw (sym (group_matches t x e inside) ∙ matched, not_a) refl)
      from matched (two e other inside beside a other_a differ) =
          pair e other inside (record {
            held = beside.held;
            pair = pair_from_parts eq t e other (record { same = same_group x e other inside beside; x = sym (group_matches t x e inside) ∙ matched; beside = sym (group_matches t x other beside) ∙ matched; a = a; other_a = other_a; differ = differ });
          })

  -- dirty, by its entries and by its A values
  pub dirty_by_values : (d : Dependency V) (x : _) → IsDirtyGroup eq holds d x ↔ IsDirtyByValues eq holds d x
  dirty_by_values d x = (
    (λ (t, inside, violates). let both = (violates_by_values t x).0 violates in (t, inside, both.0, both.1)),
    (λ (t, inside, matched, disagrees). (t, inside, (violates_by_values t x).1 (matched, disagrees))),
  )
