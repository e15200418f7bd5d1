-- The parts of a single and of a pair violation.
use Rattle.std.proofs.Common.{◌≡◌, Bool, true, false, not, ◌&&◌, refl}
use Rattle.cfd_semantics.specs.declared.dependency.TableauRow.{TableauRow}
use Rattle.cfd_semantics.specs.Pattern.{matches, all_match}
use Rattle.cfd_semantics.specs.Tuple.{same_values}
use Rattle.cfd_semantics.specs.Violation.{Entry, is_single, is_pair}

pub record IsSingleBy {V : Type 0} (eq : V → V → Bool) (t : TableauRow V) (e : Entry V) : Type 0 where
  pub x : all_match eq t.x e.x ≡ true
  pub a : matches eq t.a e.a ≡ false

pub single_parts : {V : Type 0} (eq : V → V → Bool) (t : TableauRow V) (e : Entry V) → is_single eq t e ≡ true → IsSingleBy eq t e
single_parts eq t e is = let both = parts (all_match eq t.x e.x) (matches eq t.a e.a) is in record { x = both.0; a = both.1 }
  where
    parts : (m a : Bool) → (m && not a) ≡ true → (m ≡ true) × (a ≡ false)
    parts true true h = absurd (cc)
    parts true false h = (refl, refl)
    parts false a h = absurd (cc)

pub record IsPairBy {V : Type 0} (eq : V → V → Bool) (t : TableauRow V) (e other : Entry V) : Type 0 where
  pub same : same_values eq e.x other.x ≡ true
  pub x : all_match eq t.x e.x ≡ true
  pub beside : all_match eq t.x other.x ≡ true
  pub a : matches eq t.a e.a ≡ true
  pub other_a : matches eq t.a other.a ≡ true
  pub differ : eq e.a other.a ≡ false

pub pair_parts : {V : Type 0} (eq : V → V → Bool) (t : TableauRow V) (e other : Entry V) → is_pair eq t e other ≡ true → IsPairBy eq t e other
pair_parts eq t e other is =
    let six = parts (same_values eq e.x other.x) (all_match eq t.x e.x) (all_match eq t.x other.x) (matches eq t.a e.a) (matches eq t.a other.a) (eq e.a other.a) is in
    record { same = six.0; x = six.1; beside = six.2; a = six.3; other_a = six.4; differ = six.5 }
  where
    parts : (s m n p q d : Bool) → (s && m && n && p && q && not d) ≡ true → (s ≡ true) × (m ≡ true) × (n ≡ true) × (p ≡ true) × (q ≡ true) × (d ≡ false)
    parts true true true true true false h = (refl, refl, refl, refl, refl, refl)
    parts true true true true true true h = absurd (cc)
    parts true true true true false d h = absurd (cc)
    parts true true true false q d h = absurd (cc)
    parts true true false p q d h = absurd (cc)
    parts true false n p q d h = absurd (cc)
    parts false m n p q d h = absurd (cc)

pub pair_from_parts : {V : Type 0} (eq : V → V → Bool) (t : TableauRow V) (e other : Entry V) → IsPairBy eq t e other → is_pair eq t e other ≡ true
pair_from_parts eq t e other is = rw (is.same, is.x, is.beside, is.a, is.other_a, is.differ) refl
