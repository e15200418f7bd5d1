-- The partners of an entry are pairs of its own group.
use Rattle.std.proofs.Common.{◌≡◌, ◌≢◌, ℕ, ◌<◌, Bool, true, false, ◌&&◌, List, length, get_or, slice_get, Option, Some, None, refl, sym, ap, ◌∙◌, subst, arith}
use Rattle.std.specs.Prelude.{nat_eq, slice_index, Contains}
use Rattle.std.specs.Str.{bytes_eq}
use Rattle.std.proofs.lemmas.Bool.Decides.{nat_tests}
use Rattle.std.proofs.lemmas.Option.{same_Some, slice_get-get_or}
use Rattle.smallvec.specs.SmallVec.{SmallVec}
use Rattle.marked_map.specs.MarkedMap.{IsAbsent, HaveDistinctKeys}
use Rattle.cfd_semantics.specs.declared.dependency.TableauRow.{TableauRow}
use Rattle.cfd_semantics.specs.Pattern.{matches, all_match}
use Rattle.cfd_semantics.specs.Violation.{Entry}
use Rattle.cfd_semantics.specs.EntrySets.{IsPartner}
use Rattle.cfd_semantics.proofs.Parts.{pair_parts, pair_from_parts}
use Rattle.row_store.specs.Tuple.{ids_at}
use Rattle.group_index.specs.declared.group.Group.{Group}
use Rattle.group_index.specs.GroupSet.{GroupsMade, GroupSet}
use Rattle.group_index.specs.Answers.{IsPartnerOf, IsPartnerOfRow}
use Rattle.group_index.proofs.OwnEntries.{HasAll, entry_at, entry_there}
use Rattle.group_index.specs.Pairs.{Pair, pairs_of, has_pair}
use Rattle.group_index.specs.Groups.{KeyedGroup, KeyedGroups, set_of, is_in, IsPartnerIn}
use Rattle.group_index.specs.Leads.{IsLeastOther, IsAmong}
use Rattle.group_index.proofs.PairFacts.{has_from, member_from}
use Rattle.group_index.proofs.GroupFacts.{same_key, equal_ids, same_ids, both_true, both_so, clash, isnt, found_in, is_in_from, key_at}

-- the entry of a pair, under its key
abbrev pub entry_in : SmallVec ℕ → Pair → Entry ℕ
entry_in key p = record { x = key.items; a = p.0; row = p.1 }

module _ (groups : KeyedGroups) (place : ℕ) (key : SmallVec ℕ) (v : Group) (at : slice_get groups.pairs place ≡ Some (key, v)) where
  -- a pair of the group is an entry of the set
  pub entry_of_pair : (p : Pair) → Contains (pairs_of v) p → is_in groups.pairs (entry_in key p) ≡ true
  entry_of_pair p inside =
      is_in_from groups.pairs (entry_in key p) place (key, v) at (both_so (bytes_eq key.items key.items) (has_pair (pairs_of v) p) (same_ids key.items key.items refl) (has_from (pairs_of v) p inside))

  module _ (distinct : HaveDistinctKeys same_key groups) where
    -- an entry with the group's key is a pair of it
    pub pair_of_entry : (e : Entry ℕ) → key.items ≡ e.x → is_in groups.pairs e ≡ true → Contains (pairs_of v) (e.a, e.row)
    pair_of_entry e same inside =
        let it = found_in groups.pairs e inside in
        let both = both_true (bytes_eq it.group.0.items e.x) (has_pair (pairs_of it.group.1) (e.a, e.row)) it.holds in
        let one : it.place ≡ place = distinct it.place place it.group.0 key (key_at groups.pairs it.place it.group it.at) (key_at groups.pairs place (key, v) at) (same_ids it.group.0.items key.items (equal_ids it.group.0.items e.x both.0 ∙ sym same)) in
        let group : it.group ≡ (key, v) = same_Some it.group (key, v) (sym it.at ∙ ap (slice_get groups.pairs) one ∙ at) in
        member_from (pairs_of v) (e.a, e.row) (ap (λ (g : KeyedGroup). has_pair (pairs_of g.1) (e.a, e.row)) (sym group) ∙ both.1)

    module _ (made : GroupsMade) (t : TableauRow ℕ) (e : Entry ℕ) (own : key.items ≡ e.x) (matched : all_match nat_eq t.x e.x ≡ true) (does : matches nat_eq t.a e.a ≡ true) where
      to_partner : (p : Pair) → Contains (pairs_of v) p → matches nat_eq t.a p.0 ≡ true → p.0 ≢ e.a → IsPartner nat_eq t (is_in groups.pairs) e (entry_in key p)
      to_partner p inside other apart = record {
        held = entry_of_pair p inside;
        pair = pair_from_parts nat_eq t e (entry_in key p) (record {
          same = same_ids e.x key.items (sym own);
          x = matched;
          beside = ap (all_match nat_eq t.x) own ∙ matched;
          a = does;
          other_a = other;
          differ = isnt (nat_eq e.a p.0) (λ is. apart (let same : e.a ≡ p.0 = grind (arith, nat_tests, is) in sym same));
        });
      }

      from_partner : (other : Entry ℕ) → IsPartner nat_eq t (is_in groups.pairs) e other → Contains (pairs_of v) (other.a, other.row) × (matches nat_eq t.a other.a ≡ true) × (other.a ≢ e.a)
      from_partner other is =
          let parts = pair_parts nat_eq t e other is.pair in (
            pair_of_entry other (own ∙ equal_ids e.x other.x parts.same) is.held,
            parts.other_a,
            λ same. let equal : nat_eq e.a other.a ≡ true = grind (arith, nat_tests, same) in clash (nat_eq e.a other.a) equal parts.differ,
          )

      pub partner_from : (o : Option ℕ) → IsLeastOther t.a (IsAmong (pairs_of v)) e.a o → IsPartnerOf (set_of made groups) t e o
      partner_from None only = λ other is. let p = from_partner other is in p.2 (only (other.a, other.row) p.0 p.1)
      partner_from (Some row) least = record {
        partner = (entry_in key (least.0.0, row), to_partner (least.0.0, row) least.0.1 least.0.2 least.0.3, refl);
        least = λ other is. let p = from_partner other is in least.1 (other.a, other.row) p.0 p.1 p.2;
      }

-- without a group there is no partner
pub no_partner_without_group : (made : GroupsMade) (groups : KeyedGroups) (key : SmallVec ℕ) (t : TableauRow ℕ) (e : Entry ℕ) → key.items ≡ e.x → IsAbsent same_key groups key → IsPartnerOf (set_of made groups) t e None
no_partner_without_group made groups key t e own absent other is =
    let it = found_in groups.pairs other is.held in
    let both = both_true (bytes_eq it.group.0.items other.x) (has_pair (pairs_of it.group.1) (other.a, other.row)) it.holds in
    clash (same_key key it.group.0) (same_ids key.items it.group.0.items (own ∙ equal_ids e.x other.x (pair_parts nat_eq t e other is.pair).same ∙ sym (equal_ids it.group.0.items other.x both.0)))
    (absent it.place it.group.0 (key_at groups.pairs it.place it.group it.at))

-- nor where the entry doesn't match
pub no_partner_outside : (made : GroupsMade) (groups : KeyedGroups) (t : TableauRow ℕ) (e : Entry ℕ) → (all_match nat_eq t.x e.x && matches nat_eq t.a e.a) ≡ false → IsPartnerOf (set_of made groups) t e None
no_partner_outside made groups t e not other is =
    let parts = pair_parts nat_eq t e other is.pair in
    clash (all_match nat_eq t.x e.x && matches nat_eq t.a e.a) (both_so (all_match nat_eq t.x e.x) (matches nat_eq t.a e.a) parts.x parts.a) not

pub first_false : (a b : Bool) → a ≡ false → (a && b) ≡ false
first_false a b is = ap (λ c. c && b) is

pub second_false : (a b : Bool) → b ≡ false → (a && b) ≡ false
second_false true b is = is
second_false false b is = refl

-- ---- the partner of a row, and the tableau row with a number

pub row_at : (rows : List (TableauRow ℕ)) (k : ℕ) (r t : TableauRow ℕ) → r ≡ get_or rows k r → k < length rows → slice_get rows k ≡ Some t → r ≡ t
row_at rows k r t at within is = at ∙ same_Some (get_or rows k r) t (sym (slice_get-get_or rows k r within) ∙ is)

pub partner_of_row : (made : GroupsMade) (groups : KeyedGroups) (s : GroupSet) (k row : ℕ) (ids key : List ℕ) (a : ℕ) (r : TableauRow ℕ) (o : Option ℕ) → set_of made groups ≡ s → HasAll made ids → key ≡ ids_at ids made.dependency.x → a ≡ slice_index ids made.dependency.a
    → r ≡ get_or made.dependency.rows k r → k < length made.dependency.rows → IsPartnerIn groups r key a o → IsPartnerOfRow s k row ids o
partner_of_row made groups s k row ids key a r o view wide own_key own_a at within partner =
    subst (λ (u : GroupSet). IsPartnerOfRow u k row ids o) view (λ t e is own.
    let entry : entry_at made row ids ≡ e = same_Some (entry_at made row ids) e (sym (entry_there made row ids wide) ∙ own) in
    let same : ◌≡◌ {A = Entry ℕ} (record { x = key; a = a; row = row }) e = (λ i. record { x = own_key i; a = own_a i; row = row }) ∙ entry in
    subst (λ (f : Entry ℕ). IsPartnerOf (set_of made groups) t f o) same (subst (λ (u : TableauRow ℕ). IsPartnerOf (set_of made groups) u (record { x = key; a = a; row = row }) o) (row_at made.dependency.rows k r t at within is) (partner made row)))
