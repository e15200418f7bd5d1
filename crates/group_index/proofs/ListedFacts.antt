-- What is listed of the pairs of a group are the violations of its entries.
use Rattle.std.proofs.Common.{◌≡◌, ◌≢◌, ℕ, Bool, true, false, cond, List, [], ◌++◌, ◌+◌, ◌<◌, length, take, get_or, slice_get, Option, Some, None, refl, sym, ap, ◌∙◌, subst, arith}
use Rattle.std.specs.Prelude.{nat_eq, filter_map, AllPairs}
use Rattle.std.specs.Option.{option_map, option_to_list}
use Rattle.std.specs.List.{cons_option}
use Rattle.std.specs.declared.cmp.Ordering.TheVariants.{Less}
use Rattle.std.specs.List.Sorted.{IsStrictlySortedBy}
use Rattle.std.proofs.lemmas.Bool.Decides.{nat_tests}
use Rattle.std.proofs.lemmas.List.{append_assoc, get_or_default}
use Rattle.std.proofs.lemmas.Map.Keys.{Less-from_sorted}
use Rattle.smallvec.specs.SmallVec.{SmallVec}
use Rattle.marked_map.specs.MarkedMap.{HaveDistinctKeys}
use Rattle.cfd_semantics.specs.declared.pattern.Pattern.{Pattern}
use Rattle.cfd_semantics.specs.declared.dependency.TableauRow.{TableauRow}
use Rattle.cfd_semantics.specs.declared.violation.Violation.{Violation}
use Rattle.cfd_semantics.specs.Pattern.{matches, all_match}
use Rattle.cfd_semantics.specs.Violation.{is_single}
use Rattle.cfd_semantics.specs.EntrySets.{IsListedWith}
use Rattle.cfd_semantics.proofs.Listing.{given-more}
use Rattle.cfd_semantics.proofs.Parts.{single_parts, pair_parts}
use Rattle.group_index.specs.declared.group.Group.{Group}
use Rattle.group_index.specs.GroupSet.{GroupsMade}
use Rattle.group_index.specs.Answers.{IsPartnerOf}
use Rattle.group_index.specs.Pairs.{Pair, pairs_of}
use Rattle.group_index.specs.Groups.{KeyedGroups, set_of, is_in}
use Rattle.group_index.specs.Leads.{AreLeads, IsAmong, AddsListed, listed_by, partner_by}
use Rattle.group_index.proofs.GroupFacts.{same_key}
use Rattle.group_index.proofs.PairFacts.{pair_cmp}
use Rattle.group_index.proofs.LeadFacts.{partner_of_leads}
use Rattle.group_index.proofs.PartnerFacts.{entry_in, partner_from}

-- no pair stands twice in an ordered set
pub once_in_order : (pairs : List Pair) → IsStrictlySortedBy pair_cmp pairs → AllPairs (λ p q. p ≢ q) pairs
once_in_order pairs sorted i j d before within same =
    let less = Less-from_sorted pair_cmp pairs i j d sorted before within in
    let itself : pair_cmp (get_or pairs j d) (get_or pairs j d) ≡ Less = ap (λ p. pair_cmp p (get_or pairs j d)) (sym same) ∙ less in
    irreflexive (get_or pairs j d) itself
  where
    irreflexive : (p : Pair) → pair_cmp p p ≡ Less → ⊥
    irreflexive p is = grind (arith, nat_tests, is)

pub adds_listed : (cell : Pattern ℕ) (group : Group) (pairs : List Pair) (first : Option Pair) (second : Option ℕ) (old new : List Violation) → pairs_of group ≡ pairs → AreLeads cell (IsAmong (pairs_of group)) first second → AllPairs (λ p q. p ≢ q) pairs
    → new ≡ old ++ filter_map (listed_by cell first second) pairs → AddsListed cell (pairs_of group) old new
adds_listed cell group pairs first second old new is leads once added = record {
  first = first;
  second = second;
  leads = leads;
  once = subst (AllPairs (λ p q. p ≢ q)) (sym is) once;
  is = added ∙ ap (λ ps. old ++ filter_map (listed_by cell first second) ps) (sym is);
}

-- what is listed of one more pair of a list
pub one_more_listed : (h : Pair → Option Violation) (pairs : List Pair) (i : ℕ) (d : Pair) (old found new : List Violation) → i < length pairs → found ≡ old ++ filter_map h (take i pairs) → new ≡ found ++ option_to_list (h (get_or pairs i d))
    → new ≡ old ++ filter_map h (take (i + 1) pairs)
one_more_listed h pairs i d old found new within so_far one =
    one
    ∙ ap (λ f. f ++ option_to_list (h (get_or pairs i d))) so_far
    ∙ append_assoc old (filter_map h (take i pairs)) (option_to_list (h (get_or pairs i d)))
    ∙ ap (λ l. old ++ l) (ap (λ l. filter_map h (take i pairs) ++ l) (alone (h (get_or pairs i d))) ∙ sym (given-more h pairs i (get_or pairs i d) within (get_or_default pairs i d (get_or pairs i d) within)))
  where
    alone : (o : Option Violation) → option_to_list o ≡ cons_option o []
    alone None = refl
    alone (Some v) = refl

abbrev pub with_partner : Pair → ℕ → Violation
with_partner p partner = record { row = p.1; partner = Some partner }

module _ (made : GroupsMade) (groups : KeyedGroups) (distinct : HaveDistinctKeys same_key groups) (t : TableauRow ℕ) (place : ℕ) (key : SmallVec ℕ) (v : Group) (at : slice_get groups.pairs place ≡ Some (key, v))
    (matched : all_match nat_eq t.x key.items ≡ true) (first : Option Pair) (second : Option ℕ) (leads : AreLeads t.a (IsAmong (pairs_of v)) first second) where
  partner_is : (p : Pair) → matches nat_eq t.a p.0 ≡ true → IsPartnerOf (set_of made groups) t (entry_in key p) (partner_by first second p.0)
  partner_is p does =
      partner_from groups place key v at distinct made t (entry_in key p) refl matched does (partner_by first second p.0) (partner_of_leads t.a (IsAmong (pairs_of v)) first second p.0 leads)

  -- what is listed of a pair, is listed of its entry
  pub listed_so : (p : Pair) (w : Violation) → listed_by t.a first second p ≡ Some w → (w.row ≡ p.1) × IsListedWith nat_eq t (is_in groups.pairs) (entry_in key p) w.partner
  listed_so p w is = by (matches nat_eq t.a p.0) refl is
    where
      given : (o : Option ℕ) → IsPartnerOf (set_of made groups) t (entry_in key p) o → option_map (λ partner. record { row = p.1; partner = Some partner }) o ≡ Some w → (w.row ≡ p.1) × IsListedWith nat_eq t (is_in groups.pairs) (entry_in key p) w.partner
      given None none is = absurd (cc)
      given (Some row) least is =
          let same : record { row = p.1; partner = Some row } ≡ w = cc in
          subst (λ (u : Violation). (u.row ≡ p.1) × IsListedWith nat_eq t (is_in groups.pairs) (entry_in key p) u.partner) same (refl, least)

      by : (b : Bool) → matches nat_eq t.a p.0 ≡ b → cond b (option_map (λ partner. record { row = p.1; partner = Some partner }) (partner_by first second p.0)) (Some (record { row = p.1; partner = None })) ≡ Some w
          → (w.row ≡ p.1) × IsListedWith nat_eq t (is_in groups.pairs) (entry_in key p) w.partner
      by true does is = given (partner_by first second p.0) (partner_is p does) is
      by false isnt is =
          let same : record { row = p.1; partner = None } ≡ w = cc in
          let single : is_single nat_eq t (entry_in key p) ≡ true = rw (matched, isnt) refl in
          subst (λ (u : Violation). (u.row ≡ p.1) × IsListedWith nat_eq t (is_in groups.pairs) (entry_in key p) u.partner) same (refl, single)

  -- and the other way round
  pub listed_where : (p : Pair) (partner : Option ℕ) → IsListedWith nat_eq t (is_in groups.pairs) (entry_in key p) partner → listed_by t.a first second p ≡ Some (record { row = p.1; partner = partner })
  listed_where p None single = rw (single_parts nat_eq t (entry_in key p) single).a refl
  listed_where p (Some row) least =
      let does = (pair_parts nat_eq t (entry_in key p) least.partner.0 least.partner.1.pair).a in
      rw does (of (partner_by first second p.0) (partner_is p does))
    where
      of : (o : Option ℕ) → IsPartnerOf (set_of made groups) t (entry_in key p) o → option_map (with_partner p) o ≡ Some (with_partner p row)
      of None none = absurd (none least.partner.0 least.partner.1)
      of (Some other) is =
          let below = is.least least.partner.0 least.partner.1 in
          let above = least.least is.partner.0 is.partner.1 in
          let one = least.partner.2 in
          let two = is.partner.2 in
          let same : other ≡ row = omega (arith, below, above, one, two) in
          ap (λ n. Some (with_partner p n)) same
