use Rattle.std.proofs.Common.{◌≡◌, true, refl, sym, ap, ◌∙◌}
use Rattle.std.specs.Prelude.{nat_eq}
use Rattle.cfd_semantics.specs.Pattern.{matches, all_match}
use Rattle.cfd_semantics.specs.Violation.{Entry}
use Rattle.group_index.specs.Pairs.{pairs_of}
use Rattle.group_index.specs.Leads.{IsAmong}
use Rattle.group_index.proofs.GroupFacts.{equal_ids, pair_at}
use Rattle.group_index.proofs.LeadFacts.{partner_of_leads}
use Rattle.group_index.proofs.PartnerFacts.{partner_from, no_partner_without_group, no_partner_outside, first_false, second_false}
use Rattle.group_index.proofs.groups.least_partner.Goals as goal

pub returns-then-not-matches_all-clause-partner : goal.returns-then-not-matches_all-clause-partner
returns-then-not-matches_all-clause-partner g c made row =
    let e : Entry _ = record { x = c.args.key.now.items; a = c.args.a; row = row } in
    let not = sym (ap (λ cells. all_match nat_eq cells c.as_slice-2.result.now) c.as_slice.ensures) in
    no_partner_outside made c.args.groups.now c.args.row.now e
    (first_false (all_match nat_eq c.args.row.now.x e.x) (matches nat_eq c.args.row.now.a e.a) (sym (ap (all_match nat_eq c.args.row.now.x) c.as_slice-2.ensures) ∙ not ∙ sym c.matches_all.ensures ∙ c.if-not-matches_all.true))

pub returns-then-not-matches-clause-partner : goal.returns-then-not-matches-clause-partner
returns-then-not-matches-clause-partner g c made row =
    let e : Entry _ = record { x = c.args.key.now.items; a = c.args.a; row = row } in
    no_partner_outside made c.args.groups.now c.args.row.now e
    (second_false (all_match nat_eq c.args.row.now.x e.x) (matches nat_eq c.args.row.now.a e.a) (sym c.matches.ensures ∙ c.if-not-matches.true))

pub returns-in_err-place-clause-partner : goal.returns-in_err-place-clause-partner
returns-in_err-place-clause-partner g c made row =
    let e : Entry _ = record { x = c.args.key.now.items; a = c.args.a; row = row } in
    rw c.from_residual.ensures (no_partner_without_group made c.args.groups.now c.args.key.now c.args.row.now e refl c.in_err-place.ensures.absent)

pub returns-clause-partner : goal.returns-clause-partner
returns-clause-partner g c made row =
    let e : Entry _ = record { x = c.args.key.now.items; a = c.args.a; row = row } in
    let has = c.in_ok-place.ensures.found in
    let at = pair_at c.args.groups.now.pairs c.in_ok-place.place has.0 c.value_at.result.now has.1 c.value_at.ensures in
    let own : has.0.items ≡ e.x = sym (equal_ids c.args.key.now.items has.0.items has.2) in
    let cells = sym (ap (λ cells. all_match nat_eq cells c.as_slice-2.result.now) c.as_slice.ensures) in
    let matched : all_match nat_eq c.args.row.now.x e.x ≡ true = sym (ap (all_match nat_eq c.args.row.now.x) c.as_slice-2.ensures) ∙ cells ∙ sym c.matches_all.ensures ∙ c.if-not-matches_all.false in
    let does : matches nat_eq c.args.row.now.a e.a ≡ true = sym c.matches.ensures ∙ c.if-not-matches.false in
    rw c.partner_of.ensures (partner_from c.args.groups.now c.in_ok-place.place has.0 c.value_at.result.now at c.find.ensures.distinct made c.args.row.now e own matched does _
    (partner_of_leads c.args.row.now.a (IsAmong (pairs_of c.value_at.result.now)) c.of.result.first c.of.result.second c.args.a c.of.ensures))
