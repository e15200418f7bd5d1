use Rattle.std.proofs.Common.{◌≡◌, ℕ, get_or, ap, ◌∙◌, sym, subst}
use Rattle.std.specs.Prelude.{Some, slice_get}
use Rattle.std.proofs.lemmas.Option.{get_or_from_slice_get}
use Rattle.std.proofs.lemmas.Result.{IfOk-weaker}
use Rattle.cfd_semantics.specs.declared.dependency.TableauRow.{TableauRow}
use Rattle.cfd_semantics.specs.EntrySets.{IsEntryList}
use Rattle.group_index.specs.GroupSet.{GroupSet, holds_entry}
use Rattle.group_index.specs.Answers.{IsCountOfTheList, IsSettled}
use Rattle.group_index.specs.Leads.{AreSoMany}
use Rattle.group_index.specs.Totals.{IsKeptFor}
use Rattle.group_index.proofs.CountFacts.{count_of_the_list}
use Rattle.group_index.proofs.TotalFacts.{kept_is_so_many}
use Rattle.group_index.proofs.index.GroupIndex.violation_count.Goals as goal

pub returns-in-Some-clause-count : goal.returns-in-Some-clause-count
returns-in-Some-clause-count g c t all is list =
    let groups = c.self.inside.groups in
    let at : slice_get c.self.inside.tableau c.args.k ≡ Some t = subst (λ (s : GroupSet). slice_get s.made.dependency.rows c.args.k ≡ Some t) (sym c.self.view_is) is in
    let row : c.index-rows-k.result ≡ t = c.index-rows-k.is ∙ ap (λ rows. get_or rows c.args.k c.index-rows-k.result) c.as_slice-rows.ensures ∙ get_or_from_slice_get c.self.inside.tableau c.args.k t c.index-rows-k.result at in
    let kept = subst (λ (r : TableauRow ℕ). IsKeptFor c.self.inside.totals.counts r c.args.k c.in-Some.count) row c.in-Some.ensures in
    count_of_the_list groups t c.in-Some.count (kept_is_so_many c.self.inside.tableau groups c.len-len.ensures.distinct (subst IsSettled (sym c.self.view_is) c.requires.settled) c.self.inside.totals.counts c.self.invariant.totals c.args.k t c.in-Some.count at kept)
    all (subst (λ (s : GroupSet). IsEntryList (holds_entry s) all) (sym c.self.view_is) list)

pub returns-in-None-clause-count : goal.returns-in-None-clause-count
returns-in-None-clause-count g c =
    let groups = c.self.inside.groups in
    IfOk-weaker c.count.result (λ (count : ℕ). (t : TableauRow ℕ) → slice_get c.as_slice-rows.result.now c.args.k ≡ Some t → AreSoMany t groups count) (IsCountOfTheList c.args.self.now c.args.k)
    (λ count many t all is list.
    let at = ap (λ rows. slice_get rows c.args.k) c.as_slice-rows.ensures ∙ subst (λ (s : GroupSet). slice_get s.made.dependency.rows c.args.k ≡ Some t) (sym c.self.view_is) is in
    count_of_the_list groups t count (many t at) all (subst (λ (s : GroupSet). IsEntryList (holds_entry s) all) (sym c.self.view_is) list))
    c.count.ensures.count
