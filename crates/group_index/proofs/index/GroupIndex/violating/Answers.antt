use Rattle.std.proofs.Common.{◌≡◌, ◌<◌, length, sym, ap, ◌∙◌, subst, rules}
use Rattle.std.specs.Prelude.{Some, slice_get}
use Rattle.std.proofs.lemmas.List.Sorted.{IsNonDecreasingBy-from_sort_by_key}
use Rattle.cfd_semantics.specs.declared.violation.Violation.{Violation}
use Rattle.group_index.specs.GroupSet.{GroupsMade, GroupSet}
use Rattle.group_index.specs.Answers.{IsSettled, AreViolations}
use Rattle.group_index.proofs.CollectFacts.{in_order, those_of_the_list}
use Rattle.group_index.proofs.index.GroupIndex.violating.Goals as goal

pub collect-requires-clause-row : goal.collect-requires-clause-row
collect-requires-clause-row g c = rw c.as_slice-rows.ensures (subst (λ (s : GroupSet). c.args.k < length s.made.dependency.rows) (sym c.self.view_is) c.requires.row)

pub collect-requires-clause-marks : goal.collect-requires-clause-marks
collect-requires-clause-marks g c = rw c.as_slice-rows.ensures c.self.invariant.marks

pub collect-requires-clause-settled : goal.collect-requires-clause-settled
collect-requires-clause-settled g c = subst IsSettled (sym c.self.view_is) c.requires.settled

pub returns-clause-violations : goal.returns-clause-violations
returns-clause-violations g c t is =
    let made : GroupsMade = record { table = c.self.inside.table; dependency = record { x = c.self.inside.x; a = c.self.inside.a; rows = c.self.inside.tableau } } in
    let at = ap (λ rows. slice_get rows c.args.k) c.as_slice-rows.ensures ∙ subst (λ (s : GroupSet). slice_get s.made.dependency.rows c.args.k ≡ Some t) (sym c.self.view_is) is in
    let up = IsNonDecreasingBy-from_sort_by_key (λ (v : Violation). v.row) _ c.sort_unstable_by_key.ensures.sorted (λ a r q k. search rules) in
    rw c.from.ensures (subst (λ (s : GroupSet). AreViolations s t c.sort_unstable_by_key.new.self.items) c.self.view_is
    (in_order made c.self.inside.groups t c.in_ok-found.found.items c.sort_unstable_by_key.new.self.items (c.in_ok-found.ensures.exactly t at) c.sort_unstable_by_key.ensures.permutation up))

pub returns-clause-list : goal.returns-clause-list
returns-clause-list g c t all is list = those_of_the_list c.args.self.now t c.from.result (returns-clause-violations g c t is) all list
