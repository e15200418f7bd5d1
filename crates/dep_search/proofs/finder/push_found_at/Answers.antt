use Rattle.std.proofs.Common.{◌≡◌, ◌++◌, List, length, subst, sym, ap, false, ◌∙◌, append_assoc}
use Rattle.std.specs.Prelude.{nat_eq}
use Rattle.std.specs.List.{list_any}
use Rattle.std.specs.Result.{OnOk}
use Rattle.dep_search.specs.Found.{plain_at, constants_at, proper_parts}
use Rattle.dep_search.specs.declared.candidate.Candidate.{Candidate}
use Rattle.dep_search.proofs.Kept.{found_outside, any_flipped}
use Rattle.dep_search.proofs.Known.{append_none, nothing_found, parts_determine, plain_test}
use Rattle.dep_search.proofs.finder.push_found_at.Goals as goal

pub returns-then-is_any_all : goal.returns-then-is_any_all
returns-then-is_any_all c =
    let table = c.args.table.now in
    let side = c.args.side.now in
    let x = side.grouped.now.x in
    let parts = parts_determine table.rows.now (length table.columns.now) table.support c.args.store.now c.args.a side.places.now (proper_parts x)
    c.requires.side.facts c.requires.a c.requires.side.places in
    let none = nothing_found table.rows.now table.support side.number x c.args.a (sym parts ∙ sym c.is_any_all.ensures ∙ c.if-is_any_all.true) in
    sym (ap (λ (l : List Candidate). c.args.found.now ++ l) none ∙ append_none c.args.found.now)

pub returns : goal.returns
returns c =
    let table = c.args.table.now in
    let side = c.args.side.now in
    let x = side.grouped.now.x in
    let plain = plain_at table.rows.now side.number x c.args.a in
    let constants = constants_at table.rows.now table.support side.number x c.args.a in
    let parts = parts_determine table.rows.now (length table.columns.now) table.support c.args.store.now c.args.a side.places.now (proper_parts x)
    c.requires.side.facts c.requires.a c.requires.side.places in
    let test = plain_test table.rows.now x c.args.a c.args.settled.now.all c.is_any_all.result c.requires.settled.all (c.is_any_all.ensures ∙ parts) c.if-is_any_all.false in
    let pushed : c.push_plain.new.found ≡ c.args.found.now ++ plain = c.in_ok-push_plain.ensures table.rows.now test in
    let outside : list_any (nat_eq c.args.a) x ≡ false =
    sym (any_flipped c.args.a x) ∙ sym (ap (list_any (λ y. nat_eq y c.args.a)) c.as_slice.ensures) ∙ sym c.contains.ensures.value ∙ c.if-contains.false in
    let all = ap (λ (l : List Candidate). l ++ constants) pushed ∙ append_assoc c.args.found.now plain constants
    ∙ ap (λ (l : List Candidate). c.args.found.now ++ l) (sym (found_outside table.rows.now table.support side.number x c.args.a outside)) in
    subst (λ (l : List Candidate). OnOk c.push_constants.result (c.push_constants.new.found ≡ l)) all c.push_constants.ensures
