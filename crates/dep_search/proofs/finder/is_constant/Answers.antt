use Rattle.std.proofs.Common.{List, ℕ, ◌∙◌, sym, ap, length}
use Rattle.dep_search.specs.Found.{is_short}
use Rattle.dep_search.proofs.Known.{constant_tested}
use Rattle.dep_search.proofs.finder.is_constant.Goals as goal

pub returns-then-not-says : goal.returns-then-not-says
returns-then-not-says c =
    let table = c.args.table.now in
    let tests = constant_tested table.rows.now (length table.columns.now) table.support c.args.store.now c.args.side.now.places.now c.args.side.now.grouped.now.x c.args.a c.args.r
    c.args.settled.now c.requires.side.facts c.requires.side.places c.requires.settled c.requires.a c.requires.row c.requires.first c.requires.support in
    tests.one (sym c.says.ensures ∙ c.if-not-says.true)

pub returns-then-is_any_said : goal.returns-then-is_any_said
returns-then-is_any_said c =
    let table = c.args.table.now in
    let tests = constant_tested table.rows.now (length table.columns.now) table.support c.args.store.now c.args.side.now.places.now c.args.side.now.grouped.now.x c.args.a c.args.r
    c.args.settled.now c.requires.side.facts c.requires.side.places c.requires.settled c.requires.a c.requires.row c.requires.first c.requires.support in
    tests.two (sym c.is_any_said.ensures ∙ c.if-is_any_said.true)

pub returns-then-not-is_short_at : goal.returns-then-not-is_short_at
returns-then-not-is_short_at c =
    let table = c.args.table.now in
    let tests = constant_tested table.rows.now (length table.columns.now) table.support c.args.store.now c.args.side.now.places.now c.args.side.now.grouped.now.x c.args.a c.args.r
    c.args.settled.now c.requires.side.facts c.requires.side.places c.requires.settled c.requires.a c.requires.row c.requires.first c.requires.support in
    tests.three (sym (c.is_short_at.ensures ∙ ap (λ (attrs : List ℕ). is_short table.rows.now attrs c.args.r) c.from_ref.ensures.value) ∙ c.if-not-is_short_at.true)

pub returns : goal.returns
returns c =
    let table = c.args.table.now in
    let tests = constant_tested table.rows.now (length table.columns.now) table.support c.args.store.now c.args.side.now.places.now c.args.side.now.grouped.now.x c.args.a c.args.r
    c.args.settled.now c.requires.side.facts c.requires.side.places c.requires.settled c.requires.a c.requires.row c.requires.first c.requires.support in
    let short = sym (c.is_short_at.ensures ∙ ap (λ (attrs : List ℕ). is_short table.rows.now attrs c.args.r) c.from_ref.ensures.value) ∙ c.if-not-is_short_at.false in
    c.is_short_at-2.ensures ∙ ap (λ (attrs : List ℕ). is_short table.rows.now attrs c.args.r) c.as_slice.ensures
    ∙ tests.last (sym c.says.ensures ∙ c.if-not-says.false) (sym c.is_any_said.ensures ∙ c.if-is_any_said.false) short
