use Rattle.std.proofs.Common.{ℕ, sym, ap, ◌∙◌}
use Rattle.std.proofs.lemmas.Bool.{true≢false}
use Rattle.schema_core.specs.declared.schema.Schema.{Schema}
use Rattle.rule_runs.specs.declared.moves.Start.{Start}
use Rattle.fix_engine.specs.Questions.{is_vouched}
use Rattle.fix_engine.proofs.Asking.{all_known, named_law, named_rows, only_memory, verdict_named}
use Rattle.fix_engine.proofs.NamedAttrs.{attrs_read}
use Rattle.fix_engine.proofs.fixing.fix.Goals as goal

pub returns-in_default-clause-law : goal.returns-in_default-clause-law
returns-in_default-clause-law c =
    let start : Start = record { rules = c.args.rules; pool = c.args.pool; masters = c.args.masters; table = c.args.table; tuple = c.args.tuple; vouched = record { 0 = 0 } } in
    named_law start c.args.vouched.now c.schema.ensures.valid c.len-texts.ensures.distinct (record { table = c.requires.there; tuple = c.requires.is_tuple; masters = c.requires.are_masters })

pub returns-in_default-clause-rows : goal.returns-in_default-clause-rows
returns-in_default-clause-rows c =
    let start : Start = record { rules = c.args.rules; pool = c.args.pool; masters = c.args.masters; table = c.args.table; tuple = c.args.tuple; vouched = record { 0 = 0 } } in
    named_rows start c.args.vouched.now c.schema.ensures.valid c.len-texts.ensures.distinct (record { table = c.requires.there; tuple = c.requires.is_tuple; masters = c.requires.are_masters })

pub returns-in_err-verdict_at-clause-law : goal.returns-in_err-verdict_at-clause-law
returns-in_err-verdict_at-clause-law c =
    let start : Start = record { rules = c.args.rules; pool = c.args.pool; masters = c.args.masters; table = c.args.table; tuple = c.args.tuple; vouched = c.in-Some.vouched } in
    named_law start c.args.vouched.now c.schema.ensures.valid c.len-texts.ensures.distinct (record { table = c.requires.there; tuple = c.requires.is_tuple; masters = c.requires.are_masters })

pub returns-in_err-verdict_at-clause-rows : goal.returns-in_err-verdict_at-clause-rows
returns-in_err-verdict_at-clause-rows c =
    let start : Start = record { rules = c.args.rules; pool = c.args.pool; masters = c.args.masters; table = c.args.table; tuple = c.args.tuple; vouched = c.in-Some.vouched } in
    named_rows start c.args.vouched.now c.schema.ensures.valid c.len-texts.ensures.distinct (record { table = c.requires.there; tuple = c.requires.is_tuple; masters = c.requires.are_masters })

pub returns-clause-law : goal.returns-clause-law
returns-clause-law c =
    let start : Start = record { rules = c.args.rules; pool = c.args.pool; masters = c.args.masters; table = c.args.table; tuple = c.args.tuple; vouched = c.in-Some.vouched } in
    named_law start c.args.vouched.now c.schema.ensures.valid c.len-texts.ensures.distinct (record { table = c.requires.there; tuple = c.requires.is_tuple; masters = c.requires.are_masters })

pub returns-clause-rows : goal.returns-clause-rows
returns-clause-rows c =
    let start : Start = record { rules = c.args.rules; pool = c.args.pool; masters = c.args.masters; table = c.args.table; tuple = c.args.tuple; vouched = c.in-Some.vouched } in
    named_rows start c.args.vouched.now c.schema.ensures.valid c.len-texts.ensures.distinct (record { table = c.requires.there; tuple = c.requires.is_tuple; masters = c.requires.are_masters })

pub returns-in_err-verdict_at-clause-unknown : goal.returns-in_err-verdict_at-clause-unknown
returns-in_err-verdict_at-clause-unknown c =
    let attrs = attrs_read c.args.rules.now.schema c.as_slice.result.now c.args.table c.index-as_slice-table.result (c.as_slice.ensures ∙ ap (λ (s : Schema). s.tables) c.schema.ensures.schema) c.requires.there c.index-as_slice-table.is in
    let known = all_known _ _ c.args.vouched.now c.as_slice-2.result.now attrs c.as_slice-2.ensures (λ any. true≢false (c.in-Some.ensures.unknown.1 any)) in
    (λ e. absurd (only_memory c.from_residual.result c.from_residual.ensures.1 e), λ any. absurd (known any))

pub returns-clause-unknown : goal.returns-clause-unknown
returns-clause-unknown c =
    let attrs = attrs_read c.args.rules.now.schema c.as_slice.result.now c.args.table c.index-as_slice-table.result (c.as_slice.ensures ∙ ap (λ (s : Schema). s.tables) c.schema.ensures.schema) c.requires.there c.index-as_slice-table.is in
    let known = all_known _ _ c.args.vouched.now c.as_slice-2.result.now attrs c.as_slice-2.ensures (λ any. true≢false (c.in-Some.ensures.unknown.1 any)) in
    (λ e. absurd (let same = e in cc), λ any. absurd (known any))

-- what is found at the start is a verdict on the question that the names ask
pub returns-clause-verdict : goal.returns-clause-verdict
returns-clause-verdict c =
    let start : Start = record { rules = c.args.rules; pool = c.args.pool; masters = c.args.masters; table = c.args.table; tuple = c.args.tuple; vouched = c.in-Some.vouched } in
    let attrs = attrs_read c.args.rules.now.schema c.as_slice.result.now c.args.table c.index-as_slice-table.result (c.as_slice.ensures ∙ ap (λ (s : Schema). s.tables) c.schema.ensures.schema) c.requires.there c.index-as_slice-table.is in
    let marks = λ (attr : ℕ). c.in-Some.ensures.marks attr
    ∙ ap (λ ns. is_vouched c.index-as_slice-table.result.attrs ns attr) c.as_slice-2.ensures
    ∙ ap (λ held. is_vouched held c.args.vouched.now attr) (sym attrs) in
    verdict_named start c.args.vouched.now c.schema.ensures.valid c.len-texts.ensures.distinct (record { table = c.requires.there; tuple = c.requires.is_tuple; masters = c.requires.are_masters })
    c.in_ok-verdict_at.field-0 marks c.in_ok-verdict_at.ensures.tuples c.in_ok-verdict_at.ensures.found
