use Rattle.std.proofs.Common.{◌≡◌, length, sym, ap, ◌∙◌, arith}
use Rattle.schema_core.specs.declared.schema.Schema.{Schema}
use Rattle.rule_runs.specs.Starts.{width_of}
use Rattle.fix_engine.proofs.Completeness.{all_end}
use Rattle.fix_engine.proofs.NamedAttrs.{attrs_read}
use Rattle.fix_engine.proofs.rivals.rival_of.Goals as goal

pub returns-clause-none : goal.returns-clause-none
returns-clause-none c =
    let start = c.args.start.now in
    let tables = c.as_slice.ensures ∙ ap (λ (s : Schema). s.tables) c.schema.ensures.schema in
    let attrs = attrs_read start.rules.now.schema c.as_slice.result.now start.table c.index-as_slice-start.result tables c.requires.start.table c.index-as_slice-start.is in
    let width : width_of start start.table ≡ length c.as_slice-attr-end.result.now = ap length (attrs ∙ sym c.as_slice-attr-end.ensures) in
    all_end start c.schema.ensures.valid c.requires.start c.args.first.now c.requires.first
    (λ attr within free. c.loop-attr.invariant attr (omega (arith, width, within, c.loop-attr-test.false)) free)
