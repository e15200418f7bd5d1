use Rattle.std.proofs.Common.{ℕ, Some, None, sym, ap, ◌∙◌}
use Rattle.std.specs.Option.{option_map}
use Rattle.row_store.specs.Tuple.{ids_of}
use Rattle.cfd_semantics.proofs.EntryFacts.{entry_parts}
use Rattle.bench_index.proofs.Lines.{line_alone, line_with}
use Rattle.bench_index.proofs.row_lines.line_of.Goals as goal

pub returns-then-alone-clause-line : goal.returns-then-alone-clause-line
returns-then-alone-clause-line g c t e all at is list =
    let row = (entry_parts c.args.group.now.made.dependency (c.args.row, ids_of c.args.tuple.now) e is).is_row in
    ap (λ n. Some (record { row = n; partner = None })) (sym row) ∙ sym (line_alone c.args.group.now t e all list (sym (c.requires.alone t e at is) ∙ c.if-alone.true))

pub returns-clause-line : goal.returns-clause-line
returns-clause-line g c t e all at is list =
    let group = c.args.group.now in
    let row = (entry_parts group.made.dependency (c.args.row, ids_of c.args.tuple.now) e is).is_row in
    let partner = c.in_ok-partner.partner in
    c.with_partner.ensures ∙ ap (λ n. option_map (λ (least : ℕ). record { row = n; partner = Some least }) partner) (sym row)
    ∙ sym (line_with group t e all list partner (c.in_ok-partner.ensures.partner t e at is) (sym (c.requires.alone t e at is) ∙ c.if-alone.false))
