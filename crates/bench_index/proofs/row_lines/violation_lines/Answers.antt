use Rattle.std.proofs.Common.{◌≡◌, ◌<◌, ◌≤◌, ◌&&◌, not, List, length, Some, sym, ap, ◌∙◌, subst, arith}
use Rattle.std.specs.Prelude.{nat_eq, slice_get}
use Rattle.std.specs.Option.{option_to_list}
use Rattle.std.specs.Str.{bytes_eq}
use Rattle.std.proofs.lemmas.Option.{slice_get_read}
use Rattle.std.proofs.lemmas.Slice.Zip.{AllZip-long}
use Rattle.cfd_semantics.specs.declared.dependency.TableauRow.{TableauRow}
use Rattle.cfd_semantics.specs.Pattern.{matches, all_match}
use Rattle.cfd_semantics.specs.Violation.{violation_of}
use Rattle.row_store.specs.Tuple.{ids_of}
use Rattle.bench_index.specs.ByIds.{IsRowByIds}
use Rattle.bench_index.specs.Lists.{text_of_cell, texts_at}
use Rattle.bench_index.proofs.ByRows.{list_more, rows_passed}
use Rattle.bench_index.proofs.Lines.{single_by_ids}
use Rattle.bench_index.proofs.Reading.{zip_at}
use Rattle.bench_index.proofs.row_lines.violation_lines.Goals as goal

pub line_of-requires-clause-k : goal.line_of-requires-clause-k
line_of-requires-clause-k g c =
    let rule = c.args.rule.now in
    let long = AllZip-long (IsRowByIds c.args.pool.now) rule.rows c.args.group.now.made.dependency.rows c.requires.rule.rows in
    let all : length c.as_slice-tableau.result.now ≡ length rule.rows = ap length c.as_slice-tableau.ensures in
    omega (arith, long, all, c.loop-k-test.true)

pub line_of-requires-clause-alone : goal.line_of-requires-clause-alone
line_of-requires-clause-alone g c t e at is =
    let texts = c.args.pool.now in
    let ids = ids_of c.args.tuple.now in
    let d = c.args.group.now.made.dependency in
    let rule = c.args.rule.now in
    let row = c.index-tableau-k.result in
    let there = slice_get_read c.as_slice-tableau.result.now (length c.as_slice-tableau.result.now) c.loop-k.k row (λ i. length c.as_slice-tableau.result.now) c.loop-k-test.true c.index-tableau-k.is in
    let beside = subst (λ (rows : List (TableauRow _)). slice_get rows c.loop-k.k ≡ Some row) c.as_slice-tableau.ensures there in
    let by_ids = zip_at (IsRowByIds texts) rule.rows d.rows c.loop-k.k row t c.requires.rule.rows beside at in
    c.is_single-alone.ensures
    ∙ ap (λ x. all_match bytes_eq row.x (texts_at texts ids x) && not (matches bytes_eq row.a (text_of_cell texts ids rule.a))) (sym c.requires.rule.x)
    ∙ ap (λ a. all_match bytes_eq row.x (texts_at texts ids d.x) && not (matches bytes_eq row.a (text_of_cell texts ids a))) (sym c.requires.rule.a)
    ∙ single_by_ids texts ids c.requires.named c.len-len.ensures.distinct d c.args.row e row t c.requires.wide is by_ids

pub loop-k-preserved : goal.loop-k-preserved
loop-k-preserved g c =
    let rows = c.args.group.now.made.dependency.rows in
    let long = AllZip-long (IsRowByIds c.args.pool.now) c.args.rule.now.rows rows c.requires.rule.rows in
    let all : length c.as_slice-tableau.result.now ≡ length c.args.rule.now.rows = ap length c.as_slice-tableau.ensures in
    let within : c.loop-k.k < length rows = omega (arith, long, all, c.loop-k-test.true) in record {
      lines = λ e all is list.
          list_more (λ (t : TableauRow _). option_to_list (violation_of nat_eq t all e)) rows c.loop-k.k c.loop-k.lines c.push_line.new.lines (option_to_list c.in_ok-line.line) within
          (c.loop-k.invariant.lines e all is list) (λ t at. ap option_to_list (c.in_ok-line.ensures.line t e all at is list)) c.in_ok-push_line.ensures;
      probes = omega (arith, c.loop-k.invariant.probes, c.line_of.ensures.probes);
    }

pub returns-in_err-line-clause-probes : goal.returns-in_err-line-clause-probes
returns-in_err-line-clause-probes g c =
    let long = AllZip-long (IsRowByIds c.args.pool.now) c.args.rule.now.rows c.args.group.now.made.dependency.rows c.requires.rule.rows in
    let all : length c.as_slice-tableau.result.now ≡ length c.args.rule.now.rows = ap length c.as_slice-tableau.ensures in
    omega (arith, long, all, c.loop-k-test.true, c.loop-k.invariant.probes, c.line_of.ensures.probes)

pub returns-in_err-push_line-clause-probes : goal.returns-in_err-push_line-clause-probes
returns-in_err-push_line-clause-probes g c =
    let long = AllZip-long (IsRowByIds c.args.pool.now) c.args.rule.now.rows c.args.group.now.made.dependency.rows c.requires.rule.rows in
    let all : length c.as_slice-tableau.result.now ≡ length c.args.rule.now.rows = ap length c.as_slice-tableau.ensures in
    omega (arith, long, all, c.loop-k-test.true, c.loop-k.invariant.probes, c.line_of.ensures.probes)

pub returns-clause-lines : goal.returns-clause-lines
returns-clause-lines g c e all is list =
    let rows = c.args.group.now.made.dependency.rows in
    let long = AllZip-long (IsRowByIds c.args.pool.now) c.args.rule.now.rows rows c.requires.rule.rows in
    let long_too : length c.as_slice-tableau.result.now ≡ length c.args.rule.now.rows = ap length c.as_slice-tableau.ensures in
    let past : length rows ≤ c.loop-k.k = omega (arith, long, long_too, c.loop-k-test.false) in
    c.loop-k.invariant.lines e all is list ∙ rows_passed (λ (t : TableauRow _). option_to_list (violation_of nat_eq t all e)) rows c.loop-k.k past

pub returns-clause-probes : goal.returns-clause-probes
returns-clause-probes g c =
    let long = AllZip-long (IsRowByIds c.args.pool.now) c.args.rule.now.rows c.args.group.now.made.dependency.rows c.requires.rule.rows in
    let all : length c.as_slice-tableau.result.now ≡ length c.args.rule.now.rows = ap length c.as_slice-tableau.ensures in
    omega (arith, long, all, c.loop-k.auto, c.loop-k.invariant.probes)
