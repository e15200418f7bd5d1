use Rattle.std.proofs.Common.{◌≡◌, ℕ, List, get_or, length, ap, ◌∙◌}
use Rattle.schema_core.specs.declared.schema.Schema.{Schema}
use Rattle.schema_core.specs.declared.schema.Table.{Table}
use Rattle.rule_model.specs.Books.{Book}
use Rattle.bench_core.specs.State.{Row, rows_at}
use Rattle.cfd_semantics.specs.Tuple.{tuples_of}
use Rattle.violation_report.proofs.Loops.{has_table}
use Rattle.session.proofs.Exported.{exported, rows_are_wide}
use Rattle.session.proofs.export.push_rows.Goals as goal

pub rows-requires : goal.rows-requires
rows-requires c = has_table c.rules.ensures.valid.present c.args.number c.requires

pub write_table-requires : goal.write_table-requires
write_table-requires c =
    let bench = c.args.bench.now in
    let table = c.index-as_slice-number.result in
    let tables : c.as_slice.result.now ≡ bench.rules.schema.tables = c.as_slice.ensures ∙ ap (λ (s : Schema). s.tables) (c.schema.ensures.schema ∙ ap (λ (b : Book). b.schema) c.rules.ensures.value) in
    let there : table ≡ get_or bench.rules.schema.tables c.args.number table = c.index-as_slice-number.is ∙ ap (λ (ts : List Table). get_or ts c.args.number table) tables in
    let wide = rows_are_wide bench.limits.cell_bytes bench.limits.last_id bench.rules.schema.tables bench.history.present c.args.number table c.rules.ensures.valid.present.tables c.requires there in
    let rows : c.in_ok-rows.rows ≡ tuples_of (rows_at bench.history.present c.args.number) = c.in_ok-rows.ensures ∙ ap (λ (rs : List Row). tuples_of rs) c.in_ok-stored.ensures.rows in
    rw rows wide

pub returns : goal.returns
returns c =
    let bench = c.args.bench.now in
    let table = c.index-as_slice-number.result in
    let before = c.args.out.now.items in
    let end = c.push_counted.new.out.items in
    let tables : c.as_slice.result.now ≡ bench.rules.schema.tables = c.as_slice.ensures ∙ ap (λ (s : Schema). s.tables) (c.schema.ensures.schema ∙ ap (λ (b : Book). b.schema) c.rules.ensures.value) in
    let there : table ≡ get_or bench.rules.schema.tables c.args.number table = c.index-as_slice-number.is ∙ ap (λ (ts : List Table). get_or ts c.args.number table) tables in
    let rows : c.in_ok-rows.rows ≡ tuples_of (rows_at bench.history.present c.args.number) = c.in_ok-rows.ensures ∙ ap (λ (rs : List Row). tuples_of rs) c.in_ok-stored.ensures.rows in
    exported bench.rules bench.history.present c.args.number table c.in_ok-rows.rows _ before _ _ c.push_counted.result end c.requires there rows (ap (λ (ts : List (List (List ℕ))). length ts) c.as_slice-count.ensures) (c.deref.ensures.value ∙ c.in_ok-file.ensures.text) c.in_ok-extend_from_slice.ensures.items c.push_counted.ensures
