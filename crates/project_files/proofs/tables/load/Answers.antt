use Rattle.std.proofs.Common.{ap, map, sym, subst, ◌∙◌, arith}
use Rattle.schema_core.specs.declared.schema.Schema.{Schema}
use Rattle.schema_core.specs.declared.schema.Table.{Table}
use Rattle.cli_output.specs.Fetching.{Reads}
use Rattle.project_files.specs.Project.{tables_of}
use Rattle.project_files.proofs.FullTables.{full_refusal, loaded_bench, refused_reads, told_name}
use Rattle.project_files.proofs.tables.load.Goals as goal

pub bounds-as_slice-table : goal.bounds-as_slice-table
bounds-as_slice-table g c =
    let full = rw c.in-Err-RowsFull.field-0-is at c.in-Err-RowsFull.ensures.loaded in
    let names = c.as_slice.ensures ∙ c.in_ok-names.ensures ∙ ap (λ (s : Schema). map (λ (t : Table). t.file) s.tables) c.schema.ensures.schema in
    omega (arith, told_name c.args.limits.now c.args.rules c.args.tables.tables c.in-Err-RowsFull.table c.as_slice.result.now c.requires.tables full names)

pub offset_bounds-as_slice-table : goal.offset_bounds-as_slice-table
offset_bounds-as_slice-table g c =
    let full = rw c.in-Err-RowsFull.field-0-is at c.in-Err-RowsFull.ensures.loaded in
    let names = c.as_slice.ensures ∙ c.in_ok-names.ensures ∙ ap (λ (s : Schema). map (λ (t : Table). t.file) s.tables) c.schema.ensures.schema in
    omega (arith, c.as_slice.type_inv.1, told_name c.args.limits.now c.args.rules c.args.tables.tables c.in-Err-RowsFull.table c.as_slice.result.now c.requires.tables full names)

pub returns-in-Ok-clause-reads : goal.returns-in-Ok-clause-reads
returns-in-Ok-clause-reads g c = record {
  gives = loaded_bench c.args.rules c.args.limits.now c.args.tables.tables c.in-Ok.bench c.in-Ok.ensures.loaded c.in-Ok.ensures.made_with.0 c.in-Ok.ensures.made_with.1 c.in-Ok.ensures.fresh.0 c.in-Ok.ensures.fresh.1;
  no_fault = λ fault. fault;
}

pub returns-in-Ok-clause-probes : goal.returns-in-Ok-clause-probes
returns-in-Ok-clause-probes g c = rw c.in-Ok.ensures.made_with.0 c.in-Ok.ensures.probes

pub returns-in-Err-RowsFull-clause-reads : goal.returns-in-Err-RowsFull-clause-reads
returns-in-Err-RowsFull-clause-reads g c =
    let full = rw c.in-Err-RowsFull.field-0-is at c.in-Err-RowsFull.ensures.loaded in
    let names = c.as_slice.ensures ∙ c.in_ok-names.ensures ∙ ap (λ (s : Schema). map (λ (t : Table). t.file) s.tables) c.schema.ensures.schema in
    subst (λ found. Reads found tables_of c.refused.result)
    (sym (full_refusal c.args.limits.now c.args.rules c.args.tables.tables c.in-Err-RowsFull.table c.as_slice.result.now c.index-as_slice-table.result c.requires.tables full names c.index-as_slice-table.is))
    (refused_reads _ tables_of c.refused.result c.refused.ensures)
