use Rattle.std.proofs.Common.{◌<◌, ◌∙◌, ◌∷◌, [], Bor, List, ℕ, sym, ap, length}
use Rattle.std.proofs.lemmas.List.{map-append}
use Rattle.std.proofs.lemmas.Result.{err_from_is_err_and}
use Rattle.row_takers.specs.Taken.{texts_in}
use Rattle.schema_core.specs.Schemas.{admits}
use Rattle.csv.specs.Records.{fields_of}
use Rattle.csv_tables.proofs.RowFacts.{domain_fault-passes, domain_fault-refuses, field_of-is, refusal-tells, row_of-more}
use Rattle.csv_tables.specs.declared.fault.TableFault.TheVariants as fault
use Rattle.csv_tables.proofs.columns.Columns.cells.Goals as goal

pub returns-in_err-cell-clause-fault : goal.returns-in_err-cell-clause-fault
returns-in_err-cell-clause-fault c =
    let attrs = c.args.self.now.table.now.attrs in
    let header = fields_of c.args.self.now.header in
    let fields = fields_of c.args.fields.now in
    let this = rw c.as_slice-attr-items.ensures at c.attr-item.is in
    let inside : c.loop-i.i < length attrs = rw (← c.as_slice-attr-items.ensures) c.loop-i-test.true in
    let field = field_of-is attrs header _ c.args.self.now.in_place c.loop-i.i c.attr-item.result c.index.result.now inside this c.index.ensures fields c.requires.width in
    let p = err_from_is_err_and c.from_residual-in_err-cell.result c.from_residual-in_err-cell.ensures.1 in
    rw (p.1, p.2)
    (refusal-tells _ _ (fault.NotInDomain c.args.at c.attr-item.result.name) _
    (λ refused. c.loop-i.invariant.admitted ∙ domain_fault-refuses attrs header fields c.args.at c.loop-i.i c.attr-item.result inside this (ap (admits c.attr-item.result.domain) field ∙ refused)) c.in_err-cell.ensures.domain)

pub loop-i-preserved : goal.loop-i-preserved
loop-i-preserved c =
    let attrs = c.args.self.now.table.now.attrs in
    let header = fields_of c.args.self.now.header in
    let fields = fields_of c.args.fields.now in
    let this = rw c.as_slice-attr-items.ensures at c.attr-item.is in
    let inside : c.loop-i.i < length attrs = rw (← c.as_slice-attr-items.ensures) c.loop-i-test.true in
    let field = field_of-is attrs header _ c.args.self.now.in_place c.loop-i.i c.attr-item.result c.index.result.now inside this c.index.ensures fields c.requires.width in
    record {
      admitted =
          c.loop-i.invariant.admitted
          ∙ domain_fault-passes attrs header fields c.args.at c.loop-i.i c.attr-item.result inside this (ap (admits c.attr-item.result.domain) field ∙ c.in_ok-cell.ensures.domain);
      so_far =
          rw (c.in_ok-push.ensures.items, map-append (λ (text : Bor (List ℕ)). text.now) c.loop-i.row.items (c.in_ok-cell.field-0 ∷ []), c.in_ok-cell.ensures.value, ← field)
          (sym (row_of-more attrs header fields c.args.at c.loop-i.i c.attr-item.result inside this (texts_in c.loop-i.row.items)) ∙ c.loop-i.invariant.so_far);
    }
