use Rattle.std.proofs.Common.{◌≡◌, ◌++◌, ◌&&◌}
use Rattle.project_flaws.specs.Told.{tables_clean, tables_text}
use Rattle.project_flaws.proofs.told.push_tables.Given as goal

-- what was told, with what is left, is all of it
abbrev pub invariant-loop-table : goal.invariant-loop-table
invariant-loop-table l = record {
  text : l.out.items ++ tables_text l.counts l.table-iterator.a.rest.now l.table-iterator.b.rest.now ≡ l.fn.out.items ++ tables_text l.counts l.tables l.all;
  clean : (l.clean && tables_clean l.table-iterator.a.rest.now l.table-iterator.b.rest.now) ≡ tables_clean l.tables l.all;
}
