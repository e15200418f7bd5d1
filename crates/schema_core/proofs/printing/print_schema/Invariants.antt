use Rattle.std.proofs.Common.{◌≡◌, take}
use Rattle.std.specs.List.{flat_map}
use Rattle.line_grammar.specs.Spelling.{file_text}
use Rattle.schema_core.specs.SchemaText.{table_lines}
use Rattle.schema_core.proofs.printing.print_schema.Given as goal

abbrev pub invariant-loop-table : goal.invariant-loop-table
invariant-loop-table l = l.out.items ≡ file_text (flat_map table_lines (take l.table-index l.table-items))
