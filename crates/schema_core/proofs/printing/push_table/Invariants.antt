use Rattle.std.proofs.Common.{◌≡◌, ◌++◌, ◌∷◌, take}
use Rattle.std.specs.Prelude.{map}
use Rattle.line_grammar.specs.Spelling.{file_text}
use Rattle.schema_core.specs.SchemaText.{head_line, attr_line}
use Rattle.schema_core.proofs.printing.push_table.Given as goal

abbrev pub invariant-loop-attr : goal.invariant-loop-attr
invariant-loop-attr l = l.out.items ≡ l.fn.out.items ++ file_text (head_line l.table ∷ map attr_line (take l.attr-index l.attr-items))
