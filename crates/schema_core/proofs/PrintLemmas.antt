-- The canonical text of a schema, written table by table.
use Rattle.std.proofs.Common.{◌≡◌, ℕ, ◌≤◌, List, [], ◌∷◌, ◌++◌, length, take, ap, sym, ◌∙◌, append_assoc}
use Rattle.std.specs.List.{flat_map}
use Rattle.std.specs.Prelude.{codes}
use Rattle.std.proofs.lemmas.List.{take_all}
use Rattle.std.proofs.lemmas.Grind.{flat_map-append}
use Rattle.line_grammar.specs.Lines.{line_feed}
use Rattle.line_grammar.specs.Spelling.{line_text, file_text}
use Rattle.schema_core.specs.SchemaText.{table_lines, file_lines, canonical}
use Rattle.schema_core.specs.declared.schema.Table.{Table}
use Rattle.schema_core.specs.declared.schema.Schema.{Schema}
use Rattle.line_grammar.specs.declared.writing.Part.{Part}

-- files written one after the other
pub file_text-append : (xs ys : List (List Part)) → file_text (xs ++ ys) ≡ file_text xs ++ file_text ys
file_text-append xs ys = flat_map-append (λ line. line_text line ++ line_feed ∷ []) xs ys

pub canonical-written : (schema : Schema) (out with_rules with_script : List ℕ) (tables : List Table) (n : ℕ) → length tables ≤ n → tables ≡ schema.tables → out ≡ file_text (flat_map table_lines (take n tables))
    → with_rules ≡ out ++ file_text (file_lines (codes "rules") schema.rules) → with_script ≡ with_rules ++ file_text (file_lines (codes "script") schema.script) → with_script ≡ canonical schema
unfolding canonical
canonical-written schema out with_rules with_script tables n all same written rules script =
    let lines = flat_map table_lines schema.tables in
    let rules_lines = file_lines (codes "rules") schema.rules in
    let script_lines = file_lines (codes "script") schema.script in
    let first : out ≡ file_text lines = written ∙ ap (λ ts. file_text (flat_map table_lines ts)) (take_all n tables all ∙ same) in
    script ∙ ap (λ t. t ++ file_text script_lines) (rules ∙ ap (λ t. t ++ file_text rules_lines) first) ∙ append_assoc (file_text lines) (file_text rules_lines) (file_text script_lines)
    ∙ sym (file_text-append lines (rules_lines ++ script_lines) ∙ ap (λ t. file_text lines ++ t) (file_text-append rules_lines script_lines))
