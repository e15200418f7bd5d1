use Rattle.std.proofs.Common.{◌≡◌, ◌<◌, ◌++◌, ℕ, Some, length, map, drop}
use Rattle.std.specs.Prelude.{All}
use Rattle.schema_core.specs.declared.schema.Attr.{Attr}
use Rattle.csv.specs.Records.{fields_of}
use Rattle.csv_tables.specs.TableFiles.{column_place, lacking_fault}
use Rattle.csv_tables.proofs.columns.column_places.Given as goal

abbrev pub invariant-loop-attr : goal.invariant-loop-attr
invariant-loop-attr l = record {
  none_lacks : lacking_fault l.attrs (fields_of l.header) ≡ lacking_fault (drop l.attr-index l.attrs) (fields_of l.header);
  so_far : map (λ (p : ℕ). Some p) l.places.items ++ map (λ (a : Attr). column_place (fields_of l.header) a.name) (drop l.attr-index l.attrs)
      ≡ map (λ (a : Attr). column_place (fields_of l.header) a.name) l.attrs;
  within : All (λ (p : ℕ). p < length (fields_of l.header)) l.places.items;
}
