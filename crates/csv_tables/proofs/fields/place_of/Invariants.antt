use Rattle.std.proofs.Common.{◌≡◌, ◌<◌, ℕ, get_or, [], false}
use Rattle.std.specs.Str.{bytes_eq}
use Rattle.csv.specs.Records.{fields_of}
use Rattle.csv_tables.proofs.fields.place_of.Given as goal

abbrev pub invariant-loop-place : goal.invariant-loop-place
invariant-loop-place l = (k : ℕ) → k < l.place → bytes_eq (get_or (fields_of l.fields) k []) l.text ≡ false
