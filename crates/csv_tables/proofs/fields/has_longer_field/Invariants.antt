use Rattle.std.proofs.Common.{◌≡◌, ℕ, List, length, take, false, nat_lt}
use Rattle.std.specs.List.{list_any}
use Rattle.csv.specs.Records.{fields_of}
use Rattle.csv_tables.proofs.fields.has_longer_field.Given as goal

abbrev pub invariant-loop-place : goal.invariant-loop-place
invariant-loop-place l = list_any (λ (f : List ℕ). nat_lt l.most (length f)) (take l.place (fields_of l.fields)) ≡ false
