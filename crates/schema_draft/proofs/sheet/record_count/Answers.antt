use Rattle.std.proofs.Common.{◌≡◌, ℕ, ◌+◌, ◌-◌, ◌^◌, ◌≤◌, List, [], length, min, ap, arith}
use Rattle.csv_tables.specs.Records.{file_records}
use Rattle.schema_draft.proofs.sheet.record_count.Goals as goal

-- past the last record
counted : (count : ℕ) (left : List (List (List ℕ))) (all : ℕ) → min (count + length left) (2 ^ 64 - 1) ≡ min all (2 ^ 64 - 1) → left ≡ [] → count ≤ 2 ^ 64 - 1 → count ≡ min all (2 ^ 64 - 1)
counted count left all so_far none fits = omega (arith, so_far, ap length none, fits)

pub returns : goal.returns
returns c =
    let none = rw c.if-branch.false at c.in_ok-next.ensures in
    counted c.records.count _ (length (file_records c.args.bytes.now)) c.records.invariant.so_far none c.records.invariant.fits
