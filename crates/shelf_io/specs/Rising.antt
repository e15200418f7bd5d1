-- Counts that never fall, kept in a `u64`.
use Rattle.std.specs.Prelude.{ℕ, ◌+◌, ◌-◌, ◌^◌, ◌≤◌, min}

-- one more than a count, but for the last value of `u64`, at which a count stands still
abbrev pub raised : ℕ → ℕ
raised count = count + min 1 (2 ^ 64 - 1 - count)

-- the count rose, or stands at the last value of `u64`
abbrev pub Rose : ℕ → ℕ → Type 0
Rose before after = raised before ≤ after
