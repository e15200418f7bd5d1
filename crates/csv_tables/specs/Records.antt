-- The records of a table file, as the crate csv reads them in its default dialect.
use Rattle.std.specs.Prelude.{◌≡◌, ◌+◌, ℕ, List, [], ◌∷◌, Bool, true, false, length, Option, Some, None, IsSome}
use Rattle.std.specs.Borrow.{Bor}
use Rattle.csv.specs.Reading.{Ready, default_config, has_failed, is_flexible, reader_config, reader_state, reader_trim, records, records_from, source_of, strip_bom}
use Rattle.csv.specs.declared.parser.State.{State}
use Rattle.csv.specs.declared.reader.Reader.{Reader}
use Rattle.csv.specs.declared.reader.Trim.TheVariants as trim

-- the records of a file: one byte order mark at its start is left out, and of what remains the crate's next record
-- is taken again and again, until there is none
abbrev pub file_records : List ℕ → List (List (List ℕ))
file_records bytes = records default_config (strip_bom bytes)

-- the records of a text from a state of its reader on
abbrev pub records_after : State → List ℕ → List (List (List ℕ))
records_after state text = records_from default_config (length text + 1) state text

-- the same of a text that may not be known
abbrev pub known_records : State → Option (List ℕ) → List (List (List ℕ))
known_records state None = []
known_records state (Some text) = records_after state text

-- the bytes that the reader of a slice has left, if it has not failed
abbrev pub unread_bytes : Reader (Bor (List ℕ)) → Option (List ℕ)
unread_bytes r = source_of (λ (s : Bor (List ℕ)). Some s.now) r

-- the records that the reader of a slice has left
abbrev pub records_left : Reader (Bor (List ℕ)) → List (List (List ℕ))
records_left r = known_records (reader_state r) (unread_bytes r)

-- a reader in the default dialect, with records of any length, that takes none of them for a header
pub record ReadsPlainly (r : Reader (Bor (List ℕ))) : Type 0 where
  pub config : reader_config r ≡ default_config
  pub trim : reader_trim r ≡ trim.None
  pub flexible : is_flexible r ≡ true
  pub ready : Ready r
  pub known : IsSome (unread_bytes r)

-- what the reader of a file keeps: it reads plainly, or it has failed and gives no more records
abbrev pub IsFileReader : Reader (Bor (List ℕ)) → Type 0
IsFileReader r = has_failed r ≡ false → ReadsPlainly r

-- a call took the first of the records that were left, or there was none
abbrev pub TakesNext : Bool → List (List (List ℕ)) → List (List ℕ) → List (List (List ℕ)) → Type 0
TakesNext true old fields new = old ≡ fields ∷ new
TakesNext false old fields new = old ≡ []
