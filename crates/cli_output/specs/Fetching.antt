-- Files that are fetched and read one after the other: a value, or the first refusal.
use Rattle.std.specs.Prelude.{◌≡◌, ◌≢◌, ℕ, ◌+◌, ◌-◌, ◌≤◌, List, length, min, nat_lt, if◌then◌else◌, Option, None, Some, Result, Ok, Err, IfOk}
use Rattle.shelf_io.specs.Files.{Files, file_at}
use Rattle.shelf_io.specs.Rising.{Rose}
use Rattle.shelf_io.specs.Shelf.{ShelfTold}
use Rattle.line_grammar.specs.Faults.{GivesUnlessMemory}
use Rattle.text_lists.specs.declared.limits.Limits.{Limits}
use Rattle.cli_output.specs.declared.refusal.Cause.{Cause}
use Rattle.cli_output.specs.declared.refusal.Cause.TheVariants.{Absent, TooLarge}
use Rattle.cli_output.specs.declared.refusal.Refusal.{Refusal}
use Rattle.cli_output.specs.declared.fetching.Stop.{Stop}
use Rattle.cli_output.specs.declared.fetching.Stop.TheVariants.{Refused, ReadFault, Memory}

-- ---- what it comes to, by what the shelf holds

-- a value, or what is refused and why
abbrev pub OrRefusal : Type 0 → Type 0
OrRefusal X = Result X Refusal

-- a value, or this is refused for that cause
abbrev pub about : {X : Type 0} → List ℕ → Result X Cause → OrRefusal X
about what (Ok x) = Ok x
about what (Err cause) = Err (record { what = what; cause = cause })

-- no file is refused since it isn't there
abbrev pub NoneIsAbsent : {X : Type 0} → OrRefusal X → Type 0
NoneIsAbsent (Ok x) = Unit {0}
NoneIsAbsent (Err refusal) = refusal.cause ≢ Absent

-- what fetching came to, how many fetches it took, and how many bytes the files after it may have together
pub record Outcome (X : Type 0) : Type 0 where
  pub found : OrRefusal X
  pub fetches : ℕ
  pub left : ℕ

-- a way of fetching and reading files: its outcome, by what the shelf holds and how many bytes the files may have together
abbrev pub Fetching : Type 0 → Type 0
Fetching X = Files → ℕ → Outcome X

-- no file is fetched for this
abbrev pub given : {X : Type 0} → OrRefusal X → Fetching X
given found files left = record { found = found; fetches = 0; left = left }

abbrev pub followed : {X Y : Type 0} → ℕ → ℕ → OrRefusal X → (X → ℕ → Outcome Y) → Outcome Y
followed fetches left (Ok x) further = let last = further x left in record last { fetches = fetches + last.fetches }
followed fetches left (Err refusal) further = record { found = Err refusal; fetches = fetches; left = left }

-- one after the other; a refusal ends it
infixl 10 ◌>>=◌
abbrev pub ◌>>=◌ : {X Y : Type 0} → Fetching X → (X → Fetching Y) → Fetching Y
(first >>= further) files left = let outcome = first files left in followed outcome.fetches outcome.left outcome.found (λ x. further x files)

-- the bytes of a file that is there and fits
abbrev pub file_within : ℕ → Option (List ℕ) → Result (List ℕ) Cause
file_within room None = Err Absent
file_within room (Some bytes) = if nat_lt room (length bytes) then Err TooLarge else Ok bytes

abbrev pub bytes_in : Result (List ℕ) Cause → ℕ
bytes_in (Ok bytes) = length bytes
bytes_in (Err cause) = 0

-- one fetch: the bytes of a file, which has no more than a file may have and no more than are left
unfoldable pub file : Limits → List ℕ → Fetching (List ℕ)
file limits name files left =
    let found = file_within (min limits.file_bytes left) (file_at files name) in
    record { found = about name found; fetches = 1; left = left - bytes_in found }

-- ---- what a call returns

-- what a stop tells: a failed fetch and want of memory may come in place of any answer
abbrev pub refusal_in : Stop → Option Refusal
refusal_in (Refused refusal) = Some refusal
refusal_in ReadFault = None
refusal_in Memory = None

-- a fetch failed
abbrev pub IsReadFault : {X : Type 0} → Result X Stop → Type 0
IsReadFault (Ok x) = ⊥
IsReadFault (Err (Refused refusal)) = ⊥
IsReadFault (Err ReadFault) = Unit {0}
IsReadFault (Err Memory) = ⊥

-- a call that fetches nothing gives this, unless memory ran out
pub record Reads {X Y : Type 0} (found : OrRefusal Y) (view : X → Y) (result : Result X Stop) : Type 0 where
  pub gives : GivesUnlessMemory refusal_in found view result
  pub no_fault : IsReadFault result → ⊥

-- What a call promises that fetches files in this way, at most so many, off a shelf that tells this before and after.
pub record Fetches {X Y : Type 0} (fetching : Fetching Y) (view : X → Y) (most : ℕ) (result : Result X Stop) (before after : ShelfTold) (left still_left : ℕ) : Type 0 where
  -- Where the shelf tells what it holds, the answer is that of the held files,
  pub gives : (files : Files) → before.holding ≡ Some files → GivesUnlessMemory refusal_in (fetching files left).found view result
  -- and so are the bytes that are left and the number of fetches.
  pub told_left : (files : Files) → before.holding ≡ Some files → IfOk result (λ x. (fetching files left).left ≡ still_left)
  pub told_fetches : (files : Files) → before.holding ≡ Some files → after.calls ≤ before.calls + (fetching files left).fetches
  -- An absence is counted only where a file is refused as absent.
  pub absences : (files : Files) → before.holding ≡ Some files → NoneIsAbsent (fetching files left).found → after.absences ≡ before.absences
  pub fetches : after.calls ≤ before.calls + most
  -- A failed fetch is told only where the shelf counted one.
  pub read_fault : IsReadFault result → Rose before.faults after.faults
  pub calls : before.calls ≤ after.calls
  pub faults : before.faults ≤ after.faults
  pub holding : after.holding ≡ before.holding
