-- Files in memory: the list that is kept as the map that it stands for, and what a fetch from it answers.
use Rattle.std.specs.Prelude.{◌≡◌, ℕ, List, map, None, Some, Result, Ok, Err, Vec, string_bytes}
use Rattle.std.specs.FinMap.{from_entries}
use Rattle.std.specs.declared.alloc.Global.{Global}
use Rattle.shelf_io.specs.Files.{Files, file_at, front_at}
use Rattle.shelf_io.specs.declared.files.HeldFile.{HeldFile}
use Rattle.shelf_io.specs.declared.shelf.FetchFault.{FetchFault}
use Rattle.shelf_io.specs.declared.shelf.FetchFault.TheVariants.{Absent, Failed, Memory}

-- a file as its name and its bytes
abbrev pub entry_of : HeldFile → List ℕ × List ℕ
entry_of file = (string_bytes file.name, file.bytes.items)

-- the map of the files in a list; of two files with one name the first counts
abbrev pub files_of : List HeldFile → Files
files_of files = from_entries (map entry_of files)

-- what fetching from these files may answer: the front of the file, that there is none, or that memory ran out
abbrev pub IsAnswer : Files → List ℕ → ℕ → Result (Vec ℕ Global) FetchFault → Type 0
IsAnswer files name most (Ok bytes) = front_at files name most ≡ Some bytes.items
IsAnswer files name most (Err Absent) = file_at files name ≡ None
IsAnswer files name most (Err Failed) = ⊥
IsAnswer files name most (Err Memory) = Unit {0}
