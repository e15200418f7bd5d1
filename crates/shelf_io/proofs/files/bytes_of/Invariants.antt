use Rattle.std.proofs.Common.{◌≡◌, drop}
use Rattle.shelf_io.specs.Files.{file_at}
use Rattle.shelf_io.specs.Held.{files_of}
use Rattle.shelf_io.proofs.files.bytes_of.Given as goal

-- no file so far has the name
abbrev pub invariant-loop-file : goal.invariant-loop-file
invariant-loop-file l = file_at (files_of l.files) l.name ≡ file_at (files_of (drop l.file-index l.files)) l.name
