-- What a shelf tells of itself.
use Rattle.std.specs.Prelude.{ℕ, Option}
use Rattle.shelf_io.specs.Files.{Files}

-- what it holds, where it tells that, and how many fetches were made, how many of them failed and how many found no file
pub record ShelfTold : Type 0 where
  pub holding : Option Files
  pub calls : ℕ
  pub faults : ℕ
  pub absences : ℕ
