-- What a shelf holds: a finite map from names to bytes.
use Rattle.std.specs.Prelude.{ℕ, List, Option, option_map, take, if◌then◌else◌}
use Rattle.std.specs.Ordering.{nat_cmp}
use Rattle.std.specs.Cmp.Lexicographic.{slice_cmp}
use Rattle.std.specs.Coded.{Coded, coded_ℕ, coded_list}
use Rattle.std.specs.FinMap.{FinMap, get, insert, contains_key, code}

-- files by their names, a name being the bytes of its text
abbrev pub Files : Type 0
Files = FinMap (slice_cmp nat_cmp) (List ℕ)

-- the bytes of the file with a name, where it is held
abbrev pub file_at : Files → List ℕ → Option (List ℕ)
file_at files name = get files name

-- the first bytes of the file with a name, at most so many; all of it where it is no longer
abbrev pub front_at : Files → List ℕ → ℕ → Option (List ℕ)
front_at files name most = option_map (take most) (file_at files name)

-- the files with one more; a file that is held under that name already stays as it is
abbrev pub with_file : Files → List ℕ → List ℕ → Files
with_file files name bytes = if contains_key files name then files else insert files name bytes

abbrev pub coded_files : Coded Files
coded_files = code (coded_list coded_ℕ) (coded_list coded_ℕ)
