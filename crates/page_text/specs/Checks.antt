-- What `check` finds, line by line.
use Rattle.std.specs.Prelude.{ℕ, ◌==◌, List, ◌++◌, take, length, if◌then◌else◌}
use Rattle.std.specs.List.{flat_map}
use Rattle.html_text.specs.Elements.{between}
use Rattle.page_text.specs.Markup.{markup, more_text}
use Rattle.page_text.specs.declared.markup.Piece.TheVariants as piece

abbrev pub line_item : List ℕ → List ℕ
line_item line = between (markup piece.Item) line (markup piece.ItemEnd)

abbrev pub line_items : List (List ℕ) → List ℕ
line_items found = flat_map line_item found

-- the first lines, and how many more there are
abbrev pub found_items : ℕ → List (List ℕ) → List ℕ
found_items first found = line_items (take first found) ++ more_text piece.Item first (length found) piece.ItemEnd

-- the lines of what is found, if anything is
abbrev pub found_list : ℕ → List (List ℕ) → List ℕ
found_list first found = if length found == 0 then markup piece.NoChecks else markup piece.ChecksOpen ++ found_items first found ++ markup piece.ChecksClose

abbrev pub checks_text : ℕ → List (List ℕ) → List ℕ
checks_text first found = markup piece.Checks ++ found_list first found
