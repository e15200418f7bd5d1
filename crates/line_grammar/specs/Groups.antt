-- Files as groups of lines, read one after the other. A group is a head with its members, the lines behind it that
-- begin with the member word.
use Rattle.std.specs.Prelude.{ℕ, Bool, true, false, List, [], ◌∷◌, Ok}
use Rattle.line_grammar.specs.Faults.{Causes, Reading, ◌>>=◌}
use Rattle.line_grammar.specs.FileLines.{file_lines, begins_with, no_lines}
use Rattle.line_grammar.specs.declared.line.Line.{Line}
use Rattle.line_grammar.specs.declared.group.Group.{Group}

-- ---- groups

-- members in front of any head, and groups
abbrev pub Cut : Type 0
Cut = List Line × List Group

-- a line in front of others that are cut already
abbrev pub in_front : Bool → Line → Cut → Cut
in_front true member later = (member ∷ later.0, later.1)
in_front false head later = ([], record { head = head; members = later.0 } ∷ later.1)

-- lines cut in front of each that is no member
abbrev pub cut : (Line → Bool) → List Line → Cut
cut belongs [] = ([], [])
cut belongs (line ∷ others) = in_front (belongs line) line (cut belongs others)

-- ---- the walk

-- The state after items that each change it or have a fault. The first fault ends it.
abbrev pub in_turn : {S X C : Type 0} → (S → X → Reading S C) → S → List X → Reading S C
in_turn add state [] = Ok state
in_turn add state (x ∷ xs) = add state x >>= λ next. in_turn add next xs

-- a file of lines that each stand alone
unfoldable pub read_lines : {S C : Type 0} → (S → Line → Reading S C) → S → List ℕ → Reading S C
read_lines add state bytes = in_turn add state (file_lines bytes)

-- what was cut: a member in front of any head is a bad line
abbrev pub read_cut : {S C : Type 0} → Causes C → (S → Group → Reading S C) → S → Cut → Reading S C
read_cut causes add state pieces = no_lines causes pieces.0 state >>= λ start. in_turn add start pieces.1

-- a file of groups
unfoldable pub read_groups : {S C : Type 0} → Causes C → List ℕ → (S → Group → Reading S C) → S → List ℕ → Reading S C
read_groups causes member add state bytes = read_cut causes add state (cut (begins_with member) (file_lines bytes))
