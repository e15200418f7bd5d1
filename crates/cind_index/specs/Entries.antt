-- What an index is made with, and which entries the rows of a table give.
use Rattle.std.specs.Prelude.{ℕ, ◌==◌, ◌&&◌, nat_eq, Bool, List, [], ◌++◌, if◌then◌else◌}
use Rattle.std.specs.Str.{bytes_eq}
use Rattle.cfd_semantics.specs.declared.inclusion.Inclusion.{Inclusion}
use Rattle.cfd_semantics.specs.Orphan.{SideEntry}
use Rattle.cfd_semantics.specs.EntrySets.{gives_side}
use Rattle.cind_index.specs.declared.side.Side.{Side}
use Rattle.cind_index.specs.declared.side.Side.TheVariants.{Left, Right}

-- an inclusion of value ids, and its two tables, which may be one
pub record CindMade : Type 0 where
  pub left : ℕ
  pub right : ℕ
  pub rule : Inclusion ℕ

-- an entry of one side
pub record CindEntry : Type 0 where
  pub side : Side
  pub entry : SideEntry ℕ

-- the table of a side
abbrev pub table_on : CindMade → Side → ℕ
table_on made Left = made.left
table_on made Right = made.right

-- the key attributes of a side, X or Y
abbrev pub key_on : Inclusion ℕ → Side → List ℕ
key_on rule Left = rule.x
key_on rule Right = rule.y

-- the pattern attributes of a side, Xp or Yp
abbrev pub pattern_on : Inclusion ℕ → Side → List ℕ
pattern_on rule Left = rule.xp
pattern_on rule Right = rule.yp

-- the entry of a row with these ids
abbrev pub is_entry : List ℕ → List ℕ → ℕ → SideEntry ℕ → Bool
is_entry key pattern row e = bytes_eq key e.key && bytes_eq pattern e.pattern && (row == e.row)

-- what a tuple gives for one side
abbrev pub gives_on : Inclusion ℕ → Side → ℕ → List ℕ → SideEntry ℕ → Bool
gives_on rule side row tuple entry = gives_side nat_eq (key_on rule side) (pattern_on rule side) row tuple entry

-- a row gives an entry on each side whose table is its own
abbrev pub gives_entry : CindMade → ℕ → ℕ → List ℕ → CindEntry → Bool
gives_entry made table row tuple e = (table == table_on made e.side) && gives_on made.rule e.side row tuple e.entry

-- the attributes of the table that are read for one side, and for both
abbrev pub attributes_on : CindMade → ℕ → Side → List ℕ
attributes_on made table side = if table == table_on made side then key_on made.rule side ++ pattern_on made.rule side else []

abbrev pub attributes_of : CindMade → ℕ → List ℕ
attributes_of made table = attributes_on made table Left ++ attributes_on made table Right
