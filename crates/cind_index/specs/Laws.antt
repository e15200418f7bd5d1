-- Laws of what rows give: a row gives only entries that name it, and none where its table isn't needed.
use Rattle.std.proofs.Common.{◌≡◌, ℕ, Bool, true, false, ◌&&◌, ◌||◌, List, Option, Some, None, refl, sym, ◌∙◌, arith}
use Rattle.std.specs.Prelude.{◌==◌}
use Rattle.std.specs.Str.{bytes_eq}
use Rattle.std.specs.Option.{option_map_or}
use Rattle.std.proofs.lemmas.Bool.Decides.{nat_tests}
use Rattle.cfd_semantics.specs.Orphan.{SideEntry, side_entry_of}
use Rattle.cfd_semantics.proofs.SideLists.{side_parts}
use Rattle.cind_index.specs.declared.side.Side.{Side}
use Rattle.cind_index.specs.declared.side.Side.TheVariants.{Left, Right}
use Rattle.cind_index.specs.Entries.{CindMade, CindEntry, table_on, gives_entry, gives_on, key_on, pattern_on}

pub two_parts : (a b : Bool) → (a && b) ≡ true → (a ≡ true) × (b ≡ true)
two_parts true true is = (refl, refl)
two_parts true false is = absurd (cc)
two_parts false b is = absurd (cc)

pub same_number : (m n : ℕ) → (m == n) ≡ true → m ≡ n
same_number m n is = grind (arith, nat_tests)

-- an entry that a row gives for a side has the row's id
pub given_has_row : (x xp : List ℕ) (row : ℕ) (tuple : List ℕ) (e : SideEntry ℕ) (own : Option (SideEntry ℕ)) → side_entry_of x xp (row, tuple) ≡ own
    → option_map_or (λ (own : SideEntry ℕ). bytes_eq own.key e.key && bytes_eq own.pattern e.pattern && (own.row == e.row)) own false ≡ true → row ≡ e.row
given_has_row x xp row tuple e None is given = absurd (cc)
given_has_row x xp row tuple e (Some own) is given =
    let parts = two_parts (bytes_eq own.key e.key && bytes_eq own.pattern e.pattern) (own.row == e.row) given in
    sym (side_parts x xp (row, tuple) own is).is_row ∙ same_number own.row e.row parts.1

pub given_names_row : (made : CindMade) (table row : ℕ) (tuple : List ℕ) (e : CindEntry) → gives_entry made table row tuple e ≡ true → (table_on made e.side ≡ table) × (e.entry.row ≡ row)
given_names_row made table row tuple e given =
    let parts = two_parts (table == table_on made e.side) (gives_on made.rule e.side row tuple e.entry) given in
    (sym (same_number table (table_on made e.side) parts.0), sym (given_has_row (key_on made.rule e.side) (pattern_on made.rule e.side) row tuple e.entry (side_entry_of (key_on made.rule e.side) (pattern_on made.rule e.side) (row, tuple)) refl parts.1))

pub unneeded_gives_none : (made : CindMade) (table row : ℕ) (tuple : List ℕ) (e : CindEntry) → ((table == made.left) || (table == made.right)) ≡ false → gives_entry made table row tuple e ≡ false
unneeded_gives_none made table row tuple e unneeded =
    ungiven (table == made.left) (table == made.right) unneeded e.side (gives_on made.rule e.side row tuple e.entry) refl refl
  where
    ungiven : (l r : Bool) → (l || r) ≡ false → (side : Side) (b : Bool) → (table == made.left) ≡ l → (table == made.right) ≡ r → ((table == table_on made side) && b) ≡ false
    ungiven true r is side b left right = absurd (cc)
    ungiven false true is side b left right = absurd (cc)
    ungiven false false is Left b left right = rw left refl
    ungiven false false is Right b left right = rw right refl
