-- What a page is made of, whatever it tells: markup that is always the same, texts that are escaped, and numbers.
use Rattle.std.specs.Prelude.{◌≡◌, ℕ, List, [], ◌∷◌, codes, decimal, get_or}
use Rattle.std.specs.List.{flat_map}
use Rattle.html_text.specs.Escaped.{escaped}
use Rattle.page_text.specs.Markup.{markup, style}
use Rattle.page_text.specs.declared.markup.Piece.{Piece}

-- the markup of the elements that texts and numbers stand in
abbrev pub element_markup : List (List ℕ)
element_markup =
    codes "<code>" ∷ codes "</code> " ∷ codes "<b>" ∷ codes "</b> " ∷ codes "<mark>" ∷ codes "</mark> " ∷ codes "<td>" ∷ codes "</td>" ∷ codes "<td class=\"n\">" ∷ codes "and " ∷ codes " more" ∷ []

pub data Part : Type 0 where
  Markup : Piece → Part
  Style : Part
  -- by its number in the list
  Element : ℕ → Part
  -- whatever it holds, it is escaped
  Text : List ℕ → Part
  Number : ℕ → Part

abbrev pub part_text : Part → List ℕ
part_text (Markup piece) = markup piece
part_text Style = style
part_text (Element number) = get_or element_markup number []
part_text (Text text) = escaped text
part_text (Number number) = decimal number

-- it is such parts, one after the other
pub record IsMadeOfParts (text : List ℕ) : Type 0 where
  pub parts : List Part
  pub made : text ≡ flat_map part_text parts
