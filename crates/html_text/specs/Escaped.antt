-- Texts as they stand in a page: no byte of them is markup there.
use Rattle.std.specs.Prelude.{◌≡◌, ◌≢◌, ℕ, ◌==◌, Bool, if◌then◌else◌, List, [], ◌∷◌, IsTrue, codes, nat_eq}
use Rattle.std.specs.List.{flat_map, list_any, starts_with}

-- a byte as it stands there: those that markup is made of are spelled out
abbrev pub escaped_byte : ℕ → List ℕ
escaped_byte byte =
    if byte == 38 then codes "&amp;"
    else if byte == 60 then codes "&lt;"
    else if byte == 62 then codes "&gt;"
    else if byte == 34 then codes "&quot;"
    else if byte == 39 then codes "&#39;"
    else byte ∷ []

unfoldable pub escaped : List ℕ → List ℕ
escaped text = flat_map escaped_byte text

-- ---- what holds of it

-- how the spellings go on behind their `&`
abbrev pub spellings : List (List ℕ)
spellings = codes "amp;" ∷ codes "lt;" ∷ codes "gt;" ∷ codes "quot;" ∷ codes "#39;" ∷ []

abbrev pub begins_spelling : List ℕ → Bool
begins_spelling behind = list_any (starts_with nat_eq behind) spellings

-- none of `<`, `>`, `"` and `'`
abbrev pub IsNoMark : ℕ → Type 0
IsNoMark byte = (byte ≢ 60) × (byte ≢ 62) × (byte ≢ 34) × (byte ≢ 39)

-- Nothing in it begins or ends a tag or ends the value of an attribute, and each `&` begins one of the five spellings.
abbrev pub IsOnlyText : List ℕ → Type 0
IsOnlyText [] = Unit {0}
IsOnlyText (byte ∷ behind) = IsNoMark byte × (byte ≡ 38 → IsTrue (begins_spelling behind)) × IsOnlyText behind
