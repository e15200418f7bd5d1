-- An escaped text is only text.
use Rattle.std.proofs.Common.{◌≡◌, ℕ, Bool, true, false, cond, eqb, List, [], ◌∷◌, ◌++◌, refl}
use Rattle.std.specs.Prelude.{codes}
use Rattle.std.specs.List.{flat_map}
use Rattle.std.proofs.lemmas.Bool.{eqb-false}
use Rattle.html_text.specs.Escaped.{IsNoMark, IsOnlyText, escaped, escaped_byte}

no_mark : (byte : ℕ) → eqb byte 60 ≡ false → eqb byte 62 ≡ false → eqb byte 34 ≡ false → eqb byte 39 ≡ false → IsNoMark byte
no_mark byte lt gt double single = (eqb-false byte 60 lt, eqb-false byte 62 gt, eqb-false byte 34 double, eqb-false byte 39 single)

plain : (byte : ℕ) (behind : List ℕ) → eqb byte 38 ≡ false → eqb byte 60 ≡ false → eqb byte 62 ≡ false → eqb byte 34 ≡ false → eqb byte 39 ≡ false → IsOnlyText behind → IsOnlyText (byte ∷ behind)
plain byte behind amp lt gt double single rest = (no_mark byte lt gt double single, (λ is. absurd (eqb-false byte 38 amp is)), rest)

-- the spellings

amp : (behind : List ℕ) → IsOnlyText behind → IsOnlyText (codes "&amp;" ++ behind)
amp behind rest = (no_mark 38 refl refl refl refl, (λ is. refl), plain 97 (109 ∷ 112 ∷ 59 ∷ behind) refl refl refl refl refl (plain 109 (112 ∷ 59 ∷ behind) refl refl refl refl refl (plain 112 (59 ∷ behind) refl refl refl refl refl (plain 59 behind refl refl refl refl refl rest))))

lt : (behind : List ℕ) → IsOnlyText behind → IsOnlyText (codes "&lt;" ++ behind)
lt behind rest = (no_mark 38 refl refl refl refl, (λ is. refl), plain 108 (116 ∷ 59 ∷ behind) refl refl refl refl refl (plain 116 (59 ∷ behind) refl refl refl refl refl (plain 59 behind refl refl refl refl refl rest)))

gt : (behind : List ℕ) → IsOnlyText behind → IsOnlyText (codes "&gt;" ++ behind)
gt behind rest = (no_mark 38 refl refl refl refl, (λ is. refl), plain 103 (116 ∷ 59 ∷ behind) refl refl refl refl refl (plain 116 (59 ∷ behind) refl refl refl refl refl (plain 59 behind refl refl refl refl refl rest)))

quot : (behind : List ℕ) → IsOnlyText behind → IsOnlyText (codes "&quot;" ++ behind)
quot behind rest = (no_mark 38 refl refl refl refl, (λ is. refl), plain 113 (117 ∷ 111 ∷ 116 ∷ 59 ∷ behind) refl refl refl refl refl (plain 117 (111 ∷ 116 ∷ 59 ∷ behind) refl refl refl refl refl (plain 111 (116 ∷ 59 ∷ behind) refl refl refl refl refl (plain 116 (59 ∷ behind) refl refl refl refl refl (plain 59 behind refl refl refl refl refl rest)))))

apostrophe : (behind : List ℕ) → IsOnlyText behind → IsOnlyText (codes "&#39;" ++ behind)
apostrophe behind rest = (no_mark 38 refl refl refl refl, (λ is. refl), plain 35 (51 ∷ 57 ∷ 59 ∷ behind) refl refl refl refl refl (plain 51 (57 ∷ 59 ∷ behind) refl refl refl refl refl (plain 57 (59 ∷ behind) refl refl refl refl refl (plain 59 behind refl refl refl refl refl rest))))

-- one byte more, by the tests that it passes
byte_first : (byte : ℕ) (behind : List ℕ) (a b c d e : Bool) → eqb byte 38 ≡ a → eqb byte 60 ≡ b → eqb byte 62 ≡ c → eqb byte 34 ≡ d → eqb byte 39 ≡ e → IsOnlyText behind
    → IsOnlyText (cond a (codes "&amp;") (cond b (codes "&lt;") (cond c (codes "&gt;") (cond d (codes "&quot;") (cond e (codes "&#39;") (byte ∷ []))))) ++ behind)
byte_first byte behind true b c d e is_a is_b is_c is_d is_e rest = amp behind rest
byte_first byte behind false true c d e is_a is_b is_c is_d is_e rest = lt behind rest
byte_first byte behind false false true d e is_a is_b is_c is_d is_e rest = gt behind rest
byte_first byte behind false false false true e is_a is_b is_c is_d is_e rest = quot behind rest
byte_first byte behind false false false false true is_a is_b is_c is_d is_e rest = apostrophe behind rest
byte_first byte behind false false false false false is_a is_b is_c is_d is_e rest = plain byte behind is_a is_b is_c is_d is_e rest

only_text : (text : List ℕ) → IsOnlyText (flat_map escaped_byte text)
only_text [] = tt
only_text (byte ∷ text) = byte_first byte (flat_map escaped_byte text) (eqb byte 38) (eqb byte 60) (eqb byte 62) (eqb byte 34) (eqb byte 39) refl refl refl refl refl (only_text text)

pub IsOnlyText-escaped : (text : List ℕ) → IsOnlyText (escaped text)
unfolding escaped
IsOnlyText-escaped text = only_text text
