-- The lines of the fates of the pieces of a table.
use Rattle.std.specs.Prelude.{◌≡◌, ℕ, ◌+◌, List, [], ◌∷◌, ◌++◌, length, codes}
use Rattle.schema_core.specs.Lookups.{attrs_at}
use Rattle.line_grammar.specs.Spelling.{file_text, mark, name, number}
use Rattle.schema_core.specs.declared.schema.Schema.{Schema}
use Rattle.line_grammar.specs.declared.tokens.Mark.TheVariants.{Dot}
use Rattle.line_grammar.specs.declared.writing.Part.{Part}
use Rattle.line_grammar.specs.declared.writing.Part.TheVariants.{Space}
use Rattle.case_tree.specs.declared.tree.Node.{Node}
use Rattle.rule_model.specs.declared.dep.Dep.{Dep}
use Rattle.rule_parser.specs.RuleText.{attr_name}
use Rattle.cert_text.specs.CertText.{texts_line}
use Rattle.cert_check.specs.Made.{IsTreeText}
use Rattle.cert_check.specs.Shown.{asks_from}
use Rattle.rule_cover.specs.declared.fates.Fate.{Fate}
use Rattle.rule_cover.specs.declared.fates.Fate.TheVariants.{Dropped, Kept, Spent}
use Rattle.rule_cover.specs.declared.fates.Piece.{Piece}
use Rattle.rule_cover.specs.Fates.{kept_piece, left}
use Rattle.rule_cover.specs.Pieces.{deps_in, table_pieces}

-- ` RULE.K`, the tableau rows counted from 1
abbrev pub place_parts : List ℕ → ℕ → List Part
place_parts rule row = Space ∷ name rule ∷ mark Dot ∷ number (row + 1) ∷ []

-- `WORD RULE.K ATTR`
abbrev pub head_parts : Schema → List ℕ → Piece → Dep → List Part
head_parts schema word place piece =
    name word ∷ (place_parts piece.name place.row ++ Space ∷ name (attr_name (attrs_at schema piece.table) piece.rule.a) ∷ [])

-- a head, and the nodes of a tree by their names in the question of the piece
abbrev pub IsTreeFate : Schema → List ℕ → List Dep → Dep → Piece → List Node → List ℕ → Type 0
IsTreeFate schema word others piece place tree text =
    (nodes : List ℕ) × IsTreeText (asks_from schema others piece).names tree nodes × (text ≡ file_text (head_parts schema word place piece ∷ []) ++ nodes)

-- the lines of a piece's fate, the others being those of its question
abbrev pub IsFateText : Schema → List Dep → Dep → Piece × Fate → List ℕ → Type 0
IsFateText schema others piece (place, Dropped tree) text = IsTreeFate schema (codes "dropped") others piece place tree text
IsFateText schema others piece (place, Kept one other) text =
    text ≡ file_text (head_parts schema (codes "kept") place piece ∷ texts_line (codes "counter") one ∷ texts_line (codes "and") other ∷ [])
IsFateText schema others piece (place, Spent tree) text = IsTreeFate schema (codes "spent") others piece place tree text

-- those of each, one after the other; before: the pieces that stay before these
abbrev pub AreFateTexts : Schema → List Dep → List Dep → List (Piece × Fate) → List ℕ → Type 0
AreFateTexts schema before [] [] text = text ≡ []
AreFateTexts schema before [] (fate ∷ fates) text = ⊥
AreFateTexts schema before (piece ∷ after) [] text = ⊥
AreFateTexts schema before (piece ∷ after) (fate ∷ fates) text =
    (own : List ℕ) × (rest : List ℕ) × IsFateText schema (before ++ after) piece fate own × AreFateTexts schema (before ++ kept_piece piece fate) after fates rest × (text ≡ own ++ rest)

-- `cover N of M`: how many pieces stay, and how many there are
abbrev pub last_parts : ℕ → ℕ → List Part
last_parts stay all = name (codes "cover") ∷ Space ∷ number stay ∷ Space ∷ name (codes "of") ∷ Space ∷ number all ∷ []

-- the lines of the fates of pieces, and the last one
abbrev pub IsTextOf : Schema → List Dep → List (Piece × Fate) → List ℕ → Type 0
IsTextOf schema pieces fates text =
    (lines : List ℕ) × AreFateTexts schema [] pieces fates lines × (text ≡ lines ++ file_text (last_parts (length (left pieces fates)) (length pieces) ∷ []))

-- the text of the fates of the pieces of a table
abbrev pub IsCoverText : Schema → List Dep → ℕ → List (Piece × Fate) → List ℕ → Type 0
IsCoverText schema deps table fates text = IsTextOf schema (deps_in (table_pieces table deps)) fates text

-- one of some texts was appended
abbrev pub AppendsSome : (List ℕ → Type 0) → List ℕ → List ℕ → Type 0
AppendsSome IsText before after = (text : List ℕ) × IsText text × (after ≡ before ++ text)
