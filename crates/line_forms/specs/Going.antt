-- How far tokens go along with pieces.
use Rattle.std.specs.Prelude.{ℕ, ◌+◌, List, [], ◌∷◌, ◌++◌, if◌then◌else◌, Option, None, Some}
use Rattle.std.specs.Option.{option_map_or}
use Rattle.line_grammar.specs.declared.tokens.Token.{Token}
use Rattle.line_forms.specs.Pieces.{begins, behind, may_lack}
use Rattle.line_forms.specs.declared.going.Gone.{Gone}
use Rattle.line_forms.specs.declared.pieces.Piece.{Piece}

-- what may stand behind the token, where these pieces may stand from it on: the first that begins with it, past none that
-- has to stand
abbrev pub past : Token → List Piece → Option (List Piece)
past token [] = None
past token (piece ∷ rest) = if begins piece token then Some (behind piece token ++ rest) else if may_lack piece then past token rest else None

-- behind so many tokens, with these pieces from there on: past each token up to the first that none of them allows
abbrev pub goes : ℕ → List Piece → List Token → Gone
goes passed left [] = record { passed = passed; left = left }
goes passed left (token ∷ others) = option_map_or (λ next. goes (passed + 1) next others) (past token left) (record { passed = passed; left = left })
