-- Marks at the front of tokens.
use Rattle.std.specs.Prelude.{Bool, List, ◌∷◌, Option, Some, None, if◌then◌else◌}
use Rattle.std.specs.Str.{bytes_eq}
use Rattle.line_grammar.specs.Spelling.{mark_text}
use Rattle.line_grammar.specs.declared.tokens.Mark.{Mark}
use Rattle.line_grammar.specs.declared.tokens.Token.{Token}
use Rattle.line_grammar.specs.declared.tokens.Token.TheVariants.{Sign}

-- two marks are one where they are written alike
abbrev pub same_mark : Mark → Mark → Bool
same_mark left right = bytes_eq (mark_text left) (mark_text right)

-- what follows the mark at the front
abbrev pub after_mark : Mark → List Token → Option (List Token)
after_mark mark (Sign found ∷ rest) = if same_mark found mark then Some rest else None
after_mark mark _ = None
