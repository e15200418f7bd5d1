-- The forms of lines, by their first word and by what stands above them, each with the pieces behind its first word, and
-- as it is told.
use Rattle.std.specs.Prelude.{ℕ, ◌-◌, ◌||◌, List, [], ◌∷◌, find, take, slice_get, if◌then◌else◌, Option, None, Some, option_and_then, codes}
use Rattle.std.specs.Str.{bytes_eq}
use Rattle.line_grammar.specs.Leads.{given}
use Rattle.line_grammar.specs.Lines.{lines}
use Rattle.line_grammar.specs.Tokens.{line_tokens}
use Rattle.line_grammar.specs.declared.tokens.Mark.TheVariants.{Arrow, Bars, CloseBracket, Colon, OpenBracket, Semicolon}
use Rattle.line_grammar.specs.declared.tokens.Token.{Token}
use Rattle.line_grammar.specs.declared.tokens.Token.TheVariants as token
use Rattle.line_forms.specs.declared.form.Form.{Form}
use Rattle.line_forms.specs.declared.form.Form.TheVariants as form
use Rattle.line_forms.specs.declared.pieces.Item.TheVariants as item
use Rattle.line_forms.specs.declared.pieces.Piece.{Piece}
use Rattle.line_forms.specs.declared.pieces.Piece.TheVariants.{Any, Domain, More, One, Sign, When, Word}
use Rattle.line_forms.specs.declared.pieces.Word.TheVariants as word
use Rattle.line_forms.specs.declared.place.Place.{Place}
use Rattle.line_forms.specs.declared.place.Place.TheVariants as place

-- ---- behind the first word

-- [LIST(ATTR); LIST(ATTR)]
abbrev pub side_pieces : List Piece → List Piece
side_pieces rest =
    One item.Name ∷ Sign OpenBracket ∷ Any item.Name ∷ Sign Semicolon ∷ Any item.Name ∷ Sign CloseBracket ∷ rest

abbrev pub pieces_of : Form → List Piece
pieces_of form.Table = One item.Name ∷ One item.File ∷ []
pieces_of form.Master = One item.Name ∷ One item.File ∷ []
pieces_of form.Attr = One item.Name ∷ Domain ∷ []
pieces_of form.Rules = One item.File ∷ []
pieces_of form.Script = One item.File ∷ []
pieces_of form.Cfd =
    One item.Name ∷ One item.Name ∷ Sign Colon ∷ Sign OpenBracket ∷ Any item.Name ∷ Sign CloseBracket
    ∷ Sign Arrow ∷ Sign OpenBracket ∷ One item.Name ∷ More item.Name ∷ Sign CloseBracket ∷ []
pieces_of form.Cind = One item.Name ∷ side_pieces (Word word.In ∷ side_pieces [])
pieces_of form.Edit = One item.Name ∷ One item.Name ∷ Word word.Using ∷ One item.Name ∷ Sign Colon ∷ One item.Columns ∷ When ∷ []
pieces_of form.CfdRow = Any item.Cell ∷ Sign Bars ∷ One item.Cell ∷ More item.Cell ∷ []
pieces_of form.CindRow = Any item.Value ∷ Sign Bars ∷ Any item.Value ∷ []
pieces_of form.Insert = One item.Name ∷ One item.Text ∷ More item.Text ∷ []
pieces_of form.Set = One item.Name ∷ One item.Id ∷ One item.Name ∷ One item.Text ∷ []
pieces_of form.Delete = One item.Name ∷ One item.Id ∷ []
pieces_of form.Fix = One item.Name ∷ One item.Id ∷ Sign OpenBracket ∷ Any item.Name ∷ Sign CloseBracket ∷ []
pieces_of form.Undo = []
pieces_of form.Redo = []
pieces_of form.List = []
pieces_of form.Count = []
pieces_of form.Explain = One item.Name ∷ One item.Id ∷ []
pieces_of form.Export = One item.Name ∷ []

-- as it is told
abbrev pub form_words : Form → List ℕ
form_words form.Table = codes "table NAME FILE"
form_words form.Master = codes "master NAME FILE"
form_words form.Attr = codes "attr NAME, or: attr NAME in VALUE, VALUE, .."
form_words form.Rules = codes "rules FILE"
form_words form.Script = codes "script FILE"
form_words form.Cfd = codes "cfd NAME TABLE: [ATTR, ..] -> [ATTR, ..]"
form_words form.Cind = codes "cind NAME TABLE[ATTR, ..; ATTR, ..] in TABLE[ATTR, ..; ATTR, ..]"
form_words form.Edit = codes "edit NAME TABLE using TABLE: ATTR=ATTR, .. gives ATTR=ATTR when PATTERN, .."
form_words form.CfdRow = codes "row CELL, .. || CELL, .."
form_words form.CindRow = codes "row VALUE, .. || VALUE, .."
form_words form.Insert = codes "insert TABLE TEXT, TEXT, .."
form_words form.Set = codes "set TABLE ID ATTR TEXT"
form_words form.Delete = codes "delete TABLE ID"
form_words form.Fix = codes "fix TABLE ID [ATTR, ..]"
form_words form.Undo = codes "undo"
form_words form.Redo = codes "redo"
form_words form.List = codes "list"
form_words form.Count = codes "count"
form_words form.Explain = codes "explain TABLE ID"
form_words form.Export = codes "export TABLE"

-- ---- by the first word

-- the word with which a form begins
abbrev pub leading : Form → List ℕ
leading form.Table = codes "table"
leading form.Master = codes "master"
leading form.Attr = codes "attr"
leading form.Rules = codes "rules"
leading form.Script = codes "script"
leading form.Cfd = codes "cfd"
leading form.Cind = codes "cind"
leading form.Edit = codes "edit"
leading form.CfdRow = codes "row"
leading form.CindRow = codes "row"
leading form.Insert = codes "insert"
leading form.Set = codes "set"
leading form.Delete = codes "delete"
leading form.Fix = codes "fix"
leading form.Undo = codes "undo"
leading form.Redo = codes "redo"
leading form.List = codes "list"
leading form.Count = codes "count"
leading form.Explain = codes "explain"
leading form.Export = codes "export"

-- the forms of the lines at a place
abbrev pub forms_at : Place → List Form
forms_at place.Schema = form.Table ∷ form.Master ∷ form.Rules ∷ form.Script ∷ []
forms_at place.BelowTable = form.Table ∷ form.Master ∷ form.Attr ∷ form.Rules ∷ form.Script ∷ []
forms_at place.Rules = form.Cfd ∷ form.Cind ∷ form.Edit ∷ []
forms_at place.BelowCfd = form.Cfd ∷ form.CfdRow ∷ form.Cind ∷ form.Edit ∷ []
forms_at place.BelowCind = form.Cfd ∷ form.CindRow ∷ form.Cind ∷ form.Edit ∷ []
forms_at place.Script = form.Insert ∷ form.Set ∷ form.Delete ∷ form.Fix ∷ form.Undo ∷ form.Redo ∷ form.List ∷ form.Count ∷ form.Explain ∷ form.Export ∷ []

-- the form of lines with that first word at that place
abbrev pub form_named : Place → List ℕ → Option Form
form_named place word = find (λ form. bytes_eq word (leading form)) (forms_at place)

-- with which words a line begins there
abbrev pub words_told : Place → List ℕ
words_told place.Schema = codes "a line begins here with table, master, rules or script"
words_told place.BelowTable = codes "a line begins with table, master, attr, rules or script"
words_told place.Rules = codes "a line begins here with cfd, cind or edit"
words_told place.BelowCfd = codes "a line begins with cfd, row, cind or edit"
words_told place.BelowCind = codes "a line begins with cfd, row, cind or edit"
words_told place.Script = codes "a line begins with insert, set, delete, fix, undo, redo, list, count, explain or export"

-- ---- by what stands above

abbrev pub word_in : Token → Option (List ℕ)
word_in (token.Name word) = Some word
word_in (token.Number n) = None
word_in (token.Quoted text) = None
word_in (token.Sign mark) = None

abbrev pub first_word : List Token → Option (List ℕ)
first_word tokens = option_and_then word_in (slice_get tokens 0)

-- the place below a head with that first word; a line that is no head changes nothing
abbrev pub below : Place → List ℕ → Place
below start word =
    if bytes_eq word (codes "table") || bytes_eq word (codes "master") then place.BelowTable
    else if bytes_eq word (codes "rules") || bytes_eq word (codes "script") then place.Schema
    else if bytes_eq word (codes "cfd") then place.BelowCfd
    else if bytes_eq word (codes "cind") then place.BelowCind
    else if bytes_eq word (codes "edit") then place.Rules
    else start

abbrev pub below_word : Place → Option (List ℕ) → Place
below_word place None = place
below_word place (Some word) = below place word

abbrev pub below_line : Place → List ℕ → Place
below_line place line = below_word place (first_word (given (line_tokens line)))

abbrev pub below_lines : Place → List (List ℕ) → Place
below_lines place [] = place
below_lines place (line ∷ others) = below_lines (below_line place line) others

-- the place of the line of that number, where the first line stands at the place `start`
abbrev pub place_at : Place → ℕ → List ℕ → Place
place_at start number bytes = below_lines start (take (number - 1) (lines bytes))
