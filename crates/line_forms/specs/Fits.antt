-- Whether a line has a form of its place, or where it leaves it; and how that is told.
use Rattle.std.specs.Prelude.{ℕ, ◌==◌, ◌&&◌, Bool, List, [], ◌++◌, length, drop, if◌then◌else◌, option_and_then, codes}
use Rattle.std.specs.List.{list_all}
use Rattle.std.specs.Option.{option_map_or}
use Rattle.line_grammar.specs.Leads.{are_tokens, given}
use Rattle.line_grammar.specs.Tokens.{line_tokens}
use Rattle.line_grammar.specs.declared.tokens.LineTokens.{LineTokens}
use Rattle.line_grammar.specs.declared.tokens.Token.{Token}
use Rattle.line_forms.specs.Forms.{first_word, form_named, form_words, pieces_of, words_told}
use Rattle.line_forms.specs.Going.{goes}
use Rattle.line_forms.specs.Marking.{mark_line}
use Rattle.line_forms.specs.Pieces.{may_lack}
use Rattle.line_forms.specs.declared.fit.Fit.{Fit}
use Rattle.line_forms.specs.declared.fit.Fit.TheVariants.{Leaves, Nowhere, Whole}
use Rattle.line_forms.specs.declared.form.Form.{Form}
use Rattle.line_forms.specs.declared.form.Form.TheVariants as form
use Rattle.line_forms.specs.declared.going.Gone.{Gone}
use Rattle.line_forms.specs.declared.place.Place.{Place}

-- how far the tokens of a line go along with a form; the first is its word
abbrev pub how_far : Form → List Token → Gone
how_far form tokens = goes 1 (pieces_of form) (drop 1 tokens)

-- all of the line are tokens, each went along, and nothing has to follow
abbrev pub is_whole : LineTokens → Gone → Bool
is_whole tokens gone = are_tokens tokens && (gone.passed == length (given tokens)) && list_all may_lack gone.left

abbrev pub fit_by : LineTokens → Form → Gone → Fit
fit_by tokens form gone = if is_whole tokens gone then Whole form else Leaves form gone.passed

abbrev pub fit_with : LineTokens → Form → Fit
fit_with tokens form = fit_by tokens form (how_far form (given tokens))

abbrev pub fit_of : Place → LineTokens → Fit
fit_of place tokens = option_map_or (fit_with tokens) (option_and_then (form_named place) (first_word (given tokens))) Nowhere

-- no form of the place has its first word; or it leaves the form behind so many tokens; or it has the form
abbrev pub fit_at : Place → List ℕ → Fit
fit_at place line = fit_of place (line_tokens line)

-- ---- how it is told

-- what a line lacks that has the form of a head
abbrev pub lack_words : Form → List ℕ
lack_words form.Table = codes "no attr line stands below it\n"
lack_words form.Master = codes "no attr line stands below it\n"
lack_words form.Cfd = codes "no row line stands below it\n"
lack_words form.Cind = codes "no row line stands below it\n"
lack_words other = []

abbrev pub leaves_text : ℕ → List ℕ → Form → ℕ → List ℕ
leaves_text number line form at = mark_line number at line ++ codes "such a line is: " ++ form_words form ++ codes "\n"

abbrev pub fit_text : Place → ℕ → List ℕ → Fit → List ℕ
fit_text place number line Nowhere = mark_line number 0 line ++ words_told place ++ codes "\n"
fit_text place number line (Leaves form at) = leaves_text number line form at
fit_text place number line (Whole form) = lack_words form

-- what is told below a line of that number that is no line at its place
abbrev pub told_below : Place → ℕ → List ℕ → List ℕ
told_below place number line = fit_text place number line (fit_at place line)
