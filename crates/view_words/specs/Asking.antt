-- What the words of a call of `cfdview` ask for.
use Rattle.std.specs.Prelude.{ℕ, Bool, true, false, not, ◌&&◌, ◌||◌, List, [], ◌∷◌, length, nat_lt, ◌==◌, Option, None, Some, is_some, slice_get, codes, count_by, if◌then◌else◌}
use Rattle.std.specs.List.{list_all, list_any, slice_split}
use Rattle.std.specs.Str.{bytes_eq}
use Rattle.call_words.specs.Words.{number_within}
use Rattle.view_options.specs.declared.options.ListOptions.{ListOptions}
use Rattle.view_options.specs.declared.options.PageOptions.{PageOptions}
use Rattle.view_options.specs.declared.options.RowOptions.{RowOptions}
use Rattle.view_words.specs.Words.{are_words, is_flag, left_over, values}
use Rattle.view_words.specs.declared.reading.Given.{Given}
use Rattle.view_words.specs.declared.form.Asked.{Asked}
use Rattle.view_words.specs.declared.form.Asked.TheVariants as asked
use Rattle.view_words.specs.declared.form.Form.{Form}
use Rattle.view_words.specs.declared.form.Form.TheVariants as form

-- what the words behind the first one give
abbrev pub given_of : List ℕ → List (List ℕ) → Given
given_of first words = record {
  left = left_over first words;
  tables = values (codes "--table") first words;
  rules = values (codes "--rule") first words;
  firsts = values (codes "--first") first words;
  vouches = values (codes "--vouch") first words;
  loaded = count_by is_flag words;
}

-- ---- the values of options

abbrev pub is_none_of : List (List ℕ) → Bool
is_none_of texts = length texts == 0

abbrev pub is_one_at_most : List (List ℕ) → Bool
is_one_at_most texts = nat_lt (length texts) 2

-- how many are to be told
abbrev pub first_in : List ℕ → Option ℕ
first_in word = number_within 1 500000 word

-- by which id a row is told
abbrev pub row_in : List ℕ → Option ℕ
row_in word = number_within 1 18446744073709551615 word

abbrev pub first_of : Option (List ℕ) → Option ℕ
first_of None = None
first_of (Some word) = first_in word

abbrev pub is_first : Option (List ℕ) → Bool
is_first None = true
is_first (Some word) = is_some (first_in word)

-- names with commas between them, none of which is empty
abbrev pub is_comma : ℕ → Bool
is_comma b = b == 44

abbrev pub names_in : Option (List ℕ) → List (List ℕ)
names_in None = []
names_in (Some list) = slice_split is_comma list

abbrev pub is_name : List ℕ → Bool
is_name name = not (length name == 0)

-- ---- forms, by the words that are left over

abbrev pub fits_list : Given → Bool
fits_list given =
    is_one_at_most given.tables && (is_one_at_most given.rules && (is_one_at_most given.firsts && (is_first (slice_get given.firsts 0) && (is_none_of given.vouches && nat_lt given.loaded 2))))

abbrev pub list_of : Given → List ℕ → ListOptions
list_of given project = record {
  project = project;
  table = slice_get given.tables 0;
  rule = slice_get given.rules 0;
  first = first_of (slice_get given.firsts 0);
  loaded = given.loaded == 1;
}

abbrev pub list_form : Given → List (List ℕ) → Option Form
list_form given [] = None
list_form given (project ∷ []) = if fits_list given then Some (form.List (list_of given project)) else None
list_form given (project ∷ other ∷ others) = None

abbrev pub fits_row : Given → Bool
fits_row given =
    is_none_of given.tables && (is_none_of given.rules && (is_none_of given.firsts && (is_one_at_most given.vouches && (list_all is_name (names_in (slice_get given.vouches 0)) && nat_lt given.loaded 2))))

abbrev pub row_of : Given → List ℕ → List ℕ → ℕ → RowOptions
row_of given project table row = record {
  project = project;
  table = table;
  row = row;
  vouch = names_in (slice_get given.vouches 0);
  loaded = given.loaded == 1;
}

abbrev pub numbered_row : Given → List ℕ → List ℕ → Option ℕ → Option Form
numbered_row given project table None = None
numbered_row given project table (Some row) = if fits_row given then Some (form.Row (row_of given project table row)) else None

abbrev pub row_form : Given → List (List ℕ) → Option Form
row_form given [] = None
row_form given (project ∷ []) = None
row_form given (project ∷ table ∷ []) = None
row_form given (project ∷ table ∷ row ∷ []) = numbered_row given project table (row_in row)
row_form given (project ∷ table ∷ row ∷ other ∷ others) = None

-- without options
abbrev pub is_bare : Given → Bool
is_bare given = is_none_of given.tables && (is_none_of given.rules && (is_none_of given.firsts && (is_none_of given.vouches && given.loaded == 0)))

abbrev pub check_form : Given → List (List ℕ) → Option Form
check_form given [] = None
check_form given (project ∷ []) = if is_bare given then Some (form.Check project) else None
check_form given (project ∷ other ∷ others) = None

abbrev pub schema_form : Given → List (List ℕ) → Option Form
schema_form given [] = None
schema_form given (file ∷ files) = if is_bare given then Some (form.Schema (file ∷ files)) else None

abbrev pub fits_page : Given → Bool
fits_page given =
    is_none_of given.tables && (is_none_of given.rules && (is_one_at_most given.firsts && (is_first (slice_get given.firsts 0) && (is_none_of given.vouches && nat_lt given.loaded 2))))

abbrev pub page_of : Given → List ℕ → PageOptions
page_of given project = record {
  project = project;
  first = first_of (slice_get given.firsts 0);
  loaded = given.loaded == 1;
}

abbrev pub page_form : Given → List (List ℕ) → Option Form
page_form given [] = None
page_form given (project ∷ []) = if fits_page given then Some (form.Page (page_of given project)) else None
page_form given (project ∷ other ∷ others) = None

-- ---- forms, by their names

abbrev pub named_form : List ℕ → Given → Option Form
named_form name given =
    if bytes_eq name (codes "list") then list_form given given.left
    else if bytes_eq name (codes "row") then row_form given given.left
    else if bytes_eq name (codes "check") then check_form given given.left
    else if bytes_eq name (codes "schema") then schema_form given given.left
    else if bytes_eq name (codes "page") then page_form given given.left
    else None

-- the form of the words, where they have one
abbrev pub form_of : List (List ℕ) → Option Form
form_of [] = None
form_of (name ∷ words) = if are_words name words then named_form name (given_of name words) else None

-- ---- help

abbrev pub is_help : List ℕ → Bool
is_help word = bytes_eq word (codes "--help") || bytes_eq word (codes "-h")

abbrev pub is_version : List ℕ → Bool
is_version word = bytes_eq word (codes "--version") || bytes_eq word (codes "-V")

abbrev pub is_form : List ℕ → Bool
is_form word = bytes_eq word (codes "list") || (bytes_eq word (codes "row") || (bytes_eq word (codes "check") || (bytes_eq word (codes "schema") || bytes_eq word (codes "page"))))

-- `help` stands alone, or before the name of a form
abbrev pub are_topic : List (List ℕ) → Bool
are_topic [] = true
are_topic (topic ∷ []) = is_form topic
are_topic (topic ∷ other ∷ others) = false

abbrev pub is_helping : List ℕ → List (List ℕ) → Bool
is_helping word words = is_version word || (bytes_eq word (codes "help") && are_topic words)

-- Words ask for help, or for the version, where one of them is `--help` or `-h`, or by the first one.
abbrev pub asks_help : List (List ℕ) → Bool
asks_help [] = false
asks_help (word ∷ words) = list_any is_help (word ∷ words) || is_helping word words

-- ---- what the words ask for

abbrev pub asked_form : Option Form → Asked
asked_form None = asked.Nothing
asked_form (Some form) = asked.Form form

abbrev pub asked_of : List (List ℕ) → Asked
asked_of words = if asks_help words then asked.Help else asked_form (form_of words)
