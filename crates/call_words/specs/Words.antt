-- The words of a call, and which of them have a form.
use Rattle.std.specs.Prelude.{ℕ, ◌≤◌, Bool, false, not, ◌&&◌, List, [], ◌∷◌, Option, None, Some, IsSome, option_and_then, option_map, codes, if◌then◌else◌, nat_le, ◌==◌}
use Rattle.std.specs.Char.{is_ascii_digit}
use Rattle.std.specs.List.{list_all}
use Rattle.std.specs.Str.{bytes_eq}
use Rattle.std.specs.Str.Parse.{digits_value}
use Rattle.call_words.specs.declared.form.Form.{Form}
use Rattle.call_words.specs.declared.form.Form.TheVariants.{Check, Consistent, Cover, Desk, Find, Generate, Implies, Report, Run}

-- a word that isn't empty and doesn't begin with `-`
abbrev pub is_plain : List ℕ → Bool
is_plain [] = false
is_plain (b ∷ bytes) = not (b == 45)

-- ---- numbers

-- a word of digits, without a leading zero but for `0` itself
abbrev pub is_number : List ℕ → Bool
is_number [] = false
is_number (b ∷ []) = is_ascii_digit b
is_number (b ∷ c ∷ bytes) = not (b == 48) && list_all is_ascii_digit (b ∷ c ∷ bytes)

-- the number that a word spells, where it isn't below the one and not above the other
abbrev pub number_within : ℕ → ℕ → List ℕ → Option ℕ
number_within least most word =
    let number = digits_value 10 word in
    if is_number word && (nat_le least number && nat_le number most) then Some number else None

-- how many leaves a search may make
abbrev pub budget_in : List ℕ → Option ℕ
budget_in word = number_within 1 1000000 word

-- off which number a project is drawn
abbrev pub seed_in : List ℕ → Option ℕ
seed_in word = number_within 0 999999999 word

-- how many attributes may stand on the left of what is found
abbrev pub width_in : List ℕ → Option ℕ
width_in word = number_within 1 3 word

-- how many rows must match a constant dependency that is found
abbrev pub support_in : List ℕ → Option ℕ
support_in word = number_within 1 500000 word

-- ---- forms

-- a question about the rules of a project, by its name
abbrev pub question_form : List ℕ → List ℕ → List ℕ → ℕ → Option Form
question_form name project asked budget =
    if bytes_eq name (codes "consistent") then Some (Consistent project asked budget)
    else if bytes_eq name (codes "implies") then Some (Implies project asked budget)
    else if bytes_eq name (codes "cover") then Some (Cover project asked budget)
    else None

-- a project that is drawn off a number
abbrev pub generate_form : List ℕ → Option Form
generate_form word = option_map Generate (seed_in word)

-- a project with one more file of it
abbrev pub file_form : List ℕ → List ℕ → List ℕ → Option Form
file_form name project file =
    if bytes_eq name (codes "check") then Some (Check project file)
    else if bytes_eq name (codes "desk") then Some (Desk project file)
    else None

-- what holds in a table of a project, by its name
abbrev pub find_form : List ℕ → List ℕ → List ℕ → ℕ → ℕ → Option Form
find_form name project table width support = if bytes_eq name (codes "find") then Some (Find project table width support) else None

-- the form of that name with these words behind it
abbrev pub named_form : List ℕ → List (List ℕ) → Option Form
named_form name (word ∷ []) =
    if bytes_eq name (codes "run") then Some (Run word)
    else if bytes_eq name (codes "report") then Some (Report word)
    else if bytes_eq name (codes "generate") then generate_form word
    else None
named_form name (project ∷ file ∷ []) = file_form name project file
named_form name (project ∷ asked ∷ budget ∷ []) = option_and_then (question_form name project asked) (budget_in budget)
named_form name (project ∷ table ∷ width ∷ support ∷ []) =
    option_and_then (λ attrs. option_and_then (find_form name project table attrs) (support_in support)) (width_in width)
named_form name words = None

-- the form of the words, where they have one
abbrev pub form_of : List (List ℕ) → Option Form
form_of [] = None
form_of (name ∷ words) = if list_all is_plain words then named_form name words else None

abbrev pub HasForm : List (List ℕ) → Type 0
HasForm words = IsSome (form_of words)

-- a number of leaves that a search may be given
pub record IsBudget (leaves : ℕ) : Type 0 where
  pub some : 1 ≤ leaves
  pub within : leaves ≤ 1000000

-- a width and a support that what is found may have
pub record IsReach (width support : ℕ) : Type 0 where
  pub some : 1 ≤ width
  pub narrow : width ≤ 3
  pub matched : 1 ≤ support
  pub within : support ≤ 500000

-- the numbers of a form that has some are such numbers
abbrev pub IsFit : Form → Type 0
IsFit (Run project) = Unit {0}
IsFit (Report project) = Unit {0}
IsFit (Consistent project table budget) = IsBudget budget
IsFit (Implies project dep budget) = IsBudget budget
IsFit (Cover project table budget) = IsBudget budget
IsFit (Check project cert) = Unit {0}
IsFit (Find project table width support) = IsReach width support
IsFit (Desk project events) = Unit {0}
IsFit (Generate seed) = Unit {0}
