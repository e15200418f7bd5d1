-- Files cut into lines and groups from the front.
use Rattle.std.proofs.Common.{◌≡◌, ℕ, ◌+◌, Bool, true, false, List, [], ◌∷◌, ◌++◌, length, Option, Some, None, refl, ap, sym, ◌∙◌, arith}
use Rattle.std.specs.Prelude.{Ok, Err, IfSome, IfNone, option_map}
use Rattle.std.specs.List.{AllByRecursion}
use Rattle.std.specs.Option.{option_to_list}
use Rattle.std.specs.Result.{result_err}
use Rattle.std.proofs.lemmas.Option.{none-some, same_Some}
use Rattle.line_grammar.specs.Faults.{Causes, Reading, Faulty, ◌>>=◌}
use Rattle.line_grammar.specs.FileLines.{no_lines, content_of, lines_from, file_lines, begins_with}
use Rattle.line_grammar.specs.Lines.{lines}
use Rattle.line_grammar.specs.Tokens.{line_tokens}
use Rattle.line_grammar.specs.declared.tokens.LineTokens.{LineTokens}
use Rattle.line_grammar.specs.Contents.{Content}
use Rattle.line_grammar.specs.Groups.{Cut, in_front, cut, in_turn, read_cut, read_groups}
use Rattle.line_grammar.specs.declared.line.Line.{Line}
use Rattle.line_grammar.specs.declared.group.Group.{Group}

-- no member stands in front of the first head
pub no_strays : (belongs : Line → Bool) (next : Option Line) (lines : List Line) → IfSome next (λ line. belongs line ≡ false) → IfNone next (lines ≡ []) → (cut belongs (option_to_list next ++ lines)).0 ≡ []
no_strays belongs None lines head last = ap (λ (ls : List Line). (cut belongs ls).0) last
no_strays belongs (Some line) lines head last = ap (λ (b : Bool). (in_front b line (cut belongs lines)).0) head

-- members at the front come first
pub cut-members : (belongs : Line → Bool) (members others : List Line) → AllByRecursion (λ line. belongs line ≡ true) members → (cut belongs others).0 ≡ [] → cut belongs (members ++ others) ≡ (members, (cut belongs others).1)
cut-members belongs [] others all none = ap (λ (strays : List Line). (strays, (cut belongs others).1)) none
cut-members belongs (line ∷ members) others all none =
    ap (λ (b : Bool). in_front b line (cut belongs (members ++ others))) all.0
    ∙ ap (in_front true line) (cut-members belongs members others all.1 none)

-- a head with its members is the first group
pub cut-group : (belongs : Line → Bool) (head : Line) (members others : List Line) → belongs head ≡ false → AllByRecursion (λ line. belongs line ≡ true) members → (cut belongs others).0 ≡ []
    → (cut belongs (head ∷ (members ++ others))).1 ≡ record { head = head; members = members } ∷ (cut belongs others).1
cut-group belongs head members others is_head all none =
    ap (λ (b : Bool). (in_front b head (cut belongs (members ++ others))).1) is_head
    ∙ ap (λ (pieces : Cut). (in_front false head pieces).1) (cut-members belongs members others all none)

-- ---- the walk

module _ {S X C : Type 0} (add : S → X → Reading S C) where
  pub in_turn-step : (state next : S) (x : X) (xs : List X) → add state x ≡ Ok next → in_turn add state (x ∷ xs) ≡ in_turn add next xs
  in_turn-step state next x xs e = ap (λ (r : Reading S C). r >>= λ s. in_turn add s xs) e

  pub in_turn-fault : (state : S) (x : X) (xs : List X) (fault : Faulty C) → add state x ≡ Err fault → in_turn add state (x ∷ xs) ≡ Err fault
  in_turn-fault state x xs fault e = ap (λ (r : Reading S C). r >>= λ s. in_turn add s xs) e

module _ {S C : Type 0} (causes : Causes C) where
  pub no_lines-fault : (lines : List Line) (state : S) (fault : Faulty C) → no_lines causes lines (tt {0}) ≡ Err fault → no_lines causes lines state ≡ Err fault
  no_lines-fault [] state fault e = absurd (none-some _ (ap result_err e))
  no_lines-fault (line ∷ lines) state fault e = ap (λ (f : Faulty C). Err f) (same_Some _ _ (ap result_err e))

  pub strays-fault : (add : S → Group → Reading S C) (state : S) (pieces : Cut) (fault : Faulty C) → no_lines causes pieces.0 (tt {0}) ≡ Err fault → read_cut causes add state pieces ≡ Err fault
  strays-fault add state pieces fault e = ap (λ (r : Reading S C). r >>= λ s. in_turn add s pieces.1) (no_lines-fault pieces.0 state fault e)

  pub strays-none : (add : S → Group → Reading S C) (state : S) (pieces : Cut) → pieces.0 ≡ [] → read_cut causes add state pieces ≡ in_turn add state pieces.1
  strays-none add state pieces none = ap (λ (strays : List Line). no_lines causes strays state >>= λ s. in_turn add s pieces.1) none

-- ---- files

module _ {S C : Type 0} (causes : Causes C) (member : List ℕ) (add : S → Group → Reading S C) (state : S) (bytes : List ℕ) (members rest : List Line) where
  -- members in front of any head
  abbrev pub StraysAre : Type 0
  StraysAre = (file_lines bytes ≡ members ++ rest) × AllByRecursion (λ line. begins_with member line ≡ true) members × ((cut (begins_with member) rest).0 ≡ [])

  file-cut : StraysAre → cut (begins_with member) (file_lines bytes) ≡ (members, (cut (begins_with member) rest).1)
  file-cut are = ap (cut (begins_with member)) are.0 ∙ cut-members (begins_with member) members rest are.1 are.2

  pub read_groups-stray : (fault : Faulty C) → StraysAre → no_lines causes members (tt {0}) ≡ Err fault → read_groups causes member add state bytes ≡ Err fault
  unfolding read_groups
  read_groups-stray fault are e = ap (read_cut causes add state) (file-cut are) ∙ strays-fault causes add state (members, (cut (begins_with member) rest).1) fault e

  pub read_groups-begun : StraysAre → members ≡ [] → read_groups causes member add state bytes ≡ in_turn add state (cut (begins_with member) rest).1
  unfolding read_groups
  read_groups-begun are none = ap (read_cut causes add state) (file-cut are) ∙ strays-none causes add state (members, (cut (begins_with member) rest).1) none

-- a head, its members and what is behind them, where the lines that are left hold these in front
module _ {S C : Type 0} (member : List ℕ) (add : S → Group → Reading S C) (state : S) (head : Line) (members : List Line) (next : Option Line) (rest : List Line) where
  pub one_group : (lines : List Line) → lines ≡ members ++ (option_to_list next ++ rest) → begins_with member head ≡ false → AllByRecursion (λ line. begins_with member line ≡ true) members → IfSome next (λ line. begins_with member line ≡ false) → IfNone next (rest ≡ [])
      → in_turn add state (cut (begins_with member) (head ∷ lines)).1 ≡ in_turn add state (record { head = head; members = members } ∷ (cut (begins_with member) (option_to_list next ++ rest)).1)
  one_group lines are is_head all is_next last =
      ap (in_turn add state) (ap (λ (ls : List Line). (cut (begins_with member) (head ∷ ls)).1) are ∙ cut-group (begins_with member) head members (option_to_list next ++ rest) is_head all (no_strays (begins_with member) next rest is_next last))

-- ---- lines

abbrev line_with : ℕ → Content → Line
line_with number content = record { number = number; content = content }

pub next_line : (number : ℕ) (bytes line behind : List ℕ) (tokens : LineTokens) (found : Option Content) (content : Content) → lines bytes ≡ line ∷ lines behind → tokens ≡ line_tokens line → found ≡ content_of tokens → found ≡ Some content
    → lines_from number (lines bytes) ≡ record { number = number; content = content } ∷ lines_from (number + 1) (lines behind)
unfolding lines_from
next_line number bytes line behind tokens found content cut_at same is some =
    ap (lines_from number) cut_at
    ∙ ap (λ (o : Option Content). option_to_list (option_map (λ (c : Content). line_with number c) o) ++ lines_from (number + 1) (lines behind)) (ap content_of (sym same) ∙ sym is ∙ some)

pub passed_line : (number : ℕ) (bytes line behind : List ℕ) (tokens : LineTokens) (found : Option Content) → lines bytes ≡ line ∷ lines behind → tokens ≡ line_tokens line → found ≡ content_of tokens → found ≡ None
    → lines_from number (lines bytes) ≡ lines_from (number + 1) (lines behind)
unfolding lines_from
passed_line number bytes line behind tokens found cut_at same is none =
    ap (lines_from number) cut_at
    ∙ ap (λ (o : Option Content). option_to_list (option_map (λ (c : Content). line_with number c) o) ++ lines_from (number + 1) (lines behind)) (ap content_of (sym same) ∙ sym is ∙ none)

pub no_line_left : (number : ℕ) (bytes : List ℕ) → length bytes ≡ 0 → lines_from number (lines bytes) ≡ []
unfolding lines_from
no_line_left number [] ended = refl
no_line_left number (b ∷ bytes) ended = absurd (omega arith)
