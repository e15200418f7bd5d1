-- Files that are written of lines and of groups, read again.
use Rattle.std.proofs.Common.{◌≡◌, ℕ, ◌+◌, true, false, List, [], ◌∷◌, ◌++◌, length, refl, ap, ◌∙◌, arith}
use Rattle.std.specs.Prelude.{Ok, map}
use Rattle.std.specs.Option.{option_map, option_to_list}
use Rattle.std.specs.List.{flat_map, AllByRecursion}
use Rattle.std.proofs.lemmas.List.{append-nil}
use Rattle.line_grammar.specs.Faults.{Causes, Reading, ◌>>=◌}
use Rattle.line_grammar.specs.FileLines.{content_of, lines_from, file_lines, first_is, begins_with}
use Rattle.line_grammar.specs.Groups.{Cut, in_front, cut, in_turn, read_cut, read_groups}
use Rattle.line_grammar.specs.Spelling.{line_text, file_text, tokens_in, IsReadable}
use Rattle.line_grammar.specs.Contents.{Tokens}
use Rattle.line_grammar.specs.declared.line.Line.{Line}
use Rattle.line_grammar.specs.declared.group.Group.{Group}
use Rattle.line_grammar.specs.declared.writing.Part.{Part}
use Rattle.line_grammar.proofs.SpelledLines.{line_tokens-written, lines-file_text}

-- ---- lines

-- a written line, at its number
abbrev pub written_line : ℕ → List Part → Line
written_line number line = record { number = number; content = Tokens (tokens_in line) }

abbrev pub written_lines : ℕ → List (List Part) → List Line
written_lines number [] = []
written_lines number (line ∷ others) = written_line number line ∷ written_lines (number + 1) others

lines_from-written : (number : ℕ) (ls : List (List Part)) → AllByRecursion IsReadable ls → lines_from number (map line_text ls) ≡ written_lines number ls
unfolding lines_from
lines_from-written number [] readable = refl
lines_from-written number (line ∷ others) readable =
    ap (λ t. option_to_list (option_map (λ content. record { number = number; content = content }) (content_of t)) ++ lines_from (number + 1) (map line_text others)) (line_tokens-written line readable.0)
    ∙ ap (λ ls. written_line number line ∷ ls) (lines_from-written (number + 1) others readable.1)

-- the lines of a written file, none of which is passed over
pub file_lines-written : (ls : List (List Part)) → AllByRecursion IsReadable ls → file_lines (file_text ls) ≡ written_lines 1 ls
file_lines-written ls readable = ap (lines_from 1) (lines-file_text ls readable) ∙ lines_from-written 1 ls readable

-- ---- groups

-- what is written of a group: its head, and its members
pub record Written : Type 0 where
  pub head : List Part
  pub members : List (List Part)

abbrev pub lines_of : Written → List (List Part)
lines_of group = group.head ∷ group.members

abbrev pub group_at : ℕ → Written → Group
group_at number group = record { head = written_line number group.head; members = written_lines (number + 1) group.members }

-- the head doesn't begin with the member word, and the members do
pub record IsGroup (word : List ℕ) (group : Written) : Type 0 where
  pub head : first_is word (tokens_in group.head) ≡ false
  pub members : AllByRecursion (λ line. first_is word (tokens_in line) ≡ true) group.members

-- each group takes the state to the next one, at any line
abbrev pub Takes : {S C : Type 0} → (S → Group → Reading S C) → S → List Written → S → Type 0
Takes add state [] end = state ≡ end
Takes {S} add state (group ∷ others) end = (next : S) × ((number : ℕ) → add state (group_at number group) ≡ Ok next) × Takes add next others end

abbrev groups_at : ℕ → List Written → List Group
groups_at number [] = []
groups_at number (group ∷ others) = group_at number group ∷ groups_at (number + 1 + length group.members) others

written_lines-append : (number : ℕ) (xs ys : List (List Part)) → written_lines number (xs ++ ys) ≡ written_lines number xs ++ written_lines (number + length xs) ys
written_lines-append number [] ys = let same : number ≡ number + 0 = omega arith in ap (λ n. written_lines n ys) same
written_lines-append number (x ∷ xs) ys =
    let same : number + 1 + length xs ≡ number + length (x ∷ xs) = omega arith in
    ap (λ ls. written_line number x ∷ ls) (written_lines-append (number + 1) xs ys ∙ ap (λ n. written_lines (number + 1) xs ++ written_lines n ys) same)

cut-members : (word : List ℕ) (number : ℕ) (members : List (List Part)) (rest : List Line) → AllByRecursion (λ line. first_is word (tokens_in line) ≡ true) members
    → cut (begins_with word) (written_lines number members ++ rest) ≡ (written_lines number members ++ (cut (begins_with word) rest).0, (cut (begins_with word) rest).1)
cut-members word number [] rest are = refl
cut-members word number (line ∷ members) rest are =
    ap (λ b. in_front b (written_line number line) (cut (begins_with word) (written_lines (number + 1) members ++ rest))) are.0
    ∙ ap (in_front true (written_line number line)) (cut-members word (number + 1) members rest are.1)

cut-written : (word : List ℕ) (number : ℕ) (groups : List Written) → AllByRecursion (IsGroup word) groups → cut (begins_with word) (written_lines number (flat_map lines_of groups)) ≡ ([], groups_at number groups)
cut-written word number [] are = refl
cut-written word number (group ∷ others) are =
    let next = number + 1 + length group.members in
    let later = flat_map lines_of others in
    ap (λ ls. cut (begins_with word) (written_line number group.head ∷ ls)) (written_lines-append (number + 1) group.members later)
    ∙ ap (λ b. in_front b (written_line number group.head) (cut (begins_with word) (written_lines (number + 1) group.members ++ written_lines next later))) are.0.head
    ∙ ap (in_front false (written_line number group.head)) (cut-members word (number + 1) group.members (written_lines next later) are.0.members
    ∙ ap (λ (c : Cut). (written_lines (number + 1) group.members ++ c.0, c.1)) (cut-written word next others are.1) ∙ ap (λ ls. (ls, groups_at next others)) (append-nil (written_lines (number + 1) group.members)))

in_turn-takes : {S C : Type 0} (add : S → Group → Reading S C) (state : S) (number : ℕ) (groups : List Written) (end : S) → Takes add state groups end → in_turn add state (groups_at number groups) ≡ Ok end
in_turn-takes add state number [] end takes = ap (λ s. Ok s) takes
in_turn-takes add state number (group ∷ others) end takes =
    ap (λ r. r >>= λ next. in_turn add next (groups_at (number + 1 + length group.members) others)) (takes.1 number)
    ∙ in_turn-takes add takes.0 (number + 1 + length group.members) others end takes.2

-- a file of groups that is written so is read as what they make of the state
pub read_groups-written : {S C : Type 0} (causes : Causes C) (word : List ℕ) (add : S → Group → Reading S C) (state : S) (groups : List Written) (end : S)
    → AllByRecursion IsReadable (flat_map lines_of groups) → AllByRecursion (IsGroup word) groups → Takes add state groups end → read_groups causes word add state (file_text (flat_map lines_of groups)) ≡ Ok end
unfolding read_groups
read_groups-written causes word add state groups end readable are takes =
    ap (λ ls. read_cut causes add state (cut (begins_with word) ls)) (file_lines-written (flat_map lines_of groups) readable)
    ∙ ap (read_cut causes add state) (cut-written word 1 groups are) ∙ in_turn-takes add state 1 groups end takes
