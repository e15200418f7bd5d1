-- Rows that are read line by line, behind those that were read.
use Rattle.std.proofs.Common.{◌≡◌, ℕ, ◌⊎◌, inl, inr, false, List, [], ◌∷◌, ◌++◌, All, refl, ap, sym, ◌∙◌, subst, append_assoc}
use Rattle.std.specs.Prelude.{Ok, Err}
use Rattle.std.proofs.lemmas.List.{append-nil}
use Rattle.std.proofs.lemmas.List.Elements.{All-push}
use Rattle.line_grammar.specs.Faults.{Reading, Faulty, ◌>>=◌}
use Rattle.line_grammar.specs.FileLines.{read_line}
use Rattle.line_grammar.specs.TokenLists.{Reader, none_after}
use Rattle.line_grammar.specs.declared.line.Line.{Line}
use Rattle.rule_parser.specs.declared.fault.ParseCause.{ParseCause}
use Rattle.rule_model.specs.declared.shown.HeldRows.{HeldRows}
use Rattle.rule_model.specs.FewRows.{RowTests, StandFor}
use Rattle.rule_model.proofs.FewRows.{no_rows}
use Rattle.rule_parser.specs.ReadRules.{AreHeld}
use Rattle.rule_parser.specs.RuleFiles.{rule_causes, rows_of}

-- the rows that were read, in front of those to come
abbrev pub behind : {R : Type 0} → List R → Reading (List R) ParseCause → Reading (List R) ParseCause
behind rows more = more >>= λ others. Ok (rows ++ others)

module _ {R : Type 0} (row : Reader R) where
  rows_ok : List R → Reading (List R) ParseCause
  rows_ok rows = Ok rows

  pub row_faulty : (rows : List R) (line : Line) (others : List Line) (fault : Faulty ParseCause) → read_line rule_causes (λ tokens. none_after (row tokens)) line ≡ Err fault → behind rows (rows_of row (line ∷ others)) ≡ Err fault
  row_faulty rows line others fault e = ap (λ (r : Reading R ParseCause). behind rows (r >>= λ first. rows_of row others >>= λ more. Ok (first ∷ more))) e

  moved : (rows : List R) (first : R) (rest : Reading (List R) ParseCause) → behind rows (rest >>= λ more. Ok (first ∷ more)) ≡ behind (rows ++ first ∷ []) rest
  unfolding rows_ok
  moved rows first (Ok more) = ap rows_ok (sym (append_assoc rows (first ∷ []) more))
  moved rows first (Err fault) = refl

  pub row_read : (rows : List R) (line : Line) (others : List Line) (first : R) → read_line rule_causes (λ tokens. none_after (row tokens)) line ≡ Ok first → behind rows (rows_of row (line ∷ others)) ≡ behind (rows ++ first ∷ []) (rows_of row others)
  row_read rows line others first e =
      ap (λ (r : Reading R ParseCause). behind rows (r >>= λ x. rows_of row others >>= λ more. Ok (x ∷ more))) e ∙ moved rows first (rows_of row others)

  pub rows_end : (rows : List R) → behind rows (rows_of row []) ≡ Ok rows
  unfolding rows_ok
  rows_end rows = ap rows_ok (append-nil rows)

  -- one more row was read
  pub row_step : (rows pushed : List R) (line : Line) (items others : List Line) (first : R) (whole : Reading (List R) ParseCause) → items ≡ line ∷ others
      → read_line rule_causes (λ tokens. none_after (row tokens)) line ≡ Ok first → pushed ≡ rows ++ first ∷ [] → behind rows (rows_of row items) ≡ whole → behind pushed (rows_of row others) ≡ whole
  row_step rows pushed line items others first whole items-are read pushed-is left =
      ap (λ (l : List R). behind l (rows_of row others)) pushed-is
      ∙ sym (row_read rows line others first read)
      ∙ ap (λ (l : List Line). behind rows (rows_of row l)) (sym items-are)
      ∙ left

-- ---- the rows that are held

-- lines were read, and these are left
pub record ReadSoFar {R : Type 0} (row : Reader R) (tests : RowTests R) (most : ℕ) (whole : Reading (List R) ParseCause) (left : List Line) (held : HeldRows R) : Type 0 where
  pub all : List R
  pub read : behind all (rows_of row left) ≡ whole
  pub stand : StandFor tests most all held.rows held.shown

module _ {R : Type 0} (row : Reader R) (tests : RowTests R) (most : ℕ) where
  behind_none : (rest : Reading (List R) ParseCause) → behind [] rest ≡ rest
  behind_none (Ok more) = refl
  behind_none (Err fault) = refl

  pub none_so_far : (lines : List Line) → ReadSoFar row tests most (rows_of row lines) lines (record { rows = []; shown = record { width = false; outside = false; repeated = false } })
  none_so_far lines = record { all = []; read = behind_none (rows_of row lines); stand = no_rows tests most }

  pub one_more : (whole : Reading (List R) ParseCause) (line : Line) (items others : List Line) (first : R) (before after : HeldRows R) → items ≡ line ∷ others → read_line rule_causes (λ tokens. none_after (row tokens)) line ≡ Ok first
      → ((all : List R) → StandFor tests most all before.rows before.shown → StandFor tests most (all ++ first ∷ []) after.rows after.shown)
      → ReadSoFar row tests most whole items before → ReadSoFar row tests most whole others after
  one_more whole line items others first before after items-are read stands so_far = record {
    all = so_far.all ++ first ∷ [];
    read = row_step row so_far.all (so_far.all ++ first ∷ []) line items others first whole items-are read refl so_far.read;
    stand = stands so_far.all so_far.stand;
  }

  pub all_read : (whole : Reading (List R) ParseCause) (left : List Line) (held : HeldRows R) → left ≡ [] → ReadSoFar row tests most whole left held → AreHeld tests most whole held
  all_read whole left held none so_far =
      let read : whole ≡ Ok so_far.all = sym so_far.read ∙ ap (λ (lines : List Line). behind so_far.all (rows_of row lines)) none ∙ rows_end row so_far.all in
      (so_far.all, read, so_far.stand)

  pub fault_read : (whole : Reading (List R) ParseCause) (line : Line) (items others : List Line) (held : HeldRows R) (fault : Faulty ParseCause) → items ≡ line ∷ others
      → read_line rule_causes (λ tokens. none_after (row tokens)) line ≡ Err fault → ReadSoFar row tests most whole items held → whole ≡ Err fault
  fault_read whole line items others held fault items-are read so_far =
      sym so_far.read ∙ ap (λ (lines : List Line). behind so_far.all (rows_of row lines)) items-are ∙ row_faulty row so_far.all line others fault read

-- a row that is held or not leaves all fit
pub fit_step : {R : Type 0} (P : R → Type 0) (before after : List R) (row : R) → (after ≡ before ++ row ∷ []) ⊎ (after ≡ before) → All P before → P row → All P after
fit_step {R} P before after row (inl pushed) fit one = subst (λ (rows : List R). All P rows) (sym pushed) (All-push P before row fit one)
fit_step {R} P before after row (inr same) fit one = subst (λ (rows : List R). All P rows) (sym same) fit
