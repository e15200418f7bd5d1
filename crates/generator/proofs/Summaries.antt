-- What is told of the edits, put together from its parts.
use Rattle.std.proofs.Common.{◌≡◌, ℕ, List, [], ◌∷◌, ◌++◌, length, unwrap_or, Some, Result, Ok, Err, IfOk, OnOk, codes, ap, subst, ◌∙◌}
use Rattle.text_lists.specs.Limits.{standard}
use Rattle.text_lists.specs.declared.limits.Limits.{Limits}
use Rattle.shelf_io.specs.Transcript.{Answers}
use Rattle.shelf_io.proofs.Transcripts.{answers-one}
use Rattle.rule_model.specs.Books.{Book}
use Rattle.bench_core.specs.History.{History}
use Rattle.bench_core.specs.State.{rows_at}
use Rattle.violation_report.specs.Listing.{listing}
use Rattle.session.specs.Leading.{LeadsTo}
use Rattle.drawn_project.specs.declared.edits.Thousand.{Thousand}
use Rattle.generator.specs.declared.summary.Summary.{Summary}
use Rattle.drawn_project.specs.Edits.{thousands}
use Rattle.drawn_project.specs.Project.{AreRules, Begins, rows}
use Rattle.generator.specs.Summary.{IsMade, IsSummary, IsThousand, at_text, drawn}

-- what is listed under the same rules
listed_same : (book book_after : Book) (last : History) (lines : ℕ) → book_after ≡ book → lines ≡ length (listing book_after last.present) → lines ≡ length (listing book last.present)
listed_same book book_after last lines same few = subst (λ (b : Book). lines ≡ length (listing b last.present)) same few

-- a thousand edits were made, and the line was told
pub told_one : {E : Type 0} (book book_after : Book) (limits : Limits) (before after : History) (thousand : Thousand) (count lines : ℕ) (text text_after : List ℕ) (result : Result (Unit {0}) E) → LeadsTo book limits before thousand.commands after → book_after ≡ book
    → count ≡ length (rows_at after.present 0) → lines ≡ length (listing book_after after.present) → OnOk result (text_after ≡ text ++ at_text thousand.made count lines)
    → OnOk result (Answers (IsThousand book limits) before (thousand ∷ []) after (Some text) (Some text_after))
told_one book book_after limits before after thousand count lines text text_after (Err fault) made same many few told = tt
told_one book book_after limits before after thousand count lines text text_after (Ok done) made same many few told =
    let line : at_text thousand.made count lines ≡ at_text thousand.made (length (rows_at after.present 0)) (length (listing book after.present)) = ap (λ (n : ℕ). at_text thousand.made n lines) many ∙ ap (at_text thousand.made (length (rows_at after.present 0))) (listed_same book book_after after lines same few) in
    answers-one (IsThousand book limits) before after thousand (at_text thousand.made count lines) (Some text) (Some text_after) (record { made = made; told-is = line }) (ap Some told)

-- all thousands were told, and `done` behind them
pub summed_up : (book book_after : Book) (limits : Limits) (start last : History) (edits : List Thousand) (none told text : List ℕ) (lines : ℕ) → none ≡ [] → Answers (IsThousand book limits) start edits last (Some none) (Some told) → text ≡ told ++ codes "done\n" → book_after ≡ book
    → lines ≡ length (listing book_after last.present) → IsSummary book limits start edits text lines
summed_up book book_after limits start last edits none told text lines empty answers more same few = record {
  last = last;
  told = answers.text;
  made = answers.is_one;
  text-is = more ∙ ap (λ (t : List ℕ). t ++ codes "done\n") (ap (λ o. unwrap_or o []) answers.written ∙ ap (λ (t : List ℕ). t ++ answers.text) empty);
  lines-is = listed_same book book_after last lines same few;
}

-- the edits are those that are drawn behind the rows
edits_drawn : (seed between after : ℕ) (edits : List Thousand) → between ≡ (rows seed).1 → (edits, after) ≡ thousands between → edits ≡ (drawn seed).0.1
unfolding drawn
edits_drawn seed between after edits next are = ap (λ (p : List Thousand × ℕ). p.0) are ∙ ap (λ w. (thousands w).0) next

begun_drawn : (seed : ℕ) (book : Book) (start : History) → Begins book (rows seed).0 start → Begins book (drawn seed).0.0 start
unfolding drawn
begun_drawn seed book start begins = begins

-- the summary of what is drawn off a number, where the edits of it were summed up
pub all_made : {E : Type 0} (seed word between after : ℕ) (book : Book) (limits : Limits) (start : History) (edits passed : List Thousand) (result : Result Summary E) → word ≡ seed → AreRules book → limits ≡ standard → Begins book (rows word).0 start → between ≡ (rows word).1
    → (edits, after) ≡ thousands between → passed ≡ edits → IfOk result (λ summary. IsSummary book limits start passed summary.text.items summary.lines) → IfOk result (λ summary. IsMade seed summary.text.items summary.lines)
all_made seed word between after book limits start edits passed (Err fault) same are within begins next drawn_edits all summed = tt
all_made seed word between after book limits start edits passed (Ok summary) same are within begins next drawn_edits all summed =
    let begun = subst (λ (w : ℕ). Begins book (rows w).0 start) same begins in
    let behind = subst (λ (w : ℕ). between ≡ (rows w).1) same next in
    let under = subst (λ (l : Limits). IsSummary book l start passed summary.text.items summary.lines) within summed in
    record {
      book = book;
      start = start;
      are_rules = are;
      begins = begun_drawn seed book start begun;
      summary = subst (λ (es : List Thousand). IsSummary book standard start es summary.text.items summary.lines) (all ∙ edits_drawn seed between after edits behind drawn_edits) under;
    }
