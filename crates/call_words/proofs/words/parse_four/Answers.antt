use Rattle.std.proofs.Common.{◌∙◌, ap, codes, map, refl}
use Rattle.std.proofs.lemmas.Result.{err_from_is_err_and}
use Rattle.clap.specs.Words.{found_of, is_simple, matches_of, takes}
use Rattle.call_words.proofs.PlainWords.{read_four, text_is, text_same, text_there, four_is_simple}
use Rattle.call_words.proofs.words.parse_four.Goals as goal

pub unwrap-project-requires : goal.unwrap-project-requires
unwrap-project-requires c =
    let words = map (λ word. word.now) c.args.words.now in
    let found = found_of c.in_ok-matches.matches in
    let rows = (c.in_ok-matches.ensures.matches (ap is_simple c.in_ok-command.ensures ∙ four_is_simple)).0 ∙ ap (λ a. matches_of a words) c.in_ok-command.ensures in
    let all = read_four words c.requires in
    text_there c.get_str.result all.project (text_is c.get_str.result found (codes "PROJECT") all.project c.get_str.ensures (rw rows all.read_first))

pub unwrap-table-requires : goal.unwrap-table-requires
unwrap-table-requires c =
    let words = map (λ word. word.now) c.args.words.now in
    let found = found_of c.in_ok-matches.matches in
    let rows = (c.in_ok-matches.ensures.matches (ap is_simple c.in_ok-command.ensures ∙ four_is_simple)).0 ∙ ap (λ a. matches_of a words) c.in_ok-command.ensures in
    let all = read_four words c.requires in
    text_there c.get_str-2.result all.table (text_is c.get_str-2.result found (codes "TABLE") all.table c.get_str-2.ensures (rw rows all.read_second))

pub returns-in_err-matches-clause-memory : goal.returns-in_err-matches-clause-memory
returns-in_err-matches-clause-memory c =
    let words = map (λ word. word.now) c.args.words.now in
    let memory = c.in_err-matches.ensures.passes (ap (λ a. takes a words) c.in_ok-command.ensures ∙ (read_four words c.requires).taken) in
    let p = err_from_is_err_and c.from_residual-in_err-matches.result c.from_residual-in_err-matches.ensures.1 in
    rw (p.1, p.2) memory

pub returns-clause-read : goal.returns-clause-read
returns-clause-read c =
    let words = map (λ word. word.now) c.args.words.now in
    let found = found_of c.in_ok-matches.matches in
    let rows = (c.in_ok-matches.ensures.matches (ap is_simple c.in_ok-command.ensures ∙ four_is_simple)).0 ∙ ap (λ a. matches_of a words) c.in_ok-command.ensures in
    let all = read_four words c.requires in
    let project_same = text_same c.get_str.result all.project c.unwrap-project.result (text_is c.get_str.result found (codes "PROJECT") all.project c.get_str.ensures (rw rows all.read_first)) c.unwrap-project.ensures in
    let table_same = text_same c.get_str-2.result all.table c.unwrap-table.result (text_is c.get_str-2.result found (codes "TABLE") all.table c.get_str-2.ensures (rw rows all.read_second)) c.unwrap-table.ensures in
    rw (all.are, project_same, table_same) refl
