-- Moves and runs over value ids are moves and runs over their texts, since the texts of a pool are distinct.
use Rattle.std.proofs.Common.{◌≡◌, ℕ, ◌<◌, ◌↔◌, false, List, [], length, map, Option, Some, None, sym, ap, ◌∙◌}
use Rattle.std.specs.Prelude.{IfSome, slice_get}
use Rattle.std.specs.FinMap as finite
use Rattle.std.specs.List.{All}
use Rattle.std.specs.Option.{option_map_or}
use Rattle.std.specs.Str.{bytes_eq}
use Rattle.std.proofs.lemmas.List.{take-map}
use Rattle.std.proofs.lemmas.Option.{slice_get-get_or, slice_get-map}
use Rattle.schema_core.specs.Lookups.{attrs_at}
use Rattle.value_pool.specs.Pool.{HaveOneId}
use Rattle.rule_model.specs.Books.{Book, book_edits}
use Rattle.master_index.specs.Masters.{Masters}
use Rattle.rule_runs.specs.declared.moves.Move.{Move}
use Rattle.rule_runs.specs.declared.runs.Run.{Run}
use Rattle.rule_runs.specs.Moves.{Basis, IsMaximalRun, Stage, end_after}
use Rattle.rule_runs.specs.Starts.{AreMasters, IsTupleIn, basis_by, has_text}
use Rattle.rule_runs.proofs.Lists.{IfSome-at, same_elements}
use Rattle.rule_runs.proofs.Renaming as renaming
use Rattle.fix_engine.specs.declared.verdict.Verdict.{Verdict}
use Rattle.fix_engine.specs.declared.verdict.Verdict.TheVariants.{Unique, Conflict}
use Rattle.fix_engine.specs.Fixes.{Question, TuplesTellValidated}
use Rattle.fix_engine.specs.Questions.{master_texts, text_of, texts_of}
use Rattle.fix_engine.specs.Rivals.{IsFound, IsFullRunTo}
use Rattle.fix_engine.specs.Verdicts.{HasTuplesIn, IsShown, IsShownRun}

-- a master row that may be missing has ids of the pool
known_row : (rules : Book) (pool : List (List ℕ)) (table : ℕ) (o : Option (List ℕ)) → IfSome o (IsTupleIn rules pool table) → IfSome o (All (λ id. id < length pool))
known_row rules pool table None is_tuple = tt
known_row rules pool table (Some ids) is_tuple = is_tuple.ids

module _ (rules : Book) (pool : List (List ℕ)) (masters : Masters) (table : ℕ) (distinct : HaveOneId pool) (are : AreMasters rules pool masters) where
  abbrev Known : ℕ → Type 0
  Known id = id < length pool

  -- ids with one text are one
  apart : (one other : ℕ) → Known one → Known other → text_of pool one ≡ text_of pool other → one ≡ other
  apart one other within within' same =
      distinct (text_of pool one) one other (slice_get-get_or pool one [] within) (slice_get-get_or pool other [] within' ∙ ap Some (sym same))

  same_text : (id : ℕ) (text : List ℕ) → Known id → bytes_eq (text_of pool id) text ≡ has_text pool id text
  same_text id text within = sym (ap (λ o. option_map_or (λ held. bytes_eq held text) o false) (slice_get-get_or pool id [] within))

  abbrev by_ids : Basis ℕ
  by_ids = basis_by rules pool masters table

  known_masters : (master row : ℕ) → IfSome (by_ids.masters master row) (All Known)
  known_masters master row = known_row rules pool master (finite.get masters.rows (master, row)) (are.rows master row)

  abbrev by_texts : Basis (List ℕ)
  by_texts = record { table = table; rules = book_edits rules; masters = master_texts pool masters; is_text = bytes_eq }

  abbrev in_texts : Stage ℕ → Stage (List ℕ)
  in_texts stage = record { tuple = texts_of pool stage.tuple; validated = stage.validated }

  -- the same runs are maximal, and they end alike
  maximal : (stage : Stage ℕ) (moves : List Move) → All Known stage.tuple → IsMaximalRun by_texts (in_texts stage) moves ↔ IsMaximalRun by_ids stage moves
  maximal stage moves known = renaming.maximal-renamed (text_of pool) Known apart by_ids bytes_eq same_text known_masters stage moves known

  end : (stage : Stage ℕ) (moves : List Move) → end_after by_texts (in_texts stage) moves ≡ in_texts (end_after by_ids stage moves)
  end stage moves = renaming.end-renamed (text_of pool) Known apart by_ids bytes_eq same_text known_masters stage moves

  known_end : (stage : Stage ℕ) (moves : List Move) → All Known stage.tuple → All Known (end_after by_ids stage moves).tuple
  known_end stage moves known = renaming.end-in (text_of pool) Known apart by_ids bytes_eq same_text known_masters stage moves known

  -- tuples with the same text at a place have the same id there
  same_at : (one other : List ℕ) (k : ℕ) → All Known one → All Known other → slice_get (texts_of pool one) k ≡ slice_get (texts_of pool other) k → slice_get one k ≡ slice_get other k
  same_at one other k known known' same =
      renaming.apart-options (text_of pool) Known apart by_ids bytes_eq same_text known_masters (slice_get one k) (slice_get other k) (IfSome-at Known one k known) (IfSome-at Known other k known')
      (sym (slice_get-map (text_of pool) one k) ∙ same ∙ slice_get-map (text_of pool) other k)

  -- a question over ids, and over texts
  abbrev pub over_ids : Stage ℕ → Question ℕ
  over_ids stage = record { basis = by_ids; stage = stage; width = length (attrs_at rules.schema table) }

  abbrev pub over_texts : Stage ℕ → Question (List ℕ)
  over_texts stage = record { basis = by_texts; stage = in_texts stage; width = length (attrs_at rules.schema table) }

  shown_run : (stage : Stage ℕ) (run : Run) → All Known stage.tuple → IsFullRunTo (over_ids stage) run → IsShownRun pool (over_texts stage) run
  shown_run stage run known to = record {
    full = (maximal stage run.moves known).1 to.full;
    end = end stage run.moves ∙ ap in_texts to.end;
  }

  -- what a verdict shows in ids, it shows in texts
  pub shown_in_texts : (stage : Stage ℕ) (v : Verdict) → All Known stage.tuple → HasTuplesIn rules pool table v → IsFound (over_ids stage) v → IsShown pool (over_texts stage) v
  shown_in_texts stage (Unique tuple covered moves) known tuples (all, full) = (
    λ each is. end stage each ∙ ap in_texts (all each ((maximal stage each known).0 is)),
    (maximal stage moves known).1 full,
  )
  shown_in_texts stage (Conflict first second attr) known (one, other) (to, to', differs) = (
    shown_run stage first known to,
    shown_run stage second known to',
    record {
      before = take-map (text_of pool) attr first.tuple ∙ ap (map (text_of pool)) differs.before ∙ sym (take-map (text_of pool) attr second.tuple);
      here = λ same. differs.here (same_at first.tuple second.tuple attr one.ids other.ids same);
    },
  )

  -- and the tuples of texts tell what is validated
  pub law_in_texts : (stage : Stage ℕ) → All Known stage.tuple → TuplesTellValidated (over_ids stage) → TuplesTellValidated (over_texts stage)
  law_in_texts stage known law one other full full' same attr =
      let t = (end_after by_ids stage one).tuple in
      let u = (end_after by_ids stage other).tuple in
      let texts : texts_of pool t ≡ texts_of pool u = sym (ap (λ (s : Stage (List ℕ)). s.tuple) (end stage one)) ∙ same ∙ ap (λ (s : Stage (List ℕ)). s.tuple) (end stage other) in
      let tuples : t ≡ u = same_elements t u (λ k. same_at t u k (known_end stage one known) (known_end stage other known) (ap (λ xs. slice_get xs k) texts)) in
      ap (λ (s : Stage (List ℕ)). s.validated attr) (end stage one)
      ∙ law one other ((maximal stage one known).0 full) ((maximal stage other known).0 full') tuples attr
      ∙ sym (ap (λ (s : Stage (List ℕ)). s.validated attr) (end stage other))
