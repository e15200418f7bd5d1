-- The question at a start is the one that names ask, over texts.
use Rattle.std.proofs.Common.{◌≡◌, ℕ, List, Result, Ok, Err, sym, subst}
use Rattle.std.specs.Prelude.{◌≢◌, Any, IsErrAnd}
use Rattle.row_store.specs.Tuple.{ids_of}
use Rattle.schema_core.specs.Lookups.{attrs_at}
use Rattle.schema_core.specs.declared.schema.Attr.{Attr}
use Rattle.value_pool.specs.Pool.{HaveOneId}
use Rattle.rule_model.specs.Books.{IsBook}
use Rattle.rule_runs.specs.declared.moves.Start.{Start}
use Rattle.rule_runs.specs.Marks.{marked}
use Rattle.rule_runs.specs.Moves.{Stage}
use Rattle.rule_runs.specs.Starts.{IsStart, first_stage}
use Rattle.fix_engine.specs.declared.fault.FixFault.{FixFault}
use Rattle.fix_engine.specs.declared.fault.FixFault.TheVariants.{UnknownAttr, Memory}
use Rattle.fix_engine.specs.declared.verdict.Verdict.{Verdict}
use Rattle.fix_engine.specs.Fixes.{Question, TuplesTellValidated}
use Rattle.fix_engine.specs.MasterRows.{LeadsToRows}
use Rattle.fix_engine.specs.Questions.{IsNoAttr, asked_at, is_vouched, master_texts, question, texts_of}
use Rattle.fix_engine.specs.Rivals.{IsFound}
use Rattle.fix_engine.specs.Verdicts.{HasTuplesIn, IsVerdictOn}
use Rattle.fix_engine.proofs.Completeness.{tuples_tell}
use Rattle.fix_engine.proofs.FixedRows.{leads_to_rows}
use Rattle.fix_engine.proofs.OverTexts.{law_in_texts, over_texts, shown_in_texts}
use Rattle.fix_engine.proofs.VerdictFacts.{verdict_from}

-- the question that names ask, over what a start has
abbrev pub named : Start → List (List ℕ) → Question (List ℕ)
named start names = question start.rules.now start.pool.now start.masters.now start.table (ids_of start.tuple.now) names

module _ (start : Start) (names : List (List ℕ)) (book : IsBook start.rules.now) (distinct : HaveOneId start.pool.now) (is_start : IsStart start) where
  -- where the marks are those of the names, what is found at the start is a verdict on the question
  pub verdict_named : (v : Verdict) → ((attr : ℕ) → marked start.vouched attr ≡ is_vouched (attrs_at start.rules.now.schema start.table) names attr)
      → HasTuplesIn start.rules.now start.pool.now start.table v → IsFound (asked_at start) v → IsVerdictOn start.pool.now (named start names) v
  verdict_named v same tuples found =
      let shown = shown_in_texts start.rules.now start.pool.now start.masters.now start.table distinct is_start.masters (first_stage start) v is_start.tuple.ids tuples found in
      let asked : over_texts start.rules.now start.pool.now start.masters.now start.table distinct is_start.masters (first_stage start) ≡ named start names = λ i. record {
        basis = (named start names).basis;
        stage = record { tuple = (named start names).stage.tuple; validated = λ attr. same attr i };
        width = (named start names).width;
      } in
      subst (λ q. IsVerdictOn start.pool.now q v) asked (verdict_from start.pool.now _ v shown)

  -- whatever the names are, maximal runs that end in one tuple have validated the same attributes
  pub named_law : TuplesTellValidated (named start names)
  named_law =
      let stage : Stage ℕ = record { tuple = ids_of start.tuple.now; validated = is_vouched (attrs_at start.rules.now.schema start.table) names } in
      law_in_texts start.rules.now start.pool.now start.masters.now start.table distinct is_start.masters stage is_start.tuple.ids (tuples_tell start book is_start stage is_start.tuple.width)

  -- and runs lead to rows
  pub named_rows : LeadsToRows start.rules.now.schema (named start names)
  named_rows = leads_to_rows start.rules.now book (master_texts start.pool.now start.masters.now) start.table (texts_of start.pool.now (ids_of start.tuple.now)) names

-- want of memory isn't an unknown name
pub only_memory : (r : Result Verdict FixFault) → IsErrAnd r (λ fault. fault ≡ Memory) → r ≢ Err UnknownAttr
only_memory (Ok verdict) memory same = absurd memory
only_memory (Err fault) memory same = let e = memory in let f = same in cc

-- no name is unknown among attributes that are the same
pub all_known : (attrs read : List Attr) (names given : List (List ℕ)) → attrs ≡ read → given ≡ names → ¬ Any (IsNoAttr read) given → ¬ Any (IsNoAttr attrs) names
all_known attrs read names given same alike known =
    subst (λ held. ¬ Any (IsNoAttr held) names) (sym same) (subst (λ ns. ¬ Any (IsNoAttr read) ns) alike known)
