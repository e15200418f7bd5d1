use Rattle.std.proofs.Common.{◌≡◌, [], List, sym, ap, ◌∙◌, subst}
use Rattle.std.specs.Prelude.{All}
use Rattle.schema_core.specs.declared.schema.Schema.{Schema}
use Rattle.rule_model.specs.Books.{book_deps}
use Rattle.rule_model.specs.declared.dep.Dep.{Dep}
use Rattle.rule_cover.specs.Fates.{AreRight}
use Rattle.rule_cover.specs.Pieces.{IsPiece, deps_in, numbers_in, table_pieces}
use Rattle.rule_cover.proofs.Covers.{is_cover}
use Rattle.rule_cover.proofs.PieceFacts.{pieces_own, pieces_valid}
use Rattle.rule_cover.proofs.finder.cover_table.Goals as goal

pub fates_of-requires-clause-pieces : goal.fates_of-requires-clause-pieces
fates_of-requires-clause-pieces c =
    let rules = c.args.rules.now in
    let read = c.as_slice.ensures ∙ c.deps.ensures.deps in
    let deps-are : c.in_ok-pieces.pieces.deps ≡ deps_in (table_pieces c.args.table (book_deps rules)) = c.in_ok-pieces.ensures.deps ∙ ap (λ (ds : List Dep). deps_in (table_pieces c.args.table ds)) read in
    subst (λ (ds : List Dep). All (IsPiece c.schema.result.now) ds) (sym deps-are)
    (subst (λ (schema : Schema). All (IsPiece schema) (deps_in (table_pieces c.args.table (book_deps rules)))) (sym c.schema.ensures.schema)
    (pieces_valid rules.schema c.args.table (book_deps rules) c.schema.ensures.valid.deps))

pub returns : goal.returns
returns c =
    let rules = c.args.rules.now in
    let fates = c.in_ok-fates.fates in
    let read = c.as_slice.ensures ∙ c.deps.ensures.deps in
    let deps-are : c.in_ok-pieces.pieces.deps ≡ deps_in (table_pieces c.args.table (book_deps rules)) = c.in_ok-pieces.ensures.deps ∙ ap (λ (ds : List Dep). deps_in (table_pieces c.args.table ds)) read in
    is_cover rules.schema (book_deps rules) c.args.table c.args.budget fates (pieces_own c.args.table (book_deps rules)) (record {
      numbers = c.in_ok-fates.ensures.numbers ∙ c.as_slice-2.ensures ∙ c.in_ok-pieces.ensures.numbers ∙ ap (λ (ds : List Dep). numbers_in (table_pieces c.args.table ds)) read;
      right =
          subst (λ (ds : List Dep). AreRight rules.schema c.args.budget [] ds fates) deps-are
          (subst (λ (schema : Schema). AreRight schema c.args.budget [] c.in_ok-pieces.pieces.deps fates) c.schema.ensures.schema c.in_ok-fates.ensures.right);
    })
