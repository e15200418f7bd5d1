use Rattle.std.proofs.Common.{◌≡◌, ℕ, ◌+◌, ◌<◌, ◌^◌, [], List, length, get_or, sym, ap, ◌∙◌, subst, arith}
use Rattle.std.specs.Prelude.{All}
use Rattle.schema_core.specs.declared.schema.Schema.{Schema}
use Rattle.rule_model.specs.Books.{book_deps}
use Rattle.rule_model.specs.declared.dep.Dep.{Dep}
use Rattle.rule_cover.specs.CoverText.{IsCoverText, IsTextOf}
use Rattle.rule_cover.specs.declared.fates.Fate.{Fate}
use Rattle.rule_cover.specs.declared.fates.Piece.{Piece}
use Rattle.rule_cover.specs.Fates.{AreNumbersOf, AreRight, numbers_of}
use Rattle.rule_cover.specs.Pieces.{IsPiece, deps_in, numbers_in, table_pieces}
use Rattle.rule_cover.proofs.PieceFacts.{first_of, no_text, pieces_valid}
use Rattle.rule_cover.proofs.Turns.{if_ok}
use Rattle.rule_cover.proofs.text.cover_text.Goals as goal

pub table_of-requires : goal.table_of-requires
table_of-requires c =
    let deps = book_deps c.args.rules.now in
    let there = c.as_slice-deps.ensures ∙ c.deps.ensures.deps in
    let numbers = subst (λ (fates : List (Piece × Fate)). AreNumbersOf c.requires.0 deps fates) (sym c.as_slice-fates.ensures) c.requires.2.numbers in
    let first = first_of c.requires.0 deps c.as_slice-fates.result.now numbers (omega (arith, c.in-len1-up.len_at_least)) c.index-fates-0.result in
    subst (λ (ds : List Dep). (get_or c.as_slice-fates.result.now 0 c.index-fates-0.result).0.dep < length ds) (sym there) first.0

pub fates_text-requires-clause-pieces : goal.fates_text-requires-clause-pieces
fates_text-requires-clause-pieces c =
    let deps = book_deps c.args.rules.now in
    let table = c.table_of.result in
    let there = c.as_slice-deps.ensures ∙ c.deps.ensures.deps in
    let deps-are = c.in_ok-pieces-in-len1-up.ensures.deps ∙ ap (λ (ds : List Dep). deps_in (table_pieces table ds)) there in
    subst (λ (ds : List Dep). All (IsPiece c.schema.result.now) ds) (sym deps-are)
    (subst (λ (schema : Schema). All (IsPiece schema) (deps_in (table_pieces table deps))) (sym c.schema.ensures.schema)
    (pieces_valid c.args.rules.now.schema table deps c.schema.ensures.valid.deps))

pub fates_text-requires-clause-right : goal.fates_text-requires-clause-right
fates_text-requires-clause-right c =
    let deps = book_deps c.args.rules.now in
    let table = c.table_of.result in
    let fates = c.as_slice-fates.result.now in
    let there = c.as_slice-deps.ensures ∙ c.deps.ensures.deps in
    let deps-are = c.in_ok-pieces-in-len1-up.ensures.deps ∙ ap (λ (ds : List Dep). deps_in (table_pieces table ds)) there in
    let numbers = subst (λ (all : List (Piece × Fate)). AreNumbersOf c.requires.0 deps all) (sym c.as_slice-fates.ensures) c.requires.2.numbers in
    let first = first_of c.requires.0 deps fates numbers (omega (arith, c.in-len1-up.len_at_least)) c.index-fates-0.result in
    let d : Dep = record { name = []; table = 0; rule = record { x = []; a = 0; rows = [] } } in
    let same : c.requires.0 ≡ table = sym (c.table_of.ensures d ∙ ap (λ (ds : List Dep). (get_or ds (get_or fates 0 c.index-fates-0.result).0.dep d).table) there ∙ first.1 d) in
    let right = subst (λ (t : ℕ). AreRight c.args.rules.now.schema c.requires.1 [] (deps_in (table_pieces t deps)) c.args.found.now.fates) same c.requires.2.right in
    let of_fates = subst (λ (all : List (Piece × Fate)). AreRight c.args.rules.now.schema c.requires.1 [] (deps_in (table_pieces table deps)) all) (sym c.as_slice-fates.ensures) right in
    let of_schema = subst (λ (schema : Schema). AreRight schema c.requires.1 [] (deps_in (table_pieces table deps)) fates) (sym c.schema.ensures.schema) of_fates in
    (c.requires.1, subst (λ (ds : List Dep). AreRight c.schema.result.now c.requires.1 [] ds fates) (sym deps-are) of_schema)

pub fates_text-requires-clause-rows : goal.fates_text-requires-clause-rows
fates_text-requires-clause-rows c =
    let deps = book_deps c.args.rules.now in
    let table = c.table_of.result in
    let fates = c.as_slice-fates.result.now in
    let there = c.as_slice-deps.ensures ∙ c.deps.ensures.deps in
    let numbers-are = c.in_ok-pieces-in-len1-up.ensures.numbers ∙ ap (λ (ds : List Dep). numbers_in (table_pieces table ds)) there in
    let numbers = subst (λ (all : List (Piece × Fate)). AreNumbersOf c.requires.0 deps all) (sym c.as_slice-fates.ensures) c.requires.2.numbers in
    let first = first_of c.requires.0 deps fates numbers (omega (arith, c.in-len1-up.len_at_least)) c.index-fates-0.result in
    let d : Dep = record { name = []; table = 0; rule = record { x = []; a = 0; rows = [] } } in
    let same : c.requires.0 ≡ table = sym (c.table_of.ensures d ∙ ap (λ (ds : List Dep). (get_or ds (get_or fates 0 c.index-fates-0.result).0.dep d).table) there ∙ first.1 d) in
    let alike : numbers_of fates ≡ c.in_ok-pieces-in-len1-up.pieces.numbers = numbers ∙ ap (λ (t : ℕ). numbers_in (table_pieces t deps)) same ∙ sym numbers-are in
    subst (λ (all : List Piece). All (λ (number : Piece). number.row + 1 < 2 ^ 64) all) (sym alike) c.in_ok-pieces-in-len1-up.ensures.rows

pub returns-in-empty : goal.returns-in-empty
returns-in-empty c =
    let rules = c.args.rules.now in
    let deps = book_deps rules in
    let fates = c.args.found.now.fates in
    let few = subst (λ (all : List (Piece × Fate)). length all < 1) c.as_slice-fates.ensures c.in-empty.len_below in
    if_ok _ (λ text. (table : ℕ) → AreNumbersOf table deps fates → IsCoverText rules.schema deps table fates text.items) (λ text is table numbers. no_text rules.schema (table_pieces table deps) fates text.items few numbers is) c.no_fates.result c.no_fates.ensures

pub returns-in_ok-pieces-in-len1-up : goal.returns-in_ok-pieces-in-len1-up
returns-in_ok-pieces-in-len1-up c =
    let rules = c.args.rules.now in
    let deps = book_deps rules in
    let fates = c.as_slice-fates.result.now in
    let mine = c.table_of.result in
    let there = c.as_slice-deps.ensures ∙ c.deps.ensures.deps in
    let deps-are = c.in_ok-pieces-in-len1-up.ensures.deps ∙ ap (λ (ds : List Dep). deps_in (table_pieces mine ds)) there in
    let d : Dep = record { name = []; table = 0; rule = record { x = []; a = 0; rows = [] } } in
    if_ok _ (λ text. (table : ℕ) → AreNumbersOf table deps c.args.found.now.fates → IsCoverText rules.schema deps table c.args.found.now.fates text.items)
    (λ text is table numbers.
    let here = subst (λ (all : List (Piece × Fate)). AreNumbersOf table deps all) (sym c.as_slice-fates.ensures) numbers in
    let first = first_of table deps fates here (omega (arith, c.in-len1-up.len_at_least)) c.index-fates-0.result in
    let same : mine ≡ table = c.table_of.ensures d ∙ ap (λ (ds : List Dep). (get_or ds (get_or fates 0 c.index-fates-0.result).0.dep d).table) there ∙ first.1 d in
    let of_schema = subst (λ (schema : Schema). IsTextOf schema c.in_ok-pieces-in-len1-up.pieces.deps fates text.items) c.schema.ensures.schema is in
    let of_deps = subst (λ (ds : List Dep). IsTextOf rules.schema ds fates text.items) deps-are of_schema in
    let of_table = subst (λ (t : ℕ). IsTextOf rules.schema (deps_in (table_pieces t deps)) fates text.items) same of_deps in
    subst (λ (all : List (Piece × Fate)). IsTextOf rules.schema (deps_in (table_pieces table deps)) all text.items) c.as_slice-fates.ensures of_table)
    c.fates_text.result c.fates_text.ensures
