use Rattle.std.proofs.Common.{◌≡◌, ◌++◌, ℕ, List, codes, length, get_or, Some, Err, refl, ap, ◌∙◌}
use Rattle.std.specs.Prelude.{Any, slice_get}
use Rattle.std.proofs.lemmas.Option.{slice_get_read}
use Rattle.schema_core.specs.Lookups.{attrs_at}
use Rattle.schema_core.specs.declared.schema.Attr.{Attr}
use Rattle.schema_core.specs.declared.schema.Schema.{Schema}
use Rattle.schema_core.specs.declared.schema.Table.{Table}
use Rattle.rule_model.specs.Books.{Book}
use Rattle.fix_engine.proofs.NamedAttrs.{attrs_read}
use Rattle.fix_engine.specs.declared.fault.FixFault.{FixFault}
use Rattle.fix_engine.specs.Questions.{IsNoAttr}
use Rattle.edit_replies.specs.EditReplies.{refused_text}
use Rattle.edit_replies.proofs.Told.{can-be-asked, can-be-told, is-wide, ok-known, told-unknown, told-verdict}
use Rattle.edit_replies.proofs.fixing.tell_verdict.Goals as goal

pub fix-requires : goal.fix-requires
fix-requires c =
    let bench = c.args.bench.now in
    rw (c.rules-rules.ensures.value, c.pool-pool.ensures) (can-be-asked bench.rules bench.limits bench.texts bench.history.present c.masters.result.now c.args.at.now c.rules-rules.ensures.valid.present c.requires.there c.masters.ensures)

pub push_verdict-requires-clause-old : goal.push_verdict-requires-clause-old
push_verdict-requires-clause-old c =
    let bench = c.args.bench.now in
    let tables : c.as_slice.result.now ≡ bench.rules.schema.tables = c.as_slice.ensures ∙ ap (λ (s : Schema). s.tables) (c.schema.ensures.schema ∙ ap (λ (b : Book). b.schema) c.rules-rules.ensures.value) in
    let attrs = attrs_read bench.rules.schema c.as_slice.result.now c.args.at.now.table c.index-as_slice-at.result tables c.requires.there.there c.index-as_slice-at.is in
    let wide = is-wide bench.rules bench.limits bench.texts bench.history.present c.masters.result.now c.args.at.now c.rules-rules.ensures.valid.present c.requires.there in
    rw (c.as_slice-in-Ok.ensures.value, c.pool-pool.ensures) (wide ∙ ap (λ (as_attrs : List Attr). length as_attrs) attrs, c.requires.there.named)

pub push_verdict-requires-clause-told : goal.push_verdict-requires-clause-told
push_verdict-requires-clause-told c =
    let bench = c.args.bench.now in
    let tables : c.as_slice.result.now ≡ bench.rules.schema.tables = c.as_slice.ensures ∙ ap (λ (s : Schema). s.tables) (c.schema.ensures.schema ∙ ap (λ (b : Book). b.schema) c.rules-rules.ensures.value) in
    let attrs = attrs_read bench.rules.schema c.as_slice.result.now c.args.at.now.table c.index-as_slice-at.result tables c.requires.there.there c.index-as_slice-at.is in
    can-be-told c.rules-rules.result.now c.pool-pool.result.now c.args.at.now.table c.index-as_slice-at.result (rw c.rules-rules.ensures.value attrs) _ refl c.in-Ok.verdict c.in-Ok.ensures.verdict.shown c.in-Ok.ensures.tuples

pub returns-in-Ok : goal.returns-in-Ok
returns-in-Ok c =
    let bench = c.args.bench.now in
    let tables : c.as_slice.result.now ≡ bench.rules.schema.tables = c.as_slice.ensures ∙ ap (λ (s : Schema). s.tables) (c.schema.ensures.schema ∙ ap (λ (b : Book). b.schema) c.rules-rules.ensures.value) in
    let table = c.index-as_slice-at.result in
    let is : slice_get bench.rules.schema.tables c.args.at.now.table ≡ Some table =
    slice_get_read bench.rules.schema.tables (length bench.rules.schema.tables) c.args.at.now.table table refl c.requires.there.there (c.index-as_slice-at.is ∙ ap (λ (ts : List Table). get_or ts c.args.at.now.table table) tables) in
    let known : ¬ Any (IsNoAttr (attrs_at bench.rules.schema c.args.at.now.table)) c.args.vouched.now = rw c.rules-rules.ensures.value at (ok-known c.in-Ok.verdict _ c.in-Ok.ensures.unknown) in
    told-verdict bench.rules bench.limits bench.history bench.texts c.args.at.now c.rules-rules.ensures.valid.present c.requires.there table is c.args.vouched.now
    c.masters.result.now c.masters.ensures c.in-Ok.verdict known c.push_verdict.result c.args.reply.now.items c.push_verdict.new.reply.items c.requires.reply
    (rw (c.rules-rules.ensures.value, c.pool-pool.ensures) at c.in-Ok.ensures.verdict) (rw (c.rules-rules.ensures.value, c.pool-pool.ensures) at c.in-Ok.ensures.rows)
    (rw (c.rules-rules.ensures.value, c.pool-pool.ensures, c.as_slice-in-Ok.ensures.value) at c.push_verdict.ensures.text) (rw c.pool-pool.ensures at c.push_verdict.ensures.values)

pub returns-in_ok-push_refused-in-Err-UnknownAttr : goal.returns-in_ok-push_refused-in-Err-UnknownAttr
returns-in_ok-push_refused-in-Err-UnknownAttr c name place =
    let bench = c.args.bench.now in
    let tables : c.as_slice.result.now ≡ bench.rules.schema.tables = c.as_slice.ensures ∙ ap (λ (s : Schema). s.tables) (c.schema.ensures.schema ∙ ap (λ (b : Book). b.schema) c.rules-rules.ensures.value) in
    let table = c.index-as_slice-at.result in
    let is : slice_get bench.rules.schema.tables c.args.at.now.table ≡ Some table =
    slice_get_read bench.rules.schema.tables (length bench.rules.schema.tables) c.args.at.now.table table refl c.requires.there.there (c.index-as_slice-at.is ∙ ap (λ (ts : List Table). get_or ts c.args.at.now.table table) tables) in
    let unknown = rw c.rules-rules.ensures.value at (c.in-Err-UnknownAttr.ensures.unknown.0 (ap (λ (f : FixFault). Err f) c.in-Err-UnknownAttr.field-0-is)) in
    let told = c.in_ok-push_refused-in-Err-UnknownAttr.ensures ∙ ap (λ (s : List ℕ). s ++ refused_text (codes "UnknownAttr")) c.requires.reply in
    told-unknown bench.rules bench.limits bench.history bench.texts c.args.at.now c.rules-rules.ensures.valid.present c.requires.there table is c.args.vouched.now c.push_refused.new.out.items unknown told name place
