use Rattle.std.proofs.Common.{◌≡◌, ◌<◌, length, true, false, sym, ◌∙◌, arith}
use Rattle.std.proofs.lemmas.List.{drop_all}
use Rattle.schema_core.specs.Schemas.{admits}
use Rattle.bench_core.proofs.Domains.{outside_domain-admitted, outside_domain-outside}
use Rattle.bench_core.proofs.checks.outside_domain.Goals as goal

pub loop-place-preserved : goal.loop-place-preserved
loop-place-preserved c =
    let in_texts : c.loop-place.place < length c.args.texts.now = omega arith in
    let admitted : admits c.index-attrs-place.result.domain c.index-texts-place.result ≡ true = cc (c.as_str.ensures.bytes, c.admits.ensures.test, c.if-not-admits.false) in
    sym (outside_domain-admitted c.args.attrs.now c.args.texts.now c.loop-place.place c.index-attrs-place.result c.index-texts-place.result c.loop-place-test.true in_texts c.index-attrs-place.is c.index-texts-place.is admitted) ∙ c.loop-place.invariant

pub returns-then-not-admits : goal.returns-then-not-admits
returns-then-not-admits c =
    let in_texts : c.loop-place.place < length c.args.texts.now = omega arith in
    let outside : admits c.index-attrs-place.result.domain c.index-texts-place.result ≡ false = cc (c.as_str.ensures.bytes, c.admits.ensures.test, c.if-not-admits.true) in
    sym (outside_domain-outside c.args.attrs.now c.args.texts.now c.loop-place.place c.index-attrs-place.result c.index-texts-place.result c.loop-place-test.true in_texts c.index-attrs-place.is c.index-texts-place.is outside) ∙ c.loop-place.invariant

pub returns : goal.returns
returns c = rw (drop_all c.loop-place.place c.args.attrs.now c.loop-place-test.false) at c.loop-place.invariant
