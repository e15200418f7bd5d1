use Rattle.std.proofs.Common.{inl, inr, ◌≡◌, get_or, ap, ◌∙◌, sym, subst, arith}
use Rattle.std.specs.Str.{IsUtf8}
use Rattle.std.proofs.lemmas.Bool.{cases_lt}
use Rattle.std.proofs.lemmas.List.{get_or_default}
use Rattle.cert_text.proofs.print.see_texts.Goals as goal

pub loop-text-preserved : goal.loop-text-preserved
loop-text-preserved c k d less = elim (cases_lt k c.loop-text.text-index) [
  | inl before ↦ c.loop-text.invariant k d before
  | inr at ↦ (
      let texts = c.args.texts.now in
      let i = c.loop-text.text-index in
      let same : k ≡ i = omega arith in
      let item : get_or texts k d ≡ c.text-item.result = ap (λ n. get_or texts n d) same ∙ get_or_default texts i d c.text-item.result c.loop-text-test.true ∙ sym c.text-item.is in
      subst IsUtf8 (sym item) c.as_str-bytes.ensures.utf8)
]

pub returns : goal.returns
returns c k d within = c.loop-text.invariant k d (omega (arith, c.loop-text-test.false))
