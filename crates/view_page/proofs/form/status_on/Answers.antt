use Rattle.std.proofs.Common.{◌≡◌, ◌↔◌, [], IsTrue, subst}
use Rattle.bench_core.specs.Bench.{BenchModel}
use Rattle.violation_report.specs.Listing.{IsSatisfied, listing}
use Rattle.view_page.proofs.Statuses.{clean_law, clean_told, found_law, found_told}
use Rattle.view_page.proofs.form.status_on.Goals as goal

pub returns-then-is_clean : goal.returns-then-is_clean
returns-then-is_clean c =
    let bench = c.args.bench.now in
    let empty = subst (λ (b : BenchModel). IsTrue c.is_clean.result ↔ (listing b.rules b.history.present ≡ [])) c.queries.ensures c.is_clean.ensures.empty in
    let law = subst (λ (b : BenchModel). IsTrue c.is_clean.result ↔ IsSatisfied b.rules b.history.present) c.queries.ensures c.is_clean.ensures.law in
    record {
      status = clean_told (listing bench.rules bench.history.present) c.is_clean.result empty c.if-is_clean.true;
      law = clean_law (IsSatisfied bench.rules bench.history.present) c.is_clean.result law c.if-is_clean.true;
      whole = tt;
    }

pub returns-else-is_clean : goal.returns-else-is_clean
returns-else-is_clean c =
    let bench = c.args.bench.now in
    let empty = subst (λ (b : BenchModel). IsTrue c.is_clean.result ↔ (listing b.rules b.history.present ≡ [])) c.queries.ensures c.is_clean.ensures.empty in
    let law = subst (λ (b : BenchModel). IsTrue c.is_clean.result ↔ IsSatisfied b.rules b.history.present) c.queries.ensures c.is_clean.ensures.law in
    record {
      status = found_told (listing bench.rules bench.history.present) c.is_clean.result empty c.if-is_clean.false;
      law = found_law (IsSatisfied bench.rules bench.history.present) c.is_clean.result law c.if-is_clean.false;
      whole = tt;
    }
