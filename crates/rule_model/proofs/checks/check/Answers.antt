use Rattle.std.proofs.Common.{subst}
use Rattle.rule_model.specs.declared.counts.Counts.{Counts}
use Rattle.rule_model.specs.Faults.{Finds, duplicate_rule, schema_tests, too_many, fault_of}
use Rattle.rule_model.proofs.Firsts.{told_last}
use Rattle.rule_model.proofs.checks.check.Goals as goal

pub returns : goal.returns
unfolding fault_of
returns c =
    let told = subst (λ (counts : Counts). Finds c.keep.result (too_many c.args.limits.now counts)) c.requires c.keep.ensures in
    told_last c.keep.result (duplicate_rule c.args.earlier.now c.args.decl.now) (schema_tests c.args.schema.now c.args.decl.now) _ c.in_ok-name_is_new.ensures c.in_ok-check_over_schema.ensures told
