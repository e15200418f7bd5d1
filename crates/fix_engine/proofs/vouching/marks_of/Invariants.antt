use Rattle.std.proofs.Common.{◌≡◌, ℕ, take}
use Rattle.std.specs.Prelude.{All}
use Rattle.rule_runs.specs.Marks.{marked}
use Rattle.fix_engine.specs.Questions.{IsNoAttr, is_vouched}
use Rattle.fix_engine.proofs.vouching.marks_of.Given as goal

abbrev pub invariant-loop-name : goal.invariant-loop-name
invariant-loop-name l = record {
  marks : (attr : ℕ) → marked l.marks attr ≡ is_vouched l.table.attrs (take l.name-index l.names) attr;
  known : All (λ name. ¬ IsNoAttr l.table.attrs name) (take l.name-index l.names);
}
