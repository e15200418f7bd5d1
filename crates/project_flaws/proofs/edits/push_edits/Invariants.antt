use Rattle.std.proofs.Common.{◌≡◌, ◌++◌, take}
use Rattle.project_flaws.specs.Told.{edits_clean, edits_text}
use Rattle.project_flaws.proofs.edits.push_edits.Given as goal

abbrev pub invariant-loop-rule : goal.invariant-loop-rule
invariant-loop-rule l = record {
  text : l.out.items ≡ l.fn.out.items ++ edits_text l.schema l.all (take l.rule-index l.rules);
  clean : l.clean ≡ edits_clean l.schema l.all (take l.rule-index l.rules);
}
