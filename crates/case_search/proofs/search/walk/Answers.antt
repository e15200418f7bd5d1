use Rattle.std.proofs.Common.{◌∙◌}
use Rattle.case_search.proofs.search.walk.Goals as goal

pub walk_on-requires : goal.walk_on-requires
walk_on-requires c = record {
  one_free = c.requires.one_free;
  some = c.requires.some;
  within = c.requires.within;
  vars = c.in_ok-trail.ensures.vars ∙ c.vars.ensures.count;
  at_root = c.in_ok-trail.ensures.path;
  counted = c.in_ok-guards.ensures.vars;
  guarded = c.in_ok-guards.ensures.guarded;
}
