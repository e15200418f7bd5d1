use Rattle.std.proofs.lemmas.List.Sorted.{IsPermutation-sym}
use Rattle.cind_index.proofs.OrphanFacts.{orphans_listed}
use Rattle.cind_index.proofs.index.CindIndex.orphans.Goals as goal

pub returns-clause-orphans : goal.returns-clause-orphans
returns-clause-orphans g c t at =
    orphans_listed c.args.self.now.keys t c.in_ok-found.found.items c.sort.new.self.items c.dedup.new.self.items (c.in_ok-found.ensures.orphans t at)
    c.sort.ensures.permutation (IsPermutation-sym c.in_ok-found.found.items c.sort.new.self.items c.sort.ensures.permutation) c.in_ok-sort.ensures.sorted c.dedup.ensures.filtered
