use Rattle.std.proofs.Common.{suc, ◌≡◌, ◌-◌, sym, ◌∙◌, ap, option_map, arith}
use Rattle.desk_entries.specs.Kept.{entry_kept}
use Rattle.desk_entries.proofs.Tied.{entry-kept}
use Rattle.desk_entries.proofs.entries.Entries.entry.Goals as goal

pub returns : goal.returns
returns c =
    let number : c.args.number ≡ suc (c.args.number - 1) = omega arith in
    rw (sym c.self.view_is) (ap (option_map entry_kept) (rw c.as_slice.ensures.value at c.kept_at.ensures) ∙ sym (entry-kept c.self.inside.list.items (c.args.number - 1) c.args.number number))
