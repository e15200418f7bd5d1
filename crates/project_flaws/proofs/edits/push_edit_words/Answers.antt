use Rattle.std.proofs.Common.{◌∙◌}
use Rattle.std.specs.Prelude.{codes}
use Rattle.view_refusal.proofs.Ends.{ends_ok, three_pieces}
use Rattle.project_flaws.proofs.edits.push_edit_words.Goals as goal

pub returns : goal.returns
returns c =
    ends_ok c.extend_from_slice-3.result c.extend_from_slice-3.new.self.items c.extend_from_slice-2.new.self.items (codes " ") _ c.extend_from_slice-3.ensures.items
    (three_pieces c.args.out.now.items (codes "edit ") c.args.rule.now.name (codes " ") c.extend_from_slice.new.self.items c.extend_from_slice-2.new.self.items c.as_bytes.result.now
    c.in_ok-extend_from_slice.ensures.items (c.as_bytes.ensures.value ∙ c.as_str.ensures.bytes) c.in_ok-extend_from_slice-2.ensures.items)
