use Rattle.view_list.specs.Listed.{cind_head, keys_text}
use Rattle.view_list.proofs.Ends.{second}
use Rattle.view_list.proofs.listed.push_cind.Goals as goal

pub returns : goal.returns
returns c =
    let schema = c.args.schema.now in
    let cind = c.args.cind.now in
    let missing = c.args.missing.now in
    second c.push_all_keys.result c.args.out.now.items c.push_cind_head.new.out.items c.push_all_keys.new.out.items (cind_head schema cind missing) (keys_text c.args.most schema c.args.counts.now cind missing) c.in_ok-push_cind_head.ensures c.push_all_keys.ensures
