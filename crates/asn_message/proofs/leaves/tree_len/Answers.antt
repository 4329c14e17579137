use Rattle.std.proofs.Common.{◌≡◌, ◌∙◌, sym, rules, length, vec_len}
use Rattle.asn_view.proofs.PartLists.{length_of-List}
use Rattle.asn_message.proofs.leaves.tree_len.Goals as goal

pub returns-in-List : goal.returns-in-List
returns-in-List c =
    let count : vec_len c.in-List.values ≡ length c.in-List.values.items = search rules in
    c.len.ensures ∙ count ∙ sym (length_of-List c.args.value.now c.in-List.values c.in-List.is)
