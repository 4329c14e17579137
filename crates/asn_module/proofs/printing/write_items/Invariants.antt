use Rattle.std.proofs.Common.{◌≡◌, ◌++◌, drop, map}
use Rattle.std.specs.Prelude.{string_bytes}
use Rattle.asn_values.specs.View.{label_of}
use Rattle.asn_module.specs.Printing.{after_spaces, items_tokens}
use Rattle.asn_module.proofs.printing.write_items.Given as goal

abbrev pub invariant-loop-item : goal.invariant-loop-item
invariant-loop-item l =
    string_bytes l.out ++ after_spaces (items_tokens l.comma (map label_of (drop l.item-index l.items))) ≡ string_bytes l.fn.out ++ after_spaces (items_tokens l.follow (map label_of l.items))
