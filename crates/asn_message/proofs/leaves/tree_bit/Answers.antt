use Rattle.std.proofs.Common.{◌∙◌, ap, sym, slice_get, Bool, List, Option}
use Rattle.std.specs.Option.{option_and_then}
use Rattle.asn_values.specs.View.{datum_of}
use Rattle.asn_values.proofs.Views.{datum_of-Bits}
use Rattle.asn_view.specs.Typed.{bits_of}
use Rattle.asn_message.proofs.leaves.tree_bit.Goals as goal

pub returns-in-Bits : goal.returns-in-Bits
returns-in-Bits c =
    let of : Option (List Bool) → Option Bool = option_and_then (λ bs. slice_get bs c.args.index) in
    c.flag_at.ensures ∙ ap (λ bs. slice_get bs c.args.index) c.deref.ensures.value
    ∙ sym (ap (λ d. of (bits_of d)) (ap datum_of c.in-Bits.is ∙ datum_of-Bits c.in-Bits.bits))
