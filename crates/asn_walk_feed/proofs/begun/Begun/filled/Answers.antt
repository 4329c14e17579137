use Rattle.std.proofs.Common.{◌≡◌, ◌-◌, ◌∷◌, ◌++◌, ℕ, List, [], length, ap, ◌∙◌, append_assoc}
use Rattle.asn_bits.specs.Numbers.{bits, unpacked}
use Rattle.asn_bits.proofs.Splits.{unpacked-append, unpacked-octets, bytes-octets}
use Rattle.asn_walk_feed.proofs.begun.Begun.filled.Goals as goal

pub returns-clause-bits : goal.returns-clause-bits
returns-clause-bits c =
    let now = c.args.self.now in
    let n = c.in_front.result in
    let zeros : List ℕ = 0 ∷ 0 ∷ 0 ∷ 0 ∷ 0 ∷ 0 ∷ 0 ∷ 0 ∷ [] in
    let front : unpacked c.copy_from_slice.new.self ≡ now ++ bits (128 - length now) 0 =
    ap unpacked (c.copy_from_slice.ensures.after ∙ c.to_be_bytes.ensures ∙ bytes-octets 16 n) ∙ unpacked-octets 16 n ∙ c.in_front.ensures in
    let all = unpacked-append c.copy_from_slice.new.self zeros ∙ ap (λ (us : List ℕ). us ++ unpacked zeros) front in
    (bits (128 - length now) 0 ++ unpacked zeros, all ∙ append_assoc now (bits (128 - length now) 0) (unpacked zeros))
