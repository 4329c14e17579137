use Rattle.std.proofs.Common.{◌≡◌, ◌<◌, ◌^◌, drop}
use Rattle.asn_view.specs.Paths.{with_digits}
use Rattle.asn_view.proofs.path.index_in.Given as goal

-- the digits that are left go on from the number so far, which has as many digits as were passed
abbrev pub invariant-loop-octet : goal.invariant-loop-octet
invariant-loop-octet l =
    (l.number < 10 ^ l.octet-index) × (with_digits l.number (drop l.octet-index l.piece) ≡ with_digits 0 l.piece)
