-- There is no bit where there is no octet and none waits.
use Rattle.std.proofs.Common.{◌≡◌, ◌++◌, length, arith, sym, ◌∙◌, eq-eqb, eqb-true}
use Rattle.std.specs.Prelude.{vec_len}
use Rattle.asn_bits.specs.Numbers.{bits, unpacked}
use Rattle.asn_bits.proofs.Packing.{empty_view, view_empty}
use Rattle.asn_bits.proofs.sink.BitSink.is_empty.Goals as goal

pub returns-then-self-eq0 : goal.returns-then-self-eq0
returns-then-self-eq0 c =
    let s = c.self.inside in
    let os = s.octets.items in
    let v : unpacked os ++ bits s.count s.pending ≡ c.args.self.now = c.self.view_is in
    let l : length os ≡ vec_len s.octets = omega arith in (
      λ t. sym v ∙ view_empty os s.count s.pending (l ∙ eqb-true (vec_len s.octets) 0 (sym c.is_empty.ensures ∙ t)) c.if-self-eq0.true,
      λ e. c.is_empty.ensures ∙ eq-eqb (vec_len s.octets) 0 (sym l ∙ (empty_view os s.count s.pending (v ∙ e)).0),
    )

pub returns-else-self-eq0 : goal.returns-else-self-eq0
returns-else-self-eq0 c =
    let s = c.self.inside in
    let os = s.octets.items in
    let v : unpacked os ++ bits s.count s.pending ≡ c.args.self.now = c.self.view_is in
    (λ t. absurd (c.if-self-eq0.false (eqb-true s.count 0 t)), λ e. absurd (c.if-self-eq0.false (empty_view os s.count s.pending (v ∙ e)).1))
