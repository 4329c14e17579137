-- As many octets more as there is room for.
use Rattle.std.proofs.Common.{◌≡◌, ◌++◌, ℕ, List, [], ◌∷◌, length, drop, refl, sym, ap, subst, ◌∙◌, append_assoc, take-append-drop, arith}
use Rattle.std.proofs.lemmas.Bool.Decides.{nat_tests}
use Rattle.asn_bits.specs.Numbers.{unpacked}
use Rattle.asn_bits.proofs.Splits.{unpacked-append}
use Rattle.asn_window.specs.OctetWriters.{OctetsStand}
use Rattle.asn_window.proofs.Delivered.{retold}
use Rattle.asn_window.proofs.Shifting.{after_waiting}
use Rattle.asn_window.proofs.octet_writer.OctetWriter.put_parts.Goals as goal

pub loop-rest-preserved : goal.loop-rest-preserved
loop-rest-preserved g c start coming all told =
    let rest = c.loop-rest.rest.now in
    let front = c.split_at.result.0.now in
    let others = c.split_at.result.1.now in
    let count = c.min-count.result in
    let parts : rest ≡ front ++ others =
    sym (take-append-drop count rest) ∙ ap (λ t. t ++ drop count rest) (sym c.split_at.ensures.front) ∙ ap (λ t. front ++ t) (sym c.split_at.ensures.back) in
    let cut : unpacked rest ++ coming ≡ unpacked front ++ (unpacked others ++ coming) =
    ap (λ t. t ++ coming) (ap unpacked parts ∙ unpacked-append front others) ∙ append_assoc (unpacked front) (unpacked others) coming in
    let now = c.make_room.ensures.told start (unpacked rest ++ coming) all (c.loop-rest.invariant start coming all told) in
    retold (ap (λ t. unpacked c.make_room.new.self.buffer ++ t) cut
    ∙ after_waiting c.make_room.new.self.buffer front (unpacked front) (unpacked others ++ coming) c.extend.new.self c.extend.ensures refl) now

pub returns : goal.returns
returns g c start coming all told =
    let none : c.loop-rest.rest.now ≡ [] = nothing c.loop-rest.rest.now (grind (arith, nat_tests)) in
    subst (λ (xs : List ℕ). OctetsStand start (g.O.Output.held c.loop-rest.output) c.loop-rest.self (unpacked xs ++ coming) all) none
    (c.loop-rest.invariant start coming all told)
  where
    nothing : (xs : List ℕ) → length xs ≡ 0 → xs ≡ []
    nothing [] e = refl
    nothing (x ∷ xs) e = absurd (omega (arith, e))
