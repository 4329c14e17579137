-- As many octets more as there is room for, after the bits that wait.
use Rattle.std.proofs.Common.{◌≡◌, ◌++◌, ℕ, List, [], ◌∷◌, length, drop, refl, sym, ap, subst, ◌∙◌, append_assoc, take-append-drop, arith}
use Rattle.std.proofs.lemmas.Bool.Decides.{nat_tests}
use Rattle.asn_bits.specs.Numbers.{bits, unpacked}
use Rattle.asn_bits.proofs.Splits.{unpacked-append}
use Rattle.asn_window.specs.OctetWriters.{OctetsStand}
use Rattle.asn_window.proofs.Delivered.{retold}
use Rattle.asn_window.proofs.Shifting.{after_waiting}
use Rattle.asn_window.proofs.shifted.put_shifted.Goals as goal

pub loop-rest-preserved : goal.loop-rest-preserved
loop-rest-preserved g c start coming all told =
    let k = c.args.count in
    let high = c.loop-rest.high in
    let rest = c.loop-rest.rest.now in
    let front = c.split_at.result.0.now in
    let others = c.split_at.result.1.now in
    let room = c.min-room.result in
    let s = c.extend_shifted-high.ensures in
    let left = c.extend_shifted-high.result in
    let parts : rest ≡ front ++ others =
    sym (take-append-drop room rest) ∙ ap (λ t. t ++ drop room rest) (sym c.split_at.ensures.front) ∙ ap (λ t. front ++ t) (sym c.split_at.ensures.back) in
    let cut : bits k high ++ (unpacked rest ++ coming) ≡ unpacked s.octets ++ (bits k left ++ (unpacked others ++ coming)) =
    ap (λ t. bits k high ++ (t ++ coming)) (ap unpacked parts ∙ unpacked-append front others)
    ∙ ap (λ t. bits k high ++ t) (append_assoc (unpacked front) (unpacked others) coming)
    ∙ sym (append_assoc (bits k high) (unpacked front) (unpacked others ++ coming))
    ∙ ap (λ t. t ++ (unpacked others ++ coming)) (sym s.same)
    ∙ append_assoc (unpacked s.octets) (bits k left) (unpacked others ++ coming) in
    let now = c.make_room.ensures.told start (bits k high ++ (unpacked rest ++ coming)) all (c.loop-rest.invariant start coming all told) in
    retold (ap (λ t. unpacked c.make_room.new.self.buffer ++ t) cut
    ∙ after_waiting c.make_room.new.self.buffer s.octets (unpacked s.octets) (bits k left ++ (unpacked others ++ coming)) c.extend_shifted-high.new.self s.added refl) now

pub returns : goal.returns
returns g c start coming all told =
    let none : c.loop-rest.rest.now ≡ [] = nothing c.loop-rest.rest.now (grind (arith, nat_tests)) in
    subst (λ (xs : List ℕ). OctetsStand start (g.O.Output.held c.loop-rest.output) c.loop-rest.writer (bits c.args.count c.loop-rest.high ++ (unpacked xs ++ coming)) all) none
    (c.loop-rest.invariant start coming all told)
  where
    nothing : (xs : List ℕ) → length xs ≡ 0 → xs ≡ []
    nothing [] e = refl
    nothing (x ∷ xs) e = absurd (omega (arith, e))
