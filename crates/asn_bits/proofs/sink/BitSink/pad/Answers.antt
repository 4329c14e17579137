-- The zeros that fill the last octet are the padding.
use Rattle.std.proofs.Common.{◌≡◌, ◌++◌, ◌-◌, ◌%◌, [], length, arith, ap, sym, subst, ◌∙◌, OnOk}
use Rattle.std.proofs.lemmas.List.{append-nil}
use Rattle.asn_bits.specs.Numbers.{bits, unpacked, padding}
use Rattle.asn_bits.proofs.Packing.{padding_view}
use Rattle.asn_bits.proofs.sink.BitSink.pad.Goals as goal

pub returns-then-count-eq0-clause-ok : goal.returns-then-count-eq0-clause-ok
returns-then-count-eq0-clause-ok c =
    let s = c.self.inside in
    let v : unpacked s.octets.items ++ bits s.count s.pending ≡ c.args.self.now = c.self.view_is in
    let whole : (8 - s.count % 8) % 8 ≡ 0 = omega arith in
    let none : bits ((8 - s.count % 8) % 8) 0 ≡ [] = ap (λ k. bits k 0) whole in
    let e : padding (length c.args.self.now) ≡ [] = ap (λ t. padding (length t)) (sym v) ∙ padding_view s.octets.items s.count s.pending ∙ none in
    sym (append-nil c.args.self.now) ∙ ap (λ t. c.args.self.now ++ t) (sym e)

pub returns-clause-ok : goal.returns-clause-ok
returns-clause-ok c =
    let s = c.self.inside in
    let v : unpacked s.octets.items ++ bits s.count s.pending ≡ c.args.self.now = c.self.view_is in
    let same : (8 - s.count % 8) % 8 ≡ 8 - s.count % 8 = omega arith in
    let e : padding (length c.args.self.now) ≡ bits (8 - s.count % 8) 0 =
    ap (λ t. padding (length t)) (sym v) ∙ padding_view s.octets.items s.count s.pending ∙ ap (λ k. bits k 0) same in
    let h = c.append.ensures.ok in
    subst (λ t. OnOk c.append.result (c.append.new.self ≡ c.args.self.now ++ t)) (sym e) h
