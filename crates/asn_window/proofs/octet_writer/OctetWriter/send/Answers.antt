-- What waited was written, as far as could be.
use Rattle.std.proofs.Common.{arith, ◌<◌, ◌≡◌, ◌++◌, length, take, List, ℕ, subst, nat_lt, sym, ap, ◌∙◌}
use Rattle.std.proofs.lemmas.Bool.{ltb-true, ltb-false}
use Rattle.std.specs.List.{AllByRecursion}
use Rattle.std.specs.Io.KnownBytes.{Appends}
use Rattle.asn_bits.specs.Numbers.{unpacked}
use Rattle.asn_window.proofs.Delivered.{written_on, retold}
use Rattle.asn_window.proofs.octet_writer.OctetWriter.send.Goals as goal

pub returns-clause-told : goal.returns-clause-told
returns-clause-told g c start coming all told =
    let w = c.args.self.now.buffer in
    let many = c.append-many.result in
    let octets : c.as_slice-waiting.result.now ≡ w = c.as_slice-waiting.ensures in
    let long : length c.as_slice-waiting.result.now ≡ length w = ap length octets in
    let count : c.len.result ≡ length w = c.len.ensures in
    let wrote = c.append-many.ensures in
    let done = written_on {next = g.O.Output.held c.append-many.new.self} {more = c.saturating_add-self.result} {failed = nat_lt many c.len.result} w many c.if-self.false (subst (λ (xs : List ℕ). AllByRecursion (λ o. o < 256) xs) octets c.are_octets.ensures) told
    (omega (arith, wrote.few, long))
    (subst (λ (xs : List ℕ). Appends ((g.O.Output.held c.args.output.now).octets) ((g.O.Output.held c.append-many.new.self).octets) (take many xs)) octets wrote.written)
    c.saturating_add-self.ensures
    (λ e. omega (arith, ltb-true many c.len.result e, count))
    (λ e. omega (arith, ltb-false many c.len.result e, count))
    (λ l. wrote.fault (omega (arith, l, long)))
    (λ e. wrote.same (e ∙ sym long))
    wrote.through in
    retold (sym (ap (λ (xs : List ℕ). unpacked xs ++ coming) c.clear-2.ensures)) done
