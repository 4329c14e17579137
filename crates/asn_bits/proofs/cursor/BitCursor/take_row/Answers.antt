-- So many octets are there, and the cursor passes them.
use Rattle.std.proofs.Common.{rules, ◌≡◌, ◌+◌, ◌-◌, ◌*◌, ◌≤◌, [], length, take, drop, sym, ◌∙◌, subst, arith, length-drop}
use Rattle.std.proofs.lemmas.List.{length-take-le}
use Rattle.asn_bits.specs.Moves.{Taken}
use Rattle.asn_bits.specs.Numbers.{unpacked}
use Rattle.asn_bits.proofs.Reading.{drop-unpacked, bits_passed, bits_there}
use Rattle.asn_bits.proofs.cursor.BitCursor.take_row.Goals as goal

pub front_row-requires-clause-there : goal.front_row-requires-clause-there
front_row-requires-clause-there c =
    let s = c.self.inside in
    let h = bits_there s.octets.now c.args.self.now s.offset (8 * c.args.count) c.self.view_is c.self.invariant.1 c.requires in
    omega arith

pub slice_bounds-self-count : goal.slice_bounds-self-count
slice_bounds-self-count c =
    let s = c.self.inside in
    let h = bits_there s.octets.now c.args.self.now s.offset (8 * c.args.count) c.self.view_is c.self.invariant.1 c.requires in
    omega arith

pub slice_bounds-self-start : goal.slice_bounds-self-start
slice_bounds-self-start c =
    let s = c.self.inside in
    let h = bits_there s.octets.now c.args.self.now s.offset (8 * c.args.count) c.self.view_is c.self.invariant.1 c.requires in
    let l : c.args.count ≤ length s.octets.now = omega arith in
    search rules

pub invariant_of-self : goal.invariant_of-self
invariant_of-self c =
    let s = c.self.inside in
    let os = s.octets.now in
    let n = c.args.count in
    let h = bits_there os c.args.self.now s.offset (8 * n) c.self.view_is c.self.invariant.1 c.requires in
    let l : length (take (length os - n) (drop n os)) ≡ length os - n = length-take-le (length os - n) (drop n os) (omega (arith, length-drop n os)) in
    (c.self.invariant.0, omega arith)

pub returns-clause-ok : goal.returns-clause-ok
returns-clause-ok c =
    let s = c.self.inside in
    let os = s.octets.now in
    let n = c.args.count in
    let new = c.in_ok-row.row.items in
    let v : drop s.offset (unpacked os) ≡ c.args.self.now = c.self.view_is in
    let passed = sym (drop-unpacked n s.offset os) ∙ bits_passed os n s.offset (8 * n + s.offset) (omega arith) in
    subst (λ t. Taken n t (drop s.offset (unpacked (take (length os - n) (drop n os)))) [] new) v
    (subst (λ t. Taken n (drop s.offset (unpacked os)) t [] new) passed c.in_ok-row.ensures)
