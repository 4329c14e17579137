use Rattle.std.proofs.Common.{◌≡◌, ◌-◌, ◌<◌, ◌/◌, [], ℕ, List, length, refl, ap, subst, ◌∙◌, arith}
use Rattle.std.proofs.Math.Nat.{pos_of_div-pos}
use Rattle.asn_walk.proofs.Listing.{Appends}
use Rattle.asn_walk.proofs.Parts.{fields_part_of}
use Rattle.asn_walk_feed.specs.declared.frame.Elements.{Elements}
use Rattle.asn_walk_feed.proofs.Leaves.{row_wanted}
use Rattle.asn_walk_feed.proofs.OctetsRead.{octets_row}
use Rattle.asn_walk_feed.proofs.octet_runs.take_run.Goals as goal

pub returns-clause-done : goal.returns-clause-done
returns-clause-done g c = λ all h.
    let U = g.R.ReadLeaves.rules.to_units in
    let coding = g.K.InFragments.coding c.args.kind.now in
    let q : Elements g.row.R-Fragments.Denot ℕ = c.args.octets.now in
    let n = c.in_ok-count.count in
    let fresh : q.next_part ≡ [] = c.is_none.ensures.0 c.if-not-is_none.false in
    let row : Appends g.R.ReadLeaves.rules.ruling.fielding coding.octet n q.elements.items c.take_row.new.into.items (U c.args.units.now) (U c.take_row.new.self) = rw c.make_room.ensures at c.in_ok-count.ensures.done in
    octets_row g.R.ReadLeaves.rules c.keep_laws.ensures c.keep_feed_laws.ensures coding c.keep_octet_laws.ensures g.R.ReadLeaves.ahead g.R.ReadLeaves.is_between q (record q { elements = c.take_row.new.into; left = q.left - n }) all (U c.args.units.now) (U c.take_row.new.self) n
    c.requires.left h fresh (omega (arith, c.in_ok-count.ensures.few)) refl fresh row

pub returns-clause-wanted : goal.returns-clause-wanted
returns-clause-wanted g c = λ t e.
    let U = g.R.ReadLeaves.rules.to_units in
    let coding = g.K.InFragments.coding c.args.kind.now in
    let old = U c.args.units.now in
    let there : c.octets_left-there.result ≡ length old / g.R.ReadLeaves.rules.octet_units = c.octets_left-there.ensures ∙ ap (λ (us : List ℕ). length (U us) / g.R.ReadLeaves.rules.octet_units) c.ahead.ensures in
    let came : 0 < length old = pos_of_div-pos g.R.ReadLeaves.rules.octet_units (subst (λ (k : ℕ). 0 < k) there (omega (arith, c.if-there-lt-LEAST.false))) in
    let none : U c.take_row.new.self ≡ [] = ap U e ∙ c.keep_feed_laws.ensures.none in
    row_wanted (fields_part_of g.R.ReadLeaves.rules c.keep_laws.ensures) c.keep_octet_laws.ensures.octet c.keep_octet_laws.ensures.some c.in_ok-count.count c.in_ok-count.ensures.done.spelt (omega (arith, came, ap length none))
