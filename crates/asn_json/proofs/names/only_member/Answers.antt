use Rattle.std.proofs.Common.{◌≡◌, refl, Some, length, sym}
use Rattle.serde_json.specs.Find.{as_object}
use Rattle.serde_json.specs.View.{view, members_view}
use Rattle.asn_values.proofs.Alternatives.{no_truth}
use Rattle.asn_json.proofs.OneMember.{one_member, other_members}
use Rattle.asn_json.proofs.names.only_member.Goals as goal

pub returns-then-not-has_one_member : goal.returns-then-not-has_one_member
returns-then-not-has_one_member c =
    let es = c.in_ok-object.object.now.entries in
    let object : as_object (view c.args.json.now) ≡ Some (members_view es) = sym c.in_ok-object.ensures in
    rw object (sym (other_members es (λ h. no_truth (c.if-not-has_one_member.ensures.1 h))))

pub returns-in-Some : goal.returns-in-Some
returns-in-Some c =
    let es = c.in_ok-object.object.now.entries in
    let object : as_object (view c.args.json.now) ≡ Some (members_view es) = sym c.in_ok-object.ensures in
    let one : length es ≡ 1 = c.if-not-has_one_member.ensures.0 refl in
    let first = one_member es (c.in-Some.name.now, c.in-Some.value.now) one c.in-Some.ensures.first in
    rw (object, first, c.as_str.ensures.value)
