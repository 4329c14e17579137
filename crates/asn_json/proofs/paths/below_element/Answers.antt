use Rattle.std.proofs.Common.{◌≡◌, ◌++◌, string_bytes, slice_get, Some, append_assoc, rules}
use Rattle.asn_json.specs.Paths.{to_element}
use Rattle.asn_json.proofs.Firsts.{first_below}
use Rattle.asn_json.proofs.paths.below_element.Goals as goal

pub returns-in-Ok : goal.returns-in-Ok
returns-in-Ok c = λ paths h.
    let path = string_bytes c.in-Shape.path in
    let told : slice_get paths 0 ≡ Some path = rw c.in-Shape.is at h.told in
    let text : string_bytes c.in-Ok.path ≡ to_element c.args.index ++ path = simp append_assoc (search rules) in
    record { told = first_below (to_element c.args.index) paths path (string_bytes c.in-Ok.path) told text }
