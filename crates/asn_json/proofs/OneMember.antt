-- Objects with one member.
use Rattle.std.proofs.Common.{◌≡◌, List, [], ◌∷◌, length, Some, None, slice_get, string_bytes, refl, arith}
use Rattle.serde_json.specs.View.{view, members_view}
use Rattle.serde_json.proofs.Views.{Entry}
use Rattle.asn_json.specs.Shown.{single}

pub one_member : (es : List Entry) (e : Entry) → length es ≡ 1 → slice_get es 0 ≡ Some e → single (members_view es) ≡ Some (string_bytes e.0, view e.1)
one_member [] e h s = absurd (omega arith)
one_member (x ∷ []) e h s =
    let same : x ≡ e = cc in
    rw same refl
one_member (x ∷ y ∷ es) e h s = absurd (omega arith)

pub other_members : (es : List Entry) → (length es ≡ 1 → ⊥) → single (members_view es) ≡ None
other_members [] h = refl
other_members (x ∷ []) h = absurd (h refl)
other_members (x ∷ y ∷ es) h = refl
