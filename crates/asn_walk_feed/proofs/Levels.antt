-- What is taken inside open type fields is paid by the units of these fields.
use Rattle.std.proofs.Common.{◌≡◌, ◌≤◌, ◌<◌, ◌+◌, ◌*◌, ◌++◌, ℕ, zero, suc, min, true, false, Bool, List, [], ◌∷◌, length, length-append, map, get_or, Option, Some, Result, Ok, Err, refl, sym, ap, ◌∙◌, subst, arith}
use Rattle.std.proofs.Math.Nat.{mul-le-mul_left, mul-add, suc-mul}
use Rattle.std.proofs.lemmas.Bool.{true≢false}
use Rattle.asn_values.specs.Measures.{sealed_depth, fields_sealed, additions_sealed, choice_sealed, choice_additions_sealed}
use Rattle.asn_values.specs.Shape.{Shape, SizeRange, Fields, MoreFields, marked, Alternatives, MoreAlternatives, more_alternatives, closed_choice, marked_choice, sequence, sequence_of, choice}
use Rattle.asn_values.specs.View.{shape_of, branch_of, part_of_field, fields_seen, alternatives_of, alternatives_seen}
use Rattle.asn_values.specs.declared.types.Alt.{Alt}
use Rattle.asn_values.specs.declared.types.Field.{Field}
use Rattle.asn_values.proofs.Alternatives.{shape_of_branch}
use Rattle.asn_values.proofs.Components.{shape_of_part}
use Rattle.asn_rules.specs.Chunks.{open_field}
use Rattle.asn_rules.specs.Frames.{Frame as FieldOf}
use Rattle.asn_rules.specs.Languages.{Spells}
use Rattle.asn_rules.specs.declared.stop.Stop.{Stop}
use Rattle.asn_rules.specs.declared.stop.Stop.TheVariants as stop
use Rattle.asn_rules.proofs.Sealed.Headed.{plain_front}
use Rattle.asn_walk.specs.Ahead.{Ahead}
use Rattle.asn_walk.specs.Coding.{Coding}
use Rattle.asn_walk.specs.Laws.{Laws}
use Rattle.asn_walk_feed.specs.Feeding.{StandsAfter}
use Rattle.asn_walk_feed.specs.Levels.{FieldUnits, OpenUnits, Pays, Costs}
use Rattle.asn_walk_feed.specs.Octets.{OctetCoding, OctetsTook, KeepsOctets}
use Rattle.asn_walk_feed.specs.OpenFields.{FieldCoding}
use Rattle.asn_walk_feed.specs.Taken.{with_node}
use Rattle.asn_walk_feed.specs.declared.frame.Components.{Components}
use Rattle.asn_walk_feed.specs.declared.frame.Elements.{Elements}
use Rattle.asn_walk_feed.specs.declared.frame.Frame.{Frame}
use Rattle.asn_walk_feed.specs.declared.frame.Frame.TheVariants as frame
use Rattle.asn_values.specs.declared.value.Value.{Value}

-- ---- an answer that is not that more is wanted

abbrev pub is_short : {V : Type 0} → Result V Stop → Bool
is_short (Ok v) = false
is_short (Err (stop.Refused left why)) = false
is_short (Err stop.Short) = true
is_short (Err stop.Memory) = false

pub never : {X : Type 0} → false ≡ true → X
never e = absurd (true≢false (sym e))

-- ---- sums

sum_le : (a b x y : ℕ) → a ≤ b → x ≤ y → a + x ≤ b + y
sum_le a b x y h k = omega (arith, h, k)

le_then : (x y z : ℕ) → x ≤ y → y ≤ z → x ≤ z
le_then x y z h k = omega (arith, h, k)

fewer : (k i j m n : ℕ) → j ≤ i → m ≤ n → j + k * m ≤ i + k * n
fewer k i j m n h l = sum_le j i (k * m) (k * n) h (mul-le-mul_left k l)

-- ---- what is put together of what its parts cost

module _ {c : Coding} {Old New : ℕ → Type 0} {d i j : ℕ} {us vs : List ℕ} where
  -- nothing was taken inside
  pub costs_same : j ≡ i → length (c.to_units vs) ≤ length (c.to_units us) → New 0 → Costs c Old New d i us j vs
  costs_same e l o = record {
    pays = λ k n h w. record {
      still = 0;
      is_open = o;
      cost = fewer k i j (0 + length (c.to_units vs)) (n + length (c.to_units us)) (omega (arith, e)) (omega (arith, l));
    };
  }

  -- said of a type of which levels lie deeper, and of other nodes
  pub costs_like : {Old' New' : ℕ → Type 0} {d' : ℕ} → Costs c Old' New' d' i us j vs → d' ≤ d
      → ((n : ℕ) → Old n → Old' n) → ((n : ℕ) → New' n → New n) → Costs c Old New d i us j vs
  costs_like {Old'} {New'} {d'} x l f g = record {
    pays = λ k n h w. (
        let p = x.pays k n (le_then d' d k l h) (f n w) in
        record { still = p.still; is_open = g p.still p.is_open; cost = p.cost });
  }

  -- a part in which nothing was taken inside, and no field is open after it
  pub costs_after : {Old' : ℕ → Type 0} {i0 : ℕ} {us0 : List ℕ} {d' : ℕ} → Costs c Old' New d' i us j vs → d' ≤ d → i ≡ i0
      → length (c.to_units us) ≤ length (c.to_units us0) → Old' 0 → Costs c Old New d i0 us0 j vs
  costs_after {Old'} {i0} {us0} {d'} x l e f o = record {
    pays = λ k n h w. (
        let p = x.pays k 0 (le_then d' d k l h) o in
        let q = fewer k i0 i (0 + length (c.to_units us)) (n + length (c.to_units us0)) (omega (arith, e)) (omega (arith, f)) in
        record { still = p.still; is_open = p.is_open; cost = le_then _ _ _ p.cost q });
  }

-- where nothing was taken, and the nodes are the same
pub costs_none : {c : Coding} {Old : ℕ → Type 0} {d i : ℕ} {us : List ℕ} → Costs c Old Old d i us i us
costs_none {c} {Old} {d} {i} {us} = record {
  pays = λ k n h w. record { still = n; is_open = w; cost = fewer k i i (n + length (c.to_units us)) (n + length (c.to_units us)) (omega arith) (omega arith) };
}

module _ {c : Coding} {Old Mid New : ℕ → Type 0} {d i i1 i2 : ℕ} {us us1 us2 : List ℕ} where
  -- one part after the other
  pub costs_then : {Mid' : ℕ → Type 0} {d1 d2 : ℕ} → Costs c Old Mid d1 i us i1 us1 → Costs c Mid' New d2 i1 us1 i2 us2
      → d1 ≤ d → d2 ≤ d → ((n : ℕ) → Mid n → Mid' n) → Costs c Old New d i us i2 us2
  costs_then {Mid'} {d1} {d2} x y l l2 f = record {
    pays = λ k n h w. (
        let p = x.pays k n (le_then d1 d k l h) w in
        let q = y.pays k p.still (le_then d2 d k l2 h) (f p.still p.is_open) in
        record { still = q.still; is_open = q.is_open; cost = le_then _ _ _ q.cost p.cost });
  }

  -- the same where no field is open after the first
  pub costs_next : {Mid' : ℕ → Type 0} {d1 d2 : ℕ} → Costs c Old Mid d1 i us i1 us1 → Costs c Mid' New d2 i1 us1 i2 us2
      → d1 ≤ d → d2 ≤ d → Mid' 0 → Costs c Old New d i us i2 us2
  costs_next {Mid'} {d1} {d2} x y l l2 o = record {
    pays = λ k n h w. (
        let p = x.pays k n (le_then d1 d k l h) w in
        let q = y.pays k 0 (le_then d2 d k l2 h) o in
        let r = fewer k i1 i1 (0 + length (c.to_units us1)) (p.still + length (c.to_units us1)) (omega arith) (omega arith) in
        record { still = q.still; is_open = q.is_open; cost = le_then _ _ _ q.cost (le_then _ _ _ r p.cost) });
  }

  -- and a part in which nothing was taken inside is last
  pub costs_last : {d1 : ℕ} → Costs c Old Mid d1 i us i1 us1 → d1 ≤ d → New 0 → i2 ≡ i1
      → length (c.to_units us2) ≤ length (c.to_units us1) → Costs c Old New d i us i2 us2
  costs_last {d1} x l o e f = record {
    pays = λ k n h w. (
        let p = x.pays k n (le_then d1 d k l h) w in
        let r = fewer k i1 i2 (0 + length (c.to_units us2)) (p.still + length (c.to_units us1)) (omega (arith, e)) (omega (arith, f)) in
        record { still = 0; is_open = o; cost = le_then _ _ _ r p.cost });
  }

-- ---- an open type field

-- it has at least the units of its content
pub content_within : (c : Coding) (laws : Laws c) (os us r : List ℕ) → Spells c.ruling.fielding (FieldOf c.ruling.fielding open_field) os us r
    → length (c.ruling.units os) + length r ≤ length us
content_within c laws os us r s =
    let p = plain_front s in
    let all : length us ≡ length p.0 + length r = ap length p.2 ∙ length-append p.0 r in
    let field : length p.0 ≡ length (c.ruling.fielding.spelled os) = ap length p.1.same in
    let long = laws.tells.long os in
    let count = laws.tells.count os in
    omega (arith, all, field, long, count)

-- what the level of its content took is paid by the units of the field
pub field_pays : (k i j n a b content : ℕ) → j ≤ i + k * content → content + b ≤ n + a → j + k * (0 + b) ≤ i + k * (n + a)
field_pays k i j n a b content h l =
    let sum : k * (content + b) ≡ k * content + k * b = mul-add k content b in
    let most : k * (content + b) ≤ k * (n + a) = mul-le-mul_left k l in
    let none : 0 + b ≡ b = omega arith in
    subst (λ (x : ℕ). j + k * x ≤ i + k * (n + a)) (sym none) (spent j i (k * content) (k * b) (k * (n + a)) h (subst (λ (x : ℕ). x ≤ k * (n + a)) sum most))
  where
    spent : (j i x y z : ℕ) → j ≤ i + x → x + y ≤ z → j + y ≤ i + z
    spent j i x y z h l = omega (arith, h, l)

-- a level of which the levels inside lie k deep costs its units once, and k times inside
pub level_costs : {c : Coding} {Old New : ℕ → Type 0} {d i j : ℕ} {us vs : List ℕ} → Costs c Old New d i us j vs → Old 0 → (t s : ℕ) → t ≤ s + length (c.to_units us)
    → (k : ℕ) → suc d ≤ k → t + j ≤ (s + i) + k * length (c.to_units us)
level_costs {d = d} x o t s h zero l = absurd (omega (arith, l))
level_costs {c = c} {d = d} {i = i} {j = j} {us = us} {vs = vs} x o t s h (suc k) l =
    let n = length (c.to_units us) in
    let p = x.pays k 0 (omega (arith, l)) o in
    let all : suc k * n ≡ k * n + n = suc-mul k n in
    let none : 0 + n ≡ n = omega arith in
    let cost : j + k * (p.still + length (c.to_units vs)) ≤ i + k * n = subst (λ (m : ℕ). j + k * (p.still + length (c.to_units vs)) ≤ i + k * m) none p.cost in
    subst (λ (y : ℕ). t + j ≤ (s + i) + y) (sym all) (both t j s i n (k * (p.still + length (c.to_units vs))) (k * n) h cost)
  where
    both : (t j s i n x y : ℕ) → t ≤ s + n → j + x ≤ i + y → t + j ≤ (s + i) + (y + n)
    both t j s i n x y h l = omega (arith, h, l)

-- a field that goes on has all units of the piece, and one that is refused is let go
pub field_stops : {F : Type 0} (c : Coding) (fc : FieldCoding) (ahead : F → Ahead) (between : F → Type 0) (gs : List (Frame F)) (us old new : List ℕ) (why : Stop) (k n i j : ℕ)
    → length us ≡ n → KeepsOctets c fc.open_type ahead between gs (us ++ c.to_units old) why → StandsAfter c new why
    → length (c.to_units new) ≤ length (c.to_units old) → j ≡ i
    → Pays c k n i old j new (λ m. why ≡ stop.Short → FieldUnits c fc ahead between gs m)
field_stops c fc ahead between gs us old new (stop.Refused left w) k n i j e kept after f same =
    record { still = 0; is_open = λ z. absurd cc; cost = fewer k i j (0 + length (c.to_units new)) (n + length (c.to_units old)) (omega (arith, same)) (omega (arith, f)) }
field_stops c fc ahead between gs us old new stop.Memory k n i j e kept after f same =
    record { still = 0; is_open = λ z. absurd cc; cost = fewer k i j (0 + length (c.to_units new)) (n + length (c.to_units old)) (omega (arith, same)) (omega (arith, f)) }
field_stops c fc ahead between gs us old new stop.Short k n i j e kept after f same =
    let m = length (us ++ c.to_units old) in
    let all : m ≡ n + length (c.to_units old) = length-append us (c.to_units old) ∙ ap (λ (x : ℕ). x + length (c.to_units old)) e in
    let none : length (c.to_units new) ≡ 0 = ap length after in
    record { still = m; is_open = λ z. (us ++ c.to_units old, kept, refl); cost = fewer k i j (m + length (c.to_units new)) (n + length (c.to_units old)) (omega (arith, same)) (omega (arith, all, none)) }

-- what was added to the units inside
pub adds_inside : (i i1 j x y m : ℕ) → i1 ≡ i → j ≡ min (i1 + x) m → x ≤ y → j ≤ i + y
adds_inside i i1 j x y m e f l = omega (arith, e, f, l)

-- a level that began with no unit
pub level_of_none : (t s t0 s0 k m n : ℕ) → t + s ≤ (t0 + s0) + k * m → t0 ≡ 0 → s0 ≡ 0 → m ≡ n → t + s ≤ k * n
level_of_none t s t0 s0 k m n h a b e =
    let same : t + s ≤ (t0 + s0) + k * n = subst (λ (x : ℕ). t + s ≤ (t0 + s0) + k * x) e h in
    plain t s t0 s0 (k * n) same a b
  where
    plain : (t s t0 s0 y : ℕ) → t + s ≤ (t0 + s0) + y → t0 ≡ 0 → s0 ≡ 0 → t + s ≤ y
    plain t s t0 s0 y h a b = omega (arith, h, a, b)

-- ---- the nodes

module _ {F : Type 0} (c : Coding) (fc : FieldCoding) (ahead : F → Ahead) (between : F → Type 0) where
  abbrev O : List (Frame F) → ℕ → Type 0
  O fs n = OpenUnits c fc ahead between fs n

  abbrev U : List (Frame F) → ℕ → Type 0
  U fs n = FieldUnits c fc ahead between fs n

  pub none_open : (fs : List (Frame F)) → fs ≡ [] → O fs 0
  none_open fs e = rw e refl

  pub none_come : (fs : List (Frame F)) → fs ≡ [] → U fs 0
  none_come fs e = rw e ([], refl, refl)

  pub open_elements : (r : Option (Frame F)) (f : Frame F) (q : Elements F Value) (fs : List (Frame F)) (n : ℕ) → r ≡ Some f → f ≡ frame.Elements q → O (with_node r fs) n → O fs n
  open_elements r f q fs n e g h = rw (e, g) at h

  pub open_components : (r : Option (Frame F)) (f : Frame F) (q : Components) (fs : List (Frame F)) (n : ℕ) → r ≡ Some f → f ≡ frame.Components q → O (with_node r fs) n → O fs n
  open_components r f q fs n e g h = rw (e, g) at h

  pub open_chosen : (r : Option (Frame F)) (f : Frame F) (i : ℕ) (fs : List (Frame F)) (n : ℕ) → r ≡ Some f → f ≡ frame.Chosen i → O (with_node r fs) n → O fs n
  open_chosen r f i fs n e g h = rw (e, g) at h

  pub open_additions : (r : Option (Frame F)) (f : Frame F) (q : Components) (fs : List (Frame F)) (n : ℕ) → r ≡ Some f → f ≡ frame.Additions q → O (with_node r fs) n → U fs n
  open_additions r f q fs n e g h = rw (e, g) at h

  pub open_added : (r : Option (Frame F)) (f : Frame F) (i : ℕ) (fs : List (Frame F)) (n : ℕ) → r ≡ Some f → f ≡ frame.Added i → O (with_node r fs) n → U fs n
  open_added r f i fs n e g h = rw (e, g) at h

  -- the nodes of a string
  pub string_open : (f : OctetCoding) (fs : List (Frame F)) (us : List ℕ) → OctetsTook c f ahead between fs us → O fs 0
  string_open f [] us h = refl
  string_open f (frame.Start b ∷ fs) us h = refl
  string_open f (frame.Octets q ∷ fs) us h = refl
  string_open f (frame.Elements q ∷ fs) us h = absurd h
  string_open f (frame.Components q ∷ fs) us h = absurd h
  string_open f (frame.Bitmap p ∷ fs) us h = absurd h
  string_open f (frame.Additions q ∷ fs) us h = absurd h
  string_open f (frame.Chosen i ∷ fs) us h = absurd h
  string_open f (frame.Added i ∷ fs) us h = absurd h

  -- where more units are wanted of it
  pub string_kept : (f : OctetCoding) (fs : List (Frame F)) (us : List ℕ) (why : Stop) → KeepsOctets c f ahead between fs us why → why ≡ stop.Short → O fs 0
  string_kept f fs us (stop.Refused left w) h e = absurd cc
  string_kept f fs us stop.Short h e = string_open f fs us h
  string_kept f fs us stop.Memory h e = absurd cc

-- ---- how deep levels lie

pub depth_of_elements : {t e : Shape} {s : SizeRange} → t ≡ sequence_of e s → sealed_depth e ≤ sealed_depth t
depth_of_elements e = rw e (omega arith)

pub depth_is : {t s : Shape} → t ≡ s → sealed_depth s ≤ sealed_depth t
depth_is e = rw e (omega arith)

pub depth_of_root : (root : Fields) (more : MoreFields) → fields_sealed root ≤ sealed_depth (sequence root more)
depth_of_root root more = omega arith

pub depth_of_additions : (root : Fields) (more : MoreFields) (fs : Fields) → more ≡ marked fs → additions_sealed fs ≤ sealed_depth (sequence root more)
depth_of_additions root more fs e = rw e (omega arith)

pub depth_of_alternatives : (root : Alternatives) (more : MoreAlternatives) → choice_sealed root ≤ sealed_depth (choice root more)
depth_of_alternatives root more = omega arith

pub depth_of_added : (root : Alternatives) (more : MoreAlternatives) (alts : Alternatives) → more_alternatives more ≡ alts → choice_additions_sealed alts ≤ sealed_depth (choice root more)
depth_of_added root closed_choice alts e = rw (← e) (omega arith)
depth_of_added root (marked_choice more) alts e = rw (← e) (omega arith)

-- the type of a component, of an addition, of an alternative
pub depth_of_component : (fs : List Field) (i : ℕ) (x : Field) → i < length fs → x ≡ get_or fs i x → sealed_depth (shape_of x.ty) ≤ fields_sealed (fields_seen fs)
depth_of_component [] i x h e = absurd (omega (arith, h))
depth_of_component (f ∷ fs) zero x h e =
    let here : sealed_depth (shape_of x.ty) ≡ sealed_depth (part_of_field f).shape = ap (λ (y : Field). sealed_depth (shape_of y.ty)) e ∙ ap sealed_depth (sym (shape_of_part f)) in
    omega (arith, here)
depth_of_component (f ∷ fs) (suc i) x h e =
    let after = depth_of_component fs i x (omega (arith, h)) e in
    omega (arith, after)

pub depth_of_addition : (fs : List Field) (i : ℕ) (x : Field) → i < length fs → x ≡ get_or fs i x → suc (sealed_depth (shape_of x.ty)) ≤ additions_sealed (fields_seen fs)
depth_of_addition [] i x h e = absurd (omega (arith, h))
depth_of_addition (f ∷ fs) zero x h e =
    let here : sealed_depth (shape_of x.ty) ≡ sealed_depth (part_of_field f).shape = ap (λ (y : Field). sealed_depth (shape_of y.ty)) e ∙ ap sealed_depth (sym (shape_of_part f)) in
    omega (arith, here)
depth_of_addition (f ∷ fs) (suc i) x h e =
    let after = depth_of_addition fs i x (omega (arith, h)) e in
    omega (arith, after)

pub depth_of_alternative : (alts : List Alt) (i : ℕ) (x : Alt) → i < length alts → x ≡ get_or alts i x → sealed_depth (shape_of x.ty) ≤ choice_sealed (alternatives_seen alts)
depth_of_alternative [] i x h e = absurd (omega (arith, h))
depth_of_alternative (a ∷ alts) zero x h e =
    let here : sealed_depth (shape_of x.ty) ≡ sealed_depth (branch_of a).shape = ap (λ (y : Alt). sealed_depth (shape_of y.ty)) e ∙ ap sealed_depth (sym (shape_of_branch a)) in
    omega (arith, here)
depth_of_alternative (a ∷ alts) (suc i) x h e =
    let after = depth_of_alternative alts i x (omega (arith, h)) e in
    omega (arith, after)

pub depth_of_added_one : (alts : List Alt) (i : ℕ) (x : Alt) → i < length alts → x ≡ get_or alts i x → suc (sealed_depth (shape_of x.ty)) ≤ choice_additions_sealed (alternatives_of (map branch_of alts))
depth_of_added_one [] i x h e = absurd (omega (arith, h))
depth_of_added_one (a ∷ alts) zero x h e =
    let here : sealed_depth (shape_of x.ty) ≡ sealed_depth (branch_of a).shape = ap (λ (y : Alt). sealed_depth (shape_of y.ty)) e ∙ ap sealed_depth (sym (shape_of_branch a)) in
    omega (arith, here)
depth_of_added_one (a ∷ alts) (suc i) x h e =
    let after = depth_of_added_one alts i x (omega (arith, h)) e in
    omega (arith, after)
