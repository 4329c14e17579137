-- The octets that a reader of messages in pieces keeps of an open type field or of a UTF8String, and what a set of
-- encoding rules says of these.
use Rattle.std.specs.Prelude.{◌≡◌, ◌≢◌, ◌⊎◌, ℕ, zero, suc, List, [], ◌∷◌, length, None, ⊤}
use Rattle.asn_values.specs.Datum.{Datum}
use Rattle.asn_values.specs.Profile.{InProfile}
use Rattle.asn_values.specs.Shape.{SizeRange, Shape, boolean, null, integer, enumerated, bit_string, octet_string, restricted, utf8_string, sequence, sequence_of, choice, Fields, no_fields, field, Alternatives, no_alternatives, one_of}
use Rattle.asn_rules.specs.Begun.{AllPlain}
use Rattle.asn_rules.specs.Chunks.{Chunk, sealed, utf8_field}
use Rattle.asn_rules.specs.Forks.{Same}
use Rattle.asn_rules.specs.Frames.{Frame as FieldOf}
use Rattle.asn_rules.specs.Languages.{IsFront, Short}
use Rattle.asn_rules.specs.Listed.{Spelt}
use Rattle.asn_walk.specs.Ahead.{Ahead}
use Rattle.asn_walk.specs.Coding.{Coding}
use Rattle.asn_walk.specs.Laws.{IsSizeOfProfile}
use Rattle.asn_walk_feed.specs.Octets.{OctetCoding, OctetsOf}
use Rattle.asn_walk_feed.specs.OpenFields.{FieldCoding}
use Rattle.asn_walk_feed.specs.declared.frame.Frame.{Frame}
use Rattle.asn_walk_feed.specs.declared.frame.Frame.TheVariants as frame

-- ---- by the nodes that have begun

-- the octets of a node of octets
abbrev pub octets_of : {F : Type 0} → List (Frame F) → List ℕ
octets_of (frame.Octets q ∷ fs) = q.elements.items
octets_of fs = []

-- what is kept of a component, and of an alternative of the root, by its index
abbrev pub in_component : (Shape → List ℕ) → Fields → ℕ → List ℕ
in_component Kept no_fields i = []
in_component Kept (field name demand t fs) zero = Kept t
in_component Kept (field name demand t fs) (suc i) = in_component Kept fs i

abbrev pub in_alternative : (Shape → List ℕ) → Alternatives → ℕ → List ℕ
in_alternative Kept no_alternatives i = []
in_alternative Kept (one_of name t alts) zero = Kept t
in_alternative Kept (one_of name t alts) (suc i) = in_alternative Kept alts i

-- of a value of the type: the octets of the innermost node, where it lies in an open type field or is a UTF8String
abbrev pub kept_in : {F : Type 0} → List (Frame F) → Shape → List ℕ
kept_in [] t = []
kept_in (frame.Elements q ∷ fs) (sequence_of t s) = kept_in fs t
kept_in (frame.Components q ∷ fs) (sequence root more) =
    in_component (λ t. kept_in fs t) root (length q.entries.items)
kept_in (frame.Chosen i ∷ fs) (choice root more) = in_alternative (λ t. kept_in fs t) root i
kept_in (frame.Additions q ∷ fs) t = octets_of fs
kept_in (frame.Added i ∷ fs) t = octets_of fs
kept_in (frame.Octets q ∷ fs) utf8_string = q.elements.items
kept_in (x ∷ fs) t = []

-- ---- what a set of encoding rules says

-- an octet that is not this one, which these units begin
pub record OtherOctet (c : Coding) (f : OctetCoding) (o : ℕ) (us : List ℕ) : Type 0 where
  pub octet : ℕ
  pub differs : octet ≢ o
  pub chunks : List Chunk
  pub spelt : f.octet octet chunks
  pub front : IsFront c.ruling.fielding chunks us

-- none of the octets stands before the first length, and an octet that has not come whole may be more than one
pub record OctetsDiffer (c : Coding) (f : OctetCoding) : Type 0 where
  pub none_first : (p : List ℕ × Ahead) (cs : List Chunk) → f.start p cs → p.0 ≡ []
  pub other : (o : ℕ) (us : List ℕ) → (us ≡ []) ⊎ Short c.ruling.fielding f.octet us → OtherOctet c f o us

-- simple types whose values are no sealed fields
abbrev pub IsUnsealed : Shape → Type 0
IsUnsealed boolean = ⊤
IsUnsealed null = ⊤
IsUnsealed (integer r) = ⊤
IsUnsealed (enumerated root more) = ⊤
IsUnsealed (bit_string s) = ⊤
IsUnsealed (octet_string s) = ⊤
IsUnsealed (restricted k s) = ⊤
IsUnsealed _ = ⊥

pub record KeepLaws (c : Coding) (f : FieldCoding) : Type 0 where
  pub open_type : OctetsDiffer c f.open_type
  -- a UTF8String is a sealed field, of such octets
  pub utf8 : OctetsDiffer c (f.string utf8_string)
  pub utf8_same : Same (OctetsOf (f.string utf8_string)) (FieldOf c.ruling.fielding utf8_field)
  pub utf8_value : (v : Datum) × (os : List ℕ) × Spelt c.code None utf8_string v (sealed utf8_field os ∷ [])
  -- the other simple types, and what stands before the elements of a SEQUENCE OF, are plain units
  pub unsealed : (t : Shape) → InProfile t → IsUnsealed t → AllPlain (Spelt c.code None t)
  pub list_start : (s : SizeRange) → IsSizeOfProfile s → AllPlain (c.list_start s)

-- ---- as the program goes down the nodes

-- a node of which the value goes on in a part of the type
abbrev pub GoesDown : {F : Type 0} → Frame F → Type 0
GoesDown (frame.Elements q) = ⊤
GoesDown (frame.Components q) = ⊤
GoesDown (frame.Chosen i) = ⊤
GoesDown f = ⊥
