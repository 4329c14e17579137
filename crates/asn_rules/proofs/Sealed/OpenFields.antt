-- Open fields that hold whole encodings: what their contents are, and that there is one of a value.
use Rattle.std.proofs.Common.{◌≡◌, ℕ, List, [], ◌∷◌, sym, ◌∙◌}
use Rattle.asn_values.specs.Datum.{Datum}
use Rattle.asn_values.specs.Shape.{Shape}
use Rattle.asn_values.specs.Fits.{Fits}
use Rattle.asn_values.specs.Profile.{InProfile}
use Rattle.asn_rules.specs.Chunks.{open_field, sealed, flat}
use Rattle.asn_rules.specs.Live.{IsContent}
use Rattle.asn_rules.specs.Laws.{AreOctets, WholesTell}
use Rattle.asn_rules.specs.Answer.{Ruling}
use Rattle.asn_rules.specs.Languages.{Spells, Short, Refused, Whole, Sealed, SomeContent}
use Rattle.asn_rules.specs.Forks.{Same}
use Rattle.asn_rules.specs.Spellings.{SpelledBy}
use Rattle.asn_rules.specs.Reading.{Wholes, RulesTell, Holds}
use Rattle.asn_rules.proofs.Languages.Spellings.{sealed_spelled}
use Rattle.asn_rules.proofs.Answer.Reading.{content_is, no_content_short, no_content_refused, no_content_after}

module _ (r : Ruling) (rules : RulesTell r) (t : Shape) (good : InProfile t) where
  -- a content that is read whole is one
  pub holds_whole : (c : List ℕ) (v : Datum) → IsContent r.fielding open_field c → Whole r.fielding (Wholes r t) v (r.units c) → Holds r t v c
  holds_whole c v h w = record { octets = h.2; encoding = (content_is r rules t good c v h.1).1 w }

  -- one that is read to the need of more, to a refusal, or to a value with units after it, is none
  pub holds_no_less : (c : List ℕ) → IsContent r.fielding open_field c → Short r.fielding (Wholes r t) (r.units c) → (v : Datum) → Holds r t v c → ⊥
  holds_no_less c h s v w = no_content_short r rules t good c h.1 s v w.encoding

  -- by a refusal
  pub holds_none : (c : List ℕ) (left : ℕ) → IsContent r.fielding open_field c → Refused r.fielding (Wholes r t) (r.units c) left → (v : Datum) → Holds r t v c → ⊥
  holds_none c left h s v w = no_content_refused r rules t good c left h.1 s v w.encoding

  -- by units after it
  pub holds_no_more : (c : List ℕ) (a : Datum) (u : ℕ) (rest : List ℕ) → IsContent r.fielding open_field c → Spells r.fielding (Wholes r t) a (r.units c) (u ∷ rest) → (v : Datum) → Holds r t v c → ⊥
  holds_no_more c a u rest h s v w = no_content_after r rules t good c a (u ∷ rest) h.1 s (λ e. cc) v w.encoding

  module _ (wholes : WholesTell r) (octets_of : Datum → List ℕ) (given : (v : Datum) → Fits t v → AreOctets (octets_of v) × (r.units (octets_of v) ≡ flat r.fielding.spelled (r.whole t v))) where
    one_content : (v : Datum) (c : List ℕ) → Holds r t v c → Fits t v × (c ≡ octets_of v)
    one_content v c h =
        let w = given v h.encoding.0 in
        (h.encoding.0, wholes.once c (octets_of v) h.octets w.0 (h.encoding.1 ∙ sym w.1))

    the_content : (v : Datum) → Fits t v → Holds r t v (octets_of v)
    the_content v f =
        let w = given v f in
        record { octets = w.0; encoding = (f, w.1) }

    -- the open fields of a type's values, as the definitions spell them
    pub open_spelled : Same (Sealed open_field (Holds r t)) (SpelledBy (Fits t) (λ v. sealed open_field (octets_of v) ∷ []))
    open_spelled = sealed_spelled open_field one_content the_content

    pub some_content : (v : Datum) → Fits t v → SomeContent (Holds r t)
    some_content v f = record { value = v; content = octets_of v; spelt = the_content v f }
