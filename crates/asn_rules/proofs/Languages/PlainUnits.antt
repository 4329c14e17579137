-- Languages of plain units: what is said of units under one rule for sealed fields is so under every other.
use Rattle.std.proofs.Common.{◌≡◌, ℕ, suc, List, [], ◌∷◌, ◌++◌, sym, ap, ◌∙◌, subst, arith}
use Rattle.asn_values.specs.Fits.{max_len}
use Rattle.asn_rules.specs.Chunks.{Kind, open_field, utf8_field, rest_of, Chunk, ones, flat}
use Rattle.asn_rules.specs.General.{Header}
use Rattle.asn_rules.specs.Languages.{AllContents, IsFront, Spells, NoSpelling, IsLive, Short, Refused, Then, Map, Plain}
use Rattle.asn_rules.specs.Live.{Fielding, IsContent}
use Rattle.asn_rules.proofs.Live.Chunks.{FieldsPart, ones-append}
use Rattle.asn_rules.proofs.Live.Flat.{flat-ones}
use Rattle.asn_rules.proofs.Numbers.HeaderBits.{header_first}
use Rattle.asn_rules.proofs.Languages.Leads.{Leads}
use Rattle.asn_rules.proofs.Languages.Parts.{contents-ones}

-- ---- which languages

-- each spelling is plain units
pub record AreUnits {V : Type 0} (L : V → List Chunk → Type 0) : Type 0 where
  pub units : (v : V) (cs : List Chunk) → L v cs → (us : List ℕ) × (cs ≡ ones us)

pub plain_units : {A : Type 0} (C : A → List ℕ → Type 0) → AreUnits (Plain C)
plain_units C = record { units = λ v cs h. (h.units, h.same) }

pub map_units : {A B : Type 0} {f : A → B} {L : A → List Chunk → Type 0} → AreUnits L → AreUnits (Map f L)
map_units l = record { units = λ v cs h. l.units h.source cs h.spelt }

pub then_units : {A B : Type 0} {L : A → List Chunk → Type 0} {M : A → B → List Chunk → Type 0} → AreUnits L → ((a : A) → AreUnits (M a)) → AreUnits (Then L M)
then_units {A} {B} {L} {M} l m = record { units = λ v cs h. both v cs h (l.units v.0 h.first h.spelt) ((m v.0).units v.1 h.second h.follows) }
  where
    both : (v : A × B) (cs : List Chunk) (h : Then L M v cs) → (us : List ℕ) × (h.first ≡ ones us) → (us : List ℕ) × (h.second ≡ ones us) → (us : List ℕ) × (cs ≡ ones us)
    both v cs h p q = (p.0 ++ q.0, h.whole ∙ ap (λ (x : List Chunk). x ++ h.second) p.1 ∙ ap (λ (x : List Chunk). ones p.0 ++ x) q.1 ∙ sym (ones-append p.0 q.0))

pub header_units : (S : ℕ → Type 0) → AreUnits (Header S)
header_units S = record { units = λ v cs h. (let f = header_first S v cs h in (f.0, f.1)) }

-- ---- from one rule to another

-- what begins plain units
front_under : (R Q : Fielding) (vs us : List ℕ) → IsFront R (ones vs) us → IsFront Q (ones vs) us
front_under R Q vs [] h = tt
front_under R Q [] (u ∷ us) h = absurd h
front_under R Q (v ∷ vs) (u ∷ us) h = (h.0, front_under R Q vs us h.1)

module _ {V : Type 0} {L : V → List Chunk → Type 0} (plain : AreUnits L) {R Q : Fielding} where
  pub spells_under : {v : V} {us r : List ℕ} → Spells R L v us r → Spells Q L v us r
  spells_under {v} {us} {r} h = go (plain.units v h.chunks h.spelt)
    where
      go : (ws : List ℕ) × (h.chunks ≡ ones ws) → Spells Q L v us r
      go p = record {
        chunks = h.chunks;
        spelt = h.spelt;
        contents = subst (AllContents Q) (sym p.1) (contents-ones Q p.0);
        split = h.split ∙ ap (λ (l : List ℕ). l ++ r) (ap (flat R.spelled) p.1 ∙ flat-ones R.spelled p.0 ∙ sym (flat-ones Q.spelled p.0) ∙ ap (flat Q.spelled) (sym p.1));
      }

  pub live_under : {us : List ℕ} → IsLive R L us → IsLive Q L us
  live_under {us} h = go (plain.units h.value h.chunks h.spelt)
    where
      go : (ws : List ℕ) × (h.chunks ≡ ones ws) → IsLive Q L us
      go p = record {
        value = h.value;
        chunks = h.chunks;
        spelt = h.spelt;
        front = subst (λ (cs : List Chunk). IsFront Q cs us) (sym p.1) (front_under R Q p.0 us (subst (λ (cs : List Chunk). IsFront R cs us) p.1 h.front));
      }

module _ {V : Type 0} {L : V → List Chunk → Type 0} (plain : AreUnits L) {R Q : Fielding} where
  none_under : {us : List ℕ} → NoSpelling R L us → NoSpelling Q L us
  none_under n = λ v r h. n v r (spells_under plain h)

  pub short_under : {us : List ℕ} → Short R L us → Short Q L us
  short_under h = record { live = live_under plain h.live; none = none_under h.none }

  pub refused_under : {us : List ℕ} {n : ℕ} → Refused R L us n → Refused Q L us n
  refused_under h = record { before = h.before; unit = h.unit; after = h.after; split = h.split; left_is = h.left_is; live = live_under plain h.live; dead = λ g. h.dead (live_under plain g); none = none_under h.none }

-- what leads from a part to the whole
pub leads_under : {A B : Type 0} {M : B → List Chunk → Type 0} {L : A → List Chunk → Type 0} {f : B → A} {vs us : List ℕ} {R Q : Fielding} → AreUnits M → AreUnits L → Leads R M vs f L us → Leads Q M vs f L us
leads_under m l h = record {
  done = λ b r s. spells_under l (h.done b r (spells_under m s));
  stops = record { short = λ s. short_under l (h.stops.short (short_under m s)); refused = λ n s. refused_under l (h.stops.refused n (refused_under m s)) };
}

-- ---- a rule under which sealed fields part

-- no sealed field may have a content
unfoldable pub no_fields : Fielding
no_fields = record { spelled = λ c. []; shortest = λ k. suc max_len }

no_content : (k : Kind) (c : List ℕ) → IsContent no_fields k c → ⊥
unfolding no_fields
no_content open_field c h = omega (arith, h.0, h.1)
no_content utf8_field c h = omega (arith, h.0, h.1)
no_content (rest_of k us) c h = no_content k c h.0

pub no_fields_part : FieldsPart no_fields
no_fields_part = record { tells = λ k c d s t p q e. absurd (no_content k c p); some_units = λ k c p e. no_content k c p }
