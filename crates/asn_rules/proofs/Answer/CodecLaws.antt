-- What a decoder answers to octets of which something is known.
use Rattle.std.proofs.Common.{◌≡◌, ◌≤◌, ◌<◌, ◌⊎◌, ℕ, suc, List, [], ◌∷◌, ◌++◌, get_or, length, take, drop, inl, inr, ⊎_elim, refl, sym, ◌∙◌, ap, subst, length-append, arith}
use Rattle.std.specs.Prelude.{Result, Ok, Err, ⊤}
use Rattle.std.proofs.Math.Seq.{take-length, take-append_seam}
use Rattle.std.proofs.Math.Nat.{le-min, min-le_left}
use Rattle.std.proofs.lemmas.List.{take_all, take-take, take-append-drop, length-take, length-take-le}
use Rattle.asn_values.specs.declared.value.Value.{Value}
use Rattle.asn_values.specs.Datum.{Datum, nothing}
use Rattle.asn_values.specs.Shape.{Shape}
use Rattle.asn_values.specs.Profile.{InProfile}
use Rattle.asn_values.specs.View.{datum_of}
use Rattle.asn_bits.proofs.GeneralLengths.{all_take}
use Rattle.asn_rules.specs.declared.fault.EncodeFault.TheVariants as encode
use Rattle.asn_rules.specs.declared.fault.DecodeFault.{DecodeFault}
use Rattle.asn_rules.specs.declared.fault.DecodeFault.TheVariants as decode
use Rattle.asn_rules.specs.Answer.{Ruling, IsEncoding, Told, done, refused, too_long, more, Answer, NoFront, LiveOctets, max_octets}
use Rattle.asn_rules.specs.Codec.{Decoded}
use Rattle.asn_rules.specs.CodecLaws.{Encoded, DecodesTheEncoded, EncodesTheDecoded, OnlyMemoryIsWanting, EqualExactly, TellsTheRest, RestFollowsOneFront, TellsTheCut, SayTheSame, DecodersAgree}
use Rattle.asn_rules.specs.Laws.{AreOctets, RulesLaws}
use Rattle.asn_rules.specs.Live.{Begins, BeginsProperly}
use Rattle.asn_rules.specs.Reading.{RulesTell}
use Rattle.asn_rules.proofs.Live.Beginnings.{beginnings_live}
use Rattle.asn_rules.proofs.Answer.OneAnswer.{one_answer}

-- ---- the octets of a program

-- numbers of which each is below 256 are octets, as what a slice or a vector of u8 holds
pub each_octet : (os : List ℕ) → ((i : ℕ) → get_or os i 0 < 256) → AreOctets os
each_octet [] h = tt
each_octet (o ∷ os) h = (h 0, each_octet os (λ i. h (suc i)))

-- ---- what a result tells

-- of n octets, of those that are read, where d is the value that the octets in front encode
abbrev told : ℕ → Datum → Result Value DecodeFault → Told
told n d (Ok v) = done (datum_of v) n
told n d (Err (decode.Refused at why)) = refused at
told n d (Err (decode.Truncated taken)) = more
told n d (Err (decode.Rest used)) = done d used
told n d (Err _) = too_long

-- and of all octets
abbrev Besides : Ruling → List ℕ → Result Value DecodeFault → Type 0
Besides r o (Err (decode.Truncated taken)) = taken ≡ length (r.units o)
Besides r o (Err (decode.Rest used)) = used < length o
Besides r o (Err decode.Memory) = ⊥
Besides r o _ = ⊤

-- all that the result tells, which is that x is so of the octets that are read
record Tells (r : Ruling) (o : List ℕ) (a : Result Value DecodeFault) (x : Told) : Type 0 where
  front : Datum
  same : told (length o) front a ≡ x
  besides : Besides r o a

-- done with all octets: the value
tells_value : (r : Ruling) (o : List ℕ) (v d : Datum) (a : Result Value DecodeFault) → told (length o) d a ≡ done v (length o) → Besides r o a → (w : Value) × (a ≡ Ok w) × (datum_of w ≡ v)
tells_value r o v d (Ok w) e b = (w, refl, cc)
tells_value r o v d (Err (decode.Rest used)) e b = let same : used ≡ length o = cc in absurd (omega (arith, b, same))
tells_value r o v d (Err decode.Memory) e b = absurd b
tells_value r o v d (Err _) e b = cc

-- done with fewer: how many
tells_rest : (r : Ruling) (s : List ℕ) (v d : Datum) (n : ℕ) (a : Result Value DecodeFault) → n < length s → told (length s) d a ≡ done v n → Besides r s a → a ≡ Err (decode.Rest n)
tells_rest r s v d n (Ok w) less e b = let same : length s ≡ n = cc in absurd (omega (arith, same))
tells_rest r s v d n (Err (decode.Rest used)) less e b = let same : used ≡ n = cc in ap (λ k. Err (decode.Rest k)) same
tells_rest r s v d n (Err decode.Memory) less e b = absurd b
tells_rest r s v d n (Err _) less e b = cc

-- more is wanted: how many units there are
tells_cut : (r : Ruling) (s : List ℕ) (d : Datum) (a : Result Value DecodeFault) → told (length s) d a ≡ more → Besides r s a → a ≡ Err (decode.Truncated (length (r.units s)))
tells_cut r s d (Err (decode.Truncated taken)) e b = ap (λ k. Err (decode.Truncated k)) b
tells_cut r s d (Err decode.Memory) e b = absurd b
tells_cut r s d _ e b = cc

-- one thing, of the same octets: the two results say the same
tell_same : (r : Ruling) (o : List ℕ) (c d : Datum) (a b : Result Value DecodeFault) → told (length o) c a ≡ told (length o) d b → Besides r o a → Besides r o b → SayTheSame a b
tell_same r o c d (Ok v) (Ok w) e g h = cc
tell_same r o c d (Ok v) (Err (decode.Rest used)) e g h = let same : length o ≡ used = cc in omega (arith, h, same)
tell_same r o c d (Err (decode.Rest used)) (Ok v) e g h = let same : used ≡ length o = cc in omega (arith, g, same)
tell_same r o c d (Err (decode.Refused at why)) (Err (decode.Refused place reason)) e g h = cc
tell_same r o c d (Err (decode.Truncated taken)) (Err (decode.Truncated count)) e g h = g ∙ sym h
tell_same r o c d (Err (decode.Rest used)) (Err (decode.Rest count)) e g h = cc
tell_same r o c d (Err decode.TooLong) (Err decode.TooLong) e g h = tt
tell_same r o c d (Err decode.Memory) b e g h = absurd g
tell_same r o c d a (Err decode.Memory) e g h = absurd h
tell_same r o c d _ _ e g h = cc

-- ---- answers of a decoder

-- what is told is so
record Report (r : Ruling) (t : Shape) (o : List ℕ) (a : Result Value DecodeFault) : Type 0 where
  answer : Told
  so : Answer r t (take max_octets o) answer
  tells : Tells r o a answer

-- few octets are all read
read_whole : (r : Ruling) (t : Shape) (o : List ℕ) (x : Told) → length o ≤ max_octets → Answer r t o x → Answer r t (take max_octets o) x
read_whole r t o x few h = subst (λ s. Answer r t s x) (sym (take_all max_octets o few)) h

-- an answer is a report or Memory
report : (r : Ruling) (t : Shape) (o : List ℕ) (a : Result Value DecodeFault) → Decoded r a t o → Report r t o a ⊎ (a ≡ Err decode.Memory)
report r t o (Ok v) d =
    inl (record { answer = done (datum_of v) (length o); so = read_whole r t o (done (datum_of v) (length o)) d.0 d.1; tells = record { front = datum_of v; same = refl; besides = tt } })
report r t o (Err (decode.Refused at why)) d = inl (record { answer = refused at; so = d; tells = record { front = nothing; same = refl; besides = tt } })
report r t o (Err (decode.Truncated taken)) d =
    inl (record { answer = more; so = read_whole r t o more (omega (arith, d.1.2)) d.1; tells = record { front = nothing; same = refl; besides = d.0 } })
report r t o (Err (decode.Rest used)) d = inl (record { answer = done d.1 used; so = d.2; tells = record { front = d.1; same = refl; besides = d.0 } })
report r t o (Err decode.TooLong) d = inl (record { answer = too_long; so = d; tells = record { front = nothing; same = refl; besides = tt } })
report r t o (Err decode.Memory) d = inr refl

-- ---- octets that have an encoding in front, or are one that was cut

-- octets followed by more octets
front_shorter : (o s : List ℕ) → BeginsProperly o s → length o < length s
front_shorter o s b = rw (b.2, length-append o (b.0 ∷ b.1)) (omega arith)

front_of : (o s : List ℕ) → BeginsProperly o s → take (length o) s ≡ o
front_of o s b = rw b.2 (take-append_seam o (b.0 ∷ b.1))

octets_of : (o s : List ℕ) → AreOctets s → BeginsProperly o s → AreOctets o
octets_of o s os b = subst AreOctets (front_of o s b) (all_take (λ o. o < 256) (length o) s os).0

-- no more octets are told to be an encoding than are read
fewer_read : (n used : ℕ) (s : List ℕ) → used ≤ length (take n s) → used ≤ n
fewer_read n used s h = omega (arith, h, length-take n s, min-le_left n (length s))

-- and what follows it changes nothing
encoded_in_front : (r : Ruling) (t : Shape) (v : Datum) (o s : List ℕ) → Encoded r t v o → BeginsProperly o s → Answer r t (take max_octets s) (done v (length o))
encoded_in_front r t v o s e b =
    let same : take (length o) (take max_octets s) ≡ o = take-take (length o) max_octets s e.within ∙ front_of o s b in
    let few : length o ≤ length (take max_octets s) = rw (length-take max_octets s) (le-min e.within (omega (arith, front_shorter o s b))) in
    (few, rw same e.encoding)

-- ---- under rules that keep the laws

module _ (r : Ruling) (laws : RulesLaws r) where
  -- what is so of the octets is told, or Memory
  told_or_memory : (t : Shape) (o : List ℕ) (a : Result Value DecodeFault) (x : Told) → InProfile t → AreOctets o → Decoded r a t o → Answer r t (take max_octets o) x → Tells r o a x ⊎ (a ≡ Err decode.Memory)
  told_or_memory t o a x good os d so = ⊎_elim
      (λ (w : Report r t o a). inl (subst (Tells r o a) (one_answer r laws t (take max_octets o) w.answer x good (all_take (λ o. o < 256) max_octets o os).0 w.so so) w.tells))
      inr (report r t o a d)

  pub decodes_encoded : DecodesTheEncoded r
  decodes_encoded t v o a good e d =
      let so : Answer r t (take max_octets o) (done v (length o)) = read_whole r t o (done v (length o)) e.within (omega arith, rw (take-length o) e.encoding) in
      ⊎_elim (λ h. inl (tells_value r o v h.front a h.same h.besides)) inr (told_or_memory t o a (done v (length o)) good e.octets d so)

  pub encodes_decoded : EncodesTheDecoded r
  encodes_decoded t v o p good os ps d =
      let mine : IsEncoding r t (datum_of v) o = subst (IsEncoding r t (datum_of v)) (take-length o) d.1.1 in
      ((λ e. laws.one_encoding t (datum_of v) p o good ps os e mine), (λ e. subst (IsEncoding r t (datum_of v)) (sym e) mine))

  pub equal_exactly : EqualExactly r
  equal_exactly t v w o p good os ps e f = (
    (λ same. laws.one_encoding t v o p good os ps e (subst (λ d. IsEncoding r t d p) (sym same) f)),
    (λ same. laws.one_value t v w p good (subst (IsEncoding r t v) same e) f),
  )

  pub tells_rest_of : TellsTheRest r
  tells_rest_of t v o s a good os e b d =
      ⊎_elim (λ h. inl (tells_rest r s v h.front (length o) a (front_shorter o s b) h.same h.besides)) inr
      (told_or_memory t s a (done v (length o)) good os d (encoded_in_front r t v o s e b))

  pub one_front : RestFollowsOneFront r
  one_front t s used good os d =
      let few : used ≤ max_octets = fewer_read max_octets used s d.2.0 in
      let mine : IsEncoding r t d.1 (take used s) = subst (IsEncoding r t d.1) (take-take used max_octets s few) d.2.1 in
      record {
        value = d.1;
        encoded = record { octets = (all_take (λ o. o < 256) used s os).0; encoding = mine; within = rw (length-take-le used s (omega (arith, d.0))) few };
        only = λ w m l e. (let same : done w m ≡ done d.1 used = one_answer r laws t s (done w m) (done d.1 used) good os (l, e) (omega (arith, d.0), mine) in (cc, cc));
      }

  pub decoders_agree : DecodersAgree r
  decoders_agree t o a b good os x y m n = ⊎_elim
      (λ (w : Report r t o a). ⊎_elim (λ h. tell_same r o w.tells.front h.front a b (w.tells.same ∙ sym h.same) w.tells.besides h.besides) (λ e. absurd (n e)) (told_or_memory t o b w.answer good os y w.so))
      (λ e. absurd (m e)) (report r t o a x)

  -- no front of what a cut has left is an encoding
  none_in_cut : (t : Shape) (v : Datum) (o s : List ℕ) → InProfile t → Encoded r t v o → BeginsProperly s o → NoFront r t s
  none_in_cut t v o s good e b w n l f =
      let less : length s < length o = front_shorter s o b in
      let front : take n s ≡ take n o = ap (take n) (sym (front_of s o b)) ∙ take-take n (length s) o l in
      let begins : Begins (take n s) o = (drop n o, sym (rw front (take-append-drop n o))) in
      let same : take n s ≡ o = laws.none_begins t w v (take n s) o good (all_take (λ o. o < 256) n s (octets_of s o e.octets b)).0 e.octets f e.encoding begins in
      omega (arith, ap length same, length-take-le n s l, less)

  module _ (rules : RulesTell r) where
    pub tells_cut_of : TellsTheCut r
    tells_cut_of t v o s a good e b d =
        let less : length s < length o = front_shorter s o b in
        let few : length s < max_octets = omega (arith, less, e.within) in
        let split : r.units o ≡ r.units s ++ r.units (b.0 ∷ b.1) = ap r.units b.2 ∙ rules.joined s (b.0 ∷ b.1) in
        let live : LiveOctets r t s = beginnings_live r rules t v o (r.units s) (r.units (b.0 ∷ b.1)) good e.within e.encoding split in
        let so : Answer r t s more = (none_in_cut t v o s good e b, live, few) in
        ⊎_elim (λ h. inl (tells_cut r s h.front a h.same h.besides)) inr (told_or_memory t s a more good (octets_of s o e.octets b) d (read_whole r t s more (omega (arith, few)) so))

-- what an encoder says of a value that was decoded
pub only_memory : (r : Ruling) → OnlyMemoryIsWanting r
only_memory r t v o encode.NotOfType d h = absurd (h d.1.1.0)
only_memory r t v o encode.TooLong d h = let long : max_octets < length o = h.1 o (subst (IsEncoding r t (datum_of v)) (take-length o) d.1.1) in absurd (omega (arith, long, d.0))
only_memory r t v o encode.Memory d h = refl
