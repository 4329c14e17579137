-- What a reader of units says of the whole encodings of a type is what the definitions say of its octets.
use Rattle.std.proofs.Common.{◌≡◌, ◌≤◌, ◌<◌, ◌+◌, ◌-◌, ◌*◌, ◌↔◌, inl, inr, ℕ, List, [], ◌∷◌, ◌++◌, length, take, drop, length-append, length-drop, ◌≢◌, refl, sym, ◌∙◌, ap, subst, arith}
use Rattle.std.proofs.lemmas.List.{length-take-le, take-append-drop}
use Rattle.std.proofs.Math.Nat.{mul-le-mul_left}
use Rattle.std.proofs.Math.Seq.{take-length}
use Rattle.asn_values.specs.Datum.{Datum}
use Rattle.asn_values.specs.Shape.{Shape}
use Rattle.asn_values.specs.Fits.{max_len}
use Rattle.asn_values.specs.Profile.{InProfile}
use Rattle.asn_rules.specs.Chunks.{Kind, open_field, utf8_field, rest_of, Chunk, one, sealed, flat}
use Rattle.asn_rules.specs.Live.{Fielding, IsContent, Free, Bounded, Front, Live, LiveByChunks}
use Rattle.asn_rules.specs.Answer.{Ruling, IsEncoding, NoFront, LiveOctets, Answer, done, refused, too_long, more, max_octets}
use Rattle.asn_rules.specs.Languages.{InField, IsFront, Spells, NoSpelling, IsLive, Short, Refused, Lawful, Whole}
use Rattle.asn_rules.specs.Reading.{IsSealed, AllSealed, Wholes, RulesTell, HasOneReading, ReadingsAnswer}
use Rattle.asn_rules.proofs.Live.Fronts.{live_iff}
use Rattle.asn_rules.proofs.Live.Lists.{same_fronts, no_length}
use Rattle.asn_rules.proofs.Live.Chunks.{FieldsPart}
use Rattle.asn_rules.proofs.Languages.Then.{one_front}
use Rattle.asn_rules.proofs.Answer.Answers.{one_refusal, refused_or_done, short_or_done, refused_or_short}
use Rattle.asn_rules.proofs.Law.PartingFields.{fields_part}
use Rattle.asn_rules.proofs.Languages.Spellings.{spelled_lawful}
use Rattle.asn_rules.proofs.Live.Places.{refused_place, place_by, contents_by_length}

-- ---- live, chunk by chunk

-- by its parts
free_in : {R : Fielding} {k : Kind} {us : List ℕ} → Free R k us → InField R k us
free_in f = record { content = f.0; contents = f.1; next = f.2.0; more = f.2.1; split = sym f.2.2 }

-- and back
in_free : {R : Fielding} {k : Kind} {us : List ℕ} → InField R k us → Free R k us
in_free f = (f.content, f.contents, (f.next, f.more, sym f.split))

-- a content is short enough
content_bounded : (R : Fielding) (k : Kind) (c : List ℕ) → IsContent R k c → Bounded k c
content_bounded R open_field c h = h.1
content_bounded R utf8_field c h = tt
content_bounded R (rest_of k us) c h = content_bounded R k c h.0

-- a short content of a spelling is one that may stand there
bounded_content : (R : Fielding) (k : Kind) (c : List ℕ) → IsSealed R k c → Bounded k c → IsContent R k c
bounded_content R open_field c is b = is b
bounded_content R utf8_field c is b = is b
bounded_content R (rest_of k us) c is b = absurd is

-- less than any field goes on as a field does
starts : (R : Fielding) → Free R open_field [] → Free R utf8_field [] → (k : Kind) (c : List ℕ) → IsSealed R k c → Free R k []
starts R o u open_field c is = o
starts R o u utf8_field c is = u
starts R o u (rest_of k us) c is = absurd is

-- what begins the chunks, without the length of what was passed
pub front_of : (R : Fielding) → (cs : List Chunk) (us : List ℕ) → AllSealed R cs → Front R cs us → IsFront R cs us
front_of R cs [] a h = tt
front_of R [] (u ∷ us) a h = h
front_of R (one x ∷ cs) (u ∷ us) a h = (sym h.0, front_of R cs us a h.1)
front_of R (sealed k c ∷ cs) (u ∷ us) a (inl f) = inl (free_in f)
front_of R (sealed k c ∷ cs) (u ∷ us) a (inr p) = inr (p.0, bounded_content R k c a.0 p.2, p.1, front_of R cs p.0 a.1 p.3)

-- and back
pub of_front : (R : Fielding) → Free R open_field [] → Free R utf8_field [] → (cs : List Chunk) (us : List ℕ) → AllSealed R cs → IsFront R cs us → Front R cs us
of_front R o w [] [] a h = tt
of_front R o w (one x ∷ cs) [] a h = tt
of_front R o w (sealed k c ∷ cs) [] a h = inl (starts R o w k c a.0)
of_front R o w [] (u ∷ us) a h = h
of_front R o w (one x ∷ cs) (u ∷ us) a h = (sym h.0, of_front R o w cs us a h.1)
of_front R o w (sealed k c ∷ cs) (u ∷ us) a (inl f) = inl (in_free f)
of_front R o w (sealed k c ∷ cs) (u ∷ us) a (inr p) = inr (p.0, p.2, content_bounded R k c p.1, of_front R o w cs p.0 a.1 p.3)

module _ (r : Ruling) (rules : RulesTell r) (t : Shape) (good : InProfile t) where
  -- ---- what readers of parts want

  -- no field begins another
  pub fields_tell : FieldsPart r.fielding
  fields_tell = fields_part r.fielding rules.tells (λ c e. (let h = rules.units c in let f = ap length e in omega arith))

  -- two whole encodings are one or part
  pub wholes_lawful : Lawful (Wholes r t)
  wholes_lawful = spelled_lawful (λ v w p q. rules.part t v w good p q)

  -- ---- live

  -- what an encoding may follow is what begins one
  pub live_is : (b : List ℕ) → Live r.fielding r.whole t b ↔ IsLive r.fielding (Wholes r t) b
  live_is b = (
    λ l. there (by.0 l),
    λ l. by.1 (l.value, l.spelt.fits, of_front r.fielding rules.open_starts rules.utf8_starts (r.whole t l.value) b (rules.sealed t l.value good l.spelt.fits) (subst (λ c. IsFront r.fielding c b) l.spelt.same l.front)),
  )
    where
      by : Live r.fielding r.whole t b ↔ LiveByChunks r.fielding r.whole t b
      by = live_iff r.fielding rules.open_starts rules.utf8_starts rules.units r.whole t (λ v f. rules.sealed t v good f) b

      there : LiveByChunks r.fielding r.whole t b → IsLive r.fielding (Wholes r t) b
      there l = record { value = l.0; chunks = r.whole t l.0; spelt = record { fits = l.1; same = refl }; front = front_of r.fielding (r.whole t l.0) b (rules.sealed t l.0 good l.1) l.2 }

  -- ---- fronts

  -- an encoding at the front of few octets is a spelling at the front of their units
  pub encoding_spells : (s : List ℕ) (v : Datum) (n : ℕ) → length s ≤ max_octets → n ≤ length s → IsEncoding r t v (take n s) → Spells r.fielding (Wholes r t) v (r.units s) (r.units (drop n s))
  encoding_spells s v n few w h = record {
    chunks = r.whole t v;
    spelt = record { fits = h.0; same = refl };
    contents = contents_by_length r.fielding rules.weight rules.some rules.long (r.whole t v) (rules.sealed t v good h.0) (subst (λ (i : ℕ). i ≤ rules.weight * max_len) (count ∙ ap length h.1) bound);
    split = ap r.units (sym (take-append-drop n s)) ∙ rules.joined (take n s) (drop n s) ∙ ap (λ (l : List ℕ). l ++ r.units (drop n s)) h.1;
  }
    where
      count : rules.weight * n ≡ length (r.units (take n s))
      count = ap (λ (i : ℕ). rules.weight * i) (sym (length-take-le n s w)) ∙ sym (rules.count (take n s))

      bound : rules.weight * n ≤ rules.weight * max_len
      bound = mul-le-mul_left rules.weight (omega arith)

  -- no spelling at the front, so no encoding
  pub none_is : (s : List ℕ) → length s ≤ max_octets → NoSpelling r.fielding (Wholes r t) (r.units s) → NoFront r t s
  none_is s few none = λ v n w h. none v (r.units (drop n s)) (encoding_spells s v n few w h)

  -- a spelling at the front of the units, with those of this many octets after it, is an encoding
  pub spells_encoding : (s : List ℕ) (v : Datum) (n : ℕ) (rest : List ℕ) → n ≤ length s → length rest ≡ length (r.units (drop n s)) → Spells r.fielding (Wholes r t) v (r.units s) rest → IsEncoding r t v (take n s)
  spells_encoding s v n rest w l h = (h.spelt.fits, fronts ∙ ap (flat r.fielding.spelled) h.spelt.same)
    where
      split : r.units (take n s) ++ r.units (drop n s) ≡ flat r.fielding.spelled h.chunks ++ rest
      split = sym (rules.joined (take n s) (drop n s)) ∙ ap r.units (take-append-drop n s) ∙ h.split

      count : length (r.units (take n s)) + length (r.units (drop n s)) ≡ length (flat r.fielding.spelled h.chunks) + length rest
      count = sym (length-append (r.units (take n s)) (r.units (drop n s))) ∙ ap length split ∙ length-append (flat r.fielding.spelled h.chunks) rest

      fronts : r.units (take n s) ≡ flat r.fielding.spelled h.chunks
      fronts = same_fronts (r.units (take n s)) (flat r.fielding.spelled h.chunks) (r.units (drop n s)) rest (omega (arith, count, l)) split

  -- octets are an encoding where their units are a spelling with nothing after it
  pub content_is : (c : List ℕ) (v : Datum) → length c ≤ max_octets → IsEncoding r t v c ↔ Whole r.fielding (Wholes r t) v (r.units c)
  content_is c v few = (
    λ h.
        let s : Spells r.fielding (Wholes r t) v (r.units c) (r.units (drop (length c) c)) = encoding_spells c v (length c) few (omega arith) (subst (λ o. IsEncoding r t v o) (sym (take-length c)) h) in
        subst (λ l. Spells r.fielding (Wholes r t) v (r.units c) l) nothing s,
    λ h. subst (λ o. IsEncoding r t v o) (take-length c) (spells_encoding c v (length c) [] (omega arith) (ap length (sym nothing)) h),
  )
    where
      none : length (drop (length c) c) ≡ 0
      none = omega (arith, length-drop (length c) c)

      nothing : r.units (drop (length c) c) ≡ []
      nothing =
          let count : rules.weight * length (drop (length c) c) ≡ rules.weight * 0 = ap (λ (i : ℕ). rules.weight * i) none in
          no_length (r.units (drop (length c) c)) (omega (arith, rules.count (drop (length c) c), count))

  -- so a content that is read to more, to a refusal, or to a value with units after it, is no encoding
  pub no_content_short : (c : List ℕ) → length c ≤ max_octets → Short r.fielding (Wholes r t) (r.units c) → (a : Datum) → IsEncoding r t a c → ⊥
  no_content_short c few h a e = h.none a [] ((content_is c a few).0 e)

  -- by a refusal
  pub no_content_refused : (c : List ℕ) (left : ℕ) → length c ≤ max_octets → Refused r.fielding (Wholes r t) (r.units c) left → (a : Datum) → IsEncoding r t a c → ⊥
  no_content_refused c left few h a e = h.none a [] ((content_is c a few).0 e)

  -- by units after it
  pub no_content_after : (c : List ℕ) (v : Datum) (rest : List ℕ) → length c ≤ max_octets → Spells r.fielding (Wholes r t) v (r.units c) rest → rest ≢ [] → (a : Datum) → IsEncoding r t a c → ⊥
  no_content_after c v rest few h full a e = full (one_front fields_tell wholes_lawful h ((content_is c a few).0 e)).1

  -- ---- answers

  -- a value that is read is the answer
  pub answer_done : (s : List ℕ) (v : Datum) (n : ℕ) (rest : List ℕ) → n ≤ length s → length rest ≡ length (r.units (drop n s)) → Spells r.fielding (Wholes r t) v (r.units s) rest → Answer r t s (done v n)
  answer_done s v n rest w l h = (w, spells_encoding s v n rest w l h)

  -- a refusal is at the position of the answer
  pub answer_refused : (s : List ℕ) (left : ℕ) → length s ≤ max_octets → Refused r.fielding (Wholes r t) (r.units s) left → Answer r t s (refused (length (r.units s) - left))
  answer_refused s left few h = (none_is s few h.none, place_by (λ b. (live_is b).1) (λ b. (live_is b).0) (refused_place h))

  -- more wanted means that an encoding may follow
  short_says : (s : List ℕ) → length s ≤ max_octets → Short r.fielding (Wholes r t) (r.units s) → NoFront r t s × LiveOctets r t s
  short_says s few h = (none_is s few h.none, (live_is (r.units s)).1 h.live)

  -- and that is the answer below the limit
  pub answer_more : (s : List ℕ) → length s < max_octets → Short r.fielding (Wholes r t) (r.units s) → Answer r t s more
  answer_more s few h = (let w = short_says s (omega arith) h in (w.0, w.1, few))

  -- and at the limit
  pub answer_too_long : (s : List ℕ) → length s ≡ max_octets → Short r.fielding (Wholes r t) (r.units s) → Answer r t s too_long
  answer_too_long s few h = (let w = short_says s (omega arith) h in (w.0, w.1, few))

-- of one list of units there is one reading
pub one_reading : (r : Ruling) (t : Shape) (us : List ℕ) → RulesTell r → InProfile t → HasOneReading r t us
one_reading r t us rules good = record {
  done = λ v w x y p q. one_front (fields_tell r rules t good) (wholes_lawful r rules t good) p q;
  refused = λ m n p q. one_refusal p q;
  done_or_refused = λ v x n p q. refused_or_done q p;
  done_or_short = λ v x p q. short_or_done q p;
  refused_or_short = λ n p q. refused_or_short p q;
}

-- readings are answers
pub readings_answer : (r : Ruling) (t : Shape) (s : List ℕ) → RulesTell r → InProfile t → ReadingsAnswer r t s
readings_answer r t s rules good = record {
  value = λ v n rest w l h. answer_done r rules t good s v n rest w l h;
  place = λ left few h. answer_refused r rules t good s left few h;
  wanting = λ few h. answer_more r rules t good s few h;
  at_the_limit = λ few h. answer_too_long r rules t good s few h;
}
