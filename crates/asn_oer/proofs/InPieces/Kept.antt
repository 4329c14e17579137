-- What is kept of open type fields and UTF8Strings in OER is their content; the other simple types are plain octets.
use Rattle.std.proofs.Common.{◌≡◌, ◌≢◌, ◌<◌, ◌+◌, ◌*◌, ◌^◌, ◌⊎◌, inl, inr, ⊎_elim, ℕ, zero, suc, List, [], ◌∷◌, ◌++◌, length, map, append-nil, refl, sym, ap, ◌∙◌, subst, arith}
use Rattle.std.proofs.lemmas.Bool.{cases_eq}
use Rattle.std.proofs.lemmas.Str.{IsUtf8-nil}
use Rattle.asn_values.specs.Datum.{Datum, truth, number, item, bit_list, octet_list, characters, unicode}
use Rattle.asn_values.specs.Profile.{InProfile}
use Rattle.asn_values.specs.Shape.{SizeRange, Shape, boolean, null, integer, enumerated, bit_string, octet_string, restricted, utf8_string, more_labels}
use Rattle.asn_rules.specs.Begun.{AllPlain}
use Rattle.asn_rules.specs.Chunks.{Chunk, one, ones}
use Rattle.asn_rules.specs.Components.{bit_of, number_at}
use Rattle.asn_rules.specs.Fields.{OneOctet, octet_fields}
use Rattle.asn_rules.specs.Languages.{IsFront, Spells, Short}
use Rattle.asn_rules.proofs.Languages.Parts.{plain_spells}
use Rattle.asn_rules.proofs.Languages.Spellings.{same_after}
use Rattle.asn_rules.proofs.Sealed.Fields.{utf8_octets}
use Rattle.asn_walk.specs.Ahead.{Ahead}
use Rattle.asn_walk_feed.specs.Keeping.{OtherOctet, OctetsDiffer, IsUnsealed, KeepLaws}
use Rattle.asn_oer.specs.Oer.{oer, oer_fields, truth_octet, whole_number, item_number, bit_octets, sized_octets}
use Rattle.asn_oer.specs.Rules.{oer_ruling}
use Rattle.asn_oer.specs.SingleItems.{any_octets, oer_parts}
use Rattle.asn_oer.specs.Walk.{oer_coding}
use Rattle.asn_oer.proofs.InPieces.Counts.{list_start_few}
use Rattle.asn_oer.proofs.InPieces.StringItems.{any_same}

-- ---- octets

-- an octet is one unit
spelt_octet : (x : ℕ) → x < 256 → OneOctet x (ones (x ∷ []))
spelt_octet x h = record { units = x ∷ []; spelt = record { digits = record { digits = (h, tt); count = refl; sum = omega arith }; member = h }; same = refl }

-- units that begin one are none or all of it
none_or_all : (us ws : List ℕ) → length ws ≡ 1 → IsFront oer_fields (ones ws) us → (us ≡ []) ⊎ (us ≡ ws)
none_or_all [] ws e i = inl refl
none_or_all (u ∷ us) [] e i = absurd i
none_or_all (u ∷ us) (w ∷ x ∷ ws) e i = absurd (omega (arith, e))
none_or_all (u ∷ []) (w ∷ []) e i = inr (ap (λ (n : ℕ). n ∷ []) (sym i.0))
none_or_all (u ∷ y ∷ us) (w ∷ []) e i = absurd i.1

-- so none has come of one that has not come whole
none_of_octet : (us : List ℕ) → Short oer_fields OneOctet us → us ≡ []
none_of_octet us h =
    let s = h.live.spelt in
    let front : IsFront oer_fields (ones s.units) us = subst (λ (cs : List Chunk). IsFront oer_fields cs us) s.same h.live.front in
    ⊎_elim
    (λ e. e)
    (λ e. absurd (h.none h.live.value [] (subst (λ (l : List ℕ). Spells oer_fields OneOctet h.live.value l []) (append-nil s.units ∙ sym e) (plain_spells oer_fields h.live.value s.units [] s.spelt))))
    (none_or_all us s.units s.spelt.digits.count front)

any_first : (o : ℕ) (us : List ℕ) → us ≡ [] → OtherOctet oer_coding any_octets o us
unfolding oer_coding oer_ruling
any_first o us e = ⊎_elim
    (λ z. record { octet = 1; differs = λ x. (let y : 1 ≡ 0 = x ∙ z in absurd (omega (arith, y))); chunks = ones (1 ∷ []); spelt = spelt_octet 1 (omega arith); front = rw e tt })
    (λ n. record { octet = 0; differs = λ x. n (sym x); chunks = ones (0 ∷ []); spelt = spelt_octet 0 (omega arith); front = rw e tt })
    (cases_eq o 0)

octets_differ : OctetsDiffer oer_coding any_octets
unfolding oer_coding oer_ruling
octets_differ = record {
  none_first = λ p cs h. ap (λ (q : List ℕ × Ahead). q.0) h.seen;
  other = λ o us h. ⊎_elim (λ e. any_first o us e) (λ x. any_first o us (none_of_octet us x)) h;
}

-- ---- plain octets

abbrev Plainly : List Chunk → Type 0
Plainly cs = (us : List ℕ) × (cs ≡ ones us)

-- a simple type that is no UTF8String
simple_plain : (t : Shape) → IsUnsealed t → (v : Datum) → Plainly (oer t v)
simple_plain boolean h (truth b) = (truth_octet b ∷ [], refl)
simple_plain boolean h _ = ([], refl)
simple_plain null h v = ([], refl)
simple_plain (integer r) h (number z) = (whole_number r z, refl)
simple_plain (integer r) h _ = ([], refl)
simple_plain (enumerated root more) h (item p) = (item_number (number_at (root ++ more_labels more) p), refl)
simple_plain (enumerated root more) h _ = ([], refl)
simple_plain (bit_string s) h (bit_list bs) = (bit_octets s (map bit_of bs), refl)
simple_plain (bit_string s) h _ = ([], refl)
simple_plain (octet_string s) h (octet_list os) = (sized_octets s os, refl)
simple_plain (octet_string s) h _ = ([], refl)
simple_plain (restricted k s) h (characters cs) = (sized_octets s cs, refl)
simple_plain (restricted k s) h _ = ([], refl)
simple_plain _ h v = absurd h

list_start_plain : (s : SizeRange) → AllPlain (oer_coding.list_start s)
list_start_plain s = record { plain = λ v cs h. (let x = (list_start_few s).units v cs h in (x.0, x.1)) }

pub oer_keep_laws : KeepLaws oer_coding oer_parts
unfolding oer_coding oer_ruling
oer_keep_laws = record {
  open_type = octets_differ;
  utf8 = octets_differ;
  utf8_same = same_after any_same (utf8_octets octet_fields (λ c. refl));
  utf8_value = (unicode [], [], record { fits = ((omega arith, IsUtf8-nil), tt); same = refl });
  unsealed = λ t good h. record { plain = λ v cs x. (let p = simple_plain t h v in (p.0, x.same ∙ p.1)) };
  list_start = λ s good. list_start_plain s;
}
