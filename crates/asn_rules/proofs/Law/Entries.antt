-- The entries of a SEQUENCE: what its presence bits say, and its components one after the other.
use Rattle.std.proofs.Common.{◌≡◌, ◌≤◌, ◌<◌, ℕ, suc, ℤ, pos, negsuc, Bool, true, false, not, List, [], ◌∷◌, ◌++◌, length, Option, Some, None, refl, sym, ◌∙◌, ap, arith, append_assoc, IsTrue}
use Rattle.std.proofs.lemmas.Bool.{true≢false, leb-true, eqb-true, and_parts}
use Rattle.std.specs.Int.RustNames.{int_le}
use Rattle.asn_values.specs.Datum.{Datum, truth, number, item, components, elements, Elements, no_elements, element, Components, no_components, absent, present, component_list, element_list, elements_of, components_of}
use Rattle.asn_values.specs.Shape.{Demand, must, optional, default, Fields, no_fields, field, demands}
use Rattle.asn_values.specs.Fits.{FitsEach, FitsDemand}
use Rattle.asn_bits.proofs.FilledBits.{AreBits, bits_append}
use Rattle.asn_rules.specs.Chunks.{Chunk}
use Rattle.asn_rules.specs.Components.{bit_of, is_spelled, is_default, presence, if_spelled, any_present, extension_bit}
use Rattle.asn_rules.proofs.Law.Facing.{Facing, IsFacing}

-- ---- lists of entries and of elements

-- elements come back from their list
elements_again : (es : Elements) → elements_of (element_list es) ≡ es
elements_again no_elements = refl
elements_again (element d es) = ap (element d) (elements_again es)

-- components come back from their list
pub components_again : (cs : Components) → components_of (component_list cs) ≡ cs
components_again no_components = refl
components_again (absent cs) = ap absent (components_again cs)
components_again (present d cs) = ap (present d) (components_again cs)

-- elements with one list are one
pub same_elements : (x y : Elements) → element_list x ≡ element_list y → elements x ≡ elements y
same_elements x y e = ap elements (sym (elements_again x) ∙ ap elements_of e ∙ elements_again y)

-- and so are components
pub same_components : (x y : Components) → component_list x ≡ component_list y → components x ≡ components y
same_components x y e = ap components (sym (components_again x) ∙ ap components_of e ∙ components_again y)

-- there are as many entries as components
pub each_length : (fs : Fields) (es : List (Option Datum)) → FitsEach fs es → length es ≡ length (demands fs)
each_length no_fields [] h = refl
each_length no_fields (e ∷ es) h = absurd h
each_length (field name demand t fs) [] h = absurd h
each_length (field name demand t fs) (e ∷ es) h = ap suc (each_length fs es h.1)

-- where none is present, they are as many absent ones
pub none_present : (es gs : List (Option Datum)) → length es ≡ length gs → any_present es ≡ false → any_present gs ≡ false → es ≡ gs
none_present [] [] l p q = refl
none_present [] (g ∷ gs) l p q = absurd (cc)
none_present (e ∷ es) [] l p q = absurd (cc)
none_present (None ∷ es) (None ∷ gs) l p q = ap (λ t. None ∷ t) (none_present es gs (cc) p q)
none_present (Some x ∷ es) (g ∷ gs) l p q = absurd (true≢false p)
none_present (None ∷ es) (Some y ∷ gs) l p q = absurd (true≢false q)

-- ---- the bits in front

-- a bit tells its truth value
pub bit_of_same : (a b : Bool) → bit_of a ≡ bit_of b → a ≡ b
bit_of_same false false e = refl
bit_of_same true true e = refl
bit_of_same false true e = absurd (omega arith)
bit_of_same true false e = absurd (omega arith)

-- the presence bits of as many components end at one position
pub presence_code : (ds : List Demand) (es gs : List (Option Datum)) (r s : List ℕ) → length es ≡ length ds → length gs ≡ length ds
    → presence ds es ++ r ≡ presence ds gs ++ s → (presence ds es ≡ presence ds gs) × (r ≡ s)
presence_code [] es gs r s p q e = (refl, e)
presence_code (d ∷ ds) [] gs r s p q e = absurd (cc)
presence_code (d ∷ ds) (x ∷ es) [] r s p q e = absurd (cc)
presence_code (must ∷ ds) (x ∷ es) (y ∷ gs) r s p q e = presence_code ds es gs r s (cc) (cc) e
presence_code (optional ∷ ds) (x ∷ es) (y ∷ gs) r s p q e = let w = presence_code ds es gs r s (cc) (cc) (cc) in (cc (w.0), w.1)
presence_code (default d ∷ ds) (x ∷ es) (y ∷ gs) r s p q e = let w = presence_code ds es gs r s (cc) (cc) (cc) in (cc (w.0), w.1)

-- they are as many
pub length-presence : (ds : List Demand) (es gs : List (Option Datum)) → length es ≡ length ds → length gs ≡ length ds → length (presence ds es) ≡ length (presence ds gs)
length-presence [] es gs p q = refl
length-presence (d ∷ ds) [] gs p q = absurd (cc)
length-presence (d ∷ ds) (x ∷ es) [] p q = absurd (cc)
length-presence (must ∷ ds) (x ∷ es) (y ∷ gs) p q = length-presence ds es gs (cc) (cc)
length-presence (optional ∷ ds) (x ∷ es) (y ∷ gs) p q = ap suc (length-presence ds es gs (cc) (cc))
length-presence (default d ∷ ds) (x ∷ es) (y ∷ gs) p q = ap suc (length-presence ds es gs (cc) (cc))

-- the first of them says whether the first component is spelt
pub presence_first : (d : Demand) (ds : List Demand) (x y : Option Datum) (es gs : List (Option Datum)) → presence (d ∷ ds) (x ∷ es) ≡ presence (d ∷ ds) (y ∷ gs)
    → (is_spelled d x ≡ is_spelled d y) × (presence ds es ≡ presence ds gs)
presence_first must ds x y es gs e = (refl, e)
presence_first optional ds x y es gs e = (bit_of_same _ _ (cc), cc)
presence_first (default d) ds x y es gs e = (bit_of_same _ _ (cc), cc)

-- an extension bit, where there is a mark, says whether an addition is present
pub extension_code : (m a b : Bool) (r s : List ℕ) → extension_bit m a ++ r ≡ extension_bit m b ++ s → (IsTrue m → a ≡ b) × (r ≡ s)
extension_code false a b r s e = ((λ h. absurd (true≢false (sym h))), e)
extension_code true a b r s e = ((λ h. bit_of_same a b (cc)), cc)

-- what the extension bit and the presence bits of two values that agree in them say
pub record SameFront (m a b : Bool) (ds : List Demand) (es gs : List (Option Datum)) : Type 0 where
  pub extended : IsTrue m → a ≡ b
  pub entries : presence ds es ≡ presence ds gs
  pub bits : extension_bit m a ++ presence ds es ≡ extension_bit m b ++ presence ds gs

-- the bits in front of a SEQUENCE say so where they begin one list
pub front_code : (m a b : Bool) (ds : List Demand) (es gs : List (Option Datum)) (r s : List ℕ) → length es ≡ length ds → length gs ≡ length ds
    → (extension_bit m a ++ presence ds es) ++ r ≡ (extension_bit m b ++ presence ds gs) ++ s → SameFront m a b ds es gs
front_code m a b ds es gs r s p q e =
    let E = extension_bit m a in
    let F = extension_bit m b in
    let w = extension_code m a b (presence ds es ++ r) (presence ds gs ++ s) (sym (append_assoc E (presence ds es) r) ∙ e ∙ append_assoc F (presence ds gs) s) in
    let v = presence_code ds es gs r s p q w.1 in
    let bit : E ≡ F = same_bit m w.0 in
    record { extended = w.0; entries = v.0; bits = cc (bit, v.0) }
  where
    same_bit : (m : Bool) → (IsTrue m → a ≡ b) → extension_bit m a ≡ extension_bit m b
    same_bit false h = refl
    same_bit true h = ap (λ c. bit_of c ∷ []) (h refl)

-- ---- what these bits are, and how many

-- the bit of a truth value is a bit
pub bit_of_is : (b : Bool) → bit_of b < 2
bit_of_is true = omega arith
bit_of_is false = omega arith

-- presence bits are bits
pub presence_bits : (ds : List Demand) (es : List (Option Datum)) → AreBits (presence ds es)
presence_bits [] es = tt
presence_bits (must ∷ ds) [] = tt
presence_bits (optional ∷ ds) [] = tt
presence_bits (default d ∷ ds) [] = tt
presence_bits (must ∷ ds) (e ∷ es) = presence_bits ds es
presence_bits (optional ∷ ds) (e ∷ es) = (bit_of_is (is_spelled optional e), presence_bits ds es)
presence_bits (default d ∷ ds) (e ∷ es) = (bit_of_is (is_spelled (default d) e), presence_bits ds es)

-- and so is the extension bit
pub extension_bits : (m e : Bool) → AreBits (extension_bit m e)
extension_bits false e = tt
extension_bits true e = (bit_of_is e, tt)

-- those in front of a SEQUENCE
pub front_bits : (m e : Bool) (ds : List Demand) (es : List (Option Datum)) → AreBits (extension_bit m e ++ presence ds es)
front_bits m e ds es = bits_append (extension_bit m e) (presence ds es) (extension_bits m e) (presence_bits ds es)

-- whether there is an extension bit depends on the mark alone
pub length-extension_bit : (m a b : Bool) → length (extension_bit m a) ≡ length (extension_bit m b)
length-extension_bit false a b = refl
length-extension_bit true a b = refl

-- no more presence bits than components
pub few_presence : (ds : List Demand) (es : List (Option Datum)) → length (presence ds es) ≤ length ds
few_presence [] es = omega arith
few_presence (must ∷ ds) [] = omega arith
few_presence (optional ∷ ds) [] = omega arith
few_presence (default d ∷ ds) [] = omega arith
few_presence (must ∷ ds) (e ∷ es) = let h = few_presence ds es in omega arith
few_presence (optional ∷ ds) (e ∷ es) = let h = few_presence ds es in omega arith
few_presence (default d ∷ ds) (e ∷ es) = let h = few_presence ds es in omega arith

-- at most one extension bit
pub few_extension : (m e : Bool) → length (extension_bit m e) ≤ 1
few_extension false e = omega arith
few_extension true e = omega arith

-- ---- DEFAULT

-- numbers not above one another are one
pub le_z_antisymm : (y z : ℤ) → int_le y z ≡ true → int_le z y ≡ true → y ≡ z
le_z_antisymm (pos a) (pos b) p q = ap pos (omega (arith, leb-true a b p, leb-true b a q))
le_z_antisymm (pos a) (negsuc b) p q = absurd (true≢false (sym p))
le_z_antisymm (negsuc a) (pos b) p q = absurd (true≢false (sym q))
le_z_antisymm (negsuc a) (negsuc b) p q = ap negsuc (omega (arith, leb-true b a p, leb-true a b q))

-- the test on a DEFAULT holds of that value alone
pub default_is : (d x : Datum) → is_default d x ≡ true → d ≡ x
default_is (truth true) (truth b) h = ap truth (sym h)
default_is (truth false) (truth true) h = absurd (true≢false (sym h))
default_is (truth false) (truth false) h = refl
default_is (number y) (number z) h = let w = and_parts _ _ h in ap number (le_z_antisymm y z w.0 w.1)
default_is (item i) (item j) h = ap item (eqb-true i j h)
default_is _ _ h = absurd (true≢false (sym h))

-- a DEFAULT is one value
pub default_same : (d x y : Datum) → is_default d x ≡ true → is_default d y ≡ true → x ≡ y
default_same d x y p q = sym (default_is d x p) ∙ default_is d y q

-- ---- one component

-- what the spellings of its values have, and the empty list, the component's has, spelt or not
pub entry_has : (S : List Chunk → Type 0) (P : Datum → Type 0) (code : Datum → List Chunk) → S [] → ((d : Datum) → P d → S (code d)) → (demand : Demand) (e : Option Datum) → FitsDemand P demand e
    → S (if_spelled demand e code)
entry_has S P code none h demand None f = none
entry_has S P code none h demand (Some d) f = go (is_spelled demand (Some d))
  where
    go : (b : Bool) → S (elim b [ true ↦ code d | false ↦ [] ])
    go true = h d f
    go false = none

module _ (sp : List ℕ → List ℕ) where
  -- entries that are both spelt or both not
  pub entry_facing : (P : Datum → Type 0) (code : Datum → List Chunk) → IsFacing sp P code → (E : Type 0) (demand : Demand) (e g : Option Datum) (r s : List Chunk)
      → FitsDemand P demand e → FitsDemand P demand g → is_spelled demand e ≡ is_spelled demand g → (e ≡ g → Facing sp E r s)
      → Facing sp E (if_spelled demand e code ++ r) (if_spelled demand g code ++ s)
  entry_facing P code h E must None g r s p q b next = absurd p
  entry_facing P code h E must (Some x) None r s p q b next = absurd q
  entry_facing P code h E must (Some x) (Some y) r s p q b next = h E x y r s p q (λ e. next (ap Some e))
  entry_facing P code h E optional None None r s p q b next = next refl
  entry_facing P code h E optional None (Some y) r s p q b next = absurd (true≢false (sym b))
  entry_facing P code h E optional (Some x) None r s p q b next = absurd (true≢false b)
  entry_facing P code h E optional (Some x) (Some y) r s p q b next = h E x y r s p q (λ e. next (ap Some e))
  entry_facing P code h E (default d) None g r s p q b next = absurd p
  entry_facing P code h E (default d) (Some x) None r s p q b next = absurd q
  entry_facing P code h E (default d) (Some x) (Some y) r s p q b next = go (is_default d x) (is_default d y) refl refl b
    where
      go : (i j : Bool) → is_default d x ≡ i → is_default d y ≡ j → not i ≡ not j
          → Facing sp E (elim (not i) [ true ↦ code x | false ↦ [] ] ++ r) (elim (not j) [ true ↦ code y | false ↦ [] ] ++ s)
      go true true ei ej n = next (ap Some (default_same d x y ei ej))
      go false false ei ej n = h E x y r s p q (λ e. next (ap Some e))
      go true false ei ej n = absurd (true≢false (sym n))
      go false true ei ej n = absurd (true≢false n)
