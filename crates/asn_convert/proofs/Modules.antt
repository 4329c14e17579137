-- The line for a text that is no module, or one that is larger than is read.
use Rattle.std.proofs.Common.{◌≡◌, ◌<◌, ℕ, false, List, [], ◌∷◌, ◌++◌, refl, sym, ◌∙◌, append_assoc, inl, inr}
use Rattle.std.specs.Prelude.{codes, IsUtf8}
use Rattle.asn_module.specs.Accepted.{ModuleTypes, Accepted}
use Rattle.asn_module.specs.Bounded.{IsPastMost as FaultPastMost}
use Rattle.asn_module.specs.Sizes.{most_size, types_size}
use Rattle.asn_module.specs.declared.fault.ModuleFault.{ModuleFault}
use Rattle.asn_module.specs.declared.fault.ModuleFault.TheVariants as fault
use Rattle.asn_jobs.specs.Lines.{IsOneLine}
use Rattle.asn_convert.specs.Text.{IsRefusal, not_text, ended, is_past_most}

-- it is no text
pub no_text : (text line : List ℕ) → (IsUtf8 text → ⊥) → line ≡ ended not_text → IsRefusal text line
no_text text line never is = (not_text, inl ((λ m h. never h.utf8), inl (never, refl)), is)

-- it is a text, and no module
pub no_module : (octets text words line : List ℕ) → text ≡ octets → IsUtf8 octets → ((m : ModuleTypes) → Accepted text m → ⊥) → IsOneLine words → line ≡ codes "! module " ++ (words ++ 10 ∷ []) → IsRefusal octets line
no_module octets text words line same utf8 never one is =
    (codes "! module " ++ words, inl ((λ m h. never m (rw same h.accepted)), inr (utf8, (words, refl, one))), is ∙ sym (append_assoc (codes "! module ") words (10 ∷ [])))

-- it is a text, and no module that is read
pub past_most : (octets text words line : List ℕ) → text ≡ octets → IsUtf8 octets → ((m : ModuleTypes) → Accepted text m → most_size < types_size m.types) → IsOneLine words → line ≡ codes "! module too large: " ++ (words ++ 10 ∷ []) → IsRefusal octets line
past_most octets text words line same utf8 larger one is =
    (codes "! module too large: " ++ words, inr (utf8, (λ m h. larger m (rw same h.accepted)), (words, refl, one)), is ∙ sym (append_assoc (codes "! module too large: ") words (10 ∷ [])))

-- what a fault says of a module that the text is: it is larger than is read
pub larger : (e : ModuleFault) (m : ModuleTypes) → FaultPastMost e m → most_size < types_size m.types
larger (fault.TooLarge most size name) m h = h.1
larger (fault.Character at) m h = absurd h
larger (fault.Unexpected at) m h = absurd h
larger (fault.Unknown name) m h = absurd h
larger (fault.Cycle name) m h = absurd h
larger (fault.Twice name) m h = absurd h
larger (fault.BadType name why) m h = absurd h
larger (fault.OutOfProfile at) m h = absurd h
larger fault.Memory m h = absurd h

-- a fault without its words says nothing of a module that is larger
pub not_larger : (e : ModuleFault) → is_past_most e ≡ false → (m : ModuleTypes) → FaultPastMost e m → ⊥
not_larger (fault.TooLarge most size name) is m h = cc
not_larger (fault.Character at) is m h = h
not_larger (fault.Unexpected at) is m h = h
not_larger (fault.Unknown name) is m h = h
not_larger (fault.Cycle name) is m h = h
not_larger (fault.Twice name) is m h = h
not_larger (fault.BadType name why) is m h = h
not_larger (fault.OutOfProfile at) is m h = h
not_larger fault.Memory is m h = h
