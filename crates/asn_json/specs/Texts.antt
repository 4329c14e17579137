-- JSON as text: which JSON a text is, and why a text is refused before any type is asked.
use Rattle.std.specs.Prelude.{◌≡◌, ◌&&◌, ℕ, Bool, List, Some, string_bytes, nat_le, IsTrue, IsUtf8, ⊤}
use Rattle.std.specs.List.{list_all}
use Rattle.json.specs.Json.{Json, document}
use Rattle.json.specs.Strict.{HasUniqueKeys}
use Rattle.serde_json.specs.Data.{Data}
use Rattle.serde_json.specs.Read.{read}
use Rattle.asn_json.specs.declared.fault.TextFault.{TextFault}
use Rattle.asn_json.specs.declared.fault.TextFault.TheVariants as fault

-- the text is this JSON; of a key that an object has twice the last value stays
abbrev pub ReadsAs : List ℕ → Data → Type 0
ReadsAs text j = IsUtf8 text × (read text ≡ Some j)

-- no object in the text has a key twice
abbrev pub HasKeysOnce : List ℕ → Type 0
HasKeysOnce text = (j : Json) → document text ≡ Some j → HasUniqueKeys j

abbrev pub RepeatsKey : List ℕ → Type 0
RepeatsKey text = HasKeysOnce text → ⊥

-- the text is this JSON, without a key twice
pub record IsJson (text : List ℕ) (j : Data) : Type 0 where
  pub reads : ReadsAs text j
  pub once : HasKeysOnce text

-- the text is no JSON
abbrev pub IsNoJson : List ℕ → Type 0
IsNoJson text = (j : Data) → ReadsAs text j → ⊥

-- printable and no blank
abbrev pub is_graphic : ℕ → Bool
is_graphic c = nat_le 33 c && nat_le c 126

-- a path that fits into a line
abbrev pub IsPlainPath : List ℕ → Type 0
IsPlainPath path = IsTrue (list_all is_graphic path)

-- why a text is refused
abbrev pub IsRefusedBy : List ℕ → TextFault → Type 0
IsRefusedBy text fault.NotJson = IsNoJson text
IsRefusedBy text (fault.KeyTwice path) = RepeatsKey text × IsPlainPath (string_bytes path)
IsRefusedBy text fault.Memory = ⊤

pub record RefusesText (text : List ℕ) (why : TextFault) : Type 0 where
  pub told : IsRefusedBy text why
