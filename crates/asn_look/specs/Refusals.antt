-- Lines that refuse a message of which something was skipped.
use Rattle.std.specs.Prelude.{◌≡◌, ◌==◌, ◌||◌, ◌&&◌, ◌∷◌, ◌++◌, [], ℕ, Bool, false, List, codes, string_bytes, ⊤}
use Rattle.std.specs.Char.{is_ascii_alphanumeric}
use Rattle.std.specs.List.{list_all, list_any}
use Rattle.asn_jobs.specs.Lines.{IsOneLine}
use Rattle.asn_look.specs.declared.newer_json.TakenBack.{TakenBack}
use Rattle.asn_look.specs.declared.newer_json.TakenBack.TheVariants as taken

-- ---- paths

-- a letter of names, a digit, or a mark of paths
abbrev pub is_of_path : ℕ → Bool
is_of_path octet = is_ascii_alphanumeric octet || list_any (λ mark. mark == octet) (codes "$-.[]")

-- a text that has the form of a path, as $.list[3].x
abbrev pub is_path : List ℕ → Bool
is_path [] = false
is_path (octet ∷ octets) = (octet == 36) && list_all is_of_path octets

-- ---- lines

-- one line, with its LF
abbrev pub IsEndedLine : List ℕ → Type 0
IsEndedLine text = (line : List ℕ) × (text ≡ line ++ 10 ∷ []) × IsOneLine line

-- what is refused is refused by one line
abbrev pub RefusesInOneLine : TakenBack → Type 0
RefusesInOneLine (taken.Value value) = ⊤
RefusesInOneLine (taken.Refused refusal reason) = IsEndedLine (string_bytes refusal)
