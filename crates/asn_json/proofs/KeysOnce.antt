-- What a strict reading of a text says of its keys.
use Rattle.std.proofs.Common.{◌≡◌, ℕ, List, Option, Some, None, refl, ap, subst}
use Rattle.std.specs.Prelude.{IsSomeAnd, unwrap_or}
use Rattle.json.specs.Json.{Json, document}
use Rattle.json.specs.Strict.{HasUniqueKeys}
use Rattle.asn_json.specs.Texts.{HasKeysOnce, RepeatsKey}

unique_in : (o : Option Json) → IsSomeAnd o HasUniqueKeys → (j : Json) → o ≡ Some j → HasUniqueKeys j
unique_in None h j e = absurd h
unique_in (Some k) h j e = subst HasUniqueKeys (ap (λ o. unwrap_or o k) e) h

repeated_in : (o : Option Json) → IsSomeAnd o (λ j. ¬ HasUniqueKeys j) → ((j : Json) → o ≡ Some j → HasUniqueKeys j) → ⊥
repeated_in None h once = h
repeated_in (Some k) h once = h (once k refl)

-- of a text that is read strictly
pub has_keys_once : (text : List ℕ) → IsSomeAnd (document text) HasUniqueKeys → HasKeysOnce text
has_keys_once text h = unique_in (document text) h

-- of one that is refused for a key
pub repeats_key : (text : List ℕ) → IsSomeAnd (document text) (λ j. ¬ HasUniqueKeys j) → RepeatsKey text
repeats_key text h = λ once. repeated_in (document text) h once

-- of one that is none
pub has_no_keys : (text : List ℕ) → document text ≡ None → HasKeysOnce text
has_no_keys text none = λ j e. absurd (cc)
