-- How often words were added.
use Rattle.std.specs.Prelude.{◌≡◌, ℕ, ◌<◌, List, String, count_by}
use Rattle.std.specs.BTreeMap.{get_by_text, BTreeMap}
use Rattle.std.specs.Str.{bytes_eq}
use Rattle.std.specs.Option.{unwrap_or}

-- how often v is among words
abbrev pub occurrences_of : List ℕ → List (List ℕ) → ℕ
occurrences_of v words = count_by (bytes_eq v) words

module _ {Y : Type 0} where
  -- the count of the word w, and 0 for a word that is not there
  abbrev pub count_of : BTreeMap (String Y) ℕ → List ℕ → ℕ
  count_of m w = unwrap_or (get_by_text m w) 0

  -- m counts each word as often as it is among these, and has no other word
  pub record IsCountedBy (words : List (List ℕ)) (m : BTreeMap (String Y) ℕ) : Type 0 where
    pub counts : (v : List ℕ) → count_of m v ≡ occurrences_of v words
    pub no_other : (v : List ℕ) → 0 < unwrap_or (get_by_text m v) 1
