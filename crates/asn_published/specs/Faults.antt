-- What is said of texts that become no module, in words.
use Rattle.std.specs.Prelude.{◌++◌, ℕ, List, Option, Some, None, codes, string_bytes}
use Rattle.std.specs.Fmt.{decimal}
use Rattle.asn_published_text.specs.Words.{wrong_words}
use Rattle.asn_published.specs.declared.fault.PublishedFault.{PublishedFault}
use Rattle.asn_published.specs.declared.fault.PublishedFault.TheVariants as fault

-- why texts become no module; nothing is said of the words for a fault of `asn_module`
abbrev pub fault_words : PublishedFault → Option (List ℕ)
fault_words (fault.Text text line w) = Some (codes "line " ++ (decimal line ++ (codes ": " ++ wrong_words w)))
fault_words (fault.Unread other) = None
fault_words (fault.TooLarge most name) =
    Some (codes "larger than " ++ (decimal most ++ (codes " at " ++ string_bytes name)))
fault_words fault.Memory = Some (codes "memory")
