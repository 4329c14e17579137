-- From what was read of a part, of which nothing is kept, to what was read of the whole.
use Rattle.std.proofs.Common.{ℕ, List, [], ◌++◌}
use Rattle.asn_rules.specs.Chunks.{Chunk}
use Rattle.asn_rules.specs.Languages.{Spells, Row}
use Rattle.asn_rules.specs.Live.{Fielding}
use Rattle.asn_rules.proofs.Languages.Leads.{Leads}
use Rattle.asn_rules.proofs.Languages.Parts.{map_spells}
use Rattle.asn_walk.specs.Coding.{Coding}
use Rattle.asn_walk.specs.Reading.{After}
use Rattle.asn_walk_check.specs.Checked.{ReadsSome}

-- where some value of a part is read, one of the whole is
pub some_led : {A B : Type 0} {c : Coding} {M : B → List Chunk → Type 0} {f : B → A} {L : A → List Chunk → Type 0}
    {old mid new : List ℕ} → Leads c.ruling.fielding M (c.to_units mid) f L (c.to_units old) → ReadsSome c M mid new
    → ReadsSome c L old new
some_led {c = c} {f = f} {new = new} l h = record { value = f h.value; read = l.done h.value (c.to_units new) h.read }

-- further values, after those that were read before
pub after_others : {A : Type 0} {R : Fielding} {L : List A → List Chunk → Type 0} (before : List A) {vs : List A}
    {us r : List ℕ} → Spells R L vs us r → Spells R (After before L) (before ++ vs) us r
after_others before h = map_spells {f = λ es. before ++ es} h
