-- The item of a name, by its index.
use Rattle.std.proofs.Common.{◌≡◌, ◌∙◌, ◌+◌, ℕ, suc, Bool, true, false, List, [], ◌∷◌, map, string_bytes, Option, Some, None, option_map, bytes_eq, nat_lt, refl, ap, arith}
use Rattle.std.specs.Prelude.{if◌then◌else◌}
use Rattle.asn_values.specs.declared.types.Item.{Item}
use Rattle.asn_values.specs.Datum as datum
use Rattle.asn_values.specs.Datum.{Datum}
use Rattle.asn_values.specs.View.{label_of}
use Rattle.asn_view.specs.Names.{index_of, item_names}
use Rattle.asn_module.specs.Meaning.{item_named}

-- the item at that index, none past 32 bits
abbrev pub item_if : Option ℕ → Datum
item_if None = datum.nothing
item_if (Some p) = if nat_lt p 4294967296 then datum.item p else datum.nothing

moved : (k : ℕ) (o : Option ℕ) → option_map (λ p. suc k + p) o ≡ option_map (λ p. k + p) (option_map suc o)
moved k None = refl
moved k (Some p) = ap Some (omega arith)

here_or_later : (b : Bool) (k : ℕ) (o : Option ℕ) (later : Datum) → later ≡ item_if (option_map (λ p. suc k + p) o) →
    (if b then (if nat_lt k 4294967296 then datum.item k else datum.nothing) else later) ≡ item_if (option_map (λ p. k + p) (if b then Some 0 else option_map suc o))
here_or_later true k o later h =
    let same : k ≡ k + 0 = omega arith in
    ap (λ p. item_if (Some p)) same
here_or_later false k o later h = h ∙ ap item_if (moved k o)

pub named_from : (name : List ℕ) (k : ℕ) (items : List Item) → item_named name k (map label_of items) ≡ item_if (option_map (λ p. k + p) (index_of name (item_names items)))
named_from name k [] = refl
named_from name k (i ∷ items) =
    here_or_later (bytes_eq (string_bytes i.name) name) k (index_of name (item_names items)) (item_named name (suc k) (map label_of items)) (named_from name (suc k) items)

from_zero : (o : Option ℕ) → option_map (λ p. 0 + p) o ≡ o
from_zero None = refl
from_zero (Some p) = ap Some (omega arith)

pub named : (name : List ℕ) (items : List Item) → item_named name 0 (map label_of items) ≡ item_if (index_of name (item_names items))
named name items = named_from name 0 items ∙ ap item_if (from_zero (index_of name (item_names items)))
