use Rattle.std.proofs.Common.{◌≡◌, ◌<◌, ◌≤◌, ℕ, zero, suc, List, [], ◌∷◌, map, get_or, length, refl, sym, ap, ◌∙◌, arith}
use Rattle.std.specs.Prelude.{string_bytes}
use Rattle.asn_values.specs.declared.types.Item.{Item}
use Rattle.asn_values.specs.View.{label_of}
use Rattle.asn_module.specs.Printing.{label_name}
use Rattle.asn_module.proofs.printing.label_name.Goals as goal

name_at : (items : List Item) (i : ℕ) (x : Item) → i < length items → x ≡ get_or items i x → string_bytes x.name ≡ label_name (map label_of items) i
name_at [] i x less e = absurd (omega arith)
name_at (y ∷ items) zero x less e = ap (λ (z : Item). string_bytes z.name) e
name_at (y ∷ items) (suc i) x less e = name_at items i x (omega arith) e

none_at : (items : List Item) (i : ℕ) → length items ≤ i → [] ≡ label_name (map label_of items) i
none_at [] i more = refl
none_at (y ∷ items) zero more = absurd (omega arith)
none_at (y ∷ items) (suc i) more = none_at items i (omega arith)

pub returns-then-index-items : goal.returns-then-index-items
returns-then-index-items c =
    c.as_str.ensures.value ∙ ap (λ (z : Item). string_bytes z.name) (sym c.index-items-index.is) ∙ name_at c.args.items.now c.args.index c.index-items-index.result c.if-index-items.true c.index-items-index.is

pub returns-else-index-items : goal.returns-else-index-items
returns-else-index-items c = none_at c.args.items.now c.args.index c.if-index-items.false
