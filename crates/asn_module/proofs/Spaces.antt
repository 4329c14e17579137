-- Tokens that are added to a text one after the other.
use Rattle.std.proofs.Common.{◌≡◌, ℕ, Bool, true, false, List, [], ◌∷◌, ◌++◌, refl, sym, ap, ◌∙◌, append_assoc}
use Rattle.asn_notation.specs.Token.{Token}
use Rattle.asn_notation.specs.Printed.{token_text}
use Rattle.asn_module.specs.Printing.{after_spaces, items_tokens}

pub spaces_append : (xs ys : List Token) → after_spaces (xs ++ ys) ≡ after_spaces xs ++ after_spaces ys
spaces_append [] ys = refl
spaces_append (x ∷ xs) ys =
    ap (λ (l : List ℕ). 32 ∷ l) (ap (λ (l : List ℕ). token_text x ++ l) (spaces_append xs ys) ∙ sym (append_assoc (token_text x) (after_spaces xs) (after_spaces ys)))

pub no_items : (b : Bool) → items_tokens b [] ≡ []
no_items true = refl
no_items false = refl
