-- The entries of a SEQUENCE by their indexes.
use Rattle.std.proofs.Common.{◌≡◌, ◌<◌, ◌≤◌, ℕ, zero, suc, List, [], ◌∷◌, length, get_or, Vec, Global, Option, Some, None, option_map, refl, sym, ap, ◌∙◌, arith}
use Rattle.asn_values.specs.declared.value.Value.{Value}
use Rattle.asn_values.specs.declared.value.Value.TheVariants as value
use Rattle.asn_values.specs.Datum.{Datum}
use Rattle.asn_values.specs.View.{datum_of, entries_seen}
use Rattle.asn_values.proofs.Views.{datum_of-Octets}
use Rattle.asn_contents.specs.Contents.{octets_of}

pub entry_there : (es : List (Option Value)) (i : ℕ) (e : Option Value) → i < length es → e ≡ get_or es i e → get_or (entries_seen es) i None ≡ option_map datum_of e
entry_there [] i e h is = absurd (omega arith)
entry_there (q ∷ es) zero e h is = rw is refl
entry_there (q ∷ es) (suc i) e h is = entry_there es i e (omega arith) is

pub no_entry_there : (es : List (Option Value)) (i : ℕ) → length es ≤ i → get_or (entries_seen es) i None ≡ None
no_entry_there [] i h = refl
no_entry_there (q ∷ es) zero h = absurd (omega arith)
no_entry_there (q ∷ es) (suc i) h = no_entry_there es i (omega arith)

pub octets_there : (x : Value) (v : Vec ℕ Global) (os : List ℕ) → x ≡ value.Octets v → os ≡ v.items → Some os ≡ octets_of (datum_of x)
octets_there x v os ex eo = rw (ex, eo, datum_of-Octets v) refl

-- what is said of an entry that was looked at
pub of_entry_there : {X : Type 0} (f : Option Datum → X) (es : List (Option Value)) (i : ℕ) (e q : Option Value) → i < length es → e ≡ get_or es i e → e ≡ q → f (option_map datum_of q) ≡ f (get_or (entries_seen es) i None)
of_entry_there f es i e q h is same = ap (λ x. f (option_map datum_of x)) (sym same) ∙ ap f (sym (entry_there es i e h is))

pub of_no_entry : {X : Type 0} (f : Option Datum → X) (es : List (Option Value)) (i : ℕ) → length es ≤ i → f None ≡ f (get_or (entries_seen es) i None)
of_no_entry f es i h = ap f (sym (no_entry_there es i h))
