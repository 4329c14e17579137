-- Whether an entry has a value.
use Rattle.std.proofs.Common.{◌≡◌, Bool, true, false, List, [], ◌∷◌, map, Option, Some, None, is_some, refl, sym, ◌∙◌}
use Rattle.std.specs.List.{list_any, Any, All}
use Rattle.std.specs.Option.{option_map}
use Rattle.std.proofs.lemmas.List.Folds.{list_any-from_Any, list_any_none}

-- a value that is seen as another is there where that is
present_map : {A B : Type 0} (f : A → B) (es : List (Option A))
    → list_any is_some (map (option_map f) es) ≡ list_any is_some es
present_map f [] = refl
present_map f (None ∷ es) = present_map f es
present_map f (Some x ∷ es) = refl

-- a test whether some entry has a value
pub present_test : {A B : Type 0} (f : A → B) (es : List (Option A)) (b : Bool)
    → (b ≡ true → Any (λ e. is_some e ≡ true) es) → (b ≡ false → All (λ e. is_some e ≡ false) es)
    → b ≡ list_any is_some (map (option_map f) es)
present_test f es true some none = sym (present_map f es ∙ list_any-from_Any is_some es (some refl))
present_test f es false some none = sym (present_map f es ∙ list_any_none is_some es (none refl))
