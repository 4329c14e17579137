-- Which text a job reads as its module.
use Rattle.std.specs.Prelude.{◌≡◌, ◌≤◌, ℕ, List, [], ◌∷◌, ◌++◌, codes, IsUtf8}
use Rattle.asn_module.specs.Accepted.{ModuleTypes, Accepted}
use Rattle.asn_module.specs.Sizes.{types_size}

-- the line that ends the text of the module
abbrev pub mark : List ℕ
mark = codes "====" ++ 10 ∷ []

-- the octets are a text of this module, the mark, and the rest
abbrev pub IsInputOf : ModuleTypes → List ℕ → List ℕ → Type 0
IsInputOf m rest octets = (text : List ℕ) × Accepted text m × (octets ≡ text ++ mark ++ rest)

-- the most that a module may be, each type, each item of an ENUMERATED and each octet of a name in them counting one
abbrev pub most_module : ℕ
most_module = 10000000

abbrev pub IsNotLarge : ModuleTypes → Type 0
IsNotLarge m = types_size m.types ≤ most_module

-- the octets are a text of some module that is not too large, the mark, and the rest
abbrev pub IsInput : List ℕ → List ℕ → Type 0
IsInput rest octets = (m : ModuleTypes) × IsNotLarge m × IsInputOf m rest octets

-- the text is a module of the profile as it is
abbrev pub IsOwn : List ℕ → Type 0
IsOwn text = (m : ModuleTypes) × Accepted text m

-- it is this module, which is not too large
abbrev pub IsRead : List ℕ → ModuleTypes → Type 0
IsRead text m = Accepted text m × IsNotLarge m

-- the octets are characters, and a text of this module
abbrev pub IsReadText : List ℕ → ModuleTypes → Type 0
IsReadText text m = IsUtf8 text × IsRead text m

-- it is a module that is not too large
abbrev pub IsReadWithin : List ℕ → Type 0
IsReadWithin text = (m : ModuleTypes) × IsRead text m

-- the octets are a text of the module that this text is, the mark, and the rest
abbrev pub IsOwnInput : List ℕ → List ℕ → List ℕ → Type 0
IsOwnInput text rest octets = (m : ModuleTypes) × IsRead text m × IsInputOf m rest octets
