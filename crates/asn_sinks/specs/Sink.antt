-- Which bits a sink has taken, and which are to come.
use Rattle.std.specs.Prelude.{◌≡◌, ◌<◌, ◌++◌, ℕ, Bool, true, List, [], ◌∷◌, length, replicate}
use Rattle.std.specs.List.{AllByRecursion}
use Rattle.asn_bits.specs.Lengths.{general_octets, octet_length}
use Rattle.asn_bits.specs.Numbers.{padding, unpacked}
use Rattle.asn_sinks.specs.declared.sink.Framing.{Framing}
use Rattle.asn_sinks.specs.declared.sink.Framing.TheVariants.{General, Single}

-- ---- where a sink stands

-- where a sink was begun, and the bits that follow each open type field around, the innermost first
pub record Context (Origin : Type 0) : Type 0 where
  pub origin : Origin
  pub around : List (List ℕ)

-- the same inside one more open type field, which the bits `next` follow
abbrev pub inside : {Origin : Type 0} → Context Origin → List ℕ → Context Origin
inside c next = record { origin = c.origin; around = next ∷ c.around }

-- In a context, some bits were taken of the innermost open type field (of the encoding, outside of them all), and others
-- are still to come of it: the sink, the context, the bits taken, the bits to come.
abbrev pub Standing : Type 0 → Type 0 → Type 1
Standing Sink Origin = Sink → Context Origin → List ℕ → List ℕ → Type 0

-- ---- bits

-- these bits were taken, where they were the first of those to come
abbrev pub Pushes : {Sink Origin : Type 0} → Standing Sink Origin → Sink → Sink → List ℕ → Type 0
Pushes {Sink} {Origin} stands old new bits =
    (c : Context Origin) (taken coming : List ℕ) → stands old c taken (bits ++ coming)
    → stands new c (taken ++ bits) coming

-- the same inside this many open type fields
abbrev pub PushesAt : {Sink Origin : Type 0} → Standing Sink Origin → ℕ → Sink → Sink → List ℕ → Type 0
PushesAt {Sink} {Origin} stands level old new bits =
    (c : Context Origin) (taken coming : List ℕ) → length c.around ≡ level
    → stands old c taken (bits ++ coming) → stands new c (taken ++ bits) coming

-- what fills up octets after these bits; eight bits after none, where `some` octet is wanted
abbrev pub filling : Bool → List ℕ → List ℕ
filling true [] = replicate 8 0
filling _ bits = padding (length bits)

-- the zeros that fill up octets were taken
abbrev pub Fills : {Sink Origin : Type 0} → Standing Sink Origin → Bool → Sink → Sink → Type 0
Fills {Sink} {Origin} stands some old new =
    (c : Context Origin) (taken coming : List ℕ) → stands old c taken (filling some taken ++ coming)
    → stands new c (taken ++ filling some taken) coming

-- ---- open type fields

-- an open type field with these octets as its content
abbrev pub framed : Framing → List ℕ → List ℕ
framed General os = general_octets (λ u. u) os
framed Single os = unpacked (octet_length (length os)) ++ unpacked os

-- An open type field was begun inside `level` others, and its whole content is to come. Where lengths are wanted, its
-- content has to have the n octets that were told.
abbrev pub Begins : {Sink Origin Outer : Type 0} → Standing Sink Origin → (Outer → List ℕ → Type 0) → Bool → ℕ → Framing
    → ℕ → Sink → Sink → Outer → Type 0
Begins {Sink} {Origin} stands keeps wants level framing n old new outer =
    (c : Context Origin) (taken os next : List ℕ) → length c.around ≡ level → (wants ≡ true → length os ≡ n)
    → stands old c taken (framed framing os ++ next)
    → stands new (inside c next) [] (unpacked os) × keeps outer taken

-- It was ended, when all of its content had been taken.
abbrev pub Ends : {Sink Origin Outer : Type 0} → Standing Sink Origin → (Outer → List ℕ → Type 0) → Framing
    → Sink → Outer → Sink → Type 0
Ends {Sink} {Origin} stands keeps framing old outer new =
    (c : Context Origin) (taken os next : List ℕ) → AllByRecursion (λ o. o < 256) os → keeps outer taken
    → stands old (inside c next) (unpacked os) []
    → stands new c (taken ++ framed framing os) next
