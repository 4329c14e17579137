-- That sinks keep the laws of the trait: bits are pushed one after the other, from those to come.
use Rattle.std.proofs.Common.{◌≡◌, ◌-◌, ◌^◌, ◌++◌, ℕ, min, List, [], length, subst, sym, ap, ◌∙◌, append_assoc}
use Rattle.std.proofs.lemmas.List.{append-nil}
use Rattle.asn_sinks.specs.declared.measure.Measure.{Measure}
use Rattle.asn_sinks.specs.Measures.{Measures, Counts}
use Rattle.asn_sinks.specs.Sink.{Standing, Pushes}

-- ---- any sink, of the bits to come

pub pushed_none : {Sink Origin : Type 0} (stands : Standing Sink Origin) (a : Sink) → Pushes stands a a []
pushed_none stands a c taken coming t = subst (λ s. stands a c s coming) (sym (append-nil taken)) t

-- first these bits, then those
pub pushed_joined : {Sink Origin : Type 0} (stands : Standing Sink Origin) (a b d : Sink) (xs ys : List ℕ)
    → Pushes stands a b xs → Pushes stands b d ys → Pushes stands a d (xs ++ ys)
pushed_joined stands a b d xs ys p q c taken coming t =
    subst (λ s. stands d c s coming) (append_assoc taken xs ys)
    (q c (taken ++ xs) coming (p c taken (ys ++ coming) (subst (λ x. stands a c taken x) (append_assoc xs ys coming) t)))

-- ---- a vector that grows

pub none_added : (a : List ℕ) → a ≡ a ++ []
none_added a = sym (append-nil a)

pub added_twice : (a b d xs ys : List ℕ) → b ≡ a ++ xs → d ≡ b ++ ys → d ≡ a ++ (xs ++ ys)
added_twice a b d xs ys p q = q ∙ ap (λ t. t ++ ys) p ∙ append_assoc a xs ys

pub added_stands : {Origin : Type 0} (a b xs : List ℕ) → b ≡ a ++ xs
    → Pushes {Sink = List ℕ} {Origin = Origin} (λ sink c taken coming. sink ≡ taken) a b xs
added_stands a b xs p c taken coming is = p ∙ ap (λ t. t ++ xs) is

-- ---- a count

pub none_counted : (a : Measure) → Counts a a []
none_counted a taken is = is ∙ ap (λ t. min (length t) (2 ^ 64 - 1)) (sym (append-nil taken))

pub counted_twice : (a b d : Measure) (xs ys : List ℕ) → Counts a b xs → Counts b d ys → Counts a d (xs ++ ys)
counted_twice a b d xs ys p q taken is =
    q (taken ++ xs) (p taken is) ∙ ap (λ t. min (length t) (2 ^ 64 - 1)) (append_assoc taken xs ys)

pub counted_stands : {Origin : Type 0} (a b : Measure) (xs : List ℕ) → Counts a b xs
    → Pushes {Sink = Measure} {Origin = Origin} (λ m c taken coming. Measures m taken) a b xs
counted_stands a b xs p c taken coming is = p taken is
