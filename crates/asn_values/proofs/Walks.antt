-- How what a walk found of the parts of a type tells what holds of the whole.
use Rattle.std.proofs.Common.{◌≡◌, ◌≤◌, ◌<◌, ◌+◌, ◌-◌, ap, ◌||◌, inl, inr, ℕ, suc, Bool, true, false, List, [], ◌∷◌, nat_lt, Option, Some, None, refl, sym, subst, ◌∙◌, arith}
use Rattle.asn_values.specs.declared.fault.TypeFault.{TypeFault}
use Rattle.asn_values.specs.declared.fault.TypeFault.TheVariants as fault
use Rattle.asn_values.specs.Shape.{Shape}
use Rattle.asn_values.specs.Measures.{depth, nodes}
use Rattle.asn_values.specs.Profile.{EmptyRange, SizeTooLarge, DuplicateName, BadEnumeration, UselessMark, BadDefault, ZeroWidthElement, AdditionNotOptional, TooMany, TooDeep, somewhere, too_many_here, most_levels, most_nodes, InProfile}
use Rattle.asn_values.specs.Walk.{test_of, condition_of, IsFound, IsFaultless, Extent, of_type, beside, of_types, IsSoundWithin, IsFaultWithin}
use Rattle.asn_values.specs.View.{Holds}
use Rattle.std.proofs.lemmas.Bool.{le-ltb, lt-ltb}

-- a part of a test that holds
in_front : (a b : Bool) → a ≡ true → (a || b) ≡ true
in_front a b h = rw h refl

second_holds : (a b : Bool) → b ≡ true → (a || b) ≡ true
second_holds true b h = refl
second_holds false b h = h

-- a condition that is found is found by each that finds no less
found_also : (c : Option (Shape → Bool)) (few more : (Shape → Bool) → Bool) → ((condition : Shape → Bool) → few condition ≡ true → more condition ≡ true) → IsFound c few → IsFound c more
found_also None few more also h = h
found_also (Some condition) few more also h = also condition h

-- ---- one beside the other

-- both are sound, where the second has the nodes to go that the first left
pub sound_beside : (levels start now left : ℕ) (a b : Extent) → IsSoundWithin levels start now a → IsSoundWithin levels now left b → IsSoundWithin levels start left (beside a b)
sound_beside levels start now left a b x y = record {
  counted = omega (arith, x.counted, y.counted);
  shallow = omega (arith, x.shallow, y.shallow);
  faultless = λ c. rw (x.faultless c) (y.faultless c);
}

-- a fault of the first is one of both
pub fault_in_front : (f : TypeFault) (levels start : ℕ) (a b : Extent) → IsFaultWithin f levels start a → IsFaultWithin f levels start (beside a b)
fault_in_front f levels start a b (inl h) = inl (found_also (condition_of f) a.holds (beside a b).holds (λ c. in_front (a.holds c) (b.holds c)) h)
fault_in_front f levels start a b (inr (inl (e, h))) = inr (inl (e, omega (arith, h)))
fault_in_front f levels start a b (inr (inr (e, h))) = inr (inr (e, omega (arith, h)))

-- and so is one of the second, after a first that is sound
pub fault_after : (f : TypeFault) (levels start now : ℕ) (a b : Extent) → IsSoundWithin levels start now a → IsFaultWithin f levels now b → IsFaultWithin f levels start (beside a b)
fault_after f levels start now a b x (inl h) = inl (found_also (condition_of f) b.holds (beside a b).holds (λ c. second_holds (a.holds c) (b.holds c)) h)
fault_after f levels start now a b x (inr (inl (e, h))) = inr (inl (e, omega (arith, h, x.counted)))
fault_after f levels start now a b x (inr (inr (e, h))) = inr (inr (e, omega (arith, h)))

-- ---- types, from the left to the right

-- what is found of the `rest`, with `left` nodes to go, holds of `all` as well, with `start` nodes to go
pub record IsWalkedTo (levels start left : ℕ) (all rest : List Shape) : Type 0 where
  pub sound : (last : ℕ) → IsSoundWithin levels left last (of_types rest) → IsSoundWithin levels start last (of_types all)
  pub fault : (f : TypeFault) → IsFaultWithin f levels left (of_types rest) → IsFaultWithin f levels start (of_types all)

-- before the first
pub starts : (levels start : ℕ) (all : List Shape) → IsWalkedTo levels start start all all
starts levels start all = record { sound = λ last h. h; fault = λ f h. h }

-- past one that is sound
pub goes_on : (levels start left now : ℕ) (all : List Shape) (t : Shape) (rest : List Shape) →
    IsWalkedTo levels start left all (t ∷ rest) → IsSoundWithin levels left now (of_type t) → IsWalkedTo levels start now all rest
goes_on levels start left now all t rest w s = record {
  sound = λ last h. w.sound last (sound_beside levels left now last (of_type t) (of_types rest) s h);
  fault = λ f h. w.fault f (fault_after f levels left now (of_type t) (of_types rest) s h);
}

-- no types are sound and take no nodes
pub none_sound : (levels start : ℕ) → IsSoundWithin levels start start (of_types [])
none_sound levels start = record { counted = omega arith; shallow = omega arith; faultless = λ c. refl }

-- after the last
pub ends : (levels start left : ℕ) (all : List Shape) → IsWalkedTo levels start left all [] → IsSoundWithin levels start left (of_types all)
ends levels start left all w = w.sound left (none_sound levels left)

-- ---- a type around those inside it

pub record IsAround (step : ℕ) (t : Shape) (inside : Extent) : Type 0 where
  pub count : nodes t ≡ suc inside.count
  -- for how many levels it counts
  pub levels : depth t ≡ step + inside.levels
  pub holds : (condition : Shape → Bool) → somewhere condition t ≡ (condition t || inside.holds condition)

-- where it counts one
abbrev pub around : Shape → Extent → Extent
around t e = record { count = suc e.count; levels = suc e.levels; holds = λ condition. condition t || e.holds condition }

one_more : (n : ℕ) → suc n ≡ 1 + n
one_more n = omega arith

pub is_around : (t : Shape) (inside : Extent) → of_type t ≡ around t inside → IsAround 1 t inside
is_around t inside same = record {
  count = ap (λ (e : Extent). e.count) same;
  levels = ap (λ (e : Extent). e.levels) same ∙ one_more inside.levels;
  holds = λ condition. ap (λ (e : Extent). e.holds condition) same;
}

module _ (step levels start : ℕ) (t : Shape) (inside : Extent) (is : IsAround step t inside) (some : 0 < levels) (any : 0 < start) where
  -- it is sound where it is so by itself and they are
  pub sound_around : step ≤ levels → (left : ℕ) → (depth t ≤ levels - 1 + 1 → IsFaultless t) → IsSoundWithin (levels - step) (start - 1) left inside → IsSoundWithin levels start left (of_type t)
  sound_around room left here h =
      let faultless : IsFaultless t = here (omega (arith, h.shallow, is.levels)) in
      record {
        counted = omega (arith, h.counted, is.count);
        shallow = omega (arith, h.shallow, is.levels);
        faultless = λ c. is.holds (test_of c) ∙ rw (faultless c) (h.faultless c);
      }

  -- a fault of them is one of it
  pub fault_around : (f : TypeFault) → IsFaultWithin f (levels - step) (start - 1) inside → IsFaultWithin f levels start (of_type t)
  fault_around f (inl h) = inl (found_also (condition_of f) inside.holds (of_type t).holds (λ c e. is.holds c ∙ second_holds (c t) (inside.holds c) e) h)
  fault_around f (inr (inl (e, h))) = inr (inl (e, omega (arith, h, is.count)))
  fault_around f (inr (inr (e, h))) = inr (inr (e, omega (arith, h, is.levels)))

-- ---- a type that has no others inside it

-- one level and one node
pub record IsSimple (t : Shape) : Type 0 where
  pub one_node : nodes t ≡ 1
  pub one_level : depth t ≡ 1
  pub only_itself : (condition : Shape → Bool) → somewhere condition t ≡ condition t

-- it is sound where it has no fault by itself
pub sound_simple : (levels start : ℕ) (t : Shape) → IsSimple t → 0 < levels → 0 < start → (depth t ≤ levels - 1 + 1 → IsFaultless t) → IsSoundWithin levels start (start - 1) (of_type t)
sound_simple levels start t s some more here = record {
  counted = omega (arith, s.one_node);
  shallow = omega (arith, s.one_level);
  faultless = λ c. rw (s.only_itself (test_of c)) (here (omega (arith, s.one_level)) c);
}

-- ---- the whole type

-- a type that is sound within the limits of the profile is one of the profile
pub of_profile : (left : ℕ) (t : Shape) → IsSoundWithin most_levels most_nodes left (of_type t) → InProfile t
of_profile left t s EmptyRange = s.faultless EmptyRange
of_profile left t s SizeTooLarge = s.faultless SizeTooLarge
of_profile left t s DuplicateName = s.faultless DuplicateName
of_profile left t s BadEnumeration = s.faultless BadEnumeration
of_profile left t s UselessMark = s.faultless UselessMark
of_profile left t s BadDefault = s.faultless BadDefault
of_profile left t s ZeroWidthElement = s.faultless ZeroWidthElement
of_profile left t s AdditionNotOptional = s.faultless AdditionNotOptional
of_profile left t s TooMany = rw (s.faultless TooMany) (le-ltb most_nodes (nodes t) (omega (arith, s.counted)))
of_profile left t s TooDeep = le-ltb most_levels (depth t) s.shallow

-- a fault within these limits is one of the type
pub fault_holds : (f : TypeFault) (t : Shape) → IsFaultWithin f most_levels most_nodes (of_type t) → Holds f t
fault_holds fault.EmptyRange t (inl h) = h
fault_holds fault.SizeTooLarge t (inl h) = h
fault_holds fault.DuplicateName t (inl h) = h
fault_holds fault.BadEnumeration t (inl h) = h
fault_holds fault.UselessMark t (inl h) = h
fault_holds fault.BadDefault t (inl h) = h
fault_holds fault.ZeroWidthElement t (inl h) = h
fault_holds fault.AdditionNotOptional t (inl h) = h
fault_holds fault.TooMany t (inl h) = in_front (somewhere too_many_here t) (nat_lt most_nodes (nodes t)) h
fault_holds fault.TooDeep t (inl h) = absurd h
fault_holds fault.Memory t h = tt
fault_holds f t (inr (inl (e, h))) = subst (λ f. Holds f t) (sym e) (second_holds (somewhere too_many_here t) (nat_lt most_nodes (nodes t)) (lt-ltb most_nodes (nodes t) h))
fault_holds f t (inr (inr (e, h))) = subst (λ f. Holds f t) (sym e) (lt-ltb most_levels (depth t) h)
