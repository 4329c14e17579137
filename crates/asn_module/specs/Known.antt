-- What the types that are built stand for, and what names stand for among them.
use Rattle.std.specs.Prelude.{◌≡◌, ◌+◌, ℕ, ⊤, Bool, true, false, List, [], ◌∷◌, get_or, set, suc, Option, Some, None, Result}
use Rattle.std.specs.Prelude.{MatchOption, MatchResult, string_bytes, bytes_eq, if◌then◌else◌}
use Rattle.std.specs.Global.{Vec}
use Rattle.asn_values.specs.declared.types.AsnType.{AsnType}
use Rattle.asn_values.specs.declared.types.Field.{Field}
use Rattle.asn_values.specs.declared.types.Alt.{Alt}
use Rattle.asn_values.specs.Shape.{Fields, Alternatives}
use Rattle.asn_values.specs.View.{shape_of, fields_seen, alternatives_seen}
use Rattle.asn_module.specs.declared.fault.Refusal.{Refusal}
use Rattle.asn_module.specs.declared.fault.Refusal.TheVariants.{Memory}
use Rattle.asn_module.specs.declared.known.Built.{Built}
use Rattle.asn_module.specs.declared.known.Known.{Known}
use Rattle.asn_module.specs.declared.known.Named.{Named}
use Rattle.asn_values.specs.Profile.{InProfile}
use Rattle.asn_notation.specs.declared.notation.AssignmentNotation.{AssignmentNotation}
use Rattle.asn_notation.specs.Tree.{Tree, Assignment, assignments_view}
use Rattle.asn_module.specs.Meaning.{Meant, meant, stands_for}
use Rattle.asn_module.specs.Accepted.{Typed, AreTypes}
use Rattle.asn_module.specs.Sizes.{type_size}

abbrev pub built_view : Built → Meant
built_view b = record { shape = shape_of b.ty; constraint = b.constraint }

-- the components and alternatives that are built
abbrev pub built_fields : Vec Field → Fields
built_fields v = fields_seen v.items

abbrev pub built_alternatives : Vec Alt → Alternatives
built_alternatives v = alternatives_seen v.items

abbrev pub known_view : Known → Meant
known_view k = record { shape = shape_of k.ty; constraint = k.constraint }

abbrev pub known_if : Option Known → Option Meant
known_if None = None
known_if (Some k) = Some (known_view k)

-- what a name stands for, where its type is built
abbrev pub look : List Named → List ℕ → Option Meant
look [] name = None
look (n ∷ ns) name = if bytes_eq (string_bytes n.name) name then known_if n.known else look ns name

-- the result is what is expected, seen through f, unless memory ran out
abbrev pub Gives : {A B : Type 0} → (A → B) → Result A Refusal → Option B → Type 0
Gives f r expected = MatchResult r (λ a. expected ≡ Some (f a)) (λ e. (e ≡ Memory → ⊥) → expected ≡ None)

-- the option is what is expected, seen through f
abbrev pub SeenAs : {A B : Type 0} → (A → B) → Option A → Option B → Type 0
SeenAs f o expected = MatchOption o (expected ≡ None) (λ a. expected ≡ Some (f a))

-- this type with this constraint, and it is one of the profile
abbrev pub IsKnownOf : AsnType → Option Bool → Known → Type 0
IsKnownOf ty constraint k =
    (known_view k ≡ record { shape = shape_of ty; constraint = constraint }) × InProfile (shape_of k.ty)

-- what the tree stands for, and it is one of the profile
abbrev pub IsKnownAs : (List ℕ → Option Meant) → Tree → Known → Type 0
IsKnownAs look tree k = (meant look tree ≡ Some (known_view k)) × InProfile (shape_of k.ty)

-- no type of the profile is built of the tree from what the names stand for
abbrev pub IsStuck : (List ℕ → Option Meant) → Tree → Type 0
IsStuck look tree = (m : Meant) → meant look tree ≡ Some m → InProfile m.shape → ⊥

-- what the tree stands for, where it is one of the profile; None where none of the profile is built of it
abbrev pub IsKnownOrStuck : (List ℕ → Option Meant) → Tree → Option Known → Type 0
IsKnownOrStuck look tree o = MatchOption o (IsStuck look tree) (λ k. IsKnownAs look tree k)

-- what is built of a tree is what it stands for
abbrev pub IsSound : List Assignment → Tree → Option Known → Type 0
IsSound all tree None = ⊤
IsSound all tree (Some k) =
    ((n : ℕ) × (meant (stands_for n all) tree ≡ Some (known_view k))) × InProfile (shape_of k.ty)

-- the assignments have these names, and what is built of each is what it stands for
abbrev pub AreSound : List Assignment → List Assignment → List Named → Type 0
AreSound all [] [] = ⊤
AreSound all [] (n ∷ ns) = ⊥
AreSound all (a ∷ rest) [] = ⊥
AreSound all (a ∷ rest) (n ∷ ns) = (string_bytes n.name ≡ a.name) × IsSound all a.tree n.known × AreSound all rest ns

-- each is built, or none of the profile can be built of it
abbrev pub IsDone : (List ℕ → Option Meant) → Tree → Option Known → Type 0
IsDone look tree None = IsStuck look tree
IsDone look tree (Some k) = ⊤

abbrev pub AreDone : (List ℕ → Option Meant) → List Assignment → List Named → Type 0
AreDone look [] ns = ⊤
AreDone look (a ∷ rest) [] = ⊥
AreDone look (a ∷ rest) (n ∷ ns) = IsDone look a.tree n.known × AreDone look rest ns

-- the same of the assignments as the program has them: what is built is right, and nothing more can be built
abbrev pub AreAllSound : List AssignmentNotation → List Named → Type 0
AreAllSound all ns = AreSound (assignments_view all) (assignments_view all) ns

abbrev pub AreAllDone : List AssignmentNotation → List Named → Type 0
AreAllDone all ns = AreDone (look ns) (assignments_view all) ns

-- these are the types of all the assignments
abbrev pub AreAllTypes : List AssignmentNotation → List Typed → Type 0
AreAllTypes all ts = AreTypes (assignments_view all) (assignments_view all) ts

-- how many are not built
abbrev pub counted : Option Known → ℕ → ℕ
counted None rest = suc rest
counted (Some k) rest = rest

abbrev pub unbuilt : List Named → ℕ
unbuilt [] = 0
unbuilt (n ∷ ns) = counted n.known (unbuilt ns)

-- how large the types are that are built
abbrev pub size_if : Option Known → ℕ
size_if None = 0
size_if (Some k) = type_size (shape_of k.ty)

abbrev pub built_size : List Named → ℕ
built_size [] = 0
built_size (n ∷ ns) = size_if n.known + built_size ns

-- the names with their types, of those that are built
abbrev pub typed_if : List ℕ → Option Known → List Typed → List Typed
typed_if name None rest = rest
typed_if name (Some k) rest = (record { name = name; shape = shape_of k.ty }) ∷ rest

abbrev pub types_of : List Named → List Typed
types_of [] = []
types_of (n ∷ ns) = typed_if (string_bytes n.name) n.known (types_of ns)

-- one more is built, of the tree: that at the index, which was not
pub record IsBuiltAt (tree : Tree) (index : ℕ) (old new : List Named) : Type 0 where
  pub named : Named
  pub known : Known
  pub there : named ≡ get_or old index named
  pub before : named.known ≡ None
  pub now : new ≡ set old index (record { name = named.name; known = Some known })
  pub is : meant (look old) tree ≡ Some (known_view known)
  pub of_profile : InProfile (shape_of known.ty)

-- what an attempt to build at an index came to
abbrev pub Attempted : Bool → Tree → ℕ → List Named → List Named → Type 0
Attempted true tree index old new = IsBuiltAt tree index old new
Attempted false tree index old new =
    (new ≡ old) × ((n : Named) → n ≡ get_or old index n → IsDone (look old) tree n.known)
