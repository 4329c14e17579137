-- What is built of the parts of a type, as the program holds them.
use Rattle.std.proofs.Common.{◌≡◌, ◌∙◌, ℕ, true, List, [], ◌∷◌, ◌++◌, map, slice_get, string_bytes, cond, Option, Some, None, Vec, Global, refl, ap, ap₂, sym, rules}
use Rattle.std.specs.Option.{option_map, option_and_then}
use Rattle.std.proofs.lemmas.List.{map-append}
use Rattle.std.proofs.lemmas.Option.{slice_get-map}
use Rattle.asn_values.specs.declared.types.Item.{Item}
use Rattle.asn_values.specs.declared.types.Alt.{Alt}
use Rattle.asn_values.specs.declared.types.Field.{Field}
use Rattle.asn_values.specs.declared.types.AsnType.{AsnType, Seq, Choice, the_lemmas}
use Rattle.asn_values.specs.declared.types.AsnType.TheVariants as asn_type
use Rattle.asn_values.specs.Datum.{Datum, item, alternative}
use Rattle.asn_values.specs.LookUp.{added}
use Rattle.asn_values.specs.View.{Part, shape_of, label_of, part_of_field, branch_of}
use Rattle.asn_values.proofs.Views.{shape_of-Enum, shape_of-Seq, shape_of-Choice}
use Rattle.asn_view.specs.declared.given.Given.{Given}
use Rattle.asn_view.specs.Names.{index_of, item_names, alternative_names}
use Rattle.asn_view.specs.Seen.{parts_seen}
use Rattle.asn_view.specs.Built.{NamedPart, text_given, item_given, item_of, datum_given, entry_given, given_for, entries_given, after, are_names_of, entries_of_type, of_entries, sequence_given, branch_given, among_branches, choice_given}
use Rattle.asn_view.proofs.PartLists.{maps, all_parts, all_branches, all_labels}

-- ---- an item

-- the item of that name, in the type and as the program's lists have it
pub item_of_type : (t : AsnType) (s : List ℕ) (root : Vec Item Global) (ext : Option (Vec Item Global)) → t ≡ asn_type.Enum root ext →
    item_given (shape_of t) s ≡ item_of s (map label_of (root.items ++ added ext))
item_of_type t s root ext et = ap (λ u. item_given u s) (ap shape_of et ∙ shape_of-Enum root ext) ∙ ap (item_of s) (all_labels root ext)

pub text_of_item : (t : AsnType) (s : List ℕ) (root : Vec Item Global) (ext : Option (Vec Item Global)) → t ≡ asn_type.Enum root ext →
    text_given (shape_of t) s ≡ item_given (shape_of t) s
text_of_item t s root ext et =
    let shape = ap shape_of et ∙ shape_of-Enum root ext in
    ap (λ u. text_given u s) shape ∙ sym (ap (λ u. item_given u s) shape)

pub item_by_index : (s : List ℕ) (items : List Item) → item_of s (map label_of items) ≡ option_map item (index_of s (item_names items))
item_by_index s items = ap (λ names. option_map item (index_of s names)) (maps label_of (λ l. l.name) items)

-- ---- entries

pushed : (e : Option Datum) (fs : List (Option Datum)) (q : Option (List (Option Datum))) → option_map (λ more. e ∷ more) (after fs q) ≡ after (e ∷ fs) q
pushed e fs None = refl
pushed e fs (Some more) = refl

after_none : (q : Option (List (Option Datum))) → q ≡ after [] q
after_none None = refl
after_none (Some more) = refl

goes_on : (o : Option (Option Datum)) (r all q : Option (List (Option Datum))) (es : List (Option Datum)) → ((fs : List (Option Datum)) → r ≡ Some fs → all ≡ after fs q) →
    option_and_then (λ e. option_map (λ fs. e ∷ fs) r) o ≡ Some es → option_and_then (λ e. option_map (λ fs. e ∷ fs) all) o ≡ after es q
goes_on None r all q es ih h = absurd (cc)
goes_on (Some e) None all q es ih h = absurd (cc)
goes_on (Some e) (Some fs) all q es ih h =
    let same : e ∷ fs ≡ es = cc in
    ap (option_map (λ more. e ∷ more)) (ih fs refl) ∙ pushed e fs q ∙ ap (λ x. after x q) same

-- the entries of more components after those of the first
pub entries_append : (ps qs : List Part) (gs : List NamedPart) (es : List (Option Datum)) → entries_given ps gs ≡ Some es → entries_given (ps ++ qs) gs ≡ after es (entries_given qs gs)
entries_append [] qs gs es h =
    let same : [] ≡ es = cc in
    after_none (entries_given qs gs) ∙ ap (λ x. after x (entries_given qs gs)) same
entries_append (p ∷ ps) qs gs es h =
    goes_on (entry_given p (given_for p.name gs)) (entries_given ps gs) (entries_given (ps ++ qs) gs) (entries_given qs gs) es (λ fs e. entries_append ps qs gs fs e) h

stops : (o : Option (Option Datum)) (r all : Option (List (Option Datum))) → (r ≡ None → all ≡ None) →
    option_and_then (λ e. option_map (λ fs. e ∷ fs) r) o ≡ None → option_and_then (λ e. option_map (λ fs. e ∷ fs) all) o ≡ None
stops None r all ih h = refl
stops (Some e) None all ih h = ap (option_map (λ fs. e ∷ fs)) (ih refl)
stops (Some e) (Some fs) all ih h = absurd (cc)

-- no entries where the first components have none
pub entries_stop : (ps qs : List Part) (gs : List NamedPart) → entries_given ps gs ≡ None → entries_given (ps ++ qs) gs ≡ None
entries_stop [] qs gs h = absurd (cc)
entries_stop (p ∷ ps) qs gs h =
    stops (entry_given p (given_for p.name gs)) (entries_given ps gs) (entries_given (ps ++ qs) gs) (λ e. entries_stop ps qs gs e) h

-- entries after none
pub after_nothing : (first : List (Option Datum)) (q : Option (List (Option Datum))) → first ≡ [] → q ≡ after first q
after_nothing first q none = after_none q ∙ ap (λ es. after es q) (sym none)

-- the entries of the root and of the additions
pub entries_of_both : (gs : List NamedPart) (root : List Field) (ext : Option (Vec Field Global)) (m : Vec Field Global) (more : List Field) (first : List (Option Datum)) →
    ext ≡ Some m → more ≡ m.items → entries_given (parts_seen root) gs ≡ Some first →
    entries_given (parts_seen (root ++ added ext)) gs ≡ after first (entries_given (parts_seen more) gs)
entries_of_both gs root ext m more first marked items entries =
    ap (λ e. entries_given (parts_seen (root ++ added {X = Field} e)) gs) marked
    ∙ ap (λ fs. entries_given (parts_seen (root ++ fs)) gs) (sym items)
    ∙ ap (λ ps. entries_given ps gs) (map-append part_of_field root more)
    ∙ entries_append (parts_seen root) (parts_seen more) gs first entries

-- none where the root has none
pub none_of_both : (gs : List NamedPart) (root more : List Field) → entries_given (parts_seen root) gs ≡ None → entries_given (parts_seen (root ++ more)) gs ≡ None
none_of_both gs root more none =
    ap (λ ps. entries_given ps gs) (map-append part_of_field root more) ∙ entries_stop (parts_seen root) (parts_seen more) gs none

-- a SEQUENCE of the entries of all its components
pub sequence_of_parts : (t : AsnType) (gs : List NamedPart) (root : Vec Field Global) (ext : Option (Vec Field Global)) → t ≡ Seq root ext → are_names_of (shape_of t) gs ≡ true →
    sequence_given (shape_of t) gs ≡ option_map of_entries (entries_given (parts_seen (root.items ++ added ext)) gs)
sequence_of_parts t gs root ext et names =
    ap (λ b. cond b (entries_of_type (shape_of t) gs) None) names
    ∙ ap (λ u. entries_of_type u gs) (ap shape_of et ∙ shape_of-Seq root ext)
    ∙ ap (λ ps. option_map of_entries (entries_given ps gs)) (all_parts root ext)

-- ---- an alternative

names_of_branches : (alts : List Alt) → map (λ b. b.name) (map branch_of alts) ≡ alternative_names alts
names_of_branches [] = refl
names_of_branches (a ∷ alts) =
    let same : (branch_of a).name ≡ string_bytes a.name = search (rules, the_lemmas) in
    ap₂ (λ n ns. n ∷ ns) same (names_of_branches alts)

pub choice_of_branches : (t : AsnType) (name : List ℕ) (g : Given) (root : Vec Alt Global) (ext : Option (Vec Alt Global)) → t ≡ Choice root ext →
    choice_given (shape_of t) name g ≡ among_branches name g (map branch_of (root.items ++ added ext))
choice_of_branches t name g root ext et =
    ap (λ u. choice_given u name g) (ap shape_of et ∙ shape_of-Choice root ext)
    ∙ ap (among_branches name g) (all_branches root ext)

-- of no such name
pub no_branch : (name : List ℕ) (g : Given) (alts : List Alt) → None ≡ index_of name (alternative_names alts) → among_branches name g (map branch_of alts) ≡ None
no_branch name g alts none =
    ap (λ ns. option_and_then (branch_given (map branch_of alts) g) (index_of name ns)) (names_of_branches alts)
    ∙ ap (option_and_then (branch_given (map branch_of alts) g)) (sym none)

-- the alternative of that name
pub branch_found : (name : List ℕ) (g : Given) (alts : List Alt) (tag : ℕ) (a : Alt) → Some tag ≡ index_of name (alternative_names alts) → Some a ≡ slice_get alts tag →
    among_branches name g (map branch_of alts) ≡ option_map (alternative tag) (datum_given (branch_of a).shape g)
branch_found name g alts tag a found at =
    ap (λ ns. option_and_then (branch_given (map branch_of alts) g) (index_of name ns)) (names_of_branches alts)
    ∙ ap (option_and_then (branch_given (map branch_of alts) g)) (sym found)
    ∙ ap (option_and_then (λ b. option_map (alternative tag) (datum_given b.shape g))) (slice_get-map branch_of alts tag ∙ ap (option_map branch_of) (sym at))

-- and no such alternative
pub branch_past : (name : List ℕ) (g : Given) (alts : List Alt) (tag : ℕ) → Some tag ≡ index_of name (alternative_names alts) → None ≡ slice_get alts tag →
    among_branches name g (map branch_of alts) ≡ None
branch_past name g alts tag found at =
    ap (λ ns. option_and_then (branch_given (map branch_of alts) g) (index_of name ns)) (names_of_branches alts)
    ∙ ap (option_and_then (branch_given (map branch_of alts) g)) (sym found)
    ∙ ap (option_and_then (λ b. option_map (alternative tag) (datum_given b.shape g))) (slice_get-map branch_of alts tag ∙ ap (option_map branch_of) (sym at))
