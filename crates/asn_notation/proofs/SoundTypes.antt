-- What the readers of types and of a module take is what is written for what they read.
use Rattle.std.proofs.Common.{◌≡◌, ℕ, zero, suc, List, [], ◌∷◌, ◌++◌, length, drop, Some, refl, sym, ap, ◌∙◌, append_assoc}
use Rattle.std.proofs.lemmas.List.{append-nil}
use Rattle.asn_notation.specs.declared.token.Word.{Word}
use Rattle.asn_notation.specs.declared.token.Word.TheVariants as words
use Rattle.asn_notation.specs.declared.token.Sign.TheVariants as signs
use Rattle.asn_notation.specs.declared.notation.StringKind.TheVariants as string_kind
use Rattle.asn_notation.specs.Token.{Token, identifier, name, word, out_of_profile, number, negative, too_large, sign, illegal}
use Rattle.asn_notation.specs.Tree as t
use Rattle.asn_notation.specs.Tree.{Tree, Item, Need, Part, Branch, Assignment, components_of, more_of, alternatives_of, more_alternatives_of}
use Rattle.asn_notation.specs.Reading.{Read, ◌>>=◌, begins_sign, begins_word, size_con_at, constraint_at, all_others, marked_list, item_at, component_at, body_at, sequence_at, alternative_at, choice_at, enumerated_at, text_at, type_after_word, type_at}
use Rattle.asn_notation.specs.ModuleReading.{name_at, assignment_at, more_assignments, heading_at}
use Rattle.asn_notation.specs.Grammar as g
use Rattle.asn_notation.proofs.Sound.{Is, none, now, bind, test, weaker, Takes, put, join, begins_sign_is, after_sign_takes, after_word_takes, identifier_takes, range_takes, size_con_takes, list_size_takes, constraint_takes, others_take, marked_takes, item_takes, need_takes, part, following_parts, body_parts, branch, choice_branches}

-- ---- types

module _ (type_at : Read Tree) (type_takes : (ts : List Token) → Takes g.written ts (type_at ts)) where
  component_takes : (ts : List Token) → Takes part ts (component_at type_at ts)
  unfolding component_at
  component_takes ts =
      bind _ _ _ _ (identifier_takes ts) (λ n en.
      bind _ _ _ _ (type_takes n.1) (λ inner ei.
      bind _ _ _ _ (need_takes inner.1) (λ need ed.
      now _ _ (en ∙ put (identifier n.0) _ _ (ei ∙ join (g.written inner.0) _ _ ed ∙ sym (append_assoc (g.written inner.0) (g.need need.0) need.1))))))

  body_takes : (ts : List Token) → Is (body_at type_at ts) (λ p. word words.Sequence ∷ g.open_brace ∷ ts ≡ g.written p.0 ++ p.1)
  unfolding body_at all_others g.written
  body_takes ts =
      let one : Read Part = component_at type_at in
      test _ _ _ _
      (λ brace. now _ _ (put (word words.Sequence) _ _ (put g.open_brace _ _ (begins_sign_is signs.RightBrace ts brace))))
      (λ other. test _ (begins_sign signs.Dots ts) _ (marked_list (component_at type_at) ts >>= (λ l. Some (t.sequence (components_of l.0.0) (more_of l.0.1), l.1)))
      (λ dots. bind _ _ _ _ (others_take (component_at type_at) part component_takes (suc (length (drop 1 ts))) [] (drop 1 ts)) (λ found h.
      bind _ _ _ _ (after_sign_takes signs.RightBrace found.1) (λ rest er.
      let (new, all, front) = h in
      let inner = front ∙ join (g.each_after_comma part new) _ _ er ∙ ap (λ (xs : List Part). g.each_after_comma part xs ++ g.close_brace ∷ rest) (sym all)
      ∙ ap (λ (x : List Token). x ++ g.close_brace ∷ rest) (sym (following_parts found.0)) ∙ sym (append_assoc (g.following_components (components_of found.0)) (g.close_brace ∷ []) rest) in
      now _ _ (put (word words.Sequence) _ _ (put g.open_brace _ _ (begins_sign_is signs.Dots ts dots ∙ put g.dots _ _ inner))))))
      (λ root. bind _ _ _ _ (marked_takes (component_at type_at) part component_takes ts) (λ l h.
      now _ _ (put (word words.Sequence) _ _ (put g.open_brace _ _ (
      h.1 ∙ ap (λ (x : List Token). x ++ g.close_brace ∷ l.1) (sym (body_parts l.0.0 l.0.1 h.0)) ∙ sym (append_assoc _ (g.close_brace ∷ []) l.1)))))))

  sequence_takes : (ts : List Token) → Is (sequence_at type_at ts) (λ p. word words.Sequence ∷ ts ≡ g.written p.0 ++ p.1)
  unfolding sequence_at g.written
  sequence_takes ts =
      test _ _ _ _
      (λ brace. weaker _ _ _ (body_takes (drop 1 ts)) (λ p e. put (word words.Sequence) _ _ (begins_sign_is signs.LeftBrace ts brace) ∙ e))
      (λ other. bind _ _ _ _ (list_size_takes ts) (λ size es.
      bind _ _ _ _ (after_word_takes words.Of size.1) (λ of eo.
      bind _ _ _ _ (type_takes of) (λ element ee.
      now _ _ (put (word words.Sequence) _ _ (es ∙ join (g.list_sized size.0) _ _ (eo ∙ put (word words.Of) _ _ ee) ∙ sym (append_assoc (g.list_sized size.0) (word words.Of ∷ g.written element.0) element.1)))))))

  alternative_takes : (ts : List Token) → Takes branch ts (alternative_at type_at ts)
  unfolding alternative_at
  alternative_takes ts =
      bind _ _ _ _ (identifier_takes ts) (λ n en.
      bind _ _ _ _ (type_takes n.1) (λ inner ei.
      now _ _ (en ∙ put (identifier n.0) _ _ ei)))

  choice_takes : (ts : List Token) → Is (choice_at type_at ts) (λ p. word words.Choice ∷ ts ≡ g.written p.0 ++ p.1)
  unfolding choice_at g.written
  choice_takes ts =
      bind _ _ _ _ (after_sign_takes signs.LeftBrace ts) (λ alternatives ea.
      bind _ _ _ _ (marked_takes (alternative_at type_at) branch alternative_takes alternatives) (λ l h.
      now _ _ (put (word words.Choice) _ _ (ea ∙ put g.open_brace _ _ (
      h.1 ∙ ap (λ (x : List Token). x ++ g.close_brace ∷ l.1) (sym (choice_branches l.0.0 l.0.1)) ∙ sym (append_assoc _ (g.close_brace ∷ []) l.1))))))

  word_type_takes : (w : Word) (ts : List Token) → Is (type_after_word type_at w ts) (λ p. word w ∷ ts ≡ g.written p.0 ++ p.1)
  unfolding type_after_word text_at enumerated_at g.written
  word_type_takes words.Automatic ts = none _
  word_type_takes words.Begin ts = none _
  word_type_takes words.Bit ts = bind _ _ _ _ (after_word_takes words.String ts) (λ rest er. bind _ _ (size_con_at rest) (λ s. Some (t.text string_kind.Bits s.0, s.1)) (size_con_takes rest) (λ s e. now _ _ (put (word words.Bit) _ _ (er ∙ put (word words.String) _ _ e))))
  word_type_takes words.Boolean ts = now _ _ refl
  word_type_takes words.Choice ts = choice_takes ts
  word_type_takes words.Default ts = none _
  word_type_takes words.Definitions ts = none _
  word_type_takes words.End ts = none _
  word_type_takes words.Enumerated ts = bind _ _ _ _ (after_sign_takes signs.LeftBrace ts) (λ items ei. bind _ _ _ _ (marked_takes item_at g.item item_takes items) (λ l h. now _ _ (put (word words.Enumerated) _ _ (ei ∙ put g.open_brace _ _ (h.1 ∙ sym (append_assoc _ (g.close_brace ∷ []) l.1))))))
  word_type_takes words.False ts = none _
  word_type_takes words.Ia5String ts = bind _ _ (size_con_at ts) (λ s. Some (t.text string_kind.Ia5 s.0, s.1)) (size_con_takes ts) (λ s e. now _ _ (put (word words.Ia5String) _ _ e))
  word_type_takes words.Integer ts = bind _ _ _ _ (range_takes ts) (λ r e. now _ _ (put (word words.Integer) _ _ e))
  word_type_takes words.Max ts = none _
  word_type_takes words.Min ts = none _
  word_type_takes words.Null ts = now _ _ refl
  word_type_takes words.NumericString ts = bind _ _ (size_con_at ts) (λ s. Some (t.text string_kind.Numeric s.0, s.1)) (size_con_takes ts) (λ s e. now _ _ (put (word words.NumericString) _ _ e))
  word_type_takes words.Octet ts = bind _ _ _ _ (after_word_takes words.String ts) (λ rest er. bind _ _ (size_con_at rest) (λ s. Some (t.text string_kind.Octets s.0, s.1)) (size_con_takes rest) (λ s e. now _ _ (put (word words.Octet) _ _ (er ∙ put (word words.String) _ _ e))))
  word_type_takes words.Of ts = none _
  word_type_takes words.Optional ts = none _
  word_type_takes words.Sequence ts = sequence_takes ts
  word_type_takes words.Size ts = none _
  word_type_takes words.String ts = none _
  word_type_takes words.Tags ts = none _
  word_type_takes words.True ts = none _
  word_type_takes words.Utf8String ts = now _ _ refl
  word_type_takes words.VisibleString ts = bind _ _ (size_con_at ts) (λ s. Some (t.text string_kind.Visible s.0, s.1)) (size_con_takes ts) (λ s e. now _ _ (put (word words.VisibleString) _ _ e))

pub type_takes : (levels : ℕ) (ts : List Token) → Takes g.written ts (type_at levels ts)
unfolding type_at g.written
type_takes zero ts = none _
type_takes (suc levels) [] = none _
type_takes (suc levels) (identifier x ∷ ts) = none _
type_takes (suc levels) (name x ∷ ts) = bind _ _ (constraint_at ts) (λ c. Some (t.reference x c.0, c.1)) (constraint_takes ts) (λ c e. now _ _ (put (name x) _ _ e))
type_takes (suc levels) (word w ∷ ts) = word_type_takes (type_at levels) (type_takes levels) w ts
type_takes (suc levels) (out_of_profile ∷ ts) = none _
type_takes (suc levels) (number n ∷ ts) = none _
type_takes (suc levels) (negative n ∷ ts) = none _
type_takes (suc levels) (too_large ∷ ts) = none _
type_takes (suc levels) (sign s ∷ ts) = none _
type_takes (suc levels) (illegal ∷ ts) = none _

-- ---- a module

name_takes : (ts : List Token) → Takes (λ s. name s ∷ []) ts (name_at ts)
unfolding name_at
name_takes [] = none _
name_takes (identifier x ∷ ts) = none _
name_takes (name x ∷ ts) = now _ _ refl
name_takes (word w ∷ ts) = none _
name_takes (out_of_profile ∷ ts) = none _
name_takes (number n ∷ ts) = none _
name_takes (negative n ∷ ts) = none _
name_takes (too_large ∷ ts) = none _
name_takes (sign s ∷ ts) = none _
name_takes (illegal ∷ ts) = none _

pub assignment_takes : (levels : ℕ) (ts : List Token) → Takes g.assignment ts (assignment_at levels ts)
unfolding assignment_at
assignment_takes levels ts =
    bind _ _ _ _ (name_takes ts) (λ n en.
    bind _ _ _ _ (after_sign_takes signs.Becomes n.1) (λ rest er.
    bind _ _ _ _ (type_takes levels rest) (λ ty et.
    now _ _ (en ∙ put (name n.0) _ _ (er ∙ put g.becomes _ _ et)))))

pub assignments_take : (levels n : ℕ) (found : List Assignment) (ts : List Token)
    → Is (more_assignments levels n found ts) (λ p. (new : List Assignment) × (p.0 ≡ found ++ new) × (ts ≡ g.assignments new ++ p.1))
unfolding more_assignments
assignments_take levels zero found ts = none _
assignments_take levels (suc n) found ts =
    test _ (begins_word words.End ts) _ _
    (λ stop. now _ _ ([], sym (append-nil found), refl))
    (λ more. bind _ _ _ _ (assignment_takes levels ts) (λ a e.
    weaker _ _ _ (assignments_take levels n (found ++ a.0 ∷ []) a.1) (λ p h.
    let (new, all, rest) = h in (
      a.0 ∷ new,
      all ∙ append_assoc found (a.0 ∷ []) new,
      e ∙ join (g.assignment a.0) _ _ rest ∙ sym (append_assoc (g.assignment a.0) (g.assignments new) p.1),
    ))))

pub heading_takes : (ts : List Token) → Takes g.heading ts (heading_at ts)
unfolding heading_at
heading_takes ts =
    bind _ _ _ _ (name_takes ts) (λ n en.
    bind _ _ _ _ (after_word_takes words.Definitions n.1) (λ a ea.
    bind _ _ _ _ (after_word_takes words.Automatic a) (λ b eb.
    bind _ _ _ _ (after_word_takes words.Tags b) (λ c ec.
    bind _ _ _ _ (after_sign_takes signs.Becomes c) (λ d ed.
    bind _ _ _ _ (after_word_takes words.Begin d) (λ e ee.
    now _ _ (en ∙ put (name n.0) _ _ (ea ∙ put (word words.Definitions) _ _ (eb ∙ put (word words.Automatic) _ _ (ec ∙ put (word words.Tags) _ _ (ed ∙ put g.becomes _ _ ee)))))))))))
