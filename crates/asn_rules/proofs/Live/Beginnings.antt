-- Each beginning of an encoding is live, and none is refused.
use Rattle.std.proofs.Common.{◌≤◌, ◌+◌, ◌*◌, ℕ, List, [], ◌∷◌, ◌++◌, length, inl, sym, ◌∙◌, subst}
use Rattle.std.proofs.Math.Nat.{mul-le-mul_left}
use Rattle.std.specs.List.{AllByRecursion}
use Rattle.asn_values.specs.Fits.{max_len}
use Rattle.asn_rules.specs.Answer.{Ruling}
use Rattle.asn_rules.specs.Chunks.{Kind, open_field, utf8_field, rest_of, Chunk, one, sealed, field_units, fields_from}
use Rattle.asn_rules.specs.Languages.{AllContents}
use Rattle.asn_rules.specs.Laws.{BeginningsAreLive, BeginningsAreNotRefused}
use Rattle.asn_rules.specs.Live.{Fielding, IsContent, Bounded, BoundedBefore}
use Rattle.asn_rules.specs.Reading.{RulesTell}
use Rattle.asn_rules.proofs.Answer.OneAnswer.{live_not_refused}
use Rattle.asn_rules.proofs.Live.Places.{contents_by_length}

-- a content that a field may have is short enough
content_bounded : (r : Fielding) (k : Kind) (c : List ℕ) → IsContent r k c → Bounded k c
content_bounded r open_field c h = h.1
content_bounded r utf8_field c h = tt
content_bounded r (rest_of k us) c h = content_bounded r k c h.0

-- so where all contents are such, all fields are short enough
all_bounded : (r : Fielding) (cs : List Chunk) (end start : ℕ) → AllContents r cs → AllByRecursion (BoundedBefore end) (fields_from r.spelled start cs)
all_bounded r [] end start h = tt
all_bounded r (one u ∷ cs) end start h = all_bounded r cs end (start + 1) h
all_bounded r (sealed k c ∷ cs) end start h = ((λ l. content_bounded r k c h.0), all_bounded r cs end (start + length (field_units r.spelled k c)) h.1)

module _ (r : Ruling) (rules : RulesTell r) where
  -- of few octets the units are few
  few_units : (o : List ℕ) → length o ≤ max_len → length (r.units o) ≤ rules.weight * max_len
  few_units o few = subst (λ n. n ≤ rules.weight * max_len) (sym (rules.count o)) (mul-le-mul_left rules.weight few)

  pub beginnings_live : BeginningsAreLive r
  beginnings_live t v o x y good few a e =
      let contents = contents_by_length r.fielding rules.weight rules.some rules.long (r.whole t v) (rules.sealed t v good a.0)
      (subst (λ us. length us ≤ rules.weight * max_len) a.1 (few_units o few)) in
      (v, a.0, inl ((y, sym a.1 ∙ e), all_bounded r.fielding (r.whole t v) (length x) 0 contents))

  pub beginnings_not_refused : BeginningsAreNotRefused r
  beginnings_not_refused t v s rest place good few a refusal =
      live_not_refused r t s place (beginnings_live t v (s ++ rest) (r.units s) (r.units rest) good few a (rules.joined s rest)) refusal.1
