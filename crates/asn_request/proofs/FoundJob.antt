-- What the subcommand that clap met asks for, by its name and the values of its options.
use Rattle.std.proofs.Common.{◌≡◌, ◌≢◌, ◌∙◌, ◌⊎◌, ap, ap₂, sym, refl, inl, inr, true, true≢false, codes, string_bytes, Option, Some, None, List, option_map}
use Rattle.std.specs.Option.{is_some, unwrap_or}
use Rattle.std.specs.Prelude.{Box, false}
use Rattle.std.specs.Str.{bytes_eq}
use Rattle.std.specs.Box.{box_value}
use Rattle.clap.specs.Words.{Row, Text, first_of, subcommand_name_of, subcommand_rows_of}
use Rattle.clap.specs.Simple.{subcommand_rows}
use Rattle.clap.specs.declared.parser.matches.ArgMatches.{ArgMatches}
use Rattle.clap.specs.declared.parser.matches.ArgMatches.TheViews.{out-ArgMatches, out-SubCommand}
use Rattle.clap.specs.declared.parser.matches.SubCommand.{SubCommand}
use Rattle.asn_jobs.specs.declared.job.Order.{Order}
use Rattle.asn_jobs.specs.declared.job.Order.TheVariants as order
use Rattle.asn_request.specs.declared.look.Looking.{Looking}
use Rattle.asn_request.specs.declared.look.Looking.TheVariants as looking
use Rattle.asn_request.specs.Command.{HasOptions, IsOneOf, IsTaken, look_names, order_names}
use Rattle.asn_request.specs.Request.{HasRequest, IsJobOf, IsRequestOf, look_name, order_name}

some≢none : {X : Type 0} (x : X) → Some x ≡ None → ⊥
some≢none x e = true≢false (ap (λ o. is_some o) e)

same : {X : Type 0} (x y : X) → Some x ≡ Some y → x ≡ y
same x y e = ap (λ o. unwrap_or o x) e

-- the subcommand that was met, by its name and the matches of its options
pub met : (m : ArgMatches) (name : Text) (rows : List Row) → Some name ≡ subcommand_name_of m → Some rows ≡ option_map (λ p. p.1) (subcommand_rows_of m)
    → subcommand_rows_of m ≡ Some (name, rows)
met m name rows n r = go (subcommand_rows_of m) (n ∙ names (out-ArgMatches m).subcommand) r
  where
    names : {Z : Type 0} (s : Option (Box SubCommand Z)) → option_map (λ b. (out-SubCommand (box_value b)).name.now) s ≡ option_map (λ p. p.0) (subcommand_rows s)
    names None = refl
    names (Some b) = refl

    go : (o : Option (Text × List Row)) → Some name ≡ option_map (λ p. p.0) o → Some rows ≡ option_map (λ p. p.1) o → o ≡ Some (name, rows)
    go None n r = absurd (some≢none name n)
    go (Some p) n r = ap Some (ap₂ (λ a b. (a, b)) (sym (same _ _ n)) (sym (same _ _ r)))

-- a name that the test of the code refuses
pub other_name : (name text : Text) → false ≡ bytes_eq name text → true ≡ bytes_eq text text → name ≢ text
other_name name text differs self is = true≢false (self ∙ (ap (λ n. bytes_eq n text) (sym is) ∙ sym differs))

-- each name of a subcommand that shows something is found
look_known : (name : Text) → IsOneOf name look_names → ((l : Looking) → look_name l ≢ name) → ⊥
look_known name (inl e) none = none looking.Fields (sym e)
look_known name (inr (inl e)) none = none looking.Types (sym e)
look_known name (inr (inr (inl e))) none = none looking.Example (sym e)
look_known name (inr (inr (inr e))) none = e

-- a subcommand other than `flatten`, `module` and these has its options
pub options : (found : Text × List Row) → IsTaken (Some found) → (found.0 ≢ codes "flatten") → (found.0 ≢ codes "module")
    → ((l : Looking) → look_name l ≢ found.0) → HasOptions found
options found (inl named) flat other none = absurd (flat named)
options found (inr (inl named)) flat other none = absurd (other named)
options found (inr (inr (inl look))) flat other none = absurd (look_known found.0 look none)
options found (inr (inr (inr has))) flat other none = has

-- each name of an order is found
pub order_known : (name : Text) → IsOneOf name order_names → ((o : Order) → order_name o ≢ name) → ⊥
order_known name (inl e) none = none order.Show (sym e)
order_known name (inr (inl e)) none = none order.Check (sym e)
order_known name (inr (inr (inl e))) none = none order.Encode (sym e)
order_known name (inr (inr (inr (inl e)))) none = none order.Convert (sym e)
order_known name (inr (inr (inr (inr (inl e))))) none = none order.Newer (sym e)
order_known name (inr (inr (inr (inr (inr e))))) none = e

-- a value that is there is found
pub value_known : (found : Option Text) → ((t : Text) × (found ≡ Some t)) → None ≡ found → ⊥
value_known found has none = some≢none has.0 (sym has.1 ∙ sym none)
