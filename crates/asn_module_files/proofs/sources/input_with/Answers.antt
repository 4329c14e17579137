use Rattle.std.proofs.Common.{◌≡◌, ◌∷◌, [], List, ℕ, MatchOption, string_bytes, subst}
use Rattle.asn_module.specs.ModuleView.{types_view}
use Rattle.asn_request.specs.Request.{texts_of}
use Rattle.asn_module_files.specs.Sources.{IsInput, IsInputOf, IsOwn, IsOwnInput, IsRead}
use Rattle.asn_module_files.proofs.Sourced.{if_some, some_then}
use Rattle.asn_module_files.proofs.sources.input_with.Goals as goal

pub returns-in_ok-own_input-in-Some-clause-input : goal.returns-in_ok-own_input-in-Some-clause-input
returns-in_ok-own_input-in-Some-clause-input c =
    let found : (texts_of c.args.texts.now ≡ c.in-Some.own.text.now ∷ []) × IsRead c.in-Some.own.text.now (types_view c.in-Some.own.meant) = subst (λ m. MatchOption m ((text : List ℕ) → texts_of c.args.texts.now ≡ text ∷ [] → IsOwn text → ⊥) (λ own. (texts_of c.args.texts.now ≡ own.text.now ∷ []) × IsRead own.text.now (types_view own.meant))) c.in-Some.is c.in_ok-own.ensures in
    let own = c.in_ok-own_input-in-Some.ensures in
    if_some c.in_ok-own_input-in-Some.field-0.octets (λ o. IsInputOf (types_view c.in-Some.own.meant) c.args.rest.now o.items) (λ o. IsInput c.args.rest.now o.items) (λ o is. (types_view c.in-Some.own.meant, found.1.1, is)) own.0

pub returns-in_ok-own_input-in-Some-clause-own : goal.returns-in_ok-own_input-in-Some-clause-own
returns-in_ok-own_input-in-Some-clause-own c = λ text only mine.
    let found : (texts_of c.args.texts.now ≡ c.in-Some.own.text.now ∷ []) × IsRead c.in-Some.own.text.now (types_view c.in-Some.own.meant) = subst (λ m. MatchOption m ((text : List ℕ) → texts_of c.args.texts.now ≡ text ∷ [] → IsOwn text → ⊥) (λ own. (texts_of c.args.texts.now ≡ own.text.now ∷ []) × IsRead own.text.now (types_view own.meant))) c.in-Some.is c.in_ok-own.ensures in
    let own = c.in_ok-own_input-in-Some.ensures in
    let both : c.in-Some.own.text.now ≡ text = (let one = found.0 in cc) in
    let read = subst (λ t. IsRead t (types_view c.in-Some.own.meant)) both found.1 in
    (some_then c.in_ok-own_input-in-Some.field-0.octets (λ o. IsInputOf (types_view c.in-Some.own.meant) c.args.rest.now o.items) (λ o. IsOwnInput text c.args.rest.now o.items) (λ o is. (types_view c.in-Some.own.meant, read, is)) own.0, own.1)
