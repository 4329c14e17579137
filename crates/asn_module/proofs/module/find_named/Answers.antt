use Rattle.std.proofs.Common.{◌≡◌, ◌∙◌, ◌-◌, sym, ap, get_or, arith}
use Rattle.asn_module.specs.Known.{look}
use Rattle.asn_module.proofs.Lookups.{looked_from, nowhere_above, looked_nowhere, is_looked}
use Rattle.asn_module.proofs.module.find_named.Goals as goal

pub returns-then-index-names : goal.returns-then-index-names
returns-then-index-names c =
    let names = c.args.names.now in
    let j = c.in-Some.index.now in
    let n = get_or names j c.index-names-index.result in
    let at = looked_from names 0 j c.args.name.now n (sym (c.requires c.args.name.now) ∙ sym c.in-Some.ensures.value) in
    let same : j - 0 ≡ j = omega arith in
    let there = ap (get_or names j) c.index-names-index.is in
    is_looked (look names c.args.name.now) n.known c.as_ref.result (at.2 (rw same there)) c.as_ref.ensures.value

pub returns-else-index-names : goal.returns-else-index-names
returns-else-index-names c =
    let names = c.args.names.now in
    let j = c.in-Some.index.now in
    let index = sym (c.requires c.args.name.now) ∙ sym c.in-Some.ensures.value in
    nowhere_above names j c.args.name.now index c.if-index-names.false

pub returns-in-None : goal.returns-in-None
returns-in-None c = looked_nowhere c.args.names.now 0 c.args.name.now (sym (c.requires c.args.name.now) ∙ sym c.in-None.ensures.value)
