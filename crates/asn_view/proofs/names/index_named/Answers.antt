use Rattle.std.proofs.Common.{◌∙◌, ◌+◌, Some, map, option_map, length, sym, ap}
use Rattle.std.proofs.lemmas.List.{map-append, length-map}
use Rattle.asn_view.specs.Names.{index_of}
use Rattle.asn_view.proofs.NameIndexes.{in_first, in_second}
use Rattle.asn_view.proofs.names.index_named.Goals as goal

pub returns-in-Some-clause-index : goal.returns-in-Some-clause-index
returns-in-Some-clause-index g c =
    let named = g.T.Named.name_of in
    let root = c.args.root.now in
    let more = c.args.more.now in
    let name = c.args.name.now in
    sym (ap (index_of name) (map-append named root more) ∙ in_first name (map named root) (map named more) c.in-Some.index (sym c.in-Some.ensures.index))

pub returns-in-None-index_among-clause-index : goal.returns-in-None-index_among-clause-index
returns-in-None-index_among-clause-index g c =
    let named = g.T.Named.name_of in
    let root = c.args.root.now in
    let more = c.args.more.now in
    let name = c.args.name.now in
    sym (ap (index_of name) (map-append named root more)
    ∙ in_second name (map named root) (map named more) (sym c.in-None.ensures.index)
    ∙ ap (option_map (λ p. length (map named root) + p)) (sym c.in-None-index_among.ensures.index))

pub returns-in-Some-index_among-clause-index : goal.returns-in-Some-index_among-clause-index
returns-in-Some-index_among-clause-index g c =
    let named = g.T.Named.name_of in
    let root = c.args.root.now in
    let more = c.args.more.now in
    let name = c.args.name.now in
    sym (ap (index_of name) (map-append named root more)
    ∙ in_second name (map named root) (map named more) (sym c.in-None.ensures.index)
    ∙ ap (option_map (λ p. length (map named root) + p)) (sym c.in-Some-index_among.ensures.index)
    ∙ ap (λ n. Some (n + c.in-Some-index_among.index)) (length-map root named))
