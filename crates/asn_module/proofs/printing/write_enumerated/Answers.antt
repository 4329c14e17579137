use Rattle.asn_module.proofs.Adding.{enumerated_written, marked_enumerated_written}
use Rattle.asn_module.proofs.printing.write_enumerated.Goals as goal

pub returns-in-None : goal.returns-in-None
returns-in-None c =
    enumerated_written c.write_token-in-None.result c.args.root.now c.args.more.now _ _ _ _ _ c.in-None.is c.in_ok-write_token.ensures c.in_ok-write_token-2.ensures c.in_ok-write_items.ensures c.write_token-in-None.ensures

pub returns-in_ok-write_items-in-Some : goal.returns-in_ok-write_items-in-Some
returns-in_ok-write_items-in-Some c =
    marked_enumerated_written c.write_token-in-Some.result c.args.root.now c.args.more.now c.in-Some.more _ _ _ _ _ _ _ c.in-Some.is c.in_ok-write_token.ensures c.in_ok-write_token-2.ensures c.in_ok-write_items.ensures
    c.in_ok-write_dots-in-Some.ensures (rw c.deref.ensures.value at c.in_ok-write_items-in-Some.ensures) c.write_token-in-Some.ensures
