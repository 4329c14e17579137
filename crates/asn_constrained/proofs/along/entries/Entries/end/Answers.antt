use Rattle.std.proofs.Common.{length, sym}
use Rattle.std.proofs.lemmas.Bool.{eqb-true}
use Rattle.std.proofs.lemmas.List.{nil_from_length}
use Rattle.asn_constrained.proofs.Passing.{entries_end}
use Rattle.asn_constrained.proofs.along.entries.Entries.end.Goals as goal

pub returns-then-is_empty : goal.returns-then-is_empty
returns-then-is_empty c = λ t s m es h.
    entries_end s m c.args.self.now es (nil_from_length c.args.self.now.rest.now (eqb-true (length c.args.self.now.rest.now) 0 (sym c.if-is_empty.ensures))) c.if-self.false h
