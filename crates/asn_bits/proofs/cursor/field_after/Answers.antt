-- Two shifts leave the field alone.
use Rattle.asn_bits.proofs.Packing.{field_shifted}
use Rattle.asn_bits.proofs.cursor.field_after.Goals as goal

pub returns : goal.returns
returns c = field_shifted c.args.n c.args.offset c.args.k c.requires.within
