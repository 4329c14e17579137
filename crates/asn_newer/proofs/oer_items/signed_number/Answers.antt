use Rattle.asn_newer.proofs.Walk.OerItems.{below_zero}
use Rattle.asn_newer.proofs.oer_items.signed_number.Goals as goal

pub returns-else-residue-count-clause-is : goal.returns-else-residue-count-clause-is
returns-else-residue-count-clause-is c =
    (below_zero c.args.count c.args.residue c.from-else-residue-count.result c.from-else-residue-count.ensures c.requires.some c.requires.few c.if-residue-count.false c.requires.fits).0

pub returns-else-residue-count-clause-near : goal.returns-else-residue-count-clause-near
returns-else-residue-count-clause-near c =
    (below_zero c.args.count c.args.residue c.from-else-residue-count.result c.from-else-residue-count.ensures c.requires.some c.requires.few c.if-residue-count.false c.requires.fits).1
