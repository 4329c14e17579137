use Rattle.std.proofs.Common.{◌∙◌, Some, None}
use Rattle.asn_contents.specs.Contents.{if_present, number_of}
use Rattle.asn_contents.proofs.Entries.{of_entry_there, of_no_entry}
use Rattle.asn_contents.proofs.finding.number_at.Goals as goal

pub returns-then-entries-index : goal.returns-then-entries-index
returns-then-entries-index c = of_no_entry (if_present number_of) c.args.entries.now c.args.index c.if-entries-index.true

pub returns-in-None : goal.returns-in-None
returns-in-None c = of_entry_there (if_present number_of) c.args.entries.now c.args.index c.index-entries-index.result None c.if-entries-index.false c.index-entries-index.is c.in-None.is

pub returns-in-Some : goal.returns-in-Some
returns-in-Some c =
    c.number_of.ensures ∙ of_entry_there (if_present number_of) c.args.entries.now c.args.index c.index-entries-index.result (Some c.in-Some.value) c.if-entries-index.false c.index-entries-index.is c.in-Some.is
