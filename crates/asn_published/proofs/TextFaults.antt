-- A fault that is of no text is no fault of a text.
use Rattle.std.proofs.Common.{arith, ℕ}
use Rattle.asn_published.specs.TextFaults.{IsOneOf}
use Rattle.asn_published.specs.declared.fault.PublishedFault.{PublishedFault}
use Rattle.asn_published.specs.declared.fault.PublishedFault.TheVariants as fault

pub of_no_text : (texts : ℕ) (f : PublishedFault) → IsOneOf 0 f → IsOneOf texts f
of_no_text texts (fault.Text text line w) is = absurd (omega (arith, is))
of_no_text texts (fault.Unread why) is = is
of_no_text texts (fault.TooLarge most name) is = is
of_no_text texts fault.Memory is = is
