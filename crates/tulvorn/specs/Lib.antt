-- types, values, and which fit
pub use Rattle.asn_values.specs.Datum
pub use Rattle.asn_values.specs.Shape
pub use Rattle.asn_values.specs.Fits
pub use Rattle.asn_values.specs.Older
pub use Rattle.asn_values.specs.View
-- values by the names of their type
pub use Rattle.asn_view.specs.Typed
pub use Rattle.asn_view.specs.Paths
pub use Rattle.asn_view.specs.Seen
pub use Rattle.asn_view.specs.Names
pub use Rattle.asn_view.specs.Built
pub use Rattle.asn_view.specs.Kinds
-- encodings, and what encoders, decoders, sessions and streams answer
pub use Rattle.asn_rules.specs.Answer
pub use Rattle.asn_rules.specs.Codec
pub use Rattle.asn_rules.specs.Laws
pub use Rattle.asn_rules.specs.CodecLaws
pub use Rattle.asn_rules.specs.Delivered
pub use Rattle.asn_rules.specs.Measured
pub use Rattle.asn_rules.specs.Faults
pub use Rattle.asn_rules.specs.Sessions
pub use Rattle.asn_rules.specs.Streams
pub use Rattle.asn_rules.specs.Reasons
pub use Rattle.asn_per.specs.Rules as PerRules
pub use Rattle.asn_oer.specs.Rules as OerRules
-- constraints, and encodings under them
pub use Rattle.asn_constraints.specs.Constraints
pub use Rattle.asn_constraints.specs.View as ConstraintView
pub use Rattle.asn_constrained.specs.Under
pub use Rattle.asn_constrained.specs.Laws as UnderLaws
pub use Rattle.asn_constrained.specs.Measured as MeasuredUnder
pub use Rattle.asn_constrained.specs.Sessions as SessionsUnder
pub use Rattle.asn_constrained.specs.Converted as ConvertedUnder
-- by a plan of the type, and within a budget
pub use Rattle.asn_plan.specs.Plans
pub use Rattle.asn_plan.specs.Taken
pub use Rattle.asn_plan.specs.Within
-- a value in slots
pub use Rattle.asn_message.specs.Decoding as MessageDecoding
pub use Rattle.asn_message.specs.Seen as MessageSeen
pub use Rattle.asn_message.specs.Views as MessageViews
-- where octets are no message, other versions, conversion
pub use Rattle.asn_explain.specs.Explains
pub use Rattle.asn_explain.specs.Texts
pub use Rattle.asn_newer.specs.Loose
pub use Rattle.asn_newer.specs.Reading as NewerReading
pub use Rattle.asn_convert.specs.Converted
-- modules and JSON
pub use Rattle.asn_module.specs.Accepted
pub use Rattle.asn_module.specs.ModuleView
pub use Rattle.asn_module.specs.Known
pub use Rattle.asn_module.specs.Uses
pub use Rattle.asn_module.specs.Sizes as ModuleSizes
pub use Rattle.asn_module.specs.Bounded
pub use Rattle.asn_json.specs.Written
pub use Rattle.asn_json.specs.Shown
pub use Rattle.asn_json.specs.Errors
pub use Rattle.asn_json.specs.Older as OlderJson
