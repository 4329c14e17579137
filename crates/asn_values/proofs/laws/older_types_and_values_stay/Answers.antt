use Rattle.asn_values.specs.Fits.{limits}
use Rattle.asn_values.specs.Older.{older_limits, oldest_limits}
use Rattle.asn_values.proofs.Older.{limits_wider, older_wider}
use Rattle.asn_values.proofs.OlderNumbers.{enumerations_stay}
use Rattle.asn_values.proofs.Wider.{values_wider}
use Rattle.asn_values.proofs.WiderTypes.{types_wider}
use Rattle.asn_values.proofs.laws.older_types_and_values_stay.Goals as goal

pub returns-clause-wider : goal.returns-clause-wider
returns-clause-wider c = limits_wider

pub returns-clause-types : goal.returns-clause-types
returns-clause-types c = types_wider older_limits limits limits_wider

pub returns-clause-numbers : goal.returns-clause-numbers
returns-clause-numbers c = enumerations_stay

pub returns-clause-values : goal.returns-clause-values
returns-clause-values c = values_wider older_limits limits limits_wider

pub returns-clause-older : goal.returns-clause-older
returns-clause-older c = older_wider

pub returns-clause-older_types : goal.returns-clause-older_types
returns-clause-older_types c = types_wider oldest_limits older_limits older_wider

pub returns-clause-older_values : goal.returns-clause-older_values
returns-clause-older_values c = values_wider oldest_limits older_limits older_wider
