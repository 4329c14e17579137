use Rattle.std.proofs.Common.{true, false, List, subst}
use Rattle.asn_newer.specs.Skipped.{SkippedAt, Reading}
use Rattle.asn_newer.specs.Loose.{IsLooseAt, Complete, Loose}
use Rattle.asn_newer.specs.Versions.{received}
use Rattle.asn_newer.proofs.Law.Flipped.{flipped, skips_nothing}
use Rattle.asn_newer.proofs.Law.Itself.{same_version, itself}
use Rattle.asn_newer.proofs.Law.OneReading.{one_reading}
use Rattle.asn_newer.proofs.Law.Read.{message_read}
use Rattle.asn_newer.proofs.Law.Received.{reads_fit}
use Rattle.asn_newer.proofs.laws.version_laws.Goals as goal

pub returns-clause-reads_itself : goal.returns-clause-reads_itself
returns-clause-reads_itself g c t v o p e =
    let l = g.R.OtherVersions.loose in
    subst (λ (r : Reading). Complete l.coding (Loose l t) r o) (itself l t v e.1.0) (message_read l c.keep_version_laws.ensures.parts true true t t v o p (same_version true true t) e)

pub returns-clause-reads_versions : goal.returns-clause-reads_versions
returns-clause-reads_versions g c t u v o p q w e = message_read g.R.OtherVersions.loose c.keep_version_laws.ensures.parts true true t u v o p w e

pub returns-clause-older_reads : goal.returns-clause-older_reads
returns-clause-older_reads g c old new v o p q w e = message_read g.R.OtherVersions.loose c.keep_version_laws.ensures.parts true false new old v o q (flipped false true old new w) e

pub returns-clause-newer_reads : goal.returns-clause-newer_reads
returns-clause-newer_reads g c old new v o p q w e =
    let l = g.R.OtherVersions.loose in
    subst (λ (s : List SkippedAt). IsLooseAt l new (received l old new v).0 s o) (skips_nothing l true old new v w) (message_read l c.keep_version_laws.ensures.parts false true old new v o p w e)

pub returns-clause-reads_fit : goal.returns-clause-reads_fit
returns-clause-reads_fit g c = reads_fit g.R.OtherVersions.loose c.keep_version_laws.ensures.parts.laws

pub returns-clause-one_way : goal.returns-clause-one_way
returns-clause-one_way g c = one_reading g.R.OtherVersions.loose c.keep_version_laws.ensures.ways
