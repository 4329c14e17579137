use Rattle.std.proofs.Common.{◌≡◌, ◌≤◌, ◌<◌, ◌+◌, ◌++◌, ℕ, Ok, Err, List, length, take, length-append, refl, ap, subst, arith}
use Rattle.asn_values.specs.Shape.{Shape}
use Rattle.asn_values.specs.View.{shape_of, datum_of}
use Rattle.asn_rules.specs.Answer.{Answer, done, refused, max_octets}
use Rattle.asn_rules.proofs.Feeding.Sessions.{take_few}
use Rattle.asn_walk.proofs.Decoding.{few_units}
use Rattle.asn_walk_feed.specs.Nodes.{nodes}
use Rattle.asn_rules.specs.Sessions.{Past, all_so_far}
use Rattle.asn_rules.specs.Holding.{GivesFew}
use Rattle.asn_rules.specs.Ticks.{CountsOn}
use Rattle.asn_rules.specs.declared.session.Step.TheVariants as step
use Rattle.asn_rules.specs.declared.session.FeedFault.TheVariants as feed
use Rattle.asn_walk_feed.specs.Counts.{count_of}
use Rattle.asn_resuming.specs.Counting.{Seen, SeenAtMost, Going, CountsAfter}
use Rattle.asn_resuming.specs.Reached.{Reached, GoesOn, AnswersOn}
use Rattle.asn_resuming.proofs.Answering.{octets_known, feeds, reached_of, of_its_type, so_far, done_feeds, more_feeds, too_long_feeds, refused_feeds, memory_feeds, when_waiting, going_at, front_same, done_few}
use Rattle.asn_resuming.proofs.Counts.{few_of_seen, count_at_most, most_after}
use Rattle.asn_resuming.proofs.NextOctets.{units_joined}
use Rattle.asn_resuming.proofs.session.feed.Goals as goal

pub overflow_add-units : goal.overflow_add-units
overflow_add-units g c =
    let r = g.R.ReadLeaves.rules in
    let laws = c.keep_laws.ensures in
    let known = c.requires.known in
    let h = octets_known r laws g.R.FeedLeaves.fields g.R.ReadLeaves.ahead g.R.ReadLeaves.is_between known.0 c.args.session.now c.in-Waiting.is known.1 known.2 in
    let m = take c.min.result c.args.piece.now in
    let few : length (h.0 ++ m) ≤ max_octets = omega (arith, length-append h.0 m, h.1, h.2.octets_are, (take_few c.min.result c.args.piece.now).0, c.min.ensures, c.saturating_sub-room.ensures) in
    omega (arith, units_joined r laws h.0 m, h.2.units_are, c.units_of.ensures, few_units r laws (h.0 ++ m) few)

pub returns-in-Ok-Done-clause-answered : goal.returns-in-Ok-Done-clause-answered
returns-in-Ok-Done-clause-answered g c = λ t past k.
    let r = g.R.ReadLeaves.rules in
    let laws = c.keep_laws.ensures in
    let fc = g.R.FeedLeaves.fields in
    let ah = g.R.ReadLeaves.ahead in
    let bt = g.R.ReadLeaves.is_between in
    let q = c.args.session.now in
    let p = c.args.piece.now in
    let m = take c.min.result p in
    let v = c.in-Ok-Done.value in
    let used = c.in-Ok-Done.used in
    let told : (s : List ℕ) → Reached r fc ah bt (nodes q.frames) (shape_of q.ty) q.units q.octets s → Answer r.ruling (shape_of q.ty) (s ++ m) (done (datum_of v) (length s + used)) = rw (c.in-Ok-Done.is, c.in-Ok-Done.field-0-is) at c.read_next.ensures.answered in
    feeds r laws fc ah bt t q _ p _ c.in-Waiting.is (λ s w. done_feeds r laws fc ah bt t q _ refl s p m w (so_far r laws fc ah bt t q s p c.saturating_sub-room.result c.min.result w c.saturating_sub-room.ensures c.min.ensures) v used refl c.none.ensures refl (of_its_type r laws fc ah bt t q s (λ (u : Shape). Answer r.ruling u (s ++ m) (done (datum_of v) (length s + used))) w (told s (reached_of r laws fc ah bt t q s w)))) past k

pub returns-then-octets-eq-MAX_OCTETS-clause-answered : goal.returns-then-octets-eq-MAX_OCTETS-clause-answered
returns-then-octets-eq-MAX_OCTETS-clause-answered g c = λ t past k.
    let r = g.R.ReadLeaves.rules in
    let laws = c.keep_laws.ensures in
    let fc = g.R.FeedLeaves.fields in
    let ah = g.R.ReadLeaves.ahead in
    let bt = g.R.ReadLeaves.is_between in
    let q = c.args.session.now in
    let p = c.args.piece.now in
    let m = take c.min.result p in
    let told : (s : List ℕ) → Reached r fc ah bt (nodes q.frames) (shape_of q.ty) q.units q.octets s → GoesOn r fc ah bt (nodes c.read_next.new.frames) (shape_of q.ty) (s ++ m) = rw (c.in-Ok-More.is, c.in-Ok-More.field-0-is) at c.read_next.ensures.answered in
    let going : (s : List ℕ) → Reached r fc ah bt (nodes q.frames) (shape_of q.ty) q.units q.octets s → Going r fc ah bt (nodes q.frames) (shape_of q.ty) (length (r.ruling.units s)) q.ticks → Going r fc ah bt (nodes c.read_next.new.frames) (shape_of q.ty) (length (r.ruling.units (s ++ m))) c.read_next.new.ticks = rw (c.in-Ok-More.is, c.in-Ok-More.field-0-is) at c.read_next.ensures.counted in
    feeds r laws fc ah bt t q _ p _ c.in-Waiting.is (λ s w.
    let at = w.goes_on.2 in
    let count : q.units + c.units_of.result ≡ length (r.ruling.units (s ++ m)) = omega (arith, units_joined r laws s m, at.units_are, c.units_of.ensures) in
    let all : length (s ++ m) ≡ max_octets = omega (arith, length-append s m, at.octets_are, c.if-octets-eq-MAX_OCTETS.true) in
    too_long_feeds r laws fc ah bt t q _ refl s p m w (so_far r laws fc ah bt t q s p c.saturating_sub-room.result c.min.result w c.saturating_sub-room.ensures c.min.ensures) (nodes c.read_next.new.frames) (record { taken = q.units + c.units_of.result }) refl c.none-then-octets-eq-MAX_OCTETS.ensures refl count all (of_its_type r laws fc ah bt t q s (λ (u : Shape). GoesOn r fc ah bt (nodes c.read_next.new.frames) u (s ++ m)) w (told s (reached_of r laws fc ah bt t q s w))) (of_its_type r laws fc ah bt t q s (λ (u : Shape). Going r fc ah bt (nodes c.read_next.new.frames) u (length (r.ruling.units (s ++ m))) c.read_next.new.ticks) w (going s (reached_of r laws fc ah bt t q s w) (going_at r laws fc ah bt t q s w)))) past k

pub returns-else-octets-eq-MAX_OCTETS-clause-answered : goal.returns-else-octets-eq-MAX_OCTETS-clause-answered
returns-else-octets-eq-MAX_OCTETS-clause-answered g c = λ t past k.
    let r = g.R.ReadLeaves.rules in
    let laws = c.keep_laws.ensures in
    let fc = g.R.FeedLeaves.fields in
    let ah = g.R.ReadLeaves.ahead in
    let bt = g.R.ReadLeaves.is_between in
    let q = c.args.session.now in
    let p = c.args.piece.now in
    let m = take c.min.result p in
    let told : (s : List ℕ) → Reached r fc ah bt (nodes q.frames) (shape_of q.ty) q.units q.octets s → GoesOn r fc ah bt (nodes c.read_next.new.frames) (shape_of q.ty) (s ++ m) = rw (c.in-Ok-More.is, c.in-Ok-More.field-0-is) at c.read_next.ensures.answered in
    let going : (s : List ℕ) → Reached r fc ah bt (nodes q.frames) (shape_of q.ty) q.units q.octets s → Going r fc ah bt (nodes q.frames) (shape_of q.ty) (length (r.ruling.units s)) q.ticks → Going r fc ah bt (nodes c.read_next.new.frames) (shape_of q.ty) (length (r.ruling.units (s ++ m))) c.read_next.new.ticks = rw (c.in-Ok-More.is, c.in-Ok-More.field-0-is) at c.read_next.ensures.counted in
    feeds r laws fc ah bt t q _ p _ c.in-Waiting.is (λ s w.
    let at = w.goes_on.2 in
    let count : q.units + c.units_of.result ≡ length (r.ruling.units (s ++ m)) = omega (arith, units_joined r laws s m, at.units_are, c.units_of.ensures) in
    let octets : q.octets + length m ≡ length (s ++ m) = omega (arith, length-append s m, at.octets_are) in
    let few : length (s ++ m) < max_octets = omega (arith, octets, w.goes_on.1, at.octets_are, (take_few c.min.result p).0, c.min.ensures, c.saturating_sub-room.ensures, c.if-octets-eq-MAX_OCTETS.false) in
    more_feeds r laws fc ah bt t q _ refl s p m w (so_far r laws fc ah bt t q s p c.saturating_sub-room.result c.min.result w c.saturating_sub-room.ensures c.min.ensures) (record { taken = q.units + c.units_of.result }) c.in-Waiting.is refl count few count octets (of_its_type r laws fc ah bt t q s (λ (u : Shape). GoesOn r fc ah bt (nodes c.read_next.new.frames) u (s ++ m)) w (told s (reached_of r laws fc ah bt t q s w))) (of_its_type r laws fc ah bt t q s (λ (u : Shape). Going r fc ah bt (nodes c.read_next.new.frames) u (length (r.ruling.units (s ++ m))) c.read_next.new.ticks) w (going s (reached_of r laws fc ah bt t q s w) (going_at r laws fc ah bt t q s w)))) past k

pub returns-in-Err-Refused-clause-answered : goal.returns-in-Err-Refused-clause-answered
returns-in-Err-Refused-clause-answered g c = λ t past k.
    let r = g.R.ReadLeaves.rules in
    let laws = c.keep_laws.ensures in
    let fc = g.R.FeedLeaves.fields in
    let ah = g.R.ReadLeaves.ahead in
    let bt = g.R.ReadLeaves.is_between in
    let q = c.args.session.now in
    let p = c.args.piece.now in
    let m = take c.min.result p in
    let at = c.in-Err-Refused.at in
    let told : (s : List ℕ) → Reached r fc ah bt (nodes q.frames) (shape_of q.ty) q.units q.octets s → Answer r.ruling (shape_of q.ty) (s ++ m) (refused at) = rw (c.in-Err-Refused.is, c.in-Err-Refused.field-0-is) at c.read_next.ensures.answered in
    let seen : (s : List ℕ) → Reached r fc ah bt (nodes q.frames) (shape_of q.ty) q.units q.octets s → Going r fc ah bt (nodes q.frames) (shape_of q.ty) (length (r.ruling.units s)) q.ticks → Seen (shape_of q.ty) at c.read_next.new.ticks = rw (c.in-Err-Refused.is, c.in-Err-Refused.field-0-is) at c.read_next.ensures.counted in
    feeds r laws fc ah bt t q _ p _ c.in-Waiting.is (λ s w. refused_feeds r laws fc ah bt t q _ refl s p m w (so_far r laws fc ah bt t q s p c.saturating_sub-room.result c.min.result w c.saturating_sub-room.ensures c.min.ensures) at c.in-Err-Refused.why (record { taken = c.saturating_sub-taken.result }) refl c.none-in-Err-Refused.ensures refl c.saturating_sub-taken.ensures (of_its_type r laws fc ah bt t q s (λ (u : Shape). Answer r.ruling u (s ++ m) (refused at)) w (told s (reached_of r laws fc ah bt t q s w))) (of_its_type r laws fc ah bt t q s (λ (u : Shape). Seen u at c.read_next.new.ticks) w (seen s (reached_of r laws fc ah bt t q s w) (going_at r laws fc ah bt t q s w)))) past k

pub returns-in-Err-Memory-clause-answered : goal.returns-in-Err-Memory-clause-answered
returns-in-Err-Memory-clause-answered g c = λ t past k.
    let r = g.R.ReadLeaves.rules in
    let laws = c.keep_laws.ensures in
    let fc = g.R.FeedLeaves.fields in
    let ah = g.R.ReadLeaves.ahead in
    let bt = g.R.ReadLeaves.is_between in
    let q = c.args.session.now in
    let p = c.args.piece.now in
    feeds r laws fc ah bt t q _ p _ c.in-Waiting.is (λ s w. memory_feeds r laws fc ah bt t q _ refl s p (take c.min.result p) w (so_far r laws fc ah bt t q s p c.saturating_sub-room.result c.min.result w c.saturating_sub-room.ensures c.min.ensures) refl c.none-in-Err-Memory.ensures refl) past k

-- ---- what was counted

pub returns-in-Ok-Done-clause-ticked : goal.returns-in-Ok-Done-clause-ticked
returns-in-Ok-Done-clause-ticked g c = λ t past k.
    let r = g.R.ReadLeaves.rules in
    let laws = c.keep_laws.ensures in
    let fc = g.R.FeedLeaves.fields in
    let ah = g.R.ReadLeaves.ahead in
    let bt = g.R.ReadLeaves.is_between in
    let q = c.args.session.now in
    let p = c.args.piece.now in
    let m = take c.min.result p in
    let v = c.in-Ok-Done.value in
    let used = c.in-Ok-Done.used in
    let told : (s : List ℕ) → Reached r fc ah bt (nodes q.frames) (shape_of q.ty) q.units q.octets s → Answer r.ruling (shape_of q.ty) (s ++ m) (done (datum_of v) (length s + used)) = rw (c.in-Ok-Done.is, c.in-Ok-Done.field-0-is) at c.read_next.ensures.answered in
    let seen : (s : List ℕ) → Reached r fc ah bt (nodes q.frames) (shape_of q.ty) q.units q.octets s → Going r fc ah bt (nodes q.frames) (shape_of q.ty) (length (r.ruling.units s)) q.ticks → Seen (shape_of q.ty) (length (r.ruling.units (take (length s + used) (s ++ m)))) c.read_next.new.ticks = rw (c.in-Ok-Done.is, c.in-Ok-Done.field-0-is) at c.read_next.ensures.counted in
    when_waiting r laws fc ah bt t q (λ (u : Past). CountsOn r.ruling t u p (Ok (step.Done v used)) (count_of q.ticks) (count_of c.read_next.new.ticks)) c.in-Waiting.is (λ s w.
    let n = length s + used in
    let at = w.goes_on.2 in
    let known = reached_of r laws fc ah bt t q s w in
    let read = told s known in
    let same = front_same r laws fc ah bt t s p m n (so_far r laws fc ah bt t q s p c.saturating_sub-room.result c.min.result w c.saturating_sub-room.ensures c.min.ensures) read.0 in
    let here : Seen t (length (r.ruling.units (take n (s ++ m)))) c.read_next.new.ticks = of_its_type r laws fc ah bt t q s (λ (u : Shape). Seen u (length (r.ruling.units (take n (s ++ m)))) c.read_next.new.ticks) w (seen s known (going_at r laws fc ah bt t q s w)) in
    let all : Seen t (length (r.ruling.units (take n (s ++ p)))) c.read_next.new.ticks = subst (λ (o : List ℕ). Seen t (length (r.ruling.units o)) c.read_next.new.ticks) same here in
    let few : length (take n (s ++ p)) ≤ max_octets = omega (arith, ap length same, take_few n (s ++ m), length-append s m, at.octets_are, (take_few c.min.result p).0, c.min.ensures, c.saturating_sub-room.ensures, w.goes_on.1) in
    few_of_seen t (length (r.ruling.units (take n (s ++ p)))) c.read_next.new.ticks all (omega (arith, few_units r laws (take n (s ++ p)) few))) past k

pub returns-in-Err-Memory-clause-ticked : goal.returns-in-Err-Memory-clause-ticked
returns-in-Err-Memory-clause-ticked g c = λ t past k.
    let r = g.R.ReadLeaves.rules in
    let laws = c.keep_laws.ensures in
    let fc = g.R.FeedLeaves.fields in
    let ah = g.R.ReadLeaves.ahead in
    let bt = g.R.ReadLeaves.is_between in
    let q = c.args.session.now in
    let p = c.args.piece.now in
    let m = take c.min.result p in
    let f = c.in-Err-Memory.field-0 in
    let told : (s : List ℕ) → Reached r fc ah bt (nodes q.frames) (shape_of q.ty) q.units q.octets s → AnswersOn r fc ah bt (nodes c.read_next.new.frames) (shape_of q.ty) s m (Err f) = rw c.in-Err-Memory.is at c.read_next.ensures.answered in
    let counted : (s : List ℕ) → Reached r fc ah bt (nodes q.frames) (shape_of q.ty) q.units q.octets s → Going r fc ah bt (nodes q.frames) (shape_of q.ty) (length (r.ruling.units s)) q.ticks → CountsAfter r fc ah bt (nodes c.read_next.new.frames) (shape_of q.ty) s m (Err f) c.read_next.new.ticks = rw c.in-Err-Memory.is at c.read_next.ensures.counted in
    let most : (s : List ℕ) → Reached r fc ah bt (nodes q.frames) (shape_of q.ty) q.units q.octets s → Going r fc ah bt (nodes q.frames) (shape_of q.ty) (length (r.ruling.units s)) q.ticks → SeenAtMost (shape_of q.ty) (length (r.ruling.units (s ++ m))) c.read_next.new.ticks = λ s h w. most_after r fc ah bt (nodes c.read_next.new.frames) (shape_of q.ty) s m f c.read_next.new.ticks (told s h) (counted s h w) in
    when_waiting r laws fc ah bt t q (λ (u : Past). CountsOn r.ruling t u p (Err feed.Memory) (count_of q.ticks) (count_of c.read_next.new.ticks)) c.in-Waiting.is (λ s w.
    let here : SeenAtMost t (length (r.ruling.units (s ++ m))) c.read_next.new.ticks = of_its_type r laws fc ah bt t q s (λ (u : Shape). SeenAtMost u (length (r.ruling.units (s ++ m))) c.read_next.new.ticks) w (most s (reached_of r laws fc ah bt t q s w) (going_at r laws fc ah bt t q s w)) in
    count_at_most t (length (r.ruling.units (all_so_far s p))) c.read_next.new.ticks (subst (λ (o : List ℕ). SeenAtMost t (length (r.ruling.units o)) c.read_next.new.ticks) (so_far r laws fc ah bt t q s p c.saturating_sub-room.result c.min.result w c.saturating_sub-room.ensures c.min.ensures) here)) past k

-- ---- how large the value is

pub returns-in-Ok-Done-clause-few : goal.returns-in-Ok-Done-clause-few
returns-in-Ok-Done-clause-few g c = λ t past k.
    let r = g.R.ReadLeaves.rules in
    let laws = c.keep_laws.ensures in
    let fc = g.R.FeedLeaves.fields in
    let ah = g.R.ReadLeaves.ahead in
    let bt = g.R.ReadLeaves.is_between in
    let q = c.args.session.now in
    let m = take c.min.result c.args.piece.now in
    let v = c.in-Ok-Done.value in
    let used = c.in-Ok-Done.used in
    let told : (s : List ℕ) → Reached r fc ah bt (nodes q.frames) (shape_of q.ty) q.units q.octets s → Answer r.ruling (shape_of q.ty) (s ++ m) (done (datum_of v) (length s + used)) = rw (c.in-Ok-Done.is, c.in-Ok-Done.field-0-is) at c.read_next.ensures.answered in
    when_waiting r laws fc ah bt t q (λ (u : Past). GivesFew (Ok (step.Done v used)) t u) c.in-Waiting.is (λ s w.
    done_few r laws fc c.keep_hold_laws.ensures t (datum_of v) (s ++ m) (length s + used) w.of_profile (of_its_type r laws fc ah bt t q s (λ (u : Shape). Answer r.ruling u (s ++ m) (done (datum_of v) (length s + used))) w (told s (reached_of r laws fc ah bt t q s w)))) past k
