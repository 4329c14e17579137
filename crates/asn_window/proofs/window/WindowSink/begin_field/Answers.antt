-- The length is told, and then comes the content.
use Rattle.std.proofs.Common.{◌≡◌, ◌++◌, ◌∷◌, ℕ, suc, List, length, sym, ap, refl, subst, ◌∙◌, add-one}
use Rattle.asn_bits.specs.Numbers.{unpacked}
use Rattle.asn_sinks.specs.declared.sink.Framing.TheVariants.{General, Single}
use Rattle.asn_window.specs.Fragmented.{Comes}
use Rattle.asn_sinks.specs.Sink.{framed}
use Rattle.asn_window.specs.BitWriters.{BitsStand}
use Rattle.asn_window.specs.Windows.{WindowStands}
use Rattle.asn_window.proofs.WindowSteps.{moved}
use Rattle.asn_window.proofs.window.WindowSink.begin_field.Goals as goal

pub returns-in-General : goal.returns-in-General
returns-in-General g c at sofar os next level wants told =
    let e = c.enter.ensures in
    let here : c.args.self.now.depth ≡ c.args.level = told.level ∙ level in
    let start : WindowStands g.O.Output.held c.args.self.now at sofar (framed General os ++ next) =
    subst (λ f. WindowStands g.O.Output.held c.args.self.now at sofar (framed f os ++ next)) c.in-General.is told in
    let b : List ℕ → Type 0 = λ x. BitsStand at.origin.state (g.O.Output.held c.args.self.now.output.now) c.args.self.now.writer x at.origin.all in
    let around = at.around in
    let come = c.begin_general.ensures.told at.origin.state around os next at.origin.all (wants refl)
    (subst (λ l. Comes b c.args.self.now.fragments l around (framed General os ++ next)) here start.come) in (
      record {
        name = e.name ∙ told.name;
        come = moved at.origin.state (next ∷ around) (unpacked os) at.origin.all (ap (g.O.Output.held) e.output) e.writer e.fragments (e.depth ∙ add-one c.args.level) come;
        level = e.depth ∙ add-one c.args.level ∙ ap suc (sym level);
        phase = e.phase;
        empty = e.empty;
        long_left = ap (λ f. length f.left) e.fragments ∙ c.begin_general.ensures.long_left ∙ told.long_left;
        long_after = ap (λ f. length f.after) e.fragments ∙ c.begin_general.ensures.long_after ∙ told.long_after;
      },
      e.outer ∙ told.phase,
    )

pub returns-in-Single : goal.returns-in-Single
returns-in-Single g c at sofar os next level wants told =
    let e = c.enter-in-Single.ensures in
    let here : c.args.self.now.depth ≡ c.args.level = told.level ∙ level in
    let start : WindowStands g.O.Output.held c.args.self.now at sofar (framed Single os ++ next) =
    subst (λ f. WindowStands g.O.Output.held c.args.self.now at sofar (framed f os ++ next)) c.in-Single.is told in
    let b : List ℕ → Type 0 = λ x. BitsStand at.origin.state (g.O.Output.held c.args.self.now.output.now) c.args.self.now.writer x at.origin.all in
    let around = at.around in
    let come = c.begin_single.ensures.told at.origin.state around os next at.origin.all (wants refl)
    (subst (λ l. Comes b c.args.self.now.fragments l around (framed Single os ++ next)) here start.come) in (
      record {
        name = e.name ∙ told.name;
        come = moved at.origin.state (next ∷ around) (unpacked os) at.origin.all (ap (g.O.Output.held) e.output) e.writer e.fragments (e.depth ∙ add-one c.args.level) come;
        level = e.depth ∙ add-one c.args.level ∙ ap suc (sym level);
        phase = e.phase;
        empty = e.empty;
        long_left = ap (λ f. length f.left) e.fragments ∙ c.begin_single.ensures.long_left ∙ told.long_left;
        long_after = ap (λ f. length f.after) e.fragments ∙ c.begin_single.ensures.long_after ∙ told.long_after;
      },
      e.outer ∙ told.phase,
    )
