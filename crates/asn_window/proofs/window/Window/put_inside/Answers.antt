-- Some octets more.
use Rattle.std.proofs.Common.{◌≡◌, ◌++◌, ◌∷◌, [], ℕ, List, sym, ap, ◌∙◌, append_assoc, append-nil, refl, arith, length, take, take-append-drop}
use Rattle.std.proofs.lemmas.Bool.Decides.{nat_tests}
use Rattle.asn_bits.specs.Numbers.{unpacked}
use Rattle.asn_bits.proofs.Splits.{unpacked-append}
use Rattle.asn_sinks.specs.Sink.{Standing, Pushes}
use Rattle.asn_sinks.specs.SinkLaws.{pushed_joined, pushed_none}
use Rattle.asn_sinks.proofs.Pushing.{pushed_same}
use Rattle.asn_window.specs.declared.window.Window.{Window}
use Rattle.asn_window.specs.Windows.{WindowStands}
use Rattle.asn_window.specs.WindowStart.{Start}
use Rattle.asn_window.proofs.window.Window.put_inside.Goals as goal

pub loop-rest-init : goal.loop-rest-init
loop-rest-init g c =
    let stands : Standing (Window g.row.O.Denot) Start = λ w c taken coming. WindowStands g.O.Output.held w c taken coming in
    ([], refl, pushed_none stands c.args.self.now)

pub loop-rest-preserved : goal.loop-rest-preserved
loop-rest-preserved g c =
    let stands : Standing (Window g.row.O.Denot) Start = λ w c taken coming. WindowStands g.O.Output.held w c taken coming in
    let done = c.loop-rest.invariant.0 in
    let rest = c.loop-rest.rest.now in
    let count = c.put_front-count.result in
    let front = take count rest in
    let cut : rest ≡ front ++ c.split_at.result.1.now = sym (take-append-drop count rest) ∙ ap (λ t. front ++ t) (sym c.split_at.ensures.back) in
    let all : c.args.octets.now ≡ (done ++ front) ++ c.split_at.result.1.now =
    c.loop-rest.invariant.1 ∙ ap (λ t. done ++ t) cut ∙ sym (append_assoc done front c.split_at.result.1.now) in (
      done ++ front,
      all,
      pushed_same (λ a b xs. Pushes stands a b xs) c.args.self.now c.put_front-count.new.self (sym (unpacked-append done front))
          (pushed_joined stands c.args.self.now c.loop-rest.self c.put_front-count.new.self (unpacked done) (unpacked front) c.loop-rest.invariant.2 c.put_front-count.ensures.pushed),
    )

pub returns : goal.returns
returns g c =
    let stands : Standing (Window g.row.O.Denot) Start = λ w c taken coming. WindowStands g.O.Output.held w c taken coming in
    let done = c.loop-rest.invariant.0 in
    let none : c.loop-rest.rest.now ≡ [] = nothing c.loop-rest.rest.now (grind (arith, nat_tests)) in
    let all : unpacked done ≡ unpacked c.args.octets.now = ap unpacked (sym (c.loop-rest.invariant.1 ∙ ap (λ t. done ++ t) none ∙ append-nil done)) in
    pushed_same (λ a b xs. Pushes stands a b xs) c.args.self.now c.loop-rest.self all c.loop-rest.invariant.2
  where
    nothing : (xs : List ℕ) → length xs ≡ 0 → xs ≡ []
    nothing [] e = refl
    nothing (x ∷ xs) e = absurd (omega arith)
