-- The length determinant, and then the content.
use Rattle.std.proofs.Common.{◌≡◌, ◌<◌, ◌++◌, ℕ, List, ap, refl, inl, subst, ◌∙◌, append_assoc, arith, set, length}
use Rattle.std.proofs.lemmas.List.{get_or-set_same, get_or-set_other}
use Rattle.asn_bits.specs.Lengths.{octet_length}
use Rattle.asn_bits.specs.Numbers.{unpacked}
use Rattle.asn_window.specs.declared.fragments.Fragments.{Fragments}
use Rattle.asn_window.specs.Fragmented.{Comes}
use Rattle.asn_window.specs.BitWriters.{BitsStand}
use Rattle.asn_window.proofs.FieldSteps.{IsSameBelow, comes_same}
use Rattle.asn_window.proofs.fragments.begin_single.Goals as goal

pub returns-clause-told : goal.returns-clause-told
returns-clause-told g c start around os next all long come =
    let level = c.args.level in
    let f1 = c.put_single_length.new.fragments in
    let was : List ℕ → Type 0 = λ b. BitsStand start (g.O.Output.held c.args.output.now) c.args.writer.now b all in
    let now : List ℕ → Type 0 = λ b. BitsStand start (g.O.Output.held c.put_single_length.new.output) c.put_single_length.new.writer b all in
    let same = c.put_single_length.ensures.same in
    let cut : (unpacked (octet_length (length os)) ++ unpacked os) ++ next ≡ unpacked (octet_length c.args.many) ++ (unpacked os ++ next) =
    append_assoc (unpacked (octet_length (length os))) (unpacked os) next ∙ ap (λ n. unpacked (octet_length n) ++ (unpacked os ++ next)) long in
    let told : Comes now f1 level around (unpacked os ++ next) =
    c.put_single_length.ensures.told start around (unpacked os ++ next) all
    (subst (λ (xs : List ℕ). Comes was c.args.fragments.now level around xs) cut come) in
    let f2 : Fragments = record { left = set f1.left level 0; after = f1.after } in
    let below : IsSameBelow level f1 f2 = record {
      left = λ j h. get_or-set_other f1.left level j 0 0 (λ e. absurd (omega (arith, h, e)));
      after = λ j h. refl;
    } in
    let inside : level < length f1.left = omega (arith, c.requires.inside, same.long_left) in
    (unpacked os, inl (get_or-set_same f1.left level 0 0 inside, refl), comes_same now f1 f2 level around (unpacked os ++ next) below told)
