use Rattle.std.proofs.Common.{ap, ◌≡◌, ◌∙◌, ◌++◌}
use Rattle.clap.specs.Words.{found_of, rows_of}
use Rattle.clap.proofs.WalkLemmas.{raw_values-rows}
use Rattle.asn_request.specs.Request.{texts_of}
use Rattle.asn_request.proofs.Given.{no_files, some_files}
use Rattle.asn_request.proofs.request.files_in.Goals as goal

pub returns-in_ok-extend_from_slice-in-Some : goal.returns-in_ok-extend_from_slice-in-Some
returns-in_ok-extend_from_slice-in-Some c =
    let items : c.extend_from_slice.new.self.items ≡ c.in-Some.given.now = c.in_ok-extend_from_slice-in-Some.ensures.items ∙ ap (λ xs. xs ++ c.in-Some.given.now) c.new-files.ensures.items in
    ap texts_of items ∙ some_files c.args.id.now (rows_of (found_of c.args.options.now)) (texts_of c.in-Some.given.now) (c.in-Some.ensures ∙ raw_values-rows (found_of c.args.options.now) c.args.id.now)

pub returns-in-None : goal.returns-in-None
returns-in-None c =
    ap texts_of c.new-files.ensures.items ∙ no_files c.args.id.now (rows_of (found_of c.args.options.now)) (c.in-None.ensures ∙ raw_values-rows (found_of c.args.options.now) c.args.id.now)
