use Rattle.std.proofs.Common.{rules, ◌≡◌, ◌++◌, string_bytes}
use Rattle.asn_convert.proofs.Skipping.{one_more_field}
use Rattle.asn_convert.proofs.newer.push_skipped.Goals as goal

pub loop-field-preserved : goal.loop-field-preserved
loop-field-preserved c =
    let written : string_bytes c.push_str.new.self ≡ string_bytes c.loop-field.text ++ string_bytes c.in_ok-more.more = search rules in
    one_more_field c.args.skipped.now c.loop-field.field-index c.field-item.result (string_bytes c.args.text.now) (string_bytes c.loop-field.text) (string_bytes c.in_ok-more.more) (string_bytes c.push_str.new.self)
    c.loop-field-test.true c.field-item.is c.loop-field.invariant c.in_ok-more.ensures written
