use Rattle.std.proofs.Common.{◌≡◌, ◌+◌, rules, string_bytes}
use Rattle.std.proofs.lemmas.Map.Text.{btree_map_updates_text}
use Rattle.std.proofs.lemmas.Result.{IfOk-at_ok}
use Rattle.asn_jobs.specs.Counts.{count_of}
use Rattle.asn_jobs.proofs.Counts.{counted_by_push}
use Rattle.asn_jobs.proofs.tally.Tally.add.Goals as goal

-- the key has the word's octets, so `insert` set the word's count
pub returns-clause-counted : goal.returns-clause-counted
returns-clause-counted c = λ words counted.
    let key_is_word = IfOk-at_ok (λ s. string_bytes s ≡ c.args.word.now) c.in_ok-key.was c.from_str.ensures.ok in
    let sets = btree_map_updates_text (string_bytes c.in_ok-key.key) c.args.self.now.counts c.insert.new.self _ c.in_ok-insert.ensures.updates in
    let one_more : c.in-Some.next ≡ count_of c.args.self.now.counts c.args.word.now + 1 = search rules in
    counted_by_push c.args.word.now words counted (rw (key_is_word, one_more) at sets)
