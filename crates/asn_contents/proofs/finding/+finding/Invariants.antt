use Rattle.std.proofs.Common.{◌≡◌, ◌++◌, map}
use Rattle.asn_values.specs.View.{datum_of, entries_seen}
use Rattle.asn_contents.specs.Contents.{places_in, of_parts, of_elements}
use Rattle.asn_contents.specs.View.{contents_of, parts_seen, content_list}
use Rattle.asn_contents.proofs.Places.{rest_of_parts, rest_of_elements}
use Rattle.asn_contents.proofs.finding.+finding.Given as goal

-- those of the parts left come after those found so far
abbrev pub invariant-push_of_elements-loop-index : goal.invariant-push_of_elements-loop-index
invariant-push_of_elements-loop-index l =
    content_list l.found.items ++ rest_of_elements l.contents l.path l.index l.elements
    ≡ content_list l.fn.found.items ++ of_elements (λ q d. places_in (contents_of l.contents) q d) l.path 0 (map datum_of l.elements)

abbrev pub invariant-push_of_parts-loop-index : goal.invariant-push_of_parts-loop-index
invariant-push_of_parts-loop-index l =
    content_list l.found.items ++ rest_of_parts l.parts l.path l.index l.entries
    ≡ content_list l.fn.found.items ++ of_parts (parts_seen l.parts) l.path 0 (entries_seen l.entries)
