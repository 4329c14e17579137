-- What the trees and the places of the program stand for.
use Rattle.std.specs.Prelude.{List, [], ◌∷◌, ℕ, ℤ, map}
use Rattle.std.specs.Borrow.{Bor}
use Rattle.asn_contents.specs.declared.contents.SelectedType.{SelectedType}
use Rattle.asn_contents.specs.declared.contents.Selection.{Selection}
use Rattle.asn_contents.specs.declared.contents.Contents as contents_declared
use Rattle.asn_contents.specs.declared.contents.Contents.{fold-Contents}
use Rattle.asn_contents.specs.declared.contents.Contents.TheOpen.{Contents-F}
use Rattle.asn_contents.specs.declared.finding.Content as content_declared
use Rattle.asn_contents.specs.Contents.{Contents, nowhere, in_octets, in_components, in_elements, in_alternatives, at_both, selected, Parts, no_parts, part, Content, one_content}

abbrev pub row_of : SelectedType → ℤ × ℕ
row_of row = (row.number, row.ty)

abbrev pub parts_of : List Contents → Parts
parts_of [] = no_parts
parts_of (c ∷ cs) = part c (parts_of cs)

abbrev pub selected_of : Selection → Contents
selected_of s = selected s.by s.open (map row_of s.rows.items) s.extensible

-- one level of a tree, the trees inside already seen
abbrev pub contents_step : Contents-F Contents → Contents
contents_step Contents-F.Nowhere = nowhere
contents_step (Contents-F.Octets k) = in_octets k
contents_step (Contents-F.Components cs) = in_components (parts_of cs.items)
contents_step (Contents-F.Elements c) = in_elements c.value
contents_step (Contents-F.Alternatives cs) = in_alternatives (parts_of cs.items)
contents_step (Contents-F.Both c d) = at_both c.value d.value
contents_step (Contents-F.Selected s) = selected_of s

abbrev pub contents_of : contents_declared.Contents → Contents
contents_of = fold-Contents Contents contents_step

-- the trees of components or alternatives, as the program's lists have them
abbrev pub parts_seen : List contents_declared.Contents → Parts
parts_seen cs = parts_of (map contents_of cs)

-- octets as the program has them
abbrev pub octets_now : Bor (List ℕ) → List ℕ
octets_now b = b.now

-- the octets that were found
abbrev pub content_of : content_declared.Content → Content
content_of c = one_content c.path.items c.ty c.octets.now

abbrev pub content_list : List content_declared.Content → List Content
content_list found = map content_of found
