-- What the tables and places of the program stand for.
use Rattle.std.specs.Prelude.{List, ℕ, Option, map}
use Rattle.asn_values.specs.View.{shape_of}
use Rattle.asn_constraints.specs.View.{constraint_of}
use Rattle.asn_contents.specs.Contents.{Content}
use Rattle.asn_contents.specs.View.{contents_of}
use Rattle.asn_containing.specs.declared.table.TableType as table_declared
use Rattle.asn_containing.specs.declared.broken.ContentsPlace.{ContentsPlace}
use Rattle.asn_containing.specs.Containing.{TableType}

abbrev pub type_of : table_declared.TableType → TableType
type_of e = record { shape = shape_of e.ty.planned; constraint = constraint_of e.ty.constraint.value; contents = contents_of e.contents }

abbrev pub table_of : List table_declared.TableType → List TableType
table_of T = map type_of T

-- octets in a value: the path to them, and the position of their type
pub record Place : Type 0 where
  pub path : List ℕ
  pub type : Option ℕ

abbrev pub place_of : ContentsPlace → Place
place_of p = record { path = p.path.items; type = p.ty }

abbrev pub place_of_content : Content → Place
place_of_content x = record { path = x.path; type = x.type }
