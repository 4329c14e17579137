-- The command of the program, as clap's own words state it, and what it takes.
use Rattle.std.specs.Prelude.{◌≡◌, ◌⊎◌, ℕ, Bool, pos, true, false, List, [], ◌∷◌, ◌++◌, codes, fold, map, Option, Some, None, ⊤}
use Rattle.std.specs.Borrow.{Bor}
use Rattle.clap.specs.Lexer.{usize_max}
use Rattle.clap.specs.Words.{App, Shape, Rule, Row, Text, new_app, new_rule, with_rule, first_of}
use Rattle.clap.specs.declared.builder.ValueParser.{ValueParser}
use Rattle.clap.specs.declared.builder.ValueParser.TheVariants.{Names, Signed}
use Rattle.clap.specs.declared.builder.ValueRange.{ValueRange}
use Rattle.clap.specs.declared.builder.ArgAction.TheVariants.{Append, Set, SetTrue}

-- the subcommands that have a type and encoding rules: their names, and whether what values take may be bounded
abbrev pub orders : List (Text × Bool)
orders = (codes "show", true) ∷ (codes "check", true) ∷ (codes "encode", true) ∷ (codes "convert", true)
    ∷ (codes "newer", false) ∷ []

abbrev pub order_names : List Text
order_names = map (λ o. o.0) orders

abbrev pub rule_names : List Text
rule_names = codes "per" ∷ codes "oer" ∷ codes "uper" ∷ codes "coer" ∷ []

abbrev pub report_names : List Text
report_names = codes "summary" ∷ codes "text" ∷ codes "json" ∷ []

-- the forms of octets that are given, and of those that are written
abbrev pub given_names : List Text
given_names = codes "hex" ∷ codes "hex-block" ∷ codes "dump" ∷ codes "base64" ∷ codes "binary" ∷ []

abbrev pub written_names : List Text
written_names = codes "hex" ∷ codes "base64" ∷ codes "binary" ∷ []

-- the orders of the members of JSON
abbrev pub member_names : List Text
member_names = codes "name" ∷ codes "declared" ∷ []

-- the parser takes these names
abbrev pub TakesNames : List Text → Option ValueParser → Type 0
TakesNames words p = (names : Bor (List (Bor (List ℕ)))) × (p ≡ Some (Names names))
    × (map (λ name. name.now) names.now ≡ words)

-- one value and more
abbrev pub some_values : ValueRange
some_values = record { start_inclusive = 1; end_inclusive = usize_max }

-- an option with one value
abbrev pub option_rule : Text → Rule
option_rule name = record (new_rule name) { long = Some name; action = Some Set; value_names = 1 }

-- one that has to be given
abbrev pub needed_rule : Text → Rule
needed_rule name = record (option_rule name) { required = true }

-- one whose value is one of some names
abbrev pub names_rule : Text → Option ValueParser → Rule
names_rule name p = record (option_rule name) { parser = p }

-- one with one value and more, which are files
abbrev pub files_rule : Text → Rule
files_rule name = record (option_rule name) { range = Some some_values }

-- an option without a value
abbrev pub flag_rule : Text → Rule
flag_rule name = record (new_rule name) { long = Some name; action = Some SetTrue }

abbrev pub type_rule : Rule
type_rule = needed_rule (codes "type")

abbrev pub rules_rule : Option ValueParser → Rule
rules_rule p = record (needed_rule (codes "rules")) { parser = p }

-- the files of the published modules
abbrev pub file_rule : Rule
file_rule = record (new_rule (codes "file")) {
  required = true;
  action = Some Append;
  range = Some some_values;
  value_names = 1;
}

-- an option whose value is a number of 32 bits
abbrev pub number_rule : Text → Rule
number_rule name = record (option_rule name) { parser = Some (Signed (pos 0) (pos 4294967295)) }

-- ---- the options of the subcommands

-- a command with these options more, in their order
abbrev pub with_rules : App → List Rule → App
with_rules a rules = fold with_rule a rules

-- the options for the module, and for why something is refused
abbrev pub source_rules : List Rule
source_rules = files_rule (codes "module") ∷ flag_rule (codes "explain") ∷ []

-- those for the messages, and the form in which their octets are given
abbrev pub message_rules : Option ValueParser → List Rule
message_rules given = files_rule (codes "messages") ∷ names_rule (codes "in") given ∷ flag_rule (codes "split") ∷ []

-- those for the messages and the forms of their octets
abbrev pub form_rules : Option ValueParser → Option ValueParser → List Rule
form_rules given written = message_rules given ++ names_rule (codes "out") written ∷ []

-- those for messages of other versions of a type
abbrev pub version_rules : List Rule
version_rules = flag_rule (codes "json") ∷ flag_rule (codes "newer") ∷ []

-- those for the layout of JSON, for what is counted, and for what is not looked at
abbrev pub answer_rules : Option ValueParser → List Rule
answer_rules members = flag_rule (codes "pretty") ∷ names_rule (codes "order") members ∷ flag_rule (codes "stats")
    ∷ flag_rule (codes "accept-wider") ∷ version_rules

-- those for what the profile does not have as it is published
abbrev pub leave_rules : List Rule
leave_rules = flag_rule (codes "plain-bits") ∷ flag_rule (codes "octets") ∷ number_rule (codes "levels")
    ∷ flag_rule (codes "strict") ∷ []

-- the subcommand that flattens published modules
abbrev pub flatten_app : Option ValueParser → App
flatten_app p = with_rules (new_app (codes "flatten"))
    (file_rule ∷ names_rule (codes "report") p ∷ option_rule (codes "type") ∷ leave_rules)

abbrev pub IsFlatten : Shape → Type 0
IsFlatten s = (p : Option ValueParser) × TakesNames report_names p × (s ≡ (flatten_app p).top)

-- the subcommand of the module
abbrev pub module_shape : Shape
module_shape = (with_rules (new_app (codes "module")) (source_rules ++ leave_rules)).top

-- the subcommand that shows messages field by field, with the parsers of its options whose values are names
abbrev pub fields_app : Option ValueParser → Option ValueParser → App
fields_app p given = with_rules (new_app (codes "fields"))
    (type_rule ∷ rules_rule p ∷ source_rules ++ message_rules given ++ flag_rule (codes "html") ∷ number_rule (codes "budget") ∷ leave_rules)

abbrev pub IsFields : Shape → Type 0
IsFields s = (p given : Option ValueParser) × TakesNames rule_names p × TakesNames given_names given
    × (s ≡ (fields_app p given).top)

-- the name of a type, which may be left out
abbrev pub name_rule : Rule
name_rule = record (new_rule (codes "name")) { action = Some Set; value_names = 1 }

-- the subcommand that shows types
abbrev pub types_shape : Shape
types_shape = (with_rules (new_app (codes "types")) (name_rule ∷ source_rules ++ leave_rules)).top

-- the subcommand that gives values of a type
abbrev pub example_shape : Shape
example_shape = (with_rules (new_app (codes "example"))
    (type_rule ∷ number_rule (codes "seed") ∷ number_rule (codes "count") ∷ number_rule (codes "budget") ∷ source_rules ++ leave_rules)).top

-- the parsers of those options of an order whose values are names
pub record Parsers : Type 0 where
  pub rules : Option ValueParser
  pub given : Option ValueParser
  pub written : Option ValueParser
  pub members : Option ValueParser

abbrev pub TakeNames : Parsers → Type 0
TakeNames p = TakesNames rule_names p.rules × TakesNames given_names p.given × TakesNames written_names p.written
    × TakesNames member_names p.members

-- the options of an order, of which the first two have to be given
abbrev pub order_rules : Parsers → List Rule
order_rules p = type_rule ∷ rules_rule p.rules ∷ source_rules ++ form_rules p.given p.written ++ answer_rules p.members
    ++ leave_rules

abbrev pub order_app : Text → Parsers → App
order_app name p = with_rules (new_app name) (order_rules p)

abbrev pub IsOrderApp : Text → App → Type 0
IsOrderApp name a = (p : Parsers) × TakeNames p × (a ≡ order_app name p)

-- that for what the value of a message may take, where there is one
abbrev pub budget_rules : Bool → List Rule
budget_rules true = number_rule (codes "budget") ∷ []
budget_rules false = []

-- the subcommand of an order
abbrev pub order_shape : Text × Bool → Parsers → Shape
order_shape o p = (with_rules (order_app o.0 p) (budget_rules o.1)).top

abbrev pub IsOrder : Text × Bool → Shape → Type 0
IsOrder o s = (p : Parsers) × TakeNames p × (s ≡ order_shape o p)

abbrev pub AreOrders : List (Text × Bool) → List Shape → Type 0
AreOrders [] [] = ⊤
AreOrders (o ∷ os) (s ∷ shapes) = IsOrder o s × AreOrders os shapes
AreOrders [] (s ∷ shapes) = ⊥
AreOrders (o ∷ os) [] = ⊥

-- ---- the command

-- before it has subcommands
abbrev pub bare_tool : App
bare_tool = record {
  top = record (new_app (codes "asn_tool")).top { has_version = true; no_binary_name = true; subcommand_required = true };
  subs = [];
}

-- a command with these subcommands more, of which there is one at least
abbrev pub with_subcommands : App → List Shape → App
with_subcommands a shapes = record { top = record a.top { is_leaf = false }; subs = a.subs ++ shapes }

abbrev pub look_shapes : Option ValueParser → Option ValueParser → Option ValueParser → List Shape
look_shapes report rules given = (flatten_app report).top ∷ module_shape ∷ (fields_app rules given).top ∷ types_shape
    ∷ example_shape ∷ []

-- the second command is the first with the subcommands for modules, fields, types and values
abbrev pub HasLooks : App → App → Type 0
HasLooks a b = (report rules given : Option ValueParser) × TakesNames report_names report × TakesNames rule_names rules
    × TakesNames given_names given × (b ≡ with_subcommands a (look_shapes report rules given))

-- the second command is the first with the subcommands of the orders
abbrev pub HasOrders : App → App → Type 0
HasOrders a b = (shapes : List Shape) × AreOrders orders shapes × (b ≡ with_subcommands a shapes)

-- with its subcommands
abbrev pub tool : Option ValueParser → Option ValueParser → Option ValueParser → List Shape → App
tool report rules given shapes = record {
  top = record (new_app (codes "asn_tool")).top {
    has_version = true;
    no_binary_name = true;
    subcommand_required = true;
    is_leaf = false;
  };
  subs = (flatten_app report).top ∷ module_shape ∷ (fields_app rules given).top ∷ types_shape ∷ example_shape ∷ shapes;
}

-- the command is that of the program
abbrev pub IsTool : App → Type 0
IsTool a = (report rules given : Option ValueParser) × (shapes : List Shape) × TakesNames report_names report
    × TakesNames rule_names rules × TakesNames given_names given × AreOrders orders shapes
    × (a ≡ tool report rules given shapes)

-- ---- what it takes

abbrev pub IsOneOf : Text → List Text → Type 0
IsOneOf t [] = ⊥
IsOneOf t (x ∷ xs) = (t ≡ x) ⊎ IsOneOf t xs

-- the subcommand of an order has a type and one of the encoding rules
abbrev pub HasOptions : Text × List Row → Type 0
HasOptions found = IsOneOf found.0 order_names × ((t : Text) × (first_of (codes "type") found.1 ≡ Some t))
    × ((r : Text) × (first_of (codes "rules") found.1 ≡ Some r) × IsOneOf r rule_names)

-- the names of the subcommands that show types, messages or values
abbrev pub look_names : List Text
look_names = codes "fields" ∷ codes "types" ∷ codes "example" ∷ []

-- the subcommand, with its options, is one of the command's
abbrev pub IsTaken : Option (Text × List Row) → Type 0
IsTaken None = ⊥
IsTaken (Some found) =
    (found.0 ≡ codes "flatten") ⊎ ((found.0 ≡ codes "module") ⊎ (IsOneOf found.0 look_names ⊎ HasOptions found))
