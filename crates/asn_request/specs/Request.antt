-- What words ask for, as clap states what it finds in them.
use Rattle.std.specs.Prelude.{◌≡◌, ◌≢◌, ◌<◌, ◌^◌, ℕ, Bool, true, false, List, [], codes, map, option_map, Option, Some, None, unwrap_or, if◌then◌else◌, string_bytes, ⊤}
use Rattle.std.specs.Borrow.{Bor}
use Rattle.std.specs.Option.{is_some, option_map_or}
use Rattle.std.specs.Str.{bytes_eq}
use Rattle.std.specs.Str.Parse.{IsNumeral, digits_value, without_leading_plus}
use Rattle.clap.specs.Words.{Row, Text, all_of, first_of, one_of, subcommand_of, kind_of, fault_of, IsAmong}
use Rattle.clap.specs.declared.error.Error.{Error}
use Rattle.clap.specs.declared.error.ErrorKind.{ErrorKind}
use Rattle.clap.specs.declared.error.ErrorKind.TheVariants as kind
use Rattle.asn_jobs.specs.declared.job.Job.{Job}
use Rattle.asn_jobs.specs.declared.job.Job.TheVariants as job
use Rattle.asn_jobs.specs.declared.job.Order.{Order}
use Rattle.asn_jobs.specs.declared.job.Order.TheVariants as order
use Rattle.asn_jobs.specs.declared.job.RuleName.{RuleName}
use Rattle.asn_jobs.specs.declared.job.RuleName.TheVariants as rules
use Rattle.asn_json_layout.specs.declared.layout.Layout.{Layout}
use Rattle.asn_jobs.specs.declared.texts.OctetForm.{OctetForm}
use Rattle.asn_jobs.specs.declared.texts.OctetForm.TheVariants as octets
use Rattle.asn_published_text.specs.declared.options.Options.{Options}
use Rattle.asn_request.specs.declared.asking.Asking.{Asking}
use Rattle.asn_request.specs.declared.asking.Forms.{Forms}
use Rattle.asn_request.specs.declared.asking.Versions.{Versions}
use Rattle.asn_request.specs.declared.request.Form.{Form}
use Rattle.asn_request.specs.declared.request.Form.TheVariants as form
use Rattle.asn_request.specs.declared.request.LineFault.{LineFault}
use Rattle.asn_request.specs.declared.look.Look.{Look}
use Rattle.asn_request.specs.declared.look.Looking.{Looking}
use Rattle.asn_request.specs.declared.look.Looking.TheVariants as looking
use Rattle.asn_request.specs.declared.request.LineFault.TheVariants as line
use Rattle.asn_request.specs.declared.request.Request.{Request}
use Rattle.asn_request.specs.declared.request.Request.TheVariants as request
use Rattle.asn_request.specs.Command.{IsTool}

-- ---- the job

abbrev pub order_name : Order → Text
order_name order.Show = codes "show"
order_name order.Check = codes "check"
order_name order.Encode = codes "encode"
order_name order.Convert = codes "convert"
order_name order.Newer = codes "newer"

-- the encoding rules of a name: the canonical forms have names of their own, and are the only ones here
abbrev pub rules_of : Text → RuleName
rules_of name = if bytes_eq name (codes "oer") then rules.Oer
    else (if bytes_eq name (codes "coer") then rules.Oer else rules.Per)

-- the job of a subcommand, by its name, and of the values of its options
abbrev pub IsJobOf : Text × List Row → Job → Type 0
IsJobOf found job.Module = found.0 ≡ codes "module"
IsJobOf found (job.Lines o type_name r) = (found.0 ≡ order_name o)
    × (first_of (codes "type") found.1 ≡ Some (string_bytes type_name))
    × (option_map rules_of (first_of (codes "rules") found.1) ≡ Some r)

-- ---- files and options

abbrev pub texts_of : List (Bor Text) → List Text
texts_of = map (λ t. t.now)

-- the values of an argument, none where it was not used
abbrev pub files_of : Text → List Row → List Text
files_of id rows = unwrap_or (all_of id rows) []

-- whether a flag was given: what clap reads of it is `true` then, and else `false` or nothing
abbrev pub IsFlag : Text → List Row → Bool → Type 0
IsFlag id rows given = (one_of id rows ≡ Some (codes "true") → given ≡ true)
    × (one_of id rows ≡ Some (codes "false") → given ≡ false) × (one_of id rows ≡ None → given ≡ false)

-- the text is a decimal number of 32 bits
abbrev pub IsNumber : Text → Type 0
IsNumber t = IsNumeral 10 (without_leading_plus t) × (digits_value 10 (without_leading_plus t) < 2 ^ 32)

-- the number that a text is, if it is one
abbrev pub Reads : Text → Option ℕ → Type 0
Reads t (Some n) = IsNumber t × (n ≡ digits_value 10 (without_leading_plus t))
Reads t None = IsNumber t → ⊥

-- the number that is given as the value of an option, if one is given
abbrev pub IsNumberOf : Text → List Row → Option ℕ → Type 0
IsNumberOf id rows read = (one_of id rows ≡ None → read ≡ None) × ((t : Text) → one_of id rows ≡ Some t → Reads t read)

-- the number that is given as the levels, 0 where there is none
abbrev pub AreLevels : List Row → ℕ → Type 0
AreLevels rows n = (read : Option ℕ) × (n ≡ unwrap_or read 0) × IsNumberOf (codes "levels") rows read

abbrev pub AreOptions : List Row → Options → Type 0
AreOptions rows o = IsFlag (codes "plain-bits") rows o.plain_bits × IsFlag (codes "octets") rows o.octets
    × AreLevels rows o.levels × IsFlag (codes "strict") rows o.strict

-- the form of a name, and the one that is given: a summary where another is named, or none
abbrev pub form_of : Text → Form
form_of name = if bytes_eq name (codes "text") then form.Text
    else (if bytes_eq name (codes "json") then form.Json else form.Summary)

abbrev pub form_in : List Row → Form
form_in rows = option_map_or form_of (first_of (codes "report") rows) form.Summary

-- ---- the messages

-- the form of octets of a name, and the one that an option names
abbrev pub octet_form_of : Text → OctetForm
octet_form_of name = if bytes_eq name (codes "hex-block") then octets.HexBlock
    else (if bytes_eq name (codes "dump") then octets.Dump
    else (if bytes_eq name (codes "base64") then octets.Base64
    else (if bytes_eq name (codes "binary") then octets.Binary else octets.Hex)))

abbrev pub octet_form_in : Text → List Row → Option OctetForm
octet_form_in id rows = option_map octet_form_of (first_of id rows)

abbrev pub AreForms : List Row → Forms → Type 0
AreForms rows f = (f.given ≡ octet_form_in (codes "in") rows) × (f.written ≡ octet_form_in (codes "out") rows)
    × IsFlag (codes "split") rows f.is_split

-- whether members are to stand in the order of the type
abbrev pub is_declared : Text → Bool
is_declared name = bytes_eq name (codes "declared")

abbrev pub is_declared_in : List Row → Bool
is_declared_in rows = option_map_or is_declared (first_of (codes "order") rows) false

-- whether an order of members is named, whichever it is
abbrev pub is_order_named_in : List Row → Bool
is_order_named_in rows = is_some (first_of (codes "order") rows)

abbrev pub IsLayout : List Row → Layout → Type 0
IsLayout rows l = (l.is_declared ≡ is_declared_in rows) × IsFlag (codes "pretty") rows l.is_pretty

-- what is asked for of messages of other versions
abbrev pub AreVersions : List Row → Versions → Type 0
AreVersions rows v = IsFlag (codes "json") rows v.is_json × IsFlag (codes "newer") rows v.is_taken_back

-- what the options ask for of the messages
abbrev pub IsAsking : List Row → Asking → Type 0
IsAsking rows a = IsFlag (codes "explain") rows a.is_explained
    × (texts_of a.messages.items ≡ files_of (codes "messages") rows) × AreForms rows a.forms × IsLayout rows a.layout
    × (a.is_order_named ≡ is_order_named_in rows) × AreVersions rows a.versions
    × IsFlag (codes "stats") rows a.is_counted × IsNumberOf (codes "budget") rows a.budget
    × IsFlag (codes "accept-wider") rows a.is_wider_taken

-- ---- what is looked at

-- the subcommand, and the id of the name of the type
abbrev pub look_name : Looking → Text
look_name looking.Fields = codes "fields"
look_name looking.Types = codes "types"
look_name looking.Example = codes "example"

abbrev pub name_id : Looking → Text
name_id looking.Types = codes "name"
name_id _ = codes "type"

-- the encoding rules that are given: PER if there are none
abbrev pub rules_in : List Row → RuleName
rules_in rows = option_map_or rules_of (first_of (codes "rules") rows) rules.Per

-- what the options ask for of it
abbrev pub IsLook : List Row → Look → Type 0
IsLook rows l = (option_map string_bytes l.type_name ≡ first_of (name_id l.what) rows) × (l.rules ≡ rules_in rows)
    × IsFlag (codes "html") rows l.is_page × IsNumberOf (codes "seed") rows l.seed
    × IsNumberOf (codes "count") rows l.count

-- ---- the request

-- what a subcommand asks for, by its name, and the values of its arguments
abbrev pub IsRequestOf : Text × List Row → Request → Type 0
IsRequestOf found (request.Flatten files type_name options f) = (found.0 ≡ codes "flatten")
    × (texts_of files.items ≡ files_of (codes "file") found.1)
    × (option_map string_bytes type_name ≡ first_of (codes "type") found.1) × AreOptions found.1 options
    × (f ≡ form_in found.1)
IsRequestOf found (request.Run j files options asking) = IsJobOf found j
    × (texts_of files.items ≡ files_of (codes "module") found.1) × AreOptions found.1 options × IsAsking found.1 asking
IsRequestOf found (request.Look l files options asking) = (found.0 ≡ look_name l.what) × IsLook found.1 l
    × (texts_of files.items ≡ files_of (codes "module") found.1) × AreOptions found.1 options × IsAsking found.1 asking

abbrev pub HasRequest : Option (Text × List Row) → Request → Type 0
HasRequest None r = ⊥
HasRequest (Some found) r = IsRequestOf found r

-- clap tells no fault of the words, and what is asked for is that of the subcommand that it finds
abbrev pub Asks : List Text → Request → Type 0
Asks words r = (a : _) × IsTool a × (fault_of a words ≡ []) × HasRequest (subcommand_of a words) r

-- clap refuses the words by this error, or answers them with help or the version
abbrev pub IsRefused : List Text → Error → Type 0
IsRefused words e = (kind_of e ≢ kind.OutOfMemory) × ((a : _) × IsTool a × IsAmong (kind_of e) (fault_of a words))

abbrev pub Told : List Text → LineFault → Type 0
Told words (line.Line e) = IsRefused words e
Told words line.Memory = ⊤

abbrev pub of_kind : ErrorKind → Error → LineFault
of_kind kind.OutOfMemory e = line.Memory
of_kind _ e = line.Line e

-- the fault of an error of clap
abbrev pub fault_by : Error → LineFault
fault_by e = of_kind (kind_of e) e
