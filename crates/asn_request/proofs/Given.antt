-- What clap's getters give, as the rows of the matches have it.
use Rattle.std.proofs.Common.{◌≡◌, ◌∙◌, ap, refl, ℕ, true, false, Bool, List, [], codes, Option, Some, None}
use Rattle.std.specs.Prelude.{Result, Ok, Err, option_map, unwrap_or}
use Rattle.std.specs.Borrow.{Bor}
use Rattle.std.specs.Option.{is_some, option_map_or}
use Rattle.std.specs.Str.Parse.{ParsesUnsigned}
use Rattle.clap.specs.Words.{ReadsOne, Row, Text, all_of, first_of, found_of, one_text, rows_of}
use Rattle.clap.specs.declared.parser.matches.Found.{Found}
use Rattle.clap.proofs.WalkLemmas.{one_text-rows}
use Rattle.asn_jobs.specs.declared.texts.OctetForm.{OctetForm}
use Rattle.asn_request.specs.declared.request.Form.{Form}
use Rattle.asn_request.specs.declared.request.Form.TheVariants as form
use Rattle.asn_request.specs.Request.{AreLevels, IsFlag, IsNumberOf, Reads, files_of, form_in, form_of, is_declared, is_declared_in, octet_form_in, octet_form_of}

-- the values of an argument, and none
pub some_files : (id : Text) (rows : List Row) (values : List Text) → Some values ≡ all_of id rows → values ≡ files_of id rows
some_files id rows values e = ap (λ o. unwrap_or o []) e

pub no_files : (id : Text) (rows : List Row) → None ≡ all_of id rows → [] ≡ files_of id rows
no_files id rows e = ap (λ o. unwrap_or o []) e

pub flag : (f : Found) (id : Text) (b : Bool) → (one_text f id ≡ None → b ≡ false) → (one_text f id ≡ Some (codes "true") → b ≡ true)
    → (one_text f id ≡ Some (codes "false") → b ≡ false) → IsFlag id (rows_of f) b
flag f id b none is_true is_false = ((λ e. is_true (one_text-rows f id ∙ e)), (λ e. is_false (one_text-rows f id ∙ e)), (λ e. none (one_text-rows f id ∙ e)))

number : {E : Type 0} (gives : List ℕ → Result ℕ E → Type 0) → ((bs : List ℕ) (r : Result ℕ E) → gives bs r → ParsesUnsigned 32 10 bs r)
    → (t : Text) (read : Option ℕ) → ReadsOne gives t read → Reads t read
number gives parses t (Some n) g = parses t (Ok n) g
number gives parses t None g = parses t (Err g.0) g.1

pub number_of : {E : Type 0} (gives : List ℕ → Result ℕ E → Type 0) → ((bs : List ℕ) (r : Result ℕ E) → gives bs r → ParsesUnsigned 32 10 bs r)
    → (f : Found) (id : Text) (read : Option ℕ) → (one_text f id ≡ None → read ≡ None)
    → ((t : Text) → one_text f id ≡ Some t → ReadsOne gives t read) → IsNumberOf id (rows_of f) read
number_of gives parses f id read none some = ((λ e. none (one_text-rows f id ∙ e)), λ t e. number gives parses t read (some t (one_text-rows f id ∙ e)))

pub levels : (rows : List Row) (read : Option ℕ) → IsNumberOf (codes "levels") rows read → AreLevels rows (unwrap_or read 0)
levels rows read is = (read, refl, is)

pub some_form : (rows : List Row) (name : Text) (f : Form) → Some name ≡ first_of (codes "report") rows → f ≡ form_of name → f ≡ form_in rows
some_form rows name f e is = is ∙ ap (λ o. option_map_or form_of o form.Summary) e

pub no_form : (rows : List Row) → None ≡ first_of (codes "report") rows → form.Summary ≡ form_in rows
no_form rows e = ap (λ o. option_map_or form_of o form.Summary) e

pub some_octets : (id : Text) (rows : List Row) (name : Text) (f : OctetForm) → Some name ≡ first_of id rows → f ≡ octet_form_of name → Some f ≡ octet_form_in id rows
some_octets id rows name f e is = ap Some is ∙ ap (option_map octet_form_of) e

pub no_octets : (id : Text) (rows : List Row) → None ≡ first_of id rows → None ≡ octet_form_in id rows
no_octets id rows e = ap (option_map octet_form_of) e

pub some_order : (rows : List Row) (name : Text) (b : Bool) → Some name ≡ first_of (codes "order") rows → b ≡ is_declared name → b ≡ is_declared_in rows
some_order rows name b e is = is ∙ ap (λ o. option_map_or is_declared o false) e

pub no_order : (rows : List Row) → None ≡ first_of (codes "order") rows → false ≡ is_declared_in rows
no_order rows e = ap (λ o. option_map_or is_declared o false) e

-- whether there is a value
pub is_named : (o : Option (Bor Text)) (first : Option Text) → option_map (λ s. s.now) o ≡ first → is_some o ≡ is_some first
is_named (Some s) first e = ap is_some e
is_named None first e = ap is_some e
