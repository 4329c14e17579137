-- The modules of published texts.
use Rattle.std.specs.Prelude.{ℕ, List, ◌<◌, option_and_then, option_map, slice_get, unwrap_or}
use Rattle.std.specs.List.{All}
use Rattle.asn_published_text.specs.declared.modules.Assignment.{Assignment}
use Rattle.asn_published_text.specs.declared.modules.ModuleText.{ModuleText}

-- each of the modules stands in one of so many texts, counted from 0
abbrev pub StandIn : ℕ → List ModuleText → Type 0
StandIn texts modules = All (λ it. it.file < texts) modules

-- the text of an assignment, counted from 0, is that of its module; 0 where there is no such assignment
abbrev pub text_of : List Assignment → List ModuleText → ℕ → ℕ
text_of assignments modules index =
    unwrap_or (option_and_then (λ it. option_map (λ text. text.file) (slice_get modules it.«module»))
    (slice_get assignments index)) 0
