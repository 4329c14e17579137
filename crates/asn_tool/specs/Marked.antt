-- Answers to lines of a type of which a part is not looked at, or whose recursion ends.
use Rattle.std.specs.Prelude.{◌==◌, ◌++◌, ℕ, List, [], codes, Option, None, Some, if◌then◌else◌, option_map, string_bytes}
use Rattle.std.specs.Fmt.{decimal}
use Rattle.asn_jobs.specs.declared.job.Order.{Order}
use Rattle.asn_jobs.specs.declared.job.Order.TheVariants as order
use Rattle.asn_published.specs.declared.marks.Looked.{Looked}
use Rattle.asn_published.specs.declared.marks.Place.{Place}
use Rattle.asn_published.specs.Told.{said_words}

-- how many other parts there are, where there are some
abbrev pub more_words : ℕ → List ℕ
more_words n = if n == 0 then [] else codes ", and " ++ (decimal n ++ codes " more")

-- what is said of a part that is not looked at, and of so many others
abbrev pub place_words : Place → ℕ → List ℕ
place_words p n = codes "not looked at: "
    ++ (string_bytes p.path ++ (codes " (" ++ (said_words p.said ++ (codes ")" ++ more_words n))))

-- what is said of a value, if something is
abbrev pub unlooked_words : Looked → Option (List ℕ)
unlooked_words l = option_map (λ p. place_words p l.others) l.first

-- what stands behind an answer of which this is said
abbrev pub words_behind : Option (List ℕ) → List ℕ
words_behind None = []
words_behind (Some words) = codes ", " ++ words

-- the answer to a message of which this is not looked at, the plain answer being the text: only that of `check` says so
abbrev pub answer_beside : Order → List ℕ → Option (List ℕ) → List ℕ
answer_beside order.Check text words = text ++ words_behind words
answer_beside order.Show text words = text
answer_beside order.Encode text words = text
answer_beside order.Convert text words = text
answer_beside order.Newer text words = text

-- the refusal of a value that goes on where recursion ends
abbrev pub deeper_text : ℕ → List ℕ
deeper_text n = codes "! deeper than " ++ (decimal n ++ codes " levels")
