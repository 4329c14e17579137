-- Words of hexadecimal dumps: what is between blanks, numbers, and the text column.
use Rattle.std.specs.Prelude.{◌==◌, ◌||◌, ◌&&◌, ◌+◌, ◌*◌, ◌-◌, ℕ, Bool, true, false, List, [], ◌∷◌, length, take, drop, nat_lt, if◌then◌else◌, Option, Some, None, unwrap_or}
use Rattle.std.specs.Io.BufRead.{ends_with_byte}
use Rattle.std.specs.List.{before_first, list_all, position_or_len}
use Rattle.hex.specs.Hex.{hex_digit_value, is_hex_digit}
use Rattle.asn_jobs.specs.Texts.{is_blank}

-- ---- blanks and words

-- without the blanks in front
abbrev pub unblanked : List ℕ → List ℕ
unblanked [] = []
unblanked (x ∷ xs) = if is_blank x then unblanked xs else x ∷ xs

-- no more than blanks
abbrev pub are_blanks : List ℕ → Bool
are_blanks text = list_all is_blank text

-- a text that begins with a word: the word, and what follows it
abbrev pub word_before : List ℕ → List ℕ
word_before text = before_first is_blank text

abbrev pub rest_after : List ℕ → List ℕ
rest_after text = drop (position_or_len is_blank text) text

-- the first word of a line, and what follows it
abbrev pub first_word : List ℕ → List ℕ
first_word line = word_before (unblanked line)

abbrev pub after_word : List ℕ → List ℕ
after_word line = rest_after (unblanked line)

abbrev pub begins_with_blank : List ℕ → Bool
begins_with_blank [] = false
begins_with_blank (x ∷ xs) = is_blank x

-- without this octet at the end, if it is there
abbrev pub without_end : ℕ → List ℕ → Option (List ℕ)
without_end end text = if ends_with_byte end text then Some (take (length text - 1) text) else None

-- ---- offsets

-- an offset is less than this: 2^44
abbrev pub offset_limit : ℕ
offset_limit = 17592186044416

-- the number of these hexadecimal digits, of which n are those in front
abbrev pub number : ℕ → List ℕ → Option ℕ
number n [] = Some n
number n (d ∷ ds) =
    if is_hex_digit d && nat_lt n offset_limit then number (n * 16 + unwrap_or (hex_digit_value d) 0) ds else None

-- an offset: 4 to 16 hexadecimal digits
abbrev pub offset_of : List ℕ → Option ℕ
offset_of word = if nat_lt 3 (length word) && nat_lt (length word) 17 then number 0 word else None

-- ---- the text column

-- the text is that of the octets: each character is the octet, or a FULL STOP
abbrev pub is_text : List ℕ → List ℕ → Bool
is_text [] [] = true
is_text (x ∷ xs) (c ∷ cs) = ((c == x) || (c == 46)) && is_text xs cs
is_text [] (c ∷ cs) = false
is_text (x ∷ xs) [] = false

-- what is before the last n octets, and these
abbrev pub before_last : ℕ → List ℕ → List ℕ
before_last n xs = take (length xs - n) xs

abbrev pub last_ones : ℕ → List ℕ → List ℕ
last_ones n xs = drop (length xs - n) xs

-- blanks, and the text of the octets
abbrev pub is_bare_column : List ℕ → List ℕ → Bool
is_bare_column octets rest = nat_lt (length octets) (length rest)
    && (are_blanks (before_last (length octets) rest) && is_text octets (last_ones (length octets) rest))

-- a fact of what an option holds
abbrev pub holds_of : Option (List ℕ) → (List ℕ → Bool) → Bool
holds_of None p = false
holds_of (Some xs) p = p xs

-- blanks, and the text of the octets between two characters
abbrev pub is_quoted_column : ℕ → ℕ → List ℕ → List ℕ → Bool
is_quoted_column left right octets rest = holds_of (without_end right rest) (λ inner.
    nat_lt (length octets) (length inner)
    && (holds_of (without_end left (before_last (length octets) inner)) are_blanks
    && is_text octets (last_ones (length octets) inner)))

-- the text column of the octets before it: VERTICAL LINEs are round it in hexdump -C, and > and < in od -tx1z
abbrev pub is_column : List ℕ → List ℕ → Bool
is_column octets rest = is_bare_column octets rest
    || (is_quoted_column 124 124 octets rest || is_quoted_column 62 60 octets rest)
