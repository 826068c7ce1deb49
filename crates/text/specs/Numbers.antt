-- The numbers of a text, and why a text is refused. Assumes nothing.
use Rattle.std.specs.Prelude.{ℕ, ◌+◌, ◌-◌, ◌*◌, ◌^◌, min, Bool, true, false, List, [], ◌∷◌, ◌++◌, length, drop, ℤ, pos, negsuc, neg_ℤ, Some, None, Ok, Err, Option, Result, ◌==◌, nat_lt, slice_index}
use Rattle.std.specs.List.{slice_get}
use Rattle.std.specs.Option.{option_map}
use Rattle.std.specs.Char.{is_ascii_digit}
use Rattle.text.specs.declared.refusal.Position.{Position}
use Rattle.text.specs.declared.refusal.Reason.{Reason}
use Rattle.text.specs.declared.refusal.Reason.TheVariants.{NotANumber, TooLarge, TooMany}
use Rattle.text.specs.declared.refusal.Refusal.{Refusal}
use Rattle.text.specs.Words.{Word, words_of, position_of}

-- the number that the digits of n and then these bytes write; none if a byte is no digit
abbrev pub digits_on : ℕ → List ℕ → Option ℕ
digits_on n [] = Some n
digits_on n (b ∷ bs) = elim (is_ascii_digit b) [ true ↦ digits_on (n * 10 + (b - 48)) bs | false ↦ None ]

-- one digit or more
abbrev pub natural_of : List ℕ → Option ℕ
natural_of [] = None
natural_of (b ∷ bs) = digits_on 0 (b ∷ bs)

-- a minus, 45, may stand in front
abbrev pub minus : List ℕ → Bool
minus bytes = slice_index bytes 0 == 45

abbrev pub integer_of : List ℕ → Option ℤ
integer_of bytes =
    elim (minus bytes) [ true ↦ option_map (λ n. neg_ℤ (pos n)) (natural_of (drop 1 bytes)) | false ↦ option_map pos (natural_of bytes) ]

-- from -2^63 to 2^63 - 1; `negsuc n` is -(n + 1)
abbrev pub in64 : ℤ → Bool
in64 (pos n) = nat_lt n (2 ^ 63)
in64 (negsuc n) = nat_lt n (2 ^ 63)

-- the number of a word, or why it has none
abbrev pub fit : ℤ → Result ℤ Reason
fit z = elim (in64 z) [ true ↦ Ok z | false ↦ Err TooLarge ]

abbrev pub valued : Option ℤ → Result ℤ Reason
valued None = Err NotANumber
valued (Some z) = fit z

abbrev pub number_of : List ℕ → Result ℤ Reason
number_of bytes = valued (integer_of bytes)

-- the code holds a number of 64 bits or more as 2^64 - 1, which is too large as well
abbrev pub capped : ℕ → ℕ
capped n = min n (2 ^ 64 - 1)

abbrev pub refused : List ℕ → ℕ → Reason → Refusal
refused text place reason = record { «at» = position_of text place; reason = reason }

-- the numbers so far and those of the words, if there is room for them; else the first refusal
abbrev pub taken : List ℕ → ℕ → List ℤ → List Word → Result (List ℤ) Refusal
taken text room sofar [] = Ok sofar
taken text room sofar (w ∷ ws) =
    elim (number_of w.bytes) [
      | Err reason ↦ Err (refused text w.start reason)
      | Ok z ↦ elim (nat_lt (length sofar) room) [
        | true ↦ taken text room (sofar ++ z ∷ []) ws
        | false ↦ Err (refused text w.start (TooMany room))
      ]
    ]

-- what a text holds for a room of so many numbers
abbrev pub reading : ℕ → List ℕ → Result (List ℤ) Refusal
reading room text = taken text room [] (words_of text)

-- where the word of an index begins
abbrev pub placed : List ℕ → ℕ → Option Position
placed text index = option_map (λ w. position_of text w.start) (slice_get (words_of text) index)

-- the numbers of a text, whatever the room; none where some word is no number
abbrev pub put : Result ℤ Reason → Option (List ℤ) → Option (List ℤ)
put (Ok z) rest = option_map (λ zs. z ∷ zs) rest
put (Err reason) rest = None

abbrev pub values : List Word → Option (List ℤ)
values [] = Some []
values (w ∷ ws) = put (number_of w.bytes) (values ws)

abbrev pub numbers_of : List ℕ → Option (List ℤ)
numbers_of text = values (words_of text)
