-- What a line of numbers is, and what `read` promises. Assumes nothing.
use Rattle.std.specs.Prelude.{◌≡◌, ℕ, ◌≤◌, true, List, [], ◌∷◌, ◌++◌, length, take, drop, ℤ, Some, Ok, Err, Result}
use Rattle.std.specs.Option.{option_map}
use Rattle.std.specs.Fmt.{signed_decimal}
use Rattle.std.specs.List.{AllByRecursion}
use Rattle.text.specs.declared.refusal.Refusal.{Refusal}
use Rattle.text.specs.Numbers.{in64, reading, numbers_of}
use Rattle.text.specs.Words.{feeds}

-- a space, 32, before each number, and a line feed, 10, at the end
abbrev pub spaced : List ℤ → List ℕ
spaced [] = 10 ∷ []
spaced (z ∷ zs) = 32 ∷ (signed_decimal z ++ spaced zs)

-- the numbers with a space between, and a line feed
abbrev pub line_of : List ℤ → List ℕ
line_of [] = 10 ∷ []
line_of (z ∷ zs) = signed_decimal z ++ spaced zs

abbrev pub Fit : List ℤ → Type 0
Fit zs = AllByRecursion (λ z. in64 z ≡ true) zs

-- what holds of the meaning of texts
pub record Parts : Type 0 where
  -- a line is read back
  pub reads_back : (room : ℕ) (zs : List ℤ) → Fit zs → length zs ≤ room → reading room (line_of zs) ≡ Ok zs
  -- a line and then a text have the line's numbers and then the text's
  pub after_line : (zs : List ℤ) (text : List ℕ) → Fit zs → numbers_of (line_of zs ++ text) ≡ option_map (λ ys. zs ++ ys) (numbers_of text)
  -- a line that is a comment has none
  pub after_comment : (bytes text : List ℕ) → feeds bytes ≡ 0 → numbers_of (35 ∷ (bytes ++ 10 ∷ text)) ≡ numbers_of text
  -- what is read of a text are its numbers, if there is room for them
  pub enough : (room : ℕ) (text : List ℕ) (zs : List ℤ) → numbers_of text ≡ Some zs → length zs ≤ room → reading room text ≡ Ok zs
  pub just : (room : ℕ) (text : List ℕ) (zs : List ℤ) → reading room text ≡ Ok zs → (numbers_of text ≡ Some zs) × (length zs ≤ room)

-- `count` numbers zs were put in front, and the rest is as it was
pub record Filled (zs before after : List ℤ) (count : ℕ) : Type 0 where
  pub many : count ≡ length zs
  pub front : take count after ≡ zs
  pub rest : drop count after ≡ drop count before

abbrev pub Answers : Result (List ℤ) Refusal → List ℤ → List ℤ → Result ℕ Refusal → Type 0
Answers (Ok zs) before after (Ok count) = Filled zs before after count
Answers (Ok zs) before after (Err refusal) = ⊥
Answers (Err wanted) before after (Ok count) = ⊥
Answers (Err wanted) before after (Err refusal) = refusal ≡ wanted

-- the answer of `read`; where it refuses, nothing is said of what the slice holds
pub record ReadPost (text : List ℕ) (before after : List ℤ) (r : Result ℕ Refusal) : Type 0 where
  pub answers : Answers (reading (length before) text) before after r
  pub parts : Parts
