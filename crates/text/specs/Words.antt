-- The words of a text, and where each begins. A text is a list of bytes. Assumes nothing.
use Rattle.std.specs.Prelude.{ℕ, suc, ◌+◌, Bool, true, false, not, ◌&&◌, ◌||◌, List, [], ◌∷◌, ◌++◌, take, ◌==◌, nat_le}
use Rattle.text.specs.declared.refusal.Position.{Position}

-- white space, which is a space, 32, and 9 to 13 (tab, line feed, vertical tab, form feed, carriage return); or `#`, 35
abbrev pub separator : ℕ → Bool
separator b = (b == 32 || (nat_le 9 b && nat_le b 13)) || b == 35

-- `start` is how many bytes of the text stand before the word
pub record Word : Type 0 where
  pub start : ℕ
  pub bytes : List ℕ

-- between words; in a comment; in a word that began at a place, with its bytes so far
pub data State : Type 0 where
  between : State
  comment : State
  inside : ℕ → List ℕ → State

-- in a comment or not, and in no word
abbrev pub gap : Bool → State
gap true = comment
gap false = between

-- the words of the bytes from a place on: `#` ends a word and begins a comment, which a line feed, 10, ends
abbrev pub scan : State → ℕ → List ℕ → List Word
scan between place [] = []
scan comment place [] = []
scan (inside start bytes) place [] = record { start = start; bytes = bytes } ∷ []
scan between place (b ∷ bs) =
    elim (separator b) [ true ↦ scan (gap (b == 35)) (suc place) bs | false ↦ scan (inside place (b ∷ [])) (suc place) bs ]
scan comment place (b ∷ bs) = scan (gap (not (b == 10))) (suc place) bs
scan (inside start bytes) place (b ∷ bs) =
    elim (separator b) [
      | true ↦ record { start = start; bytes = bytes } ∷ scan (gap (b == 35)) (suc place) bs
      | false ↦ scan (inside start (bytes ++ b ∷ [])) (suc place) bs
    ]

abbrev pub words_of : List ℕ → List Word
words_of text = scan between 0 text

-- how many line feeds there are
abbrev pub feeds : List ℕ → ℕ
feeds [] = 0
feeds (b ∷ bs) = elim (b == 10) [ true ↦ suc (feeds bs) | false ↦ feeds bs ]

-- how many bytes follow the last line feed; n bytes went before these
abbrev pub since : ℕ → List ℕ → ℕ
since n [] = n
since n (b ∷ bs) = elim (b == 10) [ true ↦ since 0 bs | false ↦ since (suc n) bs ]

-- the line and the column, from 1, of a place in a text; a column counts bytes
abbrev pub position_of : List ℕ → ℕ → Position
position_of text place = record { line = 1 + feeds (take place text); column = 1 + since 0 (take place text) }
