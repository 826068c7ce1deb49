-- Digits, and numbers that 64 bits cap. Assumes nothing.
use Rattle.std.proofs.Common.{◌≡◌, ℕ, ◌+◌, ◌-◌, ◌*◌, ◌^◌, ◌<◌, min, Bool, true, false, List, [], ◌∷◌, length, get_or, drop, Some, sym, refl, ap, ◌∙◌, arith}
use Rattle.std.specs.Option.{option_map}
use Rattle.std.specs.Char.{is_ascii_digit}
use Rattle.std.proofs.lemmas.List.{at_drop_more}
use Rattle.text.specs.Numbers.{capped, digits_on}

capped_more : (m n d : ℕ) → capped m ≡ capped n → capped (m * 10 + d) ≡ capped (n * 10 + d)
capped_more m n d e = omega arith

-- to cap on the way changes nothing
capped-on : (m n : ℕ) (bs : List ℕ) → capped m ≡ capped n → option_map capped (digits_on m bs) ≡ option_map capped (digits_on n bs)
capped-on m n [] e = ap Some e
capped-on m n (b ∷ bs) e =
    go (is_ascii_digit b) refl (capped-on (m * 10 + (b - 48)) (n * 10 + (b - 48)) bs (capped_more m n (b - 48) e))
  where
    go : (t : Bool) → is_ascii_digit b ≡ t → option_map capped (digits_on (m * 10 + (b - 48)) bs) ≡ option_map capped (digits_on (n * 10 + (b - 48)) bs) → option_map capped (digits_on m (b ∷ bs)) ≡ option_map capped (digits_on n (b ∷ bs))
    go true h same = rw (h, digits_on) same
    go false h same = rw (h, digits_on)

-- a digit more
pub digit_more : (bs : List ℕ) (i m n : ℕ) → i < length bs → is_ascii_digit (get_or bs i 0) ≡ true → n ≡ min (min (m * 10) (2 ^ 64 - 1) + (get_or bs i 0 - 48)) (2 ^ 64 - 1) → option_map capped (digits_on n (drop (i + 1) bs)) ≡ option_map capped (digits_on m (drop i bs))
digit_more bs i m n h d e =
    capped-on n (m * 10 + (get_or bs i 0 - 48)) (drop (i + 1) bs) (omega arith) ∙ sym (at_drop_more (λ l. option_map capped (digits_on m l)) bs i 0 h ∙ rw (d, digits_on))
