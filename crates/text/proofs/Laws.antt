-- The numbers of texts that are made of lines. Assumes nothing.
use Rattle.std.proofs.Common.{◌≡◌, ℕ, suc, ◌+◌, ◌-◌, ◌*◌, ◌/◌, ◌%◌, ◌^◌, ◌<◌, ◌≤◌, Bool, true, false, not, eqb, ◌⊎◌, List, [], ◌∷◌, ◌++◌, length, ℤ, pos, negsuc, Some, None, Ok, Err, decimal, Option, Result, sym, refl, ap, ◌∙◌, inl, inr, append_assoc, append-nil, arith}
use Rattle.std.specs.Option.{option_map}
use Rattle.std.specs.Char.{is_ascii_digit}
use Rattle.std.specs.Fmt.{signed_decimal}
use Rattle.std.specs.List.{AllByRecursion}
use Rattle.std.proofs.lemmas.Fmt.{decimal_by_steps}
use Rattle.std.proofs.lemmas.List.{length_push}
use Rattle.std.proofs.lemmas.Bool.{ltb-true, cases_lt}
use Rattle.std.proofs.lemmas.Bool.Decides.{nat_tests}
use Rattle.text.specs.declared.refusal.Reason.{Reason}
use Rattle.text.specs.Lines.{Fit, Parts, line_of, spaced}
use Rattle.text.specs.Numbers.{digits_on, natural_of, integer_of, minus, in64, fit, number_of, put, values, numbers_of, taken, reading}
use Rattle.text.specs.Words.{Word, State, between, comment, inside, gap, separator, scan, words_of, feeds}
use Rattle.text.proofs.Progress.{taken_more, taken_full, taken_bad}

-- where a text stands does not matter

abbrev moved : ℕ → State → State
moved k between = between
moved k comment = comment
moved k (inside start bytes) = inside k bytes

gapped : (t : Bool) (bs : List ℕ) (k i j : ℕ) → ((s : State) → values (scan (moved k s) j bs) ≡ values (scan s i bs)) → values (scan (gap t) j bs) ≡ values (scan (gap t) i bs)
gapped true bs k i j same = same comment
gapped false bs k i j same = same between

same_values : (bs : List ℕ) (k i j : ℕ) (s : State) → values (scan (moved k s) j bs) ≡ values (scan s i bs)
same_values [] k i j between = refl
same_values [] k i j comment = refl
same_values [] k i j (inside start bytes) = refl
same_values (b ∷ bs) k i j between = go (separator b) refl (λ s. same_values bs j (suc i) (suc j) s)
  where
    go : (t : Bool) → separator b ≡ t → ((s : State) → values (scan (moved j s) (suc j) bs) ≡ values (scan s (suc i) bs)) → values (scan between j (b ∷ bs)) ≡ values (scan between i (b ∷ bs))
    go true e same = rw (e, scan) (gapped (eqb b 35) bs j (suc i) (suc j) same)
    go false e same = rw (e, scan) (same (inside i (b ∷ [])))
same_values (b ∷ bs) k i j comment = gapped (not (eqb b 10)) bs k (suc i) (suc j) (λ s. same_values bs k (suc i) (suc j) s)
same_values (b ∷ bs) k i j (inside start bytes) = go (separator b) refl (λ s. same_values bs k (suc i) (suc j) s)
  where
    go : (t : Bool) → separator b ≡ t → ((s : State) → values (scan (moved k s) (suc j) bs) ≡ values (scan s (suc i) bs)) → values (scan (inside k bytes) j (b ∷ bs)) ≡ values (scan (inside start bytes) i (b ∷ bs))
    go true e same = rw (e, scan) (ap (put (number_of bytes)) (gapped (eqb b 35) bs k (suc i) (suc j) same))
    go false e same = rw (e, scan) (same (inside start (bytes ++ b ∷ [])))

-- a word, and what follows it

abbrev pub Solid : List ℕ → Type 0
Solid bs = AllByRecursion (λ b. separator b ≡ false) bs

over_word : (ds bs : List ℕ) (k : ℕ) (w : List ℕ) (i : ℕ) → Solid ds → values (scan (inside k w) i (ds ++ bs)) ≡ values (scan (inside k (w ++ ds)) i bs)
over_word [] bs k w i h = ap (λ v. values (scan (inside k v) i bs)) (sym (append-nil w))
over_word (d ∷ ds) bs k w i h =
    rw (h.0, scan) (over_word ds bs k (w ++ d ∷ []) (suc i) h.1) ∙ ap (λ v. values (scan (inside k v) (suc i) bs)) (append_assoc w (d ∷ []) ds) ∙ same_values bs k i (suc i) (inside k (w ++ d ∷ ds))

from_word : (ds bs : List ℕ) (i : ℕ) → 0 < length ds → Solid ds → values (scan between i (ds ++ bs)) ≡ values (scan (inside i ds) i bs)
from_word [] bs i some h = absurd (omega arith)
from_word (d ∷ ds) bs i some h =
    rw (h.0, scan) (over_word ds bs i (d ∷ []) (suc i) h.1) ∙ same_values bs i i (suc i) (inside i (d ∷ ds))

-- what is written of a number is its word

digits_push : (ds : List ℕ) (d m n : ℕ) → digits_on m ds ≡ Some n → is_ascii_digit d ≡ true → digits_on m (ds ++ d ∷ []) ≡ Some (n * 10 + (d - 48))
digits_push [] d m n e h = let same : m ≡ n = cc in rw (h, digits_on) (ap (λ k. Some (k * 10 + (d - 48))) same)
digits_push (b ∷ ds) d m n e h = go (is_ascii_digit b) refl e (λ f. digits_push ds d (m * 10 + (b - 48)) n f h)
  where
    go : (t : Bool) → is_ascii_digit b ≡ t → digits_on m (b ∷ ds) ≡ Some n → (digits_on (m * 10 + (b - 48)) ds ≡ Some n → digits_on (m * 10 + (b - 48)) (ds ++ d ∷ []) ≡ Some (n * 10 + (d - 48))) → digits_on m (b ∷ (ds ++ d ∷ [])) ≡ Some (n * 10 + (d - 48))
    go true t f more = rw (t, digits_on) (more (rw (t, digits_on) at f))
    go false t f more = let z : ◌≡◌ {A = Option ℕ} None (Some n) = rw (t, digits_on) at f in let y : ◌≡◌ {A = ℕ} 0 1 = cc in absurd (omega arith)

record Spelled (n : ℕ) (ds : List ℕ) : Type 0 where
  number : digits_on 0 ds ≡ Some n
  some : 0 < length ds
  digits : AllByRecursion (λ d. is_ascii_digit d ≡ true) ds

all_push : (ds : List ℕ) (d : ℕ) → AllByRecursion (λ b. is_ascii_digit b ≡ true) ds → is_ascii_digit d ≡ true → AllByRecursion (λ b. is_ascii_digit b ≡ true) (ds ++ d ∷ [])
all_push [] d h e = (e, tt)
all_push (b ∷ ds) d h e = (h.0, all_push ds d h.1 e)

digit_is : (n : ℕ) → n < 10 → is_ascii_digit (48 + n) ≡ true
digit_is n h = grind (arith, nat_tests)

spelled : (n : ℕ) → n < 2 ^ 64 → Spelled n (decimal n)
spelled = decimal_by_steps Spelled
    (λ n h. record { number = rw (digit_is n h, digits_on) (ap Some (omega arith)); some = omega arith; digits = (digit_is n h, tt) })
    (λ n ds h old.
    let d = digit_is (n % 10) (omega arith) in
    record {
      number = digits_push ds (48 + n % 10) 0 (n / 10) old.number d ∙ ap Some (omega arith);
      some = omega (arith, length_push ds (48 + n % 10));
      digits = all_push ds (48 + n % 10) old.digits d;
    })

digit_solid : (d : ℕ) → is_ascii_digit d ≡ true → (separator d ≡ false) × (eqb d 45 ≡ false)
digit_solid d h = (grind (arith, nat_tests), grind (arith, nat_tests))

digits_solid : (ds : List ℕ) → AllByRecursion (λ d. is_ascii_digit d ≡ true) ds → Solid ds
digits_solid [] h = tt
digits_solid (d ∷ ds) h = ((digit_solid d h.0).0, digits_solid ds h.1)

plain : (n : ℕ) (ds : List ℕ) → Spelled n ds → (minus ds ≡ false) × (natural_of ds ≡ Some n)
plain n [] h = absurd (omega (arith, h.some))
plain n (d ∷ ds) h = ((digit_solid d h.digits.0).1, h.number)

-- the word of a number that fits
pub record Spells (z : ℤ) (bs : List ℕ) : Type 0 where
  pub number : number_of bs ≡ Ok z
  pub some : 0 < length bs
  pub solid : Solid bs

pub spells : (z : ℤ) → in64 z ≡ true → Spells z (signed_decimal z)
spells (pos n) h =
    let small = ltb-true n (2 ^ 63) h in
    let s = spelled n (omega arith) in
    let p = plain n (decimal n) s in
    record { number = rw (p.0, integer_of) (rw p.1 (rw (h, fit))); some = s.some; solid = digits_solid (decimal n) s.digits }
spells (negsuc n) h =
    let small = ltb-true n (2 ^ 63) h in
    let s = spelled (suc n) (omega arith) in
    let p = plain (suc n) (decimal (suc n)) s in
    record { number = rw p.1 (rw (h, fit)); some = omega arith; solid = (refl, digits_solid (decimal (suc n)) s.digits) }

-- a number, and a space or a line feed
before_gap : (z : ℤ) (b : ℕ) (bs : List ℕ) → separator b ≡ true → eqb b 35 ≡ false → in64 z ≡ true → numbers_of (signed_decimal z ++ b ∷ bs) ≡ option_map (λ zs. z ∷ zs) (numbers_of bs)
before_gap z b bs s c h =
    let w = spells z h in
    from_word (signed_decimal z) (b ∷ bs) 0 w.some w.solid
    ∙ rw (s, scan) (ap (λ t. put (number_of (signed_decimal z)) (values (scan (gap t) 1 bs))) c)
    ∙ (λ j. put (w.number j) (same_values bs 0 0 1 between j))

mapped_mapped : (o : Option (List ℤ)) (z : ℤ) (zs : List ℤ) → option_map (λ ys. z ∷ ys) (option_map (λ ys. zs ++ ys) o) ≡ option_map (λ ys. z ∷ (zs ++ ys)) o
mapped_mapped None z zs = refl
mapped_mapped (Some ys) z zs = refl

mapped_same : (o : Option (List ℤ)) → o ≡ option_map (λ ys. [] ++ ys) o
mapped_same None = refl
mapped_same (Some ys) = refl

-- what is written of numbers after the first
after_number : (z : ℤ) (zs : List ℤ) (bs : List ℕ) → in64 z ≡ true → Fit zs → numbers_of ((signed_decimal z ++ spaced zs) ++ bs) ≡ option_map (λ ys. z ∷ (zs ++ ys)) (numbers_of bs)
after_number z [] bs h hs = ap numbers_of (append_assoc (signed_decimal z) (10 ∷ []) bs) ∙ before_gap z 10 bs refl refl h
after_number z (y ∷ ys) bs h hs =
    ap numbers_of (append_assoc (signed_decimal z) (spaced (y ∷ ys)) bs)
    ∙ before_gap z 32 ((signed_decimal y ++ spaced ys) ++ bs) refl refl h
    ∙ ap (option_map (λ zs. z ∷ zs)) (after_number y ys bs hs.0 hs.1)
    ∙ mapped_mapped (numbers_of bs) z (y ∷ ys)

pub after_line : (zs : List ℤ) (bs : List ℕ) → Fit zs → numbers_of (line_of zs ++ bs) ≡ option_map (λ ys. zs ++ ys) (numbers_of bs)
after_line [] bs h = same_values bs 0 0 1 between ∙ mapped_same (numbers_of bs)
after_line (z ∷ zs) bs h = after_number z zs bs h.0 h.1

-- a comment
over_comment : (c bs : List ℕ) (i : ℕ) → feeds c ≡ 0 → values (scan comment i (c ++ 10 ∷ bs)) ≡ numbers_of bs
over_comment [] bs i h = same_values bs 0 0 (suc i) between
over_comment (b ∷ c) bs i h = go (eqb b 10) refl h (over_comment c bs (suc i))
  where
    go : (t : Bool) → eqb b 10 ≡ t → feeds (b ∷ c) ≡ 0 → (feeds c ≡ 0 → values (scan comment (suc i) (c ++ 10 ∷ bs)) ≡ numbers_of bs) → values (scan comment i (b ∷ (c ++ 10 ∷ bs))) ≡ numbers_of bs
    go true e f more = let z : suc (feeds c) ≡ 0 = rw (e, feeds) at f in absurd (omega arith)
    go false e f more = rw (e, scan, values) (more (rw (e, feeds) at f))

pub after_comment : (c bs : List ℕ) → feeds c ≡ 0 → numbers_of (35 ∷ (c ++ 10 ∷ bs)) ≡ numbers_of bs
after_comment c bs h = over_comment c bs 1 h

-- what is taken, and the numbers

enough_from : (text : List ℕ) (room : ℕ) (sofar : List ℤ) (ws : List Word) (zs : List ℤ) → values ws ≡ Some zs → length sofar + length zs ≤ room → taken text room sofar ws ≡ Ok (sofar ++ zs)
enough_from text room sofar [] zs e h = let none : [] ≡ zs = cc in ap Ok (sym (append-nil sofar) ∙ ap (λ l. sofar ++ l) none)
enough_from text room sofar (w ∷ ws) zs e h =
    go (number_of w.bytes) refl (values ws) refl e (λ z ys f room-left. enough_from text room (sofar ++ z ∷ []) ws ys f room-left)
  where
    go : (r : Result ℤ Reason) → number_of w.bytes ≡ r → (o : Option (List ℤ)) → values ws ≡ o → put r o ≡ Some zs → ((z : ℤ) (ys : List ℤ) → values ws ≡ Some ys → length (sofar ++ z ∷ []) + length ys ≤ room → taken text room (sofar ++ z ∷ []) ws ≡ Ok ((sofar ++ z ∷ []) ++ ys)) → taken text room sofar (w ∷ ws) ≡ Ok (sofar ++ zs)
    go (Ok z) n (Some ys) f p more =
        let is : (z ∷ ys) ≡ zs = cc in
        let long : suc (length ys) ≡ length zs = ap length is in
        taken_more text room sofar w ws z n (omega arith) ∙ more z ys f (omega (arith, length_push sofar z)) ∙ ap Ok (append_assoc sofar (z ∷ []) ys ∙ ap (λ l. sofar ++ l) is)
    go (Ok z) n None f p more = let y : ◌≡◌ {A = ℕ} 0 1 = cc in absurd (omega arith)
    go (Err reason) n o f p more = let y : ◌≡◌ {A = ℕ} 0 1 = cc in absurd (omega arith)

pub enough : (room : ℕ) (text : List ℕ) (zs : List ℤ) → numbers_of text ≡ Some zs → length zs ≤ room → reading room text ≡ Ok zs
enough room text zs e h = enough_from text room [] (words_of text) zs e (omega arith)

record Just (room : ℕ) (sofar : List ℤ) (ws : List Word) (all : List ℤ) : Type 0 where
  more : List ℤ
  numbers : values ws ≡ Some more
  whole : all ≡ sofar ++ more
  fits : length all ≤ room

just_from : (text : List ℕ) (room : ℕ) (sofar : List ℤ) (ws : List Word) (all : List ℤ) → length sofar ≤ room → taken text room sofar ws ≡ Ok all → Just room sofar ws all
just_from text room sofar [] all h e =
    let same : sofar ≡ all = cc in
    record { more = []; numbers = refl; whole = sym same ∙ sym (append-nil sofar); fits = omega (arith, ap length same) }
just_from text room sofar (w ∷ ws) all h e =
    go (number_of w.bytes) refl (cases_lt (length sofar) room) (λ z f room-left. just_from text room (sofar ++ z ∷ []) ws all room-left f)
  where
    go : (r : Result ℤ Reason) → number_of w.bytes ≡ r → (length sofar < room) ⊎ (room ≤ length sofar) → ((z : ℤ) → taken text room (sofar ++ z ∷ []) ws ≡ Ok all → length (sofar ++ z ∷ []) ≤ room → Just room (sofar ++ z ∷ []) ws all) → Just room sofar (w ∷ ws) all
    go (Ok z) n (inl lt) more =
        let j = more z (sym (taken_more text room sofar w ws z n lt) ∙ e) (omega (arith, length_push sofar z)) in
        record {
          more = z ∷ j.more;
          numbers = ap (λ r. put r (values ws)) n ∙ ap (option_map (λ zs. z ∷ zs)) j.numbers;
          whole = j.whole ∙ append_assoc sofar (z ∷ []) j.more;
          fits = j.fits;
        }
    go (Ok z) n (inr le) more = let f = taken_full text room sofar w ws z n le in let y : ◌≡◌ {A = ℕ} 0 1 = cc in absurd (omega arith)
    go (Err reason) n u more = let f = taken_bad text room sofar w ws reason n in let y : ◌≡◌ {A = ℕ} 0 1 = cc in absurd (omega arith)

pub just : (room : ℕ) (text : List ℕ) (zs : List ℤ) → reading room text ≡ Ok zs → (numbers_of text ≡ Some zs) × (length zs ≤ room)
just room text zs e =
    let j = just_from text room [] (words_of text) zs (omega arith) e in
    (j.numbers ∙ ap Some (sym j.whole), j.fits)

pub reads_back : (room : ℕ) (zs : List ℤ) → Fit zs → length zs ≤ room → reading room (line_of zs) ≡ Ok zs
reads_back room zs h small =
    enough room (line_of zs) zs (ap numbers_of (sym (append-nil (line_of zs))) ∙ after_line zs [] h ∙ ap Some (append-nil zs)) small

pub laws : Parts
laws = record { reads_back = reads_back; after_line = after_line; after_comment = after_comment; enough = enough; just = just }
