-- What the scanner makes of the bytes from a place of a text on. Assumes nothing.
use Rattle.std.proofs.Common.{◌≡◌, ℕ, zero, suc, ◌+◌, ◌<◌, ◌≤◌, Bool, true, false, not, eqb, List, [], ◌∷◌, ◌++◌, length, get_or, take, drop, Some, sym, refl, ap, ◌∙◌, subst, add-one, append_assoc, append-nil, arith}
use Rattle.std.specs.List.{AllByRecursion, prefix_len, slice_get}
use Rattle.std.proofs.lemmas.List.{at_drop_more, at_drop_all, drop_more, drop-drop}
use Rattle.std.proofs.lemmas.List.Folds.{length-prefix_len}
use Rattle.text.specs.Words.{Word, State, between, comment, inside, gap, separator, scan, words_of}

-- a loop's step over what stands between words: `was` and `next` say whether it is a comment
pub skip_comment : (bs : List ℕ) (i : ℕ) (was next : Bool) (ws : List Word) → i < length bs → was ≡ true → next ≡ not (eqb (get_or bs i 0) 10) → scan (gap was) i (drop i bs) ≡ ws → scan (gap next) (i + 1) (drop (i + 1) bs) ≡ ws
skip_comment bs i was next ws h t n e =
    ap (λ b. scan (gap b) (i + 1) (drop (i + 1) bs)) n
    ∙ ap (λ k. scan (gap (not (eqb (get_or bs i 0) 10))) k (drop (i + 1) bs)) (add-one i)
    ∙ sym (at_drop_more (scan comment i) bs i 0 h)
    ∙ ap (λ b. scan (gap b) i (drop i bs)) (sym t)
    ∙ e

pub skip_separator : (bs : List ℕ) (i : ℕ) (was next : Bool) (ws : List Word) → i < length bs → was ≡ false → separator (get_or bs i 0) ≡ true → next ≡ eqb (get_or bs i 0) 35 → scan (gap was) i (drop i bs) ≡ ws → scan (gap next) (i + 1) (drop (i + 1) bs) ≡ ws
skip_separator bs i was next ws h t s n e =
    ap (λ b. scan (gap b) (i + 1) (drop (i + 1) bs)) n
    ∙ sym (at_drop_more (scan between i) bs i 0 h ∙ rw (s, scan) (ap (λ k. scan (gap (eqb (get_or bs i 0) 35)) k (drop (i + 1) bs)) (sym (add-one i))))
    ∙ ap (λ b. scan (gap b) i (drop i bs)) (sym t)
    ∙ e

-- the text ends
pub gap-all : (t : Bool) (bs : List ℕ) (i : ℕ) → length bs ≤ i → scan (gap t) i (drop i bs) ≡ []
gap-all true bs i h = at_drop_all (scan comment i) bs i h
gap-all false bs i h = at_drop_all (scan between i) bs i h

-- how many bytes stand before the first separator
abbrev pub solid : List ℕ → ℕ
solid bs = prefix_len (λ b. not (separator b)) bs

-- the word of the bytes `w` and then `n` more, which began at `k`
abbrev Cut : State → List ℕ → ℕ → ℕ → List ℕ → ℕ → Type 0
Cut s w k i bs n = scan s i bs ≡ record { start = k; bytes = w ++ take n bs } ∷ scan between (i + n) (drop n bs)

-- the rest of a word, and what follows it
word_on : (bs : List ℕ) (k : ℕ) (w : List ℕ) (i : ℕ) → Cut (inside k w) w k i bs (solid bs)
word_on [] k w i = ap (λ v. record { start = k; bytes = v } ∷ []) (sym (append-nil w))
word_on (b ∷ bs) k w i = go (separator b) refl (word_on bs k (w ++ b ∷ []) (suc i))
  where
    go : (t : Bool) → separator b ≡ t → Cut (inside k (w ++ b ∷ [])) (w ++ b ∷ []) k (suc i) bs (solid bs) → Cut (inside k w) w k i (b ∷ bs) (solid (b ∷ bs))
    go true e same =
        let none : solid (b ∷ bs) ≡ 0 = rw e in
        let here : i ≡ i + 0 = omega arith in
        subst (Cut (inside k w) w k i (b ∷ bs)) (sym none) (rw (e, scan) (λ j. record { start = k; bytes = sym (append-nil w) j } ∷ scan (gap (eqb b 35)) (suc (here j)) bs))
    go false e same =
        let more : solid (b ∷ bs) ≡ suc (solid bs) = rw e (omega arith) in
        let on : suc i + solid bs ≡ i + suc (solid bs) = omega arith in
        subst (Cut (inside k w) w k i (b ∷ bs)) (sym more) (rw (e, scan) (same ∙ (λ j. record { start = k; bytes = append_assoc w (b ∷ []) (take (solid bs) bs) j } ∷ scan between (on j) (drop (solid bs) bs))))

-- a word from its first byte on, and what follows it
word_cut : (b : ℕ) (bs : List ℕ) (i : ℕ) → separator b ≡ false → Cut between [] i i (b ∷ bs) (solid (b ∷ bs))
word_cut b bs i e =
    let more : solid (b ∷ bs) ≡ suc (solid bs) = rw e (omega arith) in
    let on : suc i + solid bs ≡ i + suc (solid bs) = omega arith in
    subst (Cut between [] i i (b ∷ bs)) (sym more) (rw (e, scan) (word_on bs i (b ∷ []) (suc i) ∙ (λ j. record { start = i; bytes = b ∷ take (solid bs) bs } ∷ scan between (on j) (drop (solid bs) bs))))

-- where a word begins, it is the `n` bytes before the first separator of what is left
pub word_first : (text left : List ℕ) (i n : ℕ) → i < length text → separator (get_or text i 0) ≡ false → left ≡ drop i text → n ≡ solid left → scan between i (drop i text) ≡ record { start = i; bytes = take n left } ∷ scan between (i + length (take n left)) (drop (i + length (take n left)) text)
word_first text left i n h s e w =
    let bs = drop i text in
    let many : solid bs ≡ n = ap solid (sym e) ∙ sym w in
    let long : solid bs ≡ length (take n left) = sym (length-prefix_len (λ b. not (separator b)) bs) ∙ (λ j. length (take (many j) (sym e j))) in
    subst (λ l. Cut between [] i i l (solid l)) (sym (drop_more text i 0 h)) (word_cut (get_or text i 0) (drop (i + 1) text) i s)
    ∙ ap (λ l. record { start = i; bytes = take (solid bs) bs } ∷ scan between (i + solid bs) l) (drop-drop (solid bs) i text)
    ∙ (λ j. record { start = i; bytes = take (many j) (sym e j) } ∷ scan between (i + long j) (drop (i + long j) text))

-- each word begins in the text
abbrev pub Within : ℕ → List Word → Type 0
Within n ws = AllByRecursion (λ w. w.start < n) ws

abbrev Began : ℕ → State → Type 0
Began n between = Unit {0}
Began n comment = Unit {0}
Began n (inside start bytes) = start < n

began_gap : (n : ℕ) (t : Bool) → Began n (gap t)
began_gap n true = tt
began_gap n false = tt

within_from : (n : ℕ) (s : State) (i : ℕ) (bs : List ℕ) → i + length bs ≤ n → Began n s → Within n (scan s i bs)
within_from n between i [] h s = tt
within_from n comment i [] h s = tt
within_from n (inside start bytes) i [] h s = (s, tt)
within_from n between i (b ∷ bs) h s = go (separator b) refl (λ u. within_from n u (suc i) bs (omega arith))
  where
    go : (t : Bool) → separator b ≡ t → ((u : State) → Began n u → Within n (scan u (suc i) bs)) → Within n (scan between i (b ∷ bs))
    go true e on = rw (e, scan) (on (gap (eqb b 35)) (began_gap n (eqb b 35)))
    go false e on = rw (e, scan) (on (inside i (b ∷ [])) (omega arith))
within_from n comment i (b ∷ bs) h s = within_from n (gap (not (eqb b 10))) (suc i) bs (omega arith) (began_gap n (not (eqb b 10)))
within_from n (inside start bytes) i (b ∷ bs) h s = go (separator b) refl (λ u. within_from n u (suc i) bs (omega arith))
  where
    go : (t : Bool) → separator b ≡ t → ((u : State) → Began n u → Within n (scan u (suc i) bs)) → Within n (scan (inside start bytes) i (b ∷ bs))
    go true e on = rw (e, scan) (s, on (gap (eqb b 35)) (began_gap n (eqb b 35)))
    go false e on = rw (e, scan) (on (inside start (bytes ++ b ∷ [])) s)

pub within : (text : List ℕ) → Within (length text) (words_of text)
within text = within_from (length text) between 0 text (omega arith) tt

pub within_at : (n : ℕ) (ws : List Word) (i : ℕ) (w : Word) → Within n ws → slice_get ws i ≡ Some w → w.start < n
within_at n [] i w h e = let z : ◌≡◌ {A = ℕ} 0 1 = cc in absurd (omega arith)
within_at n (v ∷ ws) zero w h e = let same : v ≡ w = cc in subst (λ u. u.start < n) same h.0
within_at n (v ∷ ws) (suc i) w h e = within_at n ws i w h.1 e
