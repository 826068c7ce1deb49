-- What `read` has done so far, a word at a time. Assumes nothing.
use Rattle.std.proofs.Common.{◌≡◌, ℕ, ◌+◌, ◌<◌, ◌≤◌, List, [], ◌∷◌, ◌++◌, length, take, drop, set, ℤ, Ok, Err, Result, sym, refl, ap, ◌∙◌, subst, arith, length-set}
use Rattle.std.proofs.lemmas.List.{length-take-le, take_more_set, drop-set-lt, drop-drop}
use Rattle.std.proofs.lemmas.Bool.{lt-ltb, le-ltb}
use Rattle.std.specs.Result.{MatchResult}
use Rattle.text.specs.declared.refusal.Reason.{Reason}
use Rattle.text.specs.declared.refusal.Reason.TheVariants.{TooMany}
use Rattle.text.specs.declared.refusal.Refusal.{Refusal}
use Rattle.text.specs.Lines.{Answers}
use Rattle.text.specs.Numbers.{number_of, refused, taken, reading}
use Rattle.text.specs.Words.{Word, words_of}
use Rattle.text.proofs.Scans.{Within, within}

-- one word: its number is taken, there is no room for it, or it has none
module _ (text : List ℕ) (room : ℕ) (sofar : List ℤ) (w : Word) (ws : List Word) where
  pub taken_more : (z : ℤ) → number_of w.bytes ≡ Ok z → length sofar < room → taken text room sofar (w ∷ ws) ≡ taken text room (sofar ++ z ∷ []) ws
  taken_more z e h = let t = lt-ltb (length sofar) room h in rw (e, taken) (rw t)

  pub taken_full : (z : ℤ) → number_of w.bytes ≡ Ok z → room ≤ length sofar → taken text room sofar (w ∷ ws) ≡ Err (refused text w.start (TooMany room))
  taken_full z e h = let t = le-ltb (length sofar) room h in rw (e, taken) (rw t)

  pub taken_bad : (reason : Reason) → number_of w.bytes ≡ Err reason → taken text room sofar (w ∷ ws) ≡ Err (refused text w.start reason)
  taken_bad reason e = rw (e, taken)

-- `count` numbers stand in front, and the words that are left give the whole answer
pub record Sofar (text : List ℕ) (before now : List ℤ) (count : ℕ) (left : List Word) : Type 0 where
  pub long : length now ≡ length before
  pub few : count ≤ length now
  pub begin : Within (length text) left
  pub whole : taken text (length before) (take count now) left ≡ reading (length before) text
  pub rest : drop count now ≡ drop count before

pub sofar_none : (text : List ℕ) (before : List ℤ) → Sofar text before before 0 (words_of text)
sofar_none text before = record { long = refl; few = omega arith; begin = within text; whole = refl; rest = refl }

module _ (text : List ℕ) (before now : List ℤ) (count : ℕ) (w : Word) (ws : List Word) (old : Sofar text before now count (w ∷ ws)) where
  front : length (take count now) ≡ count
  front = length-take-le count now old.few

  pub sofar_more : (z : ℤ) → number_of w.bytes ≡ Ok z → count < length now → Sofar text before (set now count z) (count + 1) ws
  sofar_more z n lt = record {
    long = length-set now count z ∙ old.long;
    few = omega (arith, length-set now count z);
    begin = old.begin.1;
    whole = ap (λ zs. taken text (length before) zs ws) (take_more_set now count z lt) ∙ sym (taken_more text (length before) (take count now) w ws z n (omega (arith, old.long, front))) ∙ old.whole;
    rest = drop-set-lt (count + 1) now count z (omega arith) ∙ sym (drop-drop 1 count now) ∙ ap (drop 1) old.rest ∙ drop-drop 1 count before;
  }

  answers_err : (after : List ℤ) (f : Refusal) {wanted : Refusal} → reading (length before) text ≡ Err wanted → f ≡ wanted → Answers (reading (length before) text) before after (Err f)
  answers_err after f e same = subst (λ r. Answers r before after (Err f)) (sym e) same

  pub refuses_full : (z : ℤ) → number_of w.bytes ≡ Ok z → count ≡ length now → (f : Refusal) → f ≡ refused text w.start (TooMany count) → Answers (reading (length before) text) before now (Err f)
  refuses_full z n full f e =
      let same : count ≡ length before = omega (arith, old.long) in
      answers_err now f (sym old.whole ∙ taken_full text (length before) (take count now) w ws z n (omega (arith, old.long, front))) (e ∙ ap (λ m. refused text w.start (TooMany m)) same)

  pub refuses_bad : (r : Result ℤ Reason) → r ≡ number_of w.bytes → (f : Refusal) → MatchResult r (λ z. ◌≡◌ {A = Result ℤ Refusal} (Err f) (Ok z)) (λ reason. f ≡ refused text w.start reason) → Answers (reading (length before) text) before now (Err f)
  refuses_bad (Ok z) n f e = let z : ◌≡◌ {A = ℕ} 0 1 = cc in absurd (omega arith)
  refuses_bad (Err reason) n f e = answers_err now f (sym old.whole ∙ taken_bad text (length before) (take count now) w ws reason (sym n)) e

  pub takes_one : (r : Result ℤ Reason) → r ≡ number_of w.bytes → (z : ℤ) → MatchResult r (λ y. ◌≡◌ {A = Result ℤ Refusal} (Ok z) (Ok y)) (λ reason. ⊥) → number_of w.bytes ≡ Ok z
  takes_one (Ok y) n z e = cc
  takes_one (Err reason) n z e = absurd e

pub sofar_all : (text : List ℕ) (before now : List ℤ) (count : ℕ) (left : List Word) → Sofar text before now count left → left ≡ [] → Answers (reading (length before) text) before now (Ok count)
sofar_all text before now count left old none =
    subst (λ r. Answers r before now (Ok count)) (ap (taken text (length before) (take count now)) (sym none) ∙ old.whole) (record {
      many = sym (length-take-le count now old.few);
      front = refl;
      rest = old.rest;
    })
