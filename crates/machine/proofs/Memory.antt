-- Arrays one behind the other: a read or a write at where one begins and so much further is one in that array.
use Rattle.std.proofs.Common.{◌≡◌, ℕ, zero, suc, ◌+◌, ◌<◌, ◌≤◌, List, [], ◌∷◌, length, get_or, take, drop, set, ℤ, pos, Some, sym, ap, ◌∙◌, subst, ap₂, add-zero, add_assoc, zero-add, arith, get_or-drop, get_or-take, drop-set-lt}
use lib.Seq.{take-set-lt, take-set-le, drop-set-add}
use Rattle.std.specs.List.{slice_get}
use Rattle.std.proofs.lemmas.Option.{slice_get-get_or}
use Rattle.program.specs.declared.Field.TheVariants.{Length}
use Rattle.program.specs.Program.{Prog, total}
use Rattle.program.specs.Rows.{Program}
use Rattle.program.specs.Runs.{words, index}
use Rattle.program.proofs.Results.{index_was}
use Rattle.program.proofs.Whole.{length_reads}
use Rattle.program.proofs.Within.{nth_within}
use Rattle.machine.specs.Layout.{split, starts_from, Laid}
use Rattle.machine.specs.Acting.{words_at, start_at}

-- where the a-th array begins
abbrev pub before : List ℕ → ℕ → ℕ
before ns a = total (take a ns)

pub split_read : (ns : List ℕ) (m : List ℤ) (a i : ℕ) → i < get_or ns a 0 → get_or (get_or (split ns m) a []) i (pos 0) ≡ get_or m (before ns a + i) (pos 0)
split_read [] m a i l = absurd (omega arith)
split_read (n ∷ ns) m zero i l = get_or-take n m i (pos 0) l ∙ ap (λ k. get_or m k (pos 0)) (sym (zero-add i))
split_read (n ∷ ns) m (suc a) i l = split_read ns (drop n m) a i l ∙ get_or-drop n m (before ns a + i) (pos 0) ∙ ap (λ k. get_or m k (pos 0)) (sym (add_assoc n (before ns a) i))

pub split_write : (ns : List ℕ) (m : List ℤ) (a i : ℕ) (v : ℤ) → i < get_or ns a 0 → split ns (set m (before ns a + i) v) ≡ set (split ns m) a (set (get_or (split ns m) a []) i v)
split_write [] m a i v l = absurd (omega arith)
split_write (n ∷ ns) m zero i v l = ap (λ k. split (n ∷ ns) (set m k v)) (zero-add i) ∙ ap₂ (λ x y. x ∷ split ns y) (take-set-lt n m i v l) (drop-set-lt n m i v l)
split_write (n ∷ ns) m (suc a) i v l =
    let k = before ns a + i in
    ap (λ k. split (n ∷ ns) (set m k v)) (add_assoc n (before ns a) i)
    ∙ ap₂ (λ x y. x ∷ split ns y) (take-set-le n m (n + k) v (omega arith)) (drop-set-add n m k v)
    ∙ ap (λ r. take n m ∷ r) (split_write ns (drop n m) a i v l)

starts_are : (ns : List ℕ) (k a : ℕ) → a < length ns → (a < length (starts_from k ns)) × (get_or (starts_from k ns) a (pos 0) ≡ pos (k + before ns a))
starts_are [] k a l = absurd (omega arith)
starts_are (n ∷ ns) k zero l = (omega arith, ap pos (sym (add-zero k)))
starts_are (n ∷ ns) k (suc a) l =
    let h = starts_are ns (k + n) a (omega arith) in
    (omega (arith, h.0), h.1 ∙ ap pos (add_assoc k n (before ns a)))

before_room : (ns : List ℕ) (a : ℕ) → before ns a + get_or ns a 0 ≤ total ns
before_room [] zero = omega arith
before_room [] (suc a) = omega arith
before_room (n ∷ ns) zero = omega arith
before_room (n ∷ ns) (suc a) = let h = before_room ns a in omega arith

-- what stands in the rows and in the starts for an array of the program
pub record There (p : Prog) (s st m : List ℤ) (a : ℕ) : Type 0 where
  pub row : 2 + a < length s
  pub long : words_at s a ≡ words p a
  pub begun : a < length st
  pub start : get_or st a (pos 0) ≡ pos (start_at st a)
  pub first : start_at st a ≡ before p.arrays a
  pub room : start_at st a + words_at s a ≤ length m

pub there : (p : Prog) (s st vs m : List ℤ) (a : ℕ) → Program s p → Laid p st vs m → a < length p.arrays → There p s st m a
there p s st vs m a is laid l =
    let n = words p a in
    let read : slice_get s (2 + a) ≡ Some (pos n) = (index_was s (2 + a) Length n (length_reads s p a n is (slice_get-get_or p.arrays a 0 l))).0 in
    let row : 2 + a < length s = nth_within s (2 + a) (pos n) read in
    let long : words_at s a ≡ n = ap index (some_same _ _ (sym (slice_get-get_or s (2 + a) (pos 0) row) ∙ read)) in
    let at = starts_are p.arrays 0 a l in
    let begins : get_or st a (pos 0) ≡ pos (before p.arrays a) = ap (λ st. get_or st a (pos 0)) laid.starts ∙ at.1 ∙ ap pos (zero-add (before p.arrays a)) in
    let first : start_at st a ≡ before p.arrays a = ap index begins in
    let room = before_room p.arrays a in
    let all = laid.memory in
    record {
      row = row;
      long = long;
      begun = subst (λ st. a < length st) (sym laid.starts) at.0;
      start = begins ∙ ap pos (sym first);
      first = first;
      room = omega arith;
    }
  where
    some_same : (x y : ℤ) → Some x ≡ Some y → x ≡ y
    some_same x y e = cc
