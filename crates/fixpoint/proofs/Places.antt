-- The rows of places within those of a table: what a row that is written leaves of the table.
use Rattle.std.proofs.Common.{◌≡◌, ℕ, zero, suc, ◌+◌, ◌-◌, ◌*◌, ◌<◌, ◌≤◌, true, cond, List, [], ◌∷◌, ◌++◌, length, get_or, take, drop, set, ℤ, pos, Some, None, sym, refl, ap, ◌∙◌, ap₂, suc-mul, zero-add, zero-mul, arith}
use lib.Seq.{take-append-add}
use borrow.Rule.Slice.PartMut.{put_mid}
use Rattle.std.specs.Option.{option_map}
use Rattle.std.proofs.lemmas.List.{append_assoc, append-nil, length-take-le, length-drop, drop_all, drop-drop, drop_at}
use Rattle.std.proofs.lemmas.Slice.{between_is, between-put_mid, take-put_mid_below, drop-put_mid}
use Rattle.program.specs.declared.Counts.{Counts}
use Rattle.interval.specs.Ranges.{At}
use Rattle.table.specs.Tables.{Table, at}
use Rattle.table.specs.declared.Fault.TheVariants.{Flag, Blank}
use Rattle.table.specs.Looking.{not_zero, row_fault}
use Rattle.table.specs.Rows.{row_a, row_t, width, wants, is_number, place_of, place_in, table_of}
use Rattle.table.proofs.Loops.{row_there}
use Rattle.table.proofs.Rows.{AllWide, row_was, length-row_a, table_of_wide, length-table_of}
use Rattle.fixpoint.specs.Joining.{table_in, Writes}

-- a box that is written into a row
pub row_kept : (row ys : List ℤ) → 0 < length row → put_mid 1 (length row - 1) row ys ≡ get_or row 0 (pos 0) ∷ ys
row_kept [] ys l = absurd (omega arith)
row_kept (z ∷ s) ys l = ap (λ x. z ∷ x) (ap (λ x. ys ++ x) (drop_all (length (z ∷ s) - 1) s (omega arith)) ∙ append-nil ys)

-- the table's places from the a-th number on depend on nothing before it
same_from : (k a m : ℕ) (s u : List ℤ) → drop a s ≡ drop a u → table_of k a s m ≡ table_of k a u m
same_from k a zero s u e = refl
same_from k a (suc m) s u e =
    ap₂ (λ x y. x ∷ y) (ap (λ s. place_of (take (width k) s)) e) (same_from k (a + width k) m s u (sym (drop-drop (width k) a s) ∙ ap (drop (width k)) e ∙ drop-drop (width k) a u))

-- a part before what is written
part_below : (a w b j : ℕ) (s row : List ℤ) → a + w ≤ b → b ≤ length s → take w (drop a (put_mid b j s row)) ≡ take w (drop a s)
part_below a w b j s row l m =
    let long : w ≡ a + w - a = omega arith in
    ap (λ v. take v (drop a (put_mid b j s row))) long
    ∙ between_is (put_mid b j s row) a (a + w)
    ∙ ap (drop a) (take-put_mid_below b j s row (a + w) l m)
    ∙ sym (between_is s a (a + w))
    ∙ ap (λ v. take v (drop a s)) (sym long)

module _ (k : ℕ) (s row : List ℤ) (whole : length row ≡ width k) where
  put_from : (a n m : ℕ) → n < m → a + n * width k + width k ≤ length s → table_of k a (put_mid (a + n * width k) (width k) s row) m ≡ set (table_of k a s m) n (place_of row)
  put_from a n zero l h = absurd (omega arith)
  put_from a zero (suc m) l h =
      let none : a + zero * width k ≡ a = let z = zero-mul (width k) in omega arith in
      let in-s : a + width k ≤ length s = let z = zero-mul (width k) in omega arith in
      let long : width k ≡ a + width k - a = omega arith in
      ap (λ b. table_of k a (put_mid b (width k) s row) (suc m)) none
      ∙ ap₂ (λ x y. x ∷ y)
      (ap place_of (ap (λ v. take v (drop a (put_mid a (width k) s row))) long ∙ between-put_mid a (width k) s row (a + width k) (omega arith) (whole ∙ long)))
      (same_from k (a + width k) m (put_mid a (width k) s row) s (drop-put_mid a (width k) s row (a + width k) (omega arith) (omega arith) whole))
  put_from a (suc n) (suc m) l h =
      let next : a + suc n * width k ≡ a + width k + n * width k = let z = suc-mul n (width k) in omega arith in
      ap₂ (λ x y. x ∷ y)
      (ap place_of (part_below a (width k) (a + suc n * width k) (width k) s row (omega arith) (omega arith)))
      (ap (λ b. table_of k (a + width k) (put_mid b (width k) s row) m) next ∙ put_from (a + width k) n m (omega arith) (omega arith))

-- a place of the table is what its row says
at_from : (k a n m : ℕ) (s : List ℤ) → n < m → at (table_of k a s m) n ≡ place_of (take (width k) (drop (a + n * width k) s))
at_from k a n zero s l = absurd (omega arith)
at_from k a zero (suc m) s l = let none : a + zero * width k ≡ a = let z = zero-mul (width k) in omega arith in ap (λ b. place_of (take (width k) (drop b s))) (sym none)
at_from k a (suc n) (suc m) s l =
    let next : a + width k + n * width k ≡ a + suc n * width k = let z = suc-mul n (width k) in omega arith in
    at_from k (a + width k) n m s (omega arith) ∙ ap (λ b. place_of (take (width k) (drop b s))) next

row_fine : (row : List ℤ) → is_number 1 (get_or row 0 (pos 0)) ≡ true → row_fault 0 row ≡ None
row_fine [] e = refl
row_fine (z ∷ s) e = ap (λ t. cond t None (cond (is_number 0 z) (option_map Blank (not_zero 1 s)) (Some (Flag 0)))) e

put_behind : (v b j : ℕ) (x s row : List ℤ) → length x ≡ v → x ++ put_mid b j s row ≡ put_mid (v + b) j (x ++ s) row
put_behind v b j x s row e =
    sym (append_assoc x (take b s) _)
    ∙ ap₂ (λ y z. y ++ (row ++ drop j z)) (sym (take-append-add x s b) ∙ ap (λ v. take (v + b) (x ++ s)) e) (ap (drop b) (sym (drop_at x s v e)) ∙ drop-drop b v (x ++ s))

-- the rows of a table of which one place is set
rows_set : (k : ℕ) (t : Table) (n : ℕ) (a : At) → AllWide k t → n < length t → row_t k (set t n a) ≡ put_mid (n * width k) (width k) (row_t k t) (row_a k a)
rows_set k [] n a h l = absurd (omega arith)
rows_set k (x ∷ t) zero a h l =
    ap (λ r. row_a k a ++ r) (sym (drop_at (row_a k x) (row_t k t) (width k) (length-row_a k x (h 0))))
    ∙ ap (λ b. put_mid b (width k) (row_t k (x ∷ t)) (row_a k a)) (sym (zero-mul (width k)))
rows_set k (x ∷ t) (suc n) a h l =
    let next : width k + n * width k ≡ suc n * width k = let z = suc-mul n (width k) in omega arith in
    ap (λ r. row_a k x ++ r) (rows_set k t n a (λ m. h (suc m)) (omega arith))
    ∙ put_behind (width k) (n * width k) (width k) (row_a k x) (row_t k t) (row_a k a) (length-row_a k x (h 0))
    ∙ ap (λ b. put_mid b (width k) (row_t k (x ∷ t)) (row_a k a)) next

module _ (c : Counts) (n : ℕ) (l : List ℤ) (long : length l ≡ wants c) (place : n ≤ c.steps) where
  pub place_at : at (table_in c l) n ≡ place_in c.vars l n
  place_at = at_from c.vars 0 n (c.steps + 1) l (omega arith) ∙ ap (λ b. place_of (take (width c.vars) (drop b l))) (zero-add (n * width c.vars))

  pub row_within : n * width c.vars + width c.vars ≤ length l
  row_within = row_there n (c.steps + 1) (width c.vars) (length l) (omega arith) (omega arith)

  -- the row that stands in these bounds, and one that is written there
  module _ (start end : ℕ) (starts : start ≡ n * width c.vars) (ends : end ≡ n * width c.vars + width c.vars) where
    pub place_here : place_of (take (end - start) (drop start l)) ≡ at (table_in c l) n
    place_here = let wide : end - start ≡ width c.vars = omega (arith, starts, ends) in ap₂ (λ j b. place_of (take j (drop b l))) wide starts ∙ sym place_at

    module _ (row : List ℤ) (whole : length row ≡ length (take (end - start) (drop start l))) where
      wide : end - start ≡ width c.vars
      wide = omega (arith, starts, ends)

      long_row : length row ≡ width c.vars
      long_row = let h = row_within in whole ∙ length-take-le (end - start) (drop start l) (omega (arith, length-drop start l, starts, ends)) ∙ wide

      pub put_table : table_in c (put_mid start (end - start) l row) ≡ set (table_in c l) n (place_of row)
      put_table =
          ap₂ (λ b j. table_in c (put_mid b j l row)) (starts ∙ sym (zero-add (n * width c.vars))) wide
          ∙ put_from c.vars l row long_row 0 n (c.steps + 1) (omega arith) (let h = row_within in omega arith)

      pub put_writes : is_number 1 (get_or row 0 (pos 0)) ≡ true → Writes c l (put_mid start (end - start) l row)
      put_writes known e =
          ap (row_t c.vars) put_table
          ∙ rows_set c.vars (table_in c l) n (place_of row) (table_of_wide c.vars 0 l (c.steps + 1) (omega arith)) (let h = length-table_of c.vars 0 l (c.steps + 1) in omega arith)
          ∙ ap₂ (put_mid (n * width c.vars) (width c.vars)) e (row_was c.vars 0 row long_row (row_fine row known))
          ∙ ap₂ (λ b j. put_mid b j l row) (sym starts) (sym wide)

pub ruleset places = (place_at, row_within, place_here, put_table, put_writes)
