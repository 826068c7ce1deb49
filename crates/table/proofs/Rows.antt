-- Tables and the rows that write them.
use Rattle.std.proofs.Common.{◌≡◌, ℕ, zero, suc, ◌+◌, ◌-◌, ◌*◌, Bool, true, false, cond, T, ◌↔◌, List, [], ◌∷◌, ◌++◌, length, take, drop, replicate, ℤ, pos, negsuc, Some, None, Option, sym, refl, ap, ◌∙◌, ap₂, suc-mul, zero-mul, arith}
use Rattle.std.specs.Option.{option_map}
use Rattle.std.proofs.lemmas.List.{length-append, length-replicate, length-take-le, length-drop, take_at, take_all, take-append-drop, drop_at, drop_all, drop-drop, ext_get_or}
use Rattle.std.proofs.lemmas.Bool.{eqb-true, false≢true}
use Rattle.program.proofs.Results.{T_true, drop-next}
use Rattle.interval.specs.Ranges.{Box, At, never, within}
use Rattle.interval.specs.Boxes.{box_of}
use Rattle.interval.proofs.Pairs.{length-box_of}
use Rattle.table.specs.declared.fault.Fault.TheVariants.{Flag, Blank}
use Rattle.table.specs.Tables.{Table, at}
use Rattle.table.specs.Rows.{row_b, blanks, row_a, row_t, width, is_number, place_of, place_in, table_of}
use Rattle.table.specs.Looking.{or_else, not_zero, row_fault, rows_fault}
use Rattle.table.specs.Says.{OneTable}

-- where nothing is found
pub some_none : {A : Type 0} (x : A) → Some x ≡ None → ⊥
some_none x e = let z : ◌≡◌ {A = ℕ} 0 1 = cc in omega arith

pub itself : (P : Type 0) → P ↔ P
itself P = (λ q. q, λ q. q)

pub none_cond : {A P : Type 0} (t : Bool) (o : Option A) (x : A) → ((o ≡ None) ↔ P) → (cond t o (Some x) ≡ None) ↔ (T t × P)
none_cond true o x h = (λ e. (tt, h.0 e), λ q. h.1 q.1)
none_cond false o x h = (λ e. absurd (some_none x e), λ q. absurd q.0)

pub none_or : {A P Q : Type 0} (o q : Option A) → ((o ≡ None) ↔ P) → ((q ≡ None) ↔ Q) → (or_else o q ≡ None) ↔ (P × Q)
none_or (Some x) q h k = (λ e. absurd (some_none x e), λ r. absurd (some_none x (h.1 r.0)))
none_or None q h k = (λ e. (h.0 refl, k.0 e), λ r. k.1 r.1)

pub none_mapped : {A B P : Type 0} (f : A → B) (o : Option A) → ((o ≡ None) ↔ P) → (option_map f o ≡ None) ↔ P
none_mapped f (Some x) h = (λ e. absurd (some_none (f x) e), λ q. absurd (some_none x (h.1 q)))
none_mapped f None h = (λ e. h.0 refl, λ q. refl)

-- the row of a place
length-row_b : (b : Box) → length (row_b b) ≡ 2 * length b
length-row_b [] = refl
length-row_b (r ∷ b) = let e = length-row_b b in omega arith

box_row : (b : Box) → box_of (row_b b) ≡ b
box_row [] = refl
box_row (r ∷ b) = ap (λ c. r ∷ c) (box_row b)

pub row_box : (k : ℕ) (s : List ℤ) → length s ≡ 2 * k → row_b (box_of s) ≡ s
row_box k [] e = refl
row_box k (a ∷ []) e = absurd (omega arith)
row_box k (a ∷ b ∷ s) e = ap (λ r. a ∷ b ∷ r) (row_box (k - 1) s (omega arith))

pub blanks_are : (n : ℕ) → blanks n ≡ replicate (2 * n) (pos 0)
blanks_are zero = refl
blanks_are (suc n) = let e : 2 * suc n ≡ suc (suc (2 * n)) = omega arith in rw e (ap (λ r. pos 0 ∷ pos 0 ∷ r) (blanks_are n))

length-blanks : (n : ℕ) → length (blanks n) ≡ 2 * n
length-blanks n = ap length (blanks_are n) ∙ length-replicate (2 * n) (pos 0)

blanks-zero : (n k : ℕ) → not_zero k (blanks n) ≡ None
blanks-zero zero k = refl
blanks-zero (suc n) k = blanks-zero n (k + 1 + 1)

number_is : (k : ℕ) (z : ℤ) → is_number k z ≡ true → z ≡ pos k
number_is k (pos n) e = ap pos (eqb-true n k e)
number_is k (negsuc n) e = absurd (false≢true e)

zeros-only : (k : ℕ) (s : List ℤ) → not_zero k s ≡ None → s ≡ replicate (length s) (pos 0)
zeros-only k [] e = refl
zeros-only k (z ∷ s) e =
    let h = (none_cond (is_number 0 z) (not_zero (k + 1) s) k (itself _)).0 e in
    ap₂ (λ y r. y ∷ r) (number_is 0 z (T_true _ h.0)) (zeros-only (k + 1) s h.1)

abbrev pub Wide : ℕ → At → Type 0
Wide k a = (b : Box) → a ≡ within b → length b ≡ k

pub length-row_a : (k : ℕ) (a : At) → Wide k a → length (row_a k a) ≡ width k
length-row_a k never h = let e = length-blanks k in omega arith
length-row_a k (within b) h = let e = length-row_b b in let f = h b refl in omega arith

place_row : (k : ℕ) (a : At) → place_of (row_a k a) ≡ a
place_row k never = refl
place_row k (within b) = ap within (box_row b)

row_good : (k n : ℕ) (a : At) → row_fault n (row_a k a) ≡ None
row_good k n never = ap (option_map Blank) (blanks-zero k (n + 1))
row_good k n (within b) = refl

pub row_was : (k n : ℕ) (row : List ℤ) → length row ≡ width k → row_fault n row ≡ None → row_a k (place_of row) ≡ row
row_was k n [] l e = absurd (omega arith)
row_was k n (z ∷ s) l e = go (is_number 1 z) (is_number 0 z) refl refl e
  where
    go : (t u : Bool) → is_number 1 z ≡ t → is_number 0 z ≡ u → cond t None (cond u (option_map Blank (not_zero (n + 1) s)) (Some (Flag n))) ≡ None → row_a k (cond t (within (box_of s)) never) ≡ z ∷ s
    go true u one nil q = ap₂ (λ y r. y ∷ r) (sym (number_is 1 z one)) (row_box k s (omega arith))
    go false true one nil q =
        let zs = zeros-only (n + 1) s ((none_mapped Blank (not_zero (n + 1) s) (itself _)).0 q) in
        let long : 2 * k ≡ length s = omega arith in
        ap₂ (λ y r. y ∷ r) (sym (number_is 0 z nil)) (blanks_are k ∙ ap (λ m. replicate m (pos 0)) long ∙ sym zs)
    go false false one nil q = absurd (some_none (Flag n) q)

row_wide : (k : ℕ) (row : List ℤ) → length row ≡ width k → Wide k (place_of row)
row_wide k [] l b e = absurd (omega arith)
row_wide k (z ∷ s) l b e = go (is_number 1 z) e
  where
    go : (t : Bool) → cond t (within (box_of s)) never ≡ within b → length b ≡ k
    go true q = let same : box_of s ≡ b = cc in let h = length-box_of s in let f = ap length same in omega arith
    go false q = absurd (let z : ◌≡◌ {A = ℕ} 0 1 = cc in omega arith)

-- the rows of a table
abbrev pub AllWide : ℕ → Table → Type 0
AllWide k t = (n : ℕ) → Wide k (at t n)

pub length-row_t : (k : ℕ) (t : Table) → AllWide k t → length (row_t k t) ≡ length t * width k
length-row_t k [] h = sym (zero-mul (width k))
length-row_t k (a ∷ t) h =
    let e = length-row_a k a (h 0) in
    let f = length-row_t k t (λ n. h (suc n)) in
    let g = length-append (row_a k a) (row_t k t) in
    let m = suc-mul (length t) (width k) in
    omega arith

pub rows_good : (k n : ℕ) (t : Table) (s : List ℤ) → AllWide k t → drop n s ≡ row_t k t → rows_fault k n s (length t) ≡ None
rows_good k n [] s h e = refl
rows_good k n (a ∷ t) s h e =
    let l = length-row_a k a (h 0) in
    let row : take (width k) (drop n s) ≡ row_a k a = ap (take (width k)) e ∙ take_at (row_a k a) (row_t k t) (width k) l in
    ap₂ or_else (ap (row_fault n) row ∙ row_good k n a) (rows_good k (n + width k) t s (λ m. h (suc m)) (drop-next s n (width k) (row_a k a) (row_t k t) e l))

-- what the rows of a table say at a place is what it knows there
pub place_is : (k : ℕ) (t : Table) → AllWide k t → (n : ℕ) → place_in k (row_t k t) n ≡ at t n
place_is k [] h n = ap place_of (ap (take (width k)) (drop_all {X = ℤ} (n * width k) [] (omega arith)) ∙ take_all {A = ℤ} (width k) [] (omega arith))
place_is k (a ∷ t) h zero =
    ap (λ m. place_of (take (width k) (drop m (row_t k (a ∷ t))))) (zero-mul (width k))
    ∙ ap place_of (take_at (row_a k a) (row_t k t) (width k) (length-row_a k a (h 0)))
    ∙ place_row k a
place_is k (a ∷ t) h (suc n) =
    let m : suc n * width k ≡ width k + n * width k = let f = suc-mul n (width k) in omega arith in
    ap (λ s. place_of (take (width k) s)) (ap (λ m. drop m (row_t k (a ∷ t))) m ∙ sym (drop-drop (n * width k) (width k) (row_t k (a ∷ t))) ∙ ap (drop (n * width k)) (drop_at (row_a k a) (row_t k t) (width k) (length-row_a k a (h 0))))
    ∙ place_is k t (λ m. h (suc m)) n

pub one_table : OneTable
one_table p t u f g e =
    ext_get_or never t u (f.long ∙ sym g.long) (λ n l. sym (place_is p.vars t f.full n) ∙ ap (λ s. place_in p.vars s n) e ∙ place_is p.vars u g.full n)

-- the table that rows write
pub length-table_of : (k n : ℕ) (s : List ℤ) (m : ℕ) → length (table_of k n s m) ≡ m
length-table_of k n s zero = refl
length-table_of k n s (suc m) = ap suc (length-table_of k (n + width k) s m)

module _ (k n : ℕ) (s : List ℤ) (m : ℕ) (long : length s ≡ n + suc m * width k) where
  row_long : length (take (width k) (drop n s)) ≡ width k
  row_long = length-take-le (width k) (drop n s) (let e = length-drop n s in let f = suc-mul m (width k) in omega arith)

  rest_long : length s ≡ n + width k + m * width k
  rest_long = let f = suc-mul m (width k) in omega arith

pub table_of_wide : (k n : ℕ) (s : List ℤ) (m : ℕ) → length s ≡ n + m * width k → AllWide k (table_of k n s m)
table_of_wide k n s zero l j b e = absurd (let z : ◌≡◌ {A = ℕ} 0 1 = cc in omega arith)
table_of_wide k n s (suc m) l zero b e = row_wide k _ (row_long k n s m l) b e
table_of_wide k n s (suc m) l (suc j) b e = table_of_wide k (n + width k) s m (rest_long k n s m l) j b e

pub table_of_rows : (k n : ℕ) (s : List ℤ) (m : ℕ) → length s ≡ n + m * width k → rows_fault k n s m ≡ None → row_t k (table_of k n s m) ≡ drop n s
table_of_rows k n s zero l e = sym (drop_all n s (let f = zero-mul (width k) in omega arith))
table_of_rows k n s (suc m) l e =
    let row = take (width k) (drop n s) in
    let h = (none_or (row_fault n row) (rows_fault k (n + width k) s m) (itself _) (itself _)).0 e in
    ap₂ (λ a b. a ++ b) (row_was k n row (row_long k n s m l) h.0) (table_of_rows k (n + width k) s m (rest_long k n s m l) h.1 ∙ sym (drop-drop (width k) n s))
    ∙ take-append-drop (width k) (drop n s)
