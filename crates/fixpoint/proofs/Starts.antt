-- The rows of the table from which rounds begin, and the table that rows write.
use Rattle.std.proofs.Common.{◌≡◌, ℕ, zero, suc, ◌+◌, ◌*◌, List, ◌∷◌, ◌++◌, length, set, replicate, ℤ, pos, sym, ap, ◌∙◌, subst, ap₂, suc-mul, add-mul, one-mul, zero-mul, arith}
use Rattle.std.proofs.lemmas.List.{length-replicate, replicate-append-replicate, ext_get_or}
use Rattle.program.specs.declared.Counts.{Counts}
use Rattle.program.specs.Program.{Prog, counts_of}
use Rattle.interval.specs.Ranges.{never}
use Rattle.interval.specs.Laws.{LongAt}
use Rattle.table.specs.Tables.{Table, zeros}
use Rattle.table.specs.Rows.{row_b, row_t, width, wants, place_in}
use Rattle.table.specs.Says.{Full}
use Rattle.table.proofs.Loops.{zeros_are}
use Rattle.table.proofs.Rows.{AllWide, row_box, blanks_are, length-row_t, place_is, length-table_of}
use Rattle.fixpoint.specs.Rounds.{start}
use Rattle.fixpoint.specs.Joining.{table_in}
use Rattle.fixpoint.proofs.Sweeps.{start_sound}
use Rattle.fixpoint.proofs.Places.{place_at}

rows_zeros : (k : ℕ) → row_b (zeros k) ≡ replicate (2 * k) (pos 0)
rows_zeros k = ap row_b (sym (zeros_are k)) ∙ row_box k (replicate (2 * k) (pos 0)) (length-replicate (2 * k) (pos 0))

rows_nevers : (k m : ℕ) → row_t k (replicate m never) ≡ replicate (m * width k) (pos 0)
rows_nevers k zero = ap (λ n. replicate n (pos 0)) (sym (zero-mul (width k)))
rows_nevers k (suc m) =
    let all : suc (2 * k) + m * width k ≡ suc m * width k = let e = suc-mul m (width k) in omega arith in
    ap₂ (λ x y. (pos 0 ∷ x) ++ y) (blanks_are k) (rows_nevers k m)
    ∙ replicate-append-replicate (suc (2 * k)) (m * width k) (pos 0)
    ∙ ap (λ n. replicate n (pos 0)) all

-- 1 and then zeros
pub start_rows : (c : Counts) (p : Prog) (l : List ℤ) → c ≡ counts_of p → l ≡ replicate (wants c) (pos 0) → row_t c.vars (start p) ≡ set l 0 (pos 1)
start_rows c p l e f =
    let k = c.vars in
    let m = length p.code in
    let vars : p.vars ≡ k = ap (λ (c : Counts). c.vars) (sym e) in
    let steps : c.steps ≡ m = ap (λ (c : Counts). c.steps) e in
    let all : wants c ≡ suc (2 * k + m * width k) = ap (λ n. (n + 1) * width k) steps ∙ (let h = add-mul m 1 (width k) in let i = one-mul (width k) in omega arith) in
    ap₂ (λ x y. pos 1 ∷ (x ++ y)) (ap (λ k. row_b (zeros k)) vars ∙ rows_zeros k) (rows_nevers k m)
    ∙ ap (λ x. pos 1 ∷ x) (replicate-append-replicate (2 * k) (m * width k) (pos 0))
    ∙ sym (ap (λ l. set l 0 (pos 1)) (f ∙ ap (λ n. replicate n (pos 0)) all))

-- the table that the rows of a table write is that table
pub written : (c : Counts) (p : Prog) (t : Table) (l : List ℤ) → c ≡ counts_of p → Full p t → row_t c.vars t ≡ l → table_in c l ≡ t
written c p t l e f h =
    let steps : c.steps ≡ length p.code = ap (λ (c : Counts). c.steps) e in
    let vars : p.vars ≡ c.vars = ap (λ (c : Counts). c.vars) (sym e) in
    let wide : AllWide c.vars t = λ n b known. f.full n b known ∙ vars in
    let long : length t ≡ c.steps + 1 = let k = f.long in omega arith in
    let rows : length l ≡ wants c = ap length (sym h) ∙ length-row_t c.vars t wide ∙ ap (λ n. n * width c.vars) long in
    let places = length-table_of c.vars 0 l (c.steps + 1) in
    ext_get_or never (table_in c l) t (places ∙ sym long) (λ n m. place_at c n l rows (omega arith) ∙ ap (λ l. place_in c.vars l n) (sym h) ∙ place_is c.vars t wide n)

pub start_written : (c : Counts) (p : Prog) (l : List ℤ) → c ≡ counts_of p → row_t c.vars (start p) ≡ l → table_in c l ≡ start p
start_written c p l e h =
    let sound = start_sound p in
    written c p (start p) l e (record { long = sound.long; full = λ n b known. subst (LongAt p.vars) known (sound.full n) }) h
