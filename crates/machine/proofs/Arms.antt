-- What each kind of step does to lent memory is what the program does.
use Rattle.std.proofs.Common.{◌≡◌, ℕ, ◌+◌, ◌<◌, ◌≤◌, Bool, true, false, cond, ltb, List, [], ◌∷◌, ◌++◌, length, get_or, take, set, ℤ, pos, negsuc, Some, None, Option, sym, refl, ap, ◌∙◌, subst, ap₂, arith}
use Rattle.std.proofs.lemmas.List.{length-take, length_push}
use Rattle.std.proofs.lemmas.Bool.{ltb-true, ltb-false}
use Rattle.std.specs.Option.{option_map}
use Rattle.program.specs.declared.Step.{Step}
use Rattle.program.specs.declared.Step.TheVariants.{Load, Store}
use Rattle.program.specs.declared.Operand.{Operand}
use Rattle.program.specs.declared.Var.{Var}
use Rattle.program.specs.declared.Array.{Array}
use Rattle.program.specs.Program.{Prog}
use Rattle.program.specs.Rows.{Program}
use Rattle.program.specs.Runs.{State, Run, on, fails, value, next, words, index_of, index, act}
use Rattle.program.proofs.Results.{T_true, both}
use Rattle.machine.specs.declared.cursor.Cursor.{Cursor}
use Rattle.machine.specs.declared.cursor.Outcome.{Outcome}
use Rattle.machine.specs.Layout.{state_of, split}
use Rattle.machine.specs.Acting.{words_at, start_at, onward, settled, Ready, Acted}
use Rattle.machine.proofs.Memory.{split_read, split_write, There, there}

-- what became of numbers, if a test passed
abbrev Passed : Type 0
Passed = Option (Unit {0})

abbrev changed : Passed → List ℤ → Option (List ℤ)
changed t s = option_map (λ _. s) t

-- numbers that were changed are those that a test leads to
settles : (P : Passed → List ℤ → Type 0) (b : Bool) (t : Passed) (x w : List ℤ) → changed t x ≡ cond b (Some w) None → (b ≡ true → P (Some tt) w) → (b ≡ false → P None x) → P t x
settles P true (Some u) x w e f g = let same : w ≡ x = cc in subst (P (Some u)) same (f refl)
settles P false None x w e f g = g refl
settles P true None x w e f g = cc
settles P false (Some u) x w e f g = cc

-- the variable becomes a number, if there is one
assigned : (b : Bool) (f : ℤ → List ℤ) (y : ℤ) → option_map f (cond b (Some y) None) ≡ cond b (Some (f y)) None
assigned true f y = refl
assigned false f y = refl

index_less : (n : ℕ) (z : ℤ) → index_of n z ≡ true → index z < n
index_less n (pos i) e = ltb-true i n e
index_less n (negsuc i) e = absurd (let z : ◌≡◌ {A = ℕ} 0 1 = cc in omega arith)

module _ {p : Prog} {c : Cursor} {st vs m q o : List ℤ} {sure : Bool} {i : Step} (k : Ready p c st vs m q o sure i) where
  abbrev state : State
  state = state_of p.arrays c vs m q o

  -- a test, and what becomes of the variables and the arrays if it passes
  by_test : (V M : List ℤ → List ℤ) (b : Bool) (t : Passed) (x w : List ℤ) (r : Outcome) → r ≡ settled c t → changed t x ≡ cond b (Some w) None → (b ≡ true → act p state i ≡ on (state_of p.arrays (onward c) (V w) (M w) q o)) → (b ≡ false → act p state i ≡ fails c.place state) → Acted p c vs m q o i r (V x) (M x) o
  by_test V M b t x w r h n f g = subst (λ r. Acted p c vs m q o i r (V x) (M x) o) (sym h) (settles (λ t x. Acted p c vs m q o i (settled c t) (V x) (M x) o) b t x w n f g)

-- there is no room for the number shown
pub no_room : (c : Cursor) (o o' : List ℤ) (y : ℤ) (t : Passed) → changed t o' ≡ cond (ltb c.count (length o)) (Some (set o c.count y)) None → t ≡ None → length o ≤ c.count
no_room c o o' y t n f = settles (λ t o'. t ≡ None → length o ≤ c.count) (ltb c.count (length o)) t o' (set o c.count y) n (λ b h. cc) (λ b h. ltb-false c.count (length o) b) f

pub too_many : (c : Cursor) (o : List ℤ) (z : ℤ) → c.count ≤ length o → length o ≤ c.count → length o < length (take c.count o ++ (z ∷ []))
too_many c o z l past =
    let push = length_push (take c.count o) z in
    let front = length-take c.count o in
    omega arith

-- arrays
module _ {p : Prog} {c : Cursor} {s st vs m q o : List ℤ} {sure : Bool} {x : Var} {a : Array} {e : Operand} (is : Program s p) (k : Ready p c st vs m q o sure (Load x a e)) where
  pub loads_there : There p s st m a.0
  loads_there =
      let u = both (ltb x.0 p.vars) _ k.names in
      let v = both (ltb a.0 (length p.arrays)) _ u.1 in
      there p s st vs m a.0 is k.laid (ltb-true _ _ (T_true _ v.0))

  pub by_load : (t : Passed) (vs' : List ℤ) {y : ℤ} {z : Option ℤ} {r : Outcome} → y ≡ value vs e → z ≡ cond (index_of (words_at s a.0) y) (Some (get_or m (start_at st a.0 + index y) (pos 0))) None → changed t vs' ≡ option_map (set vs x.0) z → r ≡ settled c t → Acted p c vs m q o (Load x a e) r vs' m o
  by_load t vs' {y} {z} {r} same found n h =
      let h' = loads_there in
      let i = value vs e in
      let ns = p.arrays in
      let state = state_of ns c vs m q o in
      let b = index_of (words p a.0) i in
      let tests : b ≡ index_of (words_at s a.0) y = ap₂ index_of (sym h'.long) (sym same) in
      let way : Bool → Run = λ b. cond b (on (next state (set vs x.0 (get_or (get_or (split ns m) a.0 []) (index i) (pos 0))))) (fails c.place state) in
      let reads : b ≡ true → get_or (get_or (split ns m) a.0 []) (index i) (pos 0) ≡ get_or m (start_at st a.0 + index y) (pos 0) = λ w. split_read ns m a.0 (index i) (index_less _ i w) ∙ ap₂ (λ g i. get_or m (g + index i) (pos 0)) (sym h'.first) (sym same) in
      by_test k (λ x. x) (λ x. m) _ t vs' _ r h (n ∙ ap (option_map (set vs x.0)) found ∙ assigned (index_of (words_at s a.0) y) (set vs x.0) _)
      (λ w. ap way (tests ∙ w) ∙ ap (λ z. on (next state (set vs x.0 z))) (reads (tests ∙ w)))
      (λ w. ap way (tests ∙ w))

module _ {p : Prog} {c : Cursor} {s st vs m q o : List ℤ} {sure : Bool} {a : Array} {e f : Operand} (is : Program s p) (k : Ready p c st vs m q o sure (Store a e f)) where
  pub stores_there : There p s st m a.0
  stores_there =
      let u = both (ltb a.0 (length p.arrays)) _ k.names in
      there p s st vs m a.0 is k.laid (ltb-true _ _ (T_true _ u.0))

  pub by_store : (t : Passed) (m' : List ℤ) {y v : ℤ} {r : Outcome} → y ≡ value vs e → v ≡ value vs f → changed t m' ≡ cond (index_of (words_at s a.0) y) (Some (set m (start_at st a.0 + index y) v)) None → r ≡ settled c t → Acted p c vs m q o (Store a e f) r vs m' o
  by_store t m' {y} {v} {r} same also n h =
      let h' = stores_there in
      let z = value vs e in
      let ns = p.arrays in
      let state = state_of ns c vs m q o in
      let b = index_of (words p a.0) z in
      let tests : b ≡ index_of (words_at s a.0) y = ap₂ index_of (sym h'.long) (sym same) in
      let with-arrays : List (List ℤ) → Run = λ r. on (record { at = c.place + 1; vars = vs; arrays = r; asked = state.asked; shown = state.shown }) in
      let way : Bool → Run = λ b. cond b (with-arrays (set (split ns m) a.0 (set (get_or (split ns m) a.0 []) (index z) (value vs f)))) (fails c.place state) in
      let writes : b ≡ true → set (split ns m) a.0 (set (get_or (split ns m) a.0 []) (index z) (value vs f)) ≡ split ns (set m (start_at st a.0 + index y) v) = λ w. sym (split_write ns m a.0 (index z) (value vs f) (index_less _ z w)) ∙ ap₂ (λ g z. split ns (set m (g + index z) (value vs f))) (sym h'.first) (sym same) ∙ ap (λ v. split ns (set m (start_at st a.0 + index y) v)) (sym also) in
      by_test k (λ x. vs) (λ x. x) _ t m' _ r h n
      (λ w. ap way (tests ∙ w) ∙ ap with-arrays (writes (tests ∙ w)))
      (λ w. ap way (tests ∙ w))
