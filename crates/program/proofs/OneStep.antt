-- One step: its row is read as that step, and what is read as a step was its row.
use Rattle.std.proofs.Common.{◌≡◌, ℕ, zero, suc, ◌+◌, cond, ◌&&◌, T, eqb, ltb, leb, List, [], ◌∷◌, ◌++◌, length, drop, ℤ, pos, Some, Ok, Result, sym, refl, ap, ◌∙◌, subst, add_assoc, arith}
use Rattle.std.specs.List.{slice_get}
use Rattle.std.proofs.lemmas.List.{append_assoc}
use Rattle.std.proofs.lemmas.Bool.{leb-true}
use Rattle.program.specs.declared.step.Step.{Step}
use Rattle.program.specs.declared.step.Step.TheVariants.{Set, Add, Sub, Mul, Load, Store, Ask, Show, Go, Less, Stop}
use Rattle.program.specs.declared.step.Operand.{Operand}
use Rattle.program.specs.declared.step.Operand.TheVariants.{Num, Var}
use Rattle.program.specs.declared.reader.Counts.{Counts}
use Rattle.program.specs.declared.refusal.Field.{Field}
use Rattle.program.specs.declared.refusal.Field.TheVariants.{Kind, OperandKind, Variable, Array, Place}
use Rattle.program.specs.declared.refusal.Refusal.{Refusal}
use Rattle.number.specs.Numbers.{in64}
use Rattle.program.specs.Rows.{row_v, row_i, ok_v, ok_i}
use Rattle.program.specs.Reading.{and_then, literal_in, index_in, operand_in, two_in, step_of, step_in, width, variable, allows}
use Rattle.program.proofs.Results.{T_true, both, both-T, ok_same, then_by, then_was, nth_drop, drop_nth, drop-next, index_reads, index_was, literal_reads, literal_was}

-- operands
pub operand_reads : (vars : ℕ) (s : List ℤ) (k : ℕ) (e : Operand) (t : List ℤ) → T (ok_v vars e) → drop k s ≡ row_v e ++ t → operand_in vars s k ≡ Ok e
operand_reads vars s k (Num z) t h e =
    let a = nth_drop s k (pos 0) (z ∷ t) e in
    let b = nth_drop s (k + 1) z t (drop-next s k 1 (pos 0 ∷ []) (z ∷ t) e refl) in
    rw (index_reads s k OperandKind 0 tt a) (rw (literal_reads s (k + 1) z h b))
operand_reads vars s k (Var x) t h e =
    let a = nth_drop s k (pos 1) (pos x.0 ∷ t) e in
    let b = nth_drop s (k + 1) (pos x.0) t (drop-next s k 1 (pos 1 ∷ []) (pos x.0 ∷ t) e refl) in
    rw (index_reads s k OperandKind 1 tt a) (rw (index_reads s (k + 1) (Variable vars) x.0 h b))

pub length-row_v : (e : Operand) → length (row_v e) ≡ 2
length-row_v (Num z) = refl
length-row_v (Var x) = refl

abbrev pub OperandWas : ℕ → List ℤ → ℕ → Operand → Type 0
OperandWas vars s k e = (drop k s ≡ row_v e ++ drop (k + 2) s) × T (ok_v vars e)

pub operand_was : (vars : ℕ) (s : List ℤ) (k : ℕ) (e : Operand) → operand_in vars s k ≡ Ok e → OperandWas vars s k e
operand_was vars s k e q =
    let v = then_was (index_in s k OperandKind) rest e q in
    let a = index_was s k OperandKind v.0 v.1 in
    by_kind v.0 a.0 a.1 v.2
  where
    rest : ℕ → Result Operand Refusal
    rest kind = cond (eqb kind 0) (and_then (literal_in s (k + 1)) (λ z. Ok (Num z))) (and_then (index_in s (k + 1) (Variable vars)) (λ x. Ok (Var (record { 0 = x }))))

    two_numbers : (y z : ℤ) → slice_get s k ≡ Some y → slice_get s (k + 1) ≡ Some z → drop k s ≡ y ∷ z ∷ drop (k + 2) s
    two_numbers y z a b = drop_nth s k y a ∙ ap (λ r. y ∷ r) (drop_nth s (k + 1) z b ∙ rw (add_assoc k 1 1) refl)

    by_kind : (kind : ℕ) → slice_get s k ≡ Some (pos kind) → T (leb kind 1) → rest kind ≡ Ok e → OperandWas vars s k e
    by_kind zero a h r =
        let v = then_was (literal_in s (k + 1)) (λ z. Ok (Num z)) e r in
        let b = literal_was s (k + 1) v.0 v.1 in
        subst (OperandWas vars s k) (ok_same _ _ v.2) (two_numbers (pos 0) v.0 a b.0, b.1)
    by_kind (suc zero) a h r =
        let v = then_was (index_in s (k + 1) (Variable vars)) (λ x. Ok (Var (record { 0 = x }))) e r in
        let b = index_was s (k + 1) (Variable vars) v.0 v.1 in
        subst (OperandWas vars s k) (ok_same _ _ v.2) (two_numbers (pos 1) (pos v.0) a b.0, b.1)
    by_kind (suc (suc n)) a h r = absurd (let l = leb-true (suc (suc n)) 1 (T_true _ h) in omega arith)

-- a number that names something, and two operands
pub two_reads : (f : Field) (vars : ℕ) (s : List ℤ) (x : ℕ) (a b : Operand) (t : List ℤ) → T (allows f x) → T (ok_v vars a && ok_v vars b) → drop 1 s ≡ pos x ∷ ((row_v a ++ row_v b) ++ t) → two_in f vars s ≡ Ok (x, a, b)
two_reads f vars s x a b t h k e =
    let ok = both (ok_v vars a) (ok_v vars b) k in
    let a_at : drop 2 s ≡ row_v a ++ (row_v b ++ t) = drop-next s 1 1 (pos x ∷ []) ((row_v a ++ row_v b) ++ t) e refl ∙ append_assoc (row_v a) (row_v b) t in
    let b_at : drop 4 s ≡ row_v b ++ t = drop-next s 2 2 (row_v a) (row_v b ++ t) a_at (length-row_v a) in
    then_by (index_in s 1 f) _ x _ (index_reads s 1 f x h (nth_drop s 1 (pos x) _ e))
    (then_by (operand_in vars s 2) _ a _ (operand_reads vars s 2 a _ ok.0 a_at)
    (then_by (operand_in vars s 4) _ b _ (operand_reads vars s 4 b t ok.1 b_at) refl))

abbrev TwoWas : Field → ℕ → List ℤ → ℕ × Operand × Operand → Type 0
TwoWas f vars s t = (drop 1 s ≡ pos t.0 ∷ ((row_v t.1 ++ row_v t.2) ++ drop 6 s)) × T (allows f t.0) × T (ok_v vars t.1 && ok_v vars t.2)

pub two_was : (f : Field) (vars : ℕ) (s : List ℤ) (t : ℕ × Operand × Operand) → two_in f vars s ≡ Ok t → TwoWas f vars s t
two_was f vars s t q =
    let u = then_was (index_in s 1 f) (λ x. and_then (operand_in vars s 2) (λ a. and_then (operand_in vars s 4) (λ b. Ok (x, a, b)))) t q in
    let v = then_was (operand_in vars s 2) (λ a. and_then (operand_in vars s 4) (λ b. Ok (u.0, a, b))) t u.2 in
    let w = then_was (operand_in vars s 4) (λ b. Ok (u.0, v.0, b)) t v.2 in
    subst (TwoWas f vars s) (ok_same _ _ w.2)
    (parts u.0 v.0 w.0 (index_was s 1 f u.0 u.1) (operand_was vars s 2 v.0 v.1) (operand_was vars s 4 w.0 w.1))
  where
    parts : (x : ℕ) (a b : Operand) → (slice_get s 1 ≡ Some (pos x)) × T (allows f x) → OperandWas vars s 2 a → OperandWas vars s 4 b → TwoWas f vars s (x, a, b)
    parts x a b h k l = (
      drop_nth s 1 (pos x) h.0 ∙ ap (λ r. pos x ∷ r) (k.0 ∙ ap (λ r. row_v a ++ r) l.0 ∙ sym (append_assoc (row_v a) (row_v b) (drop 6 s))),
      h.1,
      both-T (ok_v vars a) (ok_v vars b) k.1 l.1,
    )

-- a row of such a step
two_row : (c : Counts) (f : Field) (k : ℤ) (x : ℕ) (a b : Operand) (t : List ℤ) → T (allows f x && (ok_v c.vars a && ok_v c.vars b)) → two_in f c.vars (k ∷ pos x ∷ ((row_v a ++ row_v b) ++ t)) ≡ Ok (x, a, b)
two_row c f k x a b t h =
    let ok = both (allows f x) (ok_v c.vars a && ok_v c.vars b) h in
    two_reads f c.vars (k ∷ pos x ∷ ((row_v a ++ row_v b) ++ t)) x a b t ok.0 ok.1 refl

pub step_reads : (c : Counts) (i : Step) (t : List ℤ) → T (ok_i c i) → step_in c (row_i i ++ t) ≡ Ok i
step_reads c (Set x e) t h =
    let s = row_i (Set x e) ++ t in
    let ok = both (ltb x.0 c.vars) (ok_v c.vars e) h in
    then_by (index_in s 1 (Variable c.vars)) _ x.0 _ (index_reads s 1 (Variable c.vars) x.0 ok.0 refl)
    (then_by (operand_in c.vars s 2) _ e _ (operand_reads c.vars s 2 e t ok.1 refl) refl)
step_reads c (Add x a b) t h = ap (λ r. and_then r (λ t. Ok (Add (variable t.0) t.1 t.2))) (two_row c (Variable c.vars) (pos 1) x.0 a b t h)
step_reads c (Sub x a b) t h = ap (λ r. and_then r (λ t. Ok (Sub (variable t.0) t.1 t.2))) (two_row c (Variable c.vars) (pos 2) x.0 a b t h)
step_reads c (Mul x z e) t h =
    let s = row_i (Mul x z e) ++ t in
    let ok = both (ltb x.0 c.vars) (in64 z && ok_v c.vars e) h in
    let ok' = both (in64 z) (ok_v c.vars e) ok.1 in
    then_by (index_in s 1 (Variable c.vars)) _ x.0 _ (index_reads s 1 (Variable c.vars) x.0 ok.0 refl)
    (then_by (literal_in s 2) _ z _ (literal_reads s 2 z ok'.0 refl)
    (then_by (operand_in c.vars s 3) _ e _ (operand_reads c.vars s 3 e t ok'.1 refl) refl))
step_reads c (Load x a e) t h =
    let s = row_i (Load x a e) ++ t in
    let ok = both (ltb x.0 c.vars) (ltb a.0 c.arrays && ok_v c.vars e) h in
    let ok' = both (ltb a.0 c.arrays) (ok_v c.vars e) ok.1 in
    then_by (index_in s 1 (Variable c.vars)) _ x.0 _ (index_reads s 1 (Variable c.vars) x.0 ok.0 refl)
    (then_by (index_in s 2 (Array c.arrays)) _ a.0 _ (index_reads s 2 (Array c.arrays) a.0 ok'.0 refl)
    (then_by (operand_in c.vars s 3) _ e _ (operand_reads c.vars s 3 e t ok'.1 refl) refl))
step_reads c (Store a e f) t h = ap (λ r. and_then r (λ t. Ok (Store (record { 0 = t.0 }) t.1 t.2))) (two_row c (Array c.arrays) (pos 5) a.0 e f t h)
step_reads c (Ask x) t h =
    let s = row_i (Ask x) ++ t in
    then_by (index_in s 1 (Variable c.vars)) _ x.0 _ (index_reads s 1 (Variable c.vars) x.0 h refl) refl
step_reads c (Show e) t h =
    let s = row_i (Show e) ++ t in
    then_by (operand_in c.vars s 1) _ e _ (operand_reads c.vars s 1 e t h refl) refl
step_reads c (Go u) t h =
    let s = row_i (Go u) ++ t in
    then_by (index_in s 1 (Place c.steps)) _ u.0 _ (index_reads s 1 (Place c.steps) u.0 h refl) refl
step_reads c (Less a b u) t h = ap (λ r. and_then r (λ t. Ok (Less t.1 t.2 (record { 0 = t.0 })))) (two_row c (Place c.steps) (pos 9) u.0 a b t h)
step_reads c Stop t h = refl

-- how the rows went on behind a kind
abbrev pub Was : Counts → List ℤ → Step → Type 0
Was c s i = (s ≡ row_i i ++ drop (width i) s) × T (ok_i c i)

pub step_was : (c : Counts) (s : List ℤ) (i : Step) → step_in c s ≡ Ok i → Was c s i
step_was c s i q =
    let v = then_was (index_in s 0 Kind) (step_of c s) i q in
    let a = index_was s 0 Kind v.0 v.1 in
    by_kind v.0 (drop_nth s 0 (pos v.0) a.0) a.1 v.2
  where
    -- behind the kind, one number that names something
    named : (f : Field) (x : ℕ) → index_in s 1 f ≡ Ok x → (drop 1 s ≡ pos x ∷ drop 2 s) × T (allows f x)
    named f x r = let a = index_was s 1 f x r in (drop_nth s 1 (pos x) a.0, a.1)

    by_two : (k : ℤ) (f : Field) (t : ℕ × Operand × Operand) → s ≡ k ∷ drop 1 s → two_in f c.vars s ≡ Ok t → (s ≡ k ∷ pos t.0 ∷ ((row_v t.1 ++ row_v t.2) ++ drop 6 s)) × T (allows f t.0 && (ok_v c.vars t.1 && ok_v c.vars t.2))
    by_two k f t e r =
        let w = two_was f c.vars s t r in
        (e ∙ ap (λ u. k ∷ u) w.0, both-T (allows f t.0) (ok_v c.vars t.1 && ok_v c.vars t.2) w.1 w.2)

    by_kind : (k : ℕ) → s ≡ pos k ∷ drop 1 s → T (leb k 10) → step_of c s k ≡ Ok i → Was c s i
    by_kind zero e h r =
        let u = then_was (index_in s 1 (Variable c.vars)) (λ x. and_then (operand_in c.vars s 2) (λ e. Ok (Set (variable x) e))) i r in
        let v = then_was (operand_in c.vars s 2) (λ e. Ok (Set (variable u.0) e)) i u.2 in
        let a = named (Variable c.vars) u.0 u.1 in
        let b = operand_was c.vars s 2 v.0 v.1 in
        subst (Was c s) (ok_same _ _ v.2)
        (e ∙ ap (λ u. pos 0 ∷ u) (a.0 ∙ ap (λ w. pos u.0 ∷ w) b.0), both-T (ltb u.0 c.vars) (ok_v c.vars v.0) a.1 b.1)
    by_kind (suc zero) e h r =
        let u = then_was (two_in (Variable c.vars) c.vars s) (λ t. Ok (Add (variable t.0) t.1 t.2)) i r in
        subst (Was c s) (ok_same _ _ u.2) (by_two (pos 1) (Variable c.vars) u.0 e u.1)
    by_kind (suc (suc zero)) e h r =
        let u = then_was (two_in (Variable c.vars) c.vars s) (λ t. Ok (Sub (variable t.0) t.1 t.2)) i r in
        subst (Was c s) (ok_same _ _ u.2) (by_two (pos 2) (Variable c.vars) u.0 e u.1)
    by_kind (suc (suc (suc zero))) e h r =
        let u = then_was (index_in s 1 (Variable c.vars)) (λ x. and_then (literal_in s 2) (λ z. and_then (operand_in c.vars s 3) (λ e. Ok (Mul (variable x) z e)))) i r in
        let v = then_was (literal_in s 2) (λ z. and_then (operand_in c.vars s 3) (λ e. Ok (Mul (variable u.0) z e))) i u.2 in
        let w = then_was (operand_in c.vars s 3) (λ e. Ok (Mul (variable u.0) v.0 e)) i v.2 in
        let a = named (Variable c.vars) u.0 u.1 in
        let b = literal_was s 2 v.0 v.1 in
        let d = operand_was c.vars s 3 w.0 w.1 in
        subst (Was c s) (ok_same _ _ w.2) (
          e ∙ ap (λ q. pos 3 ∷ q) (a.0 ∙ ap (λ q. pos u.0 ∷ q) (drop_nth s 2 v.0 b.0 ∙ ap (λ q. v.0 ∷ q) d.0)),
          both-T (ltb u.0 c.vars) (in64 v.0 && ok_v c.vars w.0) a.1 (both-T (in64 v.0) (ok_v c.vars w.0) b.1 d.1),
        )
    by_kind (suc (suc (suc (suc zero)))) e h r =
        let u = then_was (index_in s 1 (Variable c.vars)) (λ x. and_then (index_in s 2 (Array c.arrays)) (λ a. and_then (operand_in c.vars s 3) (λ e. Ok (Load (variable x) (record { 0 = a }) e)))) i r in
        let v = then_was (index_in s 2 (Array c.arrays)) (λ a. and_then (operand_in c.vars s 3) (λ e. Ok (Load (variable u.0) (record { 0 = a }) e))) i u.2 in
        let w = then_was (operand_in c.vars s 3) (λ e. Ok (Load (variable u.0) (record { 0 = v.0 }) e)) i v.2 in
        let a = named (Variable c.vars) u.0 u.1 in
        let b = index_was s 2 (Array c.arrays) v.0 v.1 in
        let d = operand_was c.vars s 3 w.0 w.1 in
        subst (Was c s) (ok_same _ _ w.2) (
          e ∙ ap (λ q. pos 4 ∷ q) (a.0 ∙ ap (λ q. pos u.0 ∷ q) (drop_nth s 2 (pos v.0) b.0 ∙ ap (λ q. pos v.0 ∷ q) d.0)),
          both-T (ltb u.0 c.vars) (ltb v.0 c.arrays && ok_v c.vars w.0) a.1 (both-T (ltb v.0 c.arrays) (ok_v c.vars w.0) b.1 d.1),
        )
    by_kind (suc (suc (suc (suc (suc zero))))) e h r =
        let u = then_was (two_in (Array c.arrays) c.vars s) (λ t. Ok (Store (record { 0 = t.0 }) t.1 t.2)) i r in
        subst (Was c s) (ok_same _ _ u.2) (by_two (pos 5) (Array c.arrays) u.0 e u.1)
    by_kind (suc (suc (suc (suc (suc (suc zero)))))) e h r =
        let u = then_was (index_in s 1 (Variable c.vars)) (λ x. Ok (Ask (variable x))) i r in
        let a = named (Variable c.vars) u.0 u.1 in
        subst (Was c s) (ok_same _ _ u.2) (e ∙ ap (λ q. pos 6 ∷ q) a.0, a.1)
    by_kind (suc (suc (suc (suc (suc (suc (suc zero))))))) e h r =
        let u = then_was (operand_in c.vars s 1) (λ e. Ok (Show e)) i r in
        let b = operand_was c.vars s 1 u.0 u.1 in
        subst (Was c s) (ok_same _ _ u.2) (e ∙ ap (λ q. pos 7 ∷ q) b.0, b.1)
    by_kind (suc (suc (suc (suc (suc (suc (suc (suc zero)))))))) e h r =
        let u = then_was (index_in s 1 (Place c.steps)) (λ t. Ok (Go (record { 0 = t }))) i r in
        let a = named (Place c.steps) u.0 u.1 in
        subst (Was c s) (ok_same _ _ u.2) (e ∙ ap (λ q. pos 8 ∷ q) a.0, a.1)
    by_kind (suc (suc (suc (suc (suc (suc (suc (suc (suc zero))))))))) e h r =
        let u = then_was (two_in (Place c.steps) c.vars s) (λ t. Ok (Less t.1 t.2 (record { 0 = t.0 }))) i r in
        subst (Was c s) (ok_same _ _ u.2) (by_two (pos 9) (Place c.steps) u.0 e u.1)
    by_kind (suc (suc (suc (suc (suc (suc (suc (suc (suc (suc zero)))))))))) e h r = subst (Was c s) (ok_same _ _ r) (e, tt)
    by_kind (suc (suc (suc (suc (suc (suc (suc (suc (suc (suc (suc n))))))))))) e h r = absurd (let l = leb-true _ 10 (T_true _ h) in omega arith)
