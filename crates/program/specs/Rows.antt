-- Programs as rows: lists of 64-bit numbers with sign.
use Rattle.std.specs.Prelude.{◌≡◌, ℕ, Bool, true, ◌&&◌, T, List, [], ◌∷◌, ◌++◌, length, ℤ, pos, nat_le, nat_lt}
use Rattle.program.specs.declared.step.Step.{Step}
use Rattle.program.specs.declared.step.Step.TheVariants.{Set, Add, Sub, Mul, Load, Store, Ask, Show, Go, Less, Stop}
use Rattle.program.specs.declared.step.Operand.{Operand}
use Rattle.program.specs.declared.step.Operand.TheVariants.{Num, Var}
use Rattle.number.specs.Numbers.{in64}
use Rattle.program.specs.declared.reader.Counts.{Counts}
use Rattle.program.specs.Program.{Prog, counts_of}

abbrev pub row_v : Operand → List ℤ
row_v (Num z) = pos 0 ∷ z ∷ []
row_v (Var x) = pos 1 ∷ pos x.0 ∷ []

abbrev pub row_i : Step → List ℤ
row_i (Set x e) = pos 0 ∷ pos x.0 ∷ row_v e
row_i (Add x e f) = pos 1 ∷ pos x.0 ∷ (row_v e ++ row_v f)
row_i (Sub x e f) = pos 2 ∷ pos x.0 ∷ (row_v e ++ row_v f)
row_i (Mul x c e) = pos 3 ∷ pos x.0 ∷ c ∷ row_v e
row_i (Load x a e) = pos 4 ∷ pos x.0 ∷ pos a.0 ∷ row_v e
row_i (Store a e f) = pos 5 ∷ pos a.0 ∷ (row_v e ++ row_v f)
row_i (Ask x) = pos 6 ∷ pos x.0 ∷ []
row_i (Show e) = pos 7 ∷ row_v e
row_i (Go t) = pos 8 ∷ pos t.0 ∷ []
row_i (Less e f t) = pos 9 ∷ pos t.0 ∷ (row_v e ++ row_v f)
row_i Stop = pos 10 ∷ []

abbrev pub row_is : List Step → List ℤ
row_is [] = []
row_is (i ∷ is) = row_i i ++ row_is is

abbrev pub nats : List ℕ → List ℤ
nats [] = []
nats (n ∷ ns) = pos n ∷ nats ns

abbrev pub row_p : Prog → List ℤ
row_p p = pos p.vars ∷ pos (length p.arrays) ∷ (nats p.arrays ++ (pos (length p.code) ∷ row_is p.code))

-- 1 to 64 variables, at most 16 arrays of at most 65,536 numbers, at most 4,096 steps, which name what is there
abbrev pub ok_v : ℕ → Operand → Bool
ok_v vars (Num z) = in64 z
ok_v vars (Var x) = nat_lt x.0 vars

abbrev pub ok_i : Counts → Step → Bool
ok_i c (Set x e) = nat_lt x.0 c.vars && ok_v c.vars e
ok_i c (Add x e f) = nat_lt x.0 c.vars && (ok_v c.vars e && ok_v c.vars f)
ok_i c (Sub x e f) = nat_lt x.0 c.vars && (ok_v c.vars e && ok_v c.vars f)
ok_i c (Mul x z e) = nat_lt x.0 c.vars && (in64 z && ok_v c.vars e)
ok_i c (Load x a e) = nat_lt x.0 c.vars && (nat_lt a.0 c.arrays && ok_v c.vars e)
ok_i c (Store a e f) = nat_lt a.0 c.arrays && (ok_v c.vars e && ok_v c.vars f)
ok_i c (Ask x) = nat_lt x.0 c.vars
ok_i c (Show e) = ok_v c.vars e
ok_i c (Go t) = nat_le t.0 c.steps
ok_i c (Less e f t) = nat_le t.0 c.steps && (ok_v c.vars e && ok_v c.vars f)
ok_i c Stop = true

abbrev pub ok_is : Counts → List Step → Bool
ok_is c [] = true
ok_is c (i ∷ is) = ok_i c i && ok_is c is

abbrev pub small : List ℕ → Bool
small [] = true
small (n ∷ ns) = nat_le n 65536 && small ns

pub record Program (s : List ℤ) (p : Prog) : Type 0 where
  pub rows : row_p p ≡ s
  pub fine : T (nat_le 1 p.vars && (nat_le p.vars 64 && (nat_le (length p.arrays) 16 && (small p.arrays && (nat_le (length p.code) 4096 && ok_is (counts_of p) p.code)))))

-- a program that some rows are
abbrev pub IsProgram : Prog → Type 0
IsProgram p = Program (row_p p) p
