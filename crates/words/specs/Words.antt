-- Steps in words, as bytes.
use Rattle.std.specs.Prelude.{ℕ, List, ◌++◌, codes, decimal}
use Rattle.std.specs.Fmt.{signed_decimal}
use Rattle.program.specs.declared.Step.{Step}
use Rattle.program.specs.declared.Step.TheVariants.{Set, Add, Sub, Mul, Load, Store, Ask, Show, Go, Less, Stop}
use Rattle.program.specs.declared.Operand.{Operand}
use Rattle.program.specs.declared.Operand.TheVariants.{Num, Var}
use Rattle.program.specs.declared.Var.{Var as VarT}
use Rattle.program.specs.declared.Array.{Array}

abbrev pub var_words : VarT → List ℕ
var_words x = codes "v" ++ decimal x.0

abbrev pub array_words : Array → List ℕ
array_words a = codes "a" ++ decimal a.0

abbrev pub operand_words : Operand → List ℕ
operand_words (Num z) = signed_decimal z
operand_words (Var x) = var_words x

abbrev pub step_words : Step → List ℕ
step_words (Set x e) = codes "set " ++ (var_words x ++ (codes " = " ++ operand_words e))
step_words (Add x e f) = codes "add " ++ (var_words x ++ (codes " = " ++ (operand_words e ++ (codes " + " ++ operand_words f))))
step_words (Sub x e f) = codes "sub " ++ (var_words x ++ (codes " = " ++ (operand_words e ++ (codes " - " ++ operand_words f))))
step_words (Mul x z e) = codes "mul " ++ (var_words x ++ (codes " = " ++ (signed_decimal z ++ (codes " * " ++ operand_words e))))
step_words (Load x a e) = codes "load " ++ (var_words x ++ (codes " = " ++ (array_words a ++ (codes "[" ++ (operand_words e ++ codes "]")))))
step_words (Store a e f) = codes "store " ++ (array_words a ++ (codes "[" ++ (operand_words e ++ (codes "] = " ++ operand_words f))))
step_words (Ask x) = codes "ask " ++ var_words x
step_words (Show e) = codes "show " ++ operand_words e
step_words (Go t) = codes "go " ++ decimal t.0
step_words (Less e f t) = codes "less " ++ (operand_words e ++ (codes " < " ++ (operand_words f ++ (codes " to " ++ decimal t.0))))
step_words Stop = codes "stop"
