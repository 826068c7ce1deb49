-- What is said of a table that is not good.
use Rattle.std.proofs.Common.{◌≡◌, ℕ, List, ℤ, Some, None, Ok, Err, Option, Result, sym, refl, ap, ◌∙◌, subst}
use Rattle.program.specs.declared.refusal.Refusal.{Refusal}
use Rattle.program.specs.Program.{Prog}
use Rattle.program.specs.Says.{ReadSays}
use Rattle.table.specs.declared.NotGood.{NotGood}
use Rattle.table.specs.declared.NotGood.TheVariants.{Unread as UnreadRows, BadTable as BadRows}
use Rattle.table.specs.Says.{CheckSays}
use Rattle.text.specs.Numbers.{reading, placed}
use Rattle.message.specs.declared.Error.{Error}
use Rattle.message.specs.declared.Error.TheVariants.{Unread}
use Rattle.report.specs.Checking.{Explains, CheckTextSays}
use Rattle.report.specs.Loading.{LoadProgramSays, LoadTableSays}

-- an error that explains a check
abbrev pub Explained : Option (List ℕ) → Result Prog NotGood → Error → Type 0
Explained u r e = (why : NotGood) × (r ≡ Err why) × Explains u why e

-- a text whose numbers are no program
abbrev pub Misread : List ℕ → Result Prog Refusal → Error → Type 0
Misread u r e = (f : Refusal) × (r ≡ Err f) × (e ≡ Unread f (placed u f.at))

pub not_read : (u : List ℕ) (room : ℕ) (s rows : List ℤ) → reading room u ≡ Ok rows → (e : Error) (r : Result Prog Refusal) → ReadSays rows r → Misread u r e → LoadProgramSays u room s (Err e)
not_read u room s rows a e r h x = subst (λ e. LoadProgramSays u room s (Err e)) (sym x.2) (rows, a, subst (ReadSays rows) x.1 h, refl)

-- with the texts of a program and a table, and with that of a table alone
module _ (u v : List ℕ) (m n : ℕ) (s l : List ℤ) (a : reading m u ≡ Ok s) (b : reading n v ≡ Ok l) (e : Error) where
  good_not : (why : NotGood) → CheckSays s l (Err why) → Explains (Some u) why e → CheckTextSays u v m n (Err e)
  good_not (UnreadRows f) h x = subst (λ e. CheckTextSays u v m n (Err e)) (sym x) (s, a, h, refl)
  good_not (BadRows f) h x =
      subst (λ e. CheckTextSays u v m n (Err e)) (sym x.1) (s, l, h.0, a, b, h.1, h.2 ∙ ap Some (sym x.2), h.3)

  pub not_good : (r : Result Prog NotGood) → CheckSays s l r → Explained (Some u) r e → CheckTextSays u v m n (Err e)
  not_good r h x = good_not x.0 (subst (CheckSays s l) x.1 h) x.2

module _ (u : List ℕ) (rows : List ℤ) (room : ℕ) (s l : List ℤ) (a : reading room u ≡ Ok l) (e : Error) where
  loaded_not : (why : NotGood) → CheckSays rows l (Err why) → Explains None why e → LoadTableSays u rows room s (Err e)
  loaded_not (UnreadRows f) h x = subst (λ e. LoadTableSays u rows room s (Err e)) (sym x) (h, refl)
  loaded_not (BadRows f) h x = subst (λ e. LoadTableSays u rows room s (Err e)) (sym x.1) (h.0, l, a, h.1, h.2 ∙ ap Some (sym x.2), h.3)

  pub not_loaded : (r : Result Prog NotGood) → CheckSays rows l r → Explained None r e → LoadTableSays u rows room s (Err e)
  not_loaded r h x = loaded_not x.0 (subst (CheckSays rows l) x.1 h) x.2
