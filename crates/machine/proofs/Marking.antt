-- The marks of a program's steps: as many as there are steps, each of them where its step's row begins.
use Rattle.std.proofs.Common.{◌≡◌, ℕ, zero, suc, ◌+◌, List, [], ◌∷◌, ◌++◌, length, get_or, drop, ℤ, pos, Some, refl, ap, ap₂, arith}
use Rattle.std.specs.List.{slice_get}
use Rattle.program.specs.declared.Step.{Step}
use Rattle.program.specs.Program.{Prog, counts_of}
use Rattle.program.specs.Rows.{row_i, Program}
use Rattle.program.specs.Reading.{width, first, offsets_of}
use Rattle.program.proofs.Whole.{offsets_begin}
use Rattle.table.specs.Tables.{Table}
use Rattle.table.specs.Licences.{licensed}
use Rattle.machine.specs.Marks.{mark, marks_from}

module _ (p : Prog) (t : Table) where
  pub length_marks : (k at : ℕ) (is : List Step) → length (marks_from p t k at is) ≡ length is
  length_marks k at [] = refl
  length_marks k at (i ∷ is) = ap suc (length_marks (k + 1) (at + width i) is)

  -- the mark of a step has its offset
  mark_at : (is : List Step) (j at k n o : ℕ) → j + k ≡ n → slice_get (offsets_of at is) k ≡ Some (pos o) → get_or (marks_from p t j at is) k (pos 0) ≡ mark (licensed p t n) o
  mark_at [] j at k n o l e = absurd (let z : ◌≡◌ {A = ℕ} 0 1 = cc in omega arith)
  mark_at (i ∷ is) j at zero n o l e =
      let here : j ≡ n = omega (arith, l) in
      let same : at ≡ o = cc in
      ap₂ (λ n a. mark (licensed p t n) a) here same
  mark_at (i ∷ is) j at (suc k) n o l e = mark_at is (j + 1) (at + width i) k n o (omega (arith, l)) e

pub marked : (s : List ℤ) (p : Prog) (t : Table) (k : ℕ) (i : Step) → Program s p → slice_get p.code k ≡ Some i → (at : ℕ) × (get_or (marks_from p t 0 (first (counts_of p)) p.code) k (pos 0) ≡ mark (licensed p t k) at) × (drop at s ≡ row_i i ++ drop (at + width i) s)
marked s p t k i is h =
    let o = offsets_begin s p k i is h in
    (o.0, mark_at p t p.code 0 (first (counts_of p)) k k o.0 (omega arith) o.1, o.2)
