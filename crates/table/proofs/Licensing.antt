-- Licences in the rows of a table; a table that knows more, with proper ranges, licenses whatever the other does.
use Rattle.std.proofs.Common.{◌≡◌, ℕ, ◌+◌, ◌*◌, ◌<◌, ◌≤◌, true, T, List, length, ℤ, pos, Some, None, Option, sym, refl, ap, ◌∙◌, add-mul, arith}
use Rattle.std.specs.List.{slice_get}
use Rattle.program.specs.declared.Step.{Step}
use Rattle.program.specs.declared.Step.TheVariants.{Set, Add, Sub, Mul, Load, Store, Ask, Show, Go, Less, Stop}
use Rattle.number.specs.Numbers.{le_z, less_z}
use Rattle.program.specs.Program.{Prog}
use Rattle.program.specs.Rows.{Program}
use Rattle.program.proofs.Whole.{few_vars, few_steps}
use Rattle.program.proofs.Within.{nth_within}
use Rattle.program.proofs.Results.{T_true, true-T, both, both-T}
use Rattle.interval.specs.declared.Range.{Range}
use Rattle.interval.specs.Ranges.{Box, At, never, within, Inside, AtLeast}
use Rattle.interval.specs.Laws.{Proper, ProperAt}
use Rattle.interval.proofs.Order.{order}
use Rattle.interval.proofs.Monotone.{Part, plus_mono, minus_mono, scaled_mono, range_mono, range_proper}
use Rattle.table.specs.Tables.{Table, at, words_of}
use Rattle.table.specs.Rows.{row_t, width, place_in}
use Rattle.table.specs.Says.{Full}
use Rattle.table.proofs.Rows.{AllWide, length-row_t, place_is}
use Rattle.table.proofs.Loops.{row_there}
use Rattle.interval.specs.Tests.{in_bits, in_array, sure}
use Rattle.table.specs.Licences.{sure_at, licensed_step, licensed, MoreLicences}

in_bits_mono : {r q : Range} → Part r q → T (in_bits q) → T (in_bits r)
in_bits_mono h k = omega (arith, order)

in_array_mono : (n : ℕ) {r q : Range} → Part r q → T (in_array n q) → T (in_array n r)
in_array_mono n {r} {q} h k =
    let l = both (le_z (pos 0) q.lo) (less_z q.hi (pos n)) k in
    both-T (le_z (pos 0) r.lo) (less_z r.hi (pos n)) (omega (arith, order)) (omega (arith, order))

-- a test that is sure in a box is sure in a smaller one
pub sure_mono : (n : ℕ) (b c : Box) (i : Step) → Proper b → Inside b c → T (sure n c i) → T (sure n b i)
sure_mono n b c (Set x e) p h k = tt
sure_mono n b c (Add x e f) p h k = in_bits_mono (plus_mono (range_mono b c e h) (range_mono b c f h)) k
sure_mono n b c (Sub x e f) p h k = in_bits_mono (minus_mono (range_mono b c e h) (range_mono b c f h)) k
sure_mono n b c (Mul x z e) p h k = in_bits_mono (scaled_mono z (range_proper b e p) (range_mono b c e h)) k
sure_mono n b c (Load x a e) p h k = in_array_mono n (range_mono b c e h) k
sure_mono n b c (Store a e f) p h k = in_array_mono n (range_mono b c e h) k
sure_mono n b c (Ask x) p h k = tt
sure_mono n b c (Show e) p h k = tt
sure_mono n b c (Go t) p h k = tt
sure_mono n b c (Less e f t) p h k = tt
sure_mono n b c Stop p h k = tt

sure_at_mono : (n : ℕ) (a c : At) (i : Step) → AtLeast a c → ProperAt a → T (sure_at n c i) → T (sure_at n a i)
sure_at_mono n never c i h p k = tt
sure_at_mono n (within b) never i h p k = absurd h
sure_at_mono n (within b) (within c) i h p k = sure_mono n b c i p h k

pub more_licences : MoreLicences
more_licences p t u n h q e = go (slice_get p.code n) e
  where
    go : (o : Option Step) → licensed_step p u n o ≡ true → licensed_step p t n o ≡ true
    go None k = refl
    go (Some i) k = T_true (sure_at (words_of p i) (at t n) i) (sure_at_mono (words_of p i) (at t n) (at u n) i h q (true-T (sure_at (words_of p i) (at u n) i) k))

-- the rows of a table, at the place of a step
module _ (s l : List ℤ) (p : Prog) (t : Table) (k n : ℕ) (i : Step) (is : Program s p) (same : k ≡ p.vars) (f : Full p t) (e : row_t k t ≡ l) (here : slice_get p.code n ≡ Some i) where
  wide : AllWide k t
  wide m b h = f.full m b h ∙ sym same

  pub row_licensed : (a : At) → place_in k l n ≡ a → sure_at (words_of p i) a i ≡ licensed p t n
  row_licensed a h =
      let there : a ≡ at t n = sym h ∙ ap (λ l. place_in k l n) (sym e) ∙ place_is k t wide n in
      ap (λ a. sure_at (words_of p i) a i) there ∙ sym (ap (licensed_step p t n) here)

  pub row_fits : (k ≤ 64) × (n < 4096) × ((n + 1) * width k ≤ length l)
  row_fits =
      let few = few_vars s p is in
      let less = nth_within p.code n i here in
      let most = few_steps s p is in
      let long : length l ≡ (length p.code + 1) * width k = ap length (sym e) ∙ length-row_t k t wide ∙ ap (λ m. m * width k) f.long in
      let room = row_there n (length p.code + 1) (width k) (length l) (omega arith) (omega arith) in
      (omega arith, omega arith, omega (arith, add-mul))
