-- What the loop over the steps of a round goes by.
use Rattle.std.proofs.Common.{◌≡◌, ℕ, ◌+◌, ◌-◌, ◌*◌, ◌<◌, ◌≤◌, Bool, true, false, ◌||◌, List, [], ◌∷◌, length, get_or, take, drop, set, ℤ, pos, sym, refl, ap, ◌∙◌, subst, ap₂}
use Rattle.std.proofs.lemmas.List.{set-get_or, take_rest}
use Rattle.program.specs.declared.Step.{Step}
use Rattle.program.specs.declared.Counts.{Counts}
use Rattle.program.specs.Program.{Prog, counts_of}
use Rattle.program.specs.Rows.{Program}
use Rattle.interval.specs.declared.Way.{Way}
use Rattle.interval.specs.declared.Way.TheVariants.{Jump, Next}
use Rattle.interval.specs.Ranges.{At, never, within, makes}
use Rattle.interval.specs.Boxes.{box_of}
use Rattle.table.specs.Tables.{Table, at, words_of}
use Rattle.table.specs.Rows.{width, wants, is_number, place_of}
use Rattle.table.proofs.Loops.{place_known, place_never}
use Rattle.fixpoint.specs.Hops.{after, sweep_from}
use Rattle.table.specs.declared.Hop.{Hop}
use Rattle.table.specs.Hops.{lands, hops_from, through, IsHop}
use Rattle.table.proofs.Hopping.{Idle, through_ways}
use Rattle.fixpoint.specs.Least.{Least, Sound}
use Rattle.fixpoint.specs.Rounds.{Round, join_into, round_hop, round, room}
use Rattle.fixpoint.specs.Ways.{Leads, rounded}
use Rattle.fixpoint.specs.Joining.{table_in, Joined, RoundSays}
use Rattle.fixpoint.proofs.Joins.{join_same}
use Rattle.fixpoint.proofs.Sweeps.{round_sound, round_same, round_last, covered_stays}
use Rattle.fixpoint.proofs.Room.{round_lowers}
use Rattle.fixpoint.proofs.Places.{place_at}

-- what a hop makes of the table, by the row of its place
module _ (c : Counts) (n : ℕ) (l row : List ℤ) (long : length l ≡ wants c) (here : n ≤ c.steps) (is : row ≡ take (width c.vars) (drop (n * width c.vars) l)) (some : 0 < length row) where
  pub at_never : is_number 1 (get_or row 0 (pos 0)) ≡ false → at (table_in c l) n ≡ never
  at_never e = place_at c n l long here ∙ ap place_of (sym is) ∙ place_never row some e

  pub after_known : (words : ℕ) (w : Way) (i : Step) → is_number 1 (get_or row 0 (pos 0)) ≡ true → makes words w i (box_of (take (length row - 1) (drop 1 row))) ≡ after words w i (at (table_in c l) n)
  after_known words w i e =
      ap (λ s. makes words w i (box_of s)) (take_rest row 1)
      ∙ ap (after words w i) (sym (place_at c n l long here ∙ ap place_of (sym is) ∙ place_known row some e))

-- where nothing is made, nothing changes
pub nothing_joined : (c : Counts) (n : ℕ) (l : List ℤ) (made : At) → made ≡ never → Joined c n made l l false
nothing_joined c n l made e = subst (λ a. Joined c n a l l false) (sym e) (record {
  table = sym (ap (set (table_in c l) n) (join_same (at (table_in c l) n) never tt) ∙ set-get_or (table_in c l) n never);
  changed = refl;
  writes = λ w. w;
})

pub made_joined : (c : Counts) (n : ℕ) (l l' : List ℤ) (y : Bool) (made made' : At) → made ≡ made' → Joined c n made l l' y → Joined c n made' l l' y
made_joined c n l l' y made made' e j = subst (λ a. Joined c n a l l' y) e j

joined_is : (c : Counts) (n : ℕ) (made : At) (l l' : List ℤ) (y : Bool) → Joined c n made l l' y → (b : Bool) → record { table = table_in c l'; changed = b || y } ≡ join_into n made (record { table = table_in c l; changed = b })
joined_is c n made l l' y j b = ap₂ (λ t y. record { table = t; changed = b || y }) j.table j.changed

-- what a hop of a program has joined is what the round makes of it
pub hop_joined : (p : Prog) (h : Hop) (words : ℕ) (c : Counts) (l l' : List ℤ) (y : Bool) → IsHop p h → words ≡ words_of p h.step → c ≡ counts_of p → Joined c h.to.0 (after words h.way h.step (at (table_in c l) h.from.0)) l l' y → (b : Bool) → record { table = table_in (counts_of p) l'; changed = b || y } ≡ round_hop p h.from.0 h.step h.way (record { table = table_in (counts_of p) l; changed = b })
hop_joined p h words c l l' y hop w e j b =
    let t = table_in (counts_of p) l in
    ap (λ c. record { table = table_in c l'; changed = b || y }) (sym e)
    ∙ joined_is c h.to.0 (after words h.way h.step (at (table_in c l) h.from.0)) l l' y j b
    ∙ ap (λ c. join_into h.to.0 (after words h.way h.step (at (table_in c l) h.from.0)) (record { table = table_in c l; changed = b })) e
    ∙ ap₂ (λ n w. join_into n (after w h.way h.step (at t h.from.0)) (record { table = t; changed = b })) hop.lands w

-- the hops of steps are all that a sweep over them does, if it does nothing for a hop that makes nothing
pub through_sweep : {A : Type 0} (f : ℕ → Step → Way → A → A) (idle : (n : ℕ) (i : Step) (w : Way) (a : A) → Idle i w → f n i w a ≡ a) (n : ℕ) (is : List Step) (a : A) → through f (hops_from n is) a ≡ sweep_from f n is a
through_sweep f idle n [] a = refl
through_sweep f idle n (i ∷ is) a = through_ways f idle n i (hops_from (n + 1) is) a ∙ through_sweep f idle (n + 1) is (f n i Next (f n i Jump a))

pub after_idle : (n : ℕ) (i : Step) (w : Way) (a : At) → Idle i w → after n w i a ≡ never
after_idle n i w never e = refl
after_idle n i w (within b) e = e n b

pub round_idle : (p : Prog) (n : ℕ) (i : Step) (w : Way) (r : Round) → Idle i w → round_hop p n i w r ≡ r
round_idle p n i w r e = ap (λ a. join_into (lands n i w) a r) (after_idle (words_of p i) i w (at r.table n) e) ∙ covered_stays (lands n i w) never r tt

-- what follows of a round from what it is
pub round_says : (s : List ℤ) (p : Prog) (t t' : Table) (y : Bool) → Program s p → record { table = t'; changed = y } ≡ round p t → RoundSays p t t' y
round_says s p t t' y is e =
    let same : t' ≡ (round p t).table = ap (λ (r : Round). r.table) e in
    let changes : y ≡ (round p t).changed = ap (λ (r : Round). r.changed) e in
    record {
      table = same;
      changed = changes;
      sound = λ h. subst (Sound p) (sym same) (round_sound s p t is h);
      lowers = λ h k. subst (λ u. room p u < room p t) (sym same) (round_lowers s p t is h (sym changes ∙ k));
      last = λ h k. let quiet = sym changes ∙ k in subst (Least p) (sym (same ∙ round_same p t quiet)) (round_last p t h quiet);
      way = λ n w. subst (Leads p (n + 1)) (sym same) (rounded w);
    }
