-- What is promised of each answer.
use Rattle.std.proofs.Common.{◌≡◌, ℕ, ◌<◌, ◌≤◌, List, length, take, drop, ℤ, Err, sym, refl, ap, ◌∙◌, subst, arith}
use Rattle.std.proofs.lemmas.List.{length-take}
use Rattle.program.specs.Program.{Prog}
use Rattle.program.specs.Rows.{Program}
use Rattle.program.specs.Runs.{Run, on, stopped, fails, steps, begin}
use Rattle.program.proofs.Whole.{one_program}
use Rattle.table.specs.Tables.{Table, Holds}
use Rattle.table.specs.Rows.{row_t}
use Rattle.table.specs.declared.NotGood.{NotGood}
use Rattle.table.specs.declared.NotGood.TheVariants.{Unread as NoRows, BadTable as NoTable}
use Rattle.table.specs.Says.{Full, CheckSays}
use Rattle.table.specs.Licences.{tests}
use Rattle.table.proofs.Rows.{one_table}
use Rattle.table.proofs.Looks.{looking_once}
use Rattle.table.proofs.Truth.{tables_true, never_fails}
use Rattle.interpreter.specs.declared.ran.Ran.{Ran}
use Rattle.interpreter.specs.declared.ran.Ran.TheVariants.{Stopped, Failed, More, BadTable, Unread, OutFull, Small}
use Rattle.interpreter.specs.Ending.{shown_by, answer_of, Ends, Came, Overflows, needs}
use Rattle.interpreter.specs.Says.{RanSays, Parts, RanPost}
use Rattle.interpreter.proofs.Runs.{shown_stays}

parts : Parts
parts = record { one_program = one_program; one_table = one_table; looking_once = looking_once; tables_true = tables_true; never_fails = never_fails }

-- answers of two kinds are not the same
abbrev kind : Ran → ℕ
kind (Stopped k c) = 0
kind (Failed a k c) = 0
kind (More k c) = 0
kind BadTable = 1
kind Unread = 2
kind OutFull = 3
kind Small = 4

apart : (r q : Ran) → (kind r ≡ kind q → ⊥) → r ≡ q → ⊥
apart r q h e = h (ap kind e)

full : (p : Prog) (t : Table) → Holds p t → Full p t
full p t h = record { long = h.long; full = h.full }

module _ (s l q : List ℤ) (n : ℕ) (o o' : List ℤ) (w : ℕ) where
  abbrev Post : Ran → Type 0
  Post r = RanPost s l q n o o' w r

  pub unread : ((p : Prog) → Program s p → ⊥) → o' ≡ o → Post Unread
  unread none same = record {
    says = (none, same);
    unread = (λ h. refl, λ e. none);
    small = (λ h. absurd (none h.0 h.1), λ e. absurd (apart Unread Small (λ z. omega arith) e));
    bad_table = (λ h. absurd (none h.0 h.1), λ e. absurd (apart Unread BadTable (λ z. omega arith) e));
    out_full = (λ h. absurd (none h.0 h.2), λ e. absurd (apart Unread OutFull (λ z. omega arith) e));
    else = λ p t is. absurd (none p is);
    parts = parts;
  }

  module _ (p : Prog) (is : Program s p) where
    -- the same program
    same_needs : (p' : Prog) → Program s p' → needs p' ≡ needs p
    same_needs p' is' = ap needs (one_program s p' p is' is)

    pub small : w < needs p → o' ≡ o → Post Small
    small few same = record {
      says = same;
      unread = (λ h. absurd (h p is), λ e. absurd (apart Small Unread (λ z. omega arith) e));
      small = (λ h. refl, λ e. (p, is, few));
      bad_table = (λ h. absurd (short h.0 h.1 h.2), λ e. absurd (apart Small BadTable (λ z. omega arith) e));
      out_full = (λ h. absurd (short h.0 h.2 h.3), λ e. absurd (apart Small OutFull (λ z. omega arith) e));
      else = λ p t is enough. absurd (short p is enough);
      parts = parts;
    }
      where
        short : (p' : Prog) → Program s p' → needs p' ≤ w → ⊥
        short p' is' enough = let same = same_needs p' is' in omega arith

    module _ (enough : needs p ≤ w) where
      not_short : (p' : Prog) → Program s p' → w < needs p' → ⊥
      not_short p' is' few = let same = same_needs p' is' in omega arith

      pub bad_table : ((t : Table) → row_t p.vars t ≡ l → Holds p t → ⊥) → o' ≡ o → Post BadTable
      bad_table none same = record {
        says = (p, is, none, same);
        unread = (λ h. absurd (h p is), λ e. absurd (apart BadTable Unread (λ z. omega arith) e));
        small = (λ h. absurd (not_short h.0 h.1 h.2), λ e. absurd (apart BadTable Small (λ z. omega arith) e));
        bad_table = (λ h. refl, λ e. (p, is, enough, none));
        out_full = (λ h. absurd (not_good h.0 h.1 h.2 h.4 h.5), λ e. absurd (apart BadTable OutFull (λ z. omega arith) e));
        else = λ p t is _ e h. absurd (not_good p t is e h);
        parts = parts;
      }
        where
          not_good : (p' : Prog) (t : Table) → Program s p' → row_t p'.vars t ≡ l → Holds p' t → ⊥
          not_good p' t is' = subst (λ p. row_t p.vars t ≡ l → Holds p t → ⊥) (one_program s p p' is is') (none t)

      module _ (t : Table) (rows : row_t p.vars t ≡ l) (holds : Holds p t) where
        good : (p' : Prog) → Program s p' → ((t : Table) → row_t p'.vars t ≡ l → Holds p' t → ⊥) → ⊥
        good p' is' = subst (λ p. ((t : Table) → row_t p.vars t ≡ l → Holds p t → ⊥) → ⊥) (one_program s p p' is is') (λ none. none t rows holds)

        same_table : (p' : Prog) (t' : Table) → Program s p' → row_t p'.vars t' ≡ l → Holds p' t' → (p' ≡ p) × (t' ≡ t)
        same_table p' t' is' rows' holds' =
            let e = one_program s p' p is' is in
            let rows'' = subst (λ p. row_t p.vars t' ≡ l) e rows' in
            let holds'' = subst (λ p. Holds p t') e holds' in
            (e, one_table p t' t (full p t' holds'') (full p t holds) (rows'' ∙ sym rows))

        pub out_full : Overflows p q n (length o) → Post OutFull
        out_full over = record {
          says = (p, t, over.0, over.1, is, rows, holds, over.2, over.3, over.4);
          unread = (λ h. absurd (h p is), λ e. absurd (apart OutFull Unread (λ z. omega arith) e));
          small = (λ h. absurd (not_short h.0 h.1 h.2), λ e. absurd (apart OutFull Small (λ z. omega arith) e));
          bad_table = (λ h. absurd (good h.0 h.1 h.3), λ e. absurd (apart OutFull BadTable (λ z. omega arith) e));
          out_full = (λ h. refl, λ e. (p, t, is, enough, rows, holds, over));
          else = λ p' t' is' _ _ _ fits. absurd (fits (subst (λ p. Overflows p q n (length o)) (one_program s p p' is is') over));
          parts = parts;
        }

        module _ (long : length o' ≡ length o) where
          abbrev run : Run
          run = steps n p (begin p q)

          abbrev count : ℕ
          count = tests n p t (begin p q)

          -- what is shown had room
          no_more : take (length (shown_by run)) o' ≡ shown_by run → Overflows p q n (length o) → ⊥
          no_more e over =
              let first = shown_stays over.0 n p (begin p q) over.2 in
              let there : length over.1.shown ≡ length (shown_by (steps over.0 p (begin p q))) = ap (λ r. length (shown_by r)) (sym over.3) in
              let some = ap length (sym e) ∙ length-take (length (shown_by run)) o' in
              let more = over.4 in
              omega (arith, long, first, there, some, more)

          pub ended : (r : Ran) → Ends p t q n o o' r → Post r
          ended r ends = subst Post (sym ends.answer) (go run refl ends.shown ends.rest)
            where
              says : (x : Run) → run ≡ x → take (length (shown_by x)) o' ≡ shown_by x → drop (length (shown_by x)) o' ≡ drop (length (shown_by x)) o → RanSays s l q n o o' (answer_of x count)
              says (on x) e a b = (p, t, x, is, rows, holds, e, refl, a, b, refl)
              says (stopped x) e a b = (p, t, x, is, rows, holds, e, refl, a, b, refl)
              says (fails f x) e a b = (p, t, x, is, rows, holds, e, refl, a, b, refl)

              none : (x : Run) → kind (answer_of x count) ≡ 0
              none (on x) = refl
              none (stopped x) = refl
              none (fails f x) = refl

              go : (x : Run) → run ≡ x → take (length (shown_by x)) o' ≡ shown_by x → drop (length (shown_by x)) o' ≡ drop (length (shown_by x)) o → Post (answer_of x count)
              go x e a b =
                  let zero = none x in
                  let fits = no_more (subst (λ x. take (length (shown_by x)) o' ≡ shown_by x) (sym e) a) in
                  record {
                    says = says x e a b;
                    unread = (λ h. absurd (h p is), λ f. absurd (apart _ Unread (λ z. omega arith) f));
                    small = (λ h. absurd (not_short h.0 h.1 h.2), λ f. absurd (apart _ Small (λ z. omega arith) f));
                    bad_table = (λ h. absurd (good h.0 h.1 h.3), λ f. absurd (apart _ BadTable (λ z. omega arith) f));
                    out_full = (λ h. absurd (fits (subst (λ p. Overflows p q n (length o)) (one_program s h.0 p h.2 is) h.6)), λ f. absurd (apart _ OutFull (λ z. omega arith) f));
                    else = λ p' t' is' _ rows' holds' _.
                        let same = same_table p' t' is' rows' holds' in
                        ap (λ x. answer_of x count) (sym e)
                        ∙ subst (λ t'. answer_of run count ≡ answer_of (steps n p' (begin p' q)) (tests n p' t' (begin p' q))) (sym same.1) (ap (λ p. answer_of (steps n p (begin p q)) (tests n p t (begin p q))) (sym same.0));
                    parts = parts;
                  }

          pub came : (r : Ran) → Came p t q n o o' r → Post r
          came (Stopped k c) h = ended (Stopped k c) h
          came (Failed a k c) h = ended (Failed a k c) h
          came (More k c) h = ended (More k c) h
          came OutFull h = out_full h
          came BadTable h = absurd h
          came Unread h = absurd h
          came Small h = absurd h

-- a table that was refused is none that holds
pub refused : (s l : List ℤ) (p : Prog) (why : NotGood) → Program s p → CheckSays s l (Err why) → (t : Table) → row_t p.vars t ≡ l → Holds p t → ⊥
refused s l p (NoRows f) is h t e holds = h.0 p is
refused s l p (NoTable f) is h t e holds = subst (λ p. (t : Table) → row_t p.vars t ≡ l → Holds p t → ⊥) (one_program s h.0 p h.1 is) h.3 t e holds
