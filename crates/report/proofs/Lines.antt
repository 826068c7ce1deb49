-- What the functions that write lines go by.
use Rattle.std.proofs.Common.{◌≡◌, ℕ, ◌+◌, List, [], ◌∷◌, ◌++◌, length, ℤ, refl, ap, ◌∙◌, codes, decimal}
use Rattle.std.specs.Fmt.{signed_decimal}
use Rattle.std.proofs.lemmas.List.{append_assoc}
use Rattle.program.specs.Program.{Prog}
use Rattle.program.specs.Rows.{nats}
use Rattle.report.specs.Listing.{variables_line, array_line, array_lines, step_lines, end_line, listing_of}

-- one line more, with what is still to be written
pub line_more : (out after line rest : List ℕ) → after ≡ out ++ line → after ++ rest ≡ out ++ (line ++ rest)
line_more out after line rest e = ap (λ r. r ++ rest) e ∙ append_assoc out line rest

-- the lines of arrays, whose lengths are numbers of the rows
abbrev pub number_line : ℕ → ℤ → List ℕ
number_line k z = codes "# array a" ++ (decimal k ++ (codes " of " ++ (signed_decimal z ++ codes "\n")))

abbrev pub number_lines : ℕ → List ℤ → List ℕ
number_lines k [] = []
number_lines k (z ∷ zs) = number_line k z ++ number_lines (k + 1) zs

pub lines_nats : (k : ℕ) (ns : List ℕ) → number_lines k (nats ns) ≡ array_lines k ns
lines_nats k [] = refl
lines_nats k (n ∷ ns) = ap (λ r. array_line k n ++ r) (lines_nats (k + 1) ns)

-- the four parts of a listing, one after another
pub listing_parts : (p : Prog) (start o₁ o₂ o₃ o₄ : List ℕ) → o₁ ≡ start ++ variables_line p.vars → o₂ ≡ o₁ ++ array_lines 0 p.arrays → o₃ ≡ o₂ ++ step_lines 0 p.code → o₄ ≡ o₃ ++ end_line (length p.code) → o₄ ≡ start ++ listing_of p
listing_parts p start o₁ o₂ o₃ o₄ a b c d =
    let V = variables_line p.vars in
    let A = array_lines 0 p.arrays in
    let S = step_lines 0 p.code in
    let E = end_line (length p.code) in
    d ∙ ap (λ r. r ++ E) (c ∙ ap (λ r. r ++ S) (b ∙ ap (λ r. r ++ A) a)) ∙ simp append_assoc
