-- What the code of the division keeps from one digit to the next.
use Rattle.std.proofs.Common.{◌≡◌, ◌+◌, ◌<◌, ◌≤◌, ℕ, zero, suc, IsTrue, List, [], ◌∷◌, ◌++◌, length, get_or, drop, reverse, sym, ap, ◌∙◌, arith}
use Rattle.std.proofs.lemmas.Bool.{and_from}
use Rattle.std.proofs.lemmas.List.{at_drop_more, reverse-append}
use Rattle.cnf.specs.declared.lit.Lit.{Lit}
use Rattle.cnf.specs.Cnf.{Cnf}
use Rattle.cnf.specs.Lits.{are_below}
use Rattle.cnf.specs.Numbers.{with_at_least, with_reduced, Divided, with_next_digit, with_division}
use Rattle.cnf.proofs.GrowLemmas.{at_least-grows, reduced-grows, next_digit-grows}
use Rattle.cnf.proofs.LitLemmas.{is_below-mono, are_below-mono, are_below-get}
use Rattle.cnf.proofs.RangeLemmas.{at_least-below, reduced-below}

-- the digits from k on are divided
pub record DividedSoFar (start : Cnf) (x : List Lit) (by : ℕ) (f : Cnf) (quotient remainder : List Lit) (k : ℕ) : Type 0 where
  pub formula : f ≡ (with_division start (drop k x) by).formula
  pub quotient_is : reverse quotient ≡ (with_division start (drop k x) by).quotient
  pub remainder_is : remainder ≡ (with_division start (drop k x) by).remainder
  pub in_range : IsTrue (are_below f.vars remainder)
  pub grows : start.vars ≤ f.vars

-- a part of the digits has no more variables
drop_division-grows : (start : Cnf) (x : List Lit) (by j : ℕ) → (with_division start (drop j x) by).formula.vars ≤ (with_division start x by).formula.vars
drop_division-grows start x by zero = omega arith
drop_division-grows start [] by (suc j) = omega arith
drop_division-grows start (d ∷ ds) by (suc j) =
    let rest = drop_division-grows start ds by j in
    let one = next_digit-grows (with_division start ds by) d by in
    omega arith

-- the division of one digit more
abbrev pub one_more : Cnf → List Lit → ℕ → ℕ → Lit → Divided
one_more start x by j d = with_next_digit (with_division start (drop (j + 1) x) by) (get_or x j d) by

division_more : (start : Cnf) (x : List Lit) (by j : ℕ) (d : Lit) → j < length x → with_division start (drop j x) by ≡ one_more start x by j d
division_more start x by j d h = at_drop_more (λ ls. with_division start ls by) x j d h

pub take_off_room : (start f : Cnf) (x : List Lit) (by j n : ℕ) (d : Lit) (quotient remainder number : List Lit) → DividedSoFar start x by f quotient remainder (j + 1) → j < length x → number ≡ get_or x j d ∷ remainder → (with_division start x by).formula.vars ≤ n → (let fits = with_at_least f number by in (with_reduced fits.0 fits.1 number by).0.vars ≤ n)
unfolding with_next_digit
take_off_room start f x by j n d quotient remainder number s h e room =
    let grows = drop_division-grows start x by j in
    let more = ap (λ r. r.formula.vars) (division_more start x by j d h) in
    rw (e, s.formula, s.remainder_is) (omega (arith, grows, more, room))

pub digit_done : (start f g : Cnf) (x : List Lit) (by j : ℕ) (d : Lit) (quotient quotient' remainder remainder' number : List Lit) (fits : Lit) → DividedSoFar start x by f quotient remainder (j + 1) → j < length x → IsTrue (are_below start.vars x) → number ≡ get_or x j d ∷ remainder → (let a = with_at_least f number by in (g ≡ (with_reduced a.0 a.1 number by).0) × (fits ≡ a.1) × (remainder' ≡ (with_reduced a.0 a.1 number by).1)) → quotient' ≡ quotient ++ fits ∷ [] → DividedSoFar start x by g quotient' remainder' j
unfolding with_next_digit
digit_done start f g x by j d quotient quotient' remainder remainder' number fits s h hx e code eq =
    let a = with_at_least f number by in
    let more = division_more start x by j d h in
    let digit = is_below-mono start.vars f.vars s.grows (get_or x j d) (are_below-get start.vars x j d hx h) in
    let number_below : IsTrue (are_below f.vars number) = rw e (and_from _ _ digit s.in_range) in
    let up = at_least-grows f number by in
    let later = are_below-mono f.vars a.0.vars up number number_below in
    record {
      formula = code.0 ∙ (rw (e, s.formula, s.remainder_is) (sym (ap (λ r. r.formula) more)));
      quotient_is =
          ap reverse eq
          ∙ (reverse-append quotient (fits ∷ [])
          ∙ (ap (λ l. l ∷ reverse quotient) code.1
          ∙ (ap (λ ls. a.1 ∷ ls) s.quotient_is
          ∙ rw (e, s.formula, s.remainder_is) (sym (ap (λ r. r.quotient) more)))));
      remainder_is = code.2 ∙ (rw (e, s.formula, s.remainder_is) (sym (ap (λ r. r.remainder) more)));
      in_range =
          rw (code.0, code.2) (reduced-below a.0 a.1 number by (at_least-below f number by number_below) later);
      grows =
          let more_up = reduced-grows a.0 a.1 number by in
          let same = ap (λ k. k.vars) code.0 in
          omega (arith, s.grows, up, more_up, same);
    }
