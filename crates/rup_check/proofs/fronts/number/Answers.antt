use Rattle.std.proofs.Common.{◌≡◌, ◌<◌, ◌^◌, ◌++◌, ◌∷◌, ℕ, List, length, take, get_or, sym, ap, subst, ◌∙◌, arith}
use Rattle.std.proofs.Math.Seq.{take-append_seam}
use Rattle.std.proofs.lemmas.Fmt.{decimal_injective}
use Rattle.std.specs.Prelude.{decimal}
use Rattle.rup_check.specs.Fronts.{IsFirst}
use Rattle.rup_check.proofs.FrontLemmas.{digits-of, first-place, seam-at, seam-inside}
use Rattle.rup_check.proofs.fronts.number.Goals as goal

-- what stands before the first byte of that kind
digits-are : (n end place : ℕ) (rest text digits : List ℕ) → n < 2 ^ 64 → end < 48 → IsFirst text end place → text ≡ decimal n ++ end ∷ rest → digits ≡ take place text → digits ≡ decimal n
digits-are n end place rest text digits h low f e d =
    let is = first-place (decimal n) rest text end place (digits-of n h) low f e in
    d ∙ (ap (λ k. take k text) is ∙ (ap (take (length (decimal n))) e ∙ take-append_seam (decimal n) (end ∷ rest)))

pub returns-in-None : goal.returns-in-None
returns-in-None c n rest b e =
    let end = c.args.end in
    let P : List ℕ → Type 0 = λ t. length (decimal n) < length t in
    let Q : List ℕ → Type 0 = λ t. get_or t (length (decimal n)) 0 ≡ end in
    c.in-None.ensures (length (decimal n)) (subst P (sym e) (seam-inside (decimal n) end rest)) (subst Q (sym e) (seam-at (decimal n) end rest))

pub returns-in-None-value : goal.returns-in-None-value
returns-in-None-value c n rest b e =
    let small = c.ranges.most.fits in
    c.in-None-value.ensures n (omega arith) (digits-are n c.args.end c.in-Some.place rest c.args.text.now c.split_at.result.0.now (omega arith) c.requires c.in-Some.ensures e c.split_at.ensures.front)

pub returns-else-number-most : goal.returns-else-number-most
returns-else-number-most c n rest b e =
    let small = c.ranges.most.fits in
    let v = c.in-Some-value.ensures in
    let digits = digits-are n c.args.end c.in-Some.place rest c.args.text.now c.split_at.result.0.now (omega arith) c.requires c.in-Some.ensures e c.split_at.ensures.front in
    let same = decimal_injective c.in-Some-value.number n (let k = v.0 in omega arith) (omega arith) (sym v.1 ∙ digits) in
    let more = c.if-number-most.false in
    omega arith
