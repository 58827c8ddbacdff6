use Rattle.std.proofs.Common.{◌≡◌, ℕ, Bool, true, false, Option, List, refl, sym, ap, ◌∙◌}
use Rattle.std.specs.Option.{is_some}
use Rattle.std.proofs.lemmas.Bool.{cond-true, cond-false}
use Rattle.cnf.specs.declared.lit.Lit.{Lit}
use Rattle.cnf.specs.Lits.{is_among, negation}
use Rattle.sat_trail.specs.declared.entry.Entry.{Entry}
use Rattle.sat_trail.specs.Places.{place}
use Rattle.sat_trail.specs.Trail.{lits}
use Rattle.sat_trail.proofs.PlaceLemmas.{is_some-place}
use Rattle.sat_trail.proofs.trail.Trail.value.Goals as goal

-- what the test of a place says of the literal
found : (es : List Entry) (l m : Lit) (p : Option ℕ) (r b : Bool) → p ≡ place es m.0 → r ≡ is_some p → r ≡ b → m ≡ l → is_among (lits es) l ≡ b
found es l m p r b e s t n = sym (is_some-place es l) ∙ (ap (λ (x : Lit). is_some (place es x.0)) (sym n) ∙ (ap is_some (sym e) ∙ (sym s ∙ t)))

pub returns-then-is_some : goal.returns-then-is_some
returns-then-is_some c =
    let es = c.args.self.now.entries in
    let here = found es c.args.lit c.args.lit c.place.result c.is_some.result true c.place.ensures c.is_some.ensures c.if-is_some.true refl in
    sym (cond-true (is_among (lits es) c.args.lit) _ _ here)

pub returns-then-is_some-2 : goal.returns-then-is_some-2
returns-then-is_some-2 c =
    let es = c.args.self.now.entries in
    let here = found es c.args.lit c.args.lit c.place.result c.is_some.result false c.place.ensures c.is_some.ensures c.if-is_some.false refl in
    let there = found es (negation c.args.lit) c.negation.result c.place-else-is_some.result c.is_some-else-is_some.result true c.place-else-is_some.ensures c.is_some-else-is_some.ensures c.if-is_some-2.true c.negation.ensures.value in
    sym (cond-false (is_among (lits es) c.args.lit) _ _ here ∙ cond-true (is_among (lits es) (negation c.args.lit)) _ _ there)

pub returns-else-is_some-2 : goal.returns-else-is_some-2
returns-else-is_some-2 c =
    let es = c.args.self.now.entries in
    let here = found es c.args.lit c.args.lit c.place.result c.is_some.result false c.place.ensures c.is_some.ensures c.if-is_some.false refl in
    let there = found es (negation c.args.lit) c.negation.result c.place-else-is_some.result c.is_some-else-is_some.result false c.place-else-is_some.ensures c.is_some-else-is_some.ensures c.if-is_some-2.false c.negation.ensures.value in
    sym (cond-false (is_among (lits es) c.args.lit) _ _ here ∙ cond-false (is_among (lits es) (negation c.args.lit)) _ _ there)
