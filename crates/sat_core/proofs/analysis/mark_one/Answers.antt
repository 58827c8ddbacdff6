use Rattle.std.proofs.Common.{◌≡◌, ℕ, false, cond, Option, Some, None, sym, ap, ◌∙◌, arith}
use Rattle.std.proofs.lemmas.List.{get_or_default}
use Rattle.std.proofs.lemmas.Bool.{eq-eqb, ne_eqb}
use Rattle.sat_trail.specs.Trail.{entry_of, level_in}
use Rattle.sat_core.proofs.MarkLemmas.{marked_at-set, is_of}
use Rattle.sat_core.proofs.analysis.mark_one.Goals as goal

of-level : (o : Option ℕ) (n level : ℕ) → o ≡ Some n → n ≡ level → ◌≡◌ {A = ℕ} (cond (is_of o level) 1 0) 1
of-level o n level e l = ap (λ o. cond (is_of o level) 1 0) e ∙ ap (λ b. cond b 1 0) (eq-eqb n level l)

not-level : (o : Option ℕ) (n level : ℕ) → o ≡ Some n → (n ≡ level → ⊥) → ◌≡◌ {A = ℕ} (cond (is_of o level) 1 0) 0
not-level o n level e l = ap (λ o. cond (is_of o level) 1 0) e ∙ ap (λ b. cond b 1 0) (ne_eqb n level l)

no-level : (o : Option ℕ) (level : ℕ) → o ≡ None → ◌≡◌ {A = ℕ} (cond (is_of o level) 1 0) 0
no-level o level e = ap (λ o. cond (is_of o level) 1 0) e

pub returns-in-Some-clause-count : goal.returns-in-Some-clause-count
returns-in-Some-clause-count c =
    let entry = level_in (entry_of c.args.trail.now.entries c.args.var) in
    let s = marked_at-set c.args.seen.now.items c.args.var c.args.level c.args.trail.now.entries c.requires.trail.distinct (get_or_default c.args.seen.now.items c.args.var false _ (omega (arith, c.requires.size)) ∙ (sym c.index.ensures ∙ c.if-index.false)) (omega (arith, c.requires.size)) in
    let one = of-level entry c.in-Some.of c.args.level (sym c.level_of.ensures ∙ c.in-Some.is) c.if-of-level.true in
    omega arith

pub returns-in_default-clause-count : goal.returns-in_default-clause-count
returns-in_default-clause-count c =
    let entry = level_in (entry_of c.args.trail.now.entries c.args.var) in
    let s = marked_at-set c.args.seen.now.items c.args.var c.args.level c.args.trail.now.entries c.requires.trail.distinct (get_or_default c.args.seen.now.items c.args.var false _ (omega (arith, c.requires.size)) ∙ (sym c.index.ensures ∙ c.if-index.false)) (omega (arith, c.requires.size)) in
    let one = not-level entry c.in-Some.of c.args.level (sym c.level_of.ensures ∙ c.in-Some.is) c.if-of-level.false in
    omega arith

pub returns-in_default-2-clause-count : goal.returns-in_default-2-clause-count
returns-in_default-2-clause-count c =
    let entry = level_in (entry_of c.args.trail.now.entries c.args.var) in
    let s = marked_at-set c.args.seen.now.items c.args.var c.args.level c.args.trail.now.entries c.requires.trail.distinct (get_or_default c.args.seen.now.items c.args.var false _ (omega (arith, c.requires.size)) ∙ (sym c.index.ensures ∙ c.if-index.false)) (omega (arith, c.requires.size)) in
    let one = no-level entry c.args.level (sym c.level_of.ensures ∙ c.in_default.is) in
    omega arith
