use Rattle.std.proofs.Common.{◌≡◌, ◌↔◌, ℕ, true, Some, subst}
use Rattle.std.specs.Prelude.{slice_get}
use Rattle.css_model.specs.declared.sheet.Item.TheVariants.{Rule}
use Rattle.rule_tables.specs.Losing.{CanLoseDecl}
use Rattle.step_candidates.specs.Numbered.{numbered, numbers}
use Rattle.step_candidates.proofs.RuleNumbers.{number_there, told}
use Rattle.step_candidates.proofs.cuts.can_cut_decl.Goals as goal

pub returns : goal.returns
returns c =
    let at : slice_get c.args.on.now.sheet.now.items c.args.number ≡ Some (Rule c.in-Some.rule.now) =
    subst (λ (n : ℕ). slice_get c.args.on.now.sheet.now.items n ≡ Some (Rule c.in-Some.rule.now)) c.from-own.ensures c.in-Some.ensures.some in
    let law = c.decl_cuts_are_told.ensures c.args.on.now.sheet.now.items (numbers c.args.on.now.sheet.now.items) c.args.number c.args.number c.args.decl c.in-Some.rule.now
    (told c.args.on.now.sheet.now.items) at
    (number_there c.args.on.now.sheet.now.items c.args.number (Rule c.in-Some.rule.now) at) in
    let lost : (c.can_lose_decl.result ≡ true) ↔ CanLoseDecl (numbered c.args.on.now.sheet.now.items) c.args.number c.in-Some.rule.now c.args.decl =
    subst (λ (n : ℕ). (c.can_lose_decl.result ≡ true) ↔ CanLoseDecl (numbered c.args.on.now.sheet.now.items) n c.in-Some.rule.now c.args.decl) c.from-own.ensures c.can_lose_decl.ensures in
    (λ yes. law.1 (lost.0 yes), λ has. lost.1 (law.0 has))
