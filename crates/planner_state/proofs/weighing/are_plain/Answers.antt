use Rattle.std.proofs.Common.{◌≤◌, List, ◌∷◌, subst, sym, ◌∙◌, arith}
use Rattle.std.specs.List.{AllByRecursion}
use Rattle.std.proofs.lemmas.List.{nil_from_length}
use Rattle.css_model.specs.declared.sheet.DeclItem.{DeclItem}
use Rattle.css_model.specs.Sheets.Limits.{max_bytes}
use Rattle.css_model.specs.Sheets.Printed.{printed_declaration}
use Rattle.css_model.specs.Sheets.Sound.{IsSoundDeclaration}
use Rattle.planner_state.proofs.Plain.{none_plain, one_plain}
use Rattle.planner_state.proofs.weighing.are_plain.Goals as goal
use Rattle.step_laws.specs.Sizes.{weight}

pub rest-preserved : goal.rest-preserved
rest-preserved c =
    let sound : AllByRecursion (IsSoundDeclaration c.args.source.now) (c.in-Some.first.now ∷ c.in-Some.behind.now) =
    subst (λ (ds : List DeclItem). AllByRecursion (IsSoundDeclaration c.args.source.now) ds) c.in-Some.ensures.cases.0 c.rest.invariant.sound in
    let small : weight (printed_declaration c.args.source.now) (c.in-Some.first.now ∷ c.in-Some.behind.now) ≤ max_bytes =
    subst (λ (ds : List DeclItem). weight (printed_declaration c.args.source.now) ds ≤ max_bytes) c.in-Some.ensures.cases.0 c.rest.invariant.small in
    record {
      sound = sound.1;
      small = omega (arith, small);
      plain = λ others. c.rest.invariant.plain
          (one_plain c.args.source.now c.rest.rest.now c.in-Some.behind.now c.in-Some.first.now c.in-Some.ensures.cases.0 (sym c.decl.ensures ∙ c.if-decl-told_length.false ∙ c.told_length.ensures) others);
    }

pub returns : goal.returns
returns c = λ _. c.rest.invariant.plain (none_plain c.args.source.now c.rest.rest.now (nil_from_length c.rest.rest.now c.in_default.ensures.cases))
