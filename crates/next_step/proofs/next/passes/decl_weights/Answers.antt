use Rattle.std.proofs.Common.{◌≡◌, ◌+◌, ◌++◌, List, [], ◌∷◌, ℕ, length, map, rules, sym, ap, subst, ◌∙◌, arith}
use Rattle.std.specs.List.{AllByRecursion}
use Rattle.std.proofs.lemmas.List.{append_assoc}
use Rattle.css_model.specs.declared.sheet.DeclItem.{DeclItem}
use Rattle.css_model.specs.Sheets.Printed.{printed_declaration}
use Rattle.css_model.specs.Sheets.Sound.{IsSoundDeclaration}
use Rattle.next_step.proofs.Sharing.{all_count}
use Rattle.next_step.proofs.next.passes.decl_weights.Goals as goal

pub rest-init : goal.rest-init
rest-init c = record {
  done = (let empty : c.in_ok-weights.weights.items ≡ [] = search rules in ap (λ (ns : List ℕ). ns ++ map (λ d. length (printed_declaration c.args.source.now d) + 1) c.args.decls.now) empty);
  sound = c.requires.sound;
  small = c.requires.small;
}

pub rest-preserved : goal.rest-preserved
rest-preserved c =
    let pushed : c.push.new.self.items ≡ c.rest.weights.items ++ (c.decl.result + 1) ∷ [] = search rules in
    let all = all_count c.args.source.now c.rest.rest.now c.in-Some.behind.now c.in-Some.first.now c.in-Some.ensures.cases.0 in
    record {
      done =
          ap (λ (ns : List ℕ). ns ++ map (λ d. length (printed_declaration c.args.source.now d) + 1) c.in-Some.behind.now) pushed
          ∙ append_assoc c.rest.weights.items ((c.decl.result + 1) ∷ []) (map (λ d. length (printed_declaration c.args.source.now d) + 1) c.in-Some.behind.now)
          ∙ ap (λ (n : ℕ). c.rest.weights.items ++ ((n + 1) ∷ map (λ d. length (printed_declaration c.args.source.now d) + 1) c.in-Some.behind.now)) c.decl.ensures
          ∙ ap (λ (ds : List DeclItem). c.rest.weights.items ++ map (λ d. length (printed_declaration c.args.source.now d) + 1) ds) (sym c.in-Some.ensures.cases.0)
          ∙ c.rest.invariant.done;
      sound = (subst (AllByRecursion (IsSoundDeclaration c.args.source.now)) c.in-Some.ensures.cases.0 c.rest.invariant.sound).1;
      small = omega (arith, c.rest.invariant.small, all);
    }
