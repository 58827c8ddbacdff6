use Rattle.std.proofs.Common.{◌≡◌, ℕ, List, [], ◌∷◌, ap, length, map, refl, subst, ◌∙◌, arith}
use Rattle.std.proofs.lemmas.List.{map-append, nil_from_length}
use Rattle.css_model.specs.declared.sheet.DeclItem.{DeclItem}
use Rattle.rule_tables.proofs.ListsUnder.{AreListsBehind, behind_all, behind_end, behind_next}
use Rattle.rule_tables.proofs.partners.lists_under.Goals as goal
use Rattle.rule_tables.specs.Ahead.{Reached}
use Rattle.rule_tables.specs.SharedKeys.{shared}
use Rattle.rule_tables.specs.Tables.{AreListsUnder}

pub rest-init : goal.rest-init
rest-init c = record {
  beside = c.requires;
  lists = λ final h. subst (λ (start : List Reached). AreListsBehind c.args.entries.now c.args.decls.now c.args.weights.now start final) (ap (map shared) c.in_ok-lists.ensures.items) h;
}

pub rest-preserved : goal.rest-preserved
rest-preserved c = record {
  beside =
      let one : length c.rest.rest.now ≡ length (c.in-Some.first.now ∷ c.in-Some.behind.now) = ap (λ (ds : List DeclItem). length ds) c.in-Some.ensures.cases.0 in
      let other : length c.rest.rest_of_weights.now ≡ length (c.in-Some-split_first.weight.now ∷ c.in-Some-split_first.weights_behind.now) = ap (λ (ws : List ℕ). length ws) c.in-Some-split_first.ensures.cases.0 in
      let both = c.rest.invariant.beside in
      omega (arith, one, other, both);
  lists = λ final h. c.rest.invariant.lists final
      (behind_next c.args.entries.now c.rest.rest.now c.in-Some.behind.now c.in-Some.first.now c.rest.rest_of_weights.now c.in-Some-split_first.weights_behind.now c.in-Some-split_first.weight.now (shared c.list_under.result)
      (map shared c.rest.lists.items) (map shared c.push.new.self.items) final c.in-Some.ensures.cases.0 c.in-Some-split_first.ensures.cases.0 c.list_under.ensures
      (ap (map shared) c.in_ok-push.ensures.items ∙ map-append shared c.rest.lists.items (c.list_under.result ∷ [])) h);
}

pub invariant_of-result-2 : goal.invariant_of-result-2
invariant_of-result-2 c =
    let all : AreListsUnder c.args.entries.now c.args.decls.now c.args.weights.now (map shared c.rest.lists.items) =
    behind_all c.args.entries.now c.args.decls.now c.args.weights.now [] (map shared c.rest.lists.items) refl
    (c.rest.invariant.lists (map shared c.rest.lists.items) (behind_end c.args.entries.now c.rest.rest.now c.rest.rest_of_weights.now (map shared c.rest.lists.items) (nil_from_length c.rest.rest.now c.in_default.ensures.cases)))
    in
    all.ascend

pub returns : goal.returns
returns c =
    behind_all c.args.entries.now c.args.decls.now c.args.weights.now [] (map shared c.rest.lists.items) refl
    (c.rest.invariant.lists (map shared c.rest.lists.items) (behind_end c.args.entries.now c.rest.rest.now c.rest.rest_of_weights.now (map shared c.rest.lists.items) (nil_from_length c.rest.rest.now c.in_default.ensures.cases)))
