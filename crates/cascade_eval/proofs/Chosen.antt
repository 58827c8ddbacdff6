-- The winners are those of the definition.
use Rattle.std.proofs.Common.{◌≡◌, ℕ, List, [], ◌∷◌, Option, map, refl, sym, ap, ap₂, subst, ◌∙◌}
use Rattle.std.specs.List.{cons_option, filter, filter_map}
use Rattle.std.specs.Option.{option_map}
use Rattle.css_model.specs.declared.example.Example.{Example}
use Rattle.css_model.specs.declared.sheet.Item.{Item}
use Rattle.css_model.specs.Cascade.Winner.{AppliedDeclaration, Winner, greatest, is_understood, outcome}
use Rattle.css_model.specs.Documents.Matching.{matches}
use Rattle.css_model.specs.Documents.RunDocuments.{expand, target_of}
use Rattle.css_model.specs.Lists.{same_text}
use Rattle.cascade_eval.specs.declared.won.Won.{Won}
use Rattle.cascade_eval.specs.Entries.{AscendingNames, by_rules}
use Rattle.cascade_eval.specs.Winners.{AreWinners, applied_in, outcome_of, values_of, winner_of}
use Rattle.cascade_eval.proofs.Applied.{rules_apply}
use Rattle.cascade_eval.proofs.Named.{named_kept}

each_same : {A B : Type 0} (f g : A → Option B) → ((x : A) → f x ≡ g x) → (xs : List A) → filter_map f xs ≡ filter_map g xs
each_same f g h [] = refl
each_same {A} {B} f g h (x ∷ xs) = ap₂ (λ (o : Option B) (ys : List B). cons_option o ys) (h x) (each_same f g h xs)

all_applied : (x : Example) (items : List Item) → by_rules (matches (expand x) (target_of x)) 0 items ≡ applied_in x items
all_applied x items = rules_apply (matches (expand x) (target_of x)) 0 items

named_winner : (x : Example) (items : List Item) (es : List AppliedDeclaration) → es ≡ by_rules (matches (expand x) (target_of x)) 0 items → (name : List ℕ) →
    option_map outcome (greatest (filter (λ e. same_text e.decl.name name) es)) ≡ winner_of x items name
named_winner x items es is name =
    ap (λ (fs : List AppliedDeclaration). option_map outcome (greatest fs))
    (ap (filter (λ e. same_text e.decl.name name)) is
    ∙ sym (named_kept name (matches (expand x) (target_of x)) items)
    ∙ ap (filter (is_understood (values_of name items))) (all_applied x items))

pub winners_are : (x : Example) (items : List Item) (es : List AppliedDeclaration) (names : List (List ℕ)) (wons : List Won) →
    es ≡ by_rules (matches (expand x) (target_of x)) 0 items → AscendingNames names es →
    map (λ won. outcome_of won) wons ≡ filter_map (λ name. option_map outcome (greatest (filter (λ e. same_text e.decl.name name) es))) names →
    AreWinners x items wons
winners_are x items es names wons is ascend won = record {
  names = names;
  ascend = subst (AscendingNames names) (is ∙ all_applied x items) ascend;
  won = won ∙ each_same (λ name. option_map outcome (greatest (filter (λ e. same_text e.decl.name name) es))) (winner_of x items) (named_winner x items es is) names;
}
