-- Whether pairs weigh, by their declarations and their selectors.
use Rattle.std.proofs.Common.{◌≡◌, ◌↔◌, Bool, true, false, refl, sym, ap, ◌∙◌}
use Rattle.std.specs.Prelude.{◌&&◌, IsTrue}
use Rattle.std.proofs.lemmas.Bool.{false≢true, and_from, and_parts}
use Rattle.css_model.specs.declared.sheet.Item.{Item}
use Rattle.css_model.specs.Cascade.Order.{Pair, Weigh, WeighsKept}
use Rattle.css_model.specs.Documents.Specificity.{specificity_of}
use Rattle.order_laws.specs.Comparing.{WeighingIsDecided, weigh, weighs_kept}
use Rattle.window_order.specs.Weighing.{DeclsWeigh}

-- two tests of the same are the same
pub both_test : (a b : Bool) → (a ≡ true → b ≡ true) → (b ≡ true → a ≡ true) → a ≡ b
both_test true b h g = sym (h refl)
both_test false true h g = g refl
both_test false false h g = refl

pairs_weigh : WeighingIsDecided → (a b : Bool) (p q : Pair) → IsTrue a ↔ DeclsWeigh p.decl q.decl → IsTrue b ↔ (specificity_of p.selector ≡ specificity_of q.selector) → (a && b) ≡ weigh p q
pairs_weigh weighing a b p q decls selectors = both_test (a && b) (weigh p q) to from
  where
    to : (a && b) ≡ true → weigh p q ≡ true
    to h =
        let parts : (a ≡ true) × (b ≡ true) = and_parts a b h in
        let d : DeclsWeigh p.decl q.decl = decls.0 parts.0 in
        (weighing.0 p q).1 (record { different = d.different; names = d.names; importance = d.importance; specificity = selectors.0 parts.1 })

    from : weigh p q ≡ true → (a && b) ≡ true
    from h = let w : Weigh p q = (weighing.0 p q).0 h in
        and_from a b (decls.1 (record { different = w.different; names = w.names; importance = w.importance })) (selectors.1 w.specificity)

-- where the declarations weigh, the selectors decide
pub then_weigh : WeighingIsDecided → (a b : Bool) (p q : Pair) → IsTrue a ↔ DeclsWeigh p.decl q.decl → IsTrue b ↔ (specificity_of p.selector ≡ specificity_of q.selector) → a ≡ true → b ≡ weigh p q
then_weigh weighing a b p q decls selectors h = sym (ap (λ (z : Bool). z && b) h) ∙ pairs_weigh weighing a b p q decls selectors

pub else_weigh : WeighingIsDecided → (a : Bool) (p q : Pair) → IsTrue a ↔ DeclsWeigh p.decl q.decl → a ≡ false → a ≡ weigh p q
else_weigh weighing a p q decls h =
    both_test a (weigh p q) (λ g. absurd (false≢true (sym h ∙ g)))
    (λ g. let w : Weigh p q = (weighing.0 p q).0 g in decls.1 (record { different = w.different; names = w.names; importance = w.importance }))

pub kept_weighs : WeighingIsDecided → (a : Bool) (p : Pair) (item : Item) → IsTrue a ↔ WeighsKept p item → a ≡ weighs_kept p item
kept_weighs weighing a p item is = both_test a (weighs_kept p item) (λ h. (weighing.1 p item).1 (is.0 h)) (λ h. is.1 ((weighing.1 p item).0 h))
