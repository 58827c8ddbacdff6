-- What may stand in the place of an item, to be fair to the pairs that are not moved.
use Rattle.std.proofs.Common.{◌≡◌, ◌↔◌, ◌⊎◌, Bool, false, List, [], ◌∷◌, ◌++◌, append-nil, Some, None, refl, ◌∙◌, inl, inr}
use Rattle.std.proofs.lemmas.List.Elements.{filter-append}
use Rattle.css_model.specs.declared.sheet.Item.{Item}
use Rattle.css_model.specs.declared.sheet.Item.TheVariants.{Rule}
use Rattle.css_model.specs.Sheets.KeptItems.{is_kept, kept_items}
use Rattle.css_model.specs.Cascade.Order.{Pair, HasPair, IsBefore}
use Rattle.css_model.specs.Sheets.RuleParts.{RuleParts}
use Rattle.order_laws.specs.Slots.{IsFair}
use Rattle.order_laws.proofs.Appended.{has_append, BeforeInTwo, before_in_two}
use Rattle.order_laws.proofs.RulePairs.{InRule, decls, has_rule, DeclBefore, before_rule}

-- nothing changes
pub same_fair : (moved : Pair → Bool) (x : Item) → IsFair moved (record { old = x; new = x ∷ [] })
same_fair moved x = record { kept = refl; pairs = λ p still. (λ h. h, λ h. h); order = λ p q still still'. (λ h. h, λ h. h) }

-- another rule, with the same pairs in the same order but for those that are moved
abbrev pub LikeRule : (Pair → Bool) → RuleParts → RuleParts → Type 0
LikeRule moved r r' = ((p : Pair) → moved p ≡ false → InRule r p ↔ InRule r' p)
    × ((p q : Pair) → moved p ≡ false → moved q ≡ false → InRule r p → InRule r q → DeclBefore (decls r.decls) p.decl q.decl ↔ DeclBefore (decls r'.decls) p.decl q.decl)

pub one_fair : (moved : Pair → Bool) (r r' : RuleParts) → LikeRule moved r r' → IsFair moved (record { old = Rule r; new = Rule r' ∷ [] })
one_fair moved r r' like = record {
  kept = refl;
  pairs = pairs;
  order = λ p q still still'. (there p q still still', back p q still still');
}
  where
    pairs : (p : Pair) → moved p ≡ false → HasPair (Rule r ∷ []) p ↔ HasPair (Rule r' ∷ []) p
    pairs p still = (λ h. (has_rule r' p).1 ((like.0 p still).0 ((has_rule r p).0 h)), λ h. (has_rule r p).1 ((like.0 p still).1 ((has_rule r' p).0 h)))

    there : (p q : Pair) → moved p ≡ false → moved q ≡ false → IsBefore (Rule r ∷ []) p q → IsBefore (Rule r' ∷ []) p q
    there p q still still' b =
        let w : InRule r p × InRule r q × DeclBefore (decls r.decls) p.decl q.decl = (before_rule r p q).0 b in
        (before_rule r' p q).1 ((like.0 p still).0 w.0, (like.0 q still').0 w.1, (like.1 p q still still' w.0 w.1).0 w.2)

    back : (p q : Pair) → moved p ≡ false → moved q ≡ false → IsBefore (Rule r' ∷ []) p q → IsBefore (Rule r ∷ []) p q
    back p q still still' b =
        let w : InRule r' p × InRule r' q × DeclBefore (decls r'.decls) p.decl q.decl = (before_rule r' p q).0 b in
        let hp : InRule r p = (like.0 p still).1 w.0 in
        let hq : InRule r q = (like.0 q still').1 w.1 in
        (before_rule r p q).1 (hp, hq, (like.1 p q still still' hp hq).1 w.2)

-- nothing, where all its pairs are moved
abbrev pub AllMoved : (Pair → Bool) → RuleParts → Type 0
AllMoved moved r = (p : Pair) → moved p ≡ false → InRule r p → ⊥

nowhere : (p : Pair) → HasPair [] p → ⊥
nowhere p h = let e : None ≡ Some (Rule h.1.rule) = h.1.rule_at in absurd cc

pub none_fair : (moved : Pair → Bool) (r : RuleParts) → AllMoved moved r → IsFair moved (record { old = Rule r; new = [] })
none_fair moved r all = record {
  kept = refl;
  pairs = λ p still. (λ h. absurd (all p still ((has_rule r p).0 h)), λ h. absurd (nowhere p h));
  order = λ p q still still'. (λ b. absurd (all p still ((has_rule r p).0 (b.place, b.first.stands))), λ b. absurd (nowhere p (b.place, b.first.stands)));
}

-- one more rule before or after what stands there, where all its pairs are moved
pub front_fair : (moved : Pair → Bool) (old : Item) (m : RuleParts) (new : List Item) → AllMoved moved m → IsFair moved (record { old = old; new = new }) → IsFair moved (record { old = old; new = Rule m ∷ new })
front_fair moved old m new all fair = record {
  kept = fair.kept;
  pairs = λ p still. (λ h. (has_append (Rule m ∷ []) new p).1 (inr ((fair.pairs p still).0 h)), λ h. (fair.pairs p still).1 (only p still ((has_append (Rule m ∷ []) new p).0 h)));
  order = λ p q still still'. (λ b. (before_in_two (Rule m ∷ []) new p q).1 (inl ((fair.order p q still still').0 b)), λ b. (fair.order p q still still').1 (first p q still ((before_in_two (Rule m ∷ []) new p q).0 b)));
}
  where
    only : (p : Pair) → moved p ≡ false → HasPair (Rule m ∷ []) p ⊎ HasPair new p → HasPair new p
    only p still (inl h) = absurd (all p still ((has_rule m p).0 h))
    only p still (inr h) = h

    first : (p q : Pair) → moved p ≡ false → BeforeInTwo (Rule m ∷ []) new p q → IsBefore new p q
    first p q still (inl b) = b
    first p q still (inr (inl (has, none, later))) = absurd (all p still ((has_rule m p).0 has))
    first p q still (inr (inr (none, none', b))) = absurd (all p still ((has_rule m p).0 (b.place, b.first.stands)))

pub back_fair : (moved : Pair → Bool) (old : Item) (m : RuleParts) (new : List Item) → AllMoved moved m → IsFair moved (record { old = old; new = new }) → IsFair moved (record { old = old; new = new ++ Rule m ∷ [] })
back_fair moved old m new all fair = record {
  kept = filter-append is_kept new (Rule m ∷ []) ∙ append-nil (kept_items new) ∙ fair.kept;
  pairs = λ p still. (λ h. (has_append new (Rule m ∷ []) p).1 (inl ((fair.pairs p still).0 h)), λ h. (fair.pairs p still).1 (only p still ((has_append new (Rule m ∷ []) p).0 h)));
  order = λ p q still still'. (
    λ b. (before_in_two new (Rule m ∷ []) p q).1 (inr (inr (lacks p still, lacks q still', (fair.order p q still still').0 b))),
    λ b. (fair.order p q still still').1 (first p q still still' ((before_in_two new (Rule m ∷ []) p q).0 b)),
  );
}
  where
    lacks : (p : Pair) → moved p ≡ false → HasPair (Rule m ∷ []) p → ⊥
    lacks p still h = all p still ((has_rule m p).0 h)

    only : (p : Pair) → moved p ≡ false → HasPair new p ⊎ HasPair (Rule m ∷ []) p → HasPair new p
    only p still (inl h) = h
    only p still (inr h) = absurd (all p still ((has_rule m p).0 h))

    first : (p q : Pair) → moved p ≡ false → moved q ≡ false → BeforeInTwo new (Rule m ∷ []) p q → IsBefore new p q
    first p q still still' (inl b) = absurd (all p still ((has_rule m p).0 (b.place, b.first.stands)))
    first p q still still' (inr (inl (has, none, later))) = absurd (all q still' ((has_rule m q).0 later))
    first p q still still' (inr (inr (none, none', b))) = b
