-- What a lower barrier hinders of shares.
use Rattle.std.proofs.Common.{◌≡◌, ◌⊎◌, ℕ, zero, suc, ◌+◌, ◌<◌, ◌≤◌, ◌==◌, Bool, true, false, not, List, [], ◌∷◌, ◌++◌, length, Option, Some, None, refl, sym, ap, ap₂, ◌∙◌, subst, inl, inr, arith}
use Rattle.std.specs.Prelude.{slice_get}
use Rattle.std.specs.List.{Contains, remove}
use Rattle.std.proofs.lemmas.Bool.Decides.{Decides-eqb}
use Rattle.std.proofs.lemmas.Option.{slice_get_within}
use Rattle.css_model.specs.declared.sheet.Decl.{Decl}
use Rattle.css_model.specs.declared.sheet.DeclItem.{DeclItem}
use Rattle.css_model.specs.declared.sheet.Item.{Item}
use Rattle.css_model.specs.declared.sheet.Item.TheVariants.{Rule}
use Rattle.css_model.specs.declared.sheet.SelItem.{SelItem}
use Rattle.css_model.specs.Cascade.Order.{Pair, HasPair, IsBefore}
use Rattle.css_model.specs.Sheets.RuleParts.{RuleParts}
use Rattle.css_model.specs.Sheets.StyleRule.{selectors_of}
use Rattle.list_facts.proofs.Members.{Contains-filter}
use Rattle.order_laws.specs.Edits.{Change, instead, is_moved, slots_from, Edit, edited}
use Rattle.order_laws.specs.Members.{has_decl}
use Rattle.order_laws.specs.Slots.{new_items}
use Rattle.order_laws.proofs.ForCallers.{before_in_two, has_append, has_at, has_decl_is, has_new, has_rule, instead_here, instead_there, map_from, map_has, moved_is, BeforeInTwo, InRule}
use Rattle.step_laws.specs.declared.step.Step.TheVariants.{Share}
use Rattle.step_laws.specs.Free.{Answered, AreNotApart}
use Rattle.step_laws.specs.RuleParting.{common_decls, item_if_any, rule_or_none, without_decls}
use Rattle.step_laws.specs.StepEdits.{share, shared}
use Rattle.step_laws.specs.Steps.{IsStep, decls_of}
use Rattle.step_laws.proofs.ForCallers.{in_common, is_common}
use Rattle.plan_laws.specs.Barrier.Hindering.{OfPair, Hinders}
use Rattle.plan_laws.specs.Barrier.Barriers.{IsLowerBarrier}
use Rattle.pending_laws.specs.Ways.{is_rule_with, moves_decl}
use Rattle.pending_laws.proofs.BarredJoins.{in_front, in_back, one_rule}
use Rattle.pending_laws.proofs.Barring.{parts}
use Rattle.pending_laws.proofs.LowerBarredJoins.{either_selector, first_selector}

-- ---- Two changes, the first in one part of a sheet and the second in the other

abbrev changes : ℕ → List Item → ℕ → List Item → List Change
changes x above l below = record { at = x; by = above } ∷ record { at = l; by = below } ∷ []

nowhere : (p : Pair) → HasPair [] p → ⊥
nowhere p h = let e : None ≡ Some (Rule h.1.rule) = h.1.rule_at in absurd cc

-- what is neither of the two stays
stays : (x l n : ℕ) (above below : List Item) (item : Item) → (x ≡ n → ⊥) → (l ≡ n → ⊥) → instead (changes x above l below) n item ≡ item ∷ []
stays x l n above below item first second =
    instead_there (record { at = x; by = above }) (record { at = l; by = below } ∷ []) n item first ∙ instead_there (record { at = l; by = below }) [] n item second

all_stay : (x l n : ℕ) (above below items : List Item) → x < n → n + length items ≤ l → new_items (slots_from n (changes x above l below) items) ≡ items
all_stay x l n above below [] before far = refl
all_stay x l n above below (item ∷ items) before far =
    ap₂ (λ (xs ys : List Item). xs ++ ys) (stays x l n above below item (λ e. absurd (omega (arith, e, before))) (λ e. absurd (omega (arith, e, far))))
    (all_stay x l (n + 1) above below items (omega (arith, before)) (omega (arith, far)))

-- in the first part what stands elsewhere than the one that changes
elsewhere : (k n l : ℕ) (above below items : List Item) (q : Pair) → n + length items ≤ l → HasPair (remove items k) q → HasPair (new_items (slots_from n (changes (n + k) above l below) items)) q
elsewhere zero n l above below [] q far h = absurd (nowhere q h)
elsewhere (suc k) n l above below [] q far h = absurd (nowhere q h)
elsewhere zero n l above below (item ∷ items) q far h =
    (has_append (instead (changes (n + 0) above l below) n item) (new_items (slots_from (n + 1) (changes (n + 0) above l below) items)) q).1
    (inr (subst (λ (xs : List Item). HasPair xs q) (sym (all_stay (n + 0) l (n + 1) above below items (omega arith) (omega (arith, far)))) h))
elsewhere (suc k) n l above below (item ∷ items) q far h =
    let e : (n + 1) + k ≡ n + suc k = omega arith in
    (has_append (instead (changes (n + suc k) above l below) n item) (new_items (slots_from (n + 1) (changes (n + suc k) above l below) items)) q).1
    (which e ((has_append (item ∷ []) (remove items k) q).0 h) (elsewhere k (n + 1) l above below items q (omega (arith, far))))
  where
    which : (n + 1) + k ≡ n + suc k → HasPair (item ∷ []) q ⊎ HasPair (remove items k) q →
        (HasPair (remove items k) q → HasPair (new_items (slots_from (n + 1) (changes ((n + 1) + k) above l below) items)) q) →
        HasPair (instead (changes (n + suc k) above l below) n item) q ⊎ HasPair (new_items (slots_from (n + 1) (changes (n + suc k) above l below) items)) q
    which e (inl here) rest = inl (subst (λ (xs : List Item). HasPair xs q) (sym (stays (n + suc k) l n above below item (λ f. absurd (omega (arith, f))) (λ f. absurd (omega (arith, f, far))))) here)
    which e (inr there) rest = inr (subst (λ (m : ℕ). HasPair (new_items (slots_from (n + 1) (changes m above l below) items)) q) e (rest there))

-- in the second part what has a pair had it, or was made
had : (x l n : ℕ) (above below items : List Item) (q : Pair) → x < n → HasPair (new_items (slots_from n (changes x above l below) items)) q → HasPair items q ⊎ HasPair below q
had x l n above below [] q before h = inl h
had x l n above below (item ∷ items) q before h =
    which ((has_append (instead (changes x above l below) n item) (new_items (slots_from (n + 1) (changes x above l below) items)) q).0 h)
    (had x l (n + 1) above below items q (omega (arith, before)))
  where
    here : (b : Bool) → (l == n) ≡ b → HasPair (instead (changes x above l below) n item) q → HasPair (item ∷ items) q ⊎ HasPair below q
    here true e k = inr (subst (λ (xs : List Item). HasPair xs q)
        (instead_there (record { at = x; by = above }) (record { at = l; by = below } ∷ []) n item (λ f. absurd (omega (arith, f, before))) ∙ instead_here (record { at = l; by = below }) [] n item ((Decides-eqb l n).0 e)) k)
    here false e k = inl ((has_append (item ∷ []) items q).1 (inl (subst (λ (xs : List Item). HasPair xs q)
        (stays x l n above below item (λ f. absurd (omega (arith, f, before))) (λ f. absurd (let t : (l == n) ≡ true = (Decides-eqb l n).1 f in cc))) k)))

    later : HasPair items q ⊎ HasPair below q → HasPair (item ∷ items) q ⊎ HasPair below q
    later (inl k) = inl ((has_append (item ∷ []) items q).1 (inr k))
    later (inr k) = inr k

    which : HasPair (instead (changes x above l below) n item) q ⊎ HasPair (new_items (slots_from (n + 1) (changes x above l below) items)) q →
        (HasPair (new_items (slots_from (n + 1) (changes x above l below) items)) q → HasPair items q ⊎ HasPair below q) → HasPair (item ∷ items) q ⊎ HasPair below q
    which (inl k) rest = here (l == n) refl k
    which (inr k) rest = later (rest k)

-- ---- What a share makes

-- an item of what is left of a rule has the pairs of that
in_item : (ss : List SelItem) (ds : List DeclItem) (r : RuleParts) (q : Pair) → HasPair (item_if_any ss ds r) q → InRule r q
in_item [] ds r q h = absurd (nowhere q h)
in_item (s ∷ ss) [] r q h = absurd (nowhere q h)
in_item (s ∷ ss) (d ∷ ds) r q h = (has_rule r q).0 h

-- the rule had each pair that is left
left_had : (gone : List DeclItem) (r : RuleParts) (q : Pair) → HasPair (rule_or_none (without_decls gone r)) q → InRule r q
left_had gone r q h =
    let w : InRule (without_decls gone r) q = in_item r.selectors (without_decls gone r).decls (without_decls gone r) q h in
    let v : (d : DeclItem) × Contains (without_decls gone r).decls d × (d.decl ≡ q.decl) = map_from (λ (x : DeclItem). x.decl) (without_decls gone r).decls q.decl w.1 in
    (w.0, subst (λ (z : Decl). Contains (decls_of r) z) v.2 (map_has (λ (x : DeclItem). x.decl) r.decls v.0 (Contains-filter (λ (x : DeclItem). not (has_decl gone x.decl)) r.decls v.0 v.1).0))

-- the declaration of a rule that a share moves
moved_in : (o : Option Item) (lower : RuleParts) (d : Decl) → o ≡ Some (Rule lower) → is_rule_with o d ≡ true → Contains (decls_of lower) d
moved_in o lower d at has = (has_decl_is lower.decls d).0 (ap (λ (z : Option Item). is_rule_with z d) (sym at) ∙ has)

module _ (answers : List Answered) (above below : List Item) (x : ℕ) (upper : RuleParts) (p q : Pair) (f : IsLowerBarrier above below x upper p q) (apart : AreNotApart answers p.selector q.selector)
    (lacks : Contains (selectors_of upper) q.selector → Contains (decls_of upper) q.decl → ⊥) (y : ℕ) (lower : RuleParts) (lower_at : slice_get below y ≡ Some (Rule lower)) (decl_in : Contains (decls_of lower) p.decl) where
  abbrev common : List DeclItem
  common = common_decls upper lower

  abbrev above_made : List Item
  above_made = rule_or_none (without_decls common upper)

  abbrev below_made : List Item
  below_made = Rule (shared upper lower) ∷ rule_or_none (without_decls common lower)

  abbrev l : ℕ
  l = length above + y

  less : x < length above
  less = slice_get_within above x (Rule upper) f.pair.rule_at

  abbrev new_above : List Item
  new_above = new_items (slots_from 0 (changes x above_made l below_made) above)

  abbrev new_below : List Item
  new_below = new_items (slots_from (length above) (changes x above_made l below_made) below)

  split : edited (share x l upper lower) (above ++ below) ≡ new_above ++ new_below
  split =
      let e : 0 + length above ≡ length above = omega arith in
      parts (changes x above_made l below_made) 0 above below ∙ ap (λ (m : ℕ). new_above ++ new_items (slots_from m (changes x above_made l below_made) below)) e

  decl_common : Contains (decls_of (shared upper lower)) p.decl
  decl_common = (has_decl_is common p.decl).0 (is_common upper lower p.decl f.pair.decl_in decl_in)

  selector_both : Contains (selectors_of (shared upper lower)) p.selector
  selector_both = first_selector upper lower p.selector f.pair.selector_in

  moved : is_moved (share x l upper lower).moved p ≡ true
  moved = (moved_is (share x l upper lower).moved p).1 (selector_both, decl_common)

  p_there : HasPair new_below p
  p_there = has_new (changes x above_made l below_made) (length above) below y (Rule lower) p lower_at
      (subst (λ (xs : List Item). HasPair xs p)
      (sym (instead_there (record { at = x; by = above_made }) (record { at = l; by = below_made } ∷ []) (length above + y) (Rule lower) (λ e. absurd (omega (arith, e, less)))
      ∙ instead_here (record { at = l; by = below_made }) [] (length above + y) (Rule lower) refl))
      ((has_append (Rule (shared upper lower) ∷ []) (rule_or_none (without_decls common lower)) p).1 (inl ((has_rule (shared upper lower) p).1 (selector_both, decl_common)))))

  lower_lacks : InRule lower q → ⊥
  lower_lacks in_it = f.not_below (has_at below y lower q lower_at in_it)

  -- a rule with the selectors of both and what they have in common lacks the other pair, too
  shared_lacks : InRule (shared upper lower) q → ⊥
  shared_lacks (selector, decl) = which (either_selector upper lower q.selector selector) (in_common upper lower q.decl decl)
    where
      which : Contains (selectors_of upper) q.selector ⊎ Contains (selectors_of lower) q.selector → Contains (decls_of upper) q.decl × Contains (decls_of lower) q.decl → ⊥
      which (inl above_has) both = lacks above_has both.0
      which (inr below_has) both = lower_lacks (below_has, both.1)

  q_gone : HasPair new_below q → ⊥
  q_gone h = which (had x l (length above) above_made below_made below q less h)
    where
      made : HasPair (Rule (shared upper lower) ∷ []) q ⊎ HasPair (rule_or_none (without_decls common lower)) q → ⊥
      made (inl k) = shared_lacks ((has_rule (shared upper lower) q).0 k)
      made (inr k) = lower_lacks (left_had common lower q k)

      which : HasPair below q ⊎ HasPair below_made q → ⊥
      which (inl k) = f.not_below k
      which (inr k) = made ((has_append (Rule (shared upper lower) ∷ []) (rule_or_none (without_decls common lower)) q).0 k)

  q_above : HasPair new_above q
  q_above =
      let e : 0 + x ≡ x = omega arith in
      subst (λ (m : ℕ). HasPair (new_items (slots_from 0 (changes m above_made l below_made) above)) q) e (elsewhere x 0 l above_made below_made above q (omega arith) f.other)

  not_before : IsBefore (edited (share x l upper lower) (above ++ below)) p q → ⊥
  not_before b = which ((before_in_two new_above new_below p q).0 (subst (λ (xs : List Item). IsBefore xs p q) split b))
    where
      which : BeforeInTwo new_above new_below p q → ⊥
      which (inl h) = q_gone (h.later, h.second.stands)
      which (inr (inl h)) = h.1 p_there
      which (inr (inr h)) = h.0 p_there

  share_hindered : Hinders answers (above ++ below) (share x l upper lower) (OfPair p q)
  share_hindered = (record { moved = moved; there = (f.order.later, f.order.second.stands); weigh = f.weigh; order = inl (f.order, not_before) }, apart)

pub shares_hindered : (answers : List Answered) (above below : List Item) (x : ℕ) (upper : RuleParts) (p q : Pair) → IsLowerBarrier above below x upper p q → AreNotApart answers p.selector q.selector →
    (Contains (selectors_of upper) q.selector → Contains (decls_of upper) q.decl → ⊥) →
    (e : Edit) (y : ℕ) → IsStep (above ++ below) (Share x (length above + y)) e → moves_decl (above ++ below) (Share x (length above + y)) p.decl ≡ true → Hinders answers (above ++ below) e (OfPair p q)
shares_hindered answers above below x upper p q f apart lacks e y j moves =
    subst (λ (d : Edit). Hinders answers (above ++ below) d (OfPair p q)) (sym (j.is ∙ ap (λ (u : RuleParts). share x (length above + y) u j.lower) same))
    (share_hindered answers above below x upper p q f apart lacks y j.lower (sym (in_back above below y) ∙ j.rules.lower_at) (moved_in (slice_get (above ++ below) (length above + y)) j.lower p.decl j.rules.lower_at moves))
  where
    same : j.upper ≡ upper
    same = one_rule (slice_get above x) j.upper upper (in_front above below x (Rule j.upper) (slice_get_within above x (Rule upper) f.pair.rule_at) j.rules.upper_at) f.pair.rule_at
