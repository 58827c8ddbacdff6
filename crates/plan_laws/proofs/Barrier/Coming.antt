-- Steps behind an edit, of items that it left.
use Rattle.std.proofs.Common.{◌≡◌, ◌⊎◌, ◌↔◌, ℕ, ◌+◌, ◌<◌, ◌≤◌, List, [], ◌∷◌, map, length, Some, refl, sym, ap, ap₂, ◌∙◌, subst, inl, inr, arith}
use Rattle.std.specs.Prelude.{get_or, slice_get}
use Rattle.std.proofs.lemmas.Option.{slice_get-get_or}
use Rattle.css_model.specs.declared.sheet.Item.{Item}
use Rattle.css_model.specs.declared.sheet.Item.TheVariants.{Rule}
use Rattle.css_model.specs.Sheets.Limits.{max_items}
use Rattle.css_model.specs.Sheets.RuleParts.{RuleParts}
use Rattle.css_model.specs.Sheets.Sound.{IsSound}
use Rattle.css_model.specs.Sheets.StyleRule.{HaveSameSelectors}
use Rattle.order_laws.specs.Edits.{Change, Edit, edited}
use Rattle.step_laws.specs.declared.step.Step.{Step}
use Rattle.step_laws.specs.declared.step.Step.TheVariants.{CutDecl, CutSel, JoinSelUp, JoinSelDown, JoinDeclUp, JoinDeclDown, Share}
use Rattle.step_laws.specs.Sizes.{size, Saves, StepsWeigh, rules_weight, brought_weight, taken_weight}
use Rattle.step_laws.specs.StepEdits.{AreRules, join_selectors_up, join_selectors_down, join_decls_up, join_decls_down, share}
use Rattle.step_laws.specs.Steps.{HaveSameDecls, AreDeclsAmong, MayShare, IsJoin, IsStep, first_item, last_item}
use Rattle.plan_laws.specs.Barrier.Renumbering.{Leaves, new_number, renumbered, renumbered_edit, IsOfOthers, IsOfTwo}
use Rattle.plan_laws.specs.Barrier.SideBySide.{HasCome}
use Rattle.plan_laws.proofs.Barrier.Keys.{which_less}
use Rattle.plan_laws.proofs.Barrier.Renumbers.{items_stay, numbers_ascend}

-- ---- Items that were left

item_at : (items : List Item) (n : ℕ) → n < length items → (x : Item) × (slice_get items n ≡ Some x)
item_at [] n less = absurd (omega arith)
item_at (x ∷ items) n less = (get_or (x ∷ items) n x, slice_get-get_or (x ∷ items) n x less)

-- what stands at a new number stood at the old one
stood : (d : Edit) (items : List Item) (n : ℕ) (y : Item) → Leaves d n → n < length items → slice_get (edited d items) (new_number d items n) ≡ Some y → slice_get items n ≡ Some y
stood d items n y leaves less at =
    let w : (x : Item) × (slice_get items n ≡ Some x) = item_at items n less in
    w.1 ∙ sym (items_stay d items n w.0 leaves w.1) ∙ at

-- the order of new numbers is that of the old ones
in_order : (d : Edit) (items : List Item) (m n : ℕ) → Leaves d m → Leaves d n → m < length items → n < length items → new_number d items m < new_number d items n → m < n
in_order d items m n first second less less' before = which (which_less m n)
  where
    which : (m < n) ⊎ (m ≡ n) ⊎ (n < m) → m < n
    which (inl h) = h
    which (inr (inl e)) = absurd (let same : new_number d items m ≡ new_number d items n = ap (new_number d items) e in omega (arith, before, same))
    which (inr (inr h)) =
        let w : (x : Item) × (slice_get items n ≡ Some x) = item_at items n less' in
        absurd (let back : new_number d items n < new_number d items m = numbers_ascend d items n m w.0 second w.1 h in omega (arith, before, back))

rules_come : (d : Edit) (items : List Item) (x' y' : ℕ) (upper lower : RuleParts) → (first : HasCome d items x') → (second : HasCome d items y') → AreRules (edited d items) x' y' upper lower → AreRules items first.0 second.0 upper lower
rules_come d items x' y' upper lower first second rules = record {
  upper_at = stood d items first.0 (Rule upper) first.1 first.2 (subst (λ (n : ℕ). slice_get (edited d items) n ≡ Some (Rule upper)) (sym first.3) rules.upper_at);
  lower_at = stood d items second.0 (Rule lower) second.1 second.2 (subst (λ (n : ℕ). slice_get (edited d items) n ≡ Some (Rule lower)) (sym second.3) rules.lower_at);
  in_order = in_order d items first.0 second.0 first.1 second.1 first.2 second.2 (let e = first.3 in let g = second.3 in let l = rules.in_order in omega (arith, e, g, l));
}

abbrev ComesFrom : List Item → Edit → Step → Edit → Type 0
ComesFrom items d k' e' = (k : Step) × (e : Edit) × IsStep items k e × IsOfTwo k × IsOfOthers d k × (k' ≡ renumbered (new_number d items) k) × (e' ≡ renumbered_edit (new_number d items) e)

-- a join of two rules
join_comes : (items : List Item) (d : Edit) (x' y' : ℕ) (May May' : RuleParts → RuleParts → Type 0) (kind : ℕ → ℕ → Step) (edit : ℕ → ℕ → RuleParts → RuleParts → Edit) →
    ((u l : RuleParts) → May' u l → May u l) →
    ((x y : ℕ) (u l : RuleParts) → edit (new_number d items x) (new_number d items y) u l ≡ renumbered_edit (new_number d items) (edit x y u l)) →
    ((x y : ℕ) → kind (new_number d items x) (new_number d items y) ≡ renumbered (new_number d items) (kind x y)) →
    ((x y : ℕ) → IsOfTwo (kind x y)) → ((x y : ℕ) → (first_item (kind x y) ≡ x) × (last_item (kind x y) ≡ y)) →
    ((x y : ℕ) (e : Edit) → IsJoin items x y May (edit x y) e → IsStep items (kind x y) e) →
    (e' : Edit) → IsJoin (edited d items) x' y' May' (edit x' y') e' → HasCome d items x' → HasCome d items y' → ComesFrom items d (kind x' y') e'
join_comes items d x' y' May May' kind edit may same_edit same_kind two numbers is_step e' j first second = (
  kind first.0 second.0,
  edit first.0 second.0 j.upper j.lower,
  is_step first.0 second.0 (edit first.0 second.0 j.upper j.lower) (record {
    upper = j.upper;
    lower = j.lower;
    rules = rules_come d items x' y' j.upper j.lower first second j.rules;
    may = may j.upper j.lower j.may;
    is = refl;
  }),
  two first.0 second.0,
  (subst (Leaves d) (sym (numbers first.0 second.0).0) first.1, subst (Leaves d) (sym (numbers first.0 second.0).1) second.1),
  ap₂ kind (sym first.3) (sym second.3) ∙ same_kind first.0 second.0,
  j.is ∙ ap₂ (λ (x y : ℕ). edit x y j.upper j.lower) (sym first.3) (sym second.3) ∙ same_edit first.0 second.0 j.upper j.lower,
)

pub steps_come_back : (items : List Item) (d : Edit) (k' : Step) (e' : Edit) → IsOfTwo k' → (length items ≤ length (edited d items)) ⊎ (length items < max_items) →
    IsStep (edited d items) k' e' → HasCome d items (first_item k') → HasCome d items (last_item k') → ComesFrom items d k' e'
steps_come_back items d (CutDecl n i) e' two room is first second = absurd two
steps_come_back items d (CutSel n i) e' two room is first second = absurd two
steps_come_back items d (JoinSelUp x y) e' two room j first second = join_comes items d x y HaveSameSelectors HaveSameSelectors (λ m n. JoinSelUp m n) join_selectors_up (λ u l m. m) (λ m n u l. refl) (λ m n. refl) (λ m n. tt) (λ m n. (refl, refl)) (λ m n e is. is) e' j first second
steps_come_back items d (JoinSelDown x y) e' two room j first second = join_comes items d x y HaveSameSelectors HaveSameSelectors (λ m n. JoinSelDown m n) join_selectors_down (λ u l m. m) (λ m n u l. refl) (λ m n. refl) (λ m n. tt) (λ m n. (refl, refl)) (λ m n e is. is) e' j first second
steps_come_back items d (JoinDeclUp x y) e' two room j first second = join_comes items d x y HaveSameDecls HaveSameDecls (λ m n. JoinDeclUp m n) join_decls_up (λ u l m. m) (λ m n u l. refl) (λ m n. refl) (λ m n. tt) (λ m n. (refl, refl)) (λ m n e is. is) e' j first second
steps_come_back items d (JoinDeclDown x y) e' two room j first second = join_comes items d x y HaveSameDecls HaveSameDecls (λ m n. JoinDeclDown m n) join_decls_down (λ u l m. m) (λ m n u l. refl) (λ m n. refl) (λ m n. tt) (λ m n. (refl, refl)) (λ m n e is. is) e' j first second
steps_come_back items d (Share x y) e' two room j first second = join_comes items d x y (MayShare items) (MayShare (edited d items)) (λ m n. Share m n) share may (λ m n u l. refl) (λ m n. refl) (λ m n. tt) (λ m n. (refl, refl)) (λ m n e is. is) e' j first second
  where
    may : (u l : RuleParts) → MayShare (edited d items) u l → MayShare items u l
    may u l m = record { common = m.common; other_decls = m.other_decls; other_selectors = m.other_selectors; room = which room m.room }
      where
        which : (length items ≤ length (edited d items)) ⊎ (length items < max_items) → AreDeclsAmong u l ⊎ AreDeclsAmong l u ⊎ (length (edited d items) < max_items) →
            AreDeclsAmong u l ⊎ AreDeclsAmong l u ⊎ (length items < max_items)
        which r (inl h) = inl h
        which r (inr (inl h)) = inr (inl h)
        which (inl fewer) (inr (inr h)) = inr (inr (omega (arith, fewer, h)))
        which (inr few) (inr (inr h)) = inr (inr few)

-- ---- What they save

same_brought : (source : List ℕ) (f : ℕ → ℕ) (changes : List Change) → brought_weight source (map (λ (c : Change). record { at = f c.at; by = c.by }) changes) ≡ brought_weight source changes
same_brought source f [] = refl
same_brought source f (c ∷ changes) = ap (λ (n : ℕ). rules_weight source c.by + n) (same_brought source f changes)

same_taken : (source : List ℕ) (f : ℕ → ℕ) (k : Step) (upper lower : RuleParts) → taken_weight source (renumbered f k) upper lower ≡ taken_weight source k upper lower
same_taken source f (CutDecl n i) upper lower = refl
same_taken source f (CutSel n i) upper lower = refl
same_taken source f (JoinSelUp x y) upper lower = refl
same_taken source f (JoinSelDown x y) upper lower = refl
same_taken source f (JoinDeclUp x y) upper lower = refl
same_taken source f (JoinDeclDown x y) upper lower = refl
same_taken source f (Share x y) upper lower = refl

same_first : (f : ℕ → ℕ) (k : Step) → first_item (renumbered f k) ≡ f (first_item k)
same_first f (CutDecl n i) = refl
same_first f (CutSel n i) = refl
same_first f (JoinSelUp x y) = refl
same_first f (JoinSelDown x y) = refl
same_first f (JoinDeclUp x y) = refl
same_first f (JoinDeclDown x y) = refl
same_first f (Share x y) = refl

same_last : (f : ℕ → ℕ) (k : Step) → last_item (renumbered f k) ≡ f (last_item k)
same_last f (CutDecl n i) = refl
same_last f (CutSel n i) = refl
same_last f (JoinSelUp x y) = refl
same_last f (JoinSelDown x y) = refl
same_last f (JoinDeclUp x y) = refl
same_last f (JoinDeclDown x y) = refl
same_last f (Share x y) = refl

pub savings_go_on : StepsWeigh → (source : List ℕ) (items items' : List Item) (f : ℕ → ℕ) (k : Step) (e : Edit) (upper lower : RuleParts) → IsSound source items → IsSound source items' →
    IsStep items k e → IsStep items' (renumbered f k) (renumbered_edit f e) →
    slice_get items (first_item k) ≡ Some (Rule upper) → slice_get items (last_item k) ≡ Some (Rule lower) →
    slice_get items' (f (first_item k)) ≡ Some (Rule upper) → slice_get items' (f (last_item k)) ≡ Some (Rule lower) →
    (n : ℕ) → Saves source items e n ↔ Saves source items' (renumbered_edit f e) n
savings_go_on weigh source items items' f k e upper lower sound sound' step step' at below at' below' n = (λ h. omega (arith, old, new, taken, brought, h), λ h. omega (arith, old, new, taken, brought, h))
  where
    old : size source (edited e items) + taken_weight source k upper lower ≡ size source items + brought_weight source e.changes
    old = weigh source items k e step sound upper lower at below

    new : size source (edited (renumbered_edit f e) items') + taken_weight source (renumbered f k) upper lower ≡ size source items' + brought_weight source (renumbered_edit f e).changes
    new = weigh source items' (renumbered f k) (renumbered_edit f e) step' sound' upper lower
        (subst (λ (m : ℕ). slice_get items' m ≡ Some (Rule upper)) (sym (same_first f k)) at') (subst (λ (m : ℕ). slice_get items' m ≡ Some (Rule lower)) (sym (same_last f k)) below')

    taken : taken_weight source (renumbered f k) upper lower ≡ taken_weight source k upper lower
    taken = same_taken source f k upper lower

    brought : brought_weight source (renumbered_edit f e).changes ≡ brought_weight source e.changes
    brought = same_brought source f e.changes
