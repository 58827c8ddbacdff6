-- The steps in the scope of a candidate: cuts of its item, and steps with partners.
use Rattle.std.proofs.Common.{◌≡◌, ◌⊎◌, ℕ, ◌<◌, ◌≤◌, List, Option, Some, length, sym, ap, subst, inl, inr, ◌∙◌, arith}
use Rattle.std.specs.Prelude.{nat_lt, slice_get, slice_index}
use Rattle.std.proofs.lemmas.Bool.{cond_both, ltb-false, ltb-true}
use Rattle.std.proofs.lemmas.Option.{slice_get_within}
use Rattle.css_model.specs.declared.sheet.Item.{Item}
use Rattle.css_model.specs.declared.sheet.Item.TheVariants.{Rule}
use Rattle.css_model.specs.Sheets.RuleParts.{RuleParts}
use Rattle.pending_laws.specs.ItemIds.{later_created, owner}
use Rattle.pending_laws.specs.Scopes.{Scope, Alone, Owned, Ups, Downs, IsInScope}
use Rattle.pending_laws.specs.Priorities.{named}
use Rattle.step_queue.specs.declared.candidate.Candidate.{Candidate}
use Rattle.step_queue.specs.declared.candidate.Scope as coded
use Rattle.step_queue.specs.declared.candidate.Scope.TheVariants as scopes
use Rattle.step_queue.specs.Told.{candidate_told, scope_told}
use Rattle.order_laws.specs.Edits.{Edit}
use Rattle.indexed_sheet.specs.IndexedParts.{IndexedParts}
use Rattle.indexed_sheet.specs.declared.marks.Mark.{Mark}
use Rattle.indexed_sheet.specs.MarkList.{AreMarks, IsOrderKeyAt, LacksOrderKey}
use Rattle.step_laws.specs.declared.step.Step.{Step}
use Rattle.step_laws.specs.declared.step.Step.TheVariants.{CutDecl, CutSel, JoinSelUp, JoinSelDown, JoinDeclUp, JoinDeclDown, Share}
use Rattle.step_laws.specs.Steps.{IsStep, first_item, last_item}
use Rattle.step_savings.proofs.ForCallers.{first_rule, last_rule}
use Rattle.next_step.specs.Kinds.{IsByDecls, IsSelectorJoin}
use Rattle.next_step.specs.Looking.{FoundParts, IsWith, Reaches}
use Rattle.indexed_sheet.specs.MarkList.{item_ids_of, order_keys_of}
use Rattle.next_step.specs.Named.{IsQueuedBeside}
use Rattle.next_step.specs.Viewed.{CoversIn, IsFocus}
use Rattle.next_step.specs.declared.view.Focus.{Focus}
use Rattle.next_step.specs.declared.view.View.{View}
use Rattle.next_step.proofs.Telling.{item_id_at, mark_of, mark_there, same_item_id, same_order_key, there_of}
use Rattle.plan_laws.specs.Barrier.Renumbering.{IsOfTwo}

-- ---- Of two items the later created

abbrev item_ids : IndexedParts → List ℕ
item_ids indexed = item_ids_of indexed.marks

-- it is one of the two
later_is_one : (xs : List ℕ) (x y b : ℕ) → b ≡ slice_index xs (later_created xs x y) → (slice_index xs x ≡ b) ⊎ (slice_index xs y ≡ b)
later_is_one xs x y b is = cond_both (nat_lt (slice_index xs x) (slice_index xs y)) y x (λ n. b ≡ slice_index xs n → (slice_index xs x ≡ b) ⊎ (slice_index xs y ≡ b)) (λ less here. inr (sym here)) (λ more here. inl (sym here)) is

-- and neither was created later
pub later_most : (xs : List ℕ) (x y : ℕ) → (slice_index xs x ≤ slice_index xs (later_created xs x y)) × (slice_index xs y ≤ slice_index xs (later_created xs x y))
later_most xs x y = cond_both (nat_lt (slice_index xs x) (slice_index xs y)) y x (λ n. (slice_index xs x ≤ slice_index xs n) × (slice_index xs y ≤ slice_index xs n))
    (λ less. let h : slice_index xs x < slice_index xs y = ltb-true (slice_index xs x) (slice_index xs y) less in (omega (arith, h), omega arith))
    (λ more. let h : slice_index xs y ≤ slice_index xs x = ltb-false (slice_index xs x) (slice_index xs y) more in (omega arith, h))

-- ---- The items of a step

pub order_of : (items : List Item) (k : Step) (e : Edit) → IsOfTwo k → IsStep items k e → first_item k < last_item k
order_of items (CutDecl n i) e two is = absurd two
order_of items (CutSel n i) e two is = absurd two
order_of items (JoinSelUp x y) e two is = is.rules.in_order
order_of items (JoinSelDown x y) e two is = is.rules.in_order
order_of items (JoinDeclUp x y) e two is = is.rules.in_order
order_of items (JoinDeclDown x y) e two is = is.rules.in_order
order_of items (Share x y) e two is = is.rules.in_order

-- a step in a scope has the item of the scope
one_of_two : (xs : List ℕ) (scope : Scope) (item_id : ℕ) (k : Step) → IsInScope xs scope item_id k → (slice_index xs (first_item k) ≡ item_id) ⊎ (slice_index xs (last_item k) ≡ item_id)
one_of_two xs Alone item_id k none = absurd none
one_of_two xs Owned item_id k own = later_is_one xs (first_item k) (last_item k) item_id own
one_of_two xs Ups item_id k (up, last) = inr (sym last)
one_of_two xs Downs item_id k (down, first) = inl (sym first)

-- ---- All steps in the scope of a candidate

module _ (v : View) (o : Focus) (is_focus : IsFocus v o) (are : AreMarks v.indexed.now.marks v.indexed.now.next) (beside : length v.indexed.now.marks ≡ length v.indexed.now.items) where
  mark_at : (n : ℕ) → n < length v.indexed.now.items → (m : Mark) × (slice_get v.indexed.now.marks n ≡ Some m)
  mark_at n less = mark_there v.indexed.now.marks n (subst (λ (c : ℕ). n < c) (sym beside) less)

  -- the item with the candidate's item id
  is_number : (n : ℕ) → n < length v.indexed.now.items → slice_index (item_ids v.indexed.now) n ≡ v.after.now.owner → n ≡ o.number
  is_number n less is =
      let m : (m : Mark) × (slice_get v.indexed.now.marks n ≡ Some m) = mark_at n less in
      same_item_id v.indexed.now.marks v.indexed.now.next are n o.number m.0 is_focus.order_key.0 m.1 is_focus.order_key.1
      (sym (item_id_at v.indexed.now.marks n m.0 m.1) ∙ is ∙ sym is_focus.owned ∙ item_id_at v.indexed.now.marks o.number is_focus.order_key.0 is_focus.order_key.1)

  -- the steps of each kind
  module _ (best : FoundParts) (cuts : (k : Step) → (IsOfTwo k → ⊥) → first_item k ≡ o.number → CoversIn v best k)
      (by_decls : (k : Step) → IsByDecls k → (first_item k ≡ o.number) ⊎ (last_item k ≡ o.number) → CoversIn v best k)
      (by_selectors : (k : Step) → IsSelectorJoin k → (first_item k ≡ o.number) ⊎ (last_item k ≡ o.number) → CoversIn v best k) where
    of_one : (k : Step) → (first_item k ≡ o.number) ⊎ (last_item k ≡ o.number) → CoversIn v best k
    of_one (CutDecl n i) (inl h) = cuts (CutDecl n i) (λ t. t) h
    of_one (CutDecl n i) (inr h) = cuts (CutDecl n i) (λ t. t) h
    of_one (CutSel n i) (inl h) = cuts (CutSel n i) (λ t. t) h
    of_one (CutSel n i) (inr h) = cuts (CutSel n i) (λ t. t) h
    of_one (JoinSelUp x y) h = by_selectors (JoinSelUp x y) tt h
    of_one (JoinSelDown x y) h = by_selectors (JoinSelDown x y) tt h
    of_one (JoinDeclUp x y) h = by_decls (JoinDeclUp x y) tt h
    of_one (JoinDeclDown x y) h = by_decls (JoinDeclDown x y) tt h
    of_one (Share x y) h = by_decls (Share x y) tt h

    pub all_covered : (k : Step) → CoversIn v best k
    all_covered k e n is saves some looked later = of_one k (which (one_of_two (item_ids v.indexed.now) (candidate_told v.after.now).scope v.after.now.owner k looked.0)) e n is saves some looked later
      where
        which : (slice_index (item_ids v.indexed.now) (first_item k) ≡ v.after.now.owner) ⊎ (slice_index (item_ids v.indexed.now) (last_item k) ≡ v.after.now.owner) → (first_item k ≡ o.number) ⊎ (last_item k ≡ o.number)
        which (inl h) = let upper = first_rule v.indexed.now.items k (e, is) in inl (is_number (first_item k) (slice_get_within v.indexed.now.items (first_item k) (Rule upper.0) upper.1) h)
        which (inr h) = let lower = last_rule v.indexed.now.items k (e, is) in inr (is_number (last_item k) (slice_get_within v.indexed.now.items (last_item k) (Rule lower.0) lower.1) h)

-- ---- Parts of a rule that is cut

one_rule : (o : Option Item) (a b : RuleParts) → o ≡ Some (Rule a) → o ≡ Some (Rule b) → a ≡ b
one_rule o a b e f = cc

pub decl_inside : (items : List Item) (n count : ℕ) (r : RuleParts) → slice_get items n ≡ Some (Rule r) → count ≡ length r.decls → (i : ℕ) (e : Edit) → IsStep items (CutDecl n i) e → i < count
decl_inside items n count r at same i e is =
    subst (λ (m : ℕ). i < m) (ap (λ (q : RuleParts). length q.decls) (one_rule (slice_get items n) is.rule r is.rule_at at) ∙ sym same) is.part

pub selector_inside : (items : List Item) (n count : ℕ) (r : RuleParts) → slice_get items n ≡ Some (Rule r) → count ≡ length r.selectors → (i : ℕ) (e : Edit) → IsStep items (CutSel n i) e → i < count
selector_inside items n count r at same i e is =
    subst (λ (m : ℕ). i < m) (ap (λ (q : RuleParts). length q.selectors) (one_rule (slice_get items n) is.rule r is.rule_at at) ∙ sym same) is.part

-- ---- The steps of an item and a partner

module _ (v : View) (best : FoundParts) (number order_key : ℕ) where
  pub no_partner : LacksOrderKey v.indexed.now.marks order_key → (k : Step) → IsWith v.indexed.now number order_key k → CoversIn v best k
  no_partner lacks k w = absurd (lacks w.other w.mark w.mark_at w.order_key_is)

  module _ (other : ℕ) (mark own : Mark) (mark_at : slice_get v.indexed.now.marks other ≡ Some mark) (own_at : slice_get v.indexed.now.marks number ≡ Some own) (are : AreMarks v.indexed.now.marks v.indexed.now.next) (order_key_is : mark.order_key ≡ order_key) where
    same_other : (k : Step) (w : IsWith v.indexed.now number order_key k) → w.other ≡ other
    same_other k w = same_order_key v.indexed.now.marks v.indexed.now.next are w.other other w.mark mark w.mark_at mark_at (w.order_key_is ∙ sym order_key_is)

    one_mark : (o : Option Mark) (a b : Mark) → o ≡ Some a → o ≡ Some b → a ≡ b
    one_mark o a b e f = cc

    -- an item with the candidate's item id owns no step with one that was not created before it
    pub created_later : v.after.now.scope ≡ scopes.Owned → own.item_id ≤ mark.item_id → slice_index (item_ids v.indexed.now) number ≡ v.after.now.owner → (k : Step) → IsWith v.indexed.now number order_key k → CoversIn v best k
    created_later scope late own_is k w e n is saves some looked later =
        let owned : v.after.now.owner ≡ slice_index (item_ids v.indexed.now) (owner (item_ids v.indexed.now) k) = subst (λ (s : coded.Scope). IsInScope (item_ids v.indexed.now) (scope_told s) v.after.now.owner k) scope looked.0 in
        let a : slice_index (item_ids v.indexed.now) other ≡ mark.item_id = item_id_at v.indexed.now.marks other mark mark_at in
        let b : slice_index (item_ids v.indexed.now) number ≡ own.item_id = item_id_at v.indexed.now.marks number own own_at in
        let most : slice_index (item_ids v.indexed.now) other ≤ slice_index (item_ids v.indexed.now) (owner (item_ids v.indexed.now) k) = at_most w.items_are in
        let same : number ≡ other = same_item_id v.indexed.now.marks v.indexed.now.next are number other own mark own_at mark_at (let e : own.item_id ≡ mark.item_id = omega (arith, owned, a, b, most, late, own_is) in e) in
        let ordered : first_item k < last_item k = order_of v.indexed.now.items k e w.of_two is in
        let is_other : w.other ≡ other = same_other k w in
        absurd (neither w.items_are ordered is_other same)
      where
        at_most : ((first_item k ≡ w.other) × (last_item k ≡ number)) ⊎ ((first_item k ≡ number) × (last_item k ≡ w.other)) → slice_index (item_ids v.indexed.now) other ≤ slice_index (item_ids v.indexed.now) (owner (item_ids v.indexed.now) k)
        at_most (inl (first, last)) = subst (λ (x : ℕ). slice_index (item_ids v.indexed.now) x ≤ slice_index (item_ids v.indexed.now) (owner (item_ids v.indexed.now) k)) (first ∙ same_other k w) (later_most (item_ids v.indexed.now) (first_item k) (last_item k)).0
        at_most (inr (first, last)) = subst (λ (x : ℕ). slice_index (item_ids v.indexed.now) x ≤ slice_index (item_ids v.indexed.now) (owner (item_ids v.indexed.now) k)) (last ∙ same_other k w) (later_most (item_ids v.indexed.now) (first_item k) (last_item k)).1

        neither : ((first_item k ≡ w.other) × (last_item k ≡ number)) ⊎ ((first_item k ≡ number) × (last_item k ≡ w.other)) → first_item k < last_item k → w.other ≡ other → number ≡ other → ⊥
        neither (inl (first, last)) ordered is_other same = omega (arith, first, last, ordered, is_other, same)
        neither (inr (first, last)) ordered is_other same = omega (arith, first, last, ordered, is_other, same)

    pub partner_above : other < number → (k : Step) → (first_item k ≡ other → last_item k ≡ number → CoversIn v best k) → IsWith v.indexed.now number order_key k → CoversIn v best k
    partner_above less k joins w e n is saves some in_it later = which w.items_are
      where
        which : ((first_item k ≡ w.other) × (last_item k ≡ number)) ⊎ ((first_item k ≡ number) × (last_item k ≡ w.other)) → Reaches best (named (order_keys_of v.indexed.now.marks) n k)
        which (inl (first, last)) = joins (first ∙ same_other k w) last e n is saves some in_it later
        which (inr (first, last)) = absurd (let o : first_item k < last_item k = order_of v.indexed.now.items k e w.of_two is in let s : w.other ≡ other = same_other k w in omega (arith, o, s, first, last, less))

    pub partner_below : number ≤ other → (k : Step) → (first_item k ≡ number → last_item k ≡ other → CoversIn v best k) → IsWith v.indexed.now number order_key k → CoversIn v best k
    partner_below more k joins w e n is saves some in_it later = which w.items_are
      where
        which : ((first_item k ≡ w.other) × (last_item k ≡ number)) ⊎ ((first_item k ≡ number) × (last_item k ≡ w.other)) → Reaches best (named (order_keys_of v.indexed.now.marks) n k)
        which (inl (first, last)) = absurd (let o : first_item k < last_item k = order_of v.indexed.now.items k e w.of_two is in let s : w.other ≡ other = same_other k w in omega (arith, o, s, first, last, more))
        which (inr (first, last)) = joins first (last ∙ same_other k w) e n is saves some in_it later

    -- no step is of an item and itself
    pub partner_itself : number ≤ other → other ≤ number → (k : Step) → IsWith v.indexed.now number order_key k → CoversIn v best k
    partner_itself least most k w e n is saves some in_it later = absurd (which w.items_are)
      where
        which : ((first_item k ≡ w.other) × (last_item k ≡ number)) ⊎ ((first_item k ≡ number) × (last_item k ≡ w.other)) → ⊥
        which (inl (first, last)) = let o : first_item k < last_item k = order_of v.indexed.now.items k e w.of_two is in let s : w.other ≡ other = same_other k w in omega (arith, o, s, first, last, least, most)
        which (inr (first, last)) = let o : first_item k < last_item k = order_of v.indexed.now.items k e w.of_two is in let s : w.other ≡ other = same_other k w in omega (arith, o, s, first, last, least, most)

-- ---- Where the item of a scope is not there

-- the item of a scope, at its number
abbrev AtNumber : IndexedParts → ℕ → Type 0
AtNumber indexed item_id = (n : ℕ) × (r : RuleParts) × (m : Mark) × (slice_get indexed.items n ≡ Some (Rule r)) × (slice_get indexed.marks n ≡ Some m) × (m.item_id ≡ item_id)

item_at : (indexed : IndexedParts) → length indexed.marks ≡ length indexed.items → (after : Candidate) (k : Step) (e : Edit) → IsStep indexed.items k e → IsQueuedBeside indexed after k → AtNumber indexed after.owner
item_at indexed beside after k e is in_it = which (one_of_two (item_ids indexed) (candidate_told after).scope after.owner k in_it)
  where
    at : (n : ℕ) (r : RuleParts) → slice_get indexed.items n ≡ Some (Rule r) → slice_index (item_ids indexed) n ≡ after.owner → AtNumber indexed after.owner
    at n r rule_at created =
        let less : n < length indexed.items = slice_get_within indexed.items n (Rule r) rule_at in
        let m : (m : Mark) × (slice_get indexed.marks n ≡ Some m) = mark_there indexed.marks n (subst (λ (c : ℕ). n < c) (sym beside) less) in
        (n, r, m.0, rule_at, m.1, sym (item_id_at indexed.marks n m.0 m.1) ∙ created)

    which : (slice_index (item_ids indexed) (first_item k) ≡ after.owner) ⊎ (slice_index (item_ids indexed) (last_item k) ≡ after.owner) → AtNumber indexed after.owner
    which (inl h) = let r = first_rule indexed.items k (e, is) in at (first_item k) r.0 r.1 h
    which (inr h) = let r = last_rule indexed.items k (e, is) in at (last_item k) r.0 r.1 h

abbrev OrderKeyOfOwner : IndexedParts → ℕ → ℕ → Type 0
OrderKeyOfOwner indexed item_id order_key = (n : ℕ) → slice_get (item_ids_of indexed.marks) n ≡ Some item_id → slice_get (order_keys_of indexed.marks) n ≡ Some order_key

module _ (v : View) (best : FoundParts) (beside : length v.indexed.now.marks ≡ length v.indexed.now.items) (order_key : ℕ) (at : OrderKeyOfOwner v.indexed.now v.after.now.owner order_key) where
  -- the mark of the owner has the order key
  order_keyed_owner : (n : ℕ) (m : Mark) → slice_get v.indexed.now.marks n ≡ Some m → m.item_id ≡ v.after.now.owner → m.order_key ≡ order_key
  order_keyed_owner n m mark_at created =
      let b : slice_get (item_ids_of v.indexed.now.marks) n ≡ Some v.after.now.owner = there_of (λ x. x.item_id) v.indexed.now.marks n m mark_at ∙ ap (λ (x : ℕ). Some x) created in
      let l : (z : Mark) × (slice_get v.indexed.now.marks n ≡ Some z) × (z.order_key ≡ order_key) = mark_of (λ x. x.order_key) v.indexed.now.marks n order_key (at n b) in
      (let same : m ≡ l.0 = some_same (slice_get v.indexed.now.marks n) m l.0 mark_at l.1 in ap (λ (z : Mark). z.order_key) same) ∙ l.2
    where
      some_same : (o : Option Mark) (a b : Mark) → o ≡ Some a → o ≡ Some b → a ≡ b
      some_same o a b e f = cc

  pub no_order_key : LacksOrderKey v.indexed.now.marks order_key → (k : Step) → CoversIn v best k
  no_order_key lacks k e n is saves some looked later =
      let w : AtNumber v.indexed.now v.after.now.owner = item_at v.indexed.now beside v.after.now k e is looked.0 in
      absurd (lacks w.0 w.2 w.4 (order_keyed_owner w.0 w.2 w.4 w.5))

  module _ (next : ℕ) (are : AreMarks v.indexed.now.marks next) (number : ℕ) (number_at : IsOrderKeyAt v.indexed.now.marks order_key number) where
    -- the item can stand at this number alone
    stands_here : (k : Step) (e : Edit) → IsStep v.indexed.now.items k e → IsQueuedBeside v.indexed.now v.after.now k →
        (r : RuleParts) × (m : Mark) × (slice_get v.indexed.now.items number ≡ Some (Rule r)) × (slice_get v.indexed.now.marks number ≡ Some m) × (m.item_id ≡ v.after.now.owner)
    stands_here k e is in_it =
        let w : AtNumber v.indexed.now v.after.now.owner = item_at v.indexed.now beside v.after.now k e is in_it in
        let same : w.0 ≡ number = same_order_key v.indexed.now.marks next are w.0 number w.2 number_at.0 w.4 number_at.1 (order_keyed_owner w.0 w.2 w.4 w.5 ∙ sym number_at.2) in
        (w.1, w.2, ap (slice_get v.indexed.now.items) (sym same) ∙ w.3, ap (slice_get v.indexed.now.marks) (sym same) ∙ w.4, w.5)

    pub other_item_id : (mark : Mark) → slice_get v.indexed.now.marks number ≡ Some mark → (mark.item_id ≡ v.after.now.owner → ⊥) → (k : Step) → CoversIn v best k
    other_item_id mark mark_at other k e n is saves some looked later =
        let w = stands_here k e is looked.0 in
        absurd (other (ap (λ (z : Mark). z.item_id) (one_mark (slice_get v.indexed.now.marks number) mark w.1 mark_at w.3) ∙ w.4))
      where
        one_mark : (o : Option Mark) (a b : Mark) → o ≡ Some a → o ≡ Some b → a ≡ b
        one_mark o a b e f = cc

    pub no_rule : ((r : RuleParts) → slice_get v.indexed.now.items number ≡ Some (Rule r) → ⊥) → (k : Step) → CoversIn v best k
    no_rule none k e n is saves some looked later = let w = stands_here k e is looked.0 in absurd (none w.0 w.2)
