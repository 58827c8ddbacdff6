-- The bits of the masks of two rules meet the mask of each pair in what a step leaves of them.
use Rattle.std.proofs.Common.{◌≡◌, ◌⊎◌, ℕ, zero, suc, Bool, true, false, not, List, [], ◌∷◌, ◌++◌, Some, None, sym, ap, ◌∙◌, subst, inl, inr}
use Rattle.std.specs.Prelude.{if◌then◌else◌, ◌==◌, bit_and, bit_or, map, slice_get}
use Rattle.std.specs.Int.Bits.{and_zero_r}
use Rattle.std.specs.List.{Contains, filter, remove}
use Rattle.std.proofs.lemmas.Bool.{false≢true, and_from, and_parts, ne_eqb}
use Rattle.std.proofs.lemmas.List.Elements.{Contains-append_cases}
use Rattle.std.proofs.lemmas.Nat.{and_assoc, and_comm, and_or_self, or_comm}
use Rattle.css_model.specs.Cascade.Order.{HasPair, Pair}
use Rattle.css_model.specs.declared.sheet.Decl.{Decl}
use Rattle.css_model.specs.declared.sheet.DeclItem.{DeclItem}
use Rattle.css_model.specs.declared.sheet.Item.{Item}
use Rattle.css_model.specs.declared.sheet.Item.TheVariants.{Rule}
use Rattle.css_model.specs.declared.sheet.SelItem.{SelItem}
use Rattle.css_model.specs.Documents.SelectorParts.{SelectorParts}
use Rattle.css_model.specs.Sheets.RuleParts.{RuleParts}
use Rattle.css_model.specs.Sheets.StyleRule.{joined}
use Rattle.item_masks.proofs.ForCallers.{stands_meets}
use Rattle.item_masks.specs.declared.mask.ItemMask.{ItemMask}
use Rattle.item_masks.specs.Masks.{item_mask, meets, pair_mask, selector_mask, with_selectors}
use Rattle.list_facts.proofs.Members.{Contains-cons_cases, Contains-filter, Contains-here, Contains-there}
use Rattle.order_laws.proofs.ForCallers.{InRule, decls, has_append, has_rule, map_from, map_has, sels}
use Rattle.order_laws.specs.Edits.{Edit}
use Rattle.order_laws.specs.Members.{has_decl, has_selector}
use Rattle.related_props.specs.Masks as families
use Rattle.step_laws.specs.declared.step.Step.{Step}
use Rattle.step_laws.specs.declared.step.Step.TheVariants.{CutDecl, CutSel, JoinSelUp, JoinSelDown, JoinDeclUp, JoinDeclDown, Share}
use Rattle.step_laws.specs.RuleParting.{both_selectors, common_decls, each_last, item_if_any, rule_or_none, without_decls}
use Rattle.step_laws.specs.StepEdits.{shared}
use Rattle.step_laws.specs.Steps.{IsStep, edit_of, first_item, last_item}
use Rattle.step_savings.proofs.ForCallers.{edit_is}
use Rattle.step_obstacles.proofs.Masked.{mask_at}
use Rattle.plan_laws.specs.Window.StepWindows.{first_left, last_left}
use Rattle.window_order.specs.Left.{Covers}

-- ---- Bits

abbrev common : ℕ → ℕ → Bool
common m k = not (bit_and m k == 0)

no_common : (u m k : ℕ) → bit_and u m ≡ m → bit_and u k ≡ 0 → bit_and m k ≡ 0
no_common u m k within none =
    ap (λ (n : ℕ). bit_and n k) (sym within ∙ and_comm u m)
    ∙ and_assoc k m u
    ∙ ap (λ (n : ℕ). bit_and m n) none
    ∙ and_zero_r m

-- a mask has the bits of those within it
common_stays : (u m k : ℕ) → bit_and u m ≡ m → common m k ≡ true → common u k ≡ true
common_stays u m k within has = ap not (ne_eqb (bit_and u k) 0 (λ none. shows (no_common u m k within none)))
  where
    shows : bit_and m k ≡ 0 → ⊥
    shows e = let unmet : false ≡ common m k = sym (ap (λ (n : ℕ). not (n == 0)) e) in false≢true (unmet ∙ has)

within_left : (m n : ℕ) → bit_and (bit_or m n) m ≡ m
within_left m n = ap (λ (k : ℕ). bit_and k m) (or_comm m n) ∙ and_or_self m n

within_right : (m n : ℕ) → bit_and (bit_or m n) n ≡ n
within_right m n = and_or_self n m

-- ---- The parts of a rule

abbrev with_selector : RuleParts → SelItem → RuleParts
with_selector r y = record { selectors = y ∷ []; decls = r.decls }

abbrev with_decl : RuleParts → DeclItem → RuleParts
with_decl r g = record { selectors = r.selectors; decls = g ∷ [] }

abbrev families_of : RuleParts → ℕ
families_of r = families.item_mask (Rule r)

decl_meets : (r : RuleParts) (y : SelItem) (p : Pair) → y.selector ≡ p.selector → Contains (decls r.decls) p.decl → common (families_of r) (families.decl_mask p.decl) ≡ true
decl_meets r y p e inside =
    let there : Contains (sels (y ∷ [])) p.selector = subst (λ (s : SelectorParts). Contains (y.selector ∷ []) s) e (Contains-here y.selector []) in
    (and_parts (common (families_of r) (families.decl_mask p.decl)) (common (with_selectors 0 (y ∷ [])) (selector_mask p.selector))
    (stands_meets p (Rule (with_selector r y)) ((has_rule (with_selector r y) p).1 (there, inside)))).0

selector_meets : (r : RuleParts) (g : DeclItem) (p : Pair) → g.decl ≡ p.decl → Contains (sels r.selectors) p.selector → common (with_selectors 0 r.selectors) (selector_mask p.selector) ≡ true
selector_meets r g p e inside =
    let there : Contains (decls (g ∷ [])) p.decl = subst (λ (d : Decl). Contains (g.decl ∷ []) d) e (Contains-here g.decl []) in
    (and_parts (common (families_of (with_decl r g)) (families.decl_mask p.decl)) (common (with_selectors 0 r.selectors) (selector_mask p.selector))
    (stands_meets p (Rule (with_decl r g)) ((has_rule (with_decl r g) p).1 (inside, there)))).1

-- ---- Of two rules

abbrev pub both : ItemMask → ItemMask → ItemMask
both m n = record { families = bit_or m.families n.families; selectors = bit_or m.selectors n.selectors }

abbrev pub of_both : RuleParts → RuleParts → ItemMask
of_both u l = both (item_mask (Rule u)) (item_mask (Rule l))

-- the parts of a rule are those of two
abbrev IsFrom : RuleParts → RuleParts → RuleParts → Type 0
IsFrom u l r = ((d : DeclItem) → Contains r.decls d → Contains u.decls d ⊎ Contains l.decls d) × ((s : SelItem) → Contains r.selectors s → Contains u.selectors s ⊎ Contains l.selectors s)

module _ (u l : RuleParts) (y : SelItem) (g : DeclItem) (p : Pair) (selector_is : y.selector ≡ p.selector) (decl_is : g.decl ≡ p.decl) where
  own_decl : (r : RuleParts) → Contains r.decls g → common (families_of r) (families.decl_mask p.decl) ≡ true
  own_decl r h = decl_meets r y p selector_is (subst (λ (d : Decl). Contains (decls r.decls) d) decl_is (map_has (λ (z : DeclItem). z.decl) r.decls g h))

  own_selector : (r : RuleParts) → Contains r.selectors y → common (with_selectors 0 r.selectors) (selector_mask p.selector) ≡ true
  own_selector r h = selector_meets r g p decl_is (subst (λ (s : SelectorParts). Contains (sels r.selectors) s) selector_is (map_has (λ (z : SelItem). z.selector) r.selectors y h))

  decl_met : Contains u.decls g ⊎ Contains l.decls g → common (bit_or (families_of u) (families_of l)) (families.decl_mask p.decl) ≡ true
  decl_met (inl h) = common_stays (bit_or (families_of u) (families_of l)) (families_of u) (families.decl_mask p.decl) (within_left (families_of u) (families_of l)) (own_decl u h)
  decl_met (inr h) = common_stays (bit_or (families_of u) (families_of l)) (families_of l) (families.decl_mask p.decl) (within_right (families_of u) (families_of l)) (own_decl l h)

  selector_met : Contains u.selectors y ⊎ Contains l.selectors y → common (bit_or (with_selectors 0 u.selectors) (with_selectors 0 l.selectors)) (selector_mask p.selector) ≡ true
  selector_met (inl h) =
      common_stays (bit_or (with_selectors 0 u.selectors) (with_selectors 0 l.selectors)) (with_selectors 0 u.selectors) (selector_mask p.selector) (within_left (with_selectors 0 u.selectors) (with_selectors 0 l.selectors)) (own_selector u h)
  selector_met (inr h) =
      common_stays (bit_or (with_selectors 0 u.selectors) (with_selectors 0 l.selectors)) (with_selectors 0 l.selectors) (selector_mask p.selector) (within_right (with_selectors 0 u.selectors) (with_selectors 0 l.selectors)) (own_selector l h)

rule_met : (u l r : RuleParts) → IsFrom u l r → (p : Pair) → InRule r p → meets (of_both u l) (pair_mask p) ≡ true
rule_met u l r from p (selector_in, decl_in) =
    let g = map_from (λ (z : DeclItem). z.decl) r.decls p.decl decl_in in
    let y = map_from (λ (z : SelItem). z.selector) r.selectors p.selector selector_in in
    and_from (common (bit_or (families_of u) (families_of l)) (families.decl_mask p.decl)) (common (bit_or (with_selectors 0 u.selectors) (with_selectors 0 l.selectors)) (selector_mask p.selector))
    (decl_met u l y.0 g.0 p y.2 g.2 (from.0 g.0 g.1)) (selector_met u l y.0 g.0 p y.2 g.2 (from.1 y.0 y.1))

-- ---- Items

covers_nothing : (m : ItemMask) → Covers m []
covers_nothing m p h = let e : None ≡ Some (Rule h.1.rule) = h.1.rule_at in cc

covers_rule : (u l r : RuleParts) → IsFrom u l r → Covers (of_both u l) (Rule r ∷ [])
covers_rule u l r from p h = rule_met u l r from p ((has_rule r p).0 h)

covers_rest : (u l r : RuleParts) → IsFrom u l r → Covers (of_both u l) (rule_or_none r)
covers_rest u l r from = which r.selectors r.decls
  where
    which : (ss : List SelItem) (ds : List DeclItem) → Covers (of_both u l) (item_if_any ss ds r)
    which [] ds = covers_nothing (of_both u l)
    which (s ∷ ss) [] = covers_nothing (of_both u l)
    which (s ∷ ss) (d ∷ ds) = covers_rule u l r from

covers_all : (m : ItemMask) (xs ys : List Item) → Covers m xs → Covers m ys → Covers m (xs ++ ys)
covers_all m xs ys f g p h = which ((has_append xs ys p).0 h)
  where
    which : HasPair xs p ⊎ HasPair ys p → meets m (pair_mask p) ≡ true
    which (inl a) = f p a
    which (inr a) = g p a

-- ---- Parts of lists

in_removed : {X : Type 0} (xs : List X) (n : ℕ) (x : X) → Contains (remove xs n) x → Contains xs x
in_removed {X} [] zero x h = h
in_removed {X} [] (suc n) x h = h
in_removed {X} (y ∷ xs) zero x h = Contains-there y xs x h
in_removed {X} (y ∷ xs) (suc n) x h = which (λ g. in_removed xs n x g) (Contains-cons_cases y (remove xs n) x h)
  where
    which : (Contains (remove xs n) x → Contains xs x) → (y ≡ x) ⊎ Contains (remove xs n) x → Contains (y ∷ xs) x
    which again (inl e) = subst (λ (z : X). Contains (y ∷ xs) z) e (Contains-here y xs)
    which again (inr g) = Contains-there y xs x (again g)

in_last : (ds : List DeclItem) (d : DeclItem) → Contains (each_last ds) d → Contains ds d
in_last [] d h = h
in_last (x ∷ ds) d h = which (has_decl ds x.decl) (λ g. in_last ds d g) h
  where
    split : (Contains (each_last ds) d → Contains ds d) → (x ≡ d) ⊎ Contains (each_last ds) d → Contains (x ∷ ds) d
    split again (inl e) = subst (λ (z : DeclItem). Contains (x ∷ ds) z) e (Contains-here x ds)
    split again (inr g) = Contains-there x ds d (again g)

    which : (b : Bool) → (Contains (each_last ds) d → Contains ds d) → Contains (if b then each_last ds else x ∷ each_last ds) d → Contains (x ∷ ds) d
    which true again g = Contains-there x ds d (again g)
    which false again g = split again (Contains-cons_cases x (each_last ds) d g)

module _ (u l : RuleParts) where
  common_in : (d : DeclItem) → Contains (common_decls u l) d → Contains l.decls d
  common_in d h = (Contains-filter (λ (x : DeclItem). has_decl u.decls x.decl) l.decls d (in_last (filter (λ (x : DeclItem). has_decl u.decls x.decl) l.decls) d h)).0

  either_in : (s : SelItem) → Contains (both_selectors u l) s → Contains u.selectors s ⊎ Contains l.selectors s
  either_in s h = which (Contains-append_cases u.selectors (filter (λ (x : SelItem). not (has_selector u.selectors x.selector)) l.selectors) s h)
    where
      which : Contains u.selectors s ⊎ Contains (filter (λ (x : SelItem). not (has_selector u.selectors x.selector)) l.selectors) s → Contains u.selectors s ⊎ Contains l.selectors s
      which (inl g) = inl g
      which (inr g) = inr (Contains-filter (λ (x : SelItem). not (has_selector u.selectors x.selector)) l.selectors s g).0

  other_in : (r : RuleParts) (d : DeclItem) → Contains (without_decls (common_decls u l) r).decls d → Contains r.decls d
  other_in r d h = (Contains-filter (λ (x : DeclItem). not (has_decl (common_decls u l) x.decl)) r.decls d h).0

-- ---- What a step leaves

abbrev AreCovered : RuleParts → RuleParts → Step → Type 0
AreCovered u l k = Covers (of_both u l) (first_left (edit_of k u l).changes) × Covers (of_both u l) (last_left (edit_of k u l).changes)

left_covered : (k : Step) (u l : RuleParts) → AreCovered u l k
left_covered (CutDecl n i) u l = (covers_nothing (of_both u l), covers_rest u l (record { selectors = u.selectors; decls = remove u.decls i }) (λ d h. inl (in_removed u.decls i d h), λ s h. inl h))
left_covered (CutSel n i) u l = (covers_nothing (of_both u l), covers_rest u l (record { selectors = remove u.selectors i; decls = u.decls }) (λ d h. inl h, λ s h. inl (in_removed u.selectors i s h)))
left_covered (JoinSelUp x y) u l = (covers_rule u l (joined u l) (λ d h. Contains-append_cases u.decls l.decls d h, λ s h. inl h), covers_nothing (of_both u l))
left_covered (JoinSelDown x y) u l = (covers_nothing (of_both u l), covers_rule u l (record { selectors = l.selectors; decls = u.decls ++ l.decls }) (λ d h. Contains-append_cases u.decls l.decls d h, λ s h. inr h))
left_covered (JoinDeclUp x y) u l = (covers_rule u l (record { selectors = both_selectors u l; decls = u.decls }) (λ d h. inl h, either_in u l), covers_nothing (of_both u l))
left_covered (JoinDeclDown x y) u l = (covers_nothing (of_both u l), covers_rule u l (record { selectors = both_selectors u l; decls = l.decls }) (λ d h. inr h, either_in u l))
left_covered (Share x y) u l = (
  covers_rest u l (without_decls (common_decls u l) u) (λ d h. inl (other_in u l u d h), λ s h. inl h),
  covers_all (of_both u l) (Rule (shared u l) ∷ []) (rule_or_none (without_decls (common_decls u l) l)) (covers_rule u l (shared u l) (λ d h. inr (common_in u l d h), either_in u l))
      (covers_rest u l (without_decls (common_decls u l) l) (λ d h. inr (other_in u l l d h), λ s h. inr h)),
)

-- of a step of a sheet, by what the code has at hand
pub covered_by : (items : List Item) (k : Step) (e : Edit) → IsStep items k e → (u l : RuleParts) → slice_get items (first_item k) ≡ Some (Rule u) → slice_get items (last_item k) ≡ Some (Rule l) →
    (m : ItemMask) → m ≡ of_both u l → (first last : List Item) → first ≡ first_left e.changes → last ≡ last_left e.changes → Covers m first × Covers m last
covered_by items k e is u l upper lower m m_is first last first_is last_is =
    let edit : edit_of k u l ≡ e = edit_is items k u l upper lower e is in
    let covered : AreCovered u l k = left_covered k u l in (
      subst (λ (n : ItemMask). Covers n first) (sym m_is) (subst (λ (xs : List Item). Covers (of_both u l) xs) (ap (λ (d : Edit). first_left d.changes) edit ∙ sym first_is) covered.0),
      subst (λ (n : ItemMask). Covers n last) (sym m_is) (subst (λ (xs : List Item). Covers (of_both u l) xs) (ap (λ (d : Edit). last_left d.changes) edit ∙ sym last_is) covered.1),
    )

-- the mask of the rule of a number
pub mask_there : (items : List Item) (masks : List ItemMask) (n m : ℕ) (r : RuleParts) → masks ≡ map item_mask items → n ≡ m → slice_get items m ≡ Some (Rule r) → slice_get masks n ≡ Some (item_mask (Rule r))
mask_there items masks n m r are same at = mask_at items masks n (Rule r) are (ap (λ (k : ℕ). slice_get items k) same ∙ at)
