-- Rules of which no part can be cut, and rules with pairs of their own.
use Rattle.std.proofs.Common.{◌≡◌, ◌≢◌, ◌⊎◌, ℕ, zero, suc, ◌<◌, List, [], ◌∷◌, Some, length, map, get_or, refl, sym, subst, inl, inr, ◌∙◌, arith}
use Rattle.std.specs.Prelude.{slice_get}
use Rattle.std.specs.List.{AllPairs, Contains, remove}
use Rattle.std.proofs.lemmas.List.{get_or-map, length-map}
use Rattle.std.proofs.lemmas.Option.{slice_get_within}
use Rattle.css_model.specs.declared.sheet.Decl.{Decl}
use Rattle.css_model.specs.declared.sheet.DeclItem.{DeclItem}
use Rattle.css_model.specs.declared.sheet.Item.{Item}
use Rattle.css_model.specs.declared.sheet.Item.TheVariants.{Rule}
use Rattle.css_model.specs.declared.sheet.SelItem.{SelItem}
use Rattle.css_model.specs.Documents.SelectorParts.{SelectorParts}
use Rattle.css_model.specs.Sheets.RuleParts.{RuleParts}
use Rattle.list_facts.proofs.Members.{Contains-here, Contains-there}
use Rattle.indexed_sheet.specs.IndexedParts.{IndexedParts}
use Rattle.indexed_sheet.specs.declared.marks.Mark.{Mark}
use Rattle.indexed_sheet.specs.Facts.{HasNoCut, HasOwnDecls, HasOwnPairs, HasOwnSelectors}
use Rattle.indexed_sheet.specs.MarkList.{AreMarks, order_keys_of}
use Rattle.rule_tables.specs.Cutting.{DeclCutsAreTold, SelectorCutsAreTold}
use Rattle.step_laws.specs.declared.step.Step.TheVariants.{CutDecl, CutSel}
use Rattle.pending_laws.specs.Facts.{OwnPairsHaveNoCut}
use Rattle.next_step.specs.Once.{DeclsStandOnce, SelectorsStandOnce, StandOnce}
use Rattle.next_step.proofs.Rules.{one_rule}
use Rattle.next_step.proofs.Telling.{mark_there, there_of, told}

got_at : {X : Type 0} (xs : List X) (i : ℕ) (d : X) → i < length xs → slice_get xs i ≡ Some (get_or xs i d)
got_at [] i d less = absurd (omega (arith, less))
got_at (x ∷ xs) zero d less = refl
got_at (x ∷ xs) (suc i) d less = got_at xs i d (omega (arith, less))

module _ {X Y : Type 0} (f : X → Y) where
  among_all : (xs : List X) (j : ℕ) (d : X) → j < length xs → Contains (map f xs) (f (get_or xs j d))
  among_all [] j d less = absurd (omega (arith, less))
  among_all (x ∷ xs) zero d less = Contains-here (f x) (map f xs)
  among_all (x ∷ xs) (suc j) d less = Contains-there (f x) (map f xs) (f (get_or xs j d)) (among_all xs j d (omega (arith, less)))

  -- a later one is among the others
  among_others : (xs : List X) (i j : ℕ) (d : X) → i < j → j < length xs → Contains (map f (remove xs i)) (f (get_or xs j d))
  among_others [] i j d less within = absurd (omega (arith, within))
  among_others (x ∷ xs) i zero d less within = absurd (omega (arith, less))
  among_others (x ∷ xs) zero (suc j) d less within = among_all xs j d (omega (arith, within))
  among_others (x ∷ xs) (suc i) (suc j) d less within = Contains-there (f x) (map f (remove xs i)) (f (get_or xs j d)) (among_others xs i j d (omega (arith, less)) (omega (arith, within)))

-- each of its declarations stands in it once: one that stands twice can be cut
pub uncut_once : DeclCutsAreTold → (indexed : IndexedParts) → length indexed.marks ≡ length indexed.items → AreMarks indexed.marks indexed.next → (n : ℕ) → HasNoCut indexed.items n → DeclsStandOnce indexed.items n
uncut_once cuts indexed beside are n none r r_at i j d less within same =
    let mark : (m : Mark) × (slice_get indexed.marks n ≡ Some m) = mark_there indexed.marks n (subst (λ (c : ℕ). n < c) (sym beside) (slice_get_within indexed.items n (Rule r) r_at)) in
    let again : Contains (map (λ (x : DeclItem). x.decl) (remove r.decls i)) (get_or r.decls i d).decl =
    subst (λ (y : Decl). Contains (map (λ (x : DeclItem). x.decl) (remove r.decls i)) y) (sym same) (among_others (λ (x : DeclItem). x.decl) r.decls i j d less within) in
    none (CutDecl n i) (λ two. two) refl
    ((cuts indexed.items (order_keys_of indexed.marks) n mark.0.order_key i r (told indexed.items indexed.marks indexed.next are beside) r_at (there_of (λ x. x.order_key) indexed.marks n mark.0 mark.1)).1
    (get_or r.decls i d, got_at r.decls i d (let l : i < length r.decls = omega (arith, less, within) in l), inl again))

-- and so each of its selectors
pub uncut_selectors_once : SelectorCutsAreTold → (indexed : IndexedParts) → length indexed.marks ≡ length indexed.items → AreMarks indexed.marks indexed.next → (n : ℕ) → HasNoCut indexed.items n → SelectorsStandOnce indexed.items n
uncut_selectors_once cuts indexed beside are n none r r_at i j d less within same =
    let mark : (m : Mark) × (slice_get indexed.marks n ≡ Some m) = mark_there indexed.marks n (subst (λ (c : ℕ). n < c) (sym beside) (slice_get_within indexed.items n (Rule r) r_at)) in
    let again : Contains (map (λ (x : SelItem). x.selector) (remove r.selectors i)) (get_or r.selectors i d).selector =
    subst (λ (y : SelectorParts). Contains (map (λ (x : SelItem). x.selector) (remove r.selectors i)) y) (sym same) (among_others (λ (x : SelItem). x.selector) r.selectors i j d less within) in
    none (CutSel n i) (λ two. two) refl
    ((cuts indexed.items (order_keys_of indexed.marks) n mark.0.order_key i r (told indexed.items indexed.marks indexed.next are beside) r_at (there_of (λ x. x.order_key) indexed.marks n mark.0 mark.1)).1
    (get_or r.selectors i d, got_at r.selectors i d (let l : i < length r.selectors = omega (arith, less, within) in l), inl again))

-- a rule with pairs of its own has none, if it has a selector and a declaration
pub own_pairs_uncut : OwnPairsHaveNoCut → (items : List Item) (n : ℕ) (r : RuleParts) → slice_get items n ≡ Some (Rule r) → (0 < length r.selectors) × (0 < length r.decls) → HasOwnPairs items n → HasNoCut items n
own_pairs_uncut none items n r at parts own = none items n (λ q at'. subst (λ (p : RuleParts). (0 < length p.selectors) × (0 < length p.decls)) (one_rule items n r q at at') parts) own

-- ---- Pairs of its own

module _ {X Y : Type 0} (f : X → Y) where
  mapped_differ : (xs : List X) → StandOnce f xs → AllPairs (λ a b. a ≢ b) (map f xs)
  mapped_differ [] once = λ i j d less within same. absurd (omega (arith, within))
  mapped_differ (x ∷ xs) once = λ i j d less within same.
      let there : j < length (x ∷ xs) = rw length-map at within in
      let here : i < length (x ∷ xs) = omega (arith, less, there) in
      once i j x less there (sym (get_or-map f (x ∷ xs) i x d here) ∙ same ∙ get_or-map f (x ∷ xs) j x d there)

-- if each part of a rule is in it once, and no other rule has one of its selectors, or none one of its declarations
pub own_pairs_of : (items : List Item) (n : ℕ) → DeclsStandOnce items n → SelectorsStandOnce items n → HasOwnSelectors items n ⊎ HasOwnDecls items n → HasOwnPairs items n
own_pairs_of items n once selectors_once own = record {
  selectors_once = λ r at. mapped_differ (λ (x : SelItem). x.selector) r.selectors (selectors_once r at);
  decls_once = λ r s at among. mapped_differ (λ (x : DeclItem). x.decl) r.decls (once r at);
  own = λ m r q s d other at at' s_in d_in s_in' d_in'. elim own [ inl selectors ↦ selectors m r q s other at at' s_in s_in' | inr decls ↦ decls m r q d other at at' d_in d_in' ];
}
