-- What occurs in a sheet gives, and what is left of it where each pair counts once, at its last place.
use Rattle.std.proofs.Common.{◌≡◌, ◌⊎◌, ℕ, ◌+◌, Bool, true, false, not, List, [], ◌∷◌, ◌++◌, Option, Some, None, refl, sym, ap, ◌∙◌, subst}
use Rattle.std.specs.Prelude.{if◌then◌else◌, ◌||◌, ◌&&◌}
use Rattle.std.specs.List.{Contains, filter, flat_map}
use Rattle.std.proofs.lemmas.Bool.{false≢true, true≢false}
use Rattle.std.proofs.lemmas.List.Elements.{filter-append}
use Rattle.std.proofs.lemmas.Grind.{flat_map-append}
use Rattle.css_model.specs.declared.sheet.Decl.{Decl}
use Rattle.css_model.specs.declared.sheet.SelItem.{SelItem}
use Rattle.css_model.specs.Cascade.Winner.{Declared}
use Rattle.css_model.specs.Documents.SelectorParts.{SelectorParts}
use Rattle.css_model.specs.Documents.Specificity.{specificity_of}
use Rattle.list_facts.proofs.Members.{Contains-filter, Contains-filtered}
use Rattle.order_laws.proofs.ForCallers.{flat_map_from, flat_map_has, has_selector_is, map_from, sels}
use Rattle.order_laws.specs.Members.{has_selector}
use Rattle.sheet_members.specs.Labels.{Label, label_with}
use Rattle.sheet_members.specs.Occurrences.{Occurrence, Kept, Paired, Part, with_repeats}
use Rattle.diff_laws.proofs.Best.{absorbed, best, best_append, level_one, over, over_three, repeated_before}

-- whether what is under a head applies where the heads that pass a test hold
abbrev pub stands : (holds : List ℕ → Bool) → Option (List ℕ) → Bool
stands holds None = true
stands holds (Some head) = holds head

-- ---- What an occurrence gives

module _ (matched : SelectorParts → Bool) (holds : List ℕ → Bool) where
  -- what is under a head gives this, if the head holds
  abbrev pub standing : Option (List ℕ) → List Declared → List Declared
  standing head ds = if stands holds head then ds else []

  -- what a label of a pair gives by its selector
  abbrev pub by_selector : Label → Option SelectorParts → List Declared
  by_selector l None = []
  by_selector l (Some s) = if matched s then record { decl = record { name = l.name; value = l.text; important = l.important }; specificity = specificity_of s } ∷ [] else []

  abbrev pub given : Label → List Declared
  given l = standing l.head (by_selector l l.selector)

  -- a pair gives its own, and a kept item the first of these lists
  abbrev pub with_part : Occurrence → Part → (List (List Declared) → List Declared) → List (List Declared) → List Declared
  with_part o (Paired s d) rest ps = given (label_with o.layer.head (Paired s d) false o.text) ++ rest ps
  with_part o (Kept item) rest [] = rest []
  with_part o (Kept item) rest (p ∷ ps) = standing o.layer.head p ++ rest ps

  abbrev pub flat_of : List Occurrence → List (List Declared) → List Declared
  flat_of [] ps = []
  flat_of (o ∷ os) ps = with_part o o.part (λ qs. flat_of os qs) ps

-- ---- The best of what is understood

module _ (known : Declared → Bool) where
  abbrev pub chosen : List Declared → Option Declared
  chosen ds = best (filter known ds)

  pub chosen_append : (xs ys : List Declared) → chosen (xs ++ ys) ≡ over (chosen xs) (chosen ys)
  chosen_append xs ys = ap best (filter-append known xs ys) ∙ best_append (filter known xs) (filter known ys)

  inside_filter : (xs ys : List Declared) → ((x : Declared) → Contains xs x → Contains ys x) → (x : Declared) → Contains (filter known xs) x → Contains (filter known ys) x
  inside_filter xs ys inside x among = let w = Contains-filter known xs x among in Contains-filtered known ys x (inside x w.0) w.1

  pub chosen_absorbed : (xs ys : List Declared) → ((x : Declared) → Contains xs x → Contains ys x) → over (chosen xs) (chosen ys) ≡ chosen ys
  chosen_absorbed xs ys inside = absorbed (filter known xs) (filter known ys) (inside_filter xs ys inside)

  chosen_before : (xs ys : List Declared) → ((y : Declared) → Contains ys y → Contains xs y) → (d : Decl) → ((x : Declared) → Contains xs x → x.decl ≡ d) → over (chosen xs) (chosen ys) ≡ chosen xs
  chosen_before xs ys inside d one =
      repeated_before (filter known xs) (filter known ys) (inside_filter ys xs inside)
      (λ x y at at' under under'. level_one x y (one x (Contains-filter known xs x at).0 ∙ sym (one y (Contains-filter known xs y at').0)) under under')

  -- ---- Of a declaration, without selectors that come before

  module _ (f : SelectorParts → List Declared) (d : Decl) (one : (s : SelectorParts) (x : Declared) → Contains (f s) x → x.decl ≡ d) where
    abbrev of_item : SelItem → List Declared
    of_item s = f s.selector

    abbrev of_items : List SelItem → List Declared
    of_items ss = flat_map of_item ss

    -- of those that do not come before
    abbrev pub of_first : List (SelItem × Bool) → List Declared
    of_first ws = flat_map (λ w. f w.0.selector) (filter (λ w. not w.1) ws)

    all_one : (ss : List SelItem) (x : Declared) → Contains (of_items ss) x → x.decl ≡ d
    all_one ss x among = let w = flat_map_from of_item ss x among in one w.0.selector x w.2

    is_inside : (before : List SelItem) (s : SelItem) → has_selector before s.selector ≡ true → (x : Declared) → Contains (f s.selector) x → Contains (of_items before) x
    is_inside before s comes x among =
        let there : Contains (sels before) s.selector = (has_selector_is before s.selector).0 comes in
        let w = map_from (λ (t : SelItem). t.selector) before s.selector there in
        flat_map_has of_item before w.0 x w.1 (subst (λ (t : SelectorParts). Contains (f t) x) (sym w.2) among)

    pub thinned : (before ss : List SelItem) → over (chosen (of_items before)) (chosen (of_items ss)) ≡ over (chosen (of_items before)) (chosen (of_first (with_repeats before ss)))
    thinned before [] = refl
    thinned before (s ∷ ss) = which (has_selector before s.selector) refl (thinned (before ++ s ∷ []) ss)
      where
        rest : List Declared
        rest = of_first (with_repeats (before ++ s ∷ []) ss)

        longer : of_items (before ++ s ∷ []) ≡ of_items before ++ f s.selector
        longer = flat_map-append of_item before (s ∷ []) ∙ ap (λ (xs : List Declared). of_items before ++ xs) (append_nil_right (f s.selector))
          where
            append_nil_right : (xs : List Declared) → xs ++ [] ≡ xs
            append_nil_right [] = refl
            append_nil_right (x ∷ xs) = ap (λ (ys : List Declared). x ∷ ys) (append_nil_right xs)

        moved : (xs : List Declared) → over (chosen (of_items before)) (chosen (f s.selector ++ xs)) ≡ over (chosen (of_items (before ++ s ∷ []))) (chosen xs)
        moved xs =
            ap (over (chosen (of_items before))) (chosen_append (f s.selector) xs)
            ∙ over_three (chosen (of_items before)) (chosen (f s.selector)) (chosen xs)
            ∙ ap (λ (o : Option Declared). over o (chosen xs)) (sym (chosen_append (of_items before) (f s.selector)) ∙ ap chosen (sym longer))

        which : (b : Bool) → has_selector before s.selector ≡ b → over (chosen (of_items (before ++ s ∷ []))) (chosen (of_items ss)) ≡ over (chosen (of_items (before ++ s ∷ []))) (chosen rest) →
            over (chosen (of_items before)) (chosen (f s.selector ++ of_items ss)) ≡ over (chosen (of_items before)) (chosen (flat_map (λ w. f w.0.selector) (if not b then (s, b) ∷ filter (λ w. not w.1) (with_repeats (before ++ s ∷ []) ss) else filter (λ w. not w.1) (with_repeats (before ++ s ∷ []) ss))))
        which false is later = moved (of_items ss) ∙ later ∙ sym (moved rest)
        which true is later =
            moved (of_items ss) ∙ later
            ∙ ap (λ (o : Option Declared). over o (chosen rest))
            (ap chosen longer ∙ chosen_append (of_items before) (f s.selector) ∙ chosen_before (of_items before) (f s.selector) (is_inside before s is) d (all_one before))
