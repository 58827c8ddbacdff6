-- Each pair of a repeated declaration has a later place that is not repeated.
use Rattle.std.proofs.Common.{◌≡◌, ◌⊎◌, ℕ, zero, suc, ◌+◌, ◌<◌, true, false, List, ◌∷◌, Option, Some, refl, sym, ap, ◌∙◌, subst, inl, inr, arith}
use Rattle.std.specs.Prelude.{slice_get}
use Rattle.std.specs.List.{Contains}
use Rattle.css_model.specs.declared.sheet.Decl.{Decl}
use Rattle.css_model.specs.declared.sheet.DeclItem.{DeclItem}
use Rattle.css_model.specs.declared.sheet.Item.{Item}
use Rattle.css_model.specs.declared.sheet.Item.TheVariants.{Rule}
use Rattle.css_model.specs.Cascade.Order.{Pair, IsPairAt}
use Rattle.css_model.specs.Cascade.Winner.{IsLater}
use Rattle.css_model.specs.Documents.SelectorParts.{SelectorParts}
use Rattle.css_model.specs.Sheets.RuleParts.{RuleParts}
use Rattle.css_model.specs.Sheets.StyleRule.{selectors_of}
use Rattle.order_laws.specs.Places.{ListedStandsLast, PlacedPair, last_pairs, place_of}
use Rattle.lint_laws.specs.Repeats.{is_here, is_repeated, last_in, pair_of}
use Rattle.lint_laws.proofs.LastPlace.{here_single, is_there, last_found, last_later, not_here}
use Rattle.lint_laws.proofs.Finding.{member}

-- Behind a declaration of items, the first of which has number n, a pair has a place that is not repeated.
pub record LaterIn (lasts : List PlacedPair) (n : ℕ) (items : List Item) (j k : ℕ) (s : SelectorParts) (d : Decl) : Type 0 where
  pub index : ℕ
  pub position : ℕ
  pub rule : RuleParts
  pub item : DeclItem
  pub rule_at : slice_get items index ≡ Some (Rule rule)
  pub selector_in : Contains (selectors_of rule) s
  pub decl_at : slice_get rule.decls position ≡ Some item
  pub decl_is : item.decl ≡ d
  pub later : (j < index) ⊎ ((j ≡ index) × (k < position))
  pub single : (number : ℕ) → number ≡ n + index → is_repeated lasts number rule.selectors position item.decl ≡ false

-- so it is for each pair of a repeated declaration
abbrev pub HaveLater : List PlacedPair → ℕ → List Item → Type 0
HaveLater lasts n items = (number j k : ℕ) (rule : RuleParts) (d : DeclItem) (s : SelectorParts) → number ≡ n + j →
    slice_get items j ≡ Some (Rule rule) → slice_get rule.decls k ≡ Some d → is_repeated lasts number rule.selectors k d.decl ≡ true →
    Contains (selectors_of rule) s → LaterIn lasts n items j k s d.decl

-- ---- Behind the first item

behind_first : (lasts : List PlacedPair) (n : ℕ) (item : Item) (items : List Item) (j k : ℕ) (s : SelectorParts) (d : Decl) → LaterIn lasts n (item ∷ items) (suc j) k s d → LaterIn lasts (suc n) items j k s d
behind_first lasts n item items j k s d w = which w.index w.rule_at w.later w.single
  where
    which : (m : ℕ) → slice_get (item ∷ items) m ≡ Some (Rule w.rule) → (suc j < m) ⊎ ((suc j ≡ m) × (k < w.position)) →
        ((number : ℕ) → number ≡ n + m → is_repeated lasts number w.rule.selectors w.position w.item.decl ≡ false) → LaterIn lasts (suc n) items j k s d
    which zero at (inl less) single = absurd (omega arith)
    which zero at (inr same) single = absurd (let e : suc j ≡ 0 = same.0 in omega arith)
    which (suc m) at (inl less) single = record {
      index = m;
      position = w.position;
      rule = w.rule;
      item = w.item;
      rule_at = at;
      selector_in = w.selector_in;
      decl_at = w.decl_at;
      decl_is = w.decl_is;
      later = inl (omega arith);
      single = λ number e. single number (omega (arith, e));
    }
    which (suc m) at (inr same) single = record {
      index = m;
      position = w.position;
      rule = w.rule;
      item = w.item;
      rule_at = at;
      selector_in = w.selector_in;
      decl_at = w.decl_at;
      decl_is = w.decl_is;
      later = inr (let e : suc j ≡ suc m = same.0 in omega arith, same.1);
      single = λ number e. single number (omega (arith, e));
    }

pub have_behind : (lasts : List PlacedPair) (n : ℕ) (item : Item) (items : List Item) → HaveLater lasts n (item ∷ items) → HaveLater lasts (suc n) items
have_behind lasts n item items h number j k rule d s e at decl repeated has =
    behind_first lasts n item items j k s d.decl (h number (suc j) k rule d s (omega (arith, e)) at decl repeated has)

-- ---- In a sheet

pub have_later : ListedStandsLast → (items : List Item) → HaveLater (last_pairs items) 0 items
have_later law items number j k rule d s e at decl repeated has =
    let w = last_found law items (pair_of s d.decl) (record { item = j; position = k }) pair_at in
    let apart : is_here j k (Some w.0) ≡ false = subst (λ (o : Option PlacedPair). is_here j k o ≡ false) w.1 (not_here (last_pairs items) j rule k d.decl s here has) in
    let later : IsLater (place_of w.0.place) (record { item = j; position = k }) = last_later items (pair_of s d.decl) (record { item = j; position = k }) w.0 pair_at w.2 w.3 apart in
    let decl_is : w.3.item.decl ≡ d.decl = w.3.decl_is ∙ ap (λ (p : Pair). p.decl) w.2 in
    let selector_is : w.0.pair.selector ≡ s = ap (λ (p : Pair). p.selector) w.2 in
    let in_rule : Contains (selectors_of w.3.rule) s = subst (λ (t : SelectorParts). Contains (selectors_of w.3.rule) t) selector_is (member (selectors_of w.3.rule) w.0.place.selector w.0.pair.selector w.3.selector_at) in
    let found : is_here w.0.place.item w.0.place.decl (last_in (last_pairs items) (pair_of s w.3.item.decl)) ≡ true =
    subst (λ (x : Decl). is_here w.0.place.item w.0.place.decl (last_in (last_pairs items) (pair_of s x)) ≡ true) (sym decl_is)
    (subst (λ (o : Option PlacedPair). is_here w.0.place.item w.0.place.decl o ≡ true) (sym w.1) (is_there w.0.place.item w.0.place.decl w.0 refl refl)) in
    let once : is_repeated (last_pairs items) w.0.place.item w.3.rule.selectors w.0.place.decl w.3.item.decl ≡ false = here_single (last_pairs items) w.0.place.item w.3.rule w.0.place.decl w.3.item.decl s in_rule found in
    record {
      index = w.0.place.item;
      position = w.0.place.decl;
      rule = w.3.rule;
      item = w.3.item;
      rule_at = w.3.rule_at;
      selector_in = in_rule;
      decl_at = w.3.decl_at;
      decl_is = decl_is;
      later = turned w.0.place.item w.0.place.decl later;
      single = λ m g. let f : w.0.place.item ≡ m = omega (arith, g) in subst (λ (i : ℕ). is_repeated (last_pairs items) i w.3.rule.selectors w.0.place.decl w.3.item.decl ≡ false) f once;
    }
  where
    here : is_repeated (last_pairs items) j rule.selectors k d.decl ≡ true
    here = let f : number ≡ j = omega (arith, e) in subst (λ (i : ℕ). is_repeated (last_pairs items) i rule.selectors k d.decl ≡ true) f repeated

    pair_at : IsPairAt items (pair_of s d.decl) (record { item = j; position = k })
    pair_at = record { rule = rule; decl = d; rule_at = at; selector_in = has; decl_at = decl; decl_is = refl }

    turned : (i m : ℕ) → IsLater (record { item = i; position = m }) (record { item = j; position = k }) → (j < i) ⊎ ((j ≡ i) × (k < m))
    turned i m (inl less) = inl less
    turned i m (inr same) = inr (sym same.0, same.1)
