-- What applies, by pairs and kept items, and its counterpart in a sheet that is kept.
use Rattle.std.proofs.Common.{◌≡◌, ◌⊎◌, ℕ, List, map, Some, ◌&&◌, refl, sym, ap, ap₂, ◌∙◌, subst, inl, inr}
use Rattle.std.specs.Prelude.{slice_get}
use Rattle.std.specs.List.{All, Contains, list_any}
use Rattle.cascade_laws.proofs.ForCallers.{there}
use Rattle.css_model.specs.declared.selector.Specificity.{Specificity}
use Rattle.css_model.specs.declared.sheet.Decl.{Decl}
use Rattle.css_model.specs.declared.sheet.Item.{Item}
use Rattle.css_model.specs.declared.sheet.Item.TheVariants.{Rule, KeptRule, KeptBlock}
use Rattle.css_model.specs.declared.sheet.SelItem.{SelItem}
use Rattle.css_model.specs.Cascade.Winner.{Declared, Place, AppliedDeclaration, Understood, is_understood, outcome}
use Rattle.css_model.specs.Documents.Document.{Document, Target}
use Rattle.css_model.specs.Lists.{same_text}
use Rattle.css_model.specs.Sheets.KeptItems.{kept_before, kept_items}
use Rattle.cascade_laws.specs.Winning.{AppliesByRule, AppliesByKept}
use Rattle.css_model.specs.Documents.Matching.{Matches}
use Rattle.css_model.specs.Cascade.Order.{Pair, IsPairAt, HasPair, Keeps}
use Rattle.css_model.specs.Documents.SelectorParts.{SelectorParts}
use Rattle.css_model.specs.Documents.Specificity.{specificity_of}
use Rattle.css_model.specs.Sheets.Spelling.{Kept, content, kept_text}
use Rattle.order_laws.proofs.Lists.{map_has, map_from}
use Rattle.order_laws.proofs.KeptNumbers.{kept_at, KeptPlace, place_of_kept, Fits, MeaningsFit}

-- ---- What a rule applies, by its pair

pub record ByPair (doc : Document) (target : Target) (items : List Item) (e : AppliedDeclaration) : Type 0 where
  pub pair : Pair
  pub stands : IsPairAt items pair e.place
  pub matching : Matches doc target pair.selector
  pub decl_is : e.decl ≡ pair.decl
  pub specificity_is : e.specificity ≡ specificity_of pair.selector

pub by_pair : (doc : Document) (target : Target) (items : List Item) (e : AppliedDeclaration) → AppliesByRule doc target items e → ByPair doc target items e
by_pair doc target items e a = record {
  pair = record { selector = a.selector.selector; decl = a.decl.decl };
  stands = record { rule = a.rule; decl = a.decl; rule_at = a.rule_at; selector_in = map_has (λ y. y.selector) a.rule.selectors a.selector a.selector_in; decl_at = a.decl_at; decl_is = refl };
  matching = a.matching;
  decl_is = a.decl_is;
  specificity_is = a.specificity_is;
}

-- what a pair applies at a place where it stands
abbrev pub applied_at : Pair → Place → AppliedDeclaration
applied_at p place = record { decl = p.decl; specificity = specificity_of p.selector; place = place }

pub applies_at : (doc : Document) (target : Target) (items : List Item) (p : Pair) (place : Place) → IsPairAt items p place → Matches doc target p.selector → AppliesByRule doc target items (applied_at p place)
applies_at doc target items p place h matching =
    let from : (x : SelItem) × Contains h.rule.selectors x × (x.selector ≡ p.selector) = map_from (λ x. x.selector) h.rule.selectors p.selector h.selector_in in
    record {
      rule = h.rule;
      decl = h.decl;
      selector = from.0;
      rule_at = h.rule_at;
      decl_at = h.decl_at;
      selector_in = from.1;
      matching = subst (λ (s : SelectorParts). Matches doc target s) (sym from.2) matching;
      decl_is = sym h.decl_is;
      specificity_is = ap specificity_of (sym from.2);
    }

-- ---- What a kept item applies, by its number

abbrev pub Applies : Document → Target → List (List Declared) → List Item → AppliedDeclaration → Type 0
Applies doc target meanings items e = AppliesByRule doc target items e ⊎ AppliesByKept meanings items e

-- the kept item of a number applies its meaning wherever it stands
pub kept_applies : (meanings : List (List Declared)) (items : List Item) (e : AppliedDeclaration) (n : ℕ) (x : Item) (m : List Declared) (d : Declared) (position : ℕ) → (k : KeptPlace items n x) →
    slice_get meanings n ≡ Some m → slice_get m position ≡ Some d → e.decl ≡ d.decl → e.specificity ≡ d.specificity → e.place ≡ record { item = k.index; position = position } → AppliesByKept meanings items e
kept_applies meanings items e n x m d position k meaning_at declared_at decl_is specificity_is place_is = record {
  item = x;
  meaning = m;
  declared = d;
  item_at = ap (λ (p : Place). slice_get items p.item) place_is ∙ k.at;
  kept = k.kept;
  meaning_at = ap (λ (p : Place). slice_get meanings (kept_before p.item items)) place_is ∙ ap (slice_get meanings) k.number ∙ meaning_at;
  declared_at = ap (λ (p : Place). slice_get m p.position) place_is ∙ declared_at;
  decl_is = decl_is;
  specificity_is = specificity_is;
}

-- what fits a kept item fits one that says the same
pub fits_same : (source source' : List ℕ) (x y : Item) (m : List Declared) → content source x ≡ content source' y → Fits x m → Fits y m
fits_same source source' x (Rule r) m e w = tt
fits_same source source' (Rule r) (KeptRule b) m e w = absurd cc
fits_same source source' (KeptRule a) (KeptRule b) m e w = subst (λ (ds : List Decl). All (λ (e : Declared). Contains ds e.decl) m) (decls_same e) w
  where
    decls_same : Kept (kept_text source a.piece) a.decls a.reason ≡ Kept (kept_text source' b.piece) b.decls b.reason → a.decls ≡ b.decls
    decls_same h = cc
fits_same source source' (KeptBlock a) (KeptRule b) m e w = absurd cc
fits_same source source' x (KeptBlock piece) m e w = tt

pub fit_too : (source source' : List ℕ) (items items' : List Item) (meanings : List (List Declared)) → map (content source) (kept_items items) ≡ map (content source') (kept_items items') → MeaningsFit items meanings → MeaningsFit items' meanings
fit_too source source' items items' meanings same fit n y m at of =
    let x : (x : Item) × (slice_get (kept_items items) n ≡ Some x) × (content source x ≡ content source' y) = there source source' (kept_items items) (kept_items items') same n y at in
    fits_same source source' x.0 y m x.2 (fit n x.0 m x.1 of)

-- ---- Applied declarations that are the same but for their places

abbrev pub AreAlike : AppliedDeclaration → AppliedDeclaration → Type 0
AreAlike e f = (e.decl ≡ f.decl) × (e.specificity ≡ f.specificity)

pub understood_alike : (us : List Understood) (e f : AppliedDeclaration) → AreAlike e f → is_understood us e ≡ is_understood us f
understood_alike us e f same = ap (λ (d : Decl). list_any (λ u. same_text u.name d.name && same_text u.value d.value) us) same.0

pub outcome_alike : (e f : AppliedDeclaration) → AreAlike e f → outcome e ≡ outcome f
outcome_alike e f same = ap₂ (λ (d : Decl) (s : Specificity). record { name = d.name; value = d.value; important = d.important; specificity = s }) same.0 same.1

-- what applies in one sheet applies in the other, at some place
pub counterpart : (source source' : List ℕ) (items items' : List Item) → Keeps source items source' items' →
    (doc : Document) (target : Target) (meanings : List (List Declared)) (e : AppliedDeclaration) → Applies doc target meanings items e → (f : AppliedDeclaration) × Applies doc target meanings items' f × AreAlike f e
counterpart source source' items items' keeps doc target meanings e (inl a) =
    let b : ByPair doc target items e = by_pair doc target items e a in
    let other : HasPair items' b.pair = (keeps.pairs b.pair).0 (e.place, b.stands) in
    (applied_at b.pair other.0, inl (applies_at doc target items' b.pair other.0 other.1 b.matching), (sym b.decl_is, sym b.specificity_is))
counterpart source source' items items' keeps doc target meanings e (inr a) =
    let n : ℕ = kept_before e.place.item items in
    let x : (x : Item) × (slice_get (kept_items items') n ≡ Some x) × (content source' x ≡ content source a.item) =
    there source' source (kept_items items') (kept_items items) (sym keeps.kept) n a.item (kept_at items e.place.item a.item a.item_at a.kept) in
    let k : KeptPlace items' n x.0 = place_of_kept items' n x.0 x.1 in
    let f : AppliedDeclaration = record { decl = e.decl; specificity = e.specificity; place = record { item = k.index; position = e.place.position } } in
    (f, inr (kept_applies meanings items' f n x.0 a.meaning a.declared e.place.position k a.meaning_at a.declared_at a.decl_is a.specificity_is refl), (refl, refl))
