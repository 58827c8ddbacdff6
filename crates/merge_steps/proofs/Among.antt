-- Whether two rules have the same selectors, or one list of declarations is among another.
use Rattle.std.proofs.Common.{◌≡◌, ◌↔◌, ◌⊎◌, Bool, true, false, ◌&&◌, List, [], ◌∷◌, map, refl, sym, ap, inl, inr, ◌∙◌}
use Rattle.std.specs.List.{Contains, list_all, list_any}
use Rattle.std.proofs.lemmas.Bool.{false≢true}
use Rattle.list_facts.proofs.Members.{Contains-here, Contains-there, Contains-nil, Contains-cons_cases}
use Rattle.css_model.specs.declared.sheet.Decl.{Decl}
use Rattle.css_model.specs.declared.sheet.DeclItem.{DeclItem}
use Rattle.css_model.specs.declared.sheet.SelItem.{SelItem}
use Rattle.css_model.specs.Documents.SelectorParts.{SelectorParts}
use Rattle.css_model.specs.Sheets.RuleParts.{RuleParts}
use Rattle.css_model.specs.Sheets.StyleRule.{HaveSameSelectors}
use Rattle.order_laws.proofs.ForCallers.{any_from, any_of, map_from, map_has, has_decl_is, has_selector_is}
use Rattle.step_laws.specs.Steps.{AreDeclsAmong, decls_of}
use Rattle.order_laws.specs.Members.{has_decl, has_selector}

pub first_true : (a b : Bool) → (a && b) ≡ true → a ≡ true
first_true true b h = refl
first_true false b h = h

pub second_true : (a b : Bool) → (a && b) ≡ true → b ≡ true
second_true true b h = h
second_true false b h = absurd (false≢true h)

pub together : (a b : Bool) → a ≡ true → b ≡ true → (a && b) ≡ true
together true b h k = k
together false b h k = h

-- a test holds of each element
pub all_from : {X : Type 0} (f : X → Bool) (xs : List X) → list_all f xs ≡ true → (x : X) → Contains xs x → f x ≡ true
all_from f [] h x c = absurd (Contains-nil x c)
all_from f (y ∷ xs) h x c = which (all_from f xs (second_true (f y) (list_all f xs) h) x) (Contains-cons_cases y xs x c)
  where
    which : (Contains xs x → f x ≡ true) → (y ≡ x) ⊎ Contains xs x → f x ≡ true
    which ih (inl e) = ap f (sym e) ∙ first_true (f y) (list_all f xs) h
    which ih (inr g) = ih g

pub all_of : {X : Type 0} (f : X → Bool) (xs : List X) → ((x : X) → Contains xs x → f x ≡ true) → list_all f xs ≡ true
all_of f [] h = refl
all_of f (y ∷ xs) h = together (f y) (list_all f xs) (h y (Contains-here y xs)) (all_of f xs (λ x c. h x (Contains-there y xs x c)))

-- through a function
pub all_from_map : {X Y : Type 0} (g : X → Y) (f : Y → Bool) (xs : List X) → list_all (λ x. f (g x)) xs ≡ true → (y : Y) → Contains (map g xs) y → f y ≡ true
all_from_map g f [] h y c = absurd (Contains-nil y c)
all_from_map g f (x ∷ xs) h y c = which (all_from_map g f xs (second_true (f (g x)) (list_all (λ x. f (g x)) xs) h) y) (Contains-cons_cases (g x) (map g xs) y c)
  where
    which : (Contains (map g xs) y → f y ≡ true) → (g x ≡ y) ⊎ Contains (map g xs) y → f y ≡ true
    which ih (inl e) = ap f (sym e) ∙ first_true (f (g x)) (list_all (λ x. f (g x)) xs) h
    which ih (inr c) = ih c

pub all_of_map : {X Y : Type 0} (g : X → Y) (f : Y → Bool) (xs : List X) → ((y : Y) → Contains (map g xs) y → f y ≡ true) → list_all (λ x. f (g x)) xs ≡ true
all_of_map g f [] h = refl
all_of_map g f (x ∷ xs) h = together (f (g x)) (list_all (λ x. f (g x)) xs) (h (g x) (Contains-here (g x) (map g xs))) (all_of_map g f xs (λ y c. h y (Contains-there (g x) (map g xs) y c)))

abbrev pub among : List SelItem → List SelItem → Bool
among items others = list_all (λ s. has_selector others s.selector) items

among_is : (items others : List SelItem) → (among items others ≡ true) ↔ ((s : SelectorParts) → Contains (map (λ x. x.selector) items) s → Contains (map (λ x. x.selector) others) s)
among_is items others = (
  λ h s c. (has_selector_is others s).0 (all_from_map (λ x. x.selector) (has_selector others) items h s c),
  λ all. all_of_map (λ x. x.selector) (has_selector others) items (λ s c. (has_selector_is others s).1 (all s c)),
)

pub same_decided : (u l : RuleParts) (above below : Bool) → above ≡ among u.selectors l.selectors → below ≡ among l.selectors u.selectors →
    ((above && below) ≡ true) ↔ HaveSameSelectors u l
same_decided u l above below a b = (
  λ h s. ((among_is u.selectors l.selectors).0 (sym a ∙ first_true above below h) s, (among_is l.selectors u.selectors).0 (sym b ∙ second_true above below h) s),
  λ same. together above below (a ∙ (among_is u.selectors l.selectors).1 (λ s. (same s).0)) (b ∙ (among_is l.selectors u.selectors).1 (λ s. (same s).1)),
)

pub not_same : (u l : RuleParts) (above : Bool) → above ≡ among u.selectors l.selectors → above ≡ false → HaveSameSelectors u l → ⊥
not_same u l above a not_above same = false≢true (sym not_above ∙ a ∙ (among_is u.selectors l.selectors).1 (λ s. (same s).0))

pub same_by_lower : (u l : RuleParts) (above below : Bool) → above ≡ among u.selectors l.selectors → above ≡ true → below ≡ among l.selectors u.selectors →
    (below ≡ true) ↔ HaveSameSelectors u l
same_by_lower u l above below a is_above b = (
  λ h. (same_decided u l above below a b).0 (together above below is_above h),
  λ same. second_true above below ((same_decided u l above below a b).1 same),
)

-- ---- Declarations

pub decls_among_is : (r q : RuleParts) (b : Bool) → b ≡ list_all (λ d. has_decl q.decls d.decl) r.decls → (b ≡ true) ↔ AreDeclsAmong r q
decls_among_is r q b e = (
  λ h d c. (has_decl_is q.decls d).0 (all_from_map (λ x. x.decl) (has_decl q.decls) r.decls (sym e ∙ h) d c),
  λ all. e ∙ all_of_map (λ x. x.decl) (has_decl q.decls) r.decls (λ d c. (has_decl_is q.decls d).1 (all d c)),
)

pub decl_common_is : (u l : RuleParts) (b : Bool) → b ≡ list_any (λ d. has_decl u.decls d.decl) l.decls →
    (b ≡ true) ↔ ((d : Decl) × Contains (decls_of u) d × Contains (decls_of l) d)
decl_common_is u l b e = (there, back)
  where
    there : b ≡ true → (d : Decl) × Contains (decls_of u) d × Contains (decls_of l) d
    there h =
        let w : (x : DeclItem) × Contains l.decls x × (has_decl u.decls x.decl ≡ true) = any_from (λ d. has_decl u.decls d.decl) l.decls (sym e ∙ h) in
        (w.0.decl, (has_decl_is u.decls w.0.decl).0 w.2, map_has (λ x. x.decl) l.decls w.0 w.1)

    back : (d : Decl) × Contains (decls_of u) d × Contains (decls_of l) d → b ≡ true
    back (d, above, below) =
        let w : (x : DeclItem) × Contains l.decls x × (x.decl ≡ d) = map_from (λ x. x.decl) l.decls d below in
        e ∙ any_of (λ x. has_decl u.decls x.decl) l.decls w.0 w.1 (ap (has_decl u.decls) w.2 ∙ (has_decl_is u.decls d).1 above)
