-- A sheet whose kept items have lost their texts has the same order, the same meanings and the same winners.
use Rattle.std.proofs.Common.{◌≡◌, ◌↔◌, ℕ, zero, suc, ◌≤◌, Bool, true, false, List, [], ◌∷◌, ◌++◌, map, Option, Some, None, refl, sym, ap, ap₂, ◌∙◌, subst}
use Rattle.std.specs.Prelude.{slice_get}
use Rattle.std.specs.List.{filter}
use Rattle.std.specs.Option.{option_map}
use Rattle.cascade_laws.proofs.ForCallers.{some-same}
use Rattle.css_model.specs.declared.sheet.Decl.{Decl}
use Rattle.css_model.specs.declared.sheet.Item.{Item}
use Rattle.css_model.specs.declared.sheet.Item.TheVariants.{Rule, KeptRule, KeptBlock}
use Rattle.css_model.specs.declared.sheet.Piece.{Piece}
use Rattle.css_model.specs.Cascade.Order.{Meet, Pair, IsPairAt, HasPair, Weigh, WeighsKept, IsLast, IsBefore, IsBeforeKept, Keeps}
use Rattle.css_model.specs.Cascade.Winner.{Place, IsLater, Declared, AreMeanings, AppliedDeclaration, applied_from, applied_by_decls, applied_by_kept, matching_of, Understood, is_understood, greatest, outcome, winner}
use Rattle.css_model.specs.Documents.Document.{Document, Target}
use Rattle.css_model.specs.Documents.Matching.{matches}
use Rattle.css_model.specs.Documents.SelectorParts.{SelectorParts}
use Rattle.css_model.specs.Sheets.KeptItems.{kept_before, kept_items}
use Rattle.css_model.specs.Sheets.RuleParts.{RuleParts}
use Rattle.css_model.specs.Sheets.Spelling.{Content, Kept, content, kept_text}
use Rattle.media_groups.specs.declared.media.Media.{Media}
use Rattle.media_groups.specs.Printed.{blocks_at}
use Rattle.std.proofs.Common.{drop}
use Rattle.same_laws.proofs.Alike.{AreItemsAlike}
use Rattle.same_laws.proofs.Keeping.{IsOrderKept}

abbrev no_piece : Piece
no_piece = record { start = 0; «end» = 0 }

-- an item without its text, if it is kept
abbrev blank : Item → Item
blank (Rule r) = Rule r
blank (KeptRule k) = KeptRule (record { piece = no_piece; decls = k.decls; reason = k.reason })
blank (KeptBlock piece) = KeptBlock no_piece

abbrev pub blanked : List Item → List Item
blanked items = map blank items

-- ---- Where pairs stand

rule_to : (items : List Item) (i : ℕ) (r : RuleParts) → slice_get items i ≡ Some (Rule r) → slice_get (blanked items) i ≡ Some (Rule r)
rule_to [] i r at = at
rule_to (x ∷ items) zero r at = ap (λ (y : Item). Some (blank y)) (some-same at)
rule_to (x ∷ items) (suc i) r at = rule_to items i r at

rule_of_blank : (x : Item) (r : RuleParts) → blank x ≡ Rule r → x ≡ Rule r
rule_of_blank (Rule q) r h = h
rule_of_blank (KeptRule k) r h = absurd (let e = h in cc)
rule_of_blank (KeptBlock piece) r h = absurd (let e = h in cc)

rule_from : (items : List Item) (i : ℕ) (r : RuleParts) → slice_get (blanked items) i ≡ Some (Rule r) → slice_get items i ≡ Some (Rule r)
rule_from [] i r at = at
rule_from (x ∷ items) zero r at = ap (λ (y : Item). Some y) (rule_of_blank x r (some-same at))
rule_from (x ∷ items) (suc i) r at = rule_from items i r at

at_to : (items : List Item) (p : Pair) (place : Place) → IsPairAt items p place → IsPairAt (blanked items) p place
at_to items p place h = record { rule = h.rule; decl = h.decl; rule_at = rule_to items place.item h.rule h.rule_at; selector_in = h.selector_in; decl_at = h.decl_at; decl_is = h.decl_is }

at_from : (items : List Item) (p : Pair) (place : Place) → IsPairAt (blanked items) p place → IsPairAt items p place
at_from items p place h = record { rule = h.rule; decl = h.decl; rule_at = rule_from items place.item h.rule h.rule_at; selector_in = h.selector_in; decl_at = h.decl_at; decl_is = h.decl_is }

has_to : (items : List Item) (p : Pair) → HasPair items p → HasPair (blanked items) p
has_to items p h = (h.0, at_to items p h.0 h.1)

has_from : (items : List Item) (p : Pair) → HasPair (blanked items) p → HasPair items p
has_from items p h = (h.0, at_from items p h.0 h.1)

last_to : (items : List Item) (p : Pair) (place : Place) → IsLast items p place → IsLast (blanked items) p place
last_to items p place h = record { stands = at_to items p place h.stands; last = λ other at later. h.last other (at_from items p other at) later }

last_from : (items : List Item) (p : Pair) (place : Place) → IsLast (blanked items) p place → IsLast items p place
last_from items p place h = record { stands = at_from items p place h.stands; last = λ other at later. h.last other (at_to items p other at) later }

before_to : (items : List Item) (p q : Pair) → IsBefore items p q → IsBefore (blanked items) p q
before_to items p q h = record { place = h.place; later = h.later; first = last_to items p h.place h.first; second = last_to items q h.later h.second; before = h.before }

before_from : (items : List Item) (p q : Pair) → IsBefore (blanked items) p q → IsBefore items p q
before_from items p q h = record { place = h.place; later = h.later; first = last_from items p h.place h.first; second = last_from items q h.later h.second; before = h.before }

-- ---- Kept items

as_many : (n : ℕ) (items : List Item) → kept_before n (blanked items) ≡ kept_before n items
as_many zero items = refl
as_many (suc n) [] = refl
as_many (suc n) (Rule r ∷ items) = as_many n items
as_many (suc n) (KeptRule k ∷ items) = ap suc (as_many n items)
as_many (suc n) (KeptBlock piece ∷ items) = ap suc (as_many n items)

before_kept_to : (items : List Item) (p : Pair) (n : ℕ) → IsBeforeKept items p n → IsBeforeKept (blanked items) p n
before_kept_to items p n h = record { place = h.place; stands = last_to items p h.place h.stands; before = subst (λ (m : ℕ). m ≤ n) (sym (as_many h.place.item items)) h.before }

before_kept_from : (items : List Item) (p : Pair) (n : ℕ) → IsBeforeKept (blanked items) p n → IsBeforeKept items p n
before_kept_from items p n h = record { place = h.place; stands = last_from items p h.place h.stands; before = subst (λ (m : ℕ). m ≤ n) (as_many h.place.item items) h.before }

kept_blanked : (items : List Item) → kept_items (blanked items) ≡ blanked (kept_items items)
kept_blanked [] = refl
kept_blanked (Rule r ∷ items) = kept_blanked items
kept_blanked (KeptRule k ∷ items) = ap (λ (xs : List Item). blank (KeptRule k) ∷ xs) (kept_blanked items)
kept_blanked (KeptBlock piece ∷ items) = ap (λ (xs : List Item). blank (KeptBlock piece) ∷ xs) (kept_blanked items)

at_blank : (xs : List Item) (n : ℕ) (x : Item) → slice_get (blanked xs) n ≡ Some x → (y : Item) × (slice_get xs n ≡ Some y) × (blank y ≡ x)
at_blank [] n x at = absurd (let e : None ≡ Some x = at in cc)
at_blank (y ∷ xs) zero x at = (y, refl, some-same at)
at_blank (y ∷ xs) (suc n) x at = at_blank xs n x at

weighs_blank : (p : Pair) (y : Item) → WeighsKept p (blank y) → WeighsKept p y
weighs_blank p (Rule r) h = h
weighs_blank p (KeptRule k) h = h
weighs_blank p (KeptBlock piece) h = h

-- the kept item of this number, which weighs with a pair, and the one that it was
was_kept : (items : List Item) (p : Pair) (n : ℕ) (x : Item) → slice_get (kept_items (blanked items)) n ≡ Some x → WeighsKept p x → (y : Item) × (slice_get (kept_items items) n ≡ Some y) × WeighsKept p y
was_kept items p n x at w =
    let f : (y : Item) × (slice_get (kept_items items) n ≡ Some y) × (blank y ≡ x) = at_blank (kept_items items) n x (subst (λ (xs : List Item). slice_get xs n ≡ Some x) (kept_blanked items) at) in
    (f.0, f.1, weighs_blank p f.0 (subst (WeighsKept p) (sym f.2) w))

-- what kept items that are alike say then
contents_alike : (source : List ℕ) (media : List Media) (xs : List Item) (other : List ℕ) (media' : List Media) (ys : List Item) → AreItemsAlike source media xs other media' ys → map (content []) (blanked xs) ≡ map (content []) (blanked ys)
contents_alike source media [] other media' [] h = refl
contents_alike source media (KeptRule k ∷ xs) other media' (KeptRule k' ∷ ys) h =
    ap₂ (λ (c : Content) (cs : List Content). c ∷ cs) (ap₂ (λ (ds : List Decl) (n : ℕ). Kept (kept_text [] no_piece) ds n) h.0 h.1) (contents_alike source media xs other media' ys h.2)
contents_alike source media (KeptBlock piece ∷ xs) other media' (KeptBlock piece' ∷ ys) h =
    ap (λ (cs : List Content). content [] (KeptBlock no_piece) ∷ cs) (contents_alike source (drop (blocks_at media (KeptBlock piece)) media) xs other (drop (blocks_at media' (KeptBlock piece')) media') ys h.1)
contents_alike source media [] other media' (Rule r' ∷ ys) h = absurd h
contents_alike source media [] other media' (KeptRule k' ∷ ys) h = absurd h
contents_alike source media [] other media' (KeptBlock piece' ∷ ys) h = absurd h
contents_alike source media (Rule r ∷ xs) other media' [] h = absurd h
contents_alike source media (Rule r ∷ xs) other media' (Rule r' ∷ ys) h = absurd h
contents_alike source media (Rule r ∷ xs) other media' (KeptRule k' ∷ ys) h = absurd h
contents_alike source media (Rule r ∷ xs) other media' (KeptBlock piece' ∷ ys) h = absurd h
contents_alike source media (KeptRule k ∷ xs) other media' [] h = absurd h
contents_alike source media (KeptRule k ∷ xs) other media' (Rule r' ∷ ys) h = absurd h
contents_alike source media (KeptRule k ∷ xs) other media' (KeptBlock piece' ∷ ys) h = absurd h
contents_alike source media (KeptBlock piece ∷ xs) other media' [] h = absurd h
contents_alike source media (KeptBlock piece ∷ xs) other media' (Rule r' ∷ ys) h = absurd h
contents_alike source media (KeptBlock piece ∷ xs) other media' (KeptRule k' ∷ ys) h = absurd h

-- two sheets whose order is kept and whose kept items are alike keep each other then
pub blanked_keeps : (source : List ℕ) (media : List Media) (s : List Item) (other : List ℕ) (media' : List Media) (t : List Item) → IsOrderKept s t → AreItemsAlike source media (kept_items s) other media' (kept_items t) →
    Keeps [] (blanked s) [] (blanked t)
blanked_keeps source media s other media' t kept alike = record {
  pairs = λ p. (λ h. has_to t p ((kept.pairs p).0 (has_from s p h)), λ h. has_to s p ((kept.pairs p).1 (has_from t p h)));
  kept = ap (map (content [])) (kept_blanked s) ∙ contents_alike source media (kept_items s) other media' (kept_items t) alike ∙ sym (ap (map (content [])) (kept_blanked t));
  order = λ p q w meet. (λ h. before_to t p q ((kept.order p q w meet).0 (before_from s p q h)), λ h. before_to s p q ((kept.order p q w meet).1 (before_from t p q h)));
  kept_order = λ p n x at w. let y = was_kept s p n x at w in
      (λ h. before_kept_to t p n ((kept.kept_order p n y.0 y.1 y.2).0 (before_kept_from s p n h)), λ h. before_kept_to s p n ((kept.kept_order p n y.0 y.1 y.2).1 (before_kept_from t p n h)));
}

-- ---- Winners

pub blanked_meanings : (items : List Item) (ms : List (List Declared)) → AreMeanings items ms → AreMeanings (blanked items) ms
blanked_meanings [] [] h = tt
blanked_meanings [] (m ∷ ms) h = absurd h
blanked_meanings (Rule r ∷ items) ms h = blanked_meanings items ms h
blanked_meanings (KeptRule k ∷ items) [] h = absurd h
blanked_meanings (KeptRule k ∷ items) (m ∷ ms) h = (h.0, blanked_meanings items ms h.1)
blanked_meanings (KeptBlock piece ∷ items) [] h = absurd h
blanked_meanings (KeptBlock piece ∷ items) (m ∷ ms) h = blanked_meanings items ms h

applied_same : (matched : SelectorParts → Bool) (n : ℕ) (ms : List (List Declared)) (items : List Item) → applied_from matched n ms (blanked items) ≡ applied_from matched n ms items
applied_same matched n ms [] = refl
applied_same matched n ms (Rule r ∷ items) = ap (λ (es : List AppliedDeclaration). applied_by_decls (matching_of matched r) n 0 r.decls ++ es) (applied_same matched (suc n) ms items)
applied_same matched n [] (KeptRule k ∷ items) = applied_same matched (suc n) [] items
applied_same matched n (m ∷ ms) (KeptRule k ∷ items) = ap (λ (es : List AppliedDeclaration). applied_by_kept n 0 m ++ es) (applied_same matched (suc n) ms items)
applied_same matched n [] (KeptBlock piece ∷ items) = applied_same matched (suc n) [] items
applied_same matched n (m ∷ ms) (KeptBlock piece ∷ items) = ap (λ (es : List AppliedDeclaration). applied_by_kept n 0 m ++ es) (applied_same matched (suc n) ms items)

pub blanked_winner : (doc : Document) (target : Target) (ms : List (List Declared)) (items : List Item) (us : List Understood) → winner doc target ms (blanked items) us ≡ winner doc target ms items us
blanked_winner doc target ms items us = ap (λ (es : List AppliedDeclaration). option_map outcome (greatest (filter (is_understood us) es))) (applied_same (matches doc target) 0 ms items)
