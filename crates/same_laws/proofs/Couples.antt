-- Members whose order differs are couples, and what is found in these.
use Rattle.std.proofs.Common.{◌≡◌, ◌⊎◌, Bool, true, List, [], ◌∷◌, map, Option, None, sym, ◌∙◌, subst, inl, inr}
use Rattle.std.specs.List.{Contains, filter}
use Rattle.std.proofs.lemmas.List.Elements.{Contains-append_left, Contains-append_right}
use Rattle.css_model.specs.declared.sheet.Item.{Item}
use Rattle.list_facts.proofs.Members.{Contains-nil, Contains-cons_cases, Contains-filtered}
use Rattle.order_laws.proofs.ForCallers.{map_has}
use Rattle.overlap.specs.PairsParts.{Answered}
use Rattle.sheet_same.specs.Judging.{Judges, AreApart}
use Rattle.sheet_same.specs.Members.{Member}
use Rattle.sheet_same.specs.Turned.{Couple, is_turned, couple, turned_from}

-- ---- Which couples there are

here : (s t : List Item) (m : Member) (ms : List Member) (x : Member) → Contains ms x → is_turned s t m x ≡ true → Contains (turned_from s t (m ∷ ms)) (couple m x)
here s t m ms x h turned =
    Contains-append_left (map (couple m) (filter (is_turned s t m) ms)) (turned_from s t ms) (couple m x)
    (map_has (couple m) (filter (is_turned s t m) ms) x (Contains-filtered (is_turned s t m) ms x h turned))

there : (s t : List Item) (m : Member) (ms : List Member) (c : Couple) → Contains (turned_from s t ms) c → Contains (turned_from s t (m ∷ ms)) c
there s t m ms c h = Contains-append_right (map (couple m) (filter (is_turned s t m) ms)) (turned_from s t ms) c h

abbrev pub EitherWay : List Couple → Member → Member → Type 0
EitherWay couples m x = Contains couples (couple m x) ⊎ Contains couples (couple x m)

-- two members whose order differs are a couple, one way or the other
pub turned_has : (s t : List Item) (ms : List Member) (m x : Member) → Contains ms m → Contains ms x → (m ≡ x → ⊥) → is_turned s t m x ≡ true → is_turned s t x m ≡ true → EitherWay (turned_from s t ms) m x
turned_has s t [] m x hm hx differ mx xm = absurd (Contains-nil m hm)
turned_has s t (y ∷ ms) m x hm hx differ mx xm = which (Contains-cons_cases y ms m hm) (Contains-cons_cases y ms x hx) (λ g h. turned_has s t ms m x g h differ mx xm)
  where
    later : EitherWay (turned_from s t ms) m x → EitherWay (turned_from s t (y ∷ ms)) m x
    later (inl h) = inl (there s t y ms (couple m x) h)
    later (inr h) = inr (there s t y ms (couple x m) h)

    which : (y ≡ m) ⊎ Contains ms m → (y ≡ x) ⊎ Contains ms x → (Contains ms m → Contains ms x → EitherWay (turned_from s t ms) m x) → EitherWay (turned_from s t (y ∷ ms)) m x
    which (inl e) (inl f) rest = absurd (differ (sym e ∙ f))
    which (inl e) (inr g) rest = inl (subst (λ (z : Member). Contains (turned_from s t (y ∷ ms)) (couple z x)) e (here s t y ms x g (subst (λ (z : Member). is_turned s t z x ≡ true) (sym e) mx)))
    which (inr g) (inl e) rest = inr (subst (λ (z : Member). Contains (turned_from s t (y ∷ ms)) (couple z m)) e (here s t y ms m g (subst (λ (z : Member). is_turned s t z m ≡ true) (sym e) xm)))
    which (inr g) (inr h) rest = later (rest g h)

-- ---- What is found in them

pub couple_apart : (held : List Answered) (items : List Item) (couples : List Couple) (c : Couple) → AreApart held items couples → Contains couples c → Judges held items c None
couple_apart held items [] c all h = absurd (Contains-nil c h)
couple_apart held items (d ∷ couples) c all h = which (Contains-cons_cases d couples c h) (λ g. couple_apart held items couples c all.1 g)
  where
    which : (d ≡ c) ⊎ Contains couples c → (Contains couples c → Judges held items c None) → Judges held items c None
    which (inl e) rest = subst (λ (z : Couple). Judges held items z None) e all.0
    which (inr g) rest = rest g
