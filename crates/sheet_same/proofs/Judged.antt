-- What is found in couples, one after the other, while answers are given.
use Rattle.std.proofs.Common.{◌≡◌, ℕ, ◌+◌, ◌-◌, ◌<◌, Bool, true, false, List, [], ◌∷◌, ◌++◌, length, map, take, drop, get_or, Option, Some, None, refl, sym, ap, ◌∙◌, subst}
use Rattle.std.specs.Prelude.{if◌then◌else◌}
use Rattle.std.specs.List.{filter}
use Rattle.std.proofs.lemmas.List.{append_assoc, take_rest}
use Rattle.css_model.specs.declared.sheet.Item.{Item}
use Rattle.overlap.specs.PairsParts.{Answered, PairsParts}
use Rattle.sheet_order.specs.Allowing.{Stays}
use Rattle.sheet_same.specs.declared.compared.Compared.{Compared}
use Rattle.sheet_same.specs.Judging.{JudgesMembers, Judges, AreApart, IsJudged}
use Rattle.sheet_same.specs.Members.{Member, Paired, KeptAt}
use Rattle.sheet_same.specs.Standing.{Standing, are_turned, couples_with, couples_of}
use Rattle.sheet_same.specs.Turned.{Couple, couple}
use Rattle.sheet_same.proofs.Lists.{next_left}

-- ---- More answers

members_stay : (p q : PairsParts) → Stays p q → (items : List Item) (m x : Member) → JudgesMembers p.answers items m x None → JudgesMembers q.answers items m x None
members_stay p q stays items (Paired x) (Paired y) h = record { answer = h.answer; answered = stays.held x.pair.selector y.pair.selector h.answer h.answered; says = h.says }
members_stay p q stays items (Paired x) (KeptAt n item) h = h
members_stay p q stays items (KeptAt n item) m h = h

pub apart_stays : (p q : PairsParts) → Stays p q → (items : List Item) (couples : List Couple) → AreApart p.answers items couples → AreApart q.answers items couples
apart_stays p q stays items [] h = tt
apart_stays p q stays items (c ∷ couples) h = (members_stay p q stays items c.earlier c.later h.0, apart_stays p q stays items couples h.1)

-- ---- More couples

apart_append : (held : List Answered) (items : List Item) (xs ys : List Couple) → AreApart held items xs → AreApart held items ys → AreApart held items (xs ++ ys)
apart_append held items [] ys h g = g
apart_append held items (c ∷ xs) ys h g = (h.0, apart_append held items xs ys h.1 g)

-- nothing is found in the first ones, so the others tell
pub judged_behind : (p q : PairsParts) → Stays p q → (items : List Item) (xs ys : List Couple) (found : Option Compared) → AreApart p.answers items xs → IsJudged q.answers items ys found → IsJudged q.answers items (xs ++ ys) found
judged_behind p q stays items xs ys None h g = apart_append q.answers items xs ys (apart_stays p q stays items xs h) g
judged_behind p q stays items xs ys (Some found) h g = record {
  before = xs ++ g.before;
  couple = g.couple;
  behind = g.behind;
  parts = ap (λ (cs : List Couple). xs ++ cs) g.parts ∙ sym (append_assoc xs g.before (g.couple ∷ g.behind));
  apart = apart_append q.answers items xs g.before (apart_stays p q stays items xs h) g.apart;
  judges = g.judges;
}

-- what is found in the first ones is found
pub judged_before : (held : List Answered) (items : List Item) (xs ys : List Couple) (found : Compared) → IsJudged held items xs (Some found) → IsJudged held items (xs ++ ys) (Some found)
judged_before held items xs ys found h = record {
  before = h.before;
  couple = h.couple;
  behind = h.behind ++ ys;
  parts = ap (λ (cs : List Couple). cs ++ ys) h.parts ∙ append_assoc h.before (h.couple ∷ h.behind) ys;
  apart = h.apart;
  judges = h.judges;
}

-- ---- One couple

one_judged : (held : List Answered) (items : List Item) (c : Couple) (found : Option Compared) → Judges held items c found → IsJudged held items (c ∷ []) found
one_judged held items c None h = (h, tt)
one_judged held items c (Some found) h = record { before = []; couple = c; behind = []; parts = refl; apart = tt; judges = h }

with_one : (m x : Standing) (b : Bool) → are_turned m x ≡ b → couples_with m (x ∷ []) ≡ (if b then couple m.member x.member ∷ [] else [])
with_one m x b h = ap (λ (z : Bool). map (λ y. couple m.member y.member) (if z then x ∷ [] else [])) h ∙ which b
  where
    which : (z : Bool) → map (λ y. couple m.member y.member) (if z then x ∷ [] else []) ≡ (if z then couple m.member x.member ∷ [] else [])
    which true = refl
    which false = refl

pub one_turned : (held : List Answered) (items : List Item) (m x : Standing) (found : Option Compared) → true ≡ are_turned m x → JudgesMembers held items m.member x.member found → IsJudged held items (couples_with m (x ∷ [])) found
one_turned held items m x found turned h =
    subst (λ (cs : List Couple). IsJudged held items cs found) (sym (with_one m x true (sym turned))) (one_judged held items (couple m.member x.member) found h)

pub one_unturned : (held : List Answered) (items : List Item) (m x : Standing) → false ≡ are_turned m x → IsJudged held items (couples_with m (x ∷ [])) None
one_unturned held items m x turned = subst (λ (cs : List Couple). IsJudged held items cs None) (sym (with_one m x false (sym turned))) tt

-- ---- A member and later ones

pub with_more : (m x : Standing) (xs : List Standing) → couples_with m (x ∷ xs) ≡ couples_with m (x ∷ []) ++ couples_with m xs
with_more m x xs = which (are_turned m x)
  where
    which : (b : Bool) → map (λ y. couple m.member y.member) (if b then x ∷ filter (are_turned m) xs else filter (are_turned m) xs)
        ≡ map (λ y. couple m.member y.member) (if b then x ∷ [] else []) ++ couples_with m xs
    which true = refl
    which false = refl

module _ (items : List Item) (m x : Standing) (later : List Standing) (i : ℕ) (below : i < length later) (at : x ≡ get_or later i x) where
  next_with : couples_with m (drop i later) ≡ couples_with m (x ∷ []) ++ couples_with m (drop (i + 1) later)
  next_with = ap (couples_with m) (next_left later i x below at) ∙ with_more m x (drop (i + 1) later)

  pub found_with : (held : List Answered) (found : Compared) → IsJudged held items (couples_with m (x ∷ [])) (Some found) → IsJudged held items (couples_with m (drop i later)) (Some found)
  found_with held found h =
      subst (λ (cs : List Couple). IsJudged held items cs (Some found)) (sym next_with) (judged_before held items (couples_with m (x ∷ [])) (couples_with m (drop (i + 1) later)) found h)

  pub none_with : (p q : PairsParts) (found : Option Compared) → Stays p q → IsJudged p.answers items (couples_with m (x ∷ [])) None → IsJudged q.answers items (couples_with m (drop (i + 1) later)) found →
      IsJudged q.answers items (couples_with m (drop i later)) found
  none_with p q found stays h g =
      subst (λ (cs : List Couple). IsJudged q.answers items cs found) (sym next_with) (judged_behind p q stays items (couples_with m (x ∷ [])) (couples_with m (drop (i + 1) later)) found h g)

-- ---- All members

module _ (items : List Item) (m : Standing) (members : List Standing) (i b : ℕ) (below : i < length members) (at : m ≡ get_or members i m) (same : b ≡ i) where
  abbrev pub later : List Standing
  later = take (length members - (b + 1)) (drop (b + 1) members)

  next_of : couples_of (drop i members) ≡ couples_with m later ++ couples_of (drop (i + 1) members)
  next_of = ap couples_of (next_left members i m below at) ∙ ap (λ (xs : List Standing). couples_with m xs ++ couples_of (drop (i + 1) members)) (sym (take_rest members (b + 1) ∙ ap (λ (n : ℕ). drop (n + 1) members) same))

  pub found_of : (held : List Answered) (found : Compared) → IsJudged held items (couples_with m later) (Some found) → IsJudged held items (couples_of (drop i members)) (Some found)
  found_of held found h =
      subst (λ (cs : List Couple). IsJudged held items cs (Some found)) (sym next_of) (judged_before held items (couples_with m later) (couples_of (drop (i + 1) members)) found h)

  pub none_of : (p q : PairsParts) (found : Option Compared) → Stays p q → IsJudged p.answers items (couples_with m later) None → IsJudged q.answers items (couples_of (drop (i + 1) members)) found → IsJudged q.answers items (couples_of (drop i members)) found
  none_of p q found stays h g =
      subst (λ (cs : List Couple). IsJudged q.answers items cs found) (sym next_of) (judged_behind p q stays items (couples_with m later) (couples_of (drop (i + 1) members)) found h g)
