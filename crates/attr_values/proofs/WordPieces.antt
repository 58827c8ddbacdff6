-- A word that stands alone in a text with separators, inside one of its pieces.
use Rattle.std.proofs.Common.{◌≡◌, ◌≢◌, ◌⊎◌, ℕ, Bool, true, false, List, [], ◌∷◌, ◌++◌, refl, sym, ap, ap₂, subst, inl, inr, ◌∙◌, append_assoc}
use Rattle.std.specs.List.{All}
use Rattle.std.proofs.lemmas.List.Elements.{All-head, All-tail}
use Rattle.std.proofs.lemmas.List.{append-nil}
use Rattle.std.proofs.lemmas.Bool.{false≢true}
use Rattle.css_model.specs.Text.Characters.{is_white}
use Rattle.css_model.specs.Documents.Attribute.{StartsWhite, EndsWhite, StandsAlone}
use Rattle.attr_values.proofs.Pieces.{lies}

-- whether white space or an end stands behind a text, where it does or does not before the text
abbrev pub ends_white : Bool → List ℕ → Bool
ends_white before [] = before
ends_white before (c ∷ cs) = ends_white (is_white c) cs

-- whether white space or an end stands before a text, where it does or does not behind it
abbrev pub starts_white : Bool → List ℕ → Bool
starts_white behind [] = behind
starts_white behind (c ∷ cs) = is_white c

-- v stands in the text with white space or an end at both sides, where the ends of the text count or not
abbrev pub Alone : Bool → Bool → List ℕ → List ℕ → Type 0
Alone before behind text v =
    (front : List ℕ) × (rest : List ℕ) × (text ≡ front ++ v ++ rest) × (ends_white before front ≡ true) × (starts_white behind rest ≡ true)

pub ends-append : (before : Bool) (xs ys : List ℕ) → ends_white before (xs ++ ys) ≡ ends_white (ends_white before xs) ys
ends-append before [] ys = refl
ends-append before (x ∷ xs) ys = ends-append (is_white x) xs ys

pub starts-append : (behind : Bool) (xs ys : List ℕ) → starts_white behind (xs ++ ys) ≡ starts_white (starts_white behind ys) xs
starts-append behind [] ys = refl
starts-append behind (x ∷ xs) ys = refl

ends_more : (before : Bool) (xs : List ℕ) → ends_white false xs ≡ true → ends_white before xs ≡ true
ends_more before [] h = absurd (false≢true h)
ends_more before (x ∷ xs) h = h

starts_more : (behind : Bool) (xs : List ℕ) → starts_white false xs ≡ true → starts_white behind xs ≡ true
starts_more behind [] h = absurd (false≢true h)
starts_more behind (x ∷ xs) h = h

-- the two ways to say it
starts-words : (rest : List ℕ) → starts_white true rest ≡ true → StartsWhite rest
starts-words [] h = tt
starts-words (c ∷ cs) h = h

words-start : (rest : List ℕ) → StartsWhite rest → starts_white true rest ≡ true
words-start [] h = refl
words-start (c ∷ cs) h = h

ends-words : (front : List ℕ) → ends_white true front ≡ true → EndsWhite front
ends-words [] h = inl refl
ends-words (c ∷ []) h = inr ([], c, refl, h)
ends-words (c ∷ d ∷ cs) h = behind (ends-words (d ∷ cs) h)
  where
    behind : EndsWhite (d ∷ cs) → EndsWhite (c ∷ d ∷ cs)
    behind (inl e) = absurd (let none : ⊥ = cc in none)
    behind (inr w) = inr (c ∷ w.0, w.1, ap (λ (ns : List ℕ). c ∷ ns) w.2, w.3)

words-end : (front : List ℕ) → EndsWhite front → ends_white true front ≡ true
words-end front (inl e) = subst (λ (f : List ℕ). ends_white true f ≡ true) (sym e) refl
words-end front (inr w) = subst (λ (f : List ℕ). ends_white true f ≡ true) (sym w.2) (ends-append true w.0 (w.1 ∷ []) ∙ w.3)

pub alone-stands : (text v : List ℕ) → Alone true true text v → StandsAlone text v
alone-stands text v h = (h.0, h.1, h.2, ends-words h.0 h.3, starts-words h.1 h.4)

pub stands-alone : (text v : List ℕ) → StandsAlone text v → Alone true true text v
stands-alone text v h = (h.0, h.1, h.2, words-end h.0 h.3, words-start h.1 h.4)

-- where v holds no separator, it stands before it or behind it
pub alone_splits : (c : ℕ) (before behind : Bool) (xs ys v : List ℕ) → All (λ d. d ≢ c) v → Alone before behind (xs ++ c ∷ ys) v →
    Alone before (is_white c) xs v ⊎ Alone (is_white c) behind ys v
alone_splits c before behind xs ys v free h = cases (lies c xs ys h.0 v h.1 free h.2)
  where
    cases : ((more : List ℕ) × (xs ≡ h.0 ++ v ++ more) × (h.1 ≡ more ++ c ∷ ys)) ⊎ ((more : List ℕ) × (h.0 ≡ xs ++ c ∷ more) × (ys ≡ more ++ v ++ h.1)) →
        Alone before (is_white c) xs v ⊎ Alone (is_white c) behind ys v
    cases (inl w) = inl (h.0, w.0, w.1, h.3, sym (ap (starts_white behind) w.2 ∙ starts-append behind w.0 (c ∷ ys)) ∙ h.4)
    cases (inr w) = inr (w.0, h.1, w.2, sym (ap (ends_white before) w.1 ∙ ends-append before xs (c ∷ w.0)) ∙ h.3, h.4)

-- in the empty text
pub alone_nil : (before behind : Bool) (v : List ℕ) → v ≢ [] → Alone before behind [] v → ⊥
alone_nil before behind v some h = cases h.0 h.1 v some h.2
  where
    cases : (front rest v : List ℕ) → v ≢ [] → [] ≡ front ++ v ++ rest → ⊥
    cases [] rest [] some e = some refl
    cases [] rest (d ∷ v) some e = cc
    cases (x ∷ front) rest v some e = cc

-- in a text without white space
pub alone_whole : (before behind : Bool) (text v : List ℕ) → v ≢ [] → All (λ d. is_white d ≡ false) text → Alone before behind text v → text ≡ v
alone_whole before behind text v some dark h = cases h.0 h.1 v some text dark h.2 h.3 h.4
  where
    no_rest : (rest v text : List ℕ) → All (λ d. is_white d ≡ false) text → text ≡ v ++ rest → starts_white behind rest ≡ true → text ≡ v
    no_rest [] v text dark e h = e ∙ append-nil v
    no_rest (c ∷ rest) [] text dark e h = absurd (false≢true (sym (All-head (λ d. is_white d ≡ false) c rest (subst (All (λ d. is_white d ≡ false)) e dark)) ∙ h))
    no_rest (c ∷ rest) (d ∷ v) [] dark e h = absurd (let none : ⊥ = cc in none)
    no_rest (c ∷ rest) (d ∷ v) (x ∷ text) dark e h =
        ap₂ (λ (n : ℕ) (ns : List ℕ). n ∷ ns) (let same : x ≡ d = cc in same)
        (no_rest (c ∷ rest) v text (All-tail (λ d. is_white d ≡ false) x text dark) (let t : text ≡ v ++ c ∷ rest = cc in t) h)

    dark_end : (first : Bool) (front more : List ℕ) → All (λ d. is_white d ≡ false) (front ++ more) → first ≡ false → ends_white first front ≡ true → ⊥
    dark_end first [] more dark is h = false≢true (sym is ∙ h)
    dark_end first (x ∷ front) more dark is h = dark_end (is_white x) front more (All-tail (λ d. is_white d ≡ false) x (front ++ more) dark) (All-head (λ d. is_white d ≡ false) x (front ++ more) dark) h

    cases : (front rest v : List ℕ) → v ≢ [] → (text : List ℕ) → All (λ d. is_white d ≡ false) text → text ≡ front ++ v ++ rest →
        ends_white before front ≡ true → starts_white behind rest ≡ true → text ≡ v
    cases [] rest v some text dark e front_white rest_white = no_rest rest v text dark e rest_white
    cases (x ∷ front) rest v some text dark e front_white rest_white =
        let e2 : text ≡ x ∷ (front ++ (v ++ rest)) = e ∙ ap (λ (t : List ℕ). x ∷ t) (append_assoc front v rest) in
        let all : All (λ d. is_white d ≡ false) (x ∷ (front ++ (v ++ rest))) = subst (All (λ d. is_white d ≡ false)) e2 dark in
        absurd (dark_end (is_white x) front (v ++ rest) (All-tail (λ d. is_white d ≡ false) x (front ++ (v ++ rest)) all) (All-head (λ d. is_white d ≡ false) x (front ++ (v ++ rest)) all) front_white)

-- in a piece of a text
pub alone_inside : (left piece right v : List ℕ) → Alone (ends_white true left) (starts_white true right) piece v → StandsAlone (left ++ piece ++ right) v
alone_inside left piece right v h = alone-stands (left ++ piece ++ right) v (
  left ++ h.0,
  h.1 ++ right,
  placed,
  ends-append true left h.0 ∙ h.3,
  starts-append true h.1 right ∙ h.4,
)
  where
    placed : left ++ piece ++ right ≡ (left ++ h.0) ++ v ++ (h.1 ++ right)
    placed = ap (λ (t : List ℕ). left ++ t ++ right) h.2 ∙ simp append_assoc

-- where its own white space stands at both sides
pub alone_anywhere : (left piece right v : List ℕ) → Alone false false piece v → StandsAlone (left ++ piece ++ right) v
alone_anywhere left piece right v h = alone_inside left piece right v
    (h.0, h.1, h.2, ends_more (ends_white true left) h.0 h.3, starts_more (starts_white true right) h.1 h.4)

pub alone_first : (piece right v : List ℕ) → Alone true false piece v → StandsAlone (piece ++ right) v
alone_first piece right v h = alone_inside [] piece right v
    (h.0, h.1, h.2, h.3, starts_more (starts_white true right) h.1 h.4)

pub alone_last : (left piece v : List ℕ) → Alone false true piece v → StandsAlone (left ++ piece) v
alone_last left piece v h =
    subst (λ (t : List ℕ). StandsAlone t v) (append-nil (left ++ piece))
    (alone_inside left piece [] v (h.0, h.1, h.2, ends_more (ends_white true left) h.0 h.3, h.4))
