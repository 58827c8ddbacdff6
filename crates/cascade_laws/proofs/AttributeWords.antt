-- The tests of attribute values, in words and as tests that compute.
use Rattle.std.proofs.Common.{◌≡◌, ◌≢◌, ◌⊎◌, ℕ, true, false, not, ◌&&◌, ◌||◌, List, [], ◌∷◌, ◌++◌, refl, sym, ap, ap₂, subst, inl, inr}
use Rattle.std.specs.Prelude.{◌==◌}
use Rattle.std.specs.Bool.{Decides}
use Rattle.std.specs.List.{All, list_all}
use Rattle.std.specs.Cmp.Lexicographic.{bytes_decides}
use Rattle.std.proofs.lemmas.Bool.{or_cases, and_parts, and_from, or_left, or_right, false≢true, eqb-true, eq-eqb, not-true, not_from_false}
use Rattle.std.proofs.lemmas.Bool.Decides.{Decides-by_and, Decides-and, Decides-or}
use Rattle.css_model.specs.declared.selector.Op.{Op}
use Rattle.css_model.specs.declared.selector.Op.TheVariants.{Present, Equal, Word, Dash, Prefix, Suffix, Part}
use Rattle.css_model.specs.Text.Characters.{is_white}
use Rattle.css_model.specs.Documents.Attribute.{BeginsWith, EndsWith, HasPart, StartsWhite, EndsWhite, StandsAlone, Passes, ends_with, has_part, starts_white, begins_with_word, has_word_later, passes}
use Rattle.css_model.specs.Lists.{begins_with}
use Rattle.css_model.specs.Lists.{is_empty}
use Rattle.css_model.specs.Lists.{same_text}
use Rattle.css_model.specs.Positions.Notation.{value}

-- a text is equal to itself
same-itself : (v : List ℕ) → same_text v v ≡ true
same-itself v = (bytes_decides v v).1 refl

not_empty-decides : (v : List ℕ) → Decides (not (is_empty v)) (v ≢ [])
not_empty-decides [] = (λ h. absurd (false≢true h), λ h. absurd (h refl))
not_empty-decides (c ∷ cs) = (λ _ e. cc, λ _. refl)

begins-words : (text v : List ℕ) → begins_with text v ≡ true → BeginsWith text v
begins-words text [] h = (text, refl)
begins-words [] (d ∷ v) h = absurd (false≢true h)
begins-words (c ∷ text) (d ∷ v) h = more (and_parts (c == d) (begins_with text v) h) (begins-words text v)
  where
    more : ((c == d) ≡ true) × (begins_with text v ≡ true) → (begins_with text v ≡ true → BeginsWith text v) → BeginsWith (c ∷ text) (d ∷ v)
    more h rest = ((rest h.1).0, ap₂ (λ (n : ℕ) (ns : List ℕ). n ∷ ns) (eqb-true c d h.0) (rest h.1).1)

words-begin : (v rest : List ℕ) → begins_with (v ++ rest) v ≡ true
words-begin [] rest = refl
words-begin (d ∷ v) rest = and_from (d == d) (begins_with (v ++ rest) v) (eq-eqb d d refl) (words-begin v rest)

begins-decides : (text v : List ℕ) → Decides (begins_with text v) (BeginsWith text v)
begins-decides text v = (begins-words text v, λ h. subst (λ (t : List ℕ). begins_with t v ≡ true) (sym h.1) (words-begin v h.0))

ends-words : (text v : List ℕ) → ends_with text v ≡ true → EndsWith text v
ends-words [] [] h = ([], refl)
ends-words [] (d ∷ v) h = absurd (false≢true h)
ends-words (c ∷ text) v h = more (or_cases (same_text (c ∷ text) v) (ends_with text v) h) (ends-words text v)
  where
    more : (same_text (c ∷ text) v ≡ true) ⊎ (ends_with text v ≡ true) → (ends_with text v ≡ true → EndsWith text v) → EndsWith (c ∷ text) v
    more (inl e) rest = ([], (bytes_decides (c ∷ text) v).0 e)
    more (inr e) rest = (c ∷ (rest e).0, ap (λ (ns : List ℕ). c ∷ ns) (rest e).1)

words-end : (front v : List ℕ) → ends_with (front ++ v) v ≡ true
words-end [] [] = refl
words-end [] (d ∷ v) = or_left (same_text (d ∷ v) (d ∷ v)) (ends_with v (d ∷ v)) (same-itself (d ∷ v))
words-end (c ∷ front) v = or_right (same_text (c ∷ front ++ v) v) (ends_with (front ++ v) v) (words-end front v)

ends-decides : (text v : List ℕ) → Decides (ends_with text v) (EndsWith text v)
ends-decides text v = (ends-words text v, λ h. subst (λ (t : List ℕ). ends_with t v ≡ true) (sym h.1) (words-end h.0 v))

part-words : (text v : List ℕ) → has_part text v ≡ true → HasPart text v
part-words [] [] h = ([], [], refl)
part-words [] (d ∷ v) h = absurd (false≢true h)
part-words (c ∷ text) v h = more (or_cases (begins_with (c ∷ text) v) (has_part text v) h) (part-words text v)
  where
    more : (begins_with (c ∷ text) v ≡ true) ⊎ (has_part text v ≡ true) → (has_part text v ≡ true → HasPart text v) → HasPart (c ∷ text) v
    more (inl e) rest = ([], (begins-words (c ∷ text) v e).0, (begins-words (c ∷ text) v e).1)
    more (inr e) rest = (c ∷ (rest e).0, (rest e).1, ap (λ (ns : List ℕ). c ∷ ns) (rest e).2)

words-part : (front v rest : List ℕ) → has_part (front ++ v ++ rest) v ≡ true
words-part [] [] [] = refl
words-part [] [] (c ∷ rest) = refl
words-part [] (d ∷ v) rest = or_left (begins_with (d ∷ v ++ rest) (d ∷ v)) (has_part (v ++ rest) (d ∷ v)) (words-begin (d ∷ v) rest)
words-part (c ∷ front) v rest = or_right (begins_with (c ∷ front ++ v ++ rest) v) (has_part (front ++ v ++ rest) v) (words-part front v rest)

part-decides : (text v : List ℕ) → Decides (has_part text v) (HasPart text v)
part-decides text v = (part-words text v, λ h. subst (λ (t : List ℕ). has_part t v ≡ true) (sym h.2) (words-part h.0 v h.1))

starts-decides : (text : List ℕ) → Decides (starts_white text) (StartsWhite text)
starts-decides [] = (λ _. tt, λ _. refl)
starts-decides (c ∷ cs) = (λ h. h, λ h. h)

-- v, and then white space or the end
word-words : (text v : List ℕ) → begins_with_word text v ≡ true → (rest : List ℕ) × (text ≡ v ++ rest) × StartsWhite rest
word-words text [] h = (text, refl, (starts-decides text).0 h)
word-words [] (d ∷ v) h = absurd (false≢true h)
word-words (c ∷ text) (d ∷ v) h = more (and_parts (c == d) (begins_with_word text v) h) (word-words text v)
  where
    more : ((c == d) ≡ true) × (begins_with_word text v ≡ true) → (begins_with_word text v ≡ true → (rest : List ℕ) × (text ≡ v ++ rest) × StartsWhite rest) → (rest : List ℕ) × (c ∷ text ≡ d ∷ v ++ rest) × StartsWhite rest
    more h rest = ((rest h.1).0, ap₂ (λ (n : ℕ) (ns : List ℕ). n ∷ ns) (eqb-true c d h.0) (rest h.1).1, (rest h.1).2)

words-word : (v rest : List ℕ) → StartsWhite rest → begins_with_word (v ++ rest) v ≡ true
words-word [] rest h = (starts-decides rest).1 h
words-word (d ∷ v) rest h = and_from (d == d) (begins_with_word (v ++ rest) v) (eq-eqb d d refl) (words-word v rest h)

-- a word behind white space
later-words : (text v : List ℕ) → has_word_later text v ≡ true → (front : List ℕ) × (c : ℕ) × (rest : List ℕ) × (text ≡ (front ++ c ∷ []) ++ v ++ rest) × (is_white c ≡ true) × StartsWhite rest
later-words [] v h = absurd (false≢true h)
later-words (c ∷ text) v h = more (or_cases (is_white c && begins_with_word text v) (has_word_later text v) h) (later-words text v)
  where
    here : (is_white c ≡ true) × (begins_with_word text v ≡ true) → (front : List ℕ) × (d : ℕ) × (rest : List ℕ) × (c ∷ text ≡ (front ++ d ∷ []) ++ v ++ rest) × (is_white d ≡ true) × StartsWhite rest
    here h = let w : (rest : List ℕ) × (text ≡ v ++ rest) × StartsWhite rest = word-words text v h.1 in ([], c, w.0, ap (λ (ns : List ℕ). c ∷ ns) w.1, h.0, w.2)

    more : ((is_white c && begins_with_word text v) ≡ true) ⊎ (has_word_later text v ≡ true) →
        (has_word_later text v ≡ true → (front : List ℕ) × (d : ℕ) × (rest : List ℕ) × (text ≡ (front ++ d ∷ []) ++ v ++ rest) × (is_white d ≡ true) × StartsWhite rest) →
        (front : List ℕ) × (d : ℕ) × (rest : List ℕ) × (c ∷ text ≡ (front ++ d ∷ []) ++ v ++ rest) × (is_white d ≡ true) × StartsWhite rest
    more (inl e) rest = here (and_parts (is_white c) (begins_with_word text v) e)
    more (inr e) rest = let w = rest e in (c ∷ w.0, w.1, w.2, ap (λ (ns : List ℕ). c ∷ ns) w.3, w.4, w.5)

words-later : (front : List ℕ) (c : ℕ) (v rest : List ℕ) → is_white c ≡ true → StartsWhite rest → has_word_later ((front ++ c ∷ []) ++ v ++ rest) v ≡ true
words-later [] c v rest white starts = or_left (is_white c && begins_with_word (v ++ rest) v) (has_word_later (v ++ rest) v) (and_from (is_white c) (begins_with_word (v ++ rest) v) white (words-word v rest starts))
words-later (x ∷ front) c v rest white starts = or_right (is_white x && begins_with_word ((front ++ c ∷ []) ++ v ++ rest) v) (has_word_later ((front ++ c ∷ []) ++ v ++ rest) v) (words-later front c v rest white starts)

alone-words : (text v : List ℕ) → (begins_with_word text v ≡ true) ⊎ (has_word_later text v ≡ true) → StandsAlone text v
alone-words text v (inl h) = let w : (rest : List ℕ) × (text ≡ v ++ rest) × StartsWhite rest = word-words text v h in ([], w.0, w.1, inl refl, w.2)
alone-words text v (inr h) =
    let w : (front : List ℕ) × (c : ℕ) × (rest : List ℕ) × (text ≡ (front ++ c ∷ []) ++ v ++ rest) × (is_white c ≡ true) × StartsWhite rest = later-words text v h in
    (w.0 ++ w.1 ∷ [], w.2, w.3, inr (w.0, w.1, refl, w.4), w.5)

words-alone : (v front rest : List ℕ) → EndsWhite front → StartsWhite rest → (begins_with_word (front ++ v ++ rest) v || has_word_later (front ++ v ++ rest) v) ≡ true
words-alone v front rest (inl e) starts = subst (λ (f : List ℕ). (begins_with_word (f ++ v ++ rest) v || has_word_later (f ++ v ++ rest) v) ≡ true) (sym e)
    (or_left (begins_with_word (v ++ rest) v) (has_word_later (v ++ rest) v) (words-word v rest starts))
words-alone v front rest (inr h) starts = subst (λ (f : List ℕ). (begins_with_word (f ++ v ++ rest) v || has_word_later (f ++ v ++ rest) v) ≡ true) (sym h.2)
    (or_right (begins_with_word ((h.0 ++ h.1 ∷ []) ++ v ++ rest) v) (has_word_later ((h.0 ++ h.1 ∷ []) ++ v ++ rest) v) (words-later h.0 h.1 v rest h.3 starts))

alone-decides : (text v : List ℕ) → Decides (begins_with_word text v || has_word_later text v) (StandsAlone text v)
alone-decides text v = (
  λ h. alone-words text v (or_cases (begins_with_word text v) (has_word_later text v) h),
  λ h. subst (λ (t : List ℕ). (begins_with_word t v || has_word_later t v) ≡ true) (sym h.2) (words-alone v h.0 h.1 h.3 h.4),
)

dark-decides : (c : ℕ) → Decides (not (is_white c)) (is_white c ≡ false)
dark-decides c = (not-true (is_white c), not_from_false (is_white c))

dark_all-decides : (v : List ℕ) → Decides (list_all (λ c. not (is_white c)) v) (All (λ c. is_white c ≡ false) v)
dark_all-decides v = Decides-by_and (λ c. not (is_white c)) (λ c. is_white c ≡ false) (list_all (λ c. not (is_white c))) dark-decides refl (λ _ _. refl) v

pub passes-decides : (op : Op) (v value : List ℕ) → Decides (passes op v value) (Passes op v value)
passes-decides Present v value = (λ _. tt, λ _. refl)
passes-decides Equal v value = bytes_decides value v
passes-decides Word v value =
    let parts : Decides (not (is_empty v) && list_all (λ c. not (is_white c)) v && (begins_with_word value v || has_word_later value v)) (((v ≢ []) × All (λ c. is_white c ≡ false) v) × StandsAlone value v) =
    Decides-and (not (is_empty v) && list_all (λ c. not (is_white c)) v) (begins_with_word value v || has_word_later value v)
    (Decides-and (not (is_empty v)) (list_all (λ c. not (is_white c)) v) (not_empty-decides v) (dark_all-decides v)) (alone-decides value v) in
    (λ h. ((parts.0 h).0.0, (parts.0 h).0.1, (parts.0 h).1), λ h. parts.1 ((h.0, h.1), h.2))
passes-decides Dash v value = Decides-or (same_text value v) (begins_with value (v ++ 0x2D ∷ [])) (bytes_decides value v) (begins-decides value (v ++ 0x2D ∷ []))
passes-decides Prefix v value = Decides-and (not (is_empty v)) (begins_with value v) (not_empty-decides v) (begins-decides value v)
passes-decides Suffix v value = Decides-and (not (is_empty v)) (ends_with value v) (not_empty-decides v) (ends-decides value v)
passes-decides Part v value = Decides-and (not (is_empty v)) (has_part value v) (not_empty-decides v) (part-decides value v)
