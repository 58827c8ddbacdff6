-- Tests of attribute values (Selectors 3, section 6.3). In all of them `v` is the value in the
-- selector, and `value` that of the element's attribute.
use Rattle.std.specs.Prelude.{◌≡◌, ◌≢◌, ◌⊎◌, ℕ, Bool, true, false, not, ◌&&◌, ◌||◌, ◌==◌, List, [], ◌∷◌, ◌++◌}
use Rattle.std.specs.List.{All, list_all}
use Rattle.css_model.specs.declared.selector.Op.{Op}
use Rattle.css_model.specs.declared.selector.Op.TheVariants.{Present, Equal, Word, Dash, Prefix, Suffix, Part}
use Rattle.css_model.specs.Lists.{same_text, is_empty, begins_with}
use Rattle.css_model.specs.Text.Characters.{is_white}

-- the text begins with v, ends with v, contains v (section 6.3.2)
abbrev pub BeginsWith : List ℕ → List ℕ → Type 0
BeginsWith text v = (rest : List ℕ) × (text ≡ v ++ rest)

abbrev pub EndsWith : List ℕ → List ℕ → Type 0
EndsWith text v = (front : List ℕ) × (text ≡ front ++ v)

abbrev pub HasPart : List ℕ → List ℕ → Type 0
HasPart text v = (front : List ℕ) × (rest : List ℕ) × (text ≡ front ++ v ++ rest)

-- the text is empty or begins with white space (for the words of section 6.3.1)
abbrev pub StartsWhite : List ℕ → Type 0
StartsWhite [] = Unit {0}
StartsWhite (c ∷ cs) = is_white c ≡ true

-- the text is empty or ends with white space (the same)
abbrev pub EndsWhite : List ℕ → Type 0
EndsWhite text = (text ≡ []) ⊎ ((front : List ℕ) × (c : ℕ) × (text ≡ front ++ c ∷ []) × (is_white c ≡ true))

-- v stands in the text with white space or an end of the text at both sides: without white space
-- in it, it is one of the words of the text (section 6.3.1)
abbrev pub StandsAlone : List ℕ → List ℕ → Type 0
StandsAlone text v = (front : List ℕ) × (rest : List ℕ) × (text ≡ front ++ v ++ rest) × EndsWhite front × StartsWhite rest

-- Which values pass a test (Selectors 3, sections 6.3.1 and 6.3.2).
--     [att]       each
--     [att=v]     v itself
--     [att~=v]    a list of words, separated by white space, one of which is v; none, where v is
--                 empty or holds white space
--     [att|=v]    v itself, and what begins with v and `-`
--     [att^=v], [att$=v], [att*=v]      what begins with v, ends with v, contains v; none, where v is empty
abbrev pub Passes : Op → List ℕ → List ℕ → Type 0
Passes Present v value = Unit {0}
Passes Equal v value = value ≡ v
Passes Word v value = (v ≢ []) × All (λ c. is_white c ≡ false) v × StandsAlone value v
Passes Dash v value = (value ≡ v) ⊎ BeginsWith value (v ++ 0x2D ∷ [])
Passes Prefix v value = (v ≢ []) × BeginsWith value v
Passes Suffix v value = (v ≢ []) × EndsWith value v
Passes Part v value = (v ≢ []) × HasPart value v

-- The rest of this file is the same as tests that compute (own; a law says that they agree).

abbrev pub ends_with : List ℕ → List ℕ → Bool
ends_with [] v = is_empty v
ends_with (c ∷ text) v = same_text (c ∷ text) v || ends_with text v

abbrev pub has_part : List ℕ → List ℕ → Bool
has_part [] v = is_empty v
has_part (c ∷ text) v = begins_with (c ∷ text) v || has_part text v

abbrev pub starts_white : List ℕ → Bool
starts_white [] = true
starts_white (c ∷ cs) = is_white c

-- the text begins with v, behind which white space or the end follows
abbrev pub begins_with_word : List ℕ → List ℕ → Bool
begins_with_word text [] = starts_white text
begins_with_word [] (d ∷ v) = false
begins_with_word (c ∷ text) (d ∷ v) = c == d && begins_with_word text v

-- a part of the text that begins behind white space does
abbrev pub has_word_later : List ℕ → List ℕ → Bool
has_word_later [] v = false
has_word_later (c ∷ text) v = is_white c && begins_with_word text v || has_word_later text v

-- whether a value passes a test
abbrev pub passes : Op → List ℕ → List ℕ → Bool
passes Present v value = true
passes Equal v value = same_text value v
passes Word v value = not (is_empty v) && list_all (λ c. not (is_white c)) v && (begins_with_word value v || has_word_later value v)
passes Dash v value = same_text value v || begins_with value (v ++ 0x2D ∷ [])
passes Prefix v value = not (is_empty v) && begins_with value v
passes Suffix v value = not (is_empty v) && ends_with value v
passes Part v value = not (is_empty v) && has_part value v
