-- The parts of an input, as a search for two line feeds finds them.
use Rattle.std.proofs.Common.{ℕ, zero, suc, ◌+◌, ◌-◌, ◌<◌, ◌≤◌, ◌≡◌, Bool, true, false, ◌&&◌, ◌==◌, List, [], ◌∷◌, Some, None, length, take, drop, refl, ap, ap₂, ◌∙◌, arith, length-drop, take_all}
use Rattle.std.specs.Prelude.{if◌then◌else◌, nat_eq}
use Rattle.std.specs.Cmp.Lexicographic.{pointwise}
use Rattle.std.proofs.lemmas.Bool.{and_parts, eqb-true, false≢true, false_from_ne_true}
use Rattle.memchr.specs.Find.{OccursAt, FindsNeedle}
use Rattle.memchr.proofs.lemmas.MatchLemmas.{OccursAt-from_part, OccursAt-split}
use Rattle.css_model.specs.Text.Characters.{line_feed, begins}
use Rattle.style_text.specs.Inputs.{before_empty_line, behind_empty_line, document_part, sheet_part}

abbrev pub two : List ℕ
two = line_feed ∷ line_feed ∷ []

-- whether a text begins with two line feeds
abbrev pub ends : List ℕ → Bool
ends [] = false
ends (c ∷ cs) = c == line_feed && begins line_feed cs

occurs-ends : (text : List ℕ) (k : ℕ) → OccursAt text two k → ends (drop k text) ≡ true
occurs-ends text k h = ap ends (OccursAt-split text two k h)

first_two : (text : List ℕ) → ends text ≡ true → take 2 text ≡ two
first_two [] h = absurd (false≢true h)
first_two (c ∷ []) h = absurd (false≢true (and_parts (c == line_feed) false h).1)
first_two (c ∷ d ∷ text) h =
    let both = and_parts (c == line_feed) (d == line_feed) h in
    ap₂ (λ (x y : ℕ). x ∷ y ∷ []) (eqb-true c line_feed both.0) (eqb-true d line_feed both.1)

are_two : (text : List ℕ) → ends text ≡ true → 2 ≤ length text
are_two [] h = absurd (false≢true h)
are_two (c ∷ []) h = absurd (false≢true (and_parts (c == line_feed) false h).1)
are_two (c ∷ d ∷ text) h = omega arith

ends-occurs : (text : List ℕ) (k : ℕ) → ends (drop k text) ≡ true → OccursAt text two k
ends-occurs text k h = OccursAt-from_part text two k (omega (arith, are_two (drop k text) h, length-drop k text)) (first_two (drop k text) h)

-- The parts of a text with which no line begins, and of one with which a line may begin that is not empty.
abbrev Parts : Bool → List ℕ → List ℕ → List ℕ → Type 0
Parts b text before behind = (before_empty_line b text ≡ before) × (behind_empty_line b text ≡ behind)

full_line : (b : Bool) (text before behind : List ℕ) → (b && begins line_feed text) ≡ false → Parts false text before behind → Parts b text before behind
full_line b [] before behind full parts = parts
full_line false (c ∷ text) before behind full parts = parts
full_line true (c ∷ text) before behind full parts = (
  ap (λ (b : Bool). if b then [] else (c ∷ before_empty_line (c == line_feed) text)) full ∙ parts.0,
  ap (λ (b : Bool). if b then text else behind_empty_line (c == line_feed) text) full ∙ parts.1,
)

one_more : (c : ℕ) (text before behind : List ℕ) → ends (c ∷ text) ≡ false → Parts false text before behind → Parts false (c ∷ text) (c ∷ before) behind
one_more c text before behind full parts =
    let later = full_line (c == line_feed) text before behind full parts in
    (ap (λ (cs : List ℕ). c ∷ cs) later.0, later.1)

parts_here : (text : List ℕ) → ends text ≡ true → Parts false text (take 1 text) (drop 2 text)
parts_here [] h = absurd (false≢true h)
parts_here (c ∷ []) h = absurd (false≢true (and_parts (c == line_feed) false h).1)
parts_here (c ∷ d ∷ text) h = (
  ap (λ (b : Bool). c ∷ (if b then [] else (d ∷ before_empty_line (d == line_feed) text))) h,
  ap (λ (b : Bool). if b then text else behind_empty_line (d == line_feed) text) h,
)

parts_found : (text : List ℕ) (k : ℕ) → ends (drop k text) ≡ true → ((j : ℕ) → j < k → ends (drop j text) ≡ false) → Parts false text (take (suc k) text) (drop (suc (suc k)) text)
parts_found text zero here before = parts_here text here
parts_found [] (suc k) here before = absurd (false≢true here)
parts_found (c ∷ text) (suc k) here before =
    one_more c text (take (suc k) text) (drop (suc (suc k)) text) (before 0 (omega arith)) (parts_found text k here (λ j below. before (suc j) (omega arith)))

parts_whole : (text : List ℕ) → ((j : ℕ) → j < length text → ends (drop j text) ≡ false) → Parts false text text []
parts_whole [] none = (refl, refl)
parts_whole (c ∷ text) none = one_more c text text [] (none 0 (omega arith)) (parts_whole text (λ j below. none (suc j) (omega arith)))

-- what a range to the end takes
pub rest_of : (n : ℕ) (text : List ℕ) → take (length text - n) (drop n text) ≡ drop n text
rest_of n text = take_all (length text - n) (drop n text) (omega (arith, length-drop n text))

-- ---- Of an input that begins with an empty line

abbrev one : List ℕ
one = line_feed ∷ []

begins_is : (input : List ℕ) → begins line_feed input ≡ pointwise nat_eq (take 1 input) one
begins_is [] = refl
begins_is (c ∷ text) = by (c == line_feed)
  where
    by : (b : Bool) → b ≡ (b && true)
    by true = refl
    by false = refl

pub begins_full : (input : List ℕ) → pointwise nat_eq (take 1 input) one ≡ false → begins line_feed input ≡ false
begins_full input h = begins_is input ∙ h

pub first_found : (input : List ℕ) → pointwise nat_eq (take 1 input) one ≡ true → (document_part input ≡ []) × (sheet_part input ≡ drop 1 input)
unfolding document_part sheet_part
first_found [] empty = absurd (false≢true empty)
first_found (c ∷ text) empty =
    let is : (c == line_feed) ≡ true = begins_is (c ∷ text) ∙ empty in (
      ap (λ (b : Bool). if b then [] else (c ∷ before_empty_line (c == line_feed) text)) is,
      ap (λ (b : Bool). if b then text else behind_empty_line (c == line_feed) text) is,
    )

-- ---- Of one that does not begin with an empty line

pub found : (input : List ℕ) (k : ℕ) → begins line_feed input ≡ false → FindsNeedle input two 0 (Some k) → (document_part input ≡ take (k + 1) input) × (sheet_part input ≡ drop (k + 2) input)
unfolding document_part sheet_part
found input k full at =
    let here = occurs-ends input k at.1 in
    let parts = full_line true input (take (suc k) input) (drop (suc (suc k)) input) full
    (parts_found input k here (λ j below. false_from_ne_true _ (λ yes. (at.0).before j (omega arith) below (ends-occurs input j yes)))) in
    let one : suc k ≡ k + 1 = omega arith in
    let more : suc (suc k) ≡ k + 2 = omega arith in
    (parts.0 ∙ ap (λ (n : ℕ). take n input) one, parts.1 ∙ ap (λ (n : ℕ). drop n input) more)

pub not_found : (input : List ℕ) → begins line_feed input ≡ false → FindsNeedle input two 0 None → (document_part input ≡ input) × (sheet_part input ≡ [])
unfolding document_part sheet_part
not_found input full nowhere =
    full_line true input input [] full
    (parts_whole input (λ j below. false_from_ne_true _ (λ yes. nowhere j (omega arith) (omega arith) (ends-occurs input j yes))))
