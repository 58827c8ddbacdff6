-- The texts that a made sheet is made of: its few selectors and declarations, and how long a rule is.
use Rattle.std.proofs.Common.{◌≡◌, ℕ, zero, suc, ◌+◌, ◌/◌, ◌%◌, ◌<◌, ◌≤◌, eqb, cond, Bool, true, false, List, [], ◌∷◌, ◌++◌, map, length, ap, sym, ◌∙◌, subst, arith}
use Rattle.std.specs.Prelude.{codes, decimal}
use Rattle.std.specs.List.{Contains}
use Rattle.std.proofs.lemmas.Fmt.{length-decimal-le}
use Rattle.std.proofs.lemmas.List.{append-nil, append_assoc, length-append}
use Rattle.std.proofs.lemmas.List.Elements.{Contains-append_left, Contains-append_right}
use Rattle.css_model.specs.Text.Characters.{open_curly, close_curly}
use Rattle.list_facts.proofs.Members.{Contains-here, Contains-there}
use Rattle.trial_gen.specs.Made.{declaration_text, property, rule_text, selector_text}

-- n numbers from a number on
abbrev pub numbers : ℕ → ℕ → List ℕ
numbers from zero = []
numbers from (suc n) = from ∷ numbers (suc from) n

-- a class, and a child of an element of this class
abbrev pub class : ℕ → List ℕ
class i = codes ".c" ++ decimal i

abbrev pub child : ℕ → List ℕ
child i = codes ".c" ++ decimal i ++ codes ">.d"

-- all selectors and all declarations of made sheets
abbrev pub selector_texts : List (List ℕ)
selector_texts = map class (numbers 0 40) ++ map child (numbers 0 40)

abbrev pub declaration_texts : List (List ℕ)
declaration_texts = map declaration_text (numbers 0 20)

counted : {A : Type 0} (f : ℕ → A) (from n i : ℕ) → i < n → Contains (map f (numbers from n)) (f (from + i))
counted f from zero i h = absurd (omega arith)
counted f from (suc n) zero h = let e : from ≡ from + 0 = omega arith in subst (λ k. Contains (map f (numbers from (suc n))) (f k)) e (Contains-here (f from) (map f (numbers (suc from) n)))
counted f from (suc n) (suc i) h =
    let e : suc from + i ≡ from + suc i = omega arith in
    let l : i < n = omega arith in
    subst (λ k. Contains (map f (numbers from (suc n))) (f k)) e (Contains-there (f from) (map f (numbers (suc from) n)) (f (suc from + i)) (counted f (suc from) n i l))

-- those from 0 on
below : {A : Type 0} (f : ℕ → A) (n i : ℕ) → i < n → Contains (map f (numbers 0 n)) (f i)
below f n i h = let e : 0 + i ≡ i = omega arith in subst (λ k. Contains (map f (numbers 0 n)) (f k)) e (counted f 0 n i h)

pub selector_is_one : (v : ℕ) → Contains selector_texts (selector_text v)
selector_is_one v = at (eqb (v % 3) 0)
  where
    few : v % 40 < 40
    few = omega arith

    at : (b : Bool) → Contains selector_texts (codes ".c" ++ decimal (v % 40) ++ cond b (codes ">.d") [])
    at true = Contains-append_right (map class (numbers 0 40)) (map child (numbers 0 40)) (child (v % 40)) (below child 40 (v % 40) few)
    at false =
        subst (λ text. Contains selector_texts text) (sym (append-nil (class (v % 40))))
        (Contains-append_left (map class (numbers 0 40)) (map child (numbers 0 40)) (class (v % 40)) (below class 40 (v % 40) few))

pub declaration_is_one : (w : ℕ) → Contains declaration_texts (declaration_text w)
declaration_is_one w =
    let few : w % 20 < 20 = omega arith in
    let low : w % 20 % 4 ≡ w % 4 = omega arith in
    let high : w % 20 / 4 % 5 ≡ w / 4 % 5 = omega arith in
    subst (λ text. Contains declaration_texts text) (ap (λ k. property k ++ codes ":" ++ decimal (w % 20 / 4 % 5) ++ codes "px") low ∙ ap (λ k. property (w % 4) ++ codes ":" ++ decimal k ++ codes "px") high)
    (below declaration_text 20 (w % 20) few)

property_short : (number : ℕ) → length (property number) ≤ 11
property_short zero = omega arith
property_short (suc zero) = omega arith
property_short (suc (suc zero)) = omega arith
property_short (suc (suc (suc zero))) = omega arith
property_short (suc (suc (suc (suc number)))) = omega arith

decimal_short : (n : ℕ) → n < 100 → length (decimal n) ≤ 2
decimal_short n h = length-decimal-le 2 n (omega arith) (omega arith) (omega arith)

selector_short : (v : ℕ) → length (selector_text v) ≤ 7
selector_short v = at (eqb (v % 3) 0)
  where
    few : length (decimal (v % 40)) ≤ 2
    few = decimal_short (v % 40) (omega arith)

    at : (b : Bool) → length (codes ".c" ++ decimal (v % 40) ++ cond b (codes ">.d") []) ≤ 7
    at true = omega (arith, few, length-append (decimal (v % 40)) (codes ">.d"))
    at false = omega (arith, few, length-append (decimal (v % 40)) [])

declaration_short : (w : ℕ) → length (declaration_text w) ≤ 16
declaration_short w =
    let few : length (decimal (w / 4 % 5)) ≤ 2 = decimal_short (w / 4 % 5) (omega arith) in
    omega (
      arith,
      few,
      property_short (w % 4),
      length-append (property (w % 4) ++ codes ":" ++ decimal (w / 4 % 5)) (codes "px"),
      length-append (property (w % 4) ++ codes ":") (decimal (w / 4 % 5)),
      length-append (property (w % 4)) (codes ":"),
    )

spread : (a b : List ℕ) → a ++ codes "{" ++ b ++ codes "}" ≡ a ++ open_curly ∷ b ++ close_curly ∷ []
spread a b = simp append_assoc

-- a rule as it is printed
pub rule_is : (v w : ℕ) → rule_text v w ≡ selector_text v ++ open_curly ∷ declaration_text w ++ close_curly ∷ []
rule_is v w = spread (selector_text v) (declaration_text w)

pub rule_short : (v w : ℕ) → length (rule_text v w) ≤ 25
rule_short v w =
    omega (
      arith,
      selector_short v,
      declaration_short w,
      length-append (selector_text v ++ codes "{" ++ declaration_text w) (codes "}"),
      length-append (selector_text v ++ codes "{") (declaration_text w),
      length-append (selector_text v) (codes "{"),
    )
