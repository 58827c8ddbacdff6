-- Each item has a line.
use Rattle.std.proofs.Common.{◌≡◌, ◌+◌, ℕ, zero, suc, false, List, [], ◌∷◌, ◌++◌, map, Option, Some, None, is_some, refl, sym, ap, ◌∙◌, subst, arith}
use Rattle.std.specs.Prelude.{slice_get}
use Rattle.std.specs.List.{Contains, enumerate_from, flat_map}
use Rattle.std.proofs.lemmas.List.Elements.{Contains-append_left, Contains-append_right}
use Rattle.list_facts.proofs.Members.{Contains-here, Contains-there}
use Rattle.css_model.specs.declared.sheet.Item.{Item}
use Rattle.media_groups.specs.declared.media.Media.{Media}
use Rattle.media_groups.specs.Levels.{body_level, outer_level}
use Rattle.media_groups.specs.Opened.{opened_of}
use Rattle.list_text.specs.Laws.{EachInnerItemIsListed, EachItemIsListed}
use Rattle.list_text.specs.ListTexts.{block_of, body_lines, item_line, item_lines, list_lines}

-- what is among the lines of an item is among all lines
among : {X : Type 0} (f : ℕ × X → List (List ℕ)) (line : List ℕ) (first n : ℕ) (x : X) (xs : List X) → slice_get xs n ≡ Some x → Contains (f (first + n, x)) line
    → Contains (flat_map f (enumerate_from first xs)) line
among f line first n x [] is has = absurd (cc)
among {X} f line first zero x (y ∷ xs) is has =
    let same : y ≡ x = some_same is in
    let number : first + 0 ≡ first = omega arith in
    Contains-append_left (f (first, y)) (flat_map f (enumerate_from (first + 1) xs)) line
    (subst (λ (z : X). Contains (f (first, z)) line) (sym same) (subst (λ (m : ℕ). Contains (f (m, x)) line) number has))
  where
    some_same : {a b : X} → ◌≡◌ {A = Option X} (Some a) (Some b) → a ≡ b
    some_same is = cc
among {X} f line first (suc n) x (y ∷ xs) is has =
    let number : first + suc n ≡ (first + 1) + n = omega arith in
    Contains-append_right (f (first, y)) (flat_map f (enumerate_from (first + 1) xs)) line
    (among f line (first + 1) n x xs is (subst (λ (m : ℕ). Contains (f (m, x)) line) number has))

-- a line for each of some items
among_lines : {X : Type 0} (f : ℕ × X → List ℕ) (first n : ℕ) (x : X) (xs : List X) → slice_get xs n ≡ Some x → Contains (map f (enumerate_from first xs)) (f (first + n, x))
among_lines f first n x [] is = absurd (cc)
among_lines {X} f first zero x (y ∷ xs) is =
    let same : y ≡ x = some_same is in
    let number : first ≡ first + 0 = omega arith in
    subst (λ (m : ℕ). Contains (f (first, y) ∷ map f (enumerate_from (first + 1) xs)) (f (m, x))) number
    (subst (λ (z : X). Contains (f (first, y) ∷ map f (enumerate_from (first + 1) xs)) (f (first, z))) same (Contains-here (f (first, y)) (map f (enumerate_from (first + 1) xs))))
  where
    some_same : {a b : X} → ◌≡◌ {A = Option X} (Some a) (Some b) → a ≡ b
    some_same is = cc
among_lines {X} f first (suc n) x (y ∷ xs) is =
    let number : (first + 1) + n ≡ first + suc n = omega arith in
    subst (λ (m : ℕ). Contains (f (first, y) ∷ map f (enumerate_from (first + 1) xs)) (f (m, x))) number
    (Contains-there (f (first, y)) (map f (enumerate_from (first + 1) xs)) (f ((first + 1) + n, x)) (among_lines f (first + 1) n x xs is))

from_one : (n : ℕ) → suc n ≡ 1 + n
from_one n = omega arith

pub outer_listed : EachItemIsListed
outer_listed source items item n read at =
    let here : Contains (item_lines source items (suc n, item)) (item_line source (outer_level source items) (is_some (block_of (suc n) (opened_of items source))) (suc n, item)) =
    Contains-here (item_line source (outer_level source items) (is_some (block_of (suc n) (opened_of items source))) (suc n, item)) (body_lines source (block_of (suc n) (opened_of items source))) in
    among (item_lines source items) (item_line source (outer_level source items) (is_some (block_of (suc n) (opened_of items source))) (suc n, item)) 1 n item items at
    (subst (λ (m : ℕ). Contains (item_lines source items (m, item)) (item_line source (outer_level source items) (is_some (block_of (suc n) (opened_of items source))) (suc n, item))) (from_one n) here)

pub inner_listed : EachInnerItemIsListed
inner_listed source items block inner m n k read at opened inside =
    let line : List ℕ = item_line source (body_level source m) false (suc k, inner) in
    let body : Contains (body_lines source (Some m)) line =
    subst (λ (j : ℕ). Contains (body_lines source (Some m)) (item_line source (body_level source m) false (j, inner))) (sym (from_one k))
    (among_lines (item_line source (body_level source m) false) 1 k inner m.sheet.items inside) in
    let there : Contains (body_lines source (block_of (suc n) (opened_of items source))) line = subst (λ (o : Option Media). Contains (body_lines source o) line) (sym opened) body in
    let here : Contains (item_lines source items (suc n, block)) line =
    Contains-there (item_line source (outer_level source items) (is_some (block_of (suc n) (opened_of items source))) (suc n, block)) (body_lines source (block_of (suc n) (opened_of items source))) line there in
    among (item_lines source items) line 1 n block items at (subst (λ (j : ℕ). Contains (item_lines source items (j, block)) line) (from_one n) here)
