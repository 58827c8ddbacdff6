-- The parts that a loop has gathered, one element further.
use Rattle.std.proofs.Common.{◌≡◌, ℕ, ◌+◌, ◌<◌, List, [], ◌∷◌, ◌++◌, length, take, get_or, append-nil, Option, Some, None, sym, ap, ◌∙◌}
use Rattle.std.specs.List.{filter_map, flat_map, cons_option}
use Rattle.std.proofs.lemmas.List.{take_more, append_assoc}
use Rattle.std.proofs.lemmas.List.Elements.{filter_map-append}
use Rattle.std.proofs.lemmas.Grind.{flat_map-append}
use Rattle.css_model.specs.declared.position.AnB.{AnB}
use Rattle.css_model.specs.declared.selector.Simple.{Simple}
use Rattle.slot_plan.specs.Parts.{part_of}

abbrev gathered : List Simple → List AnB
gathered simples = filter_map (λ s. part_of s.test) simples

one_more : (front : List AnB) (simples : List Simple) (i : ℕ) (d : Simple) → i < length simples →
    front ++ gathered (take (i + 1) simples) ≡ (front ++ gathered (take i simples)) ++ gathered (get_or simples i d ∷ [])
one_more front simples i d below =
    ap (λ (xs : List Simple). front ++ gathered xs) (take_more simples i d below)
    ∙ ap (λ (xs : List AnB). front ++ xs) (filter_map-append (λ s. part_of s.test) (take i simples) (get_or simples i d ∷ []))
    ∙ sym (append_assoc front (gathered (take i simples)) (gathered (get_or simples i d ∷ [])))

-- a simple selector that gives a part
pub given_more : (front : List AnB) (simples : List Simple) (i : ℕ) (d : Simple) (part : AnB) → i < length simples → part_of (get_or simples i d).test ≡ Some part →
    front ++ filter_map (λ s. part_of s.test) (take (i + 1) simples) ≡ (front ++ filter_map (λ s. part_of s.test) (take i simples)) ++ part ∷ []
given_more front simples i d part below is =
    one_more front simples i d below ∙ ap (λ (o : Option AnB). (front ++ gathered (take i simples)) ++ cons_option o []) is

-- a simple selector that gives none
pub none_more : (front : List AnB) (simples : List Simple) (i : ℕ) (d : Simple) → i < length simples → part_of (get_or simples i d).test ≡ None →
    front ++ filter_map (λ s. part_of s.test) (take (i + 1) simples) ≡ front ++ filter_map (λ s. part_of s.test) (take i simples)
none_more front simples i d below is =
    one_more front simples i d below ∙ ap (λ (o : Option AnB). (front ++ gathered (take i simples)) ++ cons_option o []) is ∙ append-nil (front ++ gathered (take i simples))

-- a compound
pub parts_more : (front : List AnB) (chain : List (List Simple)) (i : ℕ) (d : List Simple) → i < length chain →
    front ++ filter_map (λ s. part_of s.test) (flat_map (λ compound. compound) (take (i + 1) chain))
    ≡ (front ++ filter_map (λ s. part_of s.test) (flat_map (λ compound. compound) (take i chain))) ++ filter_map (λ s. part_of s.test) (get_or chain i d)
parts_more front chain i d below =
    let compound = get_or chain i d in
    let before = flat_map (λ c. c) (take i chain) in
    ap (λ (cs : List (List Simple)). front ++ gathered (flat_map (λ c. c) cs)) (take_more chain i d below)
    ∙ ap (λ (xs : List Simple). front ++ gathered xs) (flat_map-append (λ c. c) (take i chain) (compound ∷ []))
    ∙ ap (λ (xs : List Simple). front ++ gathered (before ++ xs)) (append-nil compound)
    ∙ ap (λ (xs : List AnB). front ++ xs) (filter_map-append (λ s. part_of s.test) before compound)
    ∙ sym (append_assoc front (gathered before) (gathered compound))
