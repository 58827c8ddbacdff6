-- Texts that are joined one after the other, as a loop writes them.
use Rattle.std.proofs.Common.{◌≡◌, ℕ, zero, suc, ◌+◌, ◌<◌, List, [], ◌∷◌, ◌++◌, length, map, take, get_or, if◌then◌else◌, false, refl, sym, ◌∙◌, ap, arith}
use Rattle.std.specs.Prelude.{◌==◌}
use Rattle.std.specs.List.{flat_map, join_with_byte}
use Rattle.std.proofs.lemmas.Grind.{flat_map-append}
use Rattle.std.proofs.lemmas.List.{append_assoc, append-nil, map-append, take_more, length-map, length-take-le}

pub join_push : (c : ℕ) (parts : List (List ℕ)) (x : List ℕ) → 0 < length parts → join_with_byte c (parts ++ x ∷ []) ≡ join_with_byte c parts ++ (c ∷ []) ++ x
join_push c [] x some = absurd (omega arith)
join_push c (part ∷ []) x some = sym (append_assoc part (c ∷ []) x)
join_push c (part ∷ next ∷ parts) x some =
    ap (λ rest. part ++ c ∷ rest) (join_push c (next ∷ parts) x (omega arith))
    ∙ ap (λ rest. part ++ c ∷ rest) (append_assoc (join_with_byte c (next ∷ parts)) (c ∷ []) x)
    ∙ sym (append_assoc part (c ∷ join_with_byte c (next ∷ parts)) ((c ∷ []) ++ x))
    ∙ sym (append_assoc (part ++ c ∷ join_with_byte c (next ∷ parts)) (c ∷ []) x)

not_first : (i : ℕ) → 0 < i → (i == 0) ≡ false
not_first i later = grind arith

-- what stands before a part: nothing before the first
join_more : (c : ℕ) (parts : List (List ℕ)) (x : List ℕ) (i : ℕ) → length parts ≡ i → join_with_byte c (parts ++ x ∷ []) ≡ join_with_byte c parts ++ (if i == 0 then [] else c ∷ []) ++ x
join_more c [] x zero size = refl
join_more c [] x (suc i) size = absurd (omega arith)
join_more c (part ∷ parts) x zero size = absurd (omega arith)
join_more c (part ∷ parts) x (suc i) size =
    join_push c (part ∷ parts) x (omega arith)
    ∙ ap (λ b. join_with_byte c (part ∷ parts) ++ (if b then [] else c ∷ []) ++ x) (sym (not_first (suc i) (omega arith)))

-- a turn of a loop that writes the parts of a list
pub join_step : {X : Type 0} → (f : X → List ℕ) (c : ℕ) (out : List ℕ) (xs : List X) (i : ℕ) (x : X) → i < length xs → x ≡ get_or xs i x
    → (out ++ join_with_byte c (map f (take i xs))) ++ (if i == 0 then [] else c ∷ []) ++ f x ≡ out ++ join_with_byte c (map f (take (i + 1) xs))
join_step f c out xs i x below is =
    let parts = map f (take i xs) in
    let size : length parts ≡ i = length-map (take i xs) f ∙ length-take-le i xs (omega arith) in
    let more : map f (take (i + 1) xs) ≡ parts ++ f x ∷ [] =
    ap (map f) (take_more xs i x below ∙ ap (λ (y : _). take i xs ++ y ∷ []) (sym is)) ∙ map-append f (take i xs) (x ∷ []) in
    append_assoc (out ++ join_with_byte c parts) (if i == 0 then [] else c ∷ []) (f x)
    ∙ append_assoc out (join_with_byte c parts) ((if i == 0 then [] else c ∷ []) ++ f x)
    ∙ ap (λ text. out ++ text) (sym (append_assoc (join_with_byte c parts) (if i == 0 then [] else c ∷ []) (f x)) ∙ sym (join_more c parts (f x) i size) ∙ ap (join_with_byte c) (sym more))

-- a turn of a loop that writes texts with nothing between them
pub flat_map_step : {X : Type 0} → (f : X → List ℕ) (xs : List X) (i : ℕ) (x : X) → i < length xs → x ≡ get_or xs i x → flat_map f (take (i + 1) xs) ≡ flat_map f (take i xs) ++ f x
flat_map_step f xs i x below is =
    ap (flat_map f) (take_more xs i x below ∙ ap (λ (y : _). take i xs ++ y ∷ []) (sym is))
    ∙ flat_map-append f (take i xs) (x ∷ [])
    ∙ ap (λ text. flat_map f (take i xs) ++ text) (append-nil (f x))
