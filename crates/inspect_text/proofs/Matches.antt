-- Entries that are put one after the other.
use Rattle.std.proofs.Common.{◌≡◌, ◌<◌, ◌+◌, ℕ, List, [], ◌∷◌, ◌++◌, length, get_or, take, append-nil, append_assoc, refl, sym, ap, ◌∙◌, arith}
use Rattle.std.specs.List.{flat_map}
use Rattle.std.proofs.lemmas.List.{take_more}
use Rattle.std.proofs.lemmas.List.Concat.{flat_map-append}
use Rattle.css_model.specs.declared.sheet.DeclItem.{DeclItem}
use Rattle.inspect_laws.specs.Entries.{Layer, Matching, by_declaration}

-- a rule of which no selector matches has no entry
pub none_matching : (l : Layer) (item : ℕ) (ms : List Matching) (decls : List (ℕ × DeclItem)) → length ms ≡ 0 → flat_map (by_declaration l item ms) decls ≡ []
none_matching l item [] [] none = refl
none_matching l item [] (d ∷ decls) none = none_matching l item [] decls none
none_matching l item (m ∷ ms) decls none = absurd (omega arith)

-- one more list of a flat one
pub flat_next : {X A : Type 0} (f : X → List A) (first so_far new : List A) (xs : List X) (i : ℕ) (x : X) → i < length xs → x ≡ get_or xs i x →
    so_far ≡ first ++ flat_map f (take i xs) → new ≡ so_far ++ f x → new ≡ first ++ flat_map f (take (i + 1) xs)
flat_next f first so_far new xs i x within is done put =
    put ∙ ap (λ ys. ys ++ f x) done ∙ append_assoc first (flat_map f (take i xs)) (f x)
    ∙ ap (λ ys. first ++ ys) (ap (λ ys. flat_map f (take i xs) ++ ys) (sym (append-nil (f x))) ∙ sym (flat_map-append f (take i xs) (x ∷ [])) ∙ ap (λ y. flat_map f (take i xs ++ y ∷ [])) is ∙ ap (flat_map f) (sym (take_more xs i x within)))
