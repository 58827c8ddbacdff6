-- Texts that are appended one after the other.
use Rattle.std.proofs.Common.{◌≡◌, ℕ, List, ◌∷◌, ◌++◌, sym, ap, ◌∙◌}
use Rattle.std.specs.List.{flat_map}
use Rattle.std.proofs.lemmas.List.{append_assoc}
use Rattle.sheet_members.specs.Members.{Member}

pub appended : (out mid new front rest : List ℕ) → mid ≡ out ++ front → new ≡ mid ++ rest → new ≡ out ++ (front ++ rest)
appended out mid new front rest first second = second ∙ ap (λ (xs : List ℕ). xs ++ rest) first ∙ append_assoc out front rest

pub appended_two : (out mid new text number rest : List ℕ) → mid ≡ out ++ (text ++ number) → new ≡ mid ++ rest → new ≡ out ++ (text ++ (number ++ rest))
appended_two out mid new text number rest first second =
    appended out mid new (text ++ number) rest first second ∙ ap (λ (xs : List ℕ). out ++ xs) (append_assoc text number rest)

-- the lines of one more member
pub lines_next : (line : Member → List ℕ) (first out new : List ℕ) (all rest others : List Member) (m : Member) → rest ≡ m ∷ others → new ≡ out ++ line m → out ++ flat_map line rest ≡ first ++ flat_map line all →
    new ++ flat_map line others ≡ first ++ flat_map line all
lines_next line first out new all rest others m cut pushed so =
    ap (λ (xs : List ℕ). xs ++ flat_map line others) pushed ∙ append_assoc out (line m) (flat_map line others) ∙ ap (λ (ms : List Member). out ++ flat_map line ms) (sym cut) ∙ so
