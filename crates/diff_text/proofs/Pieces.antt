-- Texts that are put one after the other.
use Rattle.std.proofs.Common.{◌≡◌, ℕ, List, [], ◌∷◌, ◌++◌, Option, sym, ap, ◌∙◌, append_assoc}
use Rattle.std.specs.Prelude.{codes}
use Rattle.sheet_members.specs.Occurrences.{Occurrence}
use Rattle.diff_text.specs.Lines.{Sides, winner_lines, winner_text}

-- five texts, by the brackets of `++` and by those of what is put first
pub left_five : (a b c d e : List ℕ) → (((a ++ b) ++ c) ++ d) ++ e ≡ a ++ (b ++ (c ++ (d ++ e)))
left_five a b c d e = append_assoc ((a ++ b) ++ c) d e ∙ append_assoc (a ++ b) c (d ++ e) ∙ append_assoc a b (c ++ (d ++ e))

pub ended : (out mid new front last : List ℕ) → mid ≡ out ++ front → new ≡ mid ++ last → new ≡ out ++ (front ++ last)
ended out mid new front last is is' = is' ∙ ap (λ (xs : List ℕ). xs ++ last) is ∙ append_assoc out front last

-- with a text and a number more
pub grown : (out mid new front text number : List ℕ) → mid ≡ out ++ front → new ≡ mid ++ (text ++ number) → new ≡ out ++ ((front ++ text) ++ number)
grown out mid new front text number is is' = ended out mid new front (text ++ number) is is' ∙ ap (λ (xs : List ℕ). out ++ xs) (sym (append_assoc front text number))

pub three_put : (out first second third a b c : List ℕ) → first ≡ out ++ a → second ≡ first ++ b → third ≡ second ++ c → third ≡ out ++ ((a ++ b) ++ c)
three_put out first second third a b c is is' is'' =
    is'' ∙ ap (λ (xs : List ℕ). xs ++ c) (is' ∙ ap (λ (xs : List ℕ). xs ++ b) is) ∙ append_assoc (out ++ a) b c ∙ append_assoc out a (b ++ c) ∙ ap (λ (xs : List ℕ). out ++ xs) (sym (append_assoc a b c))

pub winners_put : (x : Sides) (mine yours : Option Occurrence) (out first second third : List ℕ) → first ≡ (out ++ codes "first ") ++ winner_text x.text mine → second ≡ (first ++ codes "\nsecond ") ++ winner_text x.other yours →
    third ≡ second ++ 10 ∷ [] → third ≡ out ++ winner_lines x mine yours
winners_put x mine yours out first second third is is' is'' =
    let a : List ℕ = codes "first " ++ winner_text x.text mine in
    let b : List ℕ = codes "\nsecond " ++ winner_text x.other yours in
    three_put out first second third a b (10 ∷ []) (is ∙ append_assoc out (codes "first ") (winner_text x.text mine)) (is' ∙ append_assoc first (codes "\nsecond ") (winner_text x.other yours)) is''
    ∙ ap (λ (xs : List ℕ). out ++ (xs ++ 10 ∷ [])) (sym (append_assoc a (codes "\nsecond ") (winner_text x.other yours)))
