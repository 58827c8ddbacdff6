-- The terms of the tokens behind one that was read.
use Rattle.std.proofs.Common.{◌≡◌, ◌≤◌, ◌-◌, ℕ, zero, suc, List, [], ◌∷◌, Option, length, take, drop, get_or, refl, sym, ap, ap₂, ◌∙◌, arith}
use Rattle.std.proofs.lemmas.List.{take_rest}
use Rattle.css_model.specs.declared.token.Gap.{Gap}
use Rattle.css_model.specs.declared.token.TokenKind.{TokenKind}
use Rattle.css_model.specs.Selectors.Terms.{Term, argument_of_term, counted_gap, depth_behind_term, first_kind, gap_of_term, more_of_term, terms_from}
use Rattle.css_model.specs.Selectors.Tokens.{SelectorToken}

-- tokens that belong to a term are left out
pub terms_from-drop : (depth left : ℕ) (xs : List SelectorToken) → terms_from depth left xs ≡ terms_from depth 0 (drop left xs)
terms_from-drop depth zero xs = refl
terms_from-drop depth (suc left) [] = refl
terms_from-drop depth (suc left) (x ∷ xs) = terms_from-drop depth left xs

-- there are no more terms than tokens
pub length-terms_from : (depth left : ℕ) (xs : List SelectorToken) → length (terms_from depth left xs) ≤ length xs
length-terms_from depth left [] = omega arith
length-terms_from depth (suc left) (x ∷ xs) = let later = length-terms_from depth left xs in omega arith
length-terms_from depth zero (x ∷ xs) = let later = length-terms_from (depth_behind_term depth x) (more_of_term x xs) xs in omega arith

-- a list by its first member and those behind it
pub first_and_rest : {A : Type 0} (xs : List A) (x : A) → 1 ≤ length xs → x ≡ get_or xs 0 x → xs ≡ x ∷ take (length xs - 1) (drop 1 xs)
first_and_rest [] x some is = absurd (omega arith)
first_and_rest {A = A} (y ∷ ys) x some is = ap₂ (λ (z : A) (zs : List A). z ∷ zs) (sym is) (sym (take_rest (y ∷ ys) 1))

abbrev term_of : SelectorToken → List SelectorToken → Gap → Term
term_of x xs g = record { kind = x.kind; name = x.name; dashed = x.dashed; only_dashes = x.only_dashes; gap = g; argument = argument_of_term x xs }

-- the first term, by parts that were found one by one, and those behind it
pub terms_from-cons : (depth behind : ℕ) (x : SelectorToken) (xs rest : List SelectorToken) (k : TokenKind) (g counted : Gap) (next : Option TokenKind)
    → behind ≡ depth_behind_term depth x → k ≡ x.kind → g ≡ gap_of_term x xs → next ≡ first_kind rest → counted ≡ counted_gap behind k g next
    → rest ≡ drop (more_of_term x xs) xs → terms_from depth 0 (x ∷ xs) ≡ term_of x xs counted ∷ terms_from behind 0 rest
terms_from-cons depth behind x xs rest k g counted next depths kinds gaps nexts counts rests =
    ap₂ (λ (t : Term) (ts : List Term). t ∷ ts)
    (ap (term_of x xs) (let same : counted_gap (depth_behind_term depth x) x.kind (gap_of_term x xs) (first_kind (drop (more_of_term x xs) xs)) ≡ counted = cc in same))
    (terms_from-drop (depth_behind_term depth x) (more_of_term x xs) xs ∙ ap₂ (λ (n : ℕ) (ys : List SelectorToken). terms_from n 0 ys) (sym depths) (sym rests))
