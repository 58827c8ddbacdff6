-- What the answer of the reader says of the text, from what was read with a cap.
use Rattle.std.proofs.Common.{◌≡◌, ◌↔◌, ℕ, List, refl, sym, ap, subst, ◌∙◌}
use Rattle.std.specs.Prelude.{Some, None, Result, Ok, Err}
use Rattle.css_model.specs.declared.position.AnB.{AnB}
use Rattle.nth_positions.specs.declared.notation.AnbFault.{AnbFault}
use Rattle.nth_positions.specs.declared.notation.AnbFault.TheVariants.{NotAnB, OutOfRange}
use Rattle.css_model.specs.Positions.Range.{IsInRange}
use Rattle.css_model.specs.Positions.Notation.{IsNotation}
use Rattle.css_model.specs.Positions.Reading.{past_blanks, body_of}
use Rattle.nth_positions.proofs.Cases.{same_some, none_is_no_some}
use Rattle.nth_positions.proofs.Caps.{CapsBoth, same_if_read_in_range, same_if_in_range}
use Rattle.nth_positions.proofs.Steps.{ReadsBody}
use Rattle.nth_positions.proofs.Texts.{text_reads, text_splits, IsReadText}

pub record Outcomes (text : List ℕ) (result : Result AnB AnbFault) : Type 0 where
  pub ok : (x : AnB) → (result ≡ Ok x) ↔ (IsNotation text x × IsInRange x)
  pub not_anb : (result ≡ Err NotAnB) ↔ ((x : AnB) → IsNotation text x → ⊥)
  pub out_of_range : (result ≡ Err OutOfRange) ↔ ((x : AnB) × IsNotation text x × (IsInRange x → ⊥))

-- nothing was read: the text is not in the notation
pub no_notation : (text : List ℕ) → None ≡ body_of (past_blanks text) → (x : AnB) → IsNotation text x → ⊥
no_notation text e x n = none_is_no_some (e ∙ (text_reads text x n).found)

pub outcomes_none : (text : List ℕ) → None ≡ body_of (past_blanks text) → Outcomes text (Err NotAnB)
outcomes_none text e = record {
  ok = λ x. ((λ f. cc), (λ w. absurd (no_notation text e x w.0)));
  not_anb = ((λ _. no_notation text e), (λ _. refl));
  out_of_range = ((λ f. cc), (λ w. absurd (no_notation text e w.0 w.1)));
}

-- what was read is the one that the text stands for, up to the cap
caps_of : (text : List ℕ) (z y : AnB) → Some z ≡ body_of (past_blanks text) → IsNotation text y → CapsBoth y z
caps_of text z y e n = (let r : ReadsBody (body_of (past_blanks text)) y = text_reads text y n in subst (CapsBoth y) (sym (same_some (e ∙ r.found))) r.caps)

in_range_along : (x y : AnB) → x ≡ y → IsInRange x → IsInRange y
in_range_along x y e r = subst IsInRange e r

pub outcomes_in_range : (text : List ℕ) (z : AnB) → Some z ≡ body_of (past_blanks text) → IsInRange z → Outcomes text (Ok z)
outcomes_in_range text z e r = record {
  ok = λ x. ((λ f. (let same : z ≡ x = cc in (subst (IsNotation text) same here, subst IsInRange same r))), (λ w. ap Ok (same_if_in_range x z (caps_of text z x e w.0) w.1)));
  not_anb = ((λ f. cc), (λ h. absurd (h z here)));
  out_of_range = ((λ f. cc), (λ w. absurd (w.2 (subst IsInRange (same_if_read_in_range w.0 z (caps_of text z w.0 e w.1) r) r))));
}
  where
    read : IsReadText text z
    read = text_splits text z (sym e)

    here : IsNotation text z
    here = subst (IsNotation text) (sym (same_if_read_in_range read.pair z read.caps r)) read.is_notation

pub outcomes_out_of_range : (text : List ℕ) (z : AnB) → Some z ≡ body_of (past_blanks text) → (IsInRange z → ⊥) → Outcomes text (Err OutOfRange)
outcomes_out_of_range text z e r = record {
  ok = λ x. ((λ f. cc), (λ w. absurd (r (subst IsInRange (sym (same_if_in_range x z (caps_of text z x e w.0) w.1)) w.1))));
  not_anb = ((λ f. cc), (λ h. absurd (h read.pair read.is_notation)));
  out_of_range = ((λ _. (read.pair, read.is_notation, λ i. r (subst IsInRange (sym (same_if_in_range read.pair z read.caps i)) i))), (λ _. refl));
}
  where
    read : IsReadText text z
    read = text_splits text z (sym e)
