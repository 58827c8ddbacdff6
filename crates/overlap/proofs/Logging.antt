-- What is logged of an answer.
use Rattle.std.proofs.Common.{◌≡◌, ◌≢◌, ℕ, ◌&&◌, Bool, true, false, List, Option, Some, None, Result, Ok, Err, IfOk, IsTrue, refl, ap, subst, ◌∙◌}
use Rattle.std.specs.Prelude.{not}
use Rattle.cnf.specs.Cnf.{Cnf}
use Rattle.cnf.specs.declared.lit.Lit.{Lit}
use Rattle.css_model.specs.declared.selector.Pseudo.{Pseudo}
use Rattle.css_model.specs.Documents.Matching.{same_pseudo}
use Rattle.css_model.specs.Documents.SelectorParts.{SelectorParts}
use Rattle.overlap.specs.Answers.{IsLogOf, are_single, is_refuted}
use Rattle.overlap.specs.Combined.{IsCombinedLog}
use Rattle.overlap.specs.declared.answer.Answer.{Answer}
use Rattle.overlap.specs.declared.answer.Answer.TheVariants.{Apart, Meet, Outside, Spent}
use Rattle.overlap.specs.declared.answer.Decision.{Decision}
use Rattle.overlap.proofs.Deciding.{same_is, same_self}

and_false : (b : Bool) → (b && false) ≡ false
and_false true = refl
and_false false = refl

-- of two compounds nothing is logged
pub single_unlogged : (x y : SelectorParts) (answer : Answer) → are_single x y ≡ true → is_refuted x y answer ≡ false
single_unlogged x y Apart e = ap (λ (b : Bool). same_pseudo x.pseudo y.pseudo && not b) e ∙ and_false (same_pseudo x.pseudo y.pseudo)
single_unlogged x y (Meet ex) e = refl
single_unlogged x y (Outside r n) e = refl
single_unlogged x y (Spent l) e = refl

-- nor of different pseudo-elements
pub other_unlogged : (x y : SelectorParts) → (x.pseudo ≡ y.pseudo → ⊥) → is_refuted x y Apart ≡ false
other_unlogged x y other = by (same_pseudo x.pseudo y.pseudo) refl
  where
    by : (b : Bool) → same_pseudo x.pseudo y.pseudo ≡ b → (b && not (are_single x y)) ≡ false
    by true e = absurd (other (same_is x.pseudo y.pseudo e))
    by false e = refl

apart_refuted : (x y : SelectorParts) → are_single x y ≡ false → x.pseudo ≡ y.pseudo → is_refuted x y Apart ≡ true
apart_refuted x y single same =
    ap (λ (b : Bool). b && not (are_single x y)) (subst (λ (p : Option Pseudo). same_pseudo x.pseudo p ≡ true) same (same_self x.pseudo)) ∙ ap (λ (b : Bool). not b) single

others_unlogged : (x y : SelectorParts) (answer : Answer) → answer ≢ Apart → is_refuted x y answer ≡ false
others_unlogged x y Apart other = absurd (other refl)
others_unlogged x y (Meet ex) other = refl
others_unlogged x y (Outside r n) other = refl
others_unlogged x y (Spent l) other = refl

-- what is logged of an answer by the formula
pub combined_log : (x y : SelectorParts) (budget : ℕ) (answer : Answer) (log : Option (Cnf × List (List Lit))) → are_single x y ≡ false → x.pseudo ≡ y.pseudo →
    IsCombinedLog x y budget answer log → IsLogOf x y budget answer log
combined_log x y budget answer None single same h = others_unlogged x y answer h
combined_log x y budget answer (Some log) single same h = (ap (λ (a : Answer). is_refuted x y a) h.0 ∙ apart_refuted x y single same, h.1)

pub combined_logged : {E : Type 0} (with_log : Bool) (x y : SelectorParts) (budget : ℕ) (r : Result Decision E) → are_single x y ≡ false → x.pseudo ≡ y.pseudo →
    IfOk r (λ d. IsTrue with_log → IsCombinedLog x y budget d.answer d.log) → IfOk r (λ d. IsTrue with_log → IsLogOf x y budget d.answer d.log)
combined_logged with_log x y budget (Ok d) single same h = λ yes. combined_log x y budget d.answer d.log single same (h yes)
combined_logged with_log x y budget (Err e) single same h = h
