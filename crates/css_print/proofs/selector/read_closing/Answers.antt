use Rattle.std.proofs.Common.{◌≡◌, ℕ, suc, List, ◌∷◌, drop, ap, sym, ◌∙◌, false}
use Rattle.std.specs.List.{position_or_len}
use Rattle.css_model.specs.Text.Kept.{Solid}
use Rattle.css_print.specs.Walking.{left, solid_of}
use Rattle.css_print.specs.Words.{closes, gap_of_first}
use Rattle.css_print.proofs.TermLemmas.{closing_later}
use Rattle.css_print.proofs.selector.read_closing.Goals as goal

pub tokens-preserved : goal.tokens-preserved
tokens-preserved c =
    let s : Solid = solid_of c.in-Some.word in
    let rest = left c.next.new.self in
    let was : left c.tokens.walk ≡ s ∷ rest = c.in-Some.ensures.word in
    let other : closes s ≡ false = sym c.is_sign_of.ensures ∙ c.if-is_sign_of.false in
    let at : position_or_len closes (s ∷ rest) ≡ suc (position_or_len closes rest) = closing_later s rest other in (
      sym (ap (λ (ss : List Solid). gap_of_first (drop (position_or_len closes ss) ss)) was ∙ ap (λ (n : ℕ). gap_of_first (drop n (s ∷ rest))) at) ∙ c.tokens.invariant.0,
      sym (ap (λ (ss : List Solid). drop (suc (position_or_len closes ss)) ss) was ∙ ap (λ (n : ℕ). drop (suc n) (s ∷ rest)) at) ∙ c.tokens.invariant.1,
      c.next.ensures.ready,
    )
