-- The tally of one text behind another is that of both.
use Rattle.std.proofs.Common.{ℕ, ◌-◌, ◌≡◌, List, [], ◌∷◌, ◌++◌, length, refl, sym, ap, ◌∙◌}
use Rattle.std.proofs.lemmas.List.{length-append}
use Rattle.std.proofs.Math.Nat.{sub-zero, sub-add-eq}
use Rattle.css_print.specs.declared.tally.Front.{Front}
use Rattle.css_print.specs.declared.tally.Tally.{Tally}
use Rattle.css_print.specs.Fronts.{longer, behind, tally_behind}

pub behind-append : (front : Front) (xs ys : List ℕ) → behind front (xs ++ ys) ≡ behind (behind front xs) ys
behind-append front [] ys = refl
behind-append front (c ∷ cs) ys = behind-append (longer front c) cs ys

pub tally_nothing : (t : Tally) → t ≡ tally_behind t []
tally_nothing t = ap (λ (n : ℕ). record { room = n; front = t.front }) (sym (sub-zero t.room))

pub tally_joins : (first second third : Tally) (front back : List ℕ) → second ≡ tally_behind first front → third ≡ tally_behind second back → third ≡ tally_behind first (front ++ back)
tally_joins first second third front back written later =
    let size : first.room - length front - length back ≡ first.room - length (front ++ back) =
    sym (ap (λ (n : ℕ). first.room - n) (length-append front back) ∙ sub-add-eq first.room (length front) (length back)) in
    later
    ∙ ap (λ (t : Tally). tally_behind t back) written
    ∙ ap (λ (n : ℕ). record { room = n; front = behind (behind first.front front) back }) size
    ∙ ap (λ (f : Front). record { room = first.room - length (front ++ back); front = f }) (sym (behind-append first.front front back))
