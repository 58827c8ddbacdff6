use Rattle.std.proofs.Common.{◌≡◌, ℕ, List, [], ◌∷◌, ◌++◌, sym, ap, ap₂, ◌∙◌}
use Rattle.std.specs.Prelude.{codes}
use Rattle.sheet_members.specs.Occurrences.{Occurrence}
use Rattle.diff_text.specs.Lines.{Sides, declaration_part, place, spot}
use Rattle.diff_text.proofs.Appended.{appended, appended_two}
use Rattle.diff_text.proofs.Pieces.{left_five}
use Rattle.diff_text.proofs.telling.put_changed_one.Goals as goal

pub returns : goal.returns
returns c =
    let x = c.args.sides.now in
    let mine = c.args.c.now.mine.occurrence in
    let yours = c.args.c.now.yours.occurrence in
    let a : List ℕ = c.extend_from_slice.new.self.items in
    let b : List ℕ = c.put_spot.new.out.items in
    let d : List ℕ = c.push.new.self.items in
    let e : List ℕ = c.put_change.new.out.items in
    let new : List ℕ = c.push-2.new.self.items in
    let there : List ℕ = place x.other yours in
    let declared : List ℕ = declaration_part yours.layer yours.part in
    let spotted : b ≡ a ++ spot x.text mine =
    c.in_ok-put_spot.ensures ∙ ap₂ (λ (t : List ℕ) (o : Occurrence). a ++ spot t o) (ap (λ (s : Sides). s.text) c.sides.view_is) c.here.ensures in
    let placed : e ≡ d ++ (there ++ declared) =
    c.in_ok-put_change.ensures ∙ ap₂ (λ (t : List ℕ) (o : Occurrence). d ++ (place t o ++ declaration_part o.layer o.part)) (ap (λ (s : Sides). s.other) c.sides.view_is) c.elsewhere.ensures in
    appended c.args.out.now.items a new (codes "changed ") (spot x.text mine ++ 32 ∷ (there ++ (declared ++ 10 ∷ []))) c.in_ok-extend_from_slice.ensures.items
    (appended a b new (spot x.text mine) (32 ∷ (there ++ (declared ++ 10 ∷ []))) spotted
    (appended b d new (32 ∷ []) (there ++ (declared ++ 10 ∷ [])) c.in_ok-push.ensures.items
    (appended_two d e new there declared (10 ∷ []) placed c.in_ok-push-2.ensures.items)))
    ∙ ap (λ (xs : List ℕ). c.args.out.now.items ++ xs) (sym (left_five (codes "changed ") (spot x.text mine) (32 ∷ there) declared (10 ∷ [])))
