-- The last pairs, item by item from the end.
use Rattle.std.proofs.Common.{◌≡◌, ℕ, suc, Bool, List, [], ◌∷◌, ◌++◌, length, drop, refl, sym, ap, ◌∙◌}
use Rattle.std.proofs.lemmas.List.{append_assoc}
use Rattle.std.proofs.Math.Seq.{drop-append_seam}
use Rattle.css_model.specs.declared.sheet.Item.{Item}
use Rattle.order_laws.specs.Places.{PlacedPair, last_pairs_from}
use Rattle.sheet_order.specs.Counting.{last_with}

-- what is known before and behind the last item of the rest
abbrev pub EndsSo : (ℕ → Bool) → List Item → List Item → List PlacedPair → Type 0
EndsSo counts items rest later = (rest ++ drop (length rest) items ≡ items) × (later ≡ last_pairs_from counts (length rest) (drop (length rest) items))

pub length_more : {X : Type 0} (before : List X) (last : X) → length (before ++ last ∷ []) ≡ suc (length before)
length_more [] last = refl
length_more (x ∷ before) last = ap suc (length_more before last)

pub last_next : (counts : ℕ → Bool) (items before : List Item) (last : Item) (later : List PlacedPair) →
    EndsSo counts items (before ++ last ∷ []) later → EndsSo counts items before (last_with counts (length before) last later)
last_next counts items before last later (whole, pairs) =
    let behind = drop (length (before ++ last ∷ [])) items in
    let cut : before ++ last ∷ behind ≡ items = sym (append_assoc before (last ∷ []) behind) ∙ whole in
    let dropped : drop (length before) items ≡ last ∷ behind = ap (drop (length before)) (sym cut) ∙ drop-append_seam before (last ∷ behind) in (
      ap (λ ys. before ++ ys) dropped ∙ cut,
      ap (last_with counts (length before) last) (pairs ∙ ap (λ (n : ℕ). last_pairs_from counts n behind) (length_more before last))
          ∙ ap (last_pairs_from counts (length before)) (sym dropped),
    )
