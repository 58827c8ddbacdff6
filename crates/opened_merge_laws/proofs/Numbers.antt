-- Which items opened blocks are does not count for what is read back of them.
use Rattle.std.proofs.Common.{◌≡◌, ℕ, Bool, true, false, List, [], ◌∷◌, map, drop, Option, Some, None, refl, sym, ap, ◌∙◌, subst}
use Rattle.std.specs.Prelude.{◌==◌, if◌then◌else◌}
use Rattle.css_model.specs.declared.sheet.Item.{Item}
use Rattle.css_model.specs.declared.sheet.Item.TheVariants.{KeptBlock}
use Rattle.css_model.specs.declared.sheet.Piece.{Piece}
use Rattle.css_model.specs.Sheets.Printed.{printed}
use Rattle.css_model.specs.Sheets.SheetParts.{SheetParts}
use Rattle.css_model.specs.Sheets.Spelling.{kept_text}
use Rattle.css_model.specs.Text.Source.{text_at}
use Rattle.media_groups.specs.declared.media.Media.{Media}
use Rattle.media_groups.specs.Laws.{unnumbered}
use Rattle.media_groups.specs.Printed.{blocks_at}
use Rattle.opened_laws.specs.Media.Scenes.{block_at}
use Rattle.opened_laws.specs.Again.{AreOpenedAgain, IsBlockAgain, IsPieceAgain}
use Rattle.opened_merge_laws.proofs.Again.{IsFirst, IsNone, by_items, none_first}
use Rattle.sheet_laws.specs.Twins.{AreTwins}

same_first : (m o : Media) (media others : List Media) → map unnumbered (o ∷ others) ≡ map unnumbered (m ∷ media) → unnumbered o ≡ unnumbered m
same_first m o media others same = cc

same_others : (m o : Media) (media others : List Media) → map unnumbered (o ∷ others) ≡ map unnumbered (m ∷ media) → map unnumbered others ≡ map unnumbered media
same_others m o media others same = cc

same_start : (m o : Media) → unnumbered o ≡ unnumbered m → (p : Piece) → (p.start == o.head.start) ≡ (p.start == m.head.start)
same_start m o same p = ap (λ (x : Media). p.start == x.head.start) same

none_too : (media others : List Media) (p : Piece) → map unnumbered others ≡ map unnumbered media → IsNone media p → IsNone others p
none_too media [] p same none = record { block = refl; count = refl }
none_too [] (o ∷ others) p same none = absurd cc
none_too (m ∷ media) (o ∷ others) p same none = which (p.start == o.head.start) refl
  where
    which : (b : Bool) → (p.start == o.head.start) ≡ b → IsNone (o ∷ others) p
    which false is = none_first o others p is
    which true is =
        let here : (p.start == m.head.start) ≡ true = sym (same_start m o (same_first m o media others same) p) ∙ is in
        absurd (let e : Some m ≡ None = sym (ap (λ (b : Bool). if b then Some m else None) here) ∙ none.block in cc)

block_too : (source written : List ℕ) (m o : Media) (body : SheetParts) (m' : Media) → unnumbered o ≡ unnumbered m → IsBlockAgain source m body written m' → IsBlockAgain source o body written m'
block_too source written m o body m' same here = record {
  head = here.head ∙ ap (λ (x : Media). kept_text source x.head) (sym same);
  text = here.text ∙ ap (λ (x : Media). printed (text_at source x.body) body.items) (sym same);
  twins = subst (λ (x : Media). AreTwins (text_at source x.body) (text_at written m'.body) body.items m'.sheet.items) (sym same) here.twins;
}

-- blocks that differ in their numbers alone are read back as the same
pub again_too : (source written : List ℕ) (media media' : List Media) (bodies : List SheetParts) (items items' : List Item) → AreOpenedAgain source media bodies items written media' items' →
    (others : List Media) → map unnumbered others ≡ map unnumbered media → AreOpenedAgain source others bodies items written media' items'
again_too source written = by_items source written
    (λ media bodies items media' items'. (others : List Media) → map unnumbered others ≡ map unnumbered media → AreOpenedAgain source others bodies items written media' items') (record {
      none = none;
      rule = λ media media' bodies items items' r r' here rest others same. (here, rest others same);
      kept = λ media media' bodies items items' k k' here rest others same. (here, rest others same);
      block = block;
      opened = opened;
    })
  where
    none : (bodies : List SheetParts) (others : List Media) → map unnumbered others ≡ map unnumbered [] → AreOpenedAgain source others bodies [] written [] []
    none bodies [] same = (refl, refl)
    none bodies (o ∷ others) same = absurd cc

    block : (media media' : List Media) (bodies : List SheetParts) (items items' : List Item) (p p' : Piece) → IsNone media p → IsNone media' p' → kept_text source p ≡ kept_text written p' →
        ((others : List Media) → map unnumbered others ≡ map unnumbered media → AreOpenedAgain source others bodies items written media' items') →
        (others : List Media) → map unnumbered others ≡ map unnumbered media → AreOpenedAgain source others bodies (KeptBlock p ∷ items) written media' (KeptBlock p' ∷ items')
    block media media' bodies items items' p p' at at' text rest others same =
        let too : IsNone others p = none_too media others p same at in (
          subst (λ (o : Option Media). IsPieceAgain source bodies p o written p' (block_at media' p')) (sym too.block) (subst (λ (o : Option Media). IsPieceAgain source bodies p None written p' o) (sym at'.block) text),
          subst (λ (n : ℕ). AreOpenedAgain source (drop n others) (drop n bodies) items written (drop (blocks_at media' (KeptBlock p')) media') items') (sym too.count)
              (subst (λ (n : ℕ). AreOpenedAgain source others bodies items written (drop n media') items') (sym at'.count) (rest others same)),
        )

    opened : (m m' : Media) (media media' : List Media) (body : SheetParts) (bodies : List SheetParts) (items items' : List Item) (p p' : Piece) → IsFirst m p → IsFirst m' p' → IsBlockAgain source m body written m' →
        ((others : List Media) → map unnumbered others ≡ map unnumbered media → AreOpenedAgain source others bodies items written media' items') →
        (others : List Media) → map unnumbered others ≡ map unnumbered (m ∷ media) → AreOpenedAgain source others (body ∷ bodies) (KeptBlock p ∷ items) written (m' ∷ media') (KeptBlock p' ∷ items')
    opened m m' media media' body bodies items items' p p' at at' here rest [] same = absurd cc
    opened m m' media media' body bodies items items' p p' at at' here rest (o ∷ others) same =
        let one = same_first m o media others same in
        let at_other : (p.start == o.head.start) ≡ true = same_start m o one p ∙ at in
        subst (λ (b : Bool). IsPieceAgain source (body ∷ bodies) p (if b then Some o else None) written p' (if p'.start == m'.head.start then Some m' else None)
        × AreOpenedAgain source (drop (if b then 1 else 0) (o ∷ others)) (drop (if b then 1 else 0) (body ∷ bodies)) items written (drop (if p'.start == m'.head.start then 1 else 0) (m' ∷ media')) items') (sym at_other)
        (subst (λ (b : Bool). IsPieceAgain source (body ∷ bodies) p (Some o) written p' (if b then Some m' else None) × AreOpenedAgain source others bodies items written (drop (if b then 1 else 0) (m' ∷ media')) items') (sym at')
        (block_too source written m o body m' one here, rest others (same_others m o media others same)))
