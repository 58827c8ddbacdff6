-- Each opened block that is read back has the winners of the one that was read.
use Rattle.std.proofs.Common.{◌≡◌, ℕ, Bool, List, [], ◌∷◌, drop, Option, Some, None, sym, ap, ap₂, ◌∙◌, subst}
use Rattle.std.specs.Prelude.{if◌then◌else◌}
use Rattle.std.specs.List.{AllZip}
use Rattle.std.specs.Option.{IfSome}
use Rattle.css_model.specs.declared.sheet.Item.{Item}
use Rattle.css_model.specs.declared.sheet.Item.TheVariants.{KeptRule, KeptBlock}
use Rattle.css_model.specs.declared.sheet.Piece.{Piece}
use Rattle.css_model.specs.Cascade.Winner.{AreMeanings, Declared, Understood, winner}
use Rattle.css_model.specs.Documents.Document.{Document, Target}
use Rattle.css_model.specs.Sheets.KeptRuleParts.{KeptRuleParts}
use Rattle.css_model.specs.Sheets.SheetParts.{SheetParts}
use Rattle.css_model.specs.Text.Source.{text_at}
use Rattle.media_groups.specs.declared.media.Media.{Media}
use Rattle.opened_laws.specs.Media.Scenes.{BlocksWinAlike, IsSceneOf, KeptScene, kept_blocks}
use Rattle.opened_laws.specs.Again.{AreOpenedAgain, IsBlockAgain}
use Rattle.opened_merge_laws.proofs.Again.{IsFirst, IsNone, by_items}
use Rattle.opened_merge_laws.proofs.Winners.{twins_win_alike}
use Rattle.plan_laws.proofs.ForCallers.{twins_but_blocks}

blocks_none : (media : List Media) (p : Piece) (items : List Item) → IsNone media p → kept_blocks media (KeptBlock p ∷ items) ≡ None ∷ kept_blocks media items
blocks_none media p items none = ap₂ (λ (o : Option Media) (n : ℕ). o ∷ kept_blocks (drop n media) items) none.block none.count

blocks_first : (m : Media) (media : List Media) (p : Piece) (items : List Item) → IsFirst m p → kept_blocks (m ∷ media) (KeptBlock p ∷ items) ≡ Some m ∷ kept_blocks media items
blocks_first m media p items first = ap (λ (b : Bool). (if b then Some m else None) ∷ kept_blocks (drop (if b then 1 else 0) (m ∷ media)) items) first

scene_none : (media : List Media) (p : Piece) (items : List Item) (x : KeptScene) (scene : List KeptScene) → IsNone media p → IsSceneOf media (KeptBlock p ∷ items) (x ∷ scene) → IsSceneOf media items scene
scene_none media p items x scene none is = subst (λ (n : ℕ). IsSceneOf (drop n media) items scene) none.count is.1

scene_first : (m : Media) (media : List Media) (p : Piece) (items : List Item) (x : KeptScene) (scene : List KeptScene) → IsFirst m p → IsSceneOf (m ∷ media) (KeptBlock p ∷ items) (x ∷ scene) →
    AreMeanings m.sheet.items x.inside × IsSceneOf media items scene
scene_first m media p items x scene first is =
    subst (λ (b : Bool). IfSome (if b then Some m else None) (λ m. AreMeanings m.sheet.items x.inside) × IsSceneOf (drop (if b then 1 else 0) (m ∷ media)) items scene) first is

module _ (source written : List ℕ) where
  module _ (doc : Document) (target : Target) (us : List Understood) where
    -- the blocks win alike where the bodies do
    abbrev pub WinTheSame : Media → SheetParts → Type 0
    WinTheSame m body = (meanings : List (List Declared)) → AreMeanings m.sheet.items meanings → winner doc target meanings m.sheet.items us ≡ winner doc target meanings body.items us

    abbrev WinAlikeIn : List Media → List Item → List Media → List Item → List KeptScene → Type 0
    WinAlikeIn media items media' items' scene = IsSceneOf media items scene → BlocksWinAlike doc target us (kept_blocks media items) (kept_blocks media' items') scene

    kept_win : (media media' : List Media) (items items' : List Item) (k k' : KeptRuleParts) → ((scene : List KeptScene) → WinAlikeIn media items media' items' scene) →
        (scene : List KeptScene) → WinAlikeIn media (KeptRule k ∷ items) media' (KeptRule k' ∷ items') scene
    kept_win media media' items items' k k' rest [] is = absurd is
    kept_win media media' items items' k k' rest (x ∷ scene) is = rest scene is.1

    block_win : (media media' : List Media) (items items' : List Item) (p p' : Piece) → IsNone media p → IsNone media' p' → ((scene : List KeptScene) → WinAlikeIn media items media' items' scene) →
        (scene : List KeptScene) → WinAlikeIn media (KeptBlock p ∷ items) media' (KeptBlock p' ∷ items') scene
    block_win media media' items items' p p' at at' rest [] is = absurd is
    block_win media media' items items' p p' at at' rest (x ∷ scene) is =
        subst (λ (os : List (Option Media)). BlocksWinAlike doc target us os (kept_blocks media' (KeptBlock p' ∷ items')) (x ∷ scene)) (sym (blocks_none media p items at))
        (subst (λ (os : List (Option Media)). BlocksWinAlike doc target us (None ∷ kept_blocks media items) os (x ∷ scene)) (sym (blocks_none media' p' items' at')) (rest scene (scene_none media p items x scene at is)))

    opened_win : (m m' : Media) (media media' : List Media) (body : SheetParts) (items items' : List Item) (p p' : Piece) → IsFirst m p → IsFirst m' p' → IsBlockAgain source m body written m' → WinTheSame m body →
        ((scene : List KeptScene) → WinAlikeIn media items media' items' scene) → (scene : List KeptScene) → WinAlikeIn (m ∷ media) (KeptBlock p ∷ items) (m' ∷ media') (KeptBlock p' ∷ items') scene
    opened_win m m' media media' body items items' p p' at at' here same rest [] is = absurd is
    opened_win m m' media media' body items items' p p' at at' here same rest (x ∷ scene) is =
        let parts = scene_first m media p items x scene at is in
        let twins = twins_but_blocks (text_at source m.body) (text_at written m'.body) body.items m'.sheet.items here.twins in
        let wins : winner doc target x.inside m.sheet.items us ≡ winner doc target x.inside m'.sheet.items us =
        same x.inside parts.0 ∙ twins_win_alike (text_at source m.body) (text_at written m'.body) body.items m'.sheet.items twins doc target x.inside us in
        subst (λ (os : List (Option Media)). BlocksWinAlike doc target us os (kept_blocks (m' ∷ media') (KeptBlock p' ∷ items')) (x ∷ scene)) (sym (blocks_first m media p items at))
        (subst (λ (os : List (Option Media)). BlocksWinAlike doc target us (Some m ∷ kept_blocks media items) os (x ∷ scene)) (sym (blocks_first m' media' p' items' at')) (wins, rest scene parts.1))

    pub again_winners : (media media' : List Media) (bodies : List SheetParts) (items items' : List Item) → AreOpenedAgain source media bodies items written media' items' → AllZip WinTheSame media bodies →
        (scene : List KeptScene) → IsSceneOf media items scene → BlocksWinAlike doc target us (kept_blocks media items) (kept_blocks media' items') scene
    again_winners = by_items source written (λ media bodies items media' items'. AllZip WinTheSame media bodies → (scene : List KeptScene) → WinAlikeIn media items media' items' scene) (record {
      none = λ bodies all scene is. tt;
      rule = λ media media' bodies items items' r r' here rest. rest;
      kept = λ media media' bodies items items' k k' here rest all. kept_win media media' items items' k k' (rest all);
      block = λ media media' bodies items items' p p' at at' same rest all. block_win media media' items items' p p' at at' (rest all);
      opened = λ m m' media media' body bodies items items' p p' at at' here rest all. opened_win m m' media media' body items items' p p' at at' here all.0 (rest all.1);
    })
