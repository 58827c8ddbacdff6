-- What kept items mean in a scene.
use Rattle.std.proofs.Common.{◌≡◌, Bool, true, false, List, [], ◌∷◌, drop, Option, Some, None, refl, sym, ◌∙◌}
use Rattle.std.specs.Prelude.{if◌then◌else◌}
use Rattle.css_model.specs.declared.sheet.Item.TheVariants.{Rule, KeptRule, KeptBlock}
use Rattle.css_model.specs.Cascade.Winner.{Understood, winner}
use Rattle.css_model.specs.Documents.Document.{Document, Target}
use Rattle.media_groups.specs.declared.media.Media.{Media}
use Rattle.media_groups.specs.Printed.{blocks_at}
use Rattle.cascade_laws.specs.Meaning.Meanings.{MeanAlike, MeaningsCountByWinners, SheetMeansItsWinner, meaning_of_sheet, winner_of}
use Rattle.opened_laws.specs.Media.Scenes.{BlocksWinAlike, BodiesCountByWinners, KeptScene, MergedSheetsWinAlike, ScenesGiveMeanings, meaning_in, meanings_of}

pub give : ScenesGiveMeanings
give doc target media [] [] is = tt
give doc target media [] (x ∷ scene) is = absurd is
give doc target media (Rule r ∷ items) scene is = give doc target media items scene is
give doc target media (KeptRule k ∷ items) [] is = absurd is
give doc target media (KeptRule k ∷ items) (x ∷ scene) is = (is.0, give doc target media items scene is.1)
give doc target media (KeptBlock piece ∷ items) [] is = absurd is
give doc target media (KeptBlock piece ∷ items) (x ∷ scene) is = give doc target (drop (blocks_at media (KeptBlock piece)) media) items scene is.1

-- ---- two blocks with the same winner

block_alike : SheetMeansItsWinner → (doc : Document) (target : Target) (us : List Understood) (m m' : Media) (x : KeptScene) →
    winner doc target x.inside m.sheet.items us ≡ winner doc target x.inside m'.sheet.items us → winner_of us (meaning_in doc target (Some m) x) ≡ winner_of us (meaning_in doc target (Some m') x)
block_alike law doc target us m m' x same = which x.holds
  where
    which : (b : Bool) → winner_of us (if b then meaning_of_sheet doc target x.inside m.sheet.items else []) ≡ winner_of us (if b then meaning_of_sheet doc target x.inside m'.sheet.items else [])
    which true = law doc target m.sheet.items us x.inside ∙ same ∙ sym (law doc target m'.sheet.items us x.inside)
    which false = refl

mean_alike : SheetMeansItsWinner → (doc : Document) (target : Target) (us : List Understood) (blocks blocks' : List (Option Media)) (scene : List KeptScene) →
    BlocksWinAlike doc target us blocks blocks' scene → MeanAlike us (meanings_of doc target blocks scene) (meanings_of doc target blocks' scene)
mean_alike law doc target us [] [] scene alike = tt
mean_alike law doc target us [] (o' ∷ blocks') scene alike = absurd alike
mean_alike law doc target us (o ∷ blocks) [] scene alike = absurd alike
mean_alike law doc target us (o ∷ blocks) (o' ∷ blocks') [] alike = tt
mean_alike law doc target us (None ∷ blocks) (None ∷ blocks') (x ∷ scene) alike = (refl, mean_alike law doc target us blocks blocks' scene alike)
mean_alike law doc target us (None ∷ blocks) (Some m' ∷ blocks') (x ∷ scene) alike = absurd alike
mean_alike law doc target us (Some m ∷ blocks) (None ∷ blocks') (x ∷ scene) alike = absurd alike
mean_alike law doc target us (Some m ∷ blocks) (Some m' ∷ blocks') (x ∷ scene) alike = (block_alike law doc target us m m' x alike.0, mean_alike law doc target us blocks blocks' scene alike.1)

pub bodies_count : MeaningsCountByWinners → SheetMeansItsWinner → BodiesCountByWinners
bodies_count count law doc target us items blocks blocks' scene alike =
    count doc target items us (meanings_of doc target blocks scene) (meanings_of doc target blocks' scene) (mean_alike law doc target us blocks blocks' scene alike)

pub sheets_win : MeaningsCountByWinners → SheetMeansItsWinner → MergedSheetsWinAlike
sheets_win count law doc target us items items' blocks blocks' scene alike same = same ∙ bodies_count count law doc target us items' blocks blocks' scene alike
