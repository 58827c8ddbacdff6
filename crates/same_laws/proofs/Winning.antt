-- Two sheets in which nothing is found style every page alike.
use Rattle.std.proofs.Common.{◌≡◌, ◌↔◌, ℕ, List, [], map, Option, Some, None, refl, sym, ap, ap₂, ◌∙◌, subst}
use Rattle.css_model.specs.declared.sheet.Item.{Item}
use Rattle.css_model.specs.Cascade.Order.{Keeps}
use Rattle.css_model.specs.Cascade.Winner.{Declared, AreMeanings, Understood, winner}
use Rattle.css_model.specs.Documents.Document.{Document, Target, IsLegal}
use Rattle.css_model.specs.Sheets.KeptItems.{kept_items}
use Rattle.media_groups.specs.declared.media.Media.{Media}
use Rattle.media_groups.specs.Opened.{opened_of}
use Rattle.opened_laws.specs.Media.Scenes.{KeptScene, IsSceneOf, kept_blocks, meanings_of, ScenesGiveMeanings, BlocksWinAlike, MergedSheetsWinAlike}
use Rattle.opened_laws.specs.Texts.{SameTextsAreOpenedAlike}
use Rattle.order_laws.specs.Comparing.{OrderIsDecided, WeighingIsDecided}
use Rattle.order_laws.specs.Keeping.{AreRelated, KeepingIsMutual, KeepingKeepsWinners}
use Rattle.order_laws.specs.Places.{ListedStandsLast}
use Rattle.overlap.specs.Laws.{ApartSelectorsDoNotMeet}
use Rattle.overlap.specs.PairsParts.{PairsParts}
use Rattle.overlap.specs.Remembered.{IsTrueList}
use Rattle.same_laws.specs.Same.{AreSame, SamePartsKeep, SameSheetsHaveOneScene, SameSheetsWinAlike, opened_blocks}
use Rattle.sheet_same.specs.declared.compared.Compared.{Compared}
use Rattle.sheet_same.specs.declared.compared.Compared.TheVariants.{Same}
use Rattle.sheet_same.specs.declared.compared.Difference.{Difference}
use Rattle.sheet_same.specs.Compared.{IsFound, Told, BodiesTell, nothing}
use Rattle.same_laws.proofs.Alike.{BodiesKeep, bodies_keep, AreItemsAlike, items_alike, items_back}
use Rattle.same_laws.proofs.Blanked.{blanked, blanked_keeps, blanked_meanings, blanked_winner}
use Rattle.same_laws.proofs.Keeping.{IsOrderKept, IsNothing, nothing_found}
use Rattle.same_laws.proofs.KeptAlike.{ArePlacesAlike, contents_are, say_the_same}
use Rattle.same_laws.proofs.NeverSame.{never_found}
use Rattle.same_laws.proofs.OpenedAlone.{places_opened}
use Rattle.same_laws.proofs.Scenes.{scene_in, scene_out, blocks_in, scene_to, blocks_win}

-- ---- Where no block is opened

pub parts_keep : ListedStandsLast → OrderIsDecided → WeighingIsDecided → ApartSelectorsDoNotMeet → SamePartsKeep
parts_keep listed order weighing law pairs true_list source s other t found =
    let n : IsNothing source [] s other [] t = nothing_found listed order weighing law pairs true_list source [] s other [] t found in
    record {
      pairs = n.parts.pairs;
      kept = contents_are source (kept_items s) other (kept_items t) (say_the_same 0 source [] (kept_items s) other [] (kept_items t) n.kept);
      order = n.parts.order;
      kept_order = n.parts.kept_order;
    }

-- ---- Where blocks are opened

-- what is known of two sheets in which nothing is found
record AreAlike (source : List ℕ) (s : List Item) (other : List ℕ) (t : List Item) : Type 0 where
  parts : IsOrderKept s t
  items : AreItemsAlike source (opened_of s source) (kept_items s) other (opened_of t other) (kept_items t)

module _ (texts : SameTextsAreOpenedAlike) (keep : SamePartsKeep) (listed : ListedStandsLast) (order : OrderIsDecided) (weighing : WeighingIsDecided) (law : ApartSelectorsDoNotMeet) where
  are_alike : (source : List ℕ) (s : List Item) (other : List ℕ) (t : List Item) → AreSame source s other t → AreAlike source s other t
  are_alike source s other t same = which same.compared.0 same.compared.1 same.compared.2
    where
      media : List Media
      media = opened_of s source

      media' : List Media
      media' = opened_of t other

      Rest : Difference → Type 0
      Rest = BodiesTell same.pairs.answers 0 source media other media'

      which : (o : Option Compared) → IsFound same.pairs.answers source media s other media' t o → Told None o Rest nothing → AreAlike source s other t
      which (Some c) found told =
          let is : Same ≡ c = ap (λ (d : Difference). d.compared) told in
          absurd (never_found same.pairs.answers source media s other media' t (subst (λ (x : Compared). IsFound same.pairs.answers source media s other media' t (Some x)) (sym is) found))
      which None found told =
          let n : IsNothing source media s other media' t = nothing_found listed order weighing law same.pairs same.true_list source media s other media' t found in
          let places : ArePlacesAlike source media (kept_items s) other media' (kept_items t) =
          places_opened texts source s other t same.first_read same.second_read (say_the_same 0 source media (kept_items s) other media' (kept_items t) n.kept) in
          let bodies : BodiesKeep source media other media' = bodies_keep keep same.pairs same.true_list 0 source media other media' told in
          record { parts = n.parts; items = items_alike source other media (kept_items s) media' (kept_items t) bodies places }

  pub one_scene : KeepingIsMutual → SameSheetsHaveOneScene
  one_scene keeping source s other t same scene = (to, from)
    where
      alike : AreAlike source s other t
      alike = are_alike source s other t same

      media : List Media
      media = opened_of s source

      media' : List Media
      media' = opened_of t other

      to : IsSceneOf media s scene → IsSceneOf media' t scene
      to h = scene_out media' t scene (scene_to source other media (kept_items s) media' (kept_items t) scene alike.items (scene_in media s scene h))

      from : IsSceneOf media' t scene → IsSceneOf media s scene
      from h = scene_out media s scene
          (scene_to other source media' (kept_items t) media (kept_items s) scene (items_back keeping source other media (kept_items s) media' (kept_items t) alike.items) (scene_in media' t scene h))

  pub win_alike : KeepingKeepsWinners → ScenesGiveMeanings → MergedSheetsWinAlike → SameSheetsWinAlike
  win_alike winning meaning merged source s other t same doc target us scene legal related is_scene = merged doc target us s t (opened_blocks source s) (opened_blocks other t) scene bodies around
    where
      media : List Media
      media = opened_of s source

      media' : List Media
      media' = opened_of t other

      alike : AreAlike source s other t
      alike = are_alike source s other t same

      bodies : BlocksWinAlike doc target us (opened_blocks source s) (opened_blocks other t) scene
      bodies = subst (λ (os : List (Option Media)). BlocksWinAlike doc target us os (opened_blocks other t) scene) (blocks_in media s)
          (subst (λ (os : List (Option Media)). BlocksWinAlike doc target us (kept_blocks media (kept_items s)) os scene) (blocks_in media' t)
          (blocks_win winning source other doc target us legal related media (kept_items s) media' (kept_items t) scene alike.items (scene_in media s scene is_scene)))

      means : List (List Declared)
      means = meanings_of doc target (opened_blocks source s) scene

      around : winner doc target means s us ≡ winner doc target means t us
      around =
          sym (blanked_winner doc target means s us)
          ∙ winning [] [] (blanked s) (blanked t) (blanked_keeps source media s other media' t alike.parts alike.items) doc target means us legal
          (blanked_meanings s means (meaning doc target media s scene is_scene)) related
          ∙ blanked_winner doc target means t us
