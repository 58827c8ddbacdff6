-- A sheet whose opened blocks are cleaned too has the same winners in each scene.
use Rattle.std.proofs.Common.{◌≡◌, ◌==◌, ℕ, suc, Bool, true, false, List, [], ◌∷◌, drop, map, Option, Some, None, option_map, refl, sym, ap, ◌∙◌}
use Rattle.std.specs.Prelude.{if◌then◌else◌}
use Rattle.css_model.specs.declared.sheet.DeclItem.{DeclItem}
use Rattle.css_model.specs.declared.sheet.Item.{Item}
use Rattle.css_model.specs.declared.sheet.Item.TheVariants.{Rule, KeptRule, KeptBlock}
use Rattle.css_model.specs.declared.sheet.SelItem.{SelItem}
use Rattle.css_model.specs.Cascade.Winner.{Understood, winner}
use Rattle.css_model.specs.Documents.Document.{Document, IsLegal, Target}
use Rattle.css_model.specs.Documents.SelectorParts.{SelectorParts}
use Rattle.media_groups.specs.declared.media.Media.{Media}
use Rattle.media_groups.specs.Opened.{opened_of}
use Rattle.opened_laws.specs.Media.Scenes.{BlocksWinAlike, KeptScene, MergedSheetsWinAlike, kept_blocks, meanings_of}
use Rattle.order_laws.specs.Places.{PlacedPair, last_pairs}
use Rattle.lint_laws.specs.Cleaned.{AreDead, CleaningBodiesKeepsWinners, CleaningKeepsWinners, alive_selectors, cleaned, cleaned_block, items_without, single_decls, with_rule}

-- ---- The blocks of a cleaned sheet

past_rule : (media : List Media) (selectors : List SelItem) (decls : List DeclItem) (items : List Item) → kept_blocks media (with_rule selectors decls items) ≡ kept_blocks media items
past_rule media [] decls items = refl
past_rule media (s ∷ selectors) [] items = refl
past_rule media (s ∷ selectors) (d ∷ decls) items = refl

cleaned_blocks : (dead : SelectorParts → Bool) (media : List Media) (items : List Item) (lasts : List PlacedPair) (n : ℕ) →
    kept_blocks (map (cleaned_block dead) media) (items_without dead lasts n items) ≡ map (option_map (cleaned_block dead)) (kept_blocks media items)
cleaned_blocks dead media [] lasts n = refl
cleaned_blocks dead media (Rule r ∷ items) lasts n =
    past_rule (map (cleaned_block dead) media) (alive_selectors dead r.selectors) (single_decls lasts n r.selectors 0 r.decls) (items_without dead lasts (suc n) items) ∙ cleaned_blocks dead media items lasts (suc n)
cleaned_blocks dead media (KeptRule kept ∷ items) lasts n = ap (λ (bs : List (Option Media)). None ∷ bs) (cleaned_blocks dead media items lasts (suc n))
cleaned_blocks dead [] (KeptBlock piece ∷ items) lasts n = ap (λ (bs : List (Option Media)). None ∷ bs) (cleaned_blocks dead [] items lasts (suc n))
cleaned_blocks dead (m ∷ media) (KeptBlock piece ∷ items) lasts n =
    which (piece.start == m.head.start) (cleaned_blocks dead media items lasts (suc n)) (cleaned_blocks dead (m ∷ media) items lasts (suc n))
  where
    which : (b : Bool) →
        kept_blocks (map (cleaned_block dead) media) (items_without dead lasts (suc n) items) ≡ map (option_map (cleaned_block dead)) (kept_blocks media items) →
        kept_blocks (map (cleaned_block dead) (m ∷ media)) (items_without dead lasts (suc n) items) ≡ map (option_map (cleaned_block dead)) (kept_blocks (m ∷ media) items) →
        (if b then Some (cleaned_block dead m) else None) ∷ kept_blocks (drop (if b then 1 else 0) (map (cleaned_block dead) (m ∷ media))) (items_without dead lasts (suc n) items)
        ≡ map (option_map (cleaned_block dead)) ((if b then Some m else None) ∷ kept_blocks (drop (if b then 1 else 0) (m ∷ media)) items)
    which true behind same = ap (λ (bs : List (Option Media)). Some (cleaned_block dead m) ∷ bs) behind
    which false behind same = ap (λ (bs : List (Option Media)). None ∷ bs) same

-- ---- Their winners

blocks_alike : CleaningKeepsWinners → (dead : SelectorParts → Bool) → AreDead dead → (doc : Document) (target : Target) (us : List Understood) → IsLegal doc → (blocks : List (Option Media)) (scene : List KeptScene) →
    BlocksWinAlike doc target us blocks (map (option_map (cleaned_block dead)) blocks) scene
blocks_alike law dead are_dead doc target us legal [] scene = tt
blocks_alike law dead are_dead doc target us legal (None ∷ blocks) [] = tt
blocks_alike law dead are_dead doc target us legal (Some m ∷ blocks) [] = tt
blocks_alike law dead are_dead doc target us legal (None ∷ blocks) (x ∷ scene) = blocks_alike law dead are_dead doc target us legal blocks scene
blocks_alike law dead are_dead doc target us legal (Some m ∷ blocks) (x ∷ scene) =
    (law m.sheet.items dead are_dead doc target x.inside us legal, blocks_alike law dead are_dead doc target us legal blocks scene)

-- the law `CleaningBodiesKeepsWinners`
pub bodies_keep_winners : CleaningKeepsWinners → MergedSheetsWinAlike → CleaningBodiesKeepsWinners
bodies_keep_winners law sheets source items dead are_dead doc target us scene legal =
    let media : List Media = opened_of items source in
    let blocks : List (Option Media) = kept_blocks media items in
    sheets doc target us items (cleaned dead items) blocks (map (option_map (cleaned_block dead)) blocks) scene
    (blocks_alike law dead are_dead doc target us legal blocks scene)
    (law items dead are_dead doc target (meanings_of doc target blocks scene) us legal)
    ∙ ap (λ (bs : List (Option Media)). winner doc target (meanings_of doc target bs scene) (cleaned dead items) us) (sym (cleaned_blocks dead media items (last_pairs items) 0))
