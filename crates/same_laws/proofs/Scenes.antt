-- Scenes of two sheets whose kept items are alike, and what their opened bodies win in them.
use Rattle.std.proofs.Common.{◌≡◌, ◌==◌, ℕ, Bool, List, [], ◌∷◌, map, drop, Option, Some, None, refl, sym, ap, ◌∙◌, subst}
use Rattle.std.specs.Prelude.{if◌then◌else◌, IfSome}
use Rattle.std.specs.List.{All, Contains}
use Rattle.css_model.specs.declared.sheet.Decl.{Decl}
use Rattle.css_model.specs.declared.sheet.Item.{Item}
use Rattle.css_model.specs.declared.sheet.Item.TheVariants.{Rule, KeptRule, KeptBlock}
use Rattle.css_model.specs.Cascade.Order.{Keeps}
use Rattle.css_model.specs.Cascade.Winner.{Declared, AreMeanings, Understood, winner}
use Rattle.css_model.specs.Documents.Document.{Document, Target, IsLegal}
use Rattle.css_model.specs.Sheets.KeptItems.{kept_items}
use Rattle.css_model.specs.Sheets.KeptRuleParts.{KeptRuleParts}
use Rattle.css_model.specs.Sheets.Spelling.{Content, content}
use Rattle.css_model.specs.Text.Source.{text_at}
use Rattle.media_groups.specs.declared.media.Media.{Media}
use Rattle.media_groups.specs.Printed.{blocks_at}
use Rattle.opened_laws.specs.Media.Scenes.{KeptScene, IsSceneOf, block_at, kept_blocks, BlocksWinAlike}
use Rattle.order_laws.specs.Keeping.{AreRelated, KeepingKeepsWinners}
use Rattle.same_laws.proofs.Alike.{AreBlocksAlike, AreItemsAlike}

-- ---- Kept items alone

pub scene_in : (media : List Media) (items : List Item) (scene : List KeptScene) → IsSceneOf media items scene → IsSceneOf media (kept_items items) scene
scene_in media [] [] h = tt
scene_in media [] (x ∷ scene) h = absurd h
scene_in media (Rule r ∷ items) scene h = scene_in media items scene h
scene_in media (KeptRule k ∷ items) [] h = absurd h
scene_in media (KeptRule k ∷ items) (x ∷ scene) h = (h.0, scene_in media items scene h.1)
scene_in media (KeptBlock piece ∷ items) [] h = absurd h
scene_in media (KeptBlock piece ∷ items) (x ∷ scene) h = (h.0, scene_in (drop (blocks_at media (KeptBlock piece)) media) items scene h.1)

pub scene_out : (media : List Media) (items : List Item) (scene : List KeptScene) → IsSceneOf media (kept_items items) scene → IsSceneOf media items scene
scene_out media [] [] h = tt
scene_out media [] (x ∷ scene) h = absurd h
scene_out media (Rule r ∷ items) scene h = scene_out media items scene h
scene_out media (KeptRule k ∷ items) [] h = absurd h
scene_out media (KeptRule k ∷ items) (x ∷ scene) h = (h.0, scene_out media items scene h.1)
scene_out media (KeptBlock piece ∷ items) [] h = absurd h
scene_out media (KeptBlock piece ∷ items) (x ∷ scene) h = (h.0, scene_out (drop (blocks_at media (KeptBlock piece)) media) items scene h.1)

pub blocks_in : (media : List Media) (items : List Item) → kept_blocks media (kept_items items) ≡ kept_blocks media items
blocks_in media [] = refl
blocks_in media (Rule r ∷ items) = blocks_in media items
blocks_in media (KeptRule k ∷ items) = ap (λ (os : List (Option Media)). None ∷ os) (blocks_in media items)
blocks_in media (KeptBlock piece ∷ items) = ap (λ (os : List (Option Media)). block_at media piece ∷ os) (blocks_in (drop (blocks_at media (KeptBlock piece)) media) items)

meanings_in : (items : List Item) (ms : List (List Declared)) → AreMeanings items ms → AreMeanings (kept_items items) ms
meanings_in [] [] h = tt
meanings_in [] (m ∷ ms) h = absurd h
meanings_in (Rule r ∷ items) ms h = meanings_in items ms h
meanings_in (KeptRule k ∷ items) [] h = absurd h
meanings_in (KeptRule k ∷ items) (m ∷ ms) h = (h.0, meanings_in items ms h.1)
meanings_in (KeptBlock piece ∷ items) [] h = absurd h
meanings_in (KeptBlock piece ∷ items) (m ∷ ms) h = meanings_in items ms h

meanings_out : (items : List Item) (ms : List (List Declared)) → AreMeanings (kept_items items) ms → AreMeanings items ms
meanings_out [] [] h = tt
meanings_out [] (m ∷ ms) h = absurd h
meanings_out (Rule r ∷ items) ms h = meanings_out items ms h
meanings_out (KeptRule k ∷ items) [] h = absurd h
meanings_out (KeptRule k ∷ items) (m ∷ ms) h = (h.0, meanings_out items ms h.1)
meanings_out (KeptBlock piece ∷ items) [] h = absurd h
meanings_out (KeptBlock piece ∷ items) (m ∷ ms) h = meanings_out items ms h

-- ---- What kept items with the same contents mean

first_same : {X : Type 0} (x y : X) (xs ys : List X) → x ∷ xs ≡ y ∷ ys → x ≡ y
first_same x y xs ys h = cc

rest_same : {X : Type 0} (x y : X) (xs ys : List X) → x ∷ xs ≡ y ∷ ys → xs ≡ ys
rest_same x y xs ys h = cc

abbrev SameContents : List ℕ → List Item → List ℕ → List Item → Type 0
SameContents source xs other ys = map (content source) xs ≡ map (content other) ys

decls_same : (source other : List ℕ) (k k' : KeptRuleParts) → content source (KeptRule k) ≡ content other (KeptRule k') → k.decls ≡ k'.decls
decls_same source other k k' h = let e = h in cc

meanings_to : (source : List ℕ) (xs : List Item) (other : List ℕ) (ys : List Item) (ms : List (List Declared)) → SameContents source xs other ys → AreMeanings xs ms → AreMeanings ys ms
meanings_to source [] other [] ms same h = h
meanings_to source [] other (y ∷ ys) ms same h = absurd (let e = same in cc)
meanings_to source (x ∷ xs) other [] ms same h = absurd (let e = same in cc)
meanings_to source (Rule r ∷ xs) other (Rule r' ∷ ys) ms same h =
    meanings_to source xs other ys ms (rest_same (content source (Rule r)) (content other (Rule r')) (map (content source) xs) (map (content other) ys) same) h
meanings_to source (Rule r ∷ xs) other (KeptRule k' ∷ ys) ms same h =
    absurd (let e = first_same (content source (Rule r)) (content other (KeptRule k')) (map (content source) xs) (map (content other) ys) same in cc)
meanings_to source (Rule r ∷ xs) other (KeptBlock piece' ∷ ys) ms same h =
    absurd (let e = first_same (content source (Rule r)) (content other (KeptBlock piece')) (map (content source) xs) (map (content other) ys) same in cc)
meanings_to source (KeptRule k ∷ xs) other (Rule r' ∷ ys) ms same h =
    absurd (let e = first_same (content source (KeptRule k)) (content other (Rule r')) (map (content source) xs) (map (content other) ys) same in cc)
meanings_to source (KeptRule k ∷ xs) other (KeptRule k' ∷ ys) [] same h = absurd h
meanings_to source (KeptRule k ∷ xs) other (KeptRule k' ∷ ys) (m ∷ ms) same h =
    let first : content source (KeptRule k) ≡ content other (KeptRule k') = first_same (content source (KeptRule k)) (content other (KeptRule k')) (map (content source) xs) (map (content other) ys) same in
    let rest : SameContents source xs other ys = rest_same (content source (KeptRule k)) (content other (KeptRule k')) (map (content source) xs) (map (content other) ys) same in
    (subst (λ (ds : List Decl). All (λ e. Contains ds e.decl) m) (decls_same source other k k' first) h.0, meanings_to source xs other ys ms rest h.1)
meanings_to source (KeptRule k ∷ xs) other (KeptBlock piece' ∷ ys) ms same h =
    absurd (let e = first_same (content source (KeptRule k)) (content other (KeptBlock piece')) (map (content source) xs) (map (content other) ys) same in cc)
meanings_to source (KeptBlock piece ∷ xs) other (Rule r' ∷ ys) ms same h =
    absurd (let e = first_same (content source (KeptBlock piece)) (content other (Rule r')) (map (content source) xs) (map (content other) ys) same in cc)
meanings_to source (KeptBlock piece ∷ xs) other (KeptRule k' ∷ ys) ms same h =
    absurd (let e = first_same (content source (KeptBlock piece)) (content other (KeptRule k')) (map (content source) xs) (map (content other) ys) same in cc)
meanings_to source (KeptBlock piece ∷ xs) other (KeptBlock piece' ∷ ys) [] same h = absurd h
meanings_to source (KeptBlock piece ∷ xs) other (KeptBlock piece' ∷ ys) (m ∷ ms) same h =
    meanings_to source xs other ys ms (rest_same (content source (KeptBlock piece)) (content other (KeptBlock piece')) (map (content source) xs) (map (content other) ys) same) h

-- what the kept items of a sheet mean they mean in one that keeps it
meanings_there : (source : List ℕ) (s : List Item) (other : List ℕ) (t : List Item) (ms : List (List Declared)) → Keeps source s other t → AreMeanings s ms → AreMeanings t ms
meanings_there source s other t ms keeps h = meanings_out t ms (meanings_to source (kept_items s) other (kept_items t) ms keeps.kept (meanings_in s ms h))

-- ---- Scenes

module _ (source other : List ℕ) where
  inside_there : (o o' : Option Media) (inside : List (List Declared)) → AreBlocksAlike source o other o' → IfSome o (λ m. AreMeanings m.sheet.items inside) → IfSome o' (λ m. AreMeanings m.sheet.items inside)
  inside_there None None inside alike h = tt
  inside_there None (Some m') inside alike h = absurd alike
  inside_there (Some m) None inside alike h = absurd alike
  inside_there (Some m) (Some m') inside alike h = meanings_there (text_at source m.body) m.sheet.items (text_at other m'.body) m'.sheet.items inside alike h

  pub scene_to : (media : List Media) (xs : List Item) (media' : List Media) (ys : List Item) (scene : List KeptScene) → AreItemsAlike source media xs other media' ys → IsSceneOf media xs scene → IsSceneOf media' ys scene
  scene_to media [] media' [] scene alike h = which scene h
    where
      which : (scene : List KeptScene) → IsSceneOf media [] scene → IsSceneOf media' [] scene
      which [] g = tt
      which (x ∷ xs) g = absurd g
  scene_to media (KeptRule k ∷ xs) media' (KeptRule k' ∷ ys) [] alike h = absurd h
  scene_to media (KeptRule k ∷ xs) media' (KeptRule k' ∷ ys) (x ∷ scene) alike h =
      (subst (λ (ds : List Decl). All (λ e. Contains ds e.decl) x.plain) alike.0 h.0, scene_to media xs media' ys scene alike.2 h.1)
  scene_to media (KeptBlock piece ∷ xs) media' (KeptBlock piece' ∷ ys) [] alike h = absurd h
  scene_to media (KeptBlock piece ∷ xs) media' (KeptBlock piece' ∷ ys) (x ∷ scene) alike h = (
    inside_there (block_at media piece) (block_at media' piece') x.inside alike.0 h.0,
    scene_to (drop (blocks_at media (KeptBlock piece)) media) xs (drop (blocks_at media' (KeptBlock piece')) media') ys scene alike.1 h.1,
  )
  scene_to media [] media' (Rule r' ∷ ys) scene alike h = absurd alike
  scene_to media [] media' (KeptRule k' ∷ ys) scene alike h = absurd alike
  scene_to media [] media' (KeptBlock piece' ∷ ys) scene alike h = absurd alike
  scene_to media (Rule r ∷ xs) media' [] scene alike h = absurd alike
  scene_to media (Rule r ∷ xs) media' (Rule r' ∷ ys) scene alike h = absurd alike
  scene_to media (Rule r ∷ xs) media' (KeptRule k' ∷ ys) scene alike h = absurd alike
  scene_to media (Rule r ∷ xs) media' (KeptBlock piece' ∷ ys) scene alike h = absurd alike
  scene_to media (KeptRule k ∷ xs) media' [] scene alike h = absurd alike
  scene_to media (KeptRule k ∷ xs) media' (Rule r' ∷ ys) scene alike h = absurd alike
  scene_to media (KeptRule k ∷ xs) media' (KeptBlock piece' ∷ ys) scene alike h = absurd alike
  scene_to media (KeptBlock piece ∷ xs) media' [] scene alike h = absurd alike
  scene_to media (KeptBlock piece ∷ xs) media' (Rule r' ∷ ys) scene alike h = absurd alike
  scene_to media (KeptBlock piece ∷ xs) media' (KeptRule k' ∷ ys) scene alike h = absurd alike

-- ---- Winners in opened bodies

module _ (winning : KeepingKeepsWinners) (source other : List ℕ) (doc : Document) (target : Target) (us : List Understood) (legal : IsLegal doc) (related : AreRelated us) where
  abbrev Wins : List (Option Media) → List (Option Media) → List KeptScene → Type 0
  Wins blocks blocks' scene = BlocksWinAlike doc target us blocks blocks' scene

  one_wins : (o o' : Option Media) (blocks blocks' : List (Option Media)) (x : KeptScene) (scene : List KeptScene) → AreBlocksAlike source o other o' → IfSome o (λ m. AreMeanings m.sheet.items x.inside) →
      Wins blocks blocks' scene → Wins (o ∷ blocks) (o' ∷ blocks') (x ∷ scene)
  one_wins None None blocks blocks' x scene alike h rest = rest
  one_wins None (Some m') blocks blocks' x scene alike h rest = absurd alike
  one_wins (Some m) None blocks blocks' x scene alike h rest = absurd alike
  one_wins (Some m) (Some m') blocks blocks' x scene alike h rest =
      (winning (text_at source m.body) (text_at other m'.body) m.sheet.items m'.sheet.items alike doc target x.inside us legal h related, rest)

  pub blocks_win : (media : List Media) (xs : List Item) (media' : List Media) (ys : List Item) (scene : List KeptScene) → AreItemsAlike source media xs other media' ys → IsSceneOf media xs scene →
      BlocksWinAlike doc target us (kept_blocks media xs) (kept_blocks media' ys) scene
  blocks_win media [] media' [] scene alike h = tt
  blocks_win media (KeptRule k ∷ xs) media' (KeptRule k' ∷ ys) [] alike h = absurd h
  blocks_win media (KeptRule k ∷ xs) media' (KeptRule k' ∷ ys) (x ∷ scene) alike h = blocks_win media xs media' ys scene alike.2 h.1
  blocks_win media (KeptBlock piece ∷ xs) media' (KeptBlock piece' ∷ ys) [] alike h = absurd h
  blocks_win media (KeptBlock piece ∷ xs) media' (KeptBlock piece' ∷ ys) (x ∷ scene) alike h =
      let behind = drop (blocks_at media (KeptBlock piece)) media in
      let behind' = drop (blocks_at media' (KeptBlock piece')) media' in
      one_wins (block_at media piece) (block_at media' piece') (kept_blocks behind xs) (kept_blocks behind' ys) x scene alike.0 h.0 (blocks_win behind xs behind' ys scene alike.1 h.1)
  blocks_win media [] media' (Rule r' ∷ ys) scene alike h = absurd alike
  blocks_win media [] media' (KeptRule k' ∷ ys) scene alike h = absurd alike
  blocks_win media [] media' (KeptBlock piece' ∷ ys) scene alike h = absurd alike
  blocks_win media (Rule r ∷ xs) media' [] scene alike h = absurd alike
  blocks_win media (Rule r ∷ xs) media' (Rule r' ∷ ys) scene alike h = absurd alike
  blocks_win media (Rule r ∷ xs) media' (KeptRule k' ∷ ys) scene alike h = absurd alike
  blocks_win media (Rule r ∷ xs) media' (KeptBlock piece' ∷ ys) scene alike h = absurd alike
  blocks_win media (KeptRule k ∷ xs) media' [] scene alike h = absurd alike
  blocks_win media (KeptRule k ∷ xs) media' (Rule r' ∷ ys) scene alike h = absurd alike
  blocks_win media (KeptRule k ∷ xs) media' (KeptBlock piece' ∷ ys) scene alike h = absurd alike
  blocks_win media (KeptBlock piece ∷ xs) media' [] scene alike h = absurd alike
  blocks_win media (KeptBlock piece ∷ xs) media' (Rule r' ∷ ys) scene alike h = absurd alike
  blocks_win media (KeptBlock piece ∷ xs) media' (KeptRule k' ∷ ys) scene alike h = absurd alike
