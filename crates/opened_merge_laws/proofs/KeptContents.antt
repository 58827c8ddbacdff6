-- What the kept items of a sheet with opened blocks say decides which scenes it has.
use Rattle.std.proofs.Common.{◌≡◌, ◌↔◌, ℕ, List, [], ◌∷◌, drop, Option, Some, None, refl, sym, ap, ◌∙◌, subst}
use Rattle.std.specs.List.{All, Contains}
use Rattle.std.specs.Option.{IfSome}
use Rattle.css_model.specs.declared.sheet.Item.{Item}
use Rattle.css_model.specs.declared.sheet.Item.TheVariants.{Rule, KeptRule, KeptBlock}
use Rattle.css_model.specs.declared.sheet.Piece.{Piece}
use Rattle.css_model.specs.Cascade.Order.{kept_content}
use Rattle.css_model.specs.Cascade.Winner.{AreMeanings, Declared}
use Rattle.css_model.specs.Sheets.KeptItems.{kept_items}
use Rattle.css_model.specs.Sheets.Spelling.{Block, Content, Kept, Style, content}
use Rattle.css_model.specs.Text.Source.{text_at}
use Rattle.media_groups.specs.declared.media.Media.{Media}
use Rattle.media_groups.specs.Printed.{blocks_at}
use Rattle.opened_laws.specs.Media.Scenes.{IsSceneOf, KeptScene, block_at, kept_blocks}
use Rattle.opened_merge_laws.specs.Contents.{Opened, OpenedContent, Plain, block_content, opened_content}

-- ---- by what is said

abbrev AreSaidMeanings : List Content → List (List Declared) → Type 0
AreSaidMeanings [] [] = Unit {0}
AreSaidMeanings [] (m ∷ meanings) = ⊥
AreSaidMeanings (Style r ∷ said) meanings = AreSaidMeanings said meanings
AreSaidMeanings (Kept text decls reason ∷ said) [] = ⊥
AreSaidMeanings (Kept text decls reason ∷ said) (m ∷ meanings) = All (λ e. Contains decls e.decl) m × AreSaidMeanings said meanings
AreSaidMeanings (Block text ∷ said) [] = ⊥
AreSaidMeanings (Block text ∷ said) (m ∷ meanings) = AreSaidMeanings said meanings

abbrev IsSaidScene : OpenedContent → KeptScene → Type 0
IsSaidScene (Plain (Style r)) x = Unit {0}
IsSaidScene (Plain (Kept text decls reason)) x = All (λ e. Contains decls e.decl) x.plain
IsSaidScene (Plain (Block text)) x = Unit {0}
IsSaidScene (Opened head inside) x = AreSaidMeanings inside x.inside

abbrev AreSaidScenes : List OpenedContent → List KeptScene → Type 0
AreSaidScenes [] [] = Unit {0}
AreSaidScenes [] (x ∷ scene) = ⊥
AreSaidScenes (c ∷ said) [] = ⊥
AreSaidScenes (c ∷ said) (x ∷ scene) = IsSaidScene c x × AreSaidScenes said scene

meanings_said : (source : List ℕ) (items : List Item) (meanings : List (List Declared)) → AreMeanings items meanings ↔ AreSaidMeanings (kept_content source items) meanings
meanings_said source [] [] = (λ h. h, λ h. h)
meanings_said source [] (m ∷ meanings) = (λ h. h, λ h. h)
meanings_said source (Rule r ∷ items) meanings = meanings_said source items meanings
meanings_said source (KeptRule k ∷ items) [] = (λ h. h, λ h. h)
meanings_said source (KeptRule k ∷ items) (m ∷ meanings) = let rest = meanings_said source items meanings in (λ h. (h.0, rest.0 h.1), λ h. (h.0, rest.1 h.1))
meanings_said source (KeptBlock p ∷ items) [] = (λ h. h, λ h. h)
meanings_said source (KeptBlock p ∷ items) (m ∷ meanings) = meanings_said source items meanings

block_said : (source : List ℕ) (piece : Piece) (o : Option Media) (x : KeptScene) → IfSome o (λ m. AreMeanings m.sheet.items x.inside) ↔ IsSaidScene (block_content source piece o) x
block_said source piece None x = (λ h. tt, λ h. tt)
block_said source piece (Some m) x = meanings_said (text_at source m.body) m.sheet.items x.inside

scenes_said : (source : List ℕ) (media : List Media) (items : List Item) (scene : List KeptScene) → IsSceneOf media items scene ↔ AreSaidScenes (opened_content source media items) scene
scenes_said source media [] [] = (λ h. h, λ h. h)
scenes_said source media [] (x ∷ scene) = (λ h. h, λ h. h)
scenes_said source media (Rule r ∷ items) scene = scenes_said source media items scene
scenes_said source media (KeptRule k ∷ items) [] = (λ h. h, λ h. h)
scenes_said source media (KeptRule k ∷ items) (x ∷ scene) = let rest = scenes_said source media items scene in (λ h. (h.0, rest.0 h.1), λ h. (h.0, rest.1 h.1))
scenes_said source media (KeptBlock p ∷ items) [] = (λ h. h, λ h. h)
scenes_said source media (KeptBlock p ∷ items) (x ∷ scene) =
    let here = block_said source p (block_at media p) x in
    let rest = scenes_said source (drop (blocks_at media (KeptBlock p)) media) items scene in
    (λ h. (here.0 h.0, rest.0 h.1), λ h. (here.1 h.0, rest.1 h.1))

-- sheets that say the same have the same scenes
pub same_scenes : (source source' : List ℕ) (media media' : List Media) (items items' : List Item) → opened_content source media items ≡ opened_content source' media' items' →
    (scene : List KeptScene) → IsSceneOf media items scene ↔ IsSceneOf media' items' scene
same_scenes source source' media media' items items' same scene =
    let here = scenes_said source media items scene in
    let there = scenes_said source' media' items' scene in
    (λ h. there.1 (subst (λ (said : List OpenedContent). AreSaidScenes said scene) same (here.0 h)), λ h. here.1 (subst (λ (said : List OpenedContent). AreSaidScenes said scene) (sym same) (there.0 h)))

-- ---- by the kept items alone

content_kept : (source : List ℕ) (media : List Media) (items : List Item) → opened_content source media items ≡ opened_content source media (kept_items items)
content_kept source media [] = refl
content_kept source media (Rule r ∷ items) = content_kept source media items
content_kept source media (KeptRule k ∷ items) = ap (λ (said : List OpenedContent). Plain (content source (KeptRule k)) ∷ said) (content_kept source media items)
content_kept source media (KeptBlock p ∷ items) =
    ap (λ (said : List OpenedContent). block_content source p (block_at media p) ∷ said) (content_kept source (drop (blocks_at media (KeptBlock p)) media) items)

pub same_content : (source : List ℕ) (media : List Media) (items items' : List Item) → kept_items items ≡ kept_items items' → opened_content source media items ≡ opened_content source media items'
same_content source media items items' same = content_kept source media items ∙ ap (opened_content source media) same ∙ sym (content_kept source media items')

blocks_kept : (media : List Media) (items : List Item) → kept_blocks media items ≡ kept_blocks media (kept_items items)
blocks_kept media [] = refl
blocks_kept media (Rule r ∷ items) = blocks_kept media items
blocks_kept media (KeptRule k ∷ items) = ap (λ (os : List (Option Media)). None ∷ os) (blocks_kept media items)
blocks_kept media (KeptBlock p ∷ items) = ap (λ (os : List (Option Media)). block_at media p ∷ os) (blocks_kept (drop (blocks_at media (KeptBlock p)) media) items)

pub same_blocks : (media : List Media) (items items' : List Item) → kept_items items ≡ kept_items items' → kept_blocks media items ≡ kept_blocks media items'
same_blocks media items items' same = blocks_kept media items ∙ ap (kept_blocks media) same ∙ sym (blocks_kept media items')
