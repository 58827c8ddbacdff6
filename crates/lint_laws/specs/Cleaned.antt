-- A sheet without its repeated declarations and without selectors that match nothing (own).
use Rattle.std.specs.Prelude.{◌≡◌, ℕ, suc, Bool, true, not, if◌then◌else◌, List, [], ◌∷◌, map}
use Rattle.std.specs.List.{filter}
use Rattle.css_model.specs.declared.sheet.DeclItem.{DeclItem}
use Rattle.css_model.specs.declared.sheet.Item.{Item}
use Rattle.css_model.specs.declared.sheet.Item.TheVariants.{Rule, KeptRule, KeptBlock}
use Rattle.css_model.specs.declared.sheet.SelItem.{SelItem}
use Rattle.css_model.specs.Cascade.Winner.{Declared, Understood, winner}
use Rattle.css_model.specs.Documents.Document.{Document, IsLegal, Target}
use Rattle.css_model.specs.Documents.Matching.{Matches}
use Rattle.css_model.specs.Documents.SelectorParts.{SelectorParts}
use Rattle.media_groups.specs.declared.media.Media.{Media}
use Rattle.media_groups.specs.Opened.{opened_of}
use Rattle.opened_laws.specs.Media.Scenes.{KeptScene, kept_blocks, meanings_of}
use Rattle.order_laws.specs.Places.{PlacedPair, last_pairs}
use Rattle.lint_laws.specs.Repeats.{is_repeated}

-- ---- The sheet that is left

-- the selectors of a rule without those that a test calls dead (own)
abbrev pub alive_selectors : (dead : SelectorParts → Bool) → List SelItem → List SelItem
alive_selectors dead selectors = filter (λ s. not (dead s.selector)) selectors

-- the declarations of a rule without those that are repeated, the first of which has this number (own)
abbrev pub single_decls : List PlacedPair → (item : ℕ) → List SelItem → (number : ℕ) → List DeclItem → List DeclItem
single_decls lasts item selectors n [] = []
single_decls lasts item selectors n (d ∷ decls) =
    if is_repeated lasts item selectors n d.decl then single_decls lasts item selectors (suc n) decls else d ∷ single_decls lasts item selectors (suc n) decls

-- a rule before other items, unless it has no selector or no declaration (own)
abbrev pub with_rule : List SelItem → List DeclItem → List Item → List Item
with_rule [] decls items = items
with_rule (s ∷ selectors) [] items = items
with_rule (s ∷ selectors) (d ∷ decls) items = Rule (record { selectors = s ∷ selectors; decls = d ∷ decls }) ∷ items

-- items without what is told of them, the first of which has this number (own)
abbrev pub items_without : (dead : SelectorParts → Bool) → List PlacedPair → ℕ → List Item → List Item
items_without dead lasts n [] = []
items_without dead lasts n (Rule r ∷ items) = with_rule (alive_selectors dead r.selectors) (single_decls lasts n r.selectors 0 r.decls) (items_without dead lasts (suc n) items)
items_without dead lasts n (KeptRule kept ∷ items) = KeptRule kept ∷ items_without dead lasts (suc n) items
items_without dead lasts n (KeptBlock piece ∷ items) = KeptBlock piece ∷ items_without dead lasts (suc n) items

-- A sheet without all selectors that a test calls dead, without all declarations that are repeated, and without the
-- rules that then have no selector or no declaration (own).
abbrev pub cleaned : (dead : SelectorParts → Bool) → List Item → List Item
cleaned dead items = items_without dead (last_pairs items) 0 items

-- an opened block whose body is cleaned (own)
abbrev pub cleaned_block : (dead : SelectorParts → Bool) → Media → Media
cleaned_block dead m = record { item = m.item; head = m.head; body = m.body; sheet = record { items = cleaned dead m.sheet.items } }

-- ---- What it has in common with the sheet

-- the selectors that a test calls dead match no target of a legal document
abbrev pub AreDead : (dead : SelectorParts → Bool) → Type 0
AreDead dead = (s : SelectorParts) → dead s ≡ true → (doc : Document) (target : Target) → IsLegal doc → Matches doc target s → ⊥

-- The sheet that is left has the same winners (CSS Cascading 3, section 6): in every legal document, for every target,
-- whatever the kept items apply and whatever a browser understands.
abbrev pub CleaningKeepsWinners : Type 0
CleaningKeepsWinners = (items : List Item) (dead : SelectorParts → Bool) → AreDead dead →
    (doc : Document) (target : Target) (meanings : List (List Declared)) (us : List Understood) → IsLegal doc →
    winner doc target meanings items us ≡ winner doc target meanings (cleaned dead items) us

-- So has the sheet whose opened blocks are cleaned too, in each scene.
abbrev pub CleaningBodiesKeepsWinners : Type 0
CleaningBodiesKeepsWinners = (source : List ℕ) (items : List Item) (dead : SelectorParts → Bool) → AreDead dead →
    (doc : Document) (target : Target) (us : List Understood) (scene : List KeptScene) → IsLegal doc →
    winner doc target (meanings_of doc target (kept_blocks (opened_of items source) items) scene) items us
    ≡ winner doc target (meanings_of doc target (kept_blocks (map (cleaned_block dead) (opened_of items source)) (cleaned dead items)) scene) (cleaned dead items) us
