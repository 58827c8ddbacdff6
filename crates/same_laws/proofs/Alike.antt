-- Kept items of two sheets in which nothing is found: what they are, and what stands in their opened bodies.
use Rattle.std.proofs.Common.{◌≡◌, ◌==◌, ℕ, suc, Bool, true, false, List, [], ◌∷◌, drop, map, Option, Some, None, refl, sym, ap, ap₂, ◌∙◌, subst}
use Rattle.std.specs.Prelude.{if◌then◌else◌, is_some}
use Rattle.std.proofs.lemmas.Bool.{false≢true, true≢false}
use Rattle.css_model.specs.declared.sheet.Decl.{Decl}
use Rattle.css_model.specs.declared.sheet.Item.{Item}
use Rattle.css_model.specs.declared.sheet.Item.TheVariants.{Rule, KeptRule, KeptBlock}
use Rattle.css_model.specs.declared.sheet.Piece.{Piece}
use Rattle.css_model.specs.Cascade.Order.{Keeps}
use Rattle.css_model.specs.Sheets.KeptRuleParts.{KeptRuleParts}
use Rattle.css_model.specs.Sheets.RuleParts.{RuleParts}
use Rattle.css_model.specs.Text.Source.{text_at}
use Rattle.media_groups.specs.declared.media.Media.{Media}
use Rattle.media_groups.specs.Printed.{blocks_at}
use Rattle.opened_laws.specs.Media.Scenes.{block_at, kept_blocks}
use Rattle.order_laws.specs.Keeping.{KeepingIsMutual}
use Rattle.overlap.specs.PairsParts.{PairsParts}
use Rattle.overlap.specs.Remembered.{IsTrueList}
use Rattle.same_laws.specs.Same.{SamePartsKeep}
use Rattle.sheet_same.specs.declared.compared.Compared.{Compared}
use Rattle.sheet_same.specs.declared.compared.Difference.{Difference}
use Rattle.sheet_same.specs.Compared.{IsFound, Told, BodiesTell, nothing}
use Rattle.sheet_same.specs.Kept.{block_of, blocks_behind, same_kept, same_item}
use Rattle.same_laws.proofs.KeptAlike.{kept_rule_parts, ArePlacesAlike}

-- ---- Bodies

abbrev KeepsBody : List ℕ → Media → List ℕ → Media → Type 0
KeepsBody source m other m' = Keeps (text_at source m.body) m.sheet.items (text_at other m'.body) m'.sheet.items

-- the bodies in one place keep each other
abbrev pub BodiesKeep : List ℕ → List Media → List ℕ → List Media → Type 0
BodiesKeep source [] other media' = Unit {0}
BodiesKeep source (m ∷ media) other [] = Unit {0}
BodiesKeep source (m ∷ media) other (m' ∷ media') = KeepsBody source m other m' × BodiesKeep source media other media'

pub bodies_keep : SamePartsKeep → (pairs : PairsParts) → ∥ IsTrueList pairs ∥₁ → (n : ℕ) (source : List ℕ) (media : List Media) (other : List ℕ) (media' : List Media) →
    BodiesTell pairs.answers n source media other media' nothing → BodiesKeep source media other media'
bodies_keep law pairs true_list n source [] other media' h = tt
bodies_keep law pairs true_list n source (m ∷ media) other [] h = tt
bodies_keep law pairs true_list n source (m ∷ media) other (m' ∷ media') (found, is, told) =
    which found is told (λ g. bodies_keep law pairs true_list (suc n) source media other media' g)
  where
    Rest : Difference → Type 0
    Rest = BodiesTell pairs.answers (suc n) source media other media'

    which : (o : Option Compared) → IsFound pairs.answers (text_at source m.body) [] m.sheet.items (text_at other m'.body) [] m'.sheet.items o → Told (Some n) o Rest nothing →
        (Rest nothing → BodiesKeep source media other media') → BodiesKeep source (m ∷ media) other (m' ∷ media')
    which (Some c) g same rest = absurd (let e : None ≡ Some n = ap (λ (d : Difference). d.body) same in cc)
    which None g more rest = (law pairs true_list (text_at source m.body) m.sheet.items (text_at other m'.body) m'.sheet.items g, rest more)

-- ---- Items

-- both are opened, with bodies that keep each other, or none is
abbrev pub AreBlocksAlike : List ℕ → Option Media → List ℕ → Option Media → Type 0
AreBlocksAlike source None other None = Unit {0}
AreBlocksAlike source None other (Some m') = ⊥
AreBlocksAlike source (Some m) other None = ⊥
AreBlocksAlike source (Some m) other (Some m') = KeepsBody source m other m'

-- Each two kept items in one place are kept rules with the same declarations and for the same reason, or blocks.
abbrev pub AreItemsAlike : List ℕ → List Media → List Item → List ℕ → List Media → List Item → Type 0
AreItemsAlike source media [] other media' [] = Unit {0}
AreItemsAlike source media (KeptRule k ∷ xs) other media' (KeptRule k' ∷ ys) = (k.decls ≡ k'.decls) × (k.reason ≡ k'.reason) × AreItemsAlike source media xs other media' ys
AreItemsAlike source media (KeptBlock piece ∷ xs) other media' (KeptBlock piece' ∷ ys) =
    AreBlocksAlike source (block_at media piece) other (block_at media' piece')
    × AreItemsAlike source (drop (blocks_at media (KeptBlock piece)) media) xs other (drop (blocks_at media' (KeptBlock piece')) media') ys
AreItemsAlike source media _ other media' _ = ⊥

no_block_rule : (media : List Media) (r : RuleParts) → block_of media (Rule r) ≡ None
no_block_rule [] r = refl
no_block_rule (m ∷ media) r = refl

no_block_kept : (media : List Media) (k : KeptRuleParts) → block_of media (KeptRule k) ≡ None
no_block_kept [] k = refl
no_block_kept (m ∷ media) k = refl

behind_kept : (media : List Media) (k : KeptRuleParts) → blocks_behind media (KeptRule k) ≡ media
behind_kept [] k = refl
behind_kept (m ∷ media) k = refl

block_is : (media : List Media) (piece : Piece) → block_of media (KeptBlock piece) ≡ block_at media piece
block_is [] piece = refl
block_is (m ∷ media) piece = refl

both_at : (media : List Media) (piece : Piece) (media' : List Media) (piece' : Piece) → is_some (block_of media (KeptBlock piece)) ≡ is_some (block_of media' (KeptBlock piece')) →
    is_some (block_at media piece) ≡ is_some (block_at media' piece')
both_at media piece media' piece' h = ap (λ (o : Option Media). is_some o) (sym (block_is media piece)) ∙ h ∙ ap (λ (o : Option Media). is_some o) (block_is media' piece')

-- what blocks in one place are, and those behind them
abbrev BlocksStep : List ℕ → List Media → Piece → List ℕ → List Media → Piece → Type 0
BlocksStep source media piece other media' piece' =
    AreBlocksAlike source (block_at media piece) other (block_at media' piece')
    × BodiesKeep source (drop (blocks_at media (KeptBlock piece)) media) other (drop (blocks_at media' (KeptBlock piece')) media')

blocks_step : (source : List ℕ) (media : List Media) (piece : Piece) (other : List ℕ) (media' : List Media) (piece' : Piece) → BodiesKeep source media other media' →
    is_some (block_at media piece) ≡ is_some (block_at media' piece') → BlocksStep source media piece other media' piece'
blocks_step source [] piece other [] piece' keeps like = (tt, tt)
blocks_step source [] piece other (m' ∷ media') piece' keeps like = which (piece'.start == m'.head.start) like
  where
    which : (b : Bool) → false ≡ is_some {T = Media} (if b then Some m' else None) →
        AreBlocksAlike source None other (if b then Some m' else None) × BodiesKeep source [] other (drop (if b then 1 else 0) (m' ∷ media'))
    which true h = absurd (false≢true h)
    which false h = (tt, tt)
blocks_step source (m ∷ media) piece other [] piece' keeps like = which (piece.start == m.head.start) like
  where
    which : (b : Bool) → is_some {T = Media} (if b then Some m else None) ≡ false →
        AreBlocksAlike source (if b then Some m else None) other None × BodiesKeep source (drop (if b then 1 else 0) (m ∷ media)) other []
    which true h = absurd (true≢false h)
    which false h = (tt, tt)
blocks_step source (m ∷ media) piece other (m' ∷ media') piece' keeps like = which (piece.start == m.head.start) (piece'.start == m'.head.start) like
  where
    which : (b b' : Bool) → is_some {T = Media} (if b then Some m else None) ≡ is_some {T = Media} (if b' then Some m' else None) →
        AreBlocksAlike source (if b then Some m else None) other (if b' then Some m' else None)
        × BodiesKeep source (drop (if b then 1 else 0) (m ∷ media)) other (drop (if b' then 1 else 0) (m' ∷ media'))
    which true true h = keeps
    which true false h = absurd (true≢false h)
    which false true h = absurd (false≢true h)
    which false false h = (tt, keeps)

module _ (source other : List ℕ) where
  same_without : (o o' : Option Media) (x y : Item) → o ≡ None → same_item source o x other o' y ≡ true → same_kept source x other y ≡ true
  same_without o o' x y e h = subst (λ (z : Option Media). same_item source z x other o' y ≡ true) e h

  same_without' : (o o' : Option Media) (x y : Item) → o' ≡ None → same_item source o x other o' y ≡ true → same_kept source x other y ≡ true
  same_without' None o' x y e h = h
  same_without' (Some m) o' x y e h = subst (λ (z : Option Media). same_item source (Some m) x other z y ≡ true) e h

  pub items_alike : (media : List Media) (xs : List Item) (media' : List Media) (ys : List Item) → BodiesKeep source media other media' → ArePlacesAlike source media xs other media' ys → AreItemsAlike source media xs other media' ys
  items_alike media [] media' [] keeps h = tt
  items_alike media [] media' (y ∷ ys) keeps h = absurd h
  items_alike media (Rule r ∷ xs) media' [] keeps h = absurd h
  items_alike media (KeptRule k ∷ xs) media' [] keeps h = absurd h
  items_alike media (KeptBlock piece ∷ xs) media' [] keeps h = absurd h
  items_alike media (Rule r ∷ xs) media' (y ∷ ys) keeps h = absurd (false≢true (same_without (block_of media (Rule r)) (block_of media' y) (Rule r) y (no_block_rule media r) h.0))
  items_alike media (KeptRule k ∷ xs) media' (Rule r' ∷ ys) keeps h =
      absurd (false≢true (same_without (block_of media (KeptRule k)) (block_of media' (Rule r')) (KeptRule k) (Rule r') (no_block_kept media k) h.0))
  items_alike media (KeptRule k ∷ xs) media' (KeptBlock piece' ∷ ys) keeps h =
      absurd (false≢true (same_without (block_of media (KeptRule k)) (block_of media' (KeptBlock piece')) (KeptRule k) (KeptBlock piece') (no_block_kept media k) h.0))
  items_alike media (KeptRule k ∷ xs) media' (KeptRule k' ∷ ys) keeps h =
      let parts : (k.decls ≡ k'.decls) × (k.reason ≡ k'.reason) =
      kept_rule_parts source k other k' (same_without (block_of media (KeptRule k)) (block_of media' (KeptRule k')) (KeptRule k) (KeptRule k') (no_block_kept media k) h.0) in (
        parts.0,
        parts.1,
        items_alike media xs media' ys keeps
            (subst (λ (ms : List Media). ArePlacesAlike source ms xs other media' ys) (behind_kept media k)
            (subst (λ (ms : List Media). ArePlacesAlike source (blocks_behind media (KeptRule k)) xs other ms ys) (behind_kept media' k') h.2)),
      )
  items_alike media (KeptBlock piece ∷ xs) media' (Rule r' ∷ ys) keeps h =
      absurd (false≢true (same_without' (block_of media (KeptBlock piece)) (block_of media' (Rule r')) (KeptBlock piece) (Rule r') (no_block_rule media' r') h.0))
  items_alike media (KeptBlock piece ∷ xs) media' (KeptRule k' ∷ ys) keeps h =
      absurd (false≢true (same_without' (block_of media (KeptBlock piece)) (block_of media' (KeptRule k')) (KeptBlock piece) (KeptRule k') (no_block_kept media' k') h.0))
  items_alike media (KeptBlock piece ∷ xs) media' (KeptBlock piece' ∷ ys) keeps h =
      let step : BlocksStep source media piece other media' piece' = blocks_step source media piece other media' piece' keeps (both_at media piece media' piece' h.1) in
      (step.0, items_alike (drop (blocks_at media (KeptBlock piece)) media) xs (drop (blocks_at media' (KeptBlock piece')) media') ys step.1 h.2)

  -- the same of them are opened blocks
  pub opened_alike : (media : List Media) (xs : List Item) (media' : List Media) (ys : List Item) → ArePlacesAlike source media xs other media' ys → map is_some (kept_blocks media xs) ≡ map is_some (kept_blocks media' ys)
  opened_alike media [] media' [] h = refl
  opened_alike media [] media' (y ∷ ys) h = absurd h
  opened_alike media (Rule r ∷ xs) media' [] h = absurd h
  opened_alike media (KeptRule k ∷ xs) media' [] h = absurd h
  opened_alike media (KeptBlock piece ∷ xs) media' [] h = absurd h
  opened_alike media (Rule r ∷ xs) media' (y ∷ ys) h = absurd (false≢true (same_without (block_of media (Rule r)) (block_of media' y) (Rule r) y (no_block_rule media r) h.0))
  opened_alike media (KeptRule k ∷ xs) media' (Rule r' ∷ ys) h =
      absurd (false≢true (same_without (block_of media (KeptRule k)) (block_of media' (Rule r')) (KeptRule k) (Rule r') (no_block_kept media k) h.0))
  opened_alike media (KeptRule k ∷ xs) media' (KeptBlock piece' ∷ ys) h =
      absurd (false≢true (same_without (block_of media (KeptRule k)) (block_of media' (KeptBlock piece')) (KeptRule k) (KeptBlock piece') (no_block_kept media k) h.0))
  opened_alike media (KeptRule k ∷ xs) media' (KeptRule k' ∷ ys) h =
      ap (λ (bs : List Bool). false ∷ bs) (opened_alike media xs media' ys
      (subst (λ (ms : List Media). ArePlacesAlike source ms xs other media' ys) (behind_kept media k)
      (subst (λ (ms : List Media). ArePlacesAlike source (blocks_behind media (KeptRule k)) xs other ms ys) (behind_kept media' k') h.2)))
  opened_alike media (KeptBlock piece ∷ xs) media' (Rule r' ∷ ys) h =
      absurd (false≢true (same_without' (block_of media (KeptBlock piece)) (block_of media' (Rule r')) (KeptBlock piece) (Rule r') (no_block_rule media' r') h.0))
  opened_alike media (KeptBlock piece ∷ xs) media' (KeptRule k' ∷ ys) h =
      absurd (false≢true (same_without' (block_of media (KeptBlock piece)) (block_of media' (KeptRule k')) (KeptBlock piece) (KeptRule k') (no_block_kept media' k') h.0))
  opened_alike media (KeptBlock piece ∷ xs) media' (KeptBlock piece' ∷ ys) h =
      ap₂ (λ (b : Bool) (bs : List Bool). b ∷ bs) (both_at media piece media' piece' h.1)
      (opened_alike (drop (blocks_at media (KeptBlock piece)) media) xs (drop (blocks_at media' (KeptBlock piece')) media') ys h.2)

-- ---- The other way round

module _ (keeping : KeepingIsMutual) (source other : List ℕ) where
  blocks_back : (o o' : Option Media) → AreBlocksAlike source o other o' → AreBlocksAlike other o' source o
  blocks_back None None h = tt
  blocks_back None (Some m') h = absurd h
  blocks_back (Some m) None h = absurd h
  blocks_back (Some m) (Some m') h = keeping (text_at source m.body) (text_at other m'.body) m.sheet.items m'.sheet.items h

  pub items_back : (media : List Media) (xs : List Item) (media' : List Media) (ys : List Item) → AreItemsAlike source media xs other media' ys → AreItemsAlike other media' ys source media xs
  items_back media [] media' [] h = tt
  items_back media (KeptRule k ∷ xs) media' (KeptRule k' ∷ ys) h = (sym h.0, sym h.1, items_back media xs media' ys h.2)
  items_back media (KeptBlock piece ∷ xs) media' (KeptBlock piece' ∷ ys) h =
      (blocks_back (block_at media piece) (block_at media' piece') h.0, items_back (drop (blocks_at media (KeptBlock piece)) media) xs (drop (blocks_at media' (KeptBlock piece')) media') ys h.1)
  items_back media [] media' (Rule r' ∷ ys) h = absurd h
  items_back media [] media' (KeptRule k' ∷ ys) h = absurd h
  items_back media [] media' (KeptBlock piece' ∷ ys) h = absurd h
  items_back media (Rule r ∷ xs) media' [] h = absurd h
  items_back media (Rule r ∷ xs) media' (Rule r' ∷ ys) h = absurd h
  items_back media (Rule r ∷ xs) media' (KeptRule k' ∷ ys) h = absurd h
  items_back media (Rule r ∷ xs) media' (KeptBlock piece' ∷ ys) h = absurd h
  items_back media (KeptRule k ∷ xs) media' [] h = absurd h
  items_back media (KeptRule k ∷ xs) media' (Rule r' ∷ ys) h = absurd h
  items_back media (KeptRule k ∷ xs) media' (KeptBlock piece' ∷ ys) h = absurd h
  items_back media (KeptBlock piece ∷ xs) media' [] h = absurd h
  items_back media (KeptBlock piece ∷ xs) media' (Rule r' ∷ ys) h = absurd h
  items_back media (KeptBlock piece ∷ xs) media' (KeptRule k' ∷ ys) h = absurd h
