-- What is read back of a sheet with opened blocks, by cases of its items: the rule that the lemmas on it go by.
use Rattle.std.proofs.Common.{◌≡◌, ℕ, Bool, true, false, List, [], ◌∷◌, drop, Some, None, refl, sym, ap, subst}
use Rattle.std.specs.Prelude.{◌==◌, if◌then◌else◌}
use Rattle.css_model.specs.declared.sheet.Item.{Item}
use Rattle.css_model.specs.declared.sheet.Item.TheVariants.{Rule, KeptRule, KeptBlock}
use Rattle.css_model.specs.declared.sheet.Piece.{Piece}
use Rattle.css_model.specs.Sheets.KeptRuleParts.{KeptRuleParts}
use Rattle.css_model.specs.Sheets.RuleParts.{RuleParts}
use Rattle.css_model.specs.Sheets.SheetParts.{SheetParts}
use Rattle.css_model.specs.Sheets.Spelling.{kept_text}
use Rattle.media_groups.specs.declared.media.Media.{Media}
use Rattle.media_groups.specs.Printed.{blocks_at}
use Rattle.opened_laws.specs.Media.Scenes.{block_at}
use Rattle.opened_laws.specs.Again.{AreOpenedAgain, IsBlockAgain, IsPieceAgain}
use Rattle.sheet_laws.specs.Twins.{AreTwinItems, AreTwinRules}

-- this piece is none of these opened blocks, or the first of them
pub record IsNone (media : List Media) (piece : Piece) : Type 0 where
  pub block : block_at media piece ≡ None
  pub count : blocks_at media (KeptBlock piece) ≡ 0

abbrev pub IsFirst : Media → Piece → Type 0
IsFirst m piece = (piece.start == m.head.start) ≡ true

pub none_here : (piece : Piece) → IsNone [] piece
none_here piece = record { block = refl; count = refl }

pub none_first : (m : Media) (media : List Media) (piece : Piece) → (piece.start == m.head.start) ≡ false → IsNone (m ∷ media) piece
none_first m media piece is = record { block = ap (λ (b : Bool). if b then Some m else None) is; count = ap (λ (b : Bool). if b then 1 else 0) is }

module _ (source written : List ℕ) (P : List Media → List SheetParts → List Item → List Media → List Item → Type 0) where
  -- what has to be shown of each kind of item
  pub record Cases : Type 0 where
    pub none : (bodies : List SheetParts) → P [] bodies [] [] []
    pub rule : (media media' : List Media) (bodies : List SheetParts) (items items' : List Item) (r r' : RuleParts) → AreTwinRules source written r r' →
        P media bodies items media' items' → P media bodies (Rule r ∷ items) media' (Rule r' ∷ items')
    pub kept : (media media' : List Media) (bodies : List SheetParts) (items items' : List Item) (k k' : KeptRuleParts) → AreTwinItems source written (KeptRule k) (KeptRule k') →
        P media bodies items media' items' → P media bodies (KeptRule k ∷ items) media' (KeptRule k' ∷ items')
    pub block : (media media' : List Media) (bodies : List SheetParts) (items items' : List Item) (p p' : Piece) → IsNone media p → IsNone media' p' → kept_text source p ≡ kept_text written p' →
        P media bodies items media' items' → P media bodies (KeptBlock p ∷ items) media' (KeptBlock p' ∷ items')
    pub opened : (m m' : Media) (media media' : List Media) (body : SheetParts) (bodies : List SheetParts) (items items' : List Item) (p p' : Piece) → IsFirst m p → IsFirst m' p' →
        IsBlockAgain source m body written m' → P media bodies items media' items' → P (m ∷ media) (body ∷ bodies) (KeptBlock p ∷ items) (m' ∷ media') (KeptBlock p' ∷ items')

  module _ (cases : Cases) where
    by_block : (items items' : List Item) → ((media media' : List Media) (bodies : List SheetParts) → AreOpenedAgain source media bodies items written media' items' → P media bodies items media' items') →
        (media media' : List Media) (bodies : List SheetParts) (p p' : Piece) → IsPieceAgain source bodies p (block_at media p) written p' (block_at media' p') →
        AreOpenedAgain source (drop (blocks_at media (KeptBlock p)) media) (drop (blocks_at media (KeptBlock p)) bodies) items written (drop (blocks_at media' (KeptBlock p')) media') items' →
        P media bodies (KeptBlock p ∷ items) media' (KeptBlock p' ∷ items')
    by_block items items' later [] [] bodies p p' here rest = cases.block [] [] bodies items items' p p' (none_here p) (none_here p') here (later [] [] bodies rest)
    by_block items items' later [] (m' ∷ media') bodies p p' here rest = which (p'.start == m'.head.start) refl here rest
      where
        which : (b : Bool) → (p'.start == m'.head.start) ≡ b → IsPieceAgain source bodies p None written p' (if b then Some m' else None) →
            AreOpenedAgain source [] bodies items written (drop (if b then 1 else 0) (m' ∷ media')) items' → P [] bodies (KeptBlock p ∷ items) (m' ∷ media') (KeptBlock p' ∷ items')
        which true is here rest = absurd here
        which false is here rest = cases.block [] (m' ∷ media') bodies items items' p p' (none_here p) (none_first m' media' p' is) here (later [] (m' ∷ media') bodies rest)
    by_block items items' later (m ∷ media) [] bodies p p' here rest = which (p.start == m.head.start) refl here rest
      where
        which : (b : Bool) → (p.start == m.head.start) ≡ b → IsPieceAgain source bodies p (if b then Some m else None) written p' None →
            AreOpenedAgain source (drop (if b then 1 else 0) (m ∷ media)) (drop (if b then 1 else 0) bodies) items written [] items' → P (m ∷ media) bodies (KeptBlock p ∷ items) [] (KeptBlock p' ∷ items')
        which true is here rest = absurd here
        which false is here rest = cases.block (m ∷ media) [] bodies items items' p p' (none_first m media p is) (none_here p') here (later (m ∷ media) [] bodies rest)
    by_block items items' later (m ∷ media) (m' ∷ media') bodies p p' here rest = which (p.start == m.head.start) (p'.start == m'.head.start) refl refl bodies here rest
      where
        which : (b b' : Bool) → (p.start == m.head.start) ≡ b → (p'.start == m'.head.start) ≡ b' → (bodies : List SheetParts) →
            IsPieceAgain source bodies p (if b then Some m else None) written p' (if b' then Some m' else None) →
            AreOpenedAgain source (drop (if b then 1 else 0) (m ∷ media)) (drop (if b then 1 else 0) bodies) items written (drop (if b' then 1 else 0) (m' ∷ media')) items' →
            P (m ∷ media) bodies (KeptBlock p ∷ items) (m' ∷ media') (KeptBlock p' ∷ items')
        which true true is is' [] here rest = absurd here
        which true true is is' (body ∷ bodies) here rest = cases.opened m m' media media' body bodies items items' p p' is is' here (later media media' bodies rest)
        which true false is is' bodies here rest = absurd here
        which false true is is' bodies here rest = absurd here
        which false false is is' bodies here rest =
            cases.block (m ∷ media) (m' ∷ media') bodies items items' p p' (none_first m media p is) (none_first m' media' p' is') here (later (m ∷ media) (m' ∷ media') bodies rest)

    pub by_items : (media media' : List Media) (bodies : List SheetParts) (items items' : List Item) → AreOpenedAgain source media bodies items written media' items' → P media bodies items media' items'
    by_items media media' bodies [] [] (none, none') =
        subst (λ (ms : List Media). P ms bodies [] media' []) (sym none) (subst (λ (ms : List Media). P [] bodies [] ms []) (sym none') (cases.none bodies))
    by_items media media' bodies [] (x' ∷ items') again = absurd again
    by_items media media' bodies (x ∷ items) [] again = absurd again
    by_items media media' bodies (KeptBlock p ∷ items) (KeptBlock p' ∷ items') (here, rest) =
        by_block items items' (λ ms ms' bs again. by_items ms ms' bs items items' again) media media' bodies p p' here rest
    by_items media media' bodies (Rule r ∷ items) (Rule r' ∷ items') (here, rest) = cases.rule media media' bodies items items' r r' here (by_items media media' bodies items items' rest)
    by_items media media' bodies (KeptRule k ∷ items) (KeptRule k' ∷ items') (here, rest) = cases.kept media media' bodies items items' k k' here (by_items media media' bodies items items' rest)
    by_items media media' bodies (Rule r ∷ items) (KeptRule k' ∷ items') again = absurd again.0
    by_items media media' bodies (Rule r ∷ items) (KeptBlock p' ∷ items') again = absurd again.0
    by_items media media' bodies (KeptRule k ∷ items) (Rule r' ∷ items') again = absurd again.0
    by_items media media' bodies (KeptRule k ∷ items) (KeptBlock p' ∷ items') again = absurd again.0
    by_items media media' bodies (KeptBlock p ∷ items) (Rule r' ∷ items') again = absurd again.0
    by_items media media' bodies (KeptBlock p ∷ items) (KeptRule k' ∷ items') again = absurd again.0
