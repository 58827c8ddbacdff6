-- What holds of kept items that are read back.
use Rattle.std.proofs.Common.{◌≡◌, inl, inr, ℕ, Bool, false, List, [], ◌∷◌, refl, sym, ◌∙◌, ap, ap₂}
use Rattle.std.specs.Prelude.{◌||◌, codes}
use Rattle.std.specs.List.{AllZip, list_any}
use Rattle.css_model.specs.declared.sheet.Item.{Item}
use Rattle.css_model.specs.declared.sheet.Item.TheVariants.{Rule, KeptRule, KeptBlock}
use Rattle.css_model.specs.declared.sheet.Piece.{Piece}
use Rattle.css_model.specs.Sheets.ComesFrom.{Follows}
use Rattle.css_model.specs.Sheets.RuleParts.{RuleParts}
use Rattle.css_model.specs.Sheets.Sheet.{is_at_rule_named}
use Rattle.css_model.specs.Sheets.Spelling.{lexemes_of, stands_in, tokens_in}
use Rattle.list_facts.proofs.Zips.{AllLast}
use Rattle.media_groups.specs.Opened.{is_top_item}
use Rattle.print_laws.proofs.ForCallers.{AreKeptBack, Ground, IsKeptBack, filtered}
use Rattle.sheet_laws.specs.Twins.{AreTwinItems}
use Rattle.sheet_laws.proofs.ForCallers.{AreClosable, IsClosable, IsInner, IsLike, at_rule_named_like, inner, item_like, last_from_shown, last_of_item, shown}
use Rattle.opened_laws.proofs.Alike.Bodies.{IsLastOfItem}

pub closable_piece : (source : List ℕ) → Ground source → (piece : Piece) → AreClosable source (tokens_in source piece)
closable_piece source g piece = filtered (IsClosable source) (stands_in piece) (lexemes_of source) g.good.closable

-- its tokens are those of the source, with the last one as that of an item
pub kept_last : (source text : List ℕ) (piece piece' : Piece) → IsKeptBack source piece text piece' → AllLast (IsInner text source) (IsLastOfItem text source) (tokens_in text piece') (tokens_in source piece)
kept_last source text piece piece' back = last_from_shown (shown text) (inner source) (last_of_item source) (tokens_in text piece') (tokens_in source piece) back.shown_as

pub kept_like : (source text : List ℕ) → Ground source → (piece piece' : Piece) → IsKeptBack source piece text piece' → AllZip (IsLike text source) (tokens_in text piece') (tokens_in source piece)
kept_like source text g piece piece' back = item_like text source (tokens_in text piece') (tokens_in source piece) (kept_last source text piece piece' back) (closable_piece source g piece)

pub kept_named : (word source text : List ℕ) → Ground source → (piece piece' : Piece) → IsKeptBack source piece text piece' →
    is_at_rule_named word text (tokens_in text piece') ≡ is_at_rule_named word source (tokens_in source piece)
kept_named word source text g piece piece' back = at_rule_named_like word text source (tokens_in text piece') (tokens_in source piece) (kept_like source text g piece piece' back)

-- The same of them counts at the top of a sheet alone.
kept_top : (source text : List ℕ) → Ground source → (item item' : Item) → AreTwinItems source text item item' → AreKeptBack source text item item' → is_top_item text item' ≡ is_top_item source item
kept_top source text g (Rule r) (Rule r') twin back = refl
kept_top source text g (Rule r) (KeptRule k') twin back = absurd twin
kept_top source text g (Rule r) (KeptBlock p') twin back = absurd twin
kept_top source text g (KeptRule k) (Rule r') twin back = absurd twin
kept_top source text g (KeptRule k) (KeptRule k') twin back = refl
kept_top source text g (KeptRule k) (KeptBlock p') twin back = absurd twin
kept_top source text g (KeptBlock p) (Rule r') twin back = absurd twin
kept_top source text g (KeptBlock p) (KeptRule k') twin back = absurd twin
kept_top source text g (KeptBlock p) (KeptBlock p') twin back =
    ap₂ (λ (b c : Bool). b || c) (kept_named (codes "import") source text g p p' back) (kept_named (codes "charset") source text g p p' back)

pub kept_tops : (source text : List ℕ) → Ground source → (its its' : List Item) → AllZip (AreTwinItems source text) its its' → AllZip (AreKeptBack source text) its its' →
    list_any (is_top_item text) its' ≡ list_any (is_top_item source) its
kept_tops source text g [] [] z k = refl
kept_tops source text g [] (item' ∷ its') z k = absurd z
kept_tops source text g (item ∷ its) [] z k = absurd z
kept_tops source text g (item ∷ its) (item' ∷ its') z k =
    ap₂ (λ (b c : Bool). b || c) (kept_top source text g item item' z.0 k.0) (kept_tops source text g its its' z.1 k.1)

-- a test that no rule passes
abbrev pub FailsRules : (Item → Bool) → Type 0
FailsRules p = (r : RuleParts) → p (Rule r) ≡ false

-- Items that follow others pass it where these do.
pub any_follow : (p : Item → Bool) → FailsRules p → (new old : List Item) → Follows new old → list_any p new ≡ list_any p old
any_follow p fails [] [] f = refl
any_follow p fails (item ∷ new) [] f = absurd f
any_follow p fails [] (Rule r ∷ old) f = any_follow p fails [] old f ∙ sym (ap (λ (b : Bool). b || list_any p old) (fails r))
any_follow p fails [] (KeptRule k ∷ old) f = absurd f
any_follow p fails [] (KeptBlock o ∷ old) f = absurd f
any_follow p fails (Rule q ∷ new) (Rule r ∷ old) (inl f) = ap (λ (b : Bool). b || list_any p new) (fails q) ∙ any_follow p fails new (Rule r ∷ old) f
any_follow p fails (Rule q ∷ new) (Rule r ∷ old) (inr f) = any_follow p fails (Rule q ∷ new) old f ∙ sym (ap (λ (b : Bool). b || list_any p old) (fails r))
any_follow p fails (KeptRule j ∷ new) (Rule r ∷ old) f = any_follow p fails (KeptRule j ∷ new) old f ∙ sym (ap (λ (b : Bool). b || list_any p old) (fails r))
any_follow p fails (KeptBlock o ∷ new) (Rule r ∷ old) f = any_follow p fails (KeptBlock o ∷ new) old f ∙ sym (ap (λ (b : Bool). b || list_any p old) (fails r))
any_follow p fails (Rule q ∷ new) (KeptRule k ∷ old) f = absurd f
any_follow p fails (KeptRule j ∷ new) (KeptRule k ∷ old) f = ap (λ k. p (KeptRule k) || list_any p new) f.0 ∙ ap (λ (b : Bool). p (KeptRule k) || b) (any_follow p fails new old f.1)
any_follow p fails (KeptBlock o ∷ new) (KeptRule k ∷ old) f = absurd f
any_follow p fails (Rule q ∷ new) (KeptBlock o ∷ old) f = absurd f
any_follow p fails (KeptRule j ∷ new) (KeptBlock o ∷ old) f = absurd f
any_follow p fails (KeptBlock o ∷ new) (KeptBlock u ∷ old) f = ap (λ u. p (KeptBlock u) || list_any p new) f.0 ∙ ap (λ (b : Bool). p (KeptBlock u) || b) (any_follow p fails new old f.1)
