-- The first place at which the kept items of two sheets differ.
use Rattle.std.specs.Prelude.{◌≡◌, ◌<◌, ℕ, suc, nat_eq, ◌==◌, Bool, false, ◌&&◌, if◌then◌else◌, List, [], ◌∷◌, Option, Some, None, drop, length}
use Rattle.std.specs.Borrow.{Bor}
use Rattle.std.specs.Cmp.Lexicographic.{pointwise}
use Rattle.css_model.specs.declared.sheet.Item.{Item}
use Rattle.css_model.specs.declared.sheet.Item.TheVariants.{Rule, KeptRule, KeptBlock}
use Rattle.css_model.specs.declared.sheet.Piece.{Piece}
use Rattle.css_model.specs.Sheets.KeptItems.{kept_items}
use Rattle.css_model.specs.Sheets.KeptRuleParts.{KeptRuleParts}
use Rattle.css_model.specs.Sheets.Spelling.{kept_text}
use Rattle.media_groups.specs.declared.media.Media.{Media}
use Rattle.media_groups.specs.Printed.{begins_at, blocks_at}
use Rattle.order_laws.specs.Members.{same_decl}

-- whether the kept texts of two pieces, each with its source, are the same (own)
abbrev pub same_text : List ℕ → Piece → List ℕ → Piece → Bool
same_text source piece other piece' = pointwise nat_eq (kept_text source piece) (kept_text other piece')

-- whether two kept rules have the same declarations, for the same reason (own)
abbrev pub same_parts : KeptRuleParts → KeptRuleParts → Bool
same_parts k k' = pointwise same_decl k.decls k'.decls && k.reason == k'.reason

-- whether two kept rules say the same (own)
abbrev pub same_rule : List ℕ → KeptRuleParts → List ℕ → KeptRuleParts → Bool
same_rule source k other k' = same_parts k k' && same_text source k.piece other k'.piece

-- whether two items are kept and say the same (own)
abbrev pub same_kept : List ℕ → Item → List ℕ → Item → Bool
same_kept source (Rule r) other item = false
same_kept source (KeptRule k) other (Rule r) = false
same_kept source (KeptRule k) other (KeptRule k') = same_rule source k other k'
same_kept source (KeptRule k) other (KeptBlock piece') = false
same_kept source (KeptBlock piece) other (Rule r) = false
same_kept source (KeptBlock piece) other (KeptRule k') = false
same_kept source (KeptBlock piece) other (KeptBlock piece') = same_text source piece other piece'

-- ---- Opened blocks

-- the first of these opened blocks, where an item is it
abbrev pub block_of : List Media → Item → Option Media
block_of [] item = None
block_of (m ∷ media) item = if begins_at m.head.start item then Some m else None

-- the opened blocks behind an item
abbrev pub blocks_behind : List Media → Item → List Media
blocks_behind media item = drop (blocks_at media item) media

-- whether two kept items say the same, where these opened blocks are there (own): of two opened blocks the heads do
abbrev pub same_item : List ℕ → Option Media → Item → List ℕ → Option Media → Item → Bool
same_item source (Some m) item other (Some m') item' = same_text source m.head other m'.head
same_item source (Some m) item other None item' = same_kept source item other item'
same_item source None item other o' item' = same_kept source item other item'

-- ---- The first place

-- The number, counted from this one, of the first place at which two lists of kept items differ, among which these blocks are
-- opened (own).
abbrev pub differing_from : ℕ → List ℕ → List Media → List Item → List ℕ → List Media → List Item → Option ℕ
differing_from n source media [] other media' [] = None
differing_from n source media [] other media' (y ∷ ys) = Some n
differing_from n source media (x ∷ xs) other media' [] = Some n
differing_from n source media (x ∷ xs) other media' (y ∷ ys) =
    if same_item source (block_of media x) x other (block_of media' y) y
    then differing_from (suc n) source (blocks_behind media x) xs other (blocks_behind media' y) ys
    else Some n

-- Of all kept items of two sheets, among which these blocks are opened (own): the number of the first place at which they differ.
-- No place differs because only one of its two items is opened: in sheets that are read, what says the same is opened in both or
-- in neither, by the law `NoneIsOpenedAlone` of `same_laws`.
abbrev pub first_differing : List ℕ → List Media → List Item → List ℕ → List Media → List Item → Option ℕ
first_differing source media items other media' items' = differing_from 0 source media (kept_items items) other media' (kept_items items')

-- the first kept one of some items with the items behind it, where there is one
abbrev pub NextKept : List Item → Option (Bor Item × Bor (List Item)) → Type 0
NextKept items None = kept_items items ≡ []
NextKept items (Some (item, behind)) = (kept_items items ≡ item.now ∷ kept_items behind.now) × (length behind.now < length items)
