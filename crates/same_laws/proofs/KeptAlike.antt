-- Kept items that say the same, place by place.
use Rattle.std.proofs.Common.{◌≡◌, ℕ, suc, Bool, true, false, List, [], ◌∷◌, map, Option, Some, None, Decides, refl, ap, ap₂, ◌∙◌}
use Rattle.std.specs.Prelude.{◌&&◌, ◌==◌, if◌then◌else◌, is_some}
use Rattle.std.specs.Cmp.Lexicographic.{pointwise, pointwise_decides, bytes_decides}
use Rattle.std.proofs.lemmas.Bool.{false≢true, and_parts}
use Rattle.std.proofs.lemmas.Bool.Decides.{Decides-eqb}
use Rattle.css_model.proofs.ForCallers.{decl_decides}
use Rattle.css_model.specs.declared.sheet.Decl.{Decl}
use Rattle.css_model.specs.declared.sheet.Item.{Item}
use Rattle.css_model.specs.declared.sheet.Item.TheVariants.{Rule, KeptRule, KeptBlock}
use Rattle.css_model.specs.declared.sheet.Piece.{Piece}
use Rattle.css_model.specs.Sheets.KeptRuleParts.{KeptRuleParts}
use Rattle.css_model.specs.Sheets.Spelling.{Content, Kept, Block, content, kept_text}
use Rattle.media_groups.specs.declared.media.Media.{Media}
use Rattle.order_laws.specs.Members.{same_decl}
use Rattle.sheet_same.specs.Kept.{same_text, same_parts, same_rule, same_kept, block_of, blocks_behind, same_item, differing_from}

-- ---- One item

pub text_is : (source : List ℕ) (piece : Piece) (other : List ℕ) (piece' : Piece) → same_text source piece other piece' ≡ true → kept_text source piece ≡ kept_text other piece'
text_is source piece other piece' h = (bytes_decides (kept_text source piece) (kept_text other piece')).0 h

-- kept rules that say the same have the same declarations, for the same reason
pub kept_rule_parts : (source : List ℕ) (k : KeptRuleParts) (other : List ℕ) (k' : KeptRuleParts) → same_rule source k other k' ≡ true → (k.decls ≡ k'.decls) × (k.reason ≡ k'.reason)
kept_rule_parts source k other k' h =
    let a : (same_parts k k' ≡ true) × (same_text source k.piece other k'.piece ≡ true) = and_parts (same_parts k k') (same_text source k.piece other k'.piece) h in
    let b : (pointwise same_decl k.decls k'.decls ≡ true) × ((k.reason == k'.reason) ≡ true) = and_parts (pointwise same_decl k.decls k'.decls) (k.reason == k'.reason) a.0 in
    ((pointwise_decides decl_decides k.decls k'.decls).0 b.0, (Decides-eqb k.reason k'.reason).0 b.1)

pub kept_rule_text : (source : List ℕ) (k : KeptRuleParts) (other : List ℕ) (k' : KeptRuleParts) → same_rule source k other k' ≡ true → kept_text source k.piece ≡ kept_text other k'.piece
kept_rule_text source k other k' h = text_is source k.piece other k'.piece (and_parts (same_parts k k') (same_text source k.piece other k'.piece) h).1

rule_is : (source : List ℕ) (k : KeptRuleParts) (other : List ℕ) (k' : KeptRuleParts) → same_rule source k other k' ≡ true → content source (KeptRule k) ≡ content other (KeptRule k')
rule_is source k other k' h =
    let a : (same_parts k k' ≡ true) × (same_text source k.piece other k'.piece ≡ true) = and_parts (same_parts k k') (same_text source k.piece other k'.piece) h in
    let texts : kept_text source k.piece ≡ kept_text other k'.piece = text_is source k.piece other k'.piece a.1 in
    let parts : (k.decls ≡ k'.decls) × (k.reason ≡ k'.reason) = kept_rule_parts source k other k' h in
    ap₂ (λ (text : List ℕ) (ds : List Decl). Kept text ds k.reason) texts parts.0 ∙ ap (λ (n : ℕ). Kept (kept_text other k'.piece) k'.decls n) parts.1

item_is : (source : List ℕ) (x : Item) (other : List ℕ) (y : Item) → same_kept source x other y ≡ true → content source x ≡ content other y
item_is source (Rule r) other y h = absurd (false≢true h)
item_is source (KeptRule k) other (Rule r) h = absurd (false≢true h)
item_is source (KeptRule k) other (KeptRule k') h = rule_is source k other k' h
item_is source (KeptRule k) other (KeptBlock piece') h = absurd (false≢true h)
item_is source (KeptBlock piece) other (Rule r) h = absurd (false≢true h)
item_is source (KeptBlock piece) other (KeptRule k') h = absurd (false≢true h)
item_is source (KeptBlock piece) other (KeptBlock piece') h = ap (λ (text : List ℕ). Block text) (text_is source piece other piece' h)

-- ---- All items

-- each two kept items in one place say the same
abbrev pub SayTheSame : List ℕ → List Media → List Item → List ℕ → List Media → List Item → Type 0
SayTheSame source media [] other media' [] = Unit {0}
SayTheSame source media [] other media' (y ∷ ys) = ⊥
SayTheSame source media (x ∷ xs) other media' [] = ⊥
SayTheSame source media (x ∷ xs) other media' (y ∷ ys) =
    (same_item source (block_of media x) x other (block_of media' y) y ≡ true) × SayTheSame source (blocks_behind media x) xs other (blocks_behind media' y) ys

-- each two kept items in one place say the same, and both are opened blocks or neither is
abbrev pub ArePlacesAlike : List ℕ → List Media → List Item → List ℕ → List Media → List Item → Type 0
ArePlacesAlike source media [] other media' [] = Unit {0}
ArePlacesAlike source media [] other media' (y ∷ ys) = ⊥
ArePlacesAlike source media (x ∷ xs) other media' [] = ⊥
ArePlacesAlike source media (x ∷ xs) other media' (y ∷ ys) =
    (same_item source (block_of media x) x other (block_of media' y) y ≡ true)
    × (is_some (block_of media x) ≡ is_some (block_of media' y))
    × ArePlacesAlike source (blocks_behind media x) xs other (blocks_behind media' y) ys

pub say_the_same : (n : ℕ) (source : List ℕ) (media : List Media) (xs : List Item) (other : List ℕ) (media' : List Media) (ys : List Item) →
    differing_from n source media xs other media' ys ≡ None → SayTheSame source media xs other media' ys
say_the_same n source media [] other media' [] h = tt
say_the_same n source media [] other media' (y ∷ ys) h = absurd (let e : Some n ≡ None = h in cc)
say_the_same n source media (x ∷ xs) other media' [] h = absurd (let e : Some n ≡ None = h in cc)
say_the_same n source media (x ∷ xs) other media' (y ∷ ys) h =
    which (same_item source (block_of media x) x other (block_of media' y) y) refl h (λ g. say_the_same (suc n) source (blocks_behind media x) xs other (blocks_behind media' y) ys g)
  where
    rest : Option ℕ
    rest = differing_from (suc n) source (blocks_behind media x) xs other (blocks_behind media' y) ys

    which : (b : Bool) → same_item source (block_of media x) x other (block_of media' y) y ≡ b → (if b then rest else Some n) ≡ None →
        (rest ≡ None → SayTheSame source (blocks_behind media x) xs other (blocks_behind media' y) ys) → SayTheSame source media (x ∷ xs) other media' (y ∷ ys)
    which true same g behind = (same, behind g)
    which false same g behind = absurd (let e : Some n ≡ None = g in cc)

-- where no block is opened, they have the same contents
pub contents_are : (source : List ℕ) (xs : List Item) (other : List ℕ) (ys : List Item) → SayTheSame source [] xs other [] ys → map (content source) xs ≡ map (content other) ys
contents_are source [] other [] h = refl
contents_are source [] other (y ∷ ys) h = absurd h
contents_are source (x ∷ xs) other [] h = absurd h
contents_are source (x ∷ xs) other (y ∷ ys) h = ap₂ (λ (c : Content) (cs : List Content). c ∷ cs) (item_is source x other y h.0) (contents_are source xs other ys h.1)
