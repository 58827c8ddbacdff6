-- The kept items that are read back say what those that were printed do.
use Rattle.std.proofs.Common.{◌≡◌, ℕ, Bool, List, ◌∷◌, drop, Option, Some, None, refl, sym, ap, ap₂, ◌∙◌}
use Rattle.std.specs.Prelude.{if◌then◌else◌}
use Rattle.std.specs.List.{AllZip}
use Rattle.css_model.specs.declared.sheet.Decl.{Decl}
use Rattle.css_model.specs.declared.sheet.Item.{Item}
use Rattle.css_model.specs.declared.sheet.Item.TheVariants.{KeptRule, KeptBlock}
use Rattle.css_model.specs.declared.sheet.Piece.{Piece}
use Rattle.css_model.specs.Cascade.Order.{kept_content}
use Rattle.css_model.specs.Sheets.KeptRuleParts.{KeptRuleParts}
use Rattle.css_model.specs.Sheets.SheetParts.{SheetParts}
use Rattle.css_model.specs.Sheets.Spelling.{Block, Content, Kept, content, kept_text}
use Rattle.css_model.specs.Text.Source.{text_at}
use Rattle.media_groups.specs.declared.media.Media.{Media}
use Rattle.opened_laws.specs.Again.{AreOpenedAgain}
use Rattle.opened_merge_laws.specs.Contents.{Opened, OpenedContent, Plain, block_content, opened_content}
use Rattle.opened_merge_laws.proofs.Again.{IsFirst, IsNone, by_items}
use Rattle.plan_laws.specs.Planned.{TwinsKeep}
use Rattle.sheet_laws.specs.Twins.{AreTwinItems}

content_none : (source : List ℕ) (media : List Media) (p : Piece) (items : List Item) → IsNone media p → opened_content source media (KeptBlock p ∷ items) ≡ Plain (Block (kept_text source p)) ∷ opened_content source media items
content_none source media p items none =
    ap₂ (λ (o : Option Media) (n : ℕ). block_content source p o ∷ opened_content source (drop n media) items) none.block none.count

content_first : (source : List ℕ) (m : Media) (media : List Media) (p : Piece) (items : List Item) → IsFirst m p →
    opened_content source (m ∷ media) (KeptBlock p ∷ items) ≡ Opened (kept_text source m.head) (kept_content (text_at source m.body) m.sheet.items) ∷ opened_content source media items
content_first source m media p items first =
    ap (λ (b : Bool). block_content source p (if b then Some m else None) ∷ opened_content source (drop (if b then 1 else 0) (m ∷ media)) items) first

module _ (source written : List ℕ) where
  -- the kept items say the same where those of the bodies do
  abbrev pub SayTheSame : Media → SheetParts → Type 0
  SayTheSame m body = kept_content (text_at source m.body) m.sheet.items ≡ kept_content (text_at source m.body) body.items

  same_rule : (k k' : KeptRuleParts) → AreTwinItems source written (KeptRule k) (KeptRule k') → content source (KeptRule k) ≡ content written (KeptRule k')
  same_rule k k' (decls, text, reason) = ap₂ (λ (t : List ℕ) (rest : List Decl × ℕ). Kept t rest.0 rest.1) text (ap₂ (λ (ds : List Decl) (n : ℕ). (ds, n)) decls reason)

  pub again_content : TwinsKeep → (media media' : List Media) (bodies : List SheetParts) (items items' : List Item) → AreOpenedAgain source media bodies items written media' items' →
      AllZip SayTheSame media bodies → opened_content source media items ≡ opened_content written media' items'
  again_content keep = by_items source written (λ media bodies items media' items'. AllZip SayTheSame media bodies → opened_content source media items ≡ opened_content written media' items') (record {
    none = λ bodies all. refl;
    rule = λ media media' bodies items items' r r' here rest. rest;
    kept = λ media media' bodies items items' k k' here rest all. ap₂ (λ (c : Content) (said : List OpenedContent). Plain c ∷ said) (same_rule k k' here) (rest all);
    block = λ media media' bodies items items' p p' at at' same rest all. content_none source media p items at
        ∙ ap₂ (λ (t : List ℕ) (said : List OpenedContent). Plain (Block t) ∷ said) same (rest all) ∙ sym (content_none written media' p' items' at');
    opened = λ m m' media media' body bodies items items' p p' at at' here rest all. content_first source m media p items at
        ∙ ap₂ (λ (c : OpenedContent) (said : List OpenedContent). c ∷ said) (ap₂ Opened (sym here.head) (all.0 ∙ (keep (text_at source m.body) (text_at written m'.body) body.items m'.sheet.items here.twins).kept)) (rest all.1)
        ∙ sym (content_first written m' media' p' items' at');
  })
