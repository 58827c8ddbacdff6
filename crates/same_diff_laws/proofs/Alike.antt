-- Two sheets that compare as the same, kept item by kept item: what their opened blocks and other kept items have in common.
use Rattle.std.proofs.Common.{◌≡◌, ◌⊎◌, inl, inr, ℕ, zero, suc, ◌+◌, Bool, true, false, List, [], ◌∷◌, ◌++◌, map, drop, Option, Some, None, option_map, refl, sym, ap, ap₂, ◌∙◌, subst}
use Rattle.std.specs.Prelude.{if◌then◌else◌, is_some, slice_get}
use Rattle.std.proofs.lemmas.Bool.{false≢true, true≢false}
use Rattle.css_model.specs.declared.sheet.Item.{Item}
use Rattle.css_model.specs.declared.sheet.Item.TheVariants.{Rule, KeptRule, KeptBlock}
use Rattle.css_model.specs.Documents.SelectorParts.{SelectorParts}
use Rattle.css_model.specs.Sheets.KeptItems.{kept_items}
use Rattle.css_model.specs.Sheets.KeptRuleParts.{KeptRuleParts}
use Rattle.css_model.specs.Sheets.Spelling.{kept_text}
use Rattle.css_model.specs.Text.Source.{text_at}
use Rattle.media_groups.specs.declared.media.Media.{Media}
use Rattle.media_groups.specs.Printed.{begins_at}
use Rattle.normal_text.specs.Normal.{normal_head, normal_kept}
use Rattle.opened_laws.specs.Media.Scenes.{kept_blocks}
use Rattle.sheet_same.specs.Kept.{block_of, blocks_behind, same_item, same_kept}
use Rattle.same_laws.proofs.ForCallers.{ArePlacesAlike, SayTheSame, kept_rule_text, text_is}
use Rattle.sheet_members.specs.Labels.{Label}
use Rattle.sheet_members.specs.Layers.{body_layer}
use Rattle.same_diff_laws.proofs.Lasting.{Mark, marks}
use Rattle.same_diff_laws.proofs.Levels.{LevelFacts}
use Rattle.same_diff_laws.proofs.Marks.{entry_marks, kept_label, kept_marks, mark_below, marks_are}
use Rattle.same_diff_laws.proofs.Spots.{block_in, blocks, body_spots}

abbrev pub IsBlock : Item → Type 0
IsBlock (Rule r) = ⊥
IsBlock (KeptRule k) = ⊥
IsBlock (KeptBlock piece) = Unit {0}

-- the opened blocks of kept items
abbrev pub walked : List Media → List Item → List (Option Media)
walked media [] = []
walked media (x ∷ xs) = block_of media x ∷ walked (blocks_behind media x) xs

no_block_kept : (media : List Media) (k : KeptRuleParts) → block_of media (KeptRule k) ≡ None
no_block_kept [] k = refl
no_block_kept (m ∷ media) k = refl

behind_kept : (media : List Media) (k : KeptRuleParts) → blocks_behind media (KeptRule k) ≡ media
behind_kept [] k = refl
behind_kept (m ∷ media) k = refl

pub walked_is : (media : List Media) (items : List Item) → kept_blocks media items ≡ walked media (kept_items items)
walked_is media [] = refl
walked_is media (Rule r ∷ items) = walked_is media items
walked_is media (KeptRule k ∷ items) =
    ap₂ (λ (o : Option Media) (os : List (Option Media)). o ∷ os) (sym (no_block_kept media k)) (walked_is media items ∙ ap (λ (ms : List Media). walked ms (kept_items items)) (sym (behind_kept media k)))
walked_is [] (KeptBlock piece ∷ items) = ap (λ (os : List (Option Media)). None ∷ os) (walked_is [] items)
walked_is (m ∷ media) (KeptBlock piece ∷ items) =
    ap (λ (os : List (Option Media)). block_of (m ∷ media) (KeptBlock piece) ∷ os) (walked_is (blocks_behind (m ∷ media) (KeptBlock piece)) items)

-- that of a number, if it is one
abbrev pub opened_at : List (Option Media) → ℕ → Option Media
opened_at [] j = None
opened_at (o ∷ os) zero = o
opened_at (o ∷ os) (suc j) = opened_at os j

-- the first of some opened blocks is an item, or it is none of them
record IsFirstBlock (media : List Media) (x : Item) : Type 0 where
  first : Media
  others : List Media
  media_is : media ≡ first ∷ others
  block : block_of media x ≡ Some first
  behind : blocks_behind media x ≡ others
  is_block : IsBlock x

abbrev IsNoBlock : List Media → Item → Type 0
IsNoBlock media x = (block_of media x ≡ None) × (blocks_behind media x ≡ media)

begins_block : (n : ℕ) (x : Item) → begins_at n x ≡ true → IsBlock x
begins_block n (Rule r) e = absurd (false≢true e)
begins_block n (KeptRule k) e = absurd (false≢true e)
begins_block n (KeptBlock piece) e = tt

first_block : (media : List Media) (x : Item) → IsNoBlock media x ⊎ IsFirstBlock media x
first_block [] x = inl (refl, refl)
first_block (m ∷ media) x = which (begins_at m.head.start x) refl
  where
    which : (b : Bool) → begins_at m.head.start x ≡ b → IsNoBlock (m ∷ media) x ⊎ IsFirstBlock (m ∷ media) x
    which true e = inr (record {
      first = m;
      others = media;
      media_is = refl;
      block = ap (λ (b : Bool). if b then Some m else None) e;
      behind = ap (λ (b : Bool). drop (if b then 1 else 0) (m ∷ media)) e;
      is_block = begins_block m.head.start x e;
    })
    which false e = inl (ap (λ (b : Bool). if b then Some m else None) e, ap (λ (b : Bool). drop (if b then 1 else 0) (m ∷ media)) e)

module _ (Apart : SelectorParts → SelectorParts → Type 0) (source other : List ℕ) where
  -- in two bodies nothing is found
  pub record BodiesAgree (m m' : Media) : Type 0 where
    pub kept : SayTheSame (text_at source m.body) [] (kept_items m.sheet.items) (text_at other m'.body) [] (kept_items m'.sheet.items)
    pub facts : LevelFacts Apart m.sheet.items m'.sheet.items

  abbrev pub AllAgree : List Media → List Media → Type 0
  AllAgree [] media' = Unit {0}
  AllAgree (m ∷ media) [] = Unit {0}
  AllAgree (m ∷ media) (m' ∷ media') = BodiesAgree m m' × AllAgree media media'

  -- two opened blocks with one head, or two other kept items that say the same
  abbrev pub OneMatches : Item → Option Media → Item → Option Media → Type 0
  OneMatches x None y None = same_kept source x other y ≡ true
  OneMatches x None y (Some m') = ⊥
  OneMatches x (Some m) y None = ⊥
  OneMatches x (Some m) y (Some m') = IsBlock x × (kept_text source m.head ≡ kept_text other m'.head) × BodiesAgree m m'

  abbrev pub Match : List Media → List Item → List Media → List Item → Type 0
  Match media [] media' [] = Unit {0}
  Match media [] media' (y ∷ ys) = ⊥
  Match media (x ∷ xs) media' [] = ⊥
  Match media (x ∷ xs) media' (y ∷ ys) = OneMatches x (block_of media x) y (block_of media' y) × Match (blocks_behind media x) xs (blocks_behind media' y) ys

  pub matched : (media : List Media) (xs : List Item) (media' : List Media) (ys : List Item) → AllAgree media media' → ArePlacesAlike source media xs other media' ys → Match media xs media' ys
  matched media [] media' [] agree h = tt
  matched media [] media' (y ∷ ys) agree h = absurd h
  matched media (x ∷ xs) media' [] agree h = absurd h
  matched media (x ∷ xs) media' (y ∷ ys) agree h = which (first_block media x) (first_block media' y) (λ g. matched (blocks_behind media x) xs (blocks_behind media' y) ys g h.2)
    where
      which : IsNoBlock media x ⊎ IsFirstBlock media x → IsNoBlock media' y ⊎ IsFirstBlock media' y →
          (AllAgree (blocks_behind media x) (blocks_behind media' y) → Match (blocks_behind media x) xs (blocks_behind media' y) ys) → Match media (x ∷ xs) media' (y ∷ ys)
      which (inl a) (inl b) rest = (
        subst (λ (o : Option Media). OneMatches x o y (block_of media' y)) (sym a.0)
            (subst (λ (o : Option Media). OneMatches x None y o) (sym b.0) (subst (λ (o : Option Media). same_item source o x other (block_of media' y) y ≡ true) a.0 h.0)),
        rest (subst (λ (ms : List Media). AllAgree ms (blocks_behind media' y)) (sym a.1) (subst (λ (ms : List Media). AllAgree media ms) (sym b.1) agree)),
      )
      which (inl a) (inr b) rest = absurd (false≢true (ap (λ (o : Option Media). is_some o) (sym a.0) ∙ h.1 ∙ ap (λ (o : Option Media). is_some o) b.block))
      which (inr a) (inl b) rest = absurd (true≢false (ap (λ (o : Option Media). is_some o) (sym a.block) ∙ h.1 ∙ ap (λ (o : Option Media). is_some o) b.0))
      which (inr a) (inr b) rest =
          let both : AllAgree (a.first ∷ a.others) (b.first ∷ b.others) = subst (λ (ms : List Media). AllAgree ms (b.first ∷ b.others)) a.media_is (subst (λ (ms : List Media). AllAgree media ms) b.media_is agree) in
          let same : same_item source (Some a.first) x other (Some b.first) y ≡ true =
          subst (λ (o : Option Media). same_item source o x other (Some b.first) y ≡ true) a.block (subst (λ (o : Option Media). same_item source (block_of media x) x other o y ≡ true) b.block h.0) in (
            subst (λ (o : Option Media). OneMatches x o y (block_of media' y)) (sym a.block)
                (subst (λ (o : Option Media). OneMatches x (Some a.first) y o) (sym b.block) (a.is_block, text_is source a.first.head other b.first.head same, both.0)),
            rest (subst (λ (ms : List Media). AllAgree ms (blocks_behind media' y)) (sym a.behind) (subst (λ (ms : List Media). AllAgree a.others ms) (sym b.behind) both.1)),
          )

  -- ---- The opened block of a number

  pub record MatchAt (media : List Media) (xs : List Item) (media' : List Media) (ys : List Item) (j : ℕ) : Type 0 where
    pub x : Item
    pub y : Item
    pub mine : Media
    pub yours : Media
    pub mine_at : slice_get xs j ≡ Some x
    pub yours_at : slice_get ys j ≡ Some y
    pub mine_is : opened_at (walked media xs) j ≡ Some mine
    pub yours_is : opened_at (walked media' ys) j ≡ Some yours
    pub is_block : IsBlock x
    pub heads : kept_text source mine.head ≡ kept_text other yours.head
    pub agree : BodiesAgree mine yours

  first_match : (media : List Media) (x : Item) (xs : List Item) (media' : List Media) (y : Item) (ys : List Item) → OneMatches x (block_of media x) y (block_of media' y) →
      (o o' : Option Media) → block_of media x ≡ o → block_of media' y ≡ o' → (is_some o ≡ true) ⊎ (is_some o' ≡ true) → MatchAt media (x ∷ xs) media' (y ∷ ys) 0
  first_match media x xs media' y ys one None None e e' (inl some) = absurd (false≢true some)
  first_match media x xs media' y ys one None None e e' (inr some) = absurd (false≢true some)
  first_match media x xs media' y ys one None (Some m') e e' some = absurd (subst (λ (o : Option Media). OneMatches x o y (Some m')) e (subst (λ (o : Option Media). OneMatches x (block_of media x) y o) e' one))
  first_match media x xs media' y ys one (Some m) None e e' some = absurd (subst (λ (o : Option Media). OneMatches x o y None) e (subst (λ (o : Option Media). OneMatches x (block_of media x) y o) e' one))
  first_match media x xs media' y ys one (Some m) (Some m') e e' some =
      let w : OneMatches x (Some m) y (Some m') = subst (λ (o : Option Media). OneMatches x o y (Some m')) e (subst (λ (o : Option Media). OneMatches x (block_of media x) y o) e' one) in
      record {
        x = x;
        y = y;
        mine = m;
        yours = m';
        mine_at = refl;
        yours_at = refl;
        mine_is = e;
        yours_is = e';
        is_block = w.0;
        heads = w.1;
        agree = w.2;
      }

  pub match_at : (media : List Media) (xs : List Item) (media' : List Media) (ys : List Item) → Match media xs media' ys → (j : ℕ) →
      (is_some (opened_at (walked media xs) j) ≡ true) ⊎ (is_some (opened_at (walked media' ys) j) ≡ true) → MatchAt media xs media' ys j
  match_at media [] media' [] h j (inl e) = absurd (false≢true e)
  match_at media [] media' [] h j (inr e) = absurd (false≢true e)
  match_at media [] media' (y ∷ ys) h j e = absurd h
  match_at media (x ∷ xs) media' [] h j e = absurd h
  match_at media (x ∷ xs) media' (y ∷ ys) h zero e = first_match media x xs media' y ys h.0 (block_of media x) (block_of media' y) refl refl e
  match_at media (x ∷ xs) media' (y ∷ ys) h (suc j) e =
      let m : MatchAt (blocks_behind media x) xs (blocks_behind media' y) ys j = match_at (blocks_behind media x) xs (blocks_behind media' y) ys h.1 j e in
      record {
        x = m.x;
        y = m.y;
        mine = m.mine;
        yours = m.yours;
        mine_at = m.mine_at;
        yours_at = m.yours_at;
        mine_is = m.mine_is;
        yours_is = m.yours_is;
        is_block = m.is_block;
        heads = m.heads;
        agree = m.agree;
      }

-- an opened block has its body
pub block_is : (source : List ℕ) (os : List (Option Media)) (j : ℕ) → block_in (blocks source os) j ≡ option_map (body_spots source) (opened_at os j)
block_is source [] j = refl
block_is source (o ∷ os) zero = refl
block_is source (o ∷ os) (suc j) = block_is source os j

-- ---- Their kept items have the same places

label_same : (head : Option (List ℕ)) (source : List ℕ) (x : Item) (other : List ℕ) (y : Item) → same_kept source x other y ≡ true → kept_label head source x ≡ kept_label head other y
label_same head source (Rule r) other y h = absurd (false≢true h)
label_same head source (KeptRule k) other (Rule r) h = absurd (false≢true h)
label_same head source (KeptRule k) other (KeptRule k') h =
    ap (λ (text : List ℕ). record { head = head; rule = true; changed = false; selector = None; name = []; important = false; text = normal_kept text; number = 0 }) (kept_rule_text source k other k' h)
label_same head source (KeptRule k) other (KeptBlock piece') h = absurd (false≢true h)
label_same head source (KeptBlock piece) other (Rule r) h = absurd (false≢true h)
label_same head source (KeptBlock piece) other (KeptRule k') h = absurd (false≢true h)
label_same head source (KeptBlock piece) other (KeptBlock piece') h =
    ap (λ (text : List ℕ). record { head = head; rule = false; changed = false; selector = None; name = []; important = false; text = normal_kept text; number = 0 }) (text_is source piece other piece' h)

plain_marks : (head : Option (List ℕ)) (k : ℕ) (source : List ℕ) (xs : List Item) (other : List ℕ) (ys : List Item) → SayTheSame source [] xs other [] ys → kept_marks head source k xs [] ≡ kept_marks head other k ys []
plain_marks head k source [] other [] h = refl
plain_marks head k source [] other (y ∷ ys) h = absurd h
plain_marks head k source (x ∷ xs) other [] h = absurd h
plain_marks head k source (x ∷ xs) other (y ∷ ys) h =
    ap₂ (λ (l : Label) (ms : List Mark). record { spot = suc (k + k) ∷ []; label = l } ∷ ms) (label_same head source x other y h.0) (plain_marks head (suc k) source xs other ys h.1)

body_marks : (Apart : SelectorParts → SelectorParts → Type 0) (source other : List ℕ) (m m' : Media) → kept_text source m.head ≡ kept_text other m'.head → BodiesAgree Apart source other m m' → marks (body_spots source m) ≡ marks (body_spots other m')
body_marks Apart source other m m' heads agree =
    marks_are (body_layer source m) 0 0 m.sheet.items []
    ∙ plain_marks (Some (normal_head (kept_text source m.head))) 0 (text_at source m.body) (kept_items m.sheet.items) (text_at other m'.body) (kept_items m'.sheet.items) agree.kept
    ∙ ap (λ (h : List ℕ). kept_marks (Some (normal_head h)) (text_at other m'.body) 0 (kept_items m'.sheet.items) []) heads
    ∙ sym (marks_are (body_layer other m') 0 0 m'.sheet.items [])

entry_same : (Apart : SelectorParts → SelectorParts → Type 0) (source other : List ℕ) (k : ℕ) (x y : Item) (o o' : Option Media) → OneMatches Apart source other x o y o' →
    entry_marks None source k x (option_map marks (option_map (body_spots source) o)) ≡ entry_marks None other k y (option_map marks (option_map (body_spots other) o'))
entry_same Apart source other k x y None None h = ap (λ (l : Label). record { spot = suc (k + k) ∷ []; label = l } ∷ []) (label_same None source x other y h)
entry_same Apart source other k x y None (Some m') h = absurd h
entry_same Apart source other k x y (Some m) None h = absurd h
entry_same Apart source other k x y (Some m) (Some m') h = ap (λ (ms : List Mark). map (mark_below (suc (k + k))) ms) (body_marks Apart source other m m' h.1 h.2)

pub all_marks : (Apart : SelectorParts → SelectorParts → Type 0) (source other : List ℕ) (k : ℕ) (media : List Media) (xs : List Item) (media' : List Media) (ys : List Item) → Match Apart source other media xs media' ys →
    kept_marks None source k xs (blocks source (walked media xs)) ≡ kept_marks None other k ys (blocks other (walked media' ys))
all_marks Apart source other k media [] media' [] h = refl
all_marks Apart source other k media [] media' (y ∷ ys) h = absurd h
all_marks Apart source other k media (x ∷ xs) media' [] h = absurd h
all_marks Apart source other k media (x ∷ xs) media' (y ∷ ys) h =
    ap₂ (λ (ms ns : List Mark). ms ++ ns) (entry_same Apart source other k x y (block_of media x) (block_of media' y) h.0)
    (all_marks Apart source other (suc k) (blocks_behind media x) xs (blocks_behind media' y) ys h.1)
