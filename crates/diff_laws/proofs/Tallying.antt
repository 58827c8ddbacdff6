-- The opened blocks among the kept items of a sheet are those of its layers.
use Rattle.std.proofs.Common.{◌≡◌, ◌⊎◌, inl, inr, ℕ, suc, ◌+◌, ◌≤◌, ◌<◌, Bool, true, false, cond, List, [], ◌∷◌, map, drop, Option, Some, None, option_map, refl, sym, ap, ◌∙◌, subst, arith}
use Rattle.std.specs.Prelude.{◌==◌}
use Rattle.std.specs.Cmp.{unsigned_Decides}
use Rattle.std.specs.List.{AllByRecursion, cons_option, list_any}
use Rattle.std.proofs.lemmas.Bool.{cond-false, cond-true, false_from_ne_true}
use Rattle.css_model.specs.declared.sheet.Item.{Item}
use Rattle.css_model.specs.declared.sheet.Item.TheVariants.{Rule, KeptRule, KeptBlock}
use Rattle.css_model.specs.declared.sheet.Piece.{Piece}
use Rattle.css_model.specs.declared.token.Lexeme.{Lexeme}
use Rattle.css_model.specs.Sheets.Sound.{IsSoundItem}
use Rattle.css_model.specs.Sheets.Spelling.{tokens_in}
use Rattle.css_model.specs.Text.Source.{text_at}
use Rattle.media_groups.specs.declared.media.Media.{Media}
use Rattle.media_groups.specs.Opened.{body_of, is_import_item, is_media, media_of, opened_from, opened_item, opened_rule, sheet_of_body}
use Rattle.media_groups.specs.Printed.{blocks_at}
use Rattle.opened_laws.proofs.ForCallers.{BlocksAscend, IsOpenedStep, IsPlainStep, NoneBegins, begins_here, opened_count, plain_count, sheet_ascends, step_at}
use Rattle.opened_laws.specs.Media.Scenes.{block_at, kept_blocks}
use Rattle.print_laws.proofs.ForCallers.{Ground, ground-of}
use Rattle.sheet_laws.proofs.ForCallers.{sheet-sound}
use Rattle.sheet_members.specs.Layers.{Layer, body_at, body_layer, body_layers}
use Rattle.diff_laws.proofs.Scene.{Tally}
use Rattle.diff_laws.proofs.Winning.{AllTally}

module _ (source : List ℕ) where
  -- the body of the item of this number among opened blocks
  abbrev found : List Media → ℕ → Option Layer
  found media k = body_at (map (body_layer source) media) k

  -- ---- Numbers of opened blocks

  abbrev item_or : ℕ → Option Media → ℕ
  item_or n None = n
  item_or n (Some m) = m.item

  rule_number : (n : ℕ) (tokens : List Lexeme) (m : Media) → opened_rule source n tokens ≡ Some m → m.item ≡ n
  rule_number n tokens m is = which (is_media source tokens) (sheet_of_body (text_at source (body_of tokens))) is
    where
      which : (b : Bool) (o : Option (List Item)) → cond b (option_map (media_of n tokens) o) None ≡ Some m → m.item ≡ n
      which true None is = absurd (let none : ⊥ = cc in none)
      which true (Some items) is = sym (ap (item_or n) is)
      which false o is = absurd (let none : ⊥ = cc in none)

  item_number : (n : ℕ) (item : Item) (m : Media) → opened_item source n item ≡ Some m → m.item ≡ n
  item_number n (Rule r) m is = absurd (let none : ⊥ = cc in none)
  item_number n (KeptRule k) m is = absurd (let none : ⊥ = cc in none)
  item_number n (KeptBlock piece) m is = rule_number n (tokens_in source piece) m is

  abbrev From : ℕ → List Media → Type 0
  From n media = AllByRecursion (λ (m : Media). n ≤ m.item) media

  later : (n : ℕ) (media : List Media) → From (suc n) media → From n media
  later n [] all = tt
  later n (m ∷ media) all = (let h = all.0 in omega (arith, h), later n media all.1)

  numbers_from : (n : ℕ) (items : List Item) → From n (opened_from source n items)
  numbers_from n [] = tt
  numbers_from n (item ∷ items) = which (list_any (is_import_item source) items) (opened_item source n item) refl (later n (opened_from source (suc n) items) (numbers_from (suc n) items))
    where
      which : (b : Bool) (o : Option Media) → opened_item source n item ≡ o → From n (opened_from source (suc n) items) → From n (cons_option (cond b None o) (opened_from source (suc n) items))
      which true o is rest = rest
      which false None is rest = rest
      which false (Some m) is rest = (let h = item_number n item m is in omega (arith, h), rest)

  not_number : (k i : ℕ) → suc k ≤ i → (i == k) ≡ false
  not_number k i h = false_from_ne_true (i == k) (λ same. let e : i ≡ k = (unsigned_Decides i k).0 same in absurd (omega (arith, e, h)))

  -- those of later items have no body for an earlier number
  none_found : (k : ℕ) (media : List Media) → From (suc k) media → found media k ≡ None
  none_found k [] all = refl
  none_found k (m ∷ media) all = ap (λ (b : Bool). cond b (Some (body_layer source m)) (found media k)) (not_number k m.item all.0) ∙ none_found k media all.1

  first_found : (k : ℕ) (m : Media) (media : List Media) → m.item ≡ k → found (m ∷ media) k ≡ Some (body_layer source m)
  first_found k m media is = ap (λ (b : Bool). cond b (Some (body_layer source m)) (found media k)) ((unsigned_Decides m.item k).1 is)

  past_first : (k : ℕ) (m : Media) (media : List Media) → suc m.item ≤ k → found (m ∷ media) k ≡ found media k
  past_first k m media h =
      ap (λ (b : Bool). cond b (Some (body_layer source m)) (found media k))
      (false_from_ne_true (m.item == k) (λ same. let e : m.item ≡ k = (unsigned_Decides m.item k).0 same in absurd (omega (arith, e, h))))

  -- ---- Item by item

  plain_block : (media : List Media) (piece : Piece) → NoneBegins media (KeptBlock piece) → block_at media piece ≡ None
  plain_block [] piece none = refl
  plain_block (m ∷ media) piece none = cond-false (piece.start == m.head.start) (Some m) None none

  past_item : (n : ℕ) (item : Item) (items : List Item) → opened_item source n item ≡ None → opened_from source n (item ∷ items) ≡ opened_from source (suc n) items
  past_item n item items none = which (list_any (is_import_item source) items) (opened_item source n item) none
    where
      which : (b : Bool) (o : Option Media) → o ≡ None → cons_option (cond b None o) (opened_from source (suc n) items) ≡ opened_from source (suc n) items
      which true o is = refl
      which false o is = ap (λ (p : Option Media). cons_option p (opened_from source (suc n) items)) is

  module _ (g : Ground source) (bodies : List Layer) where
    abbrev Looks : ℕ → List Media → Type 0
    Looks n media = (k : ℕ) → n ≤ k → body_at bodies k ≡ found media k

    looks_on : (n : ℕ) (media media' : List Media) → media ≡ media' → Looks n media → Looks (suc n) media'
    looks_on n media media' is look k h = look k (omega (arith, h)) ∙ ap (λ (ms : List Media). found ms k) is

    -- the number of the next item, written in both ways
    with_next : (n : ℕ) (items : List Item) (os : List (Option Media)) → Tally source bodies (suc n) items os → Tally source bodies (n + 1) items os
    with_next n items os h = subst (λ (k : ℕ). Tally source bodies k items os) (let e : suc n ≡ n + 1 = omega arith in e) h

    abbrev Whole : ℕ → Piece → List Item → List Media → Type 0
    Whole n piece items media = Tally source bodies n (KeptBlock piece ∷ items) (block_at media piece ∷ kept_blocks (drop (blocks_at media (KeptBlock piece)) media) items)

    tally_from : (n at : ℕ) (items : List Item) → AllByRecursion (IsSoundItem source) items → BlocksAscend at items → Looks n (opened_from source n items) → Tally source bodies n items (kept_blocks (opened_from source n items) items)
    tally_from n at [] sound up look = tt
    tally_from n at (Rule r ∷ items) sound up look =
        let e : opened_from source n (Rule r ∷ items) ≡ opened_from source (suc n) items = past_item n (Rule r) items refl in
        subst (λ (media : List Media). Tally source bodies (n + 1) items (kept_blocks media items)) (sym e)
        (with_next n items (kept_blocks (opened_from source (suc n) items) items)
        (tally_from (suc n) at items sound.1 up (looks_on n (opened_from source n (Rule r ∷ items)) (opened_from source (suc n) items) e look)))
    tally_from n at (KeptRule q ∷ items) sound up look =
        let e : opened_from source n (KeptRule q ∷ items) ≡ opened_from source (suc n) items = past_item n (KeptRule q) items refl in (
          refl,
          subst (λ (media : List Media). Tally source bodies (n + 1) items (kept_blocks media items)) (sym e)
              (with_next n items (kept_blocks (opened_from source (suc n) items) items)
              (tally_from (suc n) at items sound.1 up (looks_on n (opened_from source n (KeptRule q ∷ items)) (opened_from source (suc n) items) e look))),
        )
    tally_from n at (KeptBlock piece ∷ items) sound up look =
        which (step_at source g n at (KeptBlock piece) items sound up) (λ h. tally_from (suc n) (suc piece.start) items sound.1 up.1 h)
      where
        plain : IsPlainStep source n (KeptBlock piece) items → (Looks (suc n) (opened_from source (suc n) items) → Tally source bodies (suc n) items (kept_blocks (opened_from source (suc n) items) items)) → Whole n piece items (opened_from source n (KeptBlock piece ∷ items))
        plain s rest =
            let media : List Media = opened_from source (suc n) items in
            subst (Whole n piece items) (sym s.media)
            (subst (λ (o : Option Media). Tally source bodies n (KeptBlock piece ∷ items) (o ∷ kept_blocks (drop (blocks_at media (KeptBlock piece)) media) items)) (sym (plain_block media piece s.none))
            (subst (λ (k : ℕ). Tally source bodies n (KeptBlock piece ∷ items) (None ∷ kept_blocks (drop k media) items)) (sym (plain_count media (KeptBlock piece) s.none)) (
              look n (omega arith) ∙ ap (λ (ms : List Media). found ms n) s.media ∙ none_found n media (numbers_from (suc n) items),
              with_next n items (kept_blocks media items) (rest (looks_on n (opened_from source n (KeptBlock piece ∷ items)) media s.media look)),
            )))

        opened : (m : Media) → opened_from source n (KeptBlock piece ∷ items) ≡ m ∷ opened_from source (suc n) items → opened_rule source n (tokens_in source piece) ≡ Some m → m.head.start ≡ piece.start →
            (Looks (suc n) (opened_from source (suc n) items) → Tally source bodies (suc n) items (kept_blocks (opened_from source (suc n) items) items)) → Whole n piece items (opened_from source n (KeptBlock piece ∷ items))
        opened m is rule start rest =
            let media : List Media = opened_from source (suc n) items in
            let number : m.item ≡ n = rule_number n (tokens_in source piece) m rule in
            subst (Whole n piece items) (sym is)
            (subst (λ (o : Option Media). Tally source bodies n (KeptBlock piece ∷ items) (o ∷ kept_blocks (drop (blocks_at (m ∷ media) (KeptBlock piece)) (m ∷ media)) items))
            (sym (cond-true (piece.start == m.head.start) (Some m) None (begins_here m piece start)))
            (subst (λ (k : ℕ). Tally source bodies n (KeptBlock piece ∷ items) (Some m ∷ kept_blocks (drop k (m ∷ media)) items)) (sym (opened_count m media piece start)) (
              look n (omega arith) ∙ ap (λ (ms : List Media). found ms n) is ∙ first_found n m media number,
              with_next n items (kept_blocks media items)
                  (rest (λ k h. look k (omega (arith, h)) ∙ ap (λ (ms : List Media). found ms k) is ∙ past_first k m media (omega (arith, h, number)))),
            )))

        which : IsPlainStep source n (KeptBlock piece) items ⊎ IsOpenedStep source n (KeptBlock piece) items →
            (Looks (suc n) (opened_from source (suc n) items) → Tally source bodies (suc n) items (kept_blocks (opened_from source (suc n) items) items)) → Whole n piece items (opened_from source n (KeptBlock piece ∷ items))
        which (inl s) rest = plain s rest
        which (inr s) rest =
            let is : KeptBlock piece ≡ KeptBlock s.piece = s.is_block in
            let same : piece ≡ s.piece = cc in
            opened s.block s.media (ap (λ (p : Piece). opened_rule source n (tokens_in source p)) same ∙ s.opened) (s.start ∙ ap (λ (p : Piece). p.start) (sym same)) rest

pub all_tally : AllTally
all_tally source s reads =
    let g = ground-of source s reads in
    tally_from source g (body_layers source s) 0 0 s (sheet-sound source s reads) (sheet_ascends source s g reads) (λ k h. refl)
