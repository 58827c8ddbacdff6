-- The parts of a sheet that is read are sound, and its selectors are in the profile and within its limits.
use Rattle.std.proofs.Common.{◌≡◌, ℕ, ◌+◌, Bool, true, false, cond, List, [], ◌∷◌, ◌++◌, map, Option, Some, None, Ok, Result, Err, refl, ap, sym, subst, ◌∙◌}
use Rattle.std.specs.Prelude.{◌||◌}
use Rattle.std.specs.List.{AllByRecursion, cons_option, enumerate_from, filter, filter_map, find, flat_map}
use Rattle.std.specs.Option.{option_map}
use Rattle.css_model.specs.declared.reason.Reason.{Reason}
use Rattle.css_model.specs.declared.sheet.DeclItem.{DeclItem}
use Rattle.css_model.specs.declared.sheet.Item.{Item}
use Rattle.css_model.specs.declared.sheet.Item.TheVariants.{Rule, KeptRule, KeptBlock}
use Rattle.css_model.specs.declared.sheet.Piece.{Piece}
use Rattle.css_model.specs.declared.sheet.SelItem.{SelItem}
use Rattle.css_model.specs.Documents.SelectorParts.{SelectorParts}
use Rattle.css_model.specs.Selectors.Profile.{IsInProfile}
use Rattle.css_model.specs.Selectors.Reading.{selector_of_lexemes}
use Rattle.css_model.specs.Sheets.Selectors.{with_piece}
use Rattle.css_model.specs.Sheets.Sheet.{sheet_of}
use Rattle.css_model.specs.Sheets.Sound.{IsSound, IsSoundDeclaration, IsSoundSelector}
use Rattle.css_model.specs.Text.Lexemes.{piece_of}
use Rattle.media_groups.specs.declared.media.Media.{Media}
use Rattle.media_groups.specs.Laws.{IsBlockOf, OpenedBlocksAreSheets}
use Rattle.media_groups.specs.Opened.{opened_of}
use Rattle.print_laws.specs.Profile.{HasSelectorsInProfile, SelectorsAreInProfile}
use Rattle.selector_laws.specs.Limits.{KeepsLimits, ReadSelectorsKeepTheLimits}
use Rattle.sheet_laws.specs.Reading.{ReadIsSound}
use Rattle.sheet_members.specs.Compared.{Common, all_marked, common_of, has_member, marked, twin_in}
use Rattle.sheet_members.specs.Labels.{Label, key_of, same_label}
use Rattle.sheet_members.specs.Layers.{Layer, body_at, body_layer, body_layers, is_number, outer_layer}
use Rattle.sheet_members.specs.Members.{Member, is_listed, lasts, member_of, members_of, numbered}
use Rattle.sheet_members.specs.Occurrences.{Occurrence, by_item, by_opened, by_outer_item, occurrences, pair_of, with_repeats}
use Rattle.sheet_members.specs.Ready.{AreReady, IsReady, IsReadyCommon, IsReadyItem, IsReadySelector}

abbrev selector_or : SelectorParts → Result SelItem Reason → SelectorParts
selector_or other (Ok s) = s.selector
selector_or other (Err reason) = other

limited : ReadSelectorsKeepTheLimits → (source : List ℕ) (s : SelItem) → IsSoundSelector source s → KeepsLimits s.selector
limited law source s sound = which (selector_of_lexemes source sound.part) refl
  where
    which : (r : Result SelectorParts Reason) → selector_of_lexemes source sound.part ≡ r → KeepsLimits s.selector
    which (Ok selector) e =
        let is : with_piece (piece_of sound.part) (Ok selector) ≡ Ok s = ap (with_piece (piece_of sound.part)) (sym e) ∙ sound.reads in
        subst KeepsLimits (ap (selector_or s.selector) is) (law source sound.part selector e)
    which (Err reason) e =
        let is : with_piece (piece_of sound.part) (Err reason) ≡ Ok s = ap (with_piece (piece_of sound.part)) (sym e) ∙ sound.reads in
        absurd (let f = is in cc)

ready_selectors : ReadSelectorsKeepTheLimits → (source : List ℕ) (selectors : List SelItem) → AllByRecursion (IsSoundSelector source) selectors →
    AllByRecursion (λ s. IsInProfile s.selector) selectors → AllByRecursion (IsReadySelector source) selectors
ready_selectors law source [] sound profile = tt
ready_selectors law source (s ∷ selectors) sound profile =
    (record { sound = sound.0; profile = profile.0; limits = limited law source s sound.0 }, ready_selectors law source selectors sound.1 profile.1)

ready_items : ReadSelectorsKeepTheLimits → (source : List ℕ) (items : List Item) → IsSound source items → AllByRecursion HasSelectorsInProfile items → AllByRecursion (IsReadyItem source) items
ready_items law source [] sound profile = tt
ready_items law source (Rule r ∷ items) sound profile = ((ready_selectors law source r.selectors sound.0.selectors profile.0, sound.0.decls), ready_items law source items sound.1 profile.1)
ready_items law source (KeptRule kept ∷ items) sound profile = (sound.0, ready_items law source items sound.1 profile.1)
ready_items law source (KeptBlock piece ∷ items) sound profile = (sound.0, ready_items law source items sound.1 profile.1)

-- ---- What occurs

all_append : {X : Type 0} (P : X → Type 0) (xs ys : List X) → AllByRecursion P xs → AllByRecursion P ys → AllByRecursion P (xs ++ ys)
all_append P [] ys h g = g
all_append P (x ∷ xs) ys h g = (h.0, all_append P xs ys h.1 g)

with_repeats_ready : (source : List ℕ) (before selectors : List SelItem) → AllByRecursion (IsReadySelector source) selectors → AllByRecursion (λ s. IsReadySelector source s.0) (with_repeats before selectors)
with_repeats_ready source before [] h = tt
with_repeats_ready source before (s ∷ selectors) h = (h.0, with_repeats_ready source (before ++ s ∷ []) selectors h.1)

of_decl : (l : Layer) (n : ℕ) (d : DeclItem) (ss : List (SelItem × Bool)) → IsSoundDeclaration l.source d → AllByRecursion (λ s. IsReadySelector l.source s.0) ss → AllByRecursion IsReady (map (pair_of l n d) ss)
of_decl l n d [] sound h = tt
of_decl l n d (s ∷ ss) sound h = ((h.0, sound), of_decl l n d ss sound h.1)

of_decls : (l : Layer) (n : ℕ) (ss : List (SelItem × Bool)) (ds : List DeclItem) → AllByRecursion (λ s. IsReadySelector l.source s.0) ss → AllByRecursion (IsSoundDeclaration l.source) ds →
    AllByRecursion IsReady (flat_map (λ d. map (pair_of l n d) ss) ds)
of_decls l n ss [] h sound = tt
of_decls l n ss (d ∷ ds) h sound = all_append IsReady (map (pair_of l n d) ss) (flat_map (λ x. map (pair_of l n x) ss) ds) (of_decl l n d ss sound.0 h) (of_decls l n ss ds h sound.1)

of_item : (l : Layer) (n : ℕ) (item : Item) → IsReadyItem l.source item → AllByRecursion IsReady (by_item l (n, item))
of_item l n (Rule r) h = of_decls l n (with_repeats [] r.selectors) r.decls (with_repeats_ready l.source [] r.selectors h.0) h.1
of_item l n (KeptRule k) h = (h, tt)
of_item l n (KeptBlock piece) h = (h, tt)

of_items : (l : Layer) (n : ℕ) (items : List Item) → AllByRecursion (IsReadyItem l.source) items → AllByRecursion IsReady (flat_map (by_item l) (enumerate_from n items))
of_items l n [] h = tt
of_items l n (item ∷ items) h = all_append IsReady (by_item l (n, item)) (flat_map (by_item l) (enumerate_from (n + 1) items)) (of_item l n item h.0) (of_items l (n + 1) items h.1)

module _ (limits : ReadSelectorsKeepTheLimits) (sound : ReadIsSound) (profile : SelectorsAreInProfile) where
  items_ready : (source : List ℕ) (items : List Item) → sheet_of source ≡ Ok items → AllByRecursion (IsReadyItem source) items
  items_ready source items read = ready_items limits source items (sound source items read) (profile source items items read (sound source items read))

  abbrev IsReadLayer : Layer → Type 0
  IsReadLayer l = sheet_of l.source ≡ Ok l.items

  bodies_read : (source : List ℕ) (media : List Media) → AllByRecursion (IsBlockOf source) media → AllByRecursion IsReadLayer (map (body_layer source) media)
  bodies_read source [] h = tt
  bodies_read source (m ∷ media) h = (h.0.reads, bodies_read source media h.1)

  of_opened : (l : Layer) (n : ℕ) (piece : Piece) (bodies : List Layer) → IsReadyItem l.source (KeptBlock piece) → AllByRecursion IsReadLayer bodies →
      AllByRecursion IsReady (by_opened l (n, KeptBlock piece) (body_at bodies n))
  of_opened l n piece [] h read = (h, tt)
  of_opened l n piece (b ∷ bodies) h read = which (is_number n b.block) (of_opened l n piece bodies h read.1)
    where
      which : (x : Bool) → AllByRecursion IsReady (by_opened l (n, KeptBlock piece) (body_at bodies n)) → AllByRecursion IsReady (by_opened l (n, KeptBlock piece) (cond x (Some b) (body_at bodies n)))
      which true rest = of_items b 0 b.items (items_ready b.source b.items read.0)
      which false rest = rest

  of_outer_items : (l : Layer) (bodies : List Layer) (n : ℕ) (items : List Item) → AllByRecursion (IsReadyItem l.source) items → AllByRecursion IsReadLayer bodies →
      AllByRecursion IsReady (flat_map (by_outer_item bodies l) (enumerate_from n items))
  of_outer_items l bodies n [] h read = tt
  of_outer_items l bodies n (Rule r ∷ items) h read =
      all_append IsReady (by_item l (n, Rule r)) (flat_map (by_outer_item bodies l) (enumerate_from (n + 1) items)) (of_item l n (Rule r) h.0) (of_outer_items l bodies (n + 1) items h.1 read)
  of_outer_items l bodies n (KeptRule k ∷ items) h read =
      all_append IsReady (by_item l (n, KeptRule k)) (flat_map (by_outer_item bodies l) (enumerate_from (n + 1) items)) (of_item l n (KeptRule k) h.0) (of_outer_items l bodies (n + 1) items h.1 read)
  of_outer_items l bodies n (KeptBlock piece ∷ items) h read =
      all_append IsReady (by_opened l (n, KeptBlock piece) (body_at bodies n)) (flat_map (by_outer_item bodies l) (enumerate_from (n + 1) items))
      (of_opened l n piece bodies h.0 read) (of_outer_items l bodies (n + 1) items h.1 read)

  pub all_ready : OpenedBlocksAreSheets → (source : List ℕ) (items : List Item) → sheet_of source ≡ Ok items → AllByRecursion IsReady (occurrences source items)
  all_ready blocks source items read =
      of_outer_items (outer_layer source items) (body_layers source items) 0 items (items_ready source items read) (bodies_read source (opened_of items source) (blocks source items))

-- ---- Members

lasts_ready : (os : List Occurrence) → AllByRecursion IsReady os → AllByRecursion IsReady (lasts os)
lasts_ready [] h = tt
lasts_ready (o ∷ os) h = which (o.repeated || is_listed (lasts os) o) (lasts_ready os h.1)
  where
    which : (b : Bool) → AllByRecursion IsReady (lasts os) → AllByRecursion IsReady (cond b (lasts os) (o ∷ lasts os))
    which true rest = rest
    which false rest = (h.0, rest)

numbered_ready : (before : List Label) (ms : List Member) → AreReady ms → AreReady (numbered before ms)
numbered_ready before [] h = tt
numbered_ready before (m ∷ ms) h = (h.0, numbered_ready (before ++ m.label ∷ []) ms h.1)

listed_ready : (os : List Occurrence) → AllByRecursion IsReady os → AreReady (map member_of os)
listed_ready [] h = tt
listed_ready (o ∷ os) h = (h.0, listed_ready os h.1)

pub members_ready : (os : List Occurrence) → AllByRecursion IsReady os → AreReady (members_of os)
members_ready os h = numbered_ready [] (map member_of (lasts os)) (listed_ready (lasts os) (lasts_ready os h))

each_marked_ready : (others ms : List Member) → AreReady ms → AreReady (map (marked others) ms)
each_marked_ready others [] h = tt
each_marked_ready others (m ∷ ms) h = (which (has_member others m.label), each_marked_ready others ms h.1)
  where
    which : (b : Bool) → IsReady (cond b m (record { occurrence = m.occurrence; label = key_of m.occurrence })).occurrence
    which true = h.0
    which false = h.0

pub marked_ready : (others ms : List Member) → AreReady ms → AreReady (all_marked others ms)
marked_ready others ms h = numbered_ready [] (map (marked others) ms) (each_marked_ready others ms h)

-- ---- What is compared

found_ready : (l : Label) (n : ℕ) (others : List Member) → AreReady others → (x : ℕ × Member) → find (λ y. same_label y.1.label l) (enumerate_from n others) ≡ Some x → IsReady x.1.occurrence
found_ready l n [] h x e = absurd (let none : ⊥ = cc in none)
found_ready l n (m ∷ others) h x e = which (same_label m.label l) refl (λ g. found_ready l (n + 1) others h.1 x g)
  where
    which : (b : Bool) → same_label m.label l ≡ b → (find (λ (y : ℕ × Member). same_label y.1.label l) (enumerate_from (n + 1) others) ≡ Some x → IsReady x.1.occurrence) → IsReady x.1.occurrence
    which true t rest =
        let found : Some (n, m) ≡ Some x = ap (λ (b : Bool). cond b (Some (n, m)) (find (λ (y : ℕ × Member). same_label y.1.label l) (enumerate_from (n + 1) others))) (sym t) ∙ e in
        let is : (n, m) ≡ x = cc in
        subst (λ (y : ℕ × Member). IsReady y.1.occurrence) is h.0
    which false t rest = rest (ap (λ (b : Bool). cond b (Some (n, m)) (find (λ (y : ℕ × Member). same_label y.1.label l) (enumerate_from (n + 1) others))) (sym t) ∙ e)

pub commons_ready : (ms others : List Member) → AreReady ms → AreReady others → AllByRecursion IsReadyCommon (filter_map (common_of others) ms)
commons_ready [] others h g = tt
commons_ready (m ∷ ms) others h g = which (twin_in others m.label) refl (commons_ready ms others h.1 g)
  where
    which : (o : Option (ℕ × Member)) → twin_in others m.label ≡ o → AllByRecursion IsReadyCommon (filter_map (common_of others) ms) →
        AllByRecursion IsReadyCommon (cons_option (option_map (λ (x : ℕ × Member). record { mine = m; yours = x.1; there = x.0 }) o) (filter_map (common_of others) ms))
    which None e rest = rest
    which (Some x) e rest = ((h.0, found_ready m.label 0 others g x e), rest)

pub lacking_ready : (p : Member → Bool) (ms : List Member) → AreReady ms → AreReady (filter p ms)
lacking_ready p [] h = tt
lacking_ready p (m ∷ ms) h = which (p m) (lacking_ready p ms h.1)
  where
    which : (b : Bool) → AreReady (filter p ms) → AreReady (cond b (m ∷ filter p ms) (filter p ms))
    which true rest = (h.0, rest)
    which false rest = rest
