-- What a whole sheet applies in a scene over normal values, as what occurs in it gives.
use Rattle.std.proofs.Common.{◌≡◌, ℕ, suc, ◌+◌, Bool, true, false, List, [], ◌∷◌, ◌++◌, map, Option, Some, None, option_map, append-nil, drop, not, refl, sym, ap, ap₂, ◌∙◌}
use Rattle.std.specs.Prelude.{if◌then◌else◌, IfSome}
use Rattle.std.specs.List.{All, Contains, enumerate_from, flat_map}
use Rattle.std.proofs.lemmas.Bool.{false≢true, true≢false}
use Rattle.std.proofs.lemmas.List.{map-append}
use Rattle.std.proofs.lemmas.List.Elements.{filter-append}
use Rattle.cascade_laws.specs.Meaning.Meanings.{meaning_of_sheet}
use Rattle.css_model.specs.declared.sheet.Item.{Item}
use Rattle.css_model.specs.declared.sheet.Item.TheVariants.{Rule, KeptRule, KeptBlock}
use Rattle.css_model.specs.Cascade.Winner.{AreMeanings, Declared, applied_by_decls, applied_by_kept, applied_from, matching_of}
use Rattle.css_model.specs.Documents.Document.{Document, Target}
use Rattle.css_model.specs.Documents.Matching.{matches}
use Rattle.css_model.specs.Documents.SelectorParts.{SelectorParts}
use Rattle.media_groups.specs.declared.media.Media.{Media}
use Rattle.media_groups.specs.Printed.{blocks_at}
use Rattle.opened_laws.specs.Media.Scenes.{IsSceneOf, KeptScene, kept_blocks, meaning_in, meanings_of}
use Rattle.sheet_members.specs.Layers.{Layer, body_at, body_layer, outer_layer}
use Rattle.sheet_members.specs.Occurrences.{Occurrence, by_body, by_opened, by_outer_item, kept_of}
use Rattle.diff_laws.specs.Scenes.{HoldTogether, applied_in, normal_declared}
use Rattle.diff_laws.proofs.Applied.{flat_all, kept_flat, kept_plain, layer_flat, normal_all, plain, plain_twice, rule_flat, unrepeated}
use Rattle.diff_laws.proofs.Best.{over}
use Rattle.diff_laws.proofs.Flat.{chosen, flat_of, standing, stands}

-- The opened blocks among kept items are those of the layers by number.
abbrev pub Tally : (source : List ℕ) (bodies : List Layer) → ℕ → List Item → List (Option Media) → Type 0
Tally source bodies n [] [] = Unit {0}
Tally source bodies n [] (o ∷ os) = ⊥
Tally source bodies n (Rule r ∷ items) os = Tally source bodies (n + 1) items os
Tally source bodies n (KeptRule k ∷ items) [] = ⊥
Tally source bodies n (KeptRule k ∷ items) (o ∷ os) = (o ≡ None) × Tally source bodies (n + 1) items os
Tally source bodies n (KeptBlock piece ∷ items) [] = ⊥
Tally source bodies n (KeptBlock piece ∷ items) (o ∷ os) = (body_at bodies n ≡ option_map (body_layer source) o) × Tally source bodies (n + 1) items os

-- A scene of these kept items: each kept rule applies its own, and so do those in bodies.
abbrev pub IsSceneFor : List Item → List (Option Media) → List KeptScene → Type 0
IsSceneFor [] [] [] = Unit {0}
IsSceneFor [] [] (x ∷ scene) = ⊥
IsSceneFor [] (o ∷ os) scene = ⊥
IsSceneFor (Rule r ∷ items) os scene = IsSceneFor items os scene
IsSceneFor (KeptRule k ∷ items) [] scene = ⊥
IsSceneFor (KeptRule k ∷ items) (o ∷ os) [] = ⊥
IsSceneFor (KeptRule k ∷ items) (o ∷ os) (x ∷ scene) = All (λ e. Contains k.decls e.decl) x.plain × IsSceneFor items os scene
IsSceneFor (KeptBlock piece ∷ items) [] scene = ⊥
IsSceneFor (KeptBlock piece ∷ items) (o ∷ os) [] = ⊥
IsSceneFor (KeptBlock piece ∷ items) (o ∷ os) (x ∷ scene) = IfSome o (λ m. AreMeanings m.sheet.items x.inside) × IsSceneFor items os scene

pub scene_for : (media : List Media) (items : List Item) (scene : List KeptScene) → IsSceneOf media items scene → IsSceneFor items (kept_blocks media items) scene
scene_for media [] [] is = tt
scene_for media [] (x ∷ scene) is = is
scene_for media (Rule r ∷ items) scene is = scene_for media items scene is
scene_for media (KeptRule k ∷ items) [] is = is
scene_for media (KeptRule k ∷ items) (x ∷ scene) is = (is.0, scene_for media items scene is.1)
scene_for media (KeptBlock piece ∷ items) [] is = is
scene_for media (KeptBlock piece ∷ items) (x ∷ scene) is = (is.0, scene_for (drop (blocks_at media (KeptBlock piece)) media) items scene is.1)

module _ (known : Declared → Bool) (doc : Document) (target : Target) (holds : List ℕ → Bool) (source : List ℕ) (bodies : List Layer) (all : List Item) where
  abbrev matched : SelectorParts → Bool
  matched = matches doc target

  abbrev outer : Layer
  outer = outer_layer source all

  abbrev best : List Declared → Option Declared
  best ds = chosen known ds

  abbrev flat : List Occurrence → List (List Declared) → List Declared
  flat os ps = flat_of matched holds os ps

  abbrev occurring : ℕ → List Item → List Occurrence
  occurring n items = flat_map (by_outer_item bodies outer) (enumerate_from n items)

  abbrev meanings : List (Option Media) → List KeptScene → List (List Declared)
  meanings os scene = meanings_of doc target os scene

  -- a kept item that is not opened
  plain_flat : (n k : ℕ) (item : Item) (x : KeptScene) (items : List Item) (os : List (Option Media)) (scene : List KeptScene) →
      best (flat (unrepeated (occurring (n + 1) items)) (normal_all (applied_in os scene))) ≡ best (map plain (applied_from matched (suc k) (meanings os scene) items)) →
      best (flat (unrepeated (kept_of outer n item ∷ occurring (n + 1) items)) (normal_all (x.plain ∷ applied_in os scene)))
      ≡ best (map plain (applied_by_kept k 0 x.plain ++ applied_from matched (suc k) (meanings os scene) items))
  plain_flat n k item x items os scene rest =
      kept_flat known matched holds outer k x.plain (unrepeated (occurring (n + 1) items)) (normal_all (applied_in os scene))
      ∙ ap (over (best (map plain (applied_by_kept k 0 x.plain)))) rest
      ∙ flat_all known (applied_by_kept k 0 x.plain) (applied_from matched (suc k) (meanings os scene) items)

  -- an opened block
  opened_flat : (n k : ℕ) (m : Media) (x : KeptScene) (items : List Item) (os : List (Option Media)) (scene : List KeptScene) →
      AreMeanings m.sheet.items x.inside → x.holds ≡ stands holds (body_layer source m).head →
      best (flat (unrepeated (occurring (n + 1) items)) (normal_all (applied_in os scene))) ≡ best (map plain (applied_from matched (suc k) (meanings os scene) items)) →
      best (flat (unrepeated (by_body (body_layer source m) ++ occurring (n + 1) items)) (normal_all (x.inside ++ applied_in os scene)))
      ≡ best (map plain (applied_by_kept k 0 (meaning_in doc target (Some m) x) ++ applied_from matched (suc k) (meanings os scene) items))
  opened_flat n k m x items os scene are same rest =
      let l : Layer = body_layer source m in
      let more : List Occurrence = unrepeated (occurring (n + 1) items) in
      let ps : List (List Declared) = normal_all (applied_in os scene) in
      ap (λ (us : List Occurrence). best (flat us (normal_all (x.inside ++ applied_in os scene)))) (unrepeated_append (by_body l) (occurring (n + 1) items))
      ∙ ap (λ (qs : List (List Declared)). best (flat (unrepeated (by_body l) ++ more) qs)) (map-append (map normal_declared) x.inside (applied_in os scene))
      ∙ layer_flat known matched holds l 0 0 m.sheet.items x.inside are more ps
      ∙ ap₂ over (ap best (inside_flat k m x same)) rest
      ∙ flat_all known (applied_by_kept k 0 (meaning_in doc target (Some m) x)) (applied_from matched (suc k) (meanings os scene) items)
    where
      unrepeated_append : (us vs : List Occurrence) → unrepeated (us ++ vs) ≡ unrepeated us ++ unrepeated vs
      unrepeated_append us vs = filter-append (λ (o : Occurrence). not o.repeated) us vs

      inside_flat : (k : ℕ) (m : Media) (x : KeptScene) → x.holds ≡ stands holds (body_layer source m).head →
          standing matched holds (body_layer source m).head (map plain (applied_from matched 0 x.inside m.sheet.items)) ≡ map plain (applied_by_kept k 0 (meaning_in doc target (Some m) x))
      inside_flat k m x same =
          which (stands holds (body_layer source m).head) x.holds same
          ∙ sym (kept_plain k 0 (meaning_in doc target (Some m) x))
        where
          which : (b c : Bool) → c ≡ b → (if b then map plain (applied_from matched 0 x.inside m.sheet.items) else []) ≡ map normal_declared (if c then meaning_of_sheet doc target x.inside m.sheet.items else [])
          which true true e = sym (plain_twice (applied_from matched 0 x.inside m.sheet.items))
          which false false e = refl
          which true false e = absurd (false≢true e)
          which false true e = absurd (true≢false e)

  pub outer_flat : (n k : ℕ) (items : List Item) (os : List (Option Media)) (scene : List KeptScene) → Tally source bodies n items os → IsSceneFor items os scene → HoldTogether holds source os scene →
      best (flat (unrepeated (occurring n items)) (normal_all (applied_in os scene))) ≡ best (map plain (applied_from matched k (meanings os scene) items))
  outer_flat n k [] [] [] tally is together = refl
  outer_flat n k [] [] (x ∷ scene) tally is together = absurd is
  outer_flat n k [] (o ∷ os) scene tally is together = absurd tally
  outer_flat n k (Rule r ∷ items) os scene tally is together =
      ap (λ (us : List Occurrence). best (flat us (normal_all (applied_in os scene)))) (sym (append-nil (unrepeated (occurring n (Rule r ∷ items)))))
      ∙ rule_flat known matched holds outer n k r (occurring (n + 1) items) [] (normal_all (applied_in os scene))
      ∙ ap (over (best (map plain (applied_by_decls (matching_of matched r) k 0 r.decls))))
      (ap (λ (us : List Occurrence). best (flat us (normal_all (applied_in os scene)))) (append-nil (unrepeated (occurring (n + 1) items))) ∙ outer_flat (n + 1) (suc k) items os scene tally is together)
      ∙ flat_all known (applied_by_decls (matching_of matched r) k 0 r.decls) (applied_from matched (suc k) (meanings os scene) items)
  outer_flat n k (KeptRule q ∷ items) [] scene tally is together = absurd tally
  outer_flat n k (KeptRule q ∷ items) (o ∷ os) [] tally is together = absurd is
  outer_flat n k (KeptRule q ∷ items) (None ∷ os) (x ∷ scene) tally is together = plain_flat n k (KeptRule q) x items os scene (outer_flat (n + 1) (suc k) items os scene tally.1 is.1 together)
  outer_flat n k (KeptRule q ∷ items) (Some m ∷ os) (x ∷ scene) tally is together = absurd (let e : Some m ≡ None = tally.0 in cc)
  outer_flat n k (KeptBlock piece ∷ items) [] scene tally is together = absurd tally
  outer_flat n k (KeptBlock piece ∷ items) (o ∷ os) [] tally is together = absurd is
  outer_flat n k (KeptBlock piece ∷ items) (None ∷ os) (x ∷ scene) tally is together =
      ap (λ (b : Option Layer). best (flat (unrepeated (by_opened outer (n, KeptBlock piece) b ++ occurring (n + 1) items)) (normal_all (x.plain ∷ applied_in os scene)))) tally.0
      ∙ plain_flat n k (KeptBlock piece) x items os scene (outer_flat (n + 1) (suc k) items os scene tally.1 is.1 together)
  outer_flat n k (KeptBlock piece ∷ items) (Some m ∷ os) (x ∷ scene) tally is together =
      ap (λ (b : Option Layer). best (flat (unrepeated (by_opened outer (n, KeptBlock piece) b ++ occurring (n + 1) items)) (normal_all (x.inside ++ applied_in os scene)))) tally.0
      ∙ opened_flat n k m x items os scene is.0 together.0 (outer_flat (n + 1) (suc k) items os scene tally.1 is.1 together.1)
