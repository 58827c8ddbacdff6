-- What the items and the opened blocks that are read back have in common with those that were printed.
use Rattle.std.proofs.Common.{◌≡◌, ℕ, ◌+◌, List, [], ◌∷◌, map, length, refl, sym, ap₂}
use Rattle.std.specs.List.{AllByRecursion, AllZip}
use Rattle.css_model.specs.declared.sheet.Item.{Item}
use Rattle.css_model.specs.Sheets.SheetParts.{SheetParts}
use Rattle.css_model.specs.Text.Source.{text_at}
use Rattle.media_groups.specs.declared.media.Media.{Media}
use Rattle.opened_laws.specs.Again.{AreOpenedAgain, IsBlockAgain}
use Rattle.opened_merge_laws.specs.Told.{items_in}
use Rattle.opened_merge_laws.proofs.Again.{by_items}
use Rattle.plan_laws.specs.Planned.{AreTwinsButBlocks}
use Rattle.plan_laws.proofs.ForCallers.{twin_length, twins_but_blocks}

module _ (source written : List ℕ) where
  -- the items are twins but for what kept blocks say
  pub again_twins : (media media' : List Media) (bodies : List SheetParts) (items items' : List Item) → AreOpenedAgain source media bodies items written media' items' → AreTwinsButBlocks source written items items'
  again_twins = by_items source written (λ media bodies items media' items'. AreTwinsButBlocks source written items items') (record {
    none = λ bodies. tt;
    rule = λ media media' bodies items items' r r' here rest. (here, rest);
    kept = λ media media' bodies items items' k k' here rest. (here, rest);
    block = λ media media' bodies items items' p p' at at' same rest. (tt, rest);
    opened = λ m m' media media' body bodies items items' p p' at at' here rest. (tt, rest);
  })

  -- what holds of the blocks that are read back hangs on the bodies that were printed
  pub again_each : (R : Media → SheetParts → Type 0) (Q : Media → Type 0) → ((m m' : Media) (body : SheetParts) → R m body → IsBlockAgain source m body written m' → Q m') →
      (media media' : List Media) (bodies : List SheetParts) (items items' : List Item) → AreOpenedAgain source media bodies items written media' items' → AllZip R media bodies → AllByRecursion Q media'
  again_each R Q each = by_items source written (λ media bodies items media' items'. AllZip R media bodies → AllByRecursion Q media') (record {
    none = λ bodies all. tt;
    rule = λ media media' bodies items items' r r' here rest. rest;
    kept = λ media media' bodies items items' k k' here rest. rest;
    block = λ media media' bodies items items' p p' at at' same rest. rest;
    opened = λ m m' media media' body bodies items items' p p' at at' here rest all. (each m m' body all.0 here, rest all.1);
  })

  -- they have as many items as these bodies
  pub again_count : (R : Media → SheetParts → Type 0) (media media' : List Media) (bodies : List SheetParts) (items items' : List Item) → AreOpenedAgain source media bodies items written media' items' →
      AllZip R media bodies → items_in (map (λ m. m.sheet) media') ≡ items_in bodies
  again_count R = by_items source written (λ media bodies items media' items'. AllZip R media bodies → items_in (map (λ m. m.sheet) media') ≡ items_in bodies) (record {
    none = none;
    rule = λ media media' bodies items items' r r' here rest. rest;
    kept = λ media media' bodies items items' k k' here rest. rest;
    block = λ media media' bodies items items' p p' at at' same rest. rest;
    opened = λ m m' media media' body bodies items items' p p' at at' here rest all. ap₂ (λ (n k : ℕ). n + k) (sym (same m m' body here)) (rest all.1);
  })
    where
      none : (bodies : List SheetParts) → AllZip R [] bodies → 0 ≡ items_in bodies
      none [] all = refl
      none (body ∷ bodies) all = absurd all

      same : (m m' : Media) (body : SheetParts) → IsBlockAgain source m body written m' → length body.items ≡ length m'.sheet.items
      same m m' body here =
          twin_length (text_at source m.body) (text_at written m'.body) body.items m'.sheet.items (twins_but_blocks (text_at source m.body) (text_at written m'.body) body.items m'.sheet.items here.twins)
