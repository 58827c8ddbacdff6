-- What is told of a planned sheet: its numbers, and its text.
use Rattle.std.proofs.Common.{◌≡◌, ◌≤◌, ℕ, suc, ◌+◌, ◌*◌, Bool, true, false, List, [], ◌∷◌, ◌++◌, map, length, Option, Some, None, Result, Ok, Err, refl, sym, ap, ap₂, ◌∙◌, subst, arith}
use Rattle.std.specs.Prelude.{IfOk, if◌then◌else◌}
use Rattle.std.specs.List.{AllByRecursion, cons_option, flat_map, list_any}
use Rattle.css_model.specs.declared.sheet.Item.{Item}
use Rattle.css_model.specs.declared.sheet.Item.TheVariants.{Rule, KeptRule, KeptBlock}
use Rattle.css_model.specs.Sheets.Limits.{max_items}
use Rattle.css_model.specs.Sheets.Printed.{behind_mark, printed, printed_item}
use Rattle.css_model.specs.Sheets.SheetParts.{SheetParts}
use Rattle.css_model.specs.Sheets.Sound.{IsSound}
use Rattle.css_model.specs.Text.Source.{text_at}
use Rattle.media_groups.specs.declared.media.Media.{Media}
use Rattle.media_groups.specs.Laws.{IsBlockOf, OpenedBlocksAreSheets}
use Rattle.media_groups.specs.Opened.{is_import_item, opened_from, opened_item, opened_of}
use Rattle.media_groups.specs.Printed.{printed_with, texts_with}
use Rattle.merge_laws.specs.Merged.{LeadingMakesOf}
use Rattle.merge_laws.specs.Reading.{ReadKeepsTheLimits}
use Rattle.merge_text.specs.Counts.{is_block, most_items}
use Rattle.merge_text.specs.declared.planned.Planned.{Planned}
use Rattle.planner.specs.Working.{spent_of}
use Rattle.merge_text.specs.MergedTexts.{IsPlannedFrom}
use Rattle.opened_merge_laws.specs.Merged.{IsMergedWithin, PlannedIsMergedOpened}
use Rattle.opened_merge_laws.specs.Plans.{AreBodyPlansWithin}
use Rattle.opened_merge_laws.specs.Told.{IsToldWithin, PlannedIsToldOpened, items_in, items_opened}
use Rattle.sheet_laws.specs.Reading.{ReadIsSound}
use Rattle.step_laws.specs.Free.{Answered, AreTrue}

-- ---- where no block is kept

-- a kept item that is no block is not opened
none_from : (source : List ℕ) (number : ℕ) (items : List Item) → list_any is_block items ≡ false → opened_from source number items ≡ []
none_from source number [] none = refl
none_from source number (Rule r ∷ items) none = passed (list_any (is_import_item source) items) (none_from source (suc number) items none)
  where
    passed : (b : Bool) → opened_from source (suc number) items ≡ [] → cons_option (if b then None else None) (opened_from source (suc number) items) ≡ []
    passed true rest = rest
    passed false rest = rest
none_from source number (KeptRule k ∷ items) none = passed (list_any (is_import_item source) items) (none_from source (suc number) items none)
  where
    passed : (b : Bool) → opened_from source (suc number) items ≡ [] → cons_option (if b then None else None) (opened_from source (suc number) items) ≡ []
    passed true rest = rest
    passed false rest = rest
none_from source number (KeptBlock piece ∷ items) none = absurd (cc)

pub none_opened : (source : List ℕ) (items : List Item) → list_any is_block items ≡ false → opened_of items source ≡ []
none_opened source items none = none_from source 0 items none

-- then it is printed as it is
texts_without : (source : List ℕ) (items : List Item) → texts_with source [] [] items ≡ flat_map (printed_item source) items
texts_without source [] = refl
texts_without source (item ∷ items) = ap (λ (text : List ℕ). printed_item source item ++ text) (texts_without source items)

no_bodies : (spent : Option ℕ) (answers : List Answered) (source : List ℕ) (steps : ℕ) (bodies : List SheetParts) → AreBodyPlansWithin spent answers source [] steps bodies → bodies ≡ []
no_bodies spent answers source steps [] plans = refl
no_bodies spent answers source steps (body ∷ bodies) plans = absurd plans

pub printed_plain : (work : Option ℕ) (answers : List Answered) (source : List ℕ) (p : Planned) → IsPlannedFrom work answers source p → p.media.items ≡ [] →
    printed source p.sheet.items ≡ printed_with source p.media.items p.bodies.items p.sheet.items
printed_plain work answers source p from none =
    let plans = subst (λ (media : List Media). AreBodyPlansWithin (spent_of work p.spent) answers source media from.body_steps p.bodies.items) (sym from.opened ∙ none) from.body_plans in
    let empty : p.bodies.items ≡ [] = no_bodies (spent_of work p.spent) answers source from.body_steps p.bodies.items plans in
    sym (ap₂ (λ (media : List Media) (bodies : List SheetParts). printed_with source media bodies p.sheet.items) none empty ∙ ap behind_mark (texts_without source p.sheet.items))

pub printed_alike : {X E : Type 0} (result : Result X E) (text_of : X → List ℕ) (source : List ℕ) (items : List Item) (text : List ℕ) → printed source items ≡ text →
    IfOk result (λ x. text_of x ≡ printed source items) → IfOk result (λ x. text_of x ≡ text)
printed_alike (Ok x) text_of source items text same is = is ∙ same
printed_alike (Err e) text_of source items text same is = tt

-- ---- how many items there are

few_from : (source : List ℕ) (number : ℕ) (items : List Item) → length (opened_from source number items) ≤ length items
few_from source number [] = omega arith
few_from source number (item ∷ items) = which (if list_any (is_import_item source) items then None else opened_item source number item) (few_from source (suc number) items)
  where
    which : (o : Option Media) → length (opened_from source (suc number) items) ≤ length items → length (cons_option o (opened_from source (suc number) items)) ≤ suc (length items)
    which None rest = omega (arith, rest)
    which (Some m) rest = omega (arith, rest)

module _ (limits : ReadKeepsTheLimits) where
  -- each body that was read has no more items than a sheet may have
  read_few : (source : List ℕ) (media : List Media) → AllByRecursion (IsBlockOf source) media → items_in (map (λ m. m.sheet) media) ≤ length media * max_items
  read_few source [] blocks = omega arith
  read_few source (m ∷ media) (block, others) =
      let first : length m.sheet.items ≤ max_items = (limits (text_at source m.body) m.sheet.items block.reads).1 in
      let rest = read_few source media others in
      omega (arith, first, rest)

  pub bodies_read_few : OpenedBlocksAreSheets → (source : List ℕ) (items : List Item) → length items ≤ max_items → items_in (map (λ m. m.sheet) (opened_of items source)) ≤ most_items
  bodies_read_few sheets source items few =
      let each = read_few source (opened_of items source) (sheets source items) in
      let blocks = few_from source 0 items in
      omega (arith, few, each, blocks)

  module _ (make : LeadingMakesOf) (sound : ReadIsSound) where
    -- so does each that was planned
    planned_few : (spent : Option ℕ) (answers : List Answered) (source : List ℕ) (media : List Media) (steps : ℕ) (bodies : List SheetParts) → AllByRecursion (IsBlockOf source) media →
        AreBodyPlansWithin spent answers source media steps bodies → items_in bodies ≤ length media * max_items
    planned_few spent answers source [] steps [] blocks plans = omega arith
    planned_few spent answers source [] steps (body ∷ bodies) blocks plans = absurd plans
    planned_few spent answers source (m ∷ media) steps [] blocks plans = absurd plans
    planned_few spent answers source (m ∷ media) steps (body ∷ bodies) (block, others) (some, left, plan, rest, is) =
        let text = text_at source m.body in
        let first : length body.items ≤ max_items =
        (make answers text some m.sheet.items body.items (sound text m.sheet.items block.reads) (limits text m.sheet.items block.reads).1 plan.leads).few_items in
        let later = planned_few spent answers source media left bodies others rest in
        omega (arith, first, later)

    pub bodies_few : OpenedBlocksAreSheets → (work : Option ℕ) (answers : List Answered) (source : List ℕ) (p : Planned) → IsPlannedFrom work answers source p → items_in p.bodies.items ≤ most_items
    bodies_few sheets work answers source p from =
        let each = planned_few (spent_of work p.spent) answers source (opened_of from.old source) from.body_steps p.bodies.items (sheets source from.old) from.body_plans in
        let blocks = few_from source 0 from.old in
        let few : length from.old ≤ max_items = (limits source from.old from.old_read).1 in
        omega (arith, few, each, blocks)

    -- a planned sheet is sound, and has no more items than one may have
    pub sheet_sound : (work : Option ℕ) (answers : List Answered) (source : List ℕ) (p : Planned) → IsPlannedFrom work answers source p → IsSound source p.sheet.items
    sheet_sound work answers source p from =
        (make answers source from.steps from.old p.sheet.items (sound source from.old from.old_read) (limits source from.old from.old_read).1 from.plan.leads).sound

    pub sheet_few : (work : Option ℕ) (answers : List Answered) (source : List ℕ) (p : Planned) → IsPlannedFrom work answers source p → length p.sheet.items ≤ max_items
    sheet_few work answers source p from =
        (make answers source from.steps from.old p.sheet.items (sound source from.old from.old_read) (limits source from.old from.old_read).1 from.plan.leads).few_items

-- ---- its text

pub text_merged : PlannedIsMergedOpened → (work : Option ℕ) (answers : List Answered) (source : List ℕ) (p : Planned) (text : List ℕ) → AreTrue answers → IsPlannedFrom work answers source p →
    text ≡ printed_with source p.media.items p.bodies.items p.sheet.items → IsMergedWithin (spent_of work p.spent) answers source text
text_merged law work answers source p text are_true from is =
    let printed_is : text ≡ printed_with source (opened_of from.old source) p.bodies.items p.sheet.items = is ∙ ap (λ (media : List Media). printed_with source media p.bodies.items p.sheet.items) from.opened in
    subst (IsMergedWithin (spent_of work p.spent) answers source) (sym printed_is) (law (spent_of work p.spent) answers are_true source from.steps from.body_steps from.old p.sheet.items p.bodies.items from.old_read from.plan from.body_plans from.enough)

pub text_told : PlannedIsToldOpened → (work : Option ℕ) (answers : List Answered) (source : List ℕ) (p : Planned) (text : List ℕ) (written : ℕ) → AreTrue answers → IsPlannedFrom work answers source p →
    text ≡ printed_with source p.media.items p.bodies.items p.sheet.items → written ≡ length p.sheet.items + items_in p.bodies.items → IsToldWithin (spent_of work p.spent) answers source text p.read_items written p.taken
text_told law work answers source p text written are_true from is counted =
    let printed_text = printed_with source (opened_of from.old source) p.bodies.items p.sheet.items in
    let printed_is : text ≡ printed_text = is ∙ ap (λ (media : List Media). printed_with source media p.bodies.items p.sheet.items) from.opened in
    let told : IsToldWithin (spent_of work p.spent) answers source printed_text (items_opened from.old source) (length p.sheet.items + items_in p.bodies.items) (from.steps + from.body_steps) =
    law (spent_of work p.spent) answers are_true source from.steps from.body_steps from.old p.sheet.items p.bodies.items from.old_read from.plan from.body_plans from.enough in
    subst (λ (bytes : List ℕ). IsToldWithin (spent_of work p.spent) answers source bytes p.read_items written p.taken) (sym printed_is)
    (subst (λ (n : ℕ). IsToldWithin (spent_of work p.spent) answers source printed_text n written p.taken) (sym from.counted)
    (subst (λ (n : ℕ). IsToldWithin (spent_of work p.spent) answers source printed_text (items_opened from.old source) n p.taken) (sym counted)
    (subst (λ (n : ℕ). IsToldWithin (spent_of work p.spent) answers source printed_text (items_opened from.old source) (length p.sheet.items + items_in p.bodies.items) n) (sym from.taken_is) told)))
