-- The written text of a planned sheet with opened blocks is no longer than what was read.
use Rattle.std.proofs.Common.{◌≡◌, ℕ, zero, suc, ◌+◌, ◌≤◌, nat_eq, Bool, true, false, List, [], ◌∷◌, map, length, Ok, Option, refl, sym, ap, ◌∙◌, subst, arith}
use Rattle.std.specs.Prelude.{if◌then◌else◌}
use Rattle.std.specs.List.{AllZip, starts_with}
use Rattle.css_model.specs.declared.sheet.Item.{Item}
use Rattle.css_model.specs.Sheets.ComesFrom.{Follows}
use Rattle.css_model.specs.Sheets.Printed.{behind_mark, printed}
use Rattle.css_model.specs.Sheets.Sheet.{sheet_of}
use Rattle.css_model.specs.Sheets.SheetParts.{SheetParts}
use Rattle.css_model.specs.Text.Characters.{space}
use Rattle.css_model.specs.Text.Source.{text_at}
use Rattle.css_model.specs.Text.Tokens.{byte_order_mark}
use Rattle.media_groups.specs.declared.media.Media.{Media}
use Rattle.media_groups.specs.Laws.{IsNoLongerBody, MergedIsNoLonger}
use Rattle.media_groups.specs.Opened.{opened_of}
use Rattle.media_groups.specs.Printed.{printed_with, texts_with}
use Rattle.opened_laws.specs.Media.Lengths.{OpenedIsNoLonger}
use Rattle.merge_laws.proofs.ForCallers.{leads_shorter, printed_size}
use Rattle.opened_merge_laws.specs.Plans.{AreBodyPlansWithin}
use Rattle.opened_merge_laws.proofs.Marks.{IsMarked, marked_alike}
use Rattle.print_laws.proofs.ForCallers.{Ground}
use Rattle.step_laws.specs.Free.{Answered}
use Rattle.step_laws.specs.Leading.{Leads}
use Rattle.step_laws.specs.Sizes.{size}

-- a planned body is no longer than it was: the first step makes up for a space before a byte order mark
body_shorter : (answers : List Answered) (text : List ℕ) (steps : ℕ) (old new : List Item) → Leads answers text steps old new → length (printed text new) ≤ length (printed text old)
body_shorter answers text zero old new leads = subst (λ (items : List Item). length (printed text items) ≤ length (printed text old)) leads (omega arith)
body_shorter answers text (suc steps) old new leads =
    let shorter : size text new + suc steps ≤ size text old = leads_shorter answers text (suc steps) old new leads in
    let after = (printed_size text new).1 in
    let before = (printed_size text old).0 in
    omega (arith, shorter, after, before)

bodies_shorter : (spent : Option ℕ) (answers : List Answered) (source : List ℕ) (media : List Media) (steps : ℕ) (bodies : List SheetParts) → AreBodyPlansWithin spent answers source media steps bodies → AllZip (IsNoLongerBody source) media bodies
bodies_shorter spent answers source [] steps [] plans = tt
bodies_shorter spent answers source [] steps (body ∷ bodies) plans = absurd plans
bodies_shorter spent answers source (m ∷ media) steps [] plans = absurd plans
bodies_shorter spent answers source (m ∷ media) steps (body ∷ bodies) (some, others, plan, rest, is) =
    (body_shorter answers (text_at source m.body) some m.sheet.items body.items plan.leads, bodies_shorter spent answers source media others bodies rest)

-- a space before a mark
marked : (text : List ℕ) → length (behind_mark text) ≤ length text + 1
marked text = which (starts_with nat_eq text byte_order_mark)
  where
    which : (b : Bool) → length (if b then space ∷ text else text) ≤ length text + 1
    which true = omega arith
    which false = omega arith

pub unmarked : (text : List ℕ) → length text ≤ length (behind_mark text)
unmarked text = which (starts_with nat_eq text byte_order_mark)
  where
    which : (b : Bool) → length text ≤ length (if b then space ∷ text else text)
    which true = omega arith
    which false = omega arith

-- a text that is no longer than another one stays so behind the space, where that one is marked if it is
marked_shorter : (text other : List ℕ) → length text ≤ length other → (IsMarked text → IsMarked other) → length (behind_mark text) ≤ length (behind_mark other)
marked_shorter text other shorter alike = which (starts_with nat_eq text byte_order_mark) (starts_with nat_eq other byte_order_mark) refl refl
  where
    which : (b c : Bool) → starts_with nat_eq text byte_order_mark ≡ b → starts_with nat_eq other byte_order_mark ≡ c → length (if b then space ∷ text else text) ≤ length (if c then space ∷ other else other)
    which true true is there = omega (arith, shorter)
    which true false is there = absurd (let e : true ≡ false = sym (alike is) ∙ there in cc)
    which false true is there = omega (arith, shorter)
    which false false is there = shorter

module _ (merged : MergedIsNoLonger) (opened : OpenedIsNoLonger) where
  pub written_shorter : (spent : Option ℕ) (answers : List Answered) (source : List ℕ) (steps body_steps : ℕ) (old new : List Item) (bodies : List SheetParts) → sheet_of source ≡ Ok old → Ground source → Follows new old →
      Leads answers source steps old new → AreBodyPlansWithin spent answers source (opened_of old source) body_steps bodies → length (printed_with source (opened_of old source) bodies new) ≤ length source
  written_shorter spent answers source zero body_steps old new bodies read ground follows leads plans =
      let media = opened_of old source in
      let bodies_ = bodies_shorter spent answers source media body_steps bodies plans in
      let same : size source new ≡ size source old = ap (size source) (sym leads) in
      let texts : length (texts_with source media bodies new) + 0 ≤ length (texts_with source media (map (λ m. m.sheet) media) old) = merged source old new bodies 0 follows (omega (arith, same)) bodies_ in
      let alike : IsMarked (texts_with source media bodies new) → IsMarked (texts_with source media (map (λ m. m.sheet) media) old) =
      λ is. marked_alike (IsNoLongerBody source) source ground media bodies old bodies_ (subst (λ (items : List Item). IsMarked (texts_with source media bodies items)) (sym leads) is) in
      let shorter = marked_shorter (texts_with source media bodies new) (texts_with source media (map (λ m. m.sheet) media) old) (omega (arith, texts)) alike in
      let most = opened source old read in
      omega (arith, shorter, most)
  written_shorter spent answers source (suc steps) body_steps old new bodies read ground follows leads plans =
      let media = opened_of old source in
      let sizes : size source new + suc steps ≤ size source old = leads_shorter answers source (suc steps) old new leads in
      let texts : length (texts_with source media bodies new) + suc steps ≤ length (texts_with source media (map (λ m. m.sheet) media) old) =
      merged source old new bodies (suc steps) follows sizes (bodies_shorter spent answers source media body_steps bodies plans) in
      let after = marked (texts_with source media bodies new) in
      let before = unmarked (texts_with source media (map (λ m. m.sheet) media) old) in
      let most = opened source old read in
      omega (arith, texts, after, before, most)
