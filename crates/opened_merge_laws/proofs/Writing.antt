-- What is written of a planned sheet with its planned bodies.
use Rattle.std.proofs.Common.{◌≡◌, ℕ, ◌+◌, ◌≤◌, List, length, Option, Some, None, Ok, refl, sym, ap₂, ◌∙◌, subst, arith}
use Rattle.std.specs.List.{AllZip}
use Rattle.css_model.specs.declared.sheet.Item.{Item}
use Rattle.css_model.specs.Cascade.Order.{Keeps}
use Rattle.css_model.specs.Cascade.Winner.{AreMeanings, Declared, winner}
use Rattle.css_model.specs.Sheets.ComesFrom.{ComesFrom}
use Rattle.css_model.specs.Sheets.KeptItems.{kept_items}
use Rattle.css_model.specs.Sheets.Sheet.{sheet_of}
use Rattle.css_model.specs.Sheets.SheetParts.{SheetParts}
use Rattle.css_model.specs.Text.Source.{text_at}
use Rattle.plan_laws.specs.Limit.PairLimit.{PlannedComesFrom}
use Rattle.media_groups.specs.declared.media.Media.{Media}
use Rattle.media_groups.specs.Laws.{BlocksStay, IsBlockOf, MergedIsNoLonger, OpenedBlocksAreSheets}
use Rattle.media_groups.specs.Opened.{opened_of}
use Rattle.media_groups.specs.Printed.{printed_with}
use Rattle.media_groups.proofs.ForCallers.{follow_kept}
use Rattle.opened_laws.specs.Media.Lengths.{OpenedIsNoLonger}
use Rattle.opened_laws.specs.Media.Scenes.{BlocksWinAlike, IsSceneOf, MergedSheetsWinAlike, ScenesGiveMeanings, kept_blocks, meanings_of}
use Rattle.merge_laws.specs.Merged.{LeadingMakesOf}
use Rattle.merge_laws.specs.Reading.{ReadKeepsTheLimits}
use Rattle.opened_laws.specs.Again.{AreOpenedAgain, IsReadBackOpened, OpenedReadsBack}
use Rattle.opened_merge_laws.specs.Contents.{HaveSameWinnersOpened, opened_content}
use Rattle.opened_merge_laws.specs.Merged.{IsDoneWithin, IsMergedWithin, IsPlannedWithin, IsSpent, PlannedIsMergedOpened}
use Rattle.opened_merge_laws.specs.Plans.{AreBodyPlansWithin, EndsBy, IsPlanWithin}
use Rattle.opened_merge_laws.specs.Told.{IsToldWithin, PlannedIsToldOpened, items_in, items_opened}
use Rattle.opened_merge_laws.proofs.BodyPlans.{HasPlan, bodies_come_from, each_also, plan_comes_from, plans_each}
use Rattle.opened_merge_laws.proofs.KeptContents.{same_blocks, same_content, same_scenes}
use Rattle.opened_merge_laws.proofs.Lengths.{written_shorter}
use Rattle.opened_merge_laws.proofs.Numbers.{again_too}
use Rattle.opened_merge_laws.proofs.ReadBack.{again_count, again_each, again_twins}
use Rattle.opened_merge_laws.proofs.ReadContents.{SayTheSame, again_content}
use Rattle.opened_merge_laws.proofs.ReadWinners.{WinTheSame, again_winners}
use Rattle.opened_merge_laws.proofs.Winners.{twins_win_alike}
use Rattle.order_laws.specs.Keeping.{KeepingKeepsWinners}
use Rattle.plan_laws.specs.Planned.{AreTwinsButBlocks, LeadingKeeps, TwinsAreDone, TwinsButBlocksAreDone, TwinsKeep}
use Rattle.plan_laws.proofs.ForCallers.{twin_length}
use Rattle.print_laws.proofs.ForCallers.{ground-of}
use Rattle.sheet_laws.specs.Reading.{ReadIsSound}
use Rattle.step_laws.specs.Free.{Answered, AreTrue}
use Rattle.step_laws.specs.Leading.{IsDone}

-- the laws that this stands on
pub record Laws : Type 0 where
  pub sound : ReadIsSound
  pub limits : ReadKeepsTheLimits
  pub make : LeadingMakesOf
  pub comes_from : PlannedComesFrom
  pub sheets : OpenedBlocksAreSheets
  pub stay : BlocksStay
  pub merged : MergedIsNoLonger
  pub opened : OpenedIsNoLonger
  pub reads_back : OpenedReadsBack
  pub leading : LeadingKeeps
  pub twins : TwinsKeep
  pub twins_done : TwinsAreDone
  pub but_blocks_done : TwinsButBlocksAreDone
  pub keeping : KeepingKeepsWinners
  pub scenes : ScenesGiveMeanings
  pub alike : MergedSheetsWinAlike

-- nothing is left to do in what is read back, or so much work was spent
done_again : Laws → (spent : Option ℕ) (answers : List Answered) (read written : List ℕ) (steps : ℕ) (media : List Media) (bodies : List SheetParts) (new again : List Item) →
    AreTwinsButBlocks read written new again → AreOpenedAgain read media bodies new written (opened_of again written) again → AllZip (HasPlan spent answers read) media bodies →
    EndsBy spent answers read new → IsSpent spent answers steps → IsDoneWithin spent answers steps written again
done_again laws None answers read written steps media bodies new again twins same each ends none = record {
  outside = laws.but_blocks_done answers read written new again twins ends;
  inside = again_each read written (HasPlan None answers read) (λ m. IsDone answers (text_at written m.body) m.sheet.items)
      (λ m m' body (some, body_plan) here. laws.twins_done answers (text_at read m.body) (text_at written m'.body) body.items m'.sheet.items here.twins body_plan.ends)
      media (opened_of again written) bodies new again same each;
}
done_again laws (Some work) answers read written steps media bodies new again twins same each ends spent = spent

module _ (laws : Laws) (spent : Option ℕ) (answers : List Answered) (are_true : AreTrue answers) (read : List ℕ) (steps body_steps : ℕ) (old new : List Item) (bodies : List SheetParts)
    (old_read : sheet_of read ≡ Ok old) (plan : IsPlanWithin spent answers read steps old new) (plans : AreBodyPlansWithin spent answers read (opened_of old read) body_steps bodies)
    (is_spent : IsSpent spent answers (steps + body_steps)) where
  abbrev media : List Media
  media = opened_of old read

  abbrev written : List ℕ
  written = printed_with read (opened_of old read) bodies new

  from : ComesFrom read old new
  from = let few = laws.limits read old old_read in plan_comes_from laws.make laws.comes_from spent answers read steps old new (laws.sound read old old_read) few.1 few.2 plan

  shorter : length written ≤ length read
  shorter = written_shorter laws.merged laws.opened spent answers read steps body_steps old new bodies old_read (ground-of read old old_read) from.follows plan.leads plans

  back : IsReadBackOpened read (opened_of new read) bodies new written
  back =
      let most = (laws.limits read old old_read).0 in
      let less = shorter in
      laws.reads_back read old new bodies old_read from (bodies_come_from laws.sheets laws.sound laws.limits laws.make laws.comes_from spent answers read old body_steps bodies plans) (omega (arith, less, most))

  -- the blocks that were read are those of the sheet to which the plan leads
  same : AreOpenedAgain read media bodies new written (opened_of back.again written) back.again
  same = again_too read written (opened_of new read) (opened_of back.again written) bodies new back.again back.opened media (sym (laws.stay read old new from.follows))

  each : AllZip (HasPlan spent answers read) media bodies
  each = plans_each spent answers read media body_steps bodies plans

  kept : kept_items old ≡ kept_items new
  kept = sym (follow_kept new old from.follows)

  twins : AreTwinsButBlocks read written new back.again
  twins = again_twins read written media (opened_of back.again written) bodies new back.again same

  done : IsDoneWithin spent answers (steps + body_steps) written back.again
  done = done_again laws spent answers read written (steps + body_steps) media bodies new back.again twins same each plan.ends is_spent

  -- the body of a block is kept by the sheet to which its plan leads
  body_keeps : (m : Media) (body : SheetParts) → HasPlan spent answers read m body → Keeps (text_at read m.body) m.sheet.items (text_at read m.body) body.items
  body_keeps m body (some, body_plan) = laws.leading answers are_true (text_at read m.body) some m.sheet.items body.items body_plan.leads

  content : opened_content read media old ≡ opened_content written (opened_of back.again written) back.again
  content = same_content read media old new kept
      ∙ again_content read written laws.twins media (opened_of back.again written) bodies new back.again same
      (each_also (IsBlockOf read) (HasPlan spent answers read) (SayTheSame read written) (λ m body block p. (body_keeps m body p).kept) media bodies (laws.sheets read old) each)

  winners : HaveSameWinnersOpened read old written back.again
  winners doc target scene us legal is_scene related =
      let blocks = kept_blocks media old in
      let scene_new : IsSceneOf media new scene = (same_scenes read read media media old new (same_content read media old new kept) scene).0 is_scene in
      let bodies_win : AllZip (WinTheSame read written doc target us) media bodies =
      each_also (IsBlockOf read) (HasPlan spent answers read) (WinTheSame read written doc target us)
      (λ m body block p meanings are. laws.keeping (text_at read m.body) (text_at read m.body) m.sheet.items body.items (body_keeps m body p) doc target meanings us legal are related)
      media bodies (laws.sheets read old) each in
      let alike : BlocksWinAlike doc target us blocks (kept_blocks (opened_of back.again written) back.again) scene =
      subst (λ os. BlocksWinAlike doc target us os (kept_blocks (opened_of back.again written) back.again) scene) (sym (same_blocks media old new kept))
      (again_winners read written doc target us media (opened_of back.again written) bodies new back.again same bodies_win scene scene_new) in
      let meanings : List (List Declared) = meanings_of doc target blocks scene in
      let are : AreMeanings old meanings = laws.scenes doc target media old scene is_scene in
      let outside : winner doc target meanings old us ≡ winner doc target meanings back.again us =
      laws.keeping read read old new (laws.leading answers are_true read steps old new plan.leads) doc target meanings us legal are related ∙ twins_win_alike read written new back.again twins doc target meanings us in
      laws.alike doc target us old back.again blocks (kept_blocks (opened_of back.again written) back.again) scene alike outside

  planned : IsPlannedWithin spent answers read old written back.again
  planned = record {
    new = new;
    steps = steps;
    plan = plan;
    bodies = bodies;
    body_steps = body_steps;
    body_plans = plans;
    printed_is = refl;
    same = back.opened;
    done = done;
  }

  is_merged : IsMergedWithin spent answers read written
  is_merged = record {
    old = old;
    again = back.again;
    old_read = old_read;
    again_read = back.reads;
    planned = planned;
    stays = back.prints;
    no_longer = shorter;
    same_kept = content;
    same_scenes = same_scenes read written media (opened_of back.again written) old back.again content;
    winners = winners;
  }

  is_told : IsToldWithin spent answers read written (items_opened old read) (length new + items_in bodies) (steps + body_steps)
  unfolding planned
  is_told = record {
    old = old;
    again = back.again;
    old_read = old_read;
    again_read = back.reads;
    planned = planned;
    read_items_are = refl;
    written_items_are = ap₂ (λ (a b : ℕ). a + b) (twin_length read written new back.again twins)
        (sym (again_count read written (HasPlan spent answers read) media (opened_of back.again written) bodies new back.again same each));
    taken_is = refl;
  }

pub planned_is_merged : Laws → PlannedIsMergedOpened
planned_is_merged laws spent answers are_true read steps body_steps old new bodies old_read plan plans is_spent = is_merged laws spent answers are_true read steps body_steps old new bodies old_read plan plans is_spent

pub planned_is_told : Laws → PlannedIsToldOpened
planned_is_told laws spent answers are_true read steps body_steps old new bodies old_read plan plans is_spent = is_told laws spent answers are_true read steps body_steps old new bodies old_read plan plans is_spent
