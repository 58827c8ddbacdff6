-- What merging made of a sheet with opened blocks, while more is answered.
use Rattle.std.proofs.Common.{ℕ, List, [], ◌∷◌, None}
use Rattle.std.specs.List.{AllByRecursion}
use Rattle.css_model.specs.declared.sheet.Item.{Item}
use Rattle.css_model.specs.Text.Source.{text_at}
use Rattle.media_groups.specs.declared.media.Media.{Media}
use Rattle.media_groups.specs.Opened.{opened_of}
use Rattle.opened_merge_laws.specs.Merged.{IsDoneOpened, IsMergedOpened, IsPlannedWithin}
use Rattle.opened_merge_laws.specs.Told.{IsToldOpened}
use Rattle.opened_merge_laws.proofs.BodyPlans as bodies
use Rattle.step_laws.specs.Free.{Answered, AreAmong}
use Rattle.step_laws.specs.Leading.{IsDone}

module _ (a a' : List Answered) (more : AreAmong a a') where
  done_opened_more : (source : List ℕ) (items : List Item) → IsDoneOpened a source items → IsDoneOpened a' source items
  done_opened_more source items done = record { outside = bodies.done_more a a' more source items done.outside; inside = each (opened_of items source) done.inside }
    where
      each : (media : List Media) → AllByRecursion (λ m. IsDone a (text_at source m.body) m.sheet.items) media → AllByRecursion (λ m. IsDone a' (text_at source m.body) m.sheet.items) media
      each [] all = tt
      each (m ∷ media) (one, rest) = (bodies.done_more a a' more (text_at source m.body) m.sheet.items one, each media rest)

  planned_more : (read : List ℕ) (old : List Item) (written : List ℕ) (again : List Item) → IsPlannedWithin None a read old written again → IsPlannedWithin None a' read old written again
  planned_more read old written again is = record {
    new = is.new;
    steps = is.steps;
    plan = bodies.plan_more None a a' more read is.steps old is.new is.plan;
    bodies = is.bodies;
    body_steps = is.body_steps;
    body_plans = bodies.plans_more None a a' more read (opened_of old read) is.body_steps is.bodies is.body_plans;
    printed_is = is.printed_is;
    same = is.same;
    done = done_opened_more written again is.done;
  }

  -- what is merged by some answers is merged by more
  pub merged_more : (read written : List ℕ) → IsMergedOpened a read written → IsMergedOpened a' read written
  merged_more read written is = record {
    old = is.old;
    again = is.again;
    old_read = is.old_read;
    again_read = is.again_read;
    planned = planned_more read is.old written is.again is.planned;
    stays = is.stays;
    no_longer = is.no_longer;
    same_kept = is.same_kept;
    same_scenes = is.same_scenes;
    winners = is.winners;
  }

  -- and the same is told of it
  pub told_more : (read written : List ℕ) (read_items written_items taken : ℕ) → IsToldOpened a read written read_items written_items taken → IsToldOpened a' read written read_items written_items taken
  unfolding planned_more
  told_more read written read_items written_items taken is = record {
    old = is.old;
    again = is.again;
    old_read = is.old_read;
    again_read = is.again_read;
    planned = planned_more read is.old written is.again is.planned;
    read_items_are = is.read_items_are;
    written_items_are = is.written_items_are;
    taken_is = is.taken_is;
  }
