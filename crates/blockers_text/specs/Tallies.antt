-- How many steps are stopped, and how many bytes they would save (own).
use Rattle.std.specs.Prelude.{ℕ, ◌+◌, ◌-◌, ◌==◌, nat_lt, Bool, true, false, if◌then◌else◌, List, [], ◌∷◌, map, length, slice_index_or, slice_set, Option, Some, None}
use Rattle.std.specs.List.{filter, list_all, list_any, range_with_len, sum_by}
use Rattle.blockers_text.specs.declared.stopped.Best.{Best}
use Rattle.blockers_text.specs.declared.stopped.Part.{Part}
use Rattle.blockers_text.specs.declared.stopped.Part.TheVariants as parts
use Rattle.blockers_text.specs.declared.tally.Tally.{Tally}
use Rattle.blockers_text.specs.declared.totals.Count.{Count}
use Rattle.blockers_text.specs.declared.totals.Weighed.{Weighed}
use Rattle.blockers_text.specs.Stopping.{entries_of, has_item, item_of, stopping}
use Rattle.css_model.specs.declared.sheet.Item.{Item}
use Rattle.order_index.specs.Afterwards.{after}
use Rattle.sheet_order.specs.declared.places.Other.{Other}
use Rattle.sheet_order.specs.declared.places.Other.TheVariants.{Pair, Kept}
use Rattle.sheet_order.specs.declared.places.Reversed.{Reversed}
use Rattle.step_laws.specs.declared.step.Step.{Step}
use Rattle.step_laws.specs.Free.{Answered}
use Rattle.step_laws.specs.Sizes.{size}

-- ---- One step

-- a step, what it would save in bytes, and of each item that stops it the first entry that does
pub record Stopped : Type 0 where
  pub step : Step
  pub saved : ℕ
  pub by : List Reversed

-- how much shorter the texts of a sheet's items become by a step
abbrev pub saving : List ℕ → List Item → Step → ℕ
saving source items k = size source items - size source (after items k)

-- a step of a sheet with what stops it, by these answers
abbrev pub stopped_of : List Answered → List ℕ → List Item → Step → Stopped
stopped_of answers source items k = record { step = k; saved = saving source items k; by = stopping answers items (entries_of items k) }

abbrev pub is_kept_other : Other → Bool
is_kept_other (Pair q) = false
is_kept_other (Kept n) = true

abbrev pub is_by_kept : Reversed → Bool
is_by_kept r = is_kept_other r.other

-- whether kept items alone stop a step, rules alone, or both
abbrev pub part_of : List Reversed → Part
part_of by = if list_all is_by_kept by then parts.Kept else if list_any is_by_kept by then parts.Both else parts.Rules

-- ---- Steps together

-- what a step adds to the totals
abbrev pub weighed : Stopped → Weighed
weighed s = record { saved = s.saved; part = part_of s.by }

abbrev pub same_part : Part → Part → Bool
same_part parts.Kept parts.Kept = true
same_part parts.Rules parts.Rules = true
same_part parts.Both parts.Both = true
same_part _ _ = false

-- whether a step counts: all do, or those of a part
abbrev pub counts : Option Part → Weighed → Bool
counts None w = true
counts (Some part) w = same_part w.part part

-- how many steps there are, and what they would save together
abbrev pub count_of : List Weighed → Count
count_of ws = record { steps = length ws; bytes = sum_by (λ w. w.saved) ws }

abbrev pub total : Option Part → List Weighed → Count
total of ws = count_of (filter (counts of) ws)

-- a count with a step more, if it counts
abbrev pub with_step : Option Part → Count → Weighed → Count
with_step of c w = if counts of w then record { steps = c.steps + 1; bytes = c.bytes + w.saved } else c

-- ---- By items

-- whether an item stops a step, and whether no other one does
abbrev pub is_stopped : ℕ → Stopped → Bool
is_stopped n s = has_item s.by n

abbrev pub is_alone : Stopped → Bool
is_alone s = length s.by == 1

-- a step that one item stops, with the entry that does
abbrev pub best_by : Step → ℕ → List Reversed → Option Best
best_by k saved [] = None
best_by k saved (r ∷ rest) = Some (record { step = k; saved = saved; entry = r })

-- the first of two if it saves as much or more, else the second
abbrev pub better : Option Best → Option Best → Option Best
better None new = new
better (Some old) None = Some old
better (Some old) (Some new) = if nat_lt old.saved new.saved then Some new else Some old

abbrev pub best_after : Option Best → List Stopped → Option Best
best_after best [] = best
best_after best (s ∷ rest) = best_after (better best (best_by s.step s.saved s.by)) rest

-- the steps that an item stops, and those of them that no other one does
abbrev pub stopped_by : ℕ → List Stopped → List Stopped
stopped_by n all = filter (is_stopped n) all

abbrev pub alone_by : ℕ → List Stopped → List Stopped
alone_by n all = filter is_alone (stopped_by n all)

-- How many steps an item stops and what they would save, the same of those that no other item stops, and of these the first
-- of the greatest saving.
abbrev pub tally_of : List Stopped → ℕ → Tally
tally_of all n = record {
  steps = length (stopped_by n all);
  bytes = sum_by (λ s. s.saved) (stopped_by n all);
  alone = length (alone_by n all);
  alone_bytes = sum_by (λ s. s.saved) (alone_by n all);
  best = best_after None (alone_by n all);
}

-- ---- One step more

-- a tally with a step that its item stops
abbrev pub counted : Tally → Stopped → Tally
counted t s = record {
  steps = t.steps + 1;
  bytes = t.bytes + s.saved;
  alone = if is_alone s then t.alone + 1 else t.alone;
  alone_bytes = if is_alone s then t.alone_bytes + s.saved else t.alone_bytes;
  best = if is_alone s then better t.best (best_by s.step s.saved s.by) else t.best;
}

-- the tally of no steps
abbrev pub no_tally : Tally
no_tally = record { steps = 0; bytes = 0; alone = 0; alone_bytes = 0; best = None }

-- the tallies of items with a step that the item of this number stops, and with one that the items of these entries stop
abbrev pub counted_at : List Tally → ℕ → Stopped → List Tally
counted_at tallies n s = slice_set tallies n (counted (slice_index_or tallies n no_tally) s)

abbrev pub counted_each : List Tally → List Reversed → Stopped → List Tally
counted_each tallies [] s = tallies
counted_each tallies (r ∷ rest) s = counted_each (counted_at tallies (item_of r) s) rest s

-- the tallies of so many items
abbrev pub tallies_of : List Stopped → ℕ → List Tally
tallies_of all count = map (tally_of all) (range_with_len 0 count)
