-- The lines on what stops the steps of a sheet (own).
use Rattle.std.specs.Prelude.{ℕ, ◌+◌, ◌==◌, if◌then◌else◌, List, [], ◌∷◌, ◌++◌, Option, Some, None, slice_get, slice_index_or, length, codes, decimal}
use Rattle.std.specs.List.{enumerate_from, flat_map}
use Rattle.blockers_text.specs.declared.stopped.Best.{Best}
use Rattle.blockers_text.specs.declared.stopped.Part.TheVariants as parts
use Rattle.blockers_text.specs.declared.tally.Tally.{Tally}
use Rattle.blockers_text.specs.declared.totals.Count.{Count}
use Rattle.blockers_text.specs.declared.totals.Weighed.{Weighed}
use Rattle.blockers_text.specs.Stopping.{decl_at, selector_at}
use Rattle.blockers_text.specs.Tallies.{Stopped, no_tally, tallies_of, total}
use Rattle.css_model.specs.declared.sheet.DeclItem.{DeclItem}
use Rattle.css_model.specs.declared.sheet.Item.{Item}
use Rattle.css_model.specs.declared.sheet.SelItem.{SelItem}
use Rattle.css_model.specs.Sheets.Printed.{printed_rule}
use Rattle.css_model.specs.Sheets.Sheet.{start_of}
use Rattle.line_places.specs.Lines.{place_of, place_text}
use Rattle.line_places.specs.Shown.{shown}
use Rattle.media_groups.specs.Heads.{head_text}
use Rattle.report_text.specs.Report.{kind_name}
use Rattle.sheet_order.specs.declared.places.Other.{Other}
use Rattle.sheet_order.specs.declared.places.Other.TheVariants.{Pair, Kept}
use Rattle.sheet_order.specs.declared.places.PairPlace.{PairPlace}
use Rattle.step_laws.specs.declared.step.Step.{Step}
use Rattle.step_laws.specs.declared.step.Step.TheVariants.{CutDecl, CutSel, JoinSelUp, JoinSelDown, JoinDeclUp, JoinDeclDown, Share}
use Rattle.step_laws.specs.Steps.{first_item}

-- A planned level of the sheet with these bytes: where its own bytes begin, these, and its items.
pub record Seen : Type 0 where
  pub text : List ℕ
  pub start : ℕ
  pub source : List ℕ
  pub items : List Item

-- ---- Places

-- a place of a level, by its line and column in the sheet
abbrev pub place_in : Seen → ℕ → List ℕ
place_in l at = place_text (place_of l.text (l.start + at))

-- where an item begins, and where a part of a rule does; 0 if there is none
abbrev pub item_start : Option Item → ℕ
item_start None = 0
item_start (Some item) = start_of item

abbrev pub selector_start : Option SelItem → ℕ
selector_start None = 0
selector_start (Some s) = s.piece.start

abbrev pub decl_start : Option DeclItem → ℕ
decl_start None = 0
decl_start (Some d) = d.name.start

-- where the lower rule of a step begins, or the part that a cut takes away
abbrev pub second_start : List Item → Step → ℕ
second_start items (CutDecl n i) = decl_start (decl_at items (record { item = n; sel = 0; decl = i }))
second_start items (CutSel n i) = selector_start (selector_at items (record { item = n; sel = i; decl = 0 }))
second_start items (JoinSelUp x y) = item_start (slice_get items y)
second_start items (JoinSelDown x y) = item_start (slice_get items y)
second_start items (JoinDeclUp x y) = item_start (slice_get items y)
second_start items (JoinDeclDown x y) = item_start (slice_get items y)
second_start items (Share x y) = item_start (slice_get items y)

-- ---- Pairs

-- a selector and a declaration as a rule
abbrev pub rule_text : List ℕ → SelItem → DeclItem → List ℕ
rule_text source s d = printed_rule source (record { selectors = s ∷ []; decls = d ∷ [] })

abbrev pub parts_text : List ℕ → Option SelItem → Option DeclItem → List ℕ
parts_text source None d = []
parts_text source (Some s) None = []
parts_text source (Some s) (Some d) = rule_text source s d

-- the pair at a place, as it is shown
abbrev pub pair_text : Seen → PairPlace → List ℕ
pair_text l p = shown (parts_text l.source (selector_at l.items p) (decl_at l.items p))

-- after a space, nothing for a kept item
abbrev pub other_text : Seen → Other → List ℕ
other_text l (Pair q) = codes " " ++ pair_text l q
other_text l (Kept n) = []

-- ---- The lines of an item

-- `STEPS BYTES ALONE BYTES`, each after a space
abbrev pub numbers_text : Tally → List ℕ
numbers_text t = codes " " ++ decimal t.steps ++ codes " " ++ decimal t.bytes ++ codes " " ++ decimal t.alone ++ codes " " ++ decimal t.alone_bytes

-- `stops STEPS BYTES ALONE BYTES PLACE HEAD`
abbrev pub stops_line : Seen → Item → Tally → List ℕ
stops_line l item t = codes "stops" ++ numbers_text t ++ codes " " ++ place_in l (start_of item) ++ codes " " ++ shown (head_text l.source item) ++ codes "\n"

-- `KIND PLACE PLACE`, each after a space
abbrev pub taken_text : Seen → Step → List ℕ
taken_text l k = codes " " ++ kind_name k ++ codes " " ++ place_in l (item_start (slice_get l.items (first_item k))) ++ codes " " ++ place_in l (second_start l.items k)

-- `best BYTES KIND PLACE PLACE PAIR PAIR`: a step, the moved pair, and the pair that it may not pass
abbrev pub best_text : Seen → Best → List ℕ
best_text l b = codes "best " ++ decimal b.saved ++ taken_text l b.step ++ codes " " ++ pair_text l b.entry.moved ++ other_text l b.entry.other ++ codes "\n"

abbrev pub best_line : Seen → Option Best → List ℕ
best_line l None = []
best_line l (Some b) = best_text l b

abbrev pub item_lines : Seen → Item → Tally → List ℕ
item_lines l item t = stops_line l item t ++ best_line l t.best

-- the lines of an item, with what they are ranked by
pub record Ranked : Type 0 where
  pub bytes : ℕ
  pub steps : ℕ
  pub lines : List ℕ

-- those of an item that stops a step
abbrev pub ranked_by : Seen → Item → Tally → List Ranked
ranked_by l item t =
    if t.steps == 0 then [] else record { bytes = t.bytes; steps = t.steps; lines = item_lines l item t } ∷ []

abbrev pub ranked_at : Seen → List Tally → ℕ × Item → List Ranked
ranked_at l tallies (n, item) = ranked_by l item (slice_index_or tallies n no_tally)

-- those of the items of a level with these tallies
abbrev pub ranked_with : Seen → List Tally → List Ranked
ranked_with l tallies = flat_map (ranked_at l tallies) (enumerate_from 0 l.items)

-- those of the items of a level, of which these steps are stopped
abbrev pub ranked_in : Seen → List Stopped → List Ranked
ranked_in l all = ranked_with l (tallies_of all (length l.items))

-- ---- The totals

-- `WORD STEPS BYTES`
abbrev pub count_line : (word : List ℕ) → Count → List ℕ
count_line word c = word ++ codes " " ++ decimal c.steps ++ codes " " ++ decimal c.bytes ++ codes "\n"

-- of all steps, of those that kept items alone stop, rules alone, and both
abbrev pub totals_text : List Weighed → List ℕ
totals_text ws =
    count_line (codes "blocked") (total None ws)
    ++ count_line (codes "kept") (total (Some parts.Kept) ws)
    ++ count_line (codes "rules") (total (Some parts.Rules) ws)
    ++ count_line (codes "both") (total (Some parts.Both) ws)
