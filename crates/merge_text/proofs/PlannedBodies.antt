-- The bodies of opened blocks, planned one after the other.
use Rattle.std.proofs.Common.{◌≡◌, ◌≤◌, ℕ, ◌+◌, ◌-◌, Bool, true, false, List, [], ◌∷◌, ◌++◌, Option, Some, None, Result, Ok, Err, inr, refl, length, take, drop, get_or, sym, ◌∙◌, ap, ap₂, subst, append_assoc, arith}
use Rattle.std.specs.Prelude.{IfOk}
use Rattle.std.specs.List.{AllByRecursion}
use Rattle.std.proofs.lemmas.List.{take_rest}
use Rattle.css_model.specs.declared.sheet.Item.{Item}
use Rattle.css_model.specs.Sheets.ComesFrom.{pair_count}
use Rattle.css_model.specs.Sheets.Limits.{max_pairs}
use Rattle.css_model.specs.Sheets.Printed.{printed}
use Rattle.css_model.specs.Sheets.Sheet.{sheet_of}
use Rattle.css_model.specs.Sheets.SheetParts.{SheetParts}
use Rattle.css_model.specs.Text.Source.{text_at}
use Rattle.media_groups.specs.declared.media.Media.{Media}
use Rattle.planner.specs.Working.{HasEnded, spent_of}
use Rattle.media_groups.specs.Laws.{IsBlockOf}
use Rattle.merge_laws.proofs.ForCallers.{leads_shorter, printed_size}
use Rattle.merge_laws.specs.Reading.{ReadIsPlannable, ReadKeepsTheLimits}
use Rattle.merge_text.specs.Working.{StaysSpent, left_of}
use Rattle.opened_merge_laws.proofs.ForCallers.{plan_more, plan_spent, plans_more, plans_on, plans_spent}
use Rattle.opened_merge_laws.specs.Bodies.{bytes_in}
use Rattle.opened_merge_laws.specs.Merged.{IsSpent}
use Rattle.opened_merge_laws.specs.Plans.{AreBodyPlansWithin, EndsBy, IsBodyPlanWithin, IsPlanWithin}
use Rattle.plan_laws.specs.Plannable.{IsPlannable}
use Rattle.print_laws.specs.Printing.{PrintedIsNoLonger}
use Rattle.step_laws.specs.Free.{Answered, AreAmong}
use Rattle.step_laws.specs.Leading.{Leads}
use Rattle.step_laws.specs.Sizes.{size}

-- ---- one body

-- it can be planned by its own bytes
pub body_plannable : ReadIsPlannable → (source text : List ℕ) (m : Media) (own : SheetParts) → IsBlockOf source m → text ≡ text_at source m.body → own ≡ m.sheet → IsPlannable text own.items
body_plannable law source text m own block is same =
    law text own.items (ap sheet_of is ∙ block.reads ∙ ap (λ (s : SheetParts). Ok s.items) (sym same))

-- what lead_merge says of the end of a plan, as the plans say it
ends_by : (spent : Option ℕ) (answers : List Answered) (source : List ℕ) (taken : ℕ) (items : List Item) → HasEnded spent answers source taken items → EndsBy spent answers source items
ends_by None answers source taken items ended = ended
ends_by (Some work) answers source taken items ended = inr ended.1

-- and how much work was spent
pub enough_spent : (spent : Option ℕ) (answers : List Answered) (source : List ℕ) (taken : ℕ) (items : List Item) → HasEnded spent answers source taken items → IsSpent spent answers taken
enough_spent None answers source taken items ended = tt
enough_spent (Some work) answers source taken items ended = ended.0

-- and so it was
pub body_planned : {X E : Type 0} (result : Result X E) (taken : X → ℕ) (sheet : X → SheetParts) (spent : X → Option ℕ) (answers : List Answered) (source text : List ℕ) (m : Media) (own : SheetParts) →
    text ≡ text_at source m.body → own ≡ m.sheet → IfOk result (λ x. Leads answers text (taken x) own.items (sheet x).items) → IfOk result (λ x. HasEnded (spent x) answers text (taken x) (sheet x).items) →
    IfOk result (λ x. IsBodyPlanWithin (spent x) answers source m (taken x) (sheet x))
body_planned (Err e) taken sheet spent answers source text m own is same leads ended = tt
body_planned (Ok x) taken sheet spent answers source text m own is same leads ended = record {
  leads = subst (λ (bytes : List ℕ). Leads answers bytes (taken x) m.sheet.items (sheet x).items) is (subst (λ (s : SheetParts). Leads answers text (taken x) s.items (sheet x).items) same leads);
  ends = subst (λ (bytes : List ℕ). EndsBy (spent x) answers bytes (sheet x).items) is (ends_by (spent x) answers text (taken x) (sheet x).items ended);
}

pub body_enough : {X E : Type 0} (result : Result X E) (taken : X → ℕ) (sheet : X → SheetParts) (spent : X → Option ℕ) (answers : List Answered) (text : List ℕ) →
    IfOk result (λ x. HasEnded (spent x) answers text (taken x) (sheet x).items) → IfOk result (λ x. IsSpent (spent x) answers (taken x))
body_enough (Err e) taken sheet spent answers text ended = tt
body_enough (Ok x) taken sheet spent answers text ended = enough_spent (spent x) answers text (taken x) (sheet x).items ended

-- a body may stay as it was read if work was spent
pub body_left : ReadKeepsTheLimits → (work : Option ℕ) (spent : Bool) (answers : List Answered) (source : List ℕ) (m : Media) (own : SheetParts) → IsBlockOf source m → own ≡ m.sheet →
    (n : ℕ) × (work ≡ Some n) × (spent ≡ true) → IsBodyPlanWithin (spent_of work spent) answers source m 0 own
body_left limits work spent answers source m own block same (n, is, over) =
    subst (λ (w : Option ℕ). IsBodyPlanWithin (spent_of w spent) answers source m 0 own) (sym is) (subst (λ (b : Bool). IsBodyPlanWithin (spent_of (Some n) b) answers source m 0 own) (sym over) (record {
      leads = ap (λ (s : SheetParts). s.items) (sym same);
      ends = inr (subst (λ (s : SheetParts). pair_count s.items ≤ max_pairs) (sym same) (limits (text_at source m.body) m.sheet.items block.reads).2);
    }))

-- ---- one after the other

-- the blocks but for these last ones are planned
abbrev pub ArePlannedTo : (spent : Option ℕ) → List Answered → List ℕ → List Media → List Media → ℕ → List SheetParts → Type 0
ArePlannedTo spent answers source media rest taken bodies = (done : List Media) × (media ≡ done ++ rest) × AreBodyPlansWithin spent answers source done taken bodies

-- the first of them, and those behind it
pub cut_media : (rest : List Media) (m : Media) → 1 ≤ length rest → m ≡ get_or rest 0 m → rest ≡ m ∷ take (length rest - 1) (drop 1 rest)
cut_media [] m some is = absurd (omega (arith, some))
cut_media (x ∷ xs) m some is = ap₂ (λ (y : Media) (ys : List Media). y ∷ ys) (sym is) (sym (take_rest (x ∷ xs) 1))

-- a body that was planned with what is left of a bound was so with the bound
whole_ends : (work : Option ℕ) (taken : ℕ) (b : Bool) (answers : List Answered) (source : List ℕ) (items : List Item) → EndsBy (spent_of (left_of work taken) b) answers source items → EndsBy (spent_of work b) answers source items
whole_ends None taken b answers source items ends = ends
whole_ends (Some work) taken false answers source items ends = ends
whole_ends (Some work) taken true answers source items ends = ends

-- plans so far that ended at the bound, if a later one does
now_spent : (work : Option ℕ) (old new : Bool) (answers : List Answered) (source : List ℕ) (media : List Media) (steps : ℕ) (bodies : List SheetParts) → StaysSpent work old new →
    AreBodyPlansWithin (spent_of work old) answers source media steps bodies → AreBodyPlansWithin (spent_of work new) answers source media steps bodies
now_spent None old new answers source media steps bodies stays plans = plans
now_spent (Some work) false new answers source media steps bodies stays plans = plans_spent (spent_of (Some work) new) answers source media steps bodies plans
now_spent (Some work) true new answers source media steps bodies stays plans =
    subst (λ (b : Bool). AreBodyPlansWithin (spent_of (Some work) b) answers source media steps bodies) (sym (stays work refl refl)) plans

pub whole_stays : (work room : Option ℕ) (taken : ℕ) (old new : Bool) → room ≡ left_of work taken → StaysSpent room old new → StaysSpent work old new
whole_stays work room taken old new is stays n bound = stays (n - taken) (is ∙ ap (λ (w : Option ℕ). left_of w taken) bound)

-- one more is planned, with what is left of the bound
pub planned_on : (work room : Option ℕ) (old new : Bool) (a a' : List Answered) → AreAmong a a' → (source : List ℕ) (media rest : List Media) (m : Media) (others : List Media) (taken more : ℕ)
    (bodies : List SheetParts) (body : SheetParts) → room ≡ left_of work taken → StaysSpent room old new → ArePlannedTo (spent_of work old) a source media rest taken bodies → rest ≡ m ∷ others →
    IsBodyPlanWithin (spent_of room new) a' source m more body → ArePlannedTo (spent_of work new) a' source media others (taken + more) (bodies ++ body ∷ [])
planned_on work room old new a a' among source media rest m others taken more bodies body room_is stays (done, is, plans) next plan =
    let left : IsBodyPlanWithin (spent_of (left_of work taken) new) a' source m more body = subst (λ (w : Option ℕ). IsBodyPlanWithin (spent_of w new) a' source m more body) room_is plan in (
      done ++ m ∷ [],
      is ∙ ap (λ (xs : List Media). done ++ xs) next ∙ sym (append_assoc done (m ∷ []) others),
      plans_on (spent_of work new) a' source done taken bodies m more body
          (now_spent work old new a' source done taken bodies (whole_stays work room taken old new room_is stays) (plans_more (spent_of work old) a a' among source done taken bodies plans))
          (record { leads = left.leads; ends = whole_ends work taken new a' (text_at source m.body) body.items left.ends }),
    )

-- what is left of a bound is spent where the bound is
pub left_spent : (work room : Option ℕ) (b : Bool) (answers : List Answered) (taken : ℕ) → room ≡ left_of work taken → IsSpent (spent_of work b) answers taken → IsSpent (spent_of room b) answers 0
left_spent work room b answers taken is spent = subst (λ (w : Option ℕ). IsSpent (spent_of w b) answers 0) (sym is) (which work b spent)
  where
    which : (work : Option ℕ) (b : Bool) → IsSpent (spent_of work b) answers taken → IsSpent (spent_of (left_of work taken) b) answers 0
    which None b spent = tt
    which (Some work) false spent = tt
    which (Some work) true spent = omega (arith, spent)

-- and the bound is where what is left of it is
pub whole_spent : (work room : Option ℕ) (b : Bool) (answers : List Answered) (taken more : ℕ) → room ≡ left_of work taken → IsSpent (spent_of room b) answers more → IsSpent (spent_of work b) answers (taken + more)
whole_spent work room b answers taken more is spent = which work b (subst (λ (w : Option ℕ). IsSpent (spent_of w b) answers more) is spent)
  where
    which : (work : Option ℕ) (b : Bool) → IsSpent (spent_of (left_of work taken) b) answers more → IsSpent (spent_of work b) answers (taken + more)
    which None b spent = tt
    which (Some work) false spent = tt
    which (Some work) true spent = omega (arith, spent)

-- ---- the sheet and its bodies

-- the plan of the sheet, by what is answered for the bodies too, and as it is called if work was spent in these
pub outside_planned : (work room : Option ℕ) (old new : Bool) (a a' : List Answered) → AreAmong a a' → (source : List ℕ) (taken : ℕ) (items items' : List Item) → room ≡ left_of work taken → StaysSpent room old new →
    Leads a source taken items items' → HasEnded (spent_of work old) a source taken items' → IsPlanWithin (spent_of work new) a' source taken items items'
outside_planned work room old new a a' among source taken items items' is stays leads ended =
    plan_more (spent_of work new) a a' among source taken items items' (which work old (whole_stays work room taken old new is stays) (record { leads = leads; ends = ends_by (spent_of work old) a source taken items' ended }))
  where
    which : (work : Option ℕ) (old : Bool) → StaysSpent work old new → IsPlanWithin (spent_of work old) a source taken items items' → IsPlanWithin (spent_of work new) a source taken items items'
    which None old stays plan = plan
    which (Some work) false stays plan = plan_spent (spent_of (Some work) new) a source taken items items' plan
    which (Some work) true stays plan = subst (λ (b : Bool). IsPlanWithin (spent_of (Some work) b) a source taken items items') (sym (stays work refl refl)) plan

-- the plans of bodies with what is left of the bound
pub bodies_planned : (work room : Option ℕ) (b : Bool) (answers : List Answered) (source : List ℕ) (media : List Media) (taken steps : ℕ) (bodies : List SheetParts) → room ≡ left_of work taken →
    AreBodyPlansWithin (spent_of room b) answers source media steps bodies → AreBodyPlansWithin (spent_of work b) answers source media steps bodies
bodies_planned work room b answers source media taken steps bodies is plans =
    each media steps bodies (subst (λ (w : Option ℕ). AreBodyPlansWithin (spent_of w b) answers source media steps bodies) is plans)
  where
    each : (media : List Media) (steps : ℕ) (bodies : List SheetParts) → AreBodyPlansWithin (spent_of (left_of work taken) b) answers source media steps bodies → AreBodyPlansWithin (spent_of work b) answers source media steps bodies
    each [] steps [] plans = plans
    each [] steps (body ∷ bodies) plans = absurd plans
    each (m ∷ media) steps [] plans = absurd plans
    each (m ∷ media) steps (body ∷ bodies) (some, others, plan, rest, is) =
        (some, others, record { leads = plan.leads; ends = whole_ends work taken b answers (text_at source m.body) body.items plan.ends }, each media others bodies rest, is)

-- ---- how many steps there are

module _ (short : PrintedIsNoLonger) where
  -- steps from what was read are no more than its bytes
  pub steps_fit : (answers : List Answered) (source : List ℕ) (steps : ℕ) (old new : List Item) → sheet_of source ≡ Ok old → Leads answers source steps old new → steps ≤ length source
  steps_fit answers source steps old new read leads =
      let shorter : size source new + steps ≤ size source old = leads_shorter answers source steps old new leads in
      let most : size source old ≤ length (printed source old) = (printed_size source old).0 in
      let no_longer : length (printed source old) ≤ length source = short source old read in
      omega (arith, shorter, most, no_longer)

  pub body_steps_fit : (spent : Option ℕ) (answers : List Answered) (source : List ℕ) (media : List Media) (steps : ℕ) (bodies : List SheetParts) → AllByRecursion (IsBlockOf source) media →
      AreBodyPlansWithin spent answers source media steps bodies → steps ≤ bytes_in source media
  body_steps_fit spent answers source [] steps [] blocks plans = omega (arith, plans)
  body_steps_fit spent answers source [] steps (body ∷ bodies) blocks plans = absurd plans
  body_steps_fit spent answers source (m ∷ media) steps [] blocks plans = absurd plans
  body_steps_fit spent answers source (m ∷ media) steps (body ∷ bodies) (block, others) (some, left, plan, rest, is) =
      let first = steps_fit answers (text_at source m.body) some m.sheet.items body.items block.reads plan.leads in
      let later = body_steps_fit spent answers source media left bodies others rest in
      omega (arith, first, later, is)

  all_front : (P : Media → Type 0) (xs ys : List Media) → AllByRecursion P (xs ++ ys) → AllByRecursion P xs
  all_front P [] ys all = tt
  all_front P (x ∷ xs) ys all = (all.0, all_front P xs ys all.1)

  bytes_front : (source : List ℕ) (xs ys : List Media) → bytes_in source xs ≤ bytes_in source (xs ++ ys)
  bytes_front source [] ys = omega arith
  bytes_front source (x ∷ xs) ys = let rest = bytes_front source xs ys in omega (arith, rest)

  -- those in the bodies so far are no more than the bytes of all bodies
  pub planned_fit : (spent : Option ℕ) (answers : List Answered) (source : List ℕ) (media rest : List Media) (taken : ℕ) (bodies : List SheetParts) → AllByRecursion (IsBlockOf source) media →
      ArePlannedTo spent answers source media rest taken bodies → taken ≤ bytes_in source media
  planned_fit spent answers source media rest taken bodies blocks (done, is, plans) =
      let first : taken ≤ bytes_in source done = body_steps_fit spent answers source done taken bodies (all_front (IsBlockOf source) done rest (subst (AllByRecursion (IsBlockOf source)) is blocks)) plans in
      let front : bytes_in source done ≤ bytes_in source media = subst (λ (xs : List Media). bytes_in source done ≤ bytes_in source xs) (sym is) (bytes_front source done rest) in
      omega (arith, first, front)
