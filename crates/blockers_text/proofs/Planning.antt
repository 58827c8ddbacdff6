-- A level that is planned, and the steps that are left.
use Rattle.std.proofs.Common.{◌≡◌, ◌≤◌, ◌<◌, ◌+◌, ◌-◌, ◌^◌, ℕ, suc, List, [], ◌∷◌, ◌++◌, map, length, get_or, take, drop, replicate, Some, refl, sym, ap, ap₂, subst, ◌∙◌, arith, append-nil, append_assoc, length-append}
use Rattle.std.specs.Prelude.{ℤ, pos, ◌-ℤ◌, ◌≤ℤ◌, slice_get}
use Rattle.std.specs.List.{AllByRecursion, AllZip, Contains}
use Rattle.std.proofs.lemmas.Int.{ints}
use Rattle.std.proofs.lemmas.List.{take_rest}
use Rattle.list_facts.proofs.Elements.{all_in, all_with}
use Rattle.blockers_text.specs.declared.tally.Tally.{Tally}
use Rattle.blockers_text.specs.declared.totals.Weighed.{Weighed}
use Rattle.blockers_text.specs.Bounds.{AreBelow}
use Rattle.blockers_text.specs.Later.{Grows, IsLater, TellsEntries, TellsStep, seen}
use Rattle.blockers_text.specs.Levels.{CountsStep, CountsSteps}
use Rattle.blockers_text.specs.Stopping.{AreSettled, entries_of, stopping}
use Rattle.blockers_text.specs.Tallies.{Stopped, counted_each, no_tally, saving, stopped_of, tallies_of, weighed}
use Rattle.blockers_text.proofs.Answered.{later_itself, later_on}
use Rattle.blockers_text.proofs.Counted.{SaveLittle, tallies_below}
use Rattle.blockers_text.proofs.Tallied.{no_tallies, stopping_different, tallies_push}
use Rattle.css_model.specs.declared.sheet.Item.{Item}
use Rattle.css_model.specs.declared.sheet.Item.TheVariants.{Rule}
use Rattle.css_model.specs.Sheets.RuleParts.{RuleParts}
use Rattle.merge_laws.proofs.ForCallers.{leads_shorter}
use Rattle.merge_laws.specs.Merged.{LeadingMakesOf}
use Rattle.merge_plan.specs.Blocked.{AreBlockedSteps, BlockedStep, NamesBlocked}
use Rattle.order_index.specs.Afterwards.{edit_at, edit_by}
use Rattle.order_laws.specs.Edits.{Edit, edited}
use Rattle.order_laws.specs.Reversed.{reversed}
use Rattle.overlap.specs.PairsParts as overlap
use Rattle.overlap.specs.Remembered.{IsTrueList}
use Rattle.plan_laws.specs.Plannable.{IsPlannable}
use Rattle.sheet_order.specs.declared.places.Reversed.{Reversed}
use Rattle.sheet_order.specs.Places.{entry_of}
use Rattle.step_candidates.specs.Saving.{AreSavingSteps, IsSavingStep}
use Rattle.step_laws.specs.declared.step.Step.{Step}
use Rattle.step_laws.specs.Free.{Answered}
use Rattle.step_laws.specs.Leading.{Leads}
use Rattle.step_laws.specs.Left.{IsMadeOf}
use Rattle.step_laws.specs.Sizes.{size}
use Rattle.step_laws.specs.Steps.{HasStep, IsStep, first_item, last_item}
use Rattle.step_savings.proofs.ForCallers.{edit_is, first_rule, last_rule}

-- ---- The edit of a step

pub edit_stands : (items : List Item) (k : Step) (e : Edit) → IsStep items k e → edit_at items k ≡ e
edit_stands items k e is =
    let u : (r : RuleParts) × (slice_get items (first_item k) ≡ Some (Rule r)) = first_rule items k (e, is) in
    let l : (r : RuleParts) × (slice_get items (last_item k) ≡ Some (Rule r)) = last_rule items k (e, is) in
    ap₂ (edit_by k) u.1 l.1 ∙ edit_is items k u.0 l.0 u.1 l.1 e is

step_at : (items : List Item) (k : Step) → HasStep items k → IsStep items k (edit_at items k)
step_at items k has = subst (IsStep items k) (sym (edit_stands items k has.0 has.1)) has.1

-- what it reverses
pub entries_are : (items : List Item) (k : Step) (found : List Reversed) → HasStep items k → ((e : Edit) → IsStep items k e → found ≡ map entry_of (reversed items (edited e items) e.moved)) → found ≡ entries_of items k
entries_are items k found has all = all (edit_at items k) (step_at items k has)

-- what it saves
pub saved_is : (source : List ℕ) (items : List Item) (k : Step) → (is : IsSavingStep source items k) → saving source items k ≡ size source items - size source (edited is.edit items)
saved_is source items k is = ap (λ (e : Edit). size source items - size source (edited e items)) (edit_stands items k is.edit is.step)

pub saves_little : (source : List ℕ) (items : List Item) (k : Step) → size source items ≤ 2 ^ 20 → saving source items k < 2 ^ 32
saves_little source items k short = omega (arith, short)

all_little : (answers : List Answered) (source : List ℕ) (items : List Item) (ks : List Step) → size source items ≤ 2 ^ 20 → SaveLittle (map (stopped_of answers source items) ks)
all_little answers source items [] short = tt
all_little answers source items (k ∷ ks) short = (saves_little source items k short, all_little answers source items ks short)

-- a number of bytes that is told is what is saved
pub saves_by : (m n result : ℕ) (saving : ℤ) → saving ≡ pos m -ℤ pos n → n < m → saving ≤ℤ pos result → (0 < result → saving ≡ pos result) → result ≡ m - n
saves_by m n result saving is less above exact =
    let some : 0 < result = omega (arith, ints) in
    let e : saving ≡ pos result = exact some in
    omega (arith, ints)

pub not_above : (m n most : ℕ) (saving : ℤ) → saving ≡ pos m -ℤ pos n → m ≤ most → saving ≤ℤ pos most
not_above m n most saving is short = omega (arith, ints)

-- ---- One step

pub tells_step : (answers : List Answered) (source : List ℕ) (items : List Item) (k : Step) (saved : ℕ) (entries by : List Reversed) → saved ≡ saving source items k → entries ≡ entries_of items k → TellsEntries answers items entries by →
    TellsStep answers source items k (record { step = k; saved = saved; by = by })
tells_step answers source items k saved entries by is same tells = record {
  is = ap₂ (λ (n : ℕ) (rs : List Reversed). record { step = k; saved = n; by = rs }) (sym is) (ap (stopping answers items) (sym same) ∙ tells.is);
  settled = subst (AreSettled answers items) same tells.settled;
}

pub counts_step : (answers : List Answered) (source : List ℕ) (items : List Item) (k : Step) (s : Stopped) (steps more : List Weighed) (old new : List Tally) → TellsStep answers source items k s → more ≡ steps ++ weighed s ∷ [] → new ≡ counted_each old s.by s →
    CountsStep answers source items k steps more old new
counts_step answers source items k s steps more old new tells pushed counted = record {
  weighed_is = pushed ∙ ap (λ (t : Stopped). steps ++ weighed t ∷ []) (sym tells.is);
  tallies_are = counted ∙ ap (λ (t : Stopped). counted_each old t.by t) (sym tells.is);
  settled = tells.settled;
}

-- ---- One step after the other

pub counts_none : (answers : List Answered) (source : List ℕ) (items : List Item) (steps : List Weighed) (tallies : List Tally) → tallies ≡ tallies_of [] (length items) → CountsSteps answers source items [] steps steps tallies
counts_none answers source items steps tallies none = record { weighed_are = sym (append-nil steps); tallies_are = none; settled = tt }

all_push : {X : Type 0} (P : X → Type 0) (xs : List X) (x : X) → AllByRecursion P xs → P x → AllByRecursion P (xs ++ x ∷ [])
all_push P [] x all one = (one, tt)
all_push P (y ∷ xs) x all one = (all.0, all_push P xs x all.1 one)

map_push : {X Y : Type 0} (f : X → Y) (xs : List X) (x : X) → map f (xs ++ x ∷ []) ≡ map f xs ++ f x ∷ []
map_push f [] x = refl
map_push {Y = Y} f (y ∷ xs) x = ap (λ (ys : List Y). f y ∷ ys) (map_push f xs x)

pub counts_more : (answers : List Answered) (source : List ℕ) (items : List Item) (ks : List Step) (k : Step) (first steps more : List Weighed) (old new : List Tally) →
    CountsSteps answers source items ks first steps old → CountsStep answers source items k steps more old new → CountsSteps answers source items (ks ++ k ∷ []) first more new
counts_more answers source items ks k first steps more old new before one =
    let stopped : Step → Stopped = stopped_of answers source items in
    let all : map (stopped_of answers source items) (ks ++ k ∷ []) ≡ map (stopped_of answers source items) ks ++ stopped_of answers source items k ∷ [] = map_push (stopped_of answers source items) ks k in
    record {
      weighed_are = one.weighed_is
          ∙ ap (λ (ws : List Weighed). ws ++ weighed (stopped_of answers source items k) ∷ []) before.weighed_are
          ∙ append_assoc first (map weighed (map (stopped_of answers source items) ks)) (weighed (stopped_of answers source items k) ∷ [])
          ∙ ap (λ (ws : List Weighed). first ++ ws) (sym (map_push weighed (map (stopped_of answers source items) ks) (stopped_of answers source items k)) ∙ ap (map weighed) (sym all));
      tallies_are = one.tallies_are
          ∙ ap (λ (ts : List Tally). counted_each ts (stopped_of answers source items k).by (stopped_of answers source items k)) before.tallies_are
          ∙ tallies_push (map (stopped_of answers source items) ks) (stopped_of answers source items k) (length items) (stopping_different answers items (entries_of items k))
          ∙ ap (λ (ss : List Stopped). tallies_of ss (length items)) (sym all);
      settled = all_push (λ (j : Step). AreSettled answers items (entries_of items j)) ks k before.settled one.settled;
    }

-- ---- The steps of a plan

abbrev pub steps_in : List BlockedStep → List Step
steps_in blocked = map (λ b. b.0) blocked

zip_steps : (answers : List overlap.Answered) (items : List Item) (ks : List Step) (found : List BlockedStep) → AllZip (NamesBlocked answers items) ks found → steps_in found ≡ ks
zip_steps answers items [] [] are = refl
zip_steps answers items [] (b ∷ found) are = absurd are
zip_steps answers items (k ∷ ks) [] are = absurd are
zip_steps answers items (k ∷ ks) (b ∷ found) are = ap₂ (λ (j : Step) (js : List Step). j ∷ js) (ap (λ (x : BlockedStep). x.0) are.0.entry_is) (zip_steps answers items ks found are.1)

pub blocked_save : (answers : List overlap.Answered) (source : List ℕ) (items : List Item) (found : List BlockedStep) → AreBlockedSteps answers source items found → AreSavingSteps source items (steps_in found)
blocked_save answers source items found (ks, saving, are) = subst (AreSavingSteps source items) (sym (zip_steps answers items ks found are)) saving

all_map : {X Y : Type 0} (P : Y → Type 0) (f : X → Y) (xs : List X) → AllByRecursion P (map f xs) → AllByRecursion (λ x. P (f x)) xs
all_map P f [] all = tt
all_map P f (x ∷ xs) all = (all.0, all_map P f xs all.1)

pub each_saves : (answers : List overlap.Answered) (source : List ℕ) (items : List Item) (found : List BlockedStep) → AreBlockedSteps answers source items found → AllByRecursion (λ b. IsSavingStep source items b.0) found
each_saves answers source items found are =
    all_map (IsSavingStep source items) (λ (b : BlockedStep). b.0) found
    (all_with (Contains (steps_in found)) (IsSavingStep source items) (λ k h. ((blocked_save answers source items found are).exact k).0 h) (steps_in found) (all_in (steps_in found)))

-- ---- The sheet of a plan

pub still_plannable : LeadingMakesOf → (answers : List Answered) (source : List ℕ) (steps : ℕ) (old new : List Item) → IsPlannable source old → Leads answers source steps old new → IsPlannable source new
still_plannable law answers source steps old new plannable leads =
    let made : IsMadeOf source old new = law answers source steps old new plannable.sound plannable.few_items leads in
    let shorter = leads_shorter answers source steps old new leads in
    let short = plannable.short in
    record { read = plannable.read; sound = made.sound; few_items = made.few_items; short = omega (arith, shorter, short) }

-- ---- What is counted so far

-- of these steps all but the last ones are counted, by what is answered later on
abbrev pub CountedSo : List ℕ → List Item → overlap.PairsParts → (blocked rest : List BlockedStep) → (first steps : List Weighed) → List Tally → Type 0
CountedSo source items p blocked rest first steps tallies =
    (done : List Step) × (steps_in blocked ≡ done ++ steps_in rest) × ((later : List Answered) → IsLater (seen p) later → CountsSteps later source items done first steps tallies)

pub counted_none : (source : List ℕ) (items : List Item) (p : overlap.PairsParts) (blocked : List BlockedStep) (first : List Weighed) (tallies : List Tally) → tallies ≡ replicate (length items) no_tally → CountedSo source items p blocked blocked first first tallies
counted_none source items p blocked first tallies none = ([], refl, λ later is. counts_none later source items first tallies (none ∙ no_tallies (length items)))

pub counted_on : (source : List ℕ) (items : List Item) (p q : overlap.PairsParts) → Grows p q → (blocked rest others : List BlockedStep) (b : BlockedStep) (first steps more : List Weighed) (old new : List Tally) → rest ≡ b ∷ others →
    CountedSo source items p blocked rest first steps old → ((later : List Answered) → IsLater (seen q) later → CountsStep later source items b.0 steps more old new) → CountedSo source items q blocked others first more new
counted_on source items p q grows blocked rest others b first steps more old new cut (done, is, counts) one = (
  done ++ b.0 ∷ [],
  is ∙ ap (λ (bs : List BlockedStep). done ++ steps_in bs) cut ∙ sym (append_assoc done (b.0 ∷ []) (steps_in others)),
  λ later l. counts_more later source items done b.0 first steps more old new (counts later (later_on (seen p) (seen q) later grows.among l)) (one later l),
)

length_steps : (blocked : List BlockedStep) → length (steps_in blocked) ≡ length blocked
length_steps [] = refl
length_steps (b ∷ blocked) = ap suc (length_steps blocked)

length_stopped : (answers : List Answered) (source : List ℕ) (items : List Item) (ks : List Step) → length (map (stopped_of answers source items) ks) ≡ length ks
length_stopped answers source items [] = refl
length_stopped answers source items (k ∷ ks) = ap suc (length_stopped answers source items ks)

pub counted_small : (source : List ℕ) (items : List Item) (p : overlap.PairsParts) (blocked rest : List BlockedStep) (first steps : List Weighed) (tallies : List Tally) → size source items ≤ 2 ^ 20 → ∥ IsTrueList p ∥₁ → length blocked < 2 ^ 64 →
    CountedSo source items p blocked rest first steps tallies → (n : ℕ) × (n < 2 ^ 64) × AreBelow n tallies
counted_small source items p blocked rest first steps tallies short all_true few (done, is, counts) =
    let all = map (stopped_of (seen p) source items) done in
    let many : length (map (stopped_of (seen p) source items) done) ≡ length done = length_stopped (seen p) source items done in
    let whole : length blocked ≡ length done + length (steps_in rest) = sym (length_steps blocked) ∙ ap length is ∙ length-append done (steps_in rest) in
    let below : AreBelow (length (map (stopped_of (seen p) source items) done)) tallies =
    subst (AreBelow (length (map (stopped_of (seen p) source items) done))) (sym (counts (seen p) (later_itself p all_true)).tallies_are)
    (tallies_below (map (stopped_of (seen p) source items) done) (length items) (all_little (seen p) source items done short)) in
    (length (map (stopped_of (seen p) source items) done), omega (arith, many, whole, few), below)

pub counted_all : (source : List ℕ) (items : List Item) (p : overlap.PairsParts) (blocked rest : List BlockedStep) (first steps : List Weighed) (tallies : List Tally) → length rest ≤ 0 → CountedSo source items p blocked rest first steps tallies →
    (later : List Answered) → IsLater (seen p) later → CountsSteps later source items (steps_in blocked) first steps tallies
counted_all source items p blocked [] first steps tallies none (done, is, counts) later l =
    subst (λ (ks : List Step). CountsSteps later source items ks first steps tallies) (sym (is ∙ append-nil done)) (counts later l)
counted_all source items p blocked (b ∷ rest) first steps tallies none so later l = absurd (omega (arith, none))

-- ---- The first of a list

pub cut_first : {X : Type 0} (rest : List X) (x : X) → 1 ≤ length rest → x ≡ get_or rest 0 x → rest ≡ x ∷ take (length rest - 1) (drop 1 rest)
cut_first [] x some is = absurd (omega (arith, some))
cut_first {X = X} (y ∷ ys) x some is = ap₂ (λ (z : X) (zs : List X). z ∷ zs) (sym is) (sym (take_rest (y ∷ ys) 1))

pub length_others : {X : Type 0} (rest : List X) → 1 ≤ length rest → length (take (length rest - 1) (drop 1 rest)) + 1 ≡ length rest
length_others [] some = absurd (omega (arith, some))
length_others (y ∷ ys) some =
    let same : length (take (length (y ∷ ys) - 1) (drop 1 (y ∷ ys))) ≡ length ys = ap length (take_rest (y ∷ ys) 1) in
    omega (arith, same)
