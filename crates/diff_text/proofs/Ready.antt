-- What is compared can be printed.
use Rattle.std.proofs.Common.{◌≡◌, ℕ, Bool, true, false, cond, not, List, [], ◌∷◌, ◌++◌, map, Option, Some, None, refl, sym, subst}
use Rattle.std.specs.List.{AllByRecursion, filter}
use Rattle.overlap.specs.PairsParts.{Answered, PairsParts}
use Rattle.overlap.specs.Remembered.{IsTrueList}
use Rattle.sheet_members.proofs.ForCallers.{commons_ready, lacking_ready, marked_ready, members_ready}
use Rattle.sheet_members.specs.Compared.{Common, all_marked, has_member}
use Rattle.sheet_members.specs.Members.{members_of}
use Rattle.sheet_members.specs.Occurrences.{Occurrence}
use Rattle.sheet_members.specs.Ready.{AreReady, IsReady, IsReadyCommon}
use Rattle.turned_members.specs.Telling.{AreTold, StepsBy, Told, is_passed, told_with}
use Rattle.turned_members.specs.declared.verdict.Verdict.{Verdict}
use Rattle.turned_members.specs.Turned.{Couple, couple, is_turned, turned, turned_with}
use Rattle.diff_text.specs.Laid.{compared_in}
use Rattle.diff_text.specs.Lines.{Sides}
use Rattle.diff_text.specs.Shown.{AreReadySides, IsReadyCompared, IsReadyTold, IsShownIn}
use Rattle.diff_text.proofs.Shown.{all_shown}

-- ---- Members

marked_in : (os ps : List Occurrence) → AllByRecursion IsReady os → AreReady (all_marked (members_of ps) (members_of os))
marked_in os ps h = marked_ready (members_of ps) (members_of os) (members_ready os h)

pub compared_ready : (x : Sides) → AreReadySides x → IsReadyCompared (compared_in x)
compared_ready x h =
    let mine = all_marked (members_of x.others) (members_of x.occurrences) in
    let yours = all_marked (members_of x.occurrences) (members_of x.others) in
    let first : AreReady mine = marked_in x.occurrences x.others h.0 in
    let second : AreReady yours = marked_in x.others x.occurrences h.1 in
    record {
      commons = commons_ready mine yours first second;
      missing = lacking_ready (λ m. not (has_member yours m.label)) mine first;
      extra = lacking_ready (λ m. not (has_member mine m.label)) yours second;
    }

-- ---- Couples

record IsReadyCouple (c : Couple) : Type 0 where
  first : IsReadyCommon c.first
  second : IsReadyCommon c.second

all_append : {X : Type 0} (P : X → Type 0) (xs ys : List X) → AllByRecursion P xs → AllByRecursion P ys → AllByRecursion P (xs ++ ys)
all_append P [] ys h g = g
all_append P (x ∷ xs) ys h g = (h.0, all_append P xs ys h.1 g)

with_ready : (c : Common) (ds : List Common) → IsReadyCommon c → AllByRecursion IsReadyCommon ds → AllByRecursion IsReadyCouple (turned_with c ds)
with_ready c [] h g = tt
with_ready c (d ∷ ds) h g = which (is_turned c d) (with_ready c ds h g.1)
  where
    which : (b : Bool) → AllByRecursion IsReadyCouple (turned_with c ds) → AllByRecursion IsReadyCouple (map (couple c) (cond b (d ∷ filter (is_turned c) ds) (filter (is_turned c) ds)))
    which true rest = (record { first = h; second = g.0 }, rest)
    which false rest = rest

couples_ready : (cs : List Common) → AllByRecursion IsReadyCommon cs → AllByRecursion IsReadyCouple (turned cs)
couples_ready [] h = tt
couples_ready (c ∷ cs) h = all_append IsReadyCouple (turned_with c cs) (turned cs) (with_ready c cs h.0 h.1) (couples_ready cs h.1)

abbrev IsOfReady : Told → Type 0
IsOfReady t = IsReadyCouple t.couple

found_ready : (told : List Told) (c : Couple) → IsReadyCouple c → AllByRecursion IsOfReady told → (v : Verdict) → AllByRecursion IsOfReady (told ++ record { couple = c; verdict = v } ∷ [])
found_ready [] c h g v = (h, tt)
found_ready (t ∷ told) c h g v = (g.0, found_ready told c h g.1 v)

step_ready : (held : List Answered) (passed : Bool) (told : List Told) (c : Couple) (new : List Told) → IsReadyCouple c → StepsBy passed held told c new → AllByRecursion IsOfReady told → AllByRecursion IsOfReady new
step_ready held true told c new h steps g = subst (AllByRecursion IsOfReady) (sym steps) g
step_ready held false told c new h steps g = subst (AllByRecursion IsOfReady) (sym steps.2) (which steps.0)
  where
    which : (found : Option Verdict) → AllByRecursion IsOfReady (told_with told c found)
    which None = g
    which (Some v) = found_ready told c h g v

steps_ready : (held : List Answered) (limit : ℕ) (told : List Told) (cs : List Couple) (all : List Told) → AllByRecursion IsReadyCouple cs → AreTold held limit told cs all → AllByRecursion IsOfReady told → AllByRecursion IsOfReady all
steps_ready held limit told [] all h is g = subst (AllByRecursion IsOfReady) (sym is) g
steps_ready held limit told (c ∷ cs) all h is g = steps_ready held limit is.0 cs all h.1 is.2 (step_ready held (is_passed limit told c) told c is.0 h.0 is.1 g)

joined : (all : List Told) → AllByRecursion IsOfReady all → AllByRecursion (λ t. ∥ IsShownIn t.verdict ∥₁) all → AllByRecursion IsReadyTold all
joined [] h g = tt
joined (t ∷ all) h g = (record { shown = g.0; first = h.0.first; second = h.0.second }, joined all h.1 g.1)

pub told_ready : (pairs : PairsParts) → ∥ IsTrueList pairs ∥₁ → (limit : ℕ) (cs : List Common) (all : List Told) → AllByRecursion IsReadyCommon cs → AreTold pairs.answers limit [] (turned cs) all → AllByRecursion IsReadyTold all
told_ready pairs all_true limit cs all h is = joined all (steps_ready pairs.answers limit [] (turned cs) all (couples_ready cs h) is tt) (all_shown pairs all_true limit (turned cs) all is)
