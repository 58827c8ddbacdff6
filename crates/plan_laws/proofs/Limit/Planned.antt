-- A planned sheet comes from the one that is read.
use Rattle.std.proofs.Common.{ℕ, zero, suc, ◌+◌, ◌*◌, ◌≤◌, List, [], ◌∷◌, length, sym, subst, arith}
use Rattle.std.specs.List.{AllByRecursion}
use Rattle.std.proofs.lemmas.List.{length-map}
use Rattle.css_model.specs.declared.sheet.Item.{Item}
use Rattle.css_model.specs.declared.sheet.Item.TheVariants.{Rule, KeptRule, KeptBlock}
use Rattle.css_model.specs.declared.sheet.SelItem.{SelItem}
use Rattle.css_model.specs.Sheets.ComesFrom.{ComesFrom, pair_count}
use Rattle.css_model.specs.Sheets.Limits.{max_items, max_pairs}
use Rattle.css_model.specs.Sheets.Sound.{IsSound}
use Rattle.order_laws.proofs.ForCallers.{sels}
use Rattle.order_laws.specs.Edits.{edited}
use Rattle.step_laws.proofs.ForCallers.{makes_of, made_of_itself}
use Rattle.step_laws.specs.Free.{Answered}
use Rattle.step_laws.specs.Leading.{Leads, IsDone}
use Rattle.step_laws.specs.Left.{IsMadeOf}
use Rattle.plan_laws.proofs.Limit.Once.{no_longer, once_in, each_is_once, in_once}
use Rattle.plan_laws.proofs.Limit.PairCounts.{more_times}
use Rattle.plan_laws.proofs.Limit.PairSteps.{pairs_stay_few}
use Rattle.plan_laws.proofs.Limit.Repeats.{repeats_are_cut}
use Rattle.plan_laws.specs.Limit.PairLimit.{IsOnce, each_once, pairs_once, RepeatsNoSelector}

-- selectors are no fewer than those that count
once_fewer : (ss : List SelItem) → length (each_once ss) ≤ length ss
once_fewer ss =
    let a : length (sels (each_once ss)) ≤ length (sels ss) = no_longer (sels (each_once ss)) (sels ss) (each_is_once ss) (once_in ss) in
    omega (arith, a, length-map (each_once ss) (λ s. s.selector), length-map ss (λ s. s.selector))

-- and where none is repeated, no more
once_all : (ss : List SelItem) → IsOnce (sels ss) → length ss ≤ length (each_once ss)
once_all ss once =
    let a : length (sels ss) ≤ length (sels (each_once ss)) = no_longer (sels ss) (sels (each_once ss)) once (in_once ss) in
    omega (arith, a, length-map (each_once ss) (λ s. s.selector), length-map ss (λ s. s.selector))

counted_once : (items : List Item) → pairs_once items ≤ pair_count items
counted_once [] = omega arith
counted_once (Rule r ∷ items) =
    let ih : pairs_once items ≤ pair_count items = counted_once items in
    let a : length (each_once r.selectors) * length r.decls ≤ length r.selectors * length r.decls = more_times (length (each_once r.selectors)) (length r.selectors) (length r.decls) (length r.decls) (once_fewer r.selectors) (omega arith) in
    let e : length (each_once r.selectors) * length r.decls + pairs_once items ≤ length r.selectors * length r.decls + pair_count items = omega (arith, a, ih) in
    e
counted_once (KeptRule k ∷ items) = let ih : pairs_once items ≤ pair_count items = counted_once items in let e : pairs_once items ≤ 0 + pair_count items = omega (arith, ih) in e
counted_once (KeptBlock piece ∷ items) = let ih : pairs_once items ≤ pair_count items = counted_once items in let e : pairs_once items ≤ 0 + pair_count items = omega (arith, ih) in e

counted_all : (items : List Item) → AllByRecursion RepeatsNoSelector items → pair_count items ≤ pairs_once items
counted_all [] all = omega arith
counted_all (Rule r ∷ items) all =
    let ih : pair_count items ≤ pairs_once items = counted_all items all.1 in
    let a : length r.selectors * length r.decls ≤ length (each_once r.selectors) * length r.decls = more_times (length r.selectors) (length (each_once r.selectors)) (length r.decls) (length r.decls) (once_all r.selectors all.0) (omega arith) in
    let e : length r.selectors * length r.decls + pair_count items ≤ length (each_once r.selectors) * length r.decls + pairs_once items = omega (arith, a, ih) in
    e
counted_all (KeptRule k ∷ items) all = let ih : pair_count items ≤ pairs_once items = counted_all items all.1 in let e : 0 + pair_count items ≤ pairs_once items = omega (arith, ih) in e
counted_all (KeptBlock piece ∷ items) all = let ih : pair_count items ≤ pairs_once items = counted_all items all.1 in let e : 0 + pair_count items ≤ pairs_once items = omega (arith, ih) in e

-- what steps lead to is made of the sheet, with no more pairs
leads_made : (answers : List Answered) (source : List ℕ) (steps : ℕ) (old new : List Item) → IsMadeOf source old old → Leads answers source steps old new →
    IsMadeOf source old new × (pairs_once new ≤ pairs_once old)
leads_made answers source zero old new made candidates =
    (subst (IsMadeOf source old) candidates made, subst (λ (xs : List Item). pairs_once xs ≤ pairs_once old) candidates (omega arith))
leads_made answers source (suc steps) old new made candidates =
    let between : List Item = candidates.0 in
    let ih : IsMadeOf source old between × (pairs_once between ≤ pairs_once old) = leads_made answers source steps old between made candidates.1 in
    let takes = candidates.2 in
    let is = takes.2.step in
    let made_next : IsMadeOf source old (edited takes.1 between) = makes_of source old between takes.0 takes.1 is ih.0 in
    let few : pairs_once (edited takes.1 between) ≤ pairs_once between = pairs_stay_few between takes.0 takes.1 is in
    (subst (IsMadeOf source old) (sym takes.3) made_next, subst (λ (xs : List Item). pairs_once xs ≤ pairs_once old) (sym takes.3) (omega (arith, few, ih.1)))

pub planned_comes_from : (answers : List Answered) (source : List ℕ) (steps : ℕ) (old new : List Item) →
    IsSound source old → length old ≤ max_items → pair_count old ≤ max_pairs →
    Leads answers source steps old new → IsDone answers source new → ComesFrom source old new
planned_comes_from answers source count old new sound few few' candidates done =
    let made = leads_made answers source count old new (made_of_itself source old sound few) candidates in
    let all : AllByRecursion RepeatsNoSelector new = repeats_are_cut answers source new made.0.sound done in
    let a : pair_count new ≤ pairs_once new = counted_all new all in
    let b : pairs_once old ≤ pair_count old = counted_once old in
    record { sound = made.0.sound; follows = made.0.follows; few_items = made.0.few_items; few_pairs = omega (arith, a, made.1, b, few') }
