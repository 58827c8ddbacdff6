-- Why the steps that remain are blocked.
use Rattle.std.proofs.Common.{◌≡◌, ◌<◌, ◌⊎◌, inl, inr, ℕ, Bool, true, false, nat_lt, List, [], ◌∷◌, Ok, map, refl, sym, ◌∙◌, ap, subst, arith}
use Rattle.std.proofs.Math.Logic.{∥∥₁_map}
use Rattle.std.proofs.lemmas.Bool.{false≢true}
use Rattle.std.proofs.lemmas.List.Elements.{All-contains}
use Rattle.std.specs.Bool.{MatchBool}
use Rattle.std.specs.List.{AllByRecursion}
use Rattle.css_model.specs.declared.sheet.Item.{Item}
use Rattle.css_model.specs.Documents.Matching.{same_pseudo}
use Rattle.css_model.specs.Documents.SelectorParts.{SelectorParts}
use Rattle.css_model.specs.Sheets.Limits.{max_stepped}
use Rattle.css_model.specs.Sheets.Sheet.{sheet_of}
use Rattle.css_model.specs.Text.Source.{text_at}
use Rattle.media_groups.specs.declared.media.Media.{Media}
use Rattle.media_groups.specs.Opened.{opened_of}
use Rattle.opened_merge_laws.specs.Merged.{IsMergedOpened}
use Rattle.order_laws.proofs.ForCallers.{map_from}
use Rattle.order_laws.specs.Edits.{Edit}
use Rattle.overlap.specs.Answers.{IsDecided, IsFewAnswer, IsTrueAnswer, pair_stepped, too_many_stepped}
use Rattle.overlap.specs.declared.answer.Answer.{Answer}
use Rattle.overlap.specs.declared.answer.Answer.TheVariants.{Apart, Meet, Outside, Spent}
use Rattle.overlap.specs.PairsParts.{Answered, PairsParts}
use Rattle.overlap.specs.Remembered.{IsAnswered, IsTrueList}
use Rattle.sheet_order.specs.Laws.{answer_seen, is_apart}
use Rattle.step_laws.specs.Free as steps
use Rattle.step_laws.specs.Leading.{IsDone}
use Rattle.remaining_laws.specs.Remaining.{EachIsBlocked, Hinders, OnlyBlockedRemain, WhyBlocked, kept_item, two_pairs}

-- ---- Answers

decided_hinders : (x y : SelectorParts) (budget : ℕ) (answer : Answer) → IsDecided x y budget answer → is_apart answer ≡ false → Hinders x y budget answer
decided_hinders x y budget Apart decided other = absurd (false≢true (sym other))
decided_hinders x y budget (Meet e) decided other = decided.0.0
decided_hinders x y budget (Outside reason number) decided other = absurd decided
decided_hinders x y budget (Spent ledger) decided other = decided.1

above : (m n : ℕ) → nat_lt m n ≡ true → m < n
above m n h = grind (arith, h)

-- a true answer but `Apart` hinders
hinders : (x y : SelectorParts) (budget : ℕ) (answer : Answer) → IsTrueAnswer x y budget answer → is_apart answer ≡ false → Hinders x y budget answer
hinders x y budget answer h other = by (same_pseudo x.pseudo y.pseudo) (nat_lt max_stepped (pair_stepped x y)) refl h
  where
    by : (p q : Bool) → nat_lt max_stepped (pair_stepped x y) ≡ q → MatchBool p (MatchBool q (answer ≡ Outside too_many_stepped (pair_stepped x y)) (IsFewAnswer x y budget answer)) (answer ≡ Apart) → Hinders x y budget answer
    by true true many is = subst (λ (a : Answer). Hinders x y budget a) (sym is) (inl (refl, refl, above max_stepped (pair_stepped x y) many))
    by true false few (inl lacking) = subst (λ (a : Answer). Hinders x y budget a) (sym lacking.1) (inr (refl, refl, lacking.0))
    by true false few (inr decided) = decided_hinders x y budget answer decided.1 other
    by false q some is = absurd (false≢true (sym other ∙ ap is_apart is))

-- an answer that is seen not to be `Apart` is held, and it is another one
seen : (answers : List Answered) (x y : SelectorParts) → steps.AreNotApart (map answer_seen answers) x y → (answer : Answer) × IsAnswered answers x y answer × (is_apart answer ≡ false)
seen answers x y other =
    let from = map_from answer_seen answers (record { first = x; second = y; is_apart = false }) other in
    let left : from.0.left ≡ x = ap (λ (a : steps.Answered). a.first) from.2 in
    let right : from.0.right ≡ y = ap (λ (a : steps.Answered). a.second) from.2 in (
      from.0.answer,
      subst (λ (l : SelectorParts). IsAnswered answers l y from.0.answer) left (subst (λ (r : SelectorParts). IsAnswered answers from.0.left r from.0.answer) right from.1),
      ap (λ (a : steps.Answered). a.is_apart) from.2,
    )

-- ---- Steps

why : (pairs : PairsParts) → ∥ IsTrueList pairs ∥₁ → (items : List Item) (e : Edit) → steps.IsBlocked (map answer_seen pairs.answers) items e → WhyBlocked pairs items e
why pairs all_true items e (steps.by_kept p number reverses) = kept_item p number reverses
why pairs all_true items e (steps.by_pair p q reverses other) =
    let held = seen pairs.answers p.selector q.selector other in
    two_pairs p q held.0 reverses held.1
    (∥∥₁_map all_true (λ t. hinders p.selector q.selector pairs.budget held.0
    (All-contains (λ (a : Answered). IsTrueAnswer a.left a.right pairs.budget a.answer) pairs.answers (record { left = p.selector; right = q.selector; answer = held.0 }) t.true_answers held.1) held.2))

each : (pairs : PairsParts) → ∥ IsTrueList pairs ∥₁ → (source : List ℕ) (items : List Item) → IsDone (map answer_seen pairs.answers) source items → EachIsBlocked pairs source items
each pairs all_true source items done = λ k e saving step saves some. why pairs all_true items e (done k e saving step saves some)

each_inside : (pairs : PairsParts) → ∥ IsTrueList pairs ∥₁ → (source : List ℕ) (media : List Media) → AllByRecursion (λ m. IsDone (map answer_seen pairs.answers) (text_at source m.body) m.sheet.items) media →
    AllByRecursion (λ m. EachIsBlocked pairs (text_at source m.body) m.sheet.items) media
each_inside pairs all_true source [] done = tt
each_inside pairs all_true source (m ∷ media) done = (each pairs all_true (text_at source m.body) m.sheet.items done.0, each_inside pairs all_true source media done.1)

pub blocked : (pairs : PairsParts) → ∥ IsTrueList pairs ∥₁ → (read written : List ℕ) (items : List Item) → IsMergedOpened (map answer_seen pairs.answers) read written → sheet_of written ≡ Ok items → OnlyBlockedRemain pairs written items
blocked pairs all_true read written items merged is =
    let same : merged.again ≡ items = (let again : sheet_of written ≡ Ok merged.again = merged.again_read in cc) in
    subst (λ (found : List Item). OnlyBlockedRemain pairs written found) same (record {
      outside = each pairs all_true written merged.again merged.planned.done.outside;
      inside = each_inside pairs all_true written (opened_of merged.again written) merged.planned.done.inside;
    })
