-- The blocked steps, while more is answered and more steps are looked at.
use Rattle.std.proofs.Common.{◌≡◌, ◌+◌, ◌-◌, ◌<◌, ℕ, List, [], ◌∷◌, ◌++◌, length, get_or, take, refl, sym, subst, arith}
use Rattle.std.proofs.lemmas.List.{take_more}
use Rattle.std.specs.List.{AllZip}
use Rattle.css_model.specs.declared.sheet.Item.{Item}
use Rattle.merge_plan.proofs.Answering.{first_more}
use Rattle.merge_plan.specs.Blocked.{AreBlocked, BlockedStep, IsCauseOf, NamesBlocked}
use Rattle.order_laws.specs.Edits.{Edit, edited}
use Rattle.overlap.specs.PairsParts.{Answered, PairsParts}
use Rattle.sheet_order.specs.Allowing.{Stays}
use Rattle.step_candidates.specs.Saving.{AreSavingSteps, IsSavingStep}
use Rattle.step_laws.specs.declared.cause.BlockCause.{BlockCause}
use Rattle.step_laws.specs.declared.step.Step.{Step}
use Rattle.step_laws.specs.Free as steps
use Rattle.step_laws.specs.Leading.{IsDone}
use Rattle.step_laws.specs.Left.{StepsAreOneEdit}
use Rattle.step_laws.specs.Sizes.{Saves, size}
use Rattle.step_laws.specs.Steps.{IsStep}

module _ (p q : PairsParts) (stays : Stays p q) where
  names_more : (items : List Item) (k : Step) (entry : BlockedStep) → NamesBlocked p.answers items k entry → NamesBlocked q.answers items k entry
  names_more items k entry is = record { cause = is.cause; entry_is = is.entry_is; cause_is = λ e step. first_more p q stays _ is.cause (is.cause_is e step) }

  -- what is blocked stays so
  all_more : (items : List Item) (ks : List Step) (found : List BlockedStep) → AllZip (NamesBlocked p.answers items) ks found → AllZip (NamesBlocked q.answers items) ks found
  all_more items [] [] are = tt
  all_more items [] (entry ∷ found) are = absurd are
  all_more items (k ∷ ks) [] are = absurd are
  all_more items (k ∷ ks) (entry ∷ found) are = (names_more items k entry are.0, all_more items ks found are.1)

-- one step more is looked at
one_more : (answers : List Answered) (items : List Item) (k : Step) (entry : BlockedStep) → NamesBlocked answers items k entry → (ks : List Step) (found : List BlockedStep) →
    AllZip (NamesBlocked answers items) ks found → AllZip (NamesBlocked answers items) (ks ++ k ∷ []) (found ++ entry ∷ [])
one_more answers items k entry is [] [] are = (is, tt)
one_more answers items k entry is [] (x ∷ found) are = absurd are
one_more answers items k entry is (j ∷ ks) [] are = absurd are
one_more answers items k entry is (j ∷ ks) (x ∷ found) are = (are.0, one_more answers items k entry is ks found are.1)

-- the step of this number is looked at
pub step_more : (p q : PairsParts) → Stays p q → (items : List Item) (list : List Step) (i : ℕ) (d : Step) → i < length list → (cause : BlockCause) → IsCauseOf q.answers items (get_or list i d) cause →
    (found found' : List BlockedStep) → AllZip (NamesBlocked p.answers items) (take i list) found → found' ≡ found ++ (get_or list i d, cause) ∷ [] → AllZip (NamesBlocked q.answers items) (take (i + 1) list) found'
step_more p q stays items list i d here cause is found found' are pushed =
    subst (λ (ks : List Step). AllZip (NamesBlocked q.answers items) ks found') (sym (take_more list i d here))
    (subst (λ (xs : List BlockedStep). AllZip (NamesBlocked q.answers items) (take i list ++ get_or list i d ∷ []) xs) (sym pushed)
    (one_more q.answers items (get_or list i d) (get_or list i d, cause) (record { cause = cause; entry_is = refl; cause_is = is }) (take i list) found (all_more p q stays items (take i list) found are)))

-- ---- All steps that save something

-- where nothing is left to do, they are blocked
pub saving_blocked : StepsAreOneEdit → (answers : List steps.Answered) (source : List ℕ) (items : List Item) (list : List Step) → AreSavingSteps source items list → IsDone answers source items → AreBlocked answers items list
saving_blocked one answers source items list saving done k inside = ((s.edit, s.step), blocked)
  where
    s : IsSavingStep source items k
    s = (saving.exact k).0 inside

    blocked : (e : Edit) → IsStep items k e → steps.IsBlocked answers items e
    blocked e step =
        let less : size source (edited e items) < size source items = subst (λ (d : Edit). size source (edited d items) < size source items) (one items k s.edit e s.step step) s.shorter in
        let saves : Saves source items e (size source items - size source (edited e items)) = omega (arith, less) in
        done k e (size source items - size source (edited e items)) step saves (omega (arith, less))
