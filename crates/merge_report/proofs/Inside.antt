-- The steps that remain inside opened blocks, one block after the other.
use Rattle.std.proofs.Common.{◌≡◌, ◌≤◌, ◌-◌, ℕ, List, [], ◌∷◌, ◌++◌, map, length, take, drop, get_or, Some, None, Result, Ok, Err, refl, sym, ◌∙◌, ap, ap₂, subst, append_assoc, append-nil, arith}
use Rattle.std.specs.Prelude.{IfOk}
use Rattle.std.specs.List.{AllByRecursion}
use Rattle.std.proofs.lemmas.List.{take_rest}
use Rattle.css_model.specs.declared.sheet.Item.{Item}
use Rattle.css_model.specs.Sheets.Sheet.{sheet_of}
use Rattle.css_model.specs.Text.Source.{text_at}
use Rattle.media_groups.specs.declared.media.Media.{Media}
use Rattle.media_groups.specs.Laws.{IsBlockOf}
use Rattle.media_groups.specs.Opened.{opened_of}
use Rattle.merge_laws.specs.Reading.{ReadIsPlannable}
use Rattle.merge_plan.proofs.ForCallers.{done_more}
use Rattle.merge_report.specs.Remaining.{AreRemaining, AreRemainingInside, AreRemainingOpened, Entry}
use Rattle.merge_report.proofs.Growing.{all_more, inside_more}
use Rattle.overlap.specs.PairsParts.{Answered, PairsParts}
use Rattle.plan_laws.specs.Plannable.{IsPlannable}
use Rattle.sheet_order.specs.Allowing.{Stays}
use Rattle.sheet_order.specs.Laws.{answer_seen}
use Rattle.step_laws.specs.Free as steps
use Rattle.step_laws.specs.Leading.{IsDone}

-- ---- one block

-- its body can be planned by its own bytes
pub body_plannable : ReadIsPlannable → (source text : List ℕ) (m : Media) → IsBlockOf source m → text ≡ text_at source m.body → IsPlannable text m.sheet.items
body_plannable law source text m block is = law text m.sheet.items (ap sheet_of is ∙ block.reads)

pub body_done : (answers : List steps.Answered) (source text : List ℕ) (m : Media) → text ≡ text_at source m.body → IsDone answers (text_at source m.body) m.sheet.items → IsDone answers text m.sheet.items
body_done answers source text m is done = subst (λ (bytes : List ℕ). IsDone answers bytes m.sheet.items) (sym is) done

pub body_remains : {X E : Type 0} (result : Result X E) (found : X → List Entry) (answers : List Answered) (source text : List ℕ) (m : Media) → text ≡ text_at source m.body →
    IfOk result (λ x. AreRemaining answers text m.sheet.items (Some m.item) (found x)) → IfOk result (λ x. AreRemaining answers (text_at source m.body) m.sheet.items (Some m.item) (found x))
body_remains (Ok x) found answers source text m is are = subst (λ (bytes : List ℕ). AreRemaining answers bytes m.sheet.items (Some m.item) (found x)) is are
body_remains (Err e) found answers source text m is are = tt

-- ---- one block after the other

-- nothing is left to do in the bodies of blocks
abbrev pub AreDone : List steps.Answered → List ℕ → List Media → Type 0
AreDone answers source media = AllByRecursion (λ m. IsDone answers (text_at source m.body) m.sheet.items) media

pub all_done_more : (p q : PairsParts) → Stays p q → (source : List ℕ) (media : List Media) → AreDone (map answer_seen p.answers) source media → AreDone (map answer_seen q.answers) source media
all_done_more p q stays source [] all = tt
all_done_more p q stays source (m ∷ media) (one, rest) = (done_more p q stays (text_at source m.body) m.sheet.items one, all_done_more p q stays source media rest)

-- of the blocks but for these last ones those that remain are found
abbrev pub AreFoundTo : List Answered → List ℕ → List Media → List Media → List Entry → Type 0
AreFoundTo answers source media rest found = (passed : List Media) × (media ≡ passed ++ rest) × AreRemainingInside answers source passed found

-- the first of them, and those behind it
pub cut_media : (rest : List Media) (m : Media) → 1 ≤ length rest → m ≡ get_or rest 0 m → rest ≡ m ∷ take (length rest - 1) (drop 1 rest)
cut_media [] m some is = absurd (omega (arith, some))
cut_media (x ∷ xs) m some is = ap₂ (λ (y : Media) (ys : List Media). y ∷ ys) (sym is) (sym (take_rest (x ∷ xs) 1))

inside_on : (answers : List Answered) (source : List ℕ) (passed : List Media) (m : Media) (found more : List Entry) → AreRemainingInside answers source passed found →
    AreRemaining answers (text_at source m.body) m.sheet.items (Some m.item) more → AreRemainingInside answers source (passed ++ m ∷ []) (found ++ more)
inside_on answers source [] m found more none own = (more, [], ap (λ (xs : List Entry). xs ++ more) none ∙ sym (append-nil more), own, refl)
inside_on answers source (x ∷ passed) m found more (first, others, is, one, rest) own =
    (first, others ++ more, ap (λ (xs : List Entry). xs ++ more) is ∙ append_assoc first others more, one, inside_on answers source passed m others more rest own)

pub found_on : (p q : PairsParts) → Stays p q → (source : List ℕ) (media rest : List Media) (m : Media) (others : List Media) (found found' more : List Entry) →
    AreFoundTo p.answers source media rest found → rest ≡ m ∷ others → AreRemaining q.answers (text_at source m.body) m.sheet.items (Some m.item) more → found' ≡ found ++ more →
    AreFoundTo q.answers source media others found'
found_on p q stays source media rest m others found found' more (passed, is, are) cut own pushed = (
  passed ++ m ∷ [],
  is ∙ ap (λ (xs : List Media). passed ++ xs) cut ∙ sym (append_assoc passed (m ∷ []) others),
  subst (AreRemainingInside q.answers source (passed ++ m ∷ [])) (sym pushed) (inside_on q.answers source passed m found more (inside_more p q stays source passed found are) own),
)

-- ---- the whole sheet

pub opened_remain : (p q : PairsParts) → Stays p q → (source : List ℕ) (items : List Item) (media : List Media) (outside inside found : List Entry) → media ≡ opened_of items source →
    AreRemaining p.answers source items None outside → AreRemainingInside q.answers source media inside → found ≡ outside ++ inside → AreRemainingOpened q.answers source items found
opened_remain p q stays source items media outside inside found same are_outside are_inside is = record {
  outside = outside;
  inside = inside;
  found_is = is;
  are_outside = all_more p q stays source items None outside are_outside;
  are_inside = subst (λ (xs : List Media). AreRemainingInside q.answers source xs inside) same are_inside;
}
