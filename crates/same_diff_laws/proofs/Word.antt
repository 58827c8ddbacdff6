-- Where `same` is told of two sheets, nothing is told by `diff`.
use Rattle.std.proofs.Common.{◌≡◌, ℕ, Bool, true, false, List, [], ◌∷◌, Option, Some, None, Ok, refl, sym, ap, ◌∙◌, subst}
use Rattle.std.specs.Prelude.{codes, if◌then◌else◌}
use Rattle.std.specs.List.{Contains}
use Rattle.css_model.specs.declared.sheet.Item.{Item}
use Rattle.css_model.specs.Documents.SelectorParts.{SelectorParts}
use Rattle.css_model.specs.Sheets.Sheet.{sheet_of}
use Rattle.diff_laws.proofs.ForCallers.{AllTally}
use Rattle.diff_text.specs.DiffTexts as diff
use Rattle.diff_text.specs.Lines.{Sides}
use Rattle.list_facts.proofs.Members.{Contains-here, Contains-there}
use Rattle.overlap.specs.declared.answer.Answer.{Answer}
use Rattle.overlap.specs.declared.answer.Answer.TheVariants as answers
use Rattle.overlap.specs.Laws.{ApartSelectorsDoNotMeet}
use Rattle.overlap.specs.PairsParts.{PairsParts}
use Rattle.overlap.specs.Remembered.{IsAnswered, IsTrueList}
use Rattle.same_laws.specs.Same.{AreSame}
use Rattle.same_text.proofs.ForCallers.{difference_is_nothing}
use Rattle.same_text.specs.SameTexts as same
use Rattle.sheet_members.specs.Compared.{Common, Compared, changed, compared}
use Rattle.sheet_members.specs.Members.{Member}
use Rattle.sheet_members.specs.Occurrences.{Kept, Paired, Part}
use Rattle.sheet_same.specs.Compared.{IsDifference}
use Rattle.sheet_same.specs.declared.compared.Difference.{Difference}
use Rattle.turned_members.specs.declared.verdict.Verdict.{Verdict}
use Rattle.turned_members.specs.declared.verdict.Verdict.TheVariants as verdicts
use Rattle.turned_members.specs.Telling.{AreJudged, AreTold, IsJudged, StepsBy, Told, is_passed, told_with, verdict_by}
use Rattle.turned_members.specs.Turned.{Couple, turned}
use Rattle.same_diff_laws.specs.Same.{NothingIsFound}
use Rattle.same_diff_laws.specs.Texts.{SameTextsDifferInNothing, SpendsNoMore}
use Rattle.same_diff_laws.proofs.Answered.{never_meet, never_outside}
use Rattle.same_diff_laws.proofs.Facts.{Laws}
use Rattle.same_diff_laws.proofs.Nothing.{differ_in_nothing}

verdict_apart : (answer : Answer) → verdict_by answer ≡ None → answer ≡ answers.Apart
verdict_apart answers.Apart h = refl
verdict_apart (answers.Meet e) h = absurd (let f : Some (verdicts.Meet e) ≡ None = h in cc)
verdict_apart (answers.Outside reason number) h = absurd (let f : Some (verdicts.Outside reason) ≡ None = h in cc)
verdict_apart (answers.Spent ledger) h = absurd (let f : Some verdicts.Spent ≡ None = h in cc)

module _ (law : ApartSelectorsDoNotMeet) (pairs others : PairsParts) (true_list : ∥ IsTrueList pairs ∥₁) (all_true : ∥ IsTrueList others ∥₁) (spends : SpendsNoMore pairs.answers others.answers) where
  -- what is found by other answers where one says apart
  same_found : (x y : SelectorParts) (answer : Answer) → IsAnswered pairs.answers x y answers.Apart → IsAnswered others.answers x y answer → verdict_by answer ≡ None
  same_found x y answers.Apart h g = refl
  same_found x y (answers.Meet e) h g = absurd (never_meet law pairs others true_list all_true x y e h g)
  same_found x y (answers.Outside reason number) h g = absurd (never_outside law pairs others true_list all_true x y reason number h g)
  same_found x y (answers.Spent ledger) h g = absurd (spends x y ledger h g)

  same_judged : (q r : Part) (found : Option Verdict) → AreJudged pairs.answers q r None → AreJudged others.answers q r found → found ≡ None
  same_judged (Paired s d) (Paired s' d') found j g =
      sym g.2 ∙ same_found s.selector s'.selector g.0 (subst (λ (a : Answer). IsAnswered pairs.answers s.selector s'.selector a) (verdict_apart j.0 j.2) j.1) g.1
  same_judged (Paired s d) (Kept item) found j g = absurd (let f : None ≡ Some verdicts.Kept = j in cc)
  same_judged (Kept item) r found j g = absurd (let f : None ≡ Some verdicts.Kept = j in cc)

  none_told : (limit : ℕ) (cs : List Couple) (new : List Told) → ((c : Couple) → Contains cs c → IsJudged pairs.answers c None) → AreTold others.answers limit [] cs new → new ≡ []
  none_told limit [] new all h = h
  none_told limit (c ∷ cs) new all h =
      none_told limit cs new (λ d g. all d (Contains-there c cs d g)) (subst (λ (xs : List Told). AreTold others.answers limit xs cs new) (stepped (is_passed limit [] c) h.0 h.1) h.2)
    where
      stepped : (b : Bool) (next : List Told) → StepsBy b others.answers [] c next → next ≡ []
      stepped true next s = s
      stepped false next s =
          s.2 ∙ ap (told_with [] c) (same_judged c.first.mine.occurrence.part c.second.mine.occurrence.part s.0 (all c (Contains-here c cs)) s.1)

-- where nothing is found, the word is told
word_of_none : (x : Sides) (limit : ℕ) (told : List Told) (c : Compared) → told ≡ [] → c.missing ≡ [] → c.extra ≡ [] → changed c ≡ [] → diff.diff_text x limit told c ≡ codes "same\n"
word_of_none x limit told c none missing extra same =
    ap (λ (b : Bool). if b then codes "same\n" else diff.found_lines x limit told c)
    (ap (λ (ts : List Told). diff.is_same ts c.missing c.extra (changed c)) none
    ∙ ap (λ (ms : List Member). diff.is_same [] ms c.extra (changed c)) missing
    ∙ ap (λ (ms : List Member). diff.is_same [] [] ms (changed c)) extra
    ∙ ap (λ (cs : List Common). diff.is_same [] [] [] cs) same)

pub texts_differ : AllTally → Laws → SameTextsDifferInNothing
texts_differ tally laws source other pairs text a word limit others lines b spends =
    with_sheets a.first a.second first second (differ_in_nothing tally laws source a.first other a.second same_sheets)
  where
    ok_same : (s t : List Item) → sheet_of source ≡ Ok s → sheet_of source ≡ Ok t → s ≡ t
    ok_same s t e f = let g = sym e ∙ f in cc

    ok_other : (s t : List Item) → sheet_of other ≡ Ok s → sheet_of other ≡ Ok t → s ≡ t
    ok_other s t e f = let g = sym e ∙ f in cc

    first : a.first ≡ b.first
    first = ok_same a.first b.first a.first_read b.first_read

    second : a.second ≡ b.second
    second = ok_other a.second b.second a.second_read b.second_read

    same_sheets : AreSame source a.first other a.second
    same_sheets = record {
      first_read = a.first_read;
      second_read = a.second_read;
      pairs = pairs;
      true_list = a.all_true;
      compared = subst (λ (d : Difference). IsDifference pairs.answers source a.first other a.second d) (difference_is_nothing source other pairs text a word) a.is_difference;
    }

    with_sheets : (s t : List Item) → s ≡ b.first → t ≡ b.second → NothingIsFound pairs.answers source s other t → lines ≡ codes "same\n"
    with_sheets s t e f n =
        let m : NothingIsFound pairs.answers source b.first other b.second =
        subst (λ (x : List Item). NothingIsFound pairs.answers source x other b.second) e (subst (λ (y : List Item). NothingIsFound pairs.answers source s other y) f n) in
        b.tells.text_is
        ∙ word_of_none (diff.sides_of source b.first other b.second) limit b.tells.told (compared source b.first other b.second)
        (none_told laws.apart pairs others a.all_true b.tells.all_true spends limit (turned (compared source b.first other b.second).commons) b.tells.told m.all_apart b.tells.are_told)
        m.none_missing m.none_extra m.none_changed
