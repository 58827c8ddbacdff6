-- Between two sheets that compare as the same nothing is found where they are laid flat.
use Rattle.std.proofs.Common.{◌≡◌, List, [], None, refl, sym, ap, ap₂, ◌∙◌, subst}
use Rattle.std.specs.List.{Contains}
use Rattle.css_model.specs.Documents.SelectorParts.{SelectorParts}
use Rattle.diff_laws.proofs.ForCallers.{AllTally}
use Rattle.overlap.specs.declared.answer.Answer.TheVariants as answers
use Rattle.overlap.specs.PairsParts.{Answered}
use Rattle.sheet_members.specs.Compared.{Compared, all_marked, changed, compared, compared_of}
use Rattle.sheet_members.specs.Members.{Member}
use Rattle.sheet_members.specs.Occurrences.{Occurrence, Paired, Part}
use Rattle.turned_members.specs.Telling.{AreJudged}
use Rattle.turned_members.specs.Turned.{turned}
use Rattle.same_diff_laws.specs.Same.{SameSheetsDifferInNothing}
use Rattle.same_diff_laws.proofs.Couples.{ApartParts}
use Rattle.same_diff_laws.proofs.Facts.{AgreeFor, IsApart, Laws, sheets_agree}
use Rattle.same_diff_laws.proofs.Members.{compared_is, couples_apart, in_spots, members_are, no_changed, no_extra, no_missing}
use Rattle.same_diff_laws.proofs.Sides.{sheet_spots}

-- two pairs that are answered to be apart
judged : (held : List Answered) (o o' : Occurrence) → ApartParts (IsApart held) o o' → AreJudged held o.part o'.part None
judged held o o' a =
    subst (λ (q : Part). AreJudged held q o'.part None) (sym a.first)
    (subst (λ (r : Part). AreJudged held (Paired a.one a.decl) r None) (sym a.second) (answers.Apart, a.apart, refl))

pub differ_in_nothing : AllTally → Laws → SameSheetsDifferInNothing
differ_in_nothing tally laws source s other t same = record {
  none_missing = ap (λ (c : Compared). c.missing) is ∙ no_missing Apart laws.weighing source s other t agree.matches agree.facts;
  none_extra = ap (λ (c : Compared). c.extra) is ∙ no_extra Apart laws.weighing source s other t agree.matches agree.facts;
  none_changed = ap changed is ∙ no_changed Apart laws.weighing source s other t agree.matches agree.facts;
  all_apart = λ c h.
      judged held c.first.mine.occurrence c.second.mine.occurrence
      (couples_apart Apart laws.weighing source s other t agree.matches agree.facts c (subst (λ (x : Compared). Contains (turned x.commons) c) is h));
}
  where
    held : List Answered
    held = same.pairs.answers

    Apart : SelectorParts → SelectorParts → Type 0
    Apart = IsApart held

    agree : AgreeFor held source s other t
    agree = sheets_agree laws source s other t same

    is : compared source s other t ≡ compared_of (in_spots (sheet_spots source s)) (in_spots (sheet_spots other t))
    is =
        ap₂ (λ (ms ns : List Member). compared_of (all_marked ns ms) (all_marked ms ns)) (members_are tally source s same.first_read) (members_are tally other t same.second_read)
        ∙ compared_is Apart laws.weighing source s other t agree.matches agree.facts
