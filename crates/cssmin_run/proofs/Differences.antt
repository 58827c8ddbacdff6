-- What follows from the text that `diff` wrote.
use Rattle.std.proofs.Common.{◌≡◌, ◌<◌, ◌∙◌, ℕ, Bool, true, false, cond, List, Option, Some, refl, sym, subst, take, drop}
use Rattle.std.proofs.lemmas.Bool.{false≢true}
use Rattle.std.specs.Prelude.{not}
use Rattle.command_words.specs.Forms.{Diff, form_of}
use Rattle.command_words.specs.Laws.{SomeMayBeTold}
use Rattle.css_model.specs.declared.example.Example.{Example}
use Rattle.diff_laws.specs.Same.{AreSame, SameMembersWinAlike}
use Rattle.diff_text.specs.DiffTexts.{IsDiffText, sides_of}
use Rattle.diff_text.specs.Lines.{is_reversed}
use Rattle.diff_text.specs.Words.{are_in_other_blocks, sets_one, winners_agree, word_by}
use Rattle.overlap.specs.PairsParts.{PairsParts}
use Rattle.sheet_members.specs.Compared.{compared}
use Rattle.sheet_members.specs.Occurrences.{Occurrence, occurrences}
use Rattle.told_laws.specs.Order.{ToldCouplesShowOrder}
use Rattle.told_laws.specs.Reversed.{OtherWinnersDiffer}
use Rattle.told_laws.specs.Same.{SameTextMeansSame}
use Rattle.turned_members.specs.declared.verdict.Verdict.{Verdict}
use Rattle.turned_members.specs.declared.verdict.Verdict.TheVariants as verdicts
use Rattle.turned_members.specs.Turned.{Couple}
use Rattle.cssmin_run.specs.Change.{Change}
use Rattle.cssmin_run.specs.Commands.Diff.{DiffDoes, TellsDifferences, same_line}
use Rattle.cssmin_run.specs.Differences.{AreAlike, TellsTrueOrder}
use Rattle.cssmin_run.specs.Run.{Ran}
use Rattle.cssmin_run.specs.Tasks.{Clears, Did, Shows, Silent}
use Rattle.cssmin_run.specs.declared.status.Status.{Status}
use Rattle.cssmin_run.specs.declared.status.Status.TheVariants.{Done, Found}
use Rattle.cssmin_run.proofs.Forms.{diff_did}

-- what `diff` did, by its status
by_status : (words : List (List ℕ)) (split : ℕ) (budget : Option ℕ) (limit : ℕ) (wanted status : Status) (input output err : Change) (held : Option PairsParts) → Ran words status input output err held
    → form_of words ≡ Some (Diff split budget limit) → status ≡ wanted → DiffDoes split budget limit wanted input output err held
by_status words split budget limit wanted status input output err held ran diff is = subst (λ (s : Status). DiffDoes split budget limit s input output err held) is (diff_did words split budget limit status input output err held ran diff)

-- ---- Where nothing is found

alike : SameTextMeansSame → SameMembersWinAlike → (split limit : ℕ) (budget : Option ℕ) (read text report : List ℕ) (held : Option PairsParts) → 0 < limit
    → Clears same_line (Silent (TellsDifferences split budget limit)) read text report held → AreAlike split read
alike means win split limit budget read text report held some m =
    let tells : IsDiffText read split limit m.0.0.0 text = m.0.0.3 in
    let same : AreSame (take split read) tells.compared.first (drop split read) tells.compared.second = means (take split read) (drop split read) limit m.0.0.0 text tells.compared some m.1 in
    record { first = tells.compared.first; second = tells.compared.second; same = same; alike = win (take split read) tells.compared.first (drop split read) tells.compared.second same }

pub sheets_alike : SameTextMeansSame → SameMembersWinAlike → SomeMayBeTold
    → (words : List (List ℕ)) (split : ℕ) (budget : Option ℕ) (limit : ℕ) (status : Status) (input output err : Change) (held : Option PairsParts) → Ran words status input output err held
    → form_of words ≡ Some (Diff split budget limit) → status ≡ Done → Did (λ read text report held. AreAlike split read) input output err held
sheets_alike means win some words split budget limit status input output err held ran diff done =
    let did = by_status words split budget limit Done status input output err held ran diff done in
    record {
      read = did.read;
      text = did.text;
      report = did.report;
      all_read = did.all_read;
      made = alike means win split limit budget did.read did.text did.report held (some words split budget limit diff) did.made;
      added = did.added;
      told = did.told;
    }

-- ---- Where something is found

-- only the last of four words passes a test: then all three tests before it failed, the last one too
last_of : {W : Type 0} (test : W → Bool) (first second third last : W) (b c d : Bool) → test (cond b first (cond c second (cond d third last))) ≡ true
    → test first ≡ false → test second ≡ false → test third ≡ false → d ≡ false
last_of test first second third last true c d is one two three = absurd (false≢true (sym one ∙ is))
last_of test first second third last false true d is one two three = absurd (false≢true (sym two ∙ is))
last_of test first second third last false false true is one two three = absurd (false≢true (sym three ∙ is))
last_of test first second third last false false false is one two three = refl

-- a couple is told as `reversed` only with an example at which the winners do not agree
reversed_at : (os ps : List Occurrence) (c : Couple) (v : Verdict) → is_reversed (word_by os ps c v) ≡ true → (x : Example) × (v ≡ verdicts.Meet x) × (winners_agree os ps c x ≡ false)
reversed_at os ps c verdicts.Kept is = absurd (false≢true is)
reversed_at os ps c (verdicts.Outside reason) is = absurd (false≢true is)
reversed_at os ps c verdicts.Spent is = absurd (false≢true is)
reversed_at os ps c (verdicts.Meet x) is = (x, refl, last_of is_reversed _ _ _ _ (are_in_other_blocks c) (not (sets_one c)) (winners_agree os ps c x) is refl refl refl)

true_order : ToldCouplesShowOrder → OtherWinnersDiffer → (split limit : ℕ) (budget : Option ℕ) (read text report : List ℕ) (held : Option PairsParts)
    → Shows same_line (Silent (TellsDifferences split budget limit)) read text report held → TellsTrueOrder split limit read text held
true_order shows differ split limit budget read text report held m =
    let a = m.0.0.3.compared in
    record {
      pairs = m.0.0.0;
      held_is = m.0.0.1;
      tells = m.0.0.3;
      shows = λ one x s s' d d' has. shows m.0.0.0 limit (compared (take split read) a.first (drop split read) a.second).commons a.tells.told a.tells.all_true a.tells.are_told one x s s' d d' has;
      differ = λ one has word.
          let at = reversed_at (occurrences (take split read) a.first) (occurrences (drop split read) a.second) one.couple one.verdict word in
          (at.0, at.1, differ (take split read) a.first (drop split read) a.second a.first_read a.second_read at.0 one.couple at.2);
    }

pub order_true : ToldCouplesShowOrder → OtherWinnersDiffer
    → (words : List (List ℕ)) (split : ℕ) (budget : Option ℕ) (limit : ℕ) (status : Status) (input output err : Change) (held : Option PairsParts) → Ran words status input output err held
    → form_of words ≡ Some (Diff split budget limit) → status ≡ Found → Did (λ read text report held. TellsTrueOrder split limit read text held) input output err held
order_true shows differ words split budget limit status input output err held ran diff found =
    let did = by_status words split budget limit Found status input output err held ran diff found in
    record {
      read = did.read;
      text = did.text;
      report = did.report;
      all_read = did.all_read;
      made = true_order shows differ split limit budget did.read did.text did.report held did.made;
      added = did.added;
      told = did.told;
    }
