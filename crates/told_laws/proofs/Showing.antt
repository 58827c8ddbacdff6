-- The example of a couple that is told shows that the order of its pairs counts.
use Rattle.std.proofs.Common.{◌≡◌, ◌⊎◌, inl, inr, ℕ, Bool, true, false, List, [], ◌∷◌, ◌++◌, Option, Some, None, sym, ap, ◌∙◌, subst}
use Rattle.std.specs.Prelude.{◌&&◌, nat_lt}
use Rattle.std.specs.List.{Contains, filter}
use Rattle.std.proofs.Math.Logic.{∥∥₁_map}
use Rattle.std.proofs.lemmas.Bool.{and_parts}
use Rattle.std.proofs.lemmas.List.Elements.{Contains-append_cases}
use Rattle.cascade_laws.proofs.ForCallers.{some-same}
use Rattle.cascade_laws.specs.Matching.{MatchingIsDecided}
use Rattle.cascade_laws.specs.Winning.{UnderstandingIsDecided}
use Rattle.css_model.specs.declared.example.Example.{Example}
use Rattle.css_model.specs.Cascade.Order.{Weigh}
use Rattle.list_facts.proofs.Members.{Contains-here, Contains-there, Contains-nil, Contains-cons_cases, Contains-filter}
use Rattle.order_laws.proofs.ForCallers.{map_from}
use Rattle.order_laws.specs.Comparing.{WeighingIsDecided, weigh}
use Rattle.overlap.specs.declared.answer.Answer.{Answer}
use Rattle.overlap.specs.declared.answer.Answer.TheVariants as answers
use Rattle.overlap.specs.PairsParts.{Answered}
use Rattle.overlap.specs.Remembered.{IsAnswered}
use Rattle.sheet_members.specs.Compared.{Common}
use Rattle.sheet_members.specs.Occurrences.{Paired, Part}
use Rattle.turned_members.specs.declared.verdict.Verdict.{Verdict}
use Rattle.turned_members.specs.declared.verdict.Verdict.TheVariants as verdicts
use Rattle.turned_members.specs.Telling.{AreJudged, AreTold, IsAnswer, IsJudged, StepsBy, Told, is_passed, told_with, verdict_by}
use Rattle.turned_members.specs.Turned.{Couple, couple, is_turned, turned, turned_with}
use Rattle.turned_members.specs.Weighing.{commons_weigh, normal_pair, pairs_weigh, parts_weigh}
use Rattle.why_text.proofs.ForCallers.{meeting_shown, order_shown}
use Rattle.why_text.specs.Laws.{ShowsOrder}
use Rattle.told_laws.specs.Order.{ToldCouplesShowOrder, with_value}

-- ---- What is told

-- told of these couples, as it is found
abbrev IsFound : List Answered → List Couple → Told → Type 0
IsFound held cs t = Contains cs t.couple × IsJudged held t.couple (Some t.verdict)

step_found : (b : Bool) (held : List Answered) (told : List Told) (c : Couple) (new : List Told) → StepsBy b held told c new → (t : Told) → Contains new t → Contains told t ⊎ ((t.couple ≡ c) × IsJudged held c (Some t.verdict))
step_found true held told c new s t among = inl (subst (λ (xs : List Told). Contains xs t) s among)
step_found false held told c new s t among = which s.0 s.1 (subst (λ (xs : List Told). Contains xs t) s.2 among)
  where
    which : (found : Option Verdict) → IsJudged held c found → Contains (told_with told c found) t → Contains told t ⊎ ((t.couple ≡ c) × IsJudged held c (Some t.verdict))
    which None j g = inl g
    which (Some v) j g = last (Contains-append_cases told (record { couple = c; verdict = v } ∷ []) t g)
      where
        own : (record { couple = c; verdict = v } ≡ t) ⊎ Contains [] t → Contains told t ⊎ ((t.couple ≡ c) × IsJudged held c (Some t.verdict))
        own (inl e) = inr (sym (ap (λ (x : Told). x.couple) e), subst (λ (x : Told). IsJudged held c (Some x.verdict)) e j)
        own (inr none) = absurd (Contains-nil t none)

        last : Contains told t ⊎ Contains (record { couple = c; verdict = v } ∷ []) t → Contains told t ⊎ ((t.couple ≡ c) × IsJudged held c (Some t.verdict))
        last (inl h) = inl h
        last (inr h) = own (Contains-cons_cases (record { couple = c; verdict = v }) [] t h)

told_found : (held : List Answered) (limit : ℕ) (told : List Told) (cs : List Couple) (new : List Told) → AreTold held limit told cs new → (t : Told) → Contains new t → Contains told t ⊎ IsFound held cs t
told_found held limit told [] new h t among = inl (subst (λ (xs : List Told). Contains xs t) h among)
told_found held limit told (c ∷ cs) new h t among = which (told_found held limit h.0 cs new h.2 t among)
  where
    here : (t.couple ≡ c) × IsJudged held c (Some t.verdict) → IsFound held (c ∷ cs) t
    here w = (subst (λ (x : Couple). Contains (c ∷ cs) x) (sym w.0) (Contains-here c cs), subst (λ (x : Couple). IsJudged held x (Some t.verdict)) (sym w.0) w.1)

    stepped : Contains told t ⊎ ((t.couple ≡ c) × IsJudged held c (Some t.verdict)) → Contains told t ⊎ IsFound held (c ∷ cs) t
    stepped (inl g) = inl g
    stepped (inr w) = inr (here w)

    which : Contains h.0 t ⊎ IsFound held cs t → Contains told t ⊎ IsFound held (c ∷ cs) t
    which (inl g) = stepped (step_found (is_passed limit told c) held told c h.0 h.1 t g)
    which (inr w) = inr (Contains-there c cs t.couple w.0, w.1)

-- ---- Couples that are turned

turned_is : (cs : List Common) (c : Couple) → Contains (turned cs) c → is_turned c.first c.second ≡ true
turned_is [] c among = absurd (Contains-nil c among)
turned_is (x ∷ cs) c among = which (Contains-append_cases (turned_with x cs) (turned cs) c among) (λ g. turned_is cs c g)
  where
    with_first : Contains (turned_with x cs) c → is_turned c.first c.second ≡ true
    with_first g =
        let w = map_from (couple x) (filter (is_turned x) cs) c g in
        subst (λ (d : Couple). is_turned d.first d.second ≡ true) w.2 (Contains-filter (is_turned x) cs w.0 w.1).1

    which : Contains (turned_with x cs) c ⊎ Contains (turned cs) c → (Contains (turned cs) c → is_turned c.first c.second ≡ true) → is_turned c.first c.second ≡ true
    which (inl g) rest = with_first g
    which (inr g) rest = rest g

says_meeting : (answer : Answer) (e : Example) → verdict_by answer ≡ Some (verdicts.Meet e) → answer ≡ answers.Meet e
says_meeting answers.Apart e h = absurd (let f = h in cc)
says_meeting (answers.Meet x) e h = ap answers.Meet (let same : x ≡ e = (let f : verdicts.Meet x ≡ verdicts.Meet e = some-same h in cc) in same)
says_meeting (answers.Outside reason number) e h = absurd (let f = some-same h in cc)
says_meeting (answers.Spent ledger) e h = absurd (let f = some-same h in cc)

-- ---- The law

pub told_show : MatchingIsDecided → UnderstandingIsDecided → WeighingIsDecided → ToldCouplesShowOrder
told_show matching understanding weighing pairs limit commons told all_true are_told t e s s' d d' among verdict first second =
    which (told_found pairs.answers limit [] (turned commons) told are_told t among)
  where
    shown : IsFound pairs.answers (turned commons) t → ∥ ShowsOrder s (with_value d t.couple.first.mine.occurrence.text) s' (with_value d' t.couple.second.mine.occurrence.text) e ∥₁
    shown w =
        let turns = and_parts (nat_lt t.couple.second.there t.couple.first.there) (commons_weigh t.couple.first t.couple.second) (turned_is commons t.couple w.0) in
        let weighs = and_parts
        (parts_weigh t.couple.first.mine.occurrence.part t.couple.first.mine.occurrence.text t.couple.second.mine.occurrence.part t.couple.second.mine.occurrence.text)
        (pairs_weigh t.couple.first.yours.occurrence.part t.couple.first.yours.occurrence.text t.couple.second.yours.occurrence.part t.couple.second.yours.occurrence.text) turns.1 in
        let weigh : Weigh (normal_pair s d t.couple.first.mine.occurrence.text) (normal_pair s' d' t.couple.second.mine.occurrence.text) =
        (weighing.0 (normal_pair s d t.couple.first.mine.occurrence.text) (normal_pair s' d' t.couple.second.mine.occurrence.text)).0
        (subst (λ (q : Part). parts_weigh q t.couple.first.mine.occurrence.text (Paired s' d') t.couple.second.mine.occurrence.text ≡ true) first
        (subst (λ (r : Part). parts_weigh t.couple.first.mine.occurrence.part t.couple.first.mine.occurrence.text r t.couple.second.mine.occurrence.text ≡ true) second weighs.0)) in
        let judged : IsAnswer pairs.answers s.selector s'.selector (Some t.verdict) =
        subst (λ (q : Part). AreJudged pairs.answers q (Paired s' d') (Some t.verdict)) first
        (subst (λ (r : Part). AreJudged pairs.answers t.couple.first.mine.occurrence.part r (Some t.verdict)) second w.1) in
        let answer : judged.0 ≡ answers.Meet e = says_meeting judged.0 e (judged.2 ∙ ap Some verdict) in
        ∥∥₁_map (meeting_shown pairs s.selector s'.selector e all_true (subst (λ (a : Answer). IsAnswered pairs.answers s.selector s'.selector a) answer judged.1))
        (λ h. order_shown matching understanding s (with_value d t.couple.first.mine.occurrence.text) s' (with_value d' t.couple.second.mine.occurrence.text) e weigh h)

    which : Contains [] t ⊎ IsFound pairs.answers (turned commons) t → ∥ ShowsOrder s (with_value d t.couple.first.mine.occurrence.text) s' (with_value d' t.couple.second.mine.occurrence.text) e ∥₁
    which (inl none) = absurd (Contains-nil t none)
    which (inr w) = shown w
