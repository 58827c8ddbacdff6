-- What is held and what is told as selectors are asked for, one after the other.
use Rattle.std.proofs.Common.{◌≡◌, ℕ, ◌+◌, ◌<◌, List, [], ◌∷◌, ◌++◌, length, take, get_or, append-nil, append_assoc, refl, sym, ap, subst, ◌∙◌, arith, suc}
use Rattle.std.specs.List.{Contains, flat_map}
use Rattle.std.proofs.lemmas.Grind.{flat_map-append}
use Rattle.std.proofs.lemmas.List.{map-append}
use Rattle.std.proofs.lemmas.List.Elements.{All-append, All-nil, All-push, All-weaker, Contains-append_left}
use Rattle.std.proofs.Math.Seq.{take-suc}
use Rattle.css_model.specs.Documents.SelectorParts.{SelectorParts}
use Rattle.css_model.specs.Text.Characters.{line_feed}
use Rattle.dead_sel.specs.declared.living.Life.{Life}
use Rattle.dead_sel.specs.Living.{answer_by, every, IsLife, IsTrueLife}
use Rattle.doc_text.specs.DocText.{ended}
use Rattle.overlap.specs.PairsParts.{Answered, PairsParts}
use Rattle.overlap.specs.Remembered.{Asks}
use Rattle.dead_text.specs.DeadTexts.{AsksEach, IsOfOne, IsTold, TellsEach, TellsMore, Told, told_lines}
use Rattle.dead_text.specs.Listing.{NumberedSelector}

-- ---- What is asked

pub asks_none : (p : PairsParts) (selectors : List NumberedSelector) → AsksEach p p selectors
asks_none p selectors = record { budget = refl; more = []; is = sym (append-nil p.answers); only = All-nil (IsOfOne selectors) }

pub asks_one : (p q r : PairsParts) (selectors : List NumberedSelector) (s : NumberedSelector) → Contains selectors s → AsksEach p q selectors → Asks q r s.selector (every s.selector.pseudo) →
    AsksEach p r selectors
asks_one p q r selectors s among h a = record {
  budget = a.budget ∙ h.budget;
  more = h.more ++ a.more;
  is = a.is ∙ ap (λ (xs : List Answered). xs ++ a.more) h.is ∙ append_assoc p.answers h.more a.more;
  only = All-append (IsOfOne selectors) h.more a.more h.only
      (All-weaker (λ (e : Answered). (e.left ≡ s.selector) × (e.right ≡ every s.selector.pseudo)) (IsOfOne selectors) (λ e is. (s, among, is.0, is.1)) a.more a.only);
}

-- ---- What is told

pub tells_none : (p : PairsParts) → TellsEach p [] []
tells_none p = record { told = []; of_each = refl; by_answers = All-nil (IsTold p); text_is = refl }

pub tells_one : (p : PairsParts) (s : NumberedSelector) (life : Life) (old new : List ℕ) → IsLife p.answers s.selector life → ∥ IsTrueLife s.selector p.budget life ∥₁ →
    new ≡ old ++ ended (told_lines (record { of = s; life = life })) → TellsMore p s old new
tells_one p s life old new held is_true is = record { life = life; by_answer = record { held = held; is_true = is_true }; text_is = is }

-- what was told of is told of when more was asked for
told_stays : (q r : PairsParts) (x y : SelectorParts) → Asks q r x y → (t : Told) → IsTold q t → IsTold r t
told_stays q r x y a t h = record {
  held = subst (λ (answers : List Answered). IsLife answers t.of.selector t.life) (sym a.is)
      (Contains-append_left q.answers a.more (record { left = t.of.selector; right = every t.of.selector.pseudo; answer = answer_by t.life }) h.held);
  is_true = subst (λ (n : ℕ). ∥ IsTrueLife t.of.selector n t.life ∥₁) (sym a.budget) h.is_true;
}

ended_append : (xs ys : List (List ℕ)) → ended (xs ++ ys) ≡ ended xs ++ ended ys
ended_append xs ys = flat_map-append (λ (line : List ℕ). line ++ line_feed ∷ []) xs ys

tells_more : (q r : PairsParts) (selectors : List NumberedSelector) (s : NumberedSelector) (text new : List ℕ) → TellsEach q selectors text → Asks q r s.selector (every s.selector.pseudo) →
    TellsMore r s text new → TellsEach r (selectors ++ s ∷ []) new
tells_more q r selectors s text new h a m =
    let t : Told = record { of = s; life = m.life } in
    record {
      told = h.told ++ t ∷ [];
      of_each = map-append (λ (t : Told). t.of) h.told (t ∷ []) ∙ ap (λ (ss : List NumberedSelector). ss ++ s ∷ []) h.of_each;
      by_answers = All-push (IsTold r) h.told t (All-weaker (IsTold q) (IsTold r) (told_stays q r s.selector (every s.selector.pseudo) a) h.told h.by_answers) m.by_answer;
      text_is = m.text_is ∙ ap (λ (x : List ℕ). x ++ ended (told_lines t)) h.text_is ∙ sym (ended_append (flat_map told_lines h.told) (told_lines t))
          ∙ ap ended (sym (flat_map-append told_lines h.told (t ∷ []) ∙ ap (λ (x : List (List ℕ)). flat_map told_lines h.told ++ x) (append-nil (told_lines t))));
    }

-- the next one of some selectors
pub tells_next : (q r : PairsParts) (selectors : List NumberedSelector) (i : ℕ) (s : NumberedSelector) (text new : List ℕ) → i < length selectors → s ≡ get_or selectors i s →
    TellsEach q (take i selectors) text → Asks q r s.selector (every s.selector.pseudo) → TellsMore r s text new → TellsEach r (take (i + 1) selectors) new
tells_next q r selectors i s text new below at h a m =
    let next : suc i ≡ i + 1 = omega arith in
    let more : take i selectors ++ s ∷ [] ≡ take (i + 1) selectors =
    ap (λ (x : NumberedSelector). take i selectors ++ x ∷ []) at ∙ sym (take-suc selectors i s below) ∙ ap (λ (n : ℕ). take n selectors) next in
    subst (λ (ss : List NumberedSelector). TellsEach r ss new) more (tells_more q r (take i selectors) s text new h a m)
