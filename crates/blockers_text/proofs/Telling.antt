-- What is told of one level after the other.
use Rattle.std.proofs.Common.{◌≡◌, ◌≤◌, ℕ, List, [], ◌∷◌, ◌++◌, map, length, refl, sym, ap, ap₂, subst, ◌∙◌, append-nil, append_assoc, arith}
use Rattle.std.specs.Prelude.{Ok}
use Rattle.std.specs.List.{AllByRecursion, flat_map}
use Rattle.std.proofs.lemmas.Grind.{flat_map-append}
use Rattle.std.proofs.lemmas.List.{map-append}
use Rattle.blockers_text.proofs.Answered.{later_on}
use Rattle.blockers_text.specs.BlockersTexts.{AreRanked, IsBlockersText}
use Rattle.blockers_text.specs.declared.tally.Tally.{Tally}
use Rattle.blockers_text.specs.declared.told.Told.{Told}
use Rattle.blockers_text.specs.declared.totals.Weighed.{Weighed}
use Rattle.blockers_text.specs.Later.{Grows, IsLater, seen}
use Rattle.blockers_text.specs.Levels.{CountsSteps, IsToldText, Tells, TellsAll, TellsLevels}
use Rattle.blockers_text.specs.Lines.{Ranked, Seen, ranked_with, totals_text}
use Rattle.blockers_text.specs.Planned.{IsPlanned, Planned, all_ranked, all_weighed, ranked_of_level, weighed_in}
use Rattle.css_model.specs.declared.sheet.Item.{Item}
use Rattle.css_model.specs.Sheets.Sheet.{sheet_of}
use Rattle.media_groups.specs.declared.media.Media.{Media}
use Rattle.media_groups.specs.Levels.{Level, body_level, levels_of, outer_level}
use Rattle.media_groups.specs.Opened.{opened_of}
use Rattle.overlap.specs.PairsParts as overlap
use Rattle.overlap.specs.Remembered.{IsTrueList}
use Rattle.plan_laws.proofs.ForCallers.{blocked_more, leads_more}
use Rattle.step_candidates.specs.Saving.{AreSavingSteps}
use Rattle.step_laws.specs.declared.step.Step.{Step}
use Rattle.step_laws.specs.Free.{Answered, AreAmong}
use Rattle.step_laws.specs.Leading.{IsDone, Leads}

-- ---- One level

abbrev seen_level : (text : List ℕ) → Level → List Item → Seen
seen_level text level items = record { text = text; start = level.start; source = level.source; items = items }

pub tells_level : (answers later : List Answered) (text : List ℕ) (level : Level) (items : List Item) (taken : ℕ) (ks : List Step) (steps more : List Weighed) (tallies : List Tally) (ranked others : List Ranked) →
    AreAmong answers later → Leads answers level.source taken level.items items → IsDone answers level.source items → AreSavingSteps level.source items ks →
    CountsSteps later level.source items ks steps more tallies → others ≡ ranked ++ ranked_with (seen_level text level items) tallies →
    TellsLevels later text (level ∷ []) steps more ranked others
tells_level answers later text level items taken ks steps more tallies ranked others among leads done saving counts told =
    record {
      planned = record { level = level; items = items; steps = ks } ∷ [];
      are_levels = refl;
      are_planned = (
        record {
          taken = taken;
          leads = leads_more answers later among level.source taken level.items items leads;
          done = λ k e n is saves some. blocked_more answers later among items e (done k e n is saves some);
          saving = saving;
          settled = counts.settled;
        },
        tt,
      );
      weighed_are = counts.weighed_are ∙ ap (λ (ws : List Weighed). steps ++ ws) (sym (append-nil (weighed_in later (record { level = level; items = items; steps = ks }))));
      ranked_are = told ∙ ap (λ (ts : List Tally). ranked ++ ranked_with (seen_level text level items) ts) counts.tallies_are
          ∙ ap (λ (rs : List Ranked). ranked ++ rs) (sym (append-nil (ranked_of_level later text (record { level = level; items = items; steps = ks }))));
    }

-- ---- One after the other

all_append : {X : Type 0} (P : X → Type 0) (xs ys : List X) → AllByRecursion P xs → AllByRecursion P ys → AllByRecursion P (xs ++ ys)
all_append P [] ys h g = g
all_append P (x ∷ xs) ys h g = (h.0, all_append P xs ys h.1 g)

pub tells_on : (answers : List Answered) (text : List ℕ) (levels others : List Level) (a b c : List Weighed) (x y z : List Ranked) → TellsLevels answers text levels a b x y → TellsLevels answers text others b c y z →
    TellsLevels answers text (levels ++ others) a c x z
tells_on answers text levels others a b c x y z f g = record {
  planned = f.planned ++ g.planned;
  are_levels = map-append (λ (p : Planned). p.level) f.planned g.planned ∙ ap₂ (λ (us vs : List Level). us ++ vs) f.are_levels g.are_levels;
  are_planned = all_append (IsPlanned answers) f.planned g.planned f.are_planned g.are_planned;
  weighed_are = g.weighed_are ∙ ap (λ (ws : List Weighed). ws ++ all_weighed answers g.planned) f.weighed_are ∙ append_assoc a (all_weighed answers f.planned) (all_weighed answers g.planned)
      ∙ ap (λ (ws : List Weighed). a ++ ws) (sym (flat_map-append (weighed_in answers) f.planned g.planned));
  ranked_are = g.ranked_are ∙ ap (λ (rs : List Ranked). rs ++ all_ranked answers text g.planned) f.ranked_are ∙ append_assoc x (all_ranked answers text f.planned) (all_ranked answers text g.planned)
      ∙ ap (λ (rs : List Ranked). x ++ rs) (sym (flat_map-append (ranked_of_level answers text) f.planned g.planned));
}

pub tells_none : (answers : List Answered) (text : List ℕ) (a : List Weighed) (x : List Ranked) → TellsLevels answers text [] a a x x
tells_none answers text a x = record { planned = []; are_levels = refl; are_planned = tt; weighed_are = sym (append-nil a); ranked_are = sym (append-nil x) }

-- ---- Bodies

-- of these bodies all but the last ones are told, by what is answered later on
abbrev pub ToldSo : (text : List ℕ) → overlap.PairsParts → (media rest : List Media) → (old now : Told) → Type 0
ToldSo text p media rest old now =
    (done : List Media) × (media ≡ done ++ rest) × ((later : List Answered) → IsLater (seen p) later → Tells later text (map (body_level text) done) old now)

pub told_none : (text : List ℕ) (p : overlap.PairsParts) (media : List Media) (old : Told) → ToldSo text p media media old old
told_none text p media old = ([], refl, λ later is. tells_none later text old.weighed.items old.ranked.items)

pub told_on : (text : List ℕ) (p q : overlap.PairsParts) → Grows p q → (media rest others : List Media) (m : Media) (old now new : Told) → rest ≡ m ∷ others → ToldSo text p media rest old now →
    ((later : List Answered) → IsLater (seen q) later → Tells later text (body_level text m ∷ []) now new) → ToldSo text q media others old new
told_on text p q grows media rest others m old now new cut (done, is, told) one = (
  done ++ m ∷ [],
  is ∙ ap (λ (xs : List Media). done ++ xs) cut ∙ sym (append_assoc done (m ∷ []) others),
  λ later l. subst (λ (levels : List Level). Tells later text levels old new) (sym (map-append (body_level text) done (m ∷ [])))
      (tells_on later text (map (body_level text) done) (body_level text m ∷ []) old.weighed.items now.weighed.items new.weighed.items old.ranked.items now.ranked.items new.ranked.items
      (told later (later_on (seen p) (seen q) later grows.among l)) (one later l)),
)

pub told_all : (text : List ℕ) (p : overlap.PairsParts) (media rest : List Media) (old now : Told) → length rest ≤ 0 → ToldSo text p media rest old now →
    (later : List Answered) → IsLater (seen p) later → Tells later text (map (body_level text) media) old now
told_all text p media [] old now none (done, is, told) later l = subst (λ (xs : List Media). Tells later text (map (body_level text) xs) old now) (sym (is ∙ append-nil done)) (told later l)
told_all text p media (m ∷ rest) old now none so later l = absurd (omega (arith, none))

-- ---- All levels

pub tells_all : (text : List ℕ) (items : List Item) (media : List Media) (p q : overlap.PairsParts) → Grows p q → (a b : List Weighed) (x y : List Ranked) → media ≡ opened_of items text →
    ((later : List Answered) → IsLater (seen p) later → TellsLevels later text (outer_level text items ∷ []) [] a [] x) →
    ((later : List Answered) → IsLater (seen q) later → TellsLevels later text (map (body_level text) media) a b x y) →
    (later : List Answered) → IsLater (seen q) later → TellsLevels later text (levels_of text items) [] b [] y
tells_all text items media p q grows a b x y same outer inner later l =
    tells_on later text (outer_level text items ∷ []) (map (body_level text) (opened_of items text)) [] a b [] x y (outer later (later_on (seen p) (seen q) later grows.among l))
    (subst (λ (ms : List Media). TellsLevels later text (map (body_level text) ms) a b x y) same (inner later l))

-- ---- The text

pub text_told : (p : overlap.PairsParts) (source text : List ℕ) (items : List Item) (told : Told) → sheet_of source ≡ Ok items → ∥ IsTrueList p ∥₁ → TellsAll (seen p) source items told → IsToldText told text → IsBlockersText p source text
text_told p source text items told read all_true tells written = record {
  items = items;
  read = read;
  true_list = all_true;
  levels = tells.planned;
  are_levels = tells.are_levels;
  planned = tells.are_planned;
  sorted = written.sorted;
  ranked = subst (λ (all : List Ranked). AreRanked all written.sorted) tells.ranked_are written.ranked;
  text_is = written.text_is ∙ ap (λ (ws : List Weighed). totals_text ws ++ flat_map (λ r. r.lines) written.sorted) tells.weighed_are;
}
