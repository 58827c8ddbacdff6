-- The features that are given, from their parts.
use Rattle.std.proofs.Common.{◌≡◌, ◌≢◌, ℕ, ◌<◌, ◌^◌, Bool, true, false, List, [], ◌∷◌, map, Some, None, sym, ap, subst, ◌∙◌, arith}
use Rattle.std.proofs.lemmas.Bool.{true≢false}
use Rattle.std.proofs.lemmas.List.Elements.{All-map, All-nil, All-cons}
use Rattle.std.proofs.lemmas.List.Kept.{AllPairs-cons}
use Rattle.std.specs.Cmp.Lexicographic.{slice_cmp, texts_ties}
use Rattle.std.specs.Ordering.{is_eq, nat_cmp}
use Rattle.std.specs.declared.cmp.Ordering.TheVariants.{Less}
use Rattle.std.specs.List.{All, AllByRecursion, AllPairs}
use Rattle.std.specs.List.Sorted.{IsStrictlySortedBy}
use Rattle.css_model.specs.declared.selector.Flag.{Flag}
use Rattle.css_model.specs.declared.selector.Simple.{Simple}
use Rattle.css_model.specs.Documents.Document.{Attribute, IsText, attribute_value}
use Rattle.css_model.specs.Documents.FeatureParts.{FeatureParts}
use Rattle.css_model.specs.Documents.Features.{CanSuit, element_of, flags_of}
use Rattle.attr_values.specs.declared.solve.Fits.{Fits}
use Rattle.compound_fit.specs.Answers.{AreAnswers, AreTexts}
use Rattle.compound_fit.specs.Attributes.{attribute_tests, has_nothing, tests_of, value_of}
use Rattle.compound_fit.specs.Fitting.{AreFeatures, AreSolved}
use Rattle.compound_fit.specs.Flags.{FlagsDecided, asked_flags, is_flag_asked}
use Rattle.compound_fit.specs.Kinds.{SolvesKind}
use Rattle.compound_fit.specs.Parts.{AreLegalFlags, PassesFlag}
use Rattle.compound_fit.proofs.AnswerParts.{answer_fits, none_given}
use Rattle.compound_fit.proofs.ByParts.{parts_apart}
use Rattle.compound_fit.proofs.Members.{same_itself}

-- names that ascend differ
not_less : (n m : List ℕ) → slice_cmp nat_cmp n m ≡ Less → n ≢ m
not_less n m less same =
    true≢false (sym (same_itself n) ∙ texts_ties n n ∙ ap (λ (t : List ℕ). is_eq (slice_cmp nat_cmp n t)) same ∙ ap is_eq less)

differs : (n : List ℕ) (pairs : List (List ℕ × List ℕ)) → AllByRecursion (λ m. slice_cmp nat_cmp n m ≡ Less) (map (λ p. p.0) pairs) → All (λ (a : Attribute). n ≢ a.name) (map (λ p. record { name = p.0; value = p.1 }) pairs)
differs n [] less = All-nil (λ (a : Attribute). n ≢ a.name)
differs n (p ∷ pairs) less = All-cons (λ (a : Attribute). n ≢ a.name) (record { name = p.0; value = p.1 }) (map (λ p. record { name = p.0; value = p.1 }) pairs) (not_less n p.0 less.0) (differs n pairs less.1)

names_differ : (pairs : List (List ℕ × List ℕ)) → IsStrictlySortedBy (slice_cmp nat_cmp) (map (λ p. p.0) pairs) → AllPairs (λ (a b : Attribute). a.name ≢ b.name) (map (λ p. record { name = p.0; value = p.1 }) pairs)
unfolding IsStrictlySortedBy
names_differ [] sorted = λ i j d lt within. absurd (let bad : ⊥ = omega arith in bad)
names_differ (p ∷ pairs) sorted =
    AllPairs-cons (λ (a b : Attribute). a.name ≢ b.name) (record { name = p.0; value = p.1 }) (map (λ p. record { name = p.0; value = p.1 }) pairs) (differs p.0 pairs sorted.0) (names_differ pairs sorted.1)

pub features_are : (f : FeatureParts) (simples : List Simple) → SolvesKind (Some f.kind) simples → IsText f.kind → AreSolved f.attrs (attribute_tests simples) → AreTexts f.attrs →
    FlagsDecided false simples → ((flag : Flag) → flags_of f.flags flag ≡ is_flag_asked flag simples) → f.flags < 2 ^ 9 → f.text ≡ false → AreFeatures f simples
features_are f simples kind kind_text attributes texts decided flags few text = record {
  suits =
      (parts_apart (element_of f) simples).1 (
        kind.0,
        subst (λ (fs : Flag → Bool). All (PassesFlag fs) simples) (sym same) decided.1,
        λ name. answer_fits name (value_of f.attrs name) (tests_of name (attribute_tests simples)) (attributes.each name),
      );
  legal = record {
    kind = kind_text;
    attributes = All-map (λ (a : Attribute). IsText a.name × IsText a.value) (λ p. record { name = p.0; value = p.1 }) f.attrs texts;
    names = names_differ f.attrs attributes.ascending;
    links = legal.0;
    controls = legal.1;
  };
  kind = kind.1;
  attributes = attributes;
  flags = flags;
  few = few;
  text = text;
}
  where
    same : flags_of f.flags ≡ asked_flags simples
    same = λ i flag. flags flag i

    legal : AreLegalFlags (flags_of f.flags)
    legal = subst AreLegalFlags (sym same) decided.0

-- where a part has no answer, no element passes
pub no_attributes : (answers : List (List ℕ × Fits)) (simples : List Simple) → AreAnswers answers (attribute_tests simples) → has_nothing answers ≡ true → CanSuit simples → ⊥
no_attributes answers simples are nothing h =
    none_given (λ name. tests_of name (attribute_tests simples)) answers are.solved nothing (attribute_value h.0) ((parts_apart h.0 simples).0 h.2).2

pub no_kind : (simples : List Simple) → SolvesKind None simples → CanSuit simples → ⊥
no_kind simples none h = none h.0.kind ((parts_apart h.0 simples).0 h.2).0

pub no_flags : (simples : List Simple) → FlagsDecided true simples → CanSuit simples → ⊥
no_flags simples none h = none h.0.flags (h.1.links, h.1.controls) ((parts_apart h.0 simples).0 h.2).1
