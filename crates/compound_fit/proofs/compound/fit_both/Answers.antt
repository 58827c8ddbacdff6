use Rattle.std.proofs.Common.{◌≡◌, ◌∙◌, ◌++◌, ◌<◌, ◌^◌, ℕ, Bool, true, false, List, Option, Some, ap, subst, sym}
use Rattle.css_model.specs.declared.selector.AttrTest.{AttrTest}
use Rattle.css_model.specs.Documents.Document.{IsText}
use Rattle.css_model.specs.Documents.Features.{flags_of}
use Rattle.attr_values.specs.Separators.{HasUnused}
use Rattle.compound_fit.specs.Answers.{AreAnswers, AreTexts}
use Rattle.compound_fit.specs.Attributes.{attribute_tests, given, has_nothing, tests_of}
use Rattle.compound_fit.specs.Fitting.{AreSolved}
use Rattle.compound_fit.specs.Kinds.{SolvesKind}
use Rattle.compound_fit.proofs.AnswerParts.{given_solves, spaces_left}
use Rattle.compound_fit.proofs.Members.{match_none, match_some}
use Rattle.compound_fit.proofs.Whole.{features_are, no_attributes, no_flags, no_kind}
use Rattle.compound_fit.proofs.compound.fit_both.Goals as goal

pub answers-requires-clause-unused : goal.answers-requires-clause-unused
answers-requires-clause-unused c = λ name.
    subst (λ (tests : List (AttrTest × Bool)). HasUnused (tests_of name tests)) (sym (c.as_slice.ensures.value ∙ c.in_ok-tests.ensures)) (c.requires.unused name)

pub returns-in-None : goal.returns-in-None
returns-in-None c =
    let answers = c.in-Ok.answers.items in
    let are : AreAnswers answers (attribute_tests (c.args.x.now ++ c.args.y.now)) = subst (AreAnswers answers) (c.as_slice.ensures.value ∙ c.in_ok-tests.ensures) c.in-Ok.ensures.ok in
    let nothing : has_nothing answers ≡ true =
    match_none (has_nothing answers ≡ true) (λ pairs. (has_nothing answers ≡ false) × (pairs.items ≡ given answers) × AreTexts pairs.items) c.in_ok-attrs.field-0 c.in-None.is c.in_ok-attrs.ensures in
    (spaces_left answers (attribute_tests (c.args.x.now ++ c.args.y.now)) are, no_attributes answers (c.args.x.now ++ c.args.y.now) are nothing)

pub returns-in-None-2 : goal.returns-in-None-2
returns-in-None-2 c =
    let answers = c.in-Ok.answers.items in
    let are : AreAnswers answers (attribute_tests (c.args.x.now ++ c.args.y.now)) = subst (AreAnswers answers) (c.as_slice.ensures.value ∙ c.in_ok-tests.ensures) c.in-Ok.ensures.ok in (
      spaces_left answers (attribute_tests (c.args.x.now ++ c.args.y.now)) are,
      no_kind (c.args.x.now ++ c.args.y.now) (subst (λ (o : Option (List ℕ)). SolvesKind o (c.args.x.now ++ c.args.y.now)) c.in-None-2.is c.in_ok-kind.ensures),
    )

pub returns-then-flags_clash : goal.returns-then-flags_clash
returns-then-flags_clash c =
    let answers = c.in-Ok.answers.items in
    let are : AreAnswers answers (attribute_tests (c.args.x.now ++ c.args.y.now)) = subst (AreAnswers answers) (c.as_slice.ensures.value ∙ c.in_ok-tests.ensures) c.in-Ok.ensures.ok in
    (spaces_left answers (attribute_tests (c.args.x.now ++ c.args.y.now)) are, no_flags (c.args.x.now ++ c.args.y.now) c.if-flags_clash.ensures)

pub returns : goal.returns
returns c =
    let answers = c.in-Ok.answers.items in
    let tests = attribute_tests (c.args.x.now ++ c.args.y.now) in
    let are : AreAnswers answers tests = subst (AreAnswers answers) (c.as_slice.ensures.value ∙ c.in_ok-tests.ensures) c.in-Ok.ensures.ok in
    let found =
    match_some (has_nothing answers ≡ true) (λ pairs. (has_nothing answers ≡ false) × (pairs.items ≡ given answers) × AreTexts pairs.items)
    c.in_ok-attrs.field-0 c.in-Some.attrs c.in-Some.is c.in_ok-attrs.ensures in
    let some : has_nothing answers ≡ false = found.0 in
    let attrs : c.features.result.attrs ≡ given answers = c.features.ensures.parts.1 ∙ found.1 in
    let kind : SolvesKind (Some c.in-Some-2.kind) (c.args.x.now ++ c.args.y.now) = subst (λ (o : Option (List ℕ)). SolvesKind o (c.args.x.now ++ c.args.y.now)) c.in-Some-2.is c.in_ok-kind.ensures in (
      spaces_left answers tests are,
      features_are c.features.result (c.args.x.now ++ c.args.y.now)
          (subst (λ (k : List ℕ). SolvesKind (Some k) (c.args.x.now ++ c.args.y.now)) (sym c.features.ensures.parts.0) kind)
          (subst IsText (sym c.features.ensures.parts.0) c.features.ensures.text)
          (subst (λ (ps : List (List ℕ × List ℕ)). AreSolved ps tests) (sym attrs) (given_solves answers tests are some))
          (subst AreTexts (sym c.features.ensures.parts.1) found.2)
          c.if-flags_clash.ensures (λ flag. ap (λ (n : ℕ). flags_of n flag) c.features.ensures.flags ∙ c.flags.ensures.flags flag)
          (let few : c.flags.result < 2 ^ 9 = c.flags.ensures.few in subst (λ (n : ℕ). n < 2 ^ 9) (sym c.features.ensures.flags) few) c.features.ensures.parts.2,
    )
