-- What the answer that is given for a pair says.
use Rattle.std.proofs.Common.{◌≡◌, ℕ, subst}
use Rattle.std.proofs.Math.Logic.{∥∥₁_map}
use Rattle.std.proofs.lemmas.List.Elements.{All-contains}
use Rattle.css_model.specs.Documents.SelectorParts.{SelectorParts}
use Rattle.overlap.specs.Answers.{IsTrueAnswer}
use Rattle.overlap.specs.declared.answer.Answer.{Answer}
use Rattle.overlap.specs.PairsParts.{Answered, PairsParts}
use Rattle.overlap.specs.Remembered.{Asks, IsAnswered, IsTrueList}
use Rattle.bench_counts.specs.declared.answering.Kind.{Kind}
use Rattle.bench_counts.specs.Asking.{IsKind, kind_of}

-- an answer of a true list is true
pub true_kind : (old new : PairsParts) (x y : SelectorParts) (answer : Answer) (kind : Kind) → Asks old new x y → ∥ IsTrueList new ∥₁ → IsAnswered new.answers x y answer → kind ≡ kind_of answer →
    IsKind old.budget x y kind
true_kind old new x y answer kind asks list held is =
    let true_now : ∥ IsTrueAnswer x y new.budget answer ∥₁ =
    ∥∥₁_map list (λ t. All-contains (λ (e : Answered). IsTrueAnswer e.left e.right new.budget e.answer) new.answers (record { left = x; right = y; answer = answer }) t.true_answers held) in
    (answer, subst (λ (n : ℕ). ∥ IsTrueAnswer x y n answer ∥₁) asks.budget true_now, is)
