use Rattle.std.proofs.Common.{rules, ◌≡◌, ℕ, List, subst}
use Rattle.overlap.specs.Answers.{IsTrueAnswer}
use Rattle.overlap.specs.PairsParts.{Answered}
use Rattle.overlap.specs.Remembered.{IsUnknown}
use Rattle.overlap.specs.Stored.{answers_of}
use Rattle.overlap.proofs.TrueLists.{kept_or_more}
use Rattle.overlap.proofs.pairs.Pairs.remember.Goals as goal

pub store-requires-clause-unknown : goal.store-requires-clause-unknown
store-requires-clause-unknown c =
    let v : c.args.self.now.answers ≡ answers_of c.self.inside.selectors.keys c.self.inside.answers.entries = search rules in
    subst (λ (answers : List Answered). IsUnknown answers c.args.x.now c.args.y.now) v c.requires.unknown

pub invariant_of-self-inside : goal.invariant_of-self-inside
invariant_of-self-inside c =
    let v : c.args.self.now.answers ≡ answers_of c.self.inside.selectors.keys c.self.inside.answers.entries = search rules in
    let b : c.args.self.now.budget ≡ c.self.inside.budget = search rules in (
      c.store.ensures.store,
      (
        kept_or_more c.store.result c.self.inside.budget (answers_of c.self.inside.selectors.keys c.self.inside.answers.entries) (answers_of c.store.new.selectors.keys c.store.new.answers.entries)
            c.args.x.now c.args.y.now c.args.answer c.store.ensures.ok c.store.ensures.err
            (subst (λ (answers : List Answered). IsUnknown answers c.args.x.now c.args.y.now) v c.requires.unknown)
            (subst (λ (budget : ℕ). IsTrueAnswer c.args.x.now c.args.y.now budget c.args.answer) b c.requires.true_answer)
            c.self.inside.list,
        tt,
      ),
    )
