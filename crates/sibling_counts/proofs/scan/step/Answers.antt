use Rattle.std.proofs.Common.{rules, ◌≡◌, ℕ, ◌+◌, ◌<◌, Bool, true, false, ap, subst, sym, ◌∙◌, arith, w32}
use Rattle.std.specs.Prelude.{unsigned_abs, FitsSigned}
use Rattle.std.specs.Bool.{MatchBool}
use Rattle.std.proofs.lemmas.Int.{to_z-of_z}
use Rattle.css_model.specs.Documents.Matching.{IsNth}
use Rattle.sibling_counts.proofs.Scanning.{members_apart}
use Rattle.sibling_counts.proofs.scan.step.Goals as goal

pub returns-then-member-clause-skips : goal.returns-then-member-clause-skips
returns-then-member-clause-skips c = λ n after before h.
    let x = c.args.test.now.positions in
    let f : FitsSigned w32 x.a = search rules in
    let size : c.unsigned_abs.result ≡ unsigned_abs x.a = c.unsigned_abs.ensures.value ∙ ap unsigned_abs (to_z-of_z w32 x.a f) in
    let asked : c.args.test.now.negated ≡ false = search rules in
    let holds : IsNth x (n + 1) = subst (λ (b : Bool). MatchBool b (IsNth x (n + 1) → ⊥) (IsNth x (n + 1))) asked h in
    let here : IsNth x (c.args.number + 1) = c.member.ensures.0 (search rules) in
    members_apart x c.args.number n here holds after (omega arith)
