-- An example that keeps the rules, by a fact that is truncated: of each rule there is at most one proof.
use Rattle.std.proofs.Common.{◌≡◌, ◌<◌, ◌≤◌, ℕ, suc, List, [], ◌∷◌, length, Option, Some, None, subst}
use Rattle.std.proofs.Math.Logic.{∥∥₁_elim, ∥∥₁_map}
use Rattle.std.specs.Prelude.{IsSomeAnd, slice_get}
use Rattle.std.specs.List.{All}
use Rattle.css_model.specs.declared.example.Example.{Example}
use Rattle.css_model.specs.declared.example.RunLine.{RunLine}
use Rattle.css_model.specs.Documents.FeatureParts.{FeatureParts}
use Rattle.css_model.specs.Documents.RunDocuments.{AreLines, AreRunFeatures, KeepsRules, LinesFollow}
use Rattle.std.proofs.Props.{props}
use Rattle.turned_members.specs.declared.verdict.Verdict.{Verdict}
use Rattle.turned_members.specs.declared.verdict.Verdict.TheVariants as verdicts
use Rattle.diff_text.specs.Shown.{IsShownIn}

lines_follow : (depth count : ℕ) (lines : List RunLine) → ∥ LinesFollow depth count lines ∥₁ → LinesFollow depth count lines
lines_follow depth count [] h = tt
lines_follow depth count (l ∷ lines) h = (
  ∥∥₁_elim h (hlevel props) (λ k. k.0),
  ∥∥₁_elim h (hlevel props) (λ k. k.1),
  λ deeper. ∥∥₁_elim h (hlevel props) (λ k. k.2 deeper),
  ∥∥₁_elim h (hlevel props) (λ k. k.3),
  lines_follow l.depth l.count lines (∥∥₁_map h (λ k. k.4)),
)

are_lines : (lines : List RunLine) → ∥ AreLines lines ∥₁ → AreLines lines
are_lines [] h = ∥∥₁_elim h (hlevel props) (λ k. k)
are_lines (l ∷ lines) h = (∥∥₁_elim h (hlevel props) (λ k. k.0), ∥∥₁_elim h (hlevel props) (λ k. k.1), lines_follow 0 1 lines (∥∥₁_map h (λ k. k.2)))

are_features : (f : FeatureParts) → ∥ AreRunFeatures f ∥₁ → AreRunFeatures f
are_features f h = record {
  kind = (∥∥₁_elim h (hlevel props) (λ k. k.kind.0), λ e. ∥∥₁_elim h (hlevel props) (λ k. k.kind.1 e));
  attributes = ∥∥₁_elim h (hlevel props) (λ k. k.attributes);
  ascending = ∥∥₁_elim h (hlevel props) (λ k. k.ascending);
  flags = ∥∥₁_elim h (hlevel props) (λ k. k.flags);
}

is_marked : (o : Option RunLine) → ∥ IsSomeAnd o (λ l. l.count ≡ 1) ∥₁ → IsSomeAnd o (λ l. l.count ≡ 1)
is_marked None h = ∥∥₁_elim h (hlevel props) (λ k. k)
is_marked (Some l) h = ∥∥₁_elim h (hlevel props) (λ k. k)

pub keeps_rules : (x : Example) → ∥ KeepsRules x ∥₁ → KeepsRules x
keeps_rules x h = record {
  lines = are_lines x.doc.lines (∥∥₁_map h (λ k. k.lines));
  features = λ i d below. are_features _ (∥∥₁_map h (λ k. k.features i d below));
  marked = is_marked (slice_get x.doc.lines x.marked) (∥∥₁_map h (λ k. k.marked));
}

pub shown_rules : (v : Verdict) (x : Example) → v ≡ verdicts.Meet x → ∥ IsShownIn v ∥₁ → KeepsRules x
shown_rules v x is h = keeps_rules x (subst (λ (w : Verdict). ∥ IsShownIn w ∥₁) is h)
