-- The lines of a tree of runs keep the rules of lines.
use Rattle.std.proofs.Common.{List, [], arith, refl, subst, suc, sym, true, ℕ, ◌++◌, ◌<◌, ◌≡◌, ◌≤◌}
use Rattle.std.proofs.lemmas.List.{append_assoc}
use Rattle.std.specs.List.{AllByRecursion}
use Rattle.css_model.specs.Documents.FeatureParts.{FeatureParts}
use Rattle.css_model.specs.Documents.RunDocuments.{AreLines, LinesFollow}
use Rattle.css_model.specs.declared.example.RunLine.{RunLine}
use Rattle.cascade_laws.specs.Line.Runs.{AllRuns, IsWritable, Runs, done, is_run, lines_of, run}

-- lines may follow any line of this depth or more
abbrev Follows : ℕ → List RunLine → Type 0
Follows e more = (depth count : ℕ) → e ≤ depth → LinesFollow depth count more

-- The lines of a tree follow a line of at most one depth less, which stands for one element where they are deeper.
follow : (t : Runs) (d e depth count : ℕ) (more : List RunLine) → IsWritable t → 0 < d → e ≤ d → e ≤ depth → d ≤ suc depth →
    (depth < d → is_run t ≡ true → count ≡ 1) → Follows e more → LinesFollow depth count (lines_of d t ++ more)
follow done d e depth count more good some low under near one rest = rest depth count under
follow (run n f c l) d e depth count more (has, single, good, good') some low under near one rest = (
  some,
  near,
  (λ h. one h refl),
  has,
  subst (LinesFollow d n) (sym (append_assoc (lines_of (suc d) c) (lines_of d l) more))
      (follow c (suc d) d d n (lines_of d l ++ more) good (omega arith) (omega arith) (omega arith) (omega arith) (λ h. single)
      (λ depth' count' h. follow l d e depth' count' more good' some low (omega arith) (omega arith) (λ h'. absurd (omega arith)) rest)),
)

pub keeps_rules : (f : FeatureParts) (children : Runs) → IsWritable children → AreLines (lines_of 0 (run 1 f children done))
keeps_rules f c good = (refl, refl, follow c 1 0 0 1 [] good (omega arith) (omega arith) (omega arith) (omega arith) (λ h e. refl) (λ depth count h. tt))

-- what holds of the features of each run holds of those of each line
pub all_lines : (P : FeatureParts → Type 0) (t : Runs) (d : ℕ) (more : List RunLine) → AllRuns P t → AllByRecursion (λ l. P l.element) more → AllByRecursion (λ l. P l.element) (lines_of d t ++ more)
all_lines P done d more h rest = rest
all_lines P (run n f c l) d more (here, below, behind) rest =
    (here, subst (AllByRecursion (λ l. P l.element)) (sym (append_assoc (lines_of (suc d) c) (lines_of d l) more)) (all_lines P c (suc d) (lines_of d l ++ more) below (all_lines P l d more behind rest)))
