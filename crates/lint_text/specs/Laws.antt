-- Laws on what is told of a sheet.
use Rattle.std.specs.Prelude.{◌≡◌, ℕ, true, false, List, map}
use Rattle.std.specs.List.{Contains}
use Rattle.css_model.specs.Cascade.Winner.{Understood, winner}
use Rattle.css_model.specs.Documents.Document.{Document, IsLegal, Target}
use Rattle.css_model.specs.Documents.SelectorParts.{SelectorParts}
use Rattle.dead_sel.specs.Held.{is_dead}
use Rattle.dead_sel.specs.Laws.{IsUndecided}
use Rattle.dead_sel.specs.Living.{MatchesNothing}
use Rattle.lint_laws.specs.Cleaned.{cleaned, cleaned_block}
use Rattle.media_groups.specs.Opened.{opened_of}
use Rattle.opened_laws.specs.Media.Scenes.{KeptScene, kept_blocks, meanings_of}
use Rattle.overlap.specs.PairsParts.{PairsParts}
use Rattle.lint_text.specs.Asking.{all_selectors}
use Rattle.lint_text.specs.LintTexts.{IsLintText}

-- A selector that is told to be dead matches no target of a legal document.
abbrev pub ToldDeadMatchNothing : Type 0
ToldDeadMatchNothing = (pairs : PairsParts) (source text : List ℕ) → IsLintText pairs source text → (s : SelectorParts) → is_dead pairs.answers s ≡ true → MatchesNothing s

-- Each selector of a rule that matches nothing is told, unless it was not decided.
abbrev pub DeadAreTold : Type 0
DeadAreTold = (pairs : PairsParts) (source text : List ℕ) (tells : IsLintText pairs source text) (s : SelectorParts) →
    Contains (all_selectors source tells.items) s → MatchesNothing s → is_dead pairs.answers s ≡ false → IsUndecided pairs.answers s

-- The sheet without all that is told, and without the rules that then have no selector or no declaration, has the same
-- winners (CSS Cascading 3, section 6): in every legal document, for every target, in each scene and whatever a browser
-- understands.
abbrev pub ToldMayGo : Type 0
ToldMayGo = (pairs : PairsParts) (source text : List ℕ) (tells : IsLintText pairs source text)
    (doc : Document) (target : Target) (us : List Understood) (scene : List KeptScene) → IsLegal doc →
    winner doc target (meanings_of doc target (kept_blocks (opened_of tells.items source) tells.items) scene) tells.items us
    ≡ winner doc target (meanings_of doc target
    (kept_blocks (map (cleaned_block (is_dead pairs.answers)) (opened_of tells.items source)) (cleaned (is_dead pairs.answers) tells.items)) scene)
    (cleaned (is_dead pairs.answers) tells.items) us
