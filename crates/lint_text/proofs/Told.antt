-- What is told is true, and may go.
use Rattle.std.proofs.lemmas.List.Elements.{All-contains}
use Rattle.css_model.specs.Documents.SelectorParts.{SelectorParts}
use Rattle.dead_sel.specs.Held.{is_dead}
use Rattle.dead_sel.specs.Laws.{DeadMatchNothing, OthersAreUndecided}
use Rattle.dead_sel.specs.Living.{every}
use Rattle.lint_laws.specs.Cleaned.{CleaningBodiesKeepsWinners}
use Rattle.media_groups.specs.Laws.{OpenedBlocksAreSheets}
use Rattle.overlap.specs.Remembered.{IsHeld}
use Rattle.print_laws.specs.Profile.{SelectorsAreInProfile}
use Rattle.sheet_laws.specs.Reading.{ReadIsSound}
use Rattle.lint_text.specs.Asking.{all_selectors}
use Rattle.lint_text.specs.Laws.{DeadAreTold, ToldDeadMatchNothing, ToldMayGo}
use Rattle.lint_text.proofs.Profile.{each_in_profile}

pub match_nothing : DeadMatchNothing → ToldDeadMatchNothing
match_nothing law pairs source text tells s dead = law pairs tells.true_list s dead

pub are_told : OthersAreUndecided → ReadIsSound → SelectorsAreInProfile → OpenedBlocksAreSheets → DeadAreTold
are_told law sound profile blocks pairs source text tells s among none alive =
    law pairs tells.true_list s (each_in_profile profile sound blocks source tells.items tells.read s among)
    (All-contains (λ (x : SelectorParts). IsHeld pairs.answers x (every x.pseudo)) (all_selectors source tells.items) s tells.held among) alive none

pub may_go : DeadMatchNothing → CleaningBodiesKeepsWinners → ToldMayGo
may_go dead law pairs source text tells doc target us scene legal =
    law source tells.items (is_dead pairs.answers) (λ s h. dead pairs tells.true_list s h) doc target us scene legal
