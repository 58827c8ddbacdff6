-- Whether what is held says that a selector is dead (own).
use Rattle.std.specs.Prelude.{Bool, true, false, ◌&&◌, List, Option, Some, None}
use Rattle.std.specs.Borrow.{Bor}
use Rattle.std.specs.List.{list_any}
use Rattle.css_model.specs.contracts.selector.SelectorPartialEq.TheImpl as selector
use Rattle.css_model.specs.Documents.SelectorParts.{SelectorParts}
use Rattle.overlap.specs.declared.answer.Answer.{Answer}
use Rattle.overlap.specs.declared.answer.Answer.TheVariants.{Apart, Meet, Outside, Spent}
use Rattle.overlap.specs.PairsParts.{Answered}
use Rattle.dead_sel.specs.Living.{every}

-- whether an answer says that two selectors are apart
abbrev pub is_apart : Answer → Bool
is_apart Apart = true
is_apart (Meet e) = false
is_apart (Outside reason number) = false
is_apart (Spent ledger) = false

-- whether what is known of two selectors says so
abbrev pub is_known_apart : Option (Bor Answer) → Bool
is_known_apart None = false
is_known_apart (Some answer) = is_apart answer.now

-- whether an answer says that a selector and `*` with its pseudo-element are apart
abbrev pub says_dead : SelectorParts → Answered → Bool
says_dead s e = (selector.ghosts).eq e.left s && (selector.ghosts).eq e.right (every s.pseudo) && is_apart e.answer

-- Whether one of these answers says that a selector and `*` are apart.
abbrev pub is_dead : List Answered → SelectorParts → Bool
is_dead answers s = list_any (says_dead s) answers
