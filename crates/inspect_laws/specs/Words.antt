-- Which entries win, when, and which lose to which (own).
use Rattle.std.specs.Prelude.{ℕ, Bool, true, false, ◌&&◌, ◌||◌, if◌then◌else◌, List, Option, Some, None, is_some}
use Rattle.std.specs.List.{list_any}
use Rattle.css_model.specs.Lists.{same_text}
use Rattle.inspect_laws.specs.Entries.{Entry}
use Rattle.inspect_laws.specs.Groups.{is_all}
use Rattle.inspect_laws.specs.Order.{outranks}

-- whether two heads are both none, or the same text
abbrev pub same_head : Option (List ℕ) → Option (List ℕ) → Bool
same_head None None = true
same_head None (Some head) = false
same_head (Some head) None = false
same_head (Some head) (Some other) = same_text head other

-- whether one entry applies wherever another one does: it stands in no block, or in one with the same head
abbrev pub applies_with : Entry → Entry → Bool
applies_with f e = same_head f.head None || same_head f.head e.head

-- whether one entry sets what another one sets: it has the same property, or `all`
abbrev pub sets_of : Entry → Entry → Bool
sets_of f e = same_text f.decl.name e.decl.name || is_all f

-- An entry has lost where a greater one sets what it sets wherever it applies.
abbrev pub has_lost : (all : List Entry) → Entry → Bool
has_lost all e = list_any (λ f. outranks f e && (sets_of f e && applies_with f e)) all

-- what is told of an entry
pub data Word : Type 0 where
  Wins : Word
  When : Word
  Lost : Word

-- the word for an entry in a block or in none, where it has lost or has not
abbrev pub word : (lost inside : Bool) → Word
word true inside = Lost
word false true = When
word false false = Wins

-- the word for one of these entries
abbrev pub word_of : (all : List Entry) → Entry → Word
word_of all e = word (has_lost all e) (is_some e.head)
