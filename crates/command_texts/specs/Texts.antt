-- What is told of the words of a command line (own).
use Rattle.std.specs.Prelude.{◌≡◌, ℕ, List, [], ◌∷◌, ◌++◌, codes}
use Rattle.command_texts.specs.declared.texts.TheConstants.{VERSION}
use Rattle.command_words.specs.declared.command.Topic.{Topic}
use Rattle.command_words.specs.declared.command.Topic.TheVariants as topic

-- a text ends with the end of a line
abbrev pub EndsLine : List ℕ → Type 0
EndsLine text = (front : List ℕ) × (text ≡ front ++ 10 ∷ [])

-- the name of the program and its version
abbrev pub version_text : List ℕ
version_text = codes "cssmin " ++ VERSION.now ++ 10 ∷ []

-- ---- Help

-- a text of this line and more, to the end of a line
abbrev pub BeginsWithLine : List ℕ → (text : List ℕ) → Type 0
BeginsWithLine line text = (more : List ℕ) × (text ≡ (line ++ 10 ∷ []) ++ (more ++ 10 ∷ []))

-- what the program does, or a command of it
abbrev pub purpose : Topic → List ℕ
purpose topic.Program = codes "Makes a CSS style sheet smaller, with the same winners on every legal page"
purpose topic.Min = codes "Make a style sheet smaller, with the same winners on each legal page"
purpose topic.Dead = codes "Tell which selectors of a sheet match nothing on any legal page"
purpose topic.Style = codes "Tell which declarations win for an element of a small page"
purpose topic.Cmp = codes "Tell whether one element of a legal page can match two selectors"
purpose topic.Why = codes "Tell why a rule of a style sheet may not be moved to another one"
purpose topic.Same = codes "Compare which declarations win by two style sheets"
purpose topic.Diff = codes "Tell how a style sheet differs from what another tool made of it"
purpose topic.Blockers = codes "Tell which items of a style sheet stop merges that would save bytes"
purpose topic.Listing = codes "List the items of a style sheet, each with its number and its place"
purpose topic.Lint = codes "Tell which selectors match nothing and which declarations come again"
purpose topic.Inspect = codes "List all declarations for an element of a small page, and which win"
purpose topic.Check = codes "Check a log that refutes a formula"
purpose topic.Trial = codes "Make a sheet and merge it, and tell what came of it"

-- The text of help on a topic begins with a line that says what that does. What more it says is `clap`'s.
abbrev pub IsHelpOn : Topic → (text : List ℕ) → Type 0
IsHelpOn about text = BeginsWithLine (purpose about) text
