-- What is told of the selectors of a sheet: whether they match anything (own).
use Rattle.std.specs.Prelude.{◌≡◌, ℕ, List, [], ◌∷◌, ◌++◌, map, Result, Ok, Err, codes, decimal}
use Rattle.std.specs.List.{All, Contains, flat_map}
use Rattle.css_model.specs.declared.fault.SheetFault.{SheetFault}
use Rattle.css_model.specs.declared.sheet.Item.{Item}
use Rattle.css_model.specs.Sheets.Sheet.{sheet_of}
use Rattle.dead_sel.specs.declared.living.Life.{Life}
use Rattle.dead_sel.specs.declared.living.Life.TheVariants.{Dead, Alive, SpacesTaken, Spent}
use Rattle.dead_sel.specs.Living.{every, IsLife, IsTrueLife}
use Rattle.doc_text.specs.DocText.{doc_lines, ended}
use Rattle.overlap.specs.PairsParts.{Answered, PairsParts}
use Rattle.dead_text.specs.Listing.{NumberedSelector, numbered_selectors}

-- ---- The lines

-- what is told of a life; 12 is the number of the reason that no white space is left (`no_space_left`)
abbrev pub life_word : Life → List ℕ
life_word Dead = codes "dead"
life_word (Alive example) = codes "alive"
life_word SpacesTaken = codes "outside 12"
life_word (Spent ledger) = codes "spent"

-- the lines behind it: those of a document where the selector matches the marked element
abbrev pub evidence_lines : Life → List (List ℕ)
evidence_lines Dead = []
evidence_lines (Alive example) = doc_lines example
evidence_lines SpacesTaken = []
evidence_lines (Spent ledger) = []

-- the line of a selector with these numbers
abbrev pub numbered_line : (item number : ℕ) → (word : List ℕ) → List ℕ
numbered_line item number word = decimal item ++ codes "." ++ decimal number ++ codes " " ++ word

-- a selector, and whether it matches anything
pub record Told : Type 0 where
  pub of : NumberedSelector
  pub life : Life

abbrev pub told_lines : Told → List (List ℕ)
told_lines t = numbered_line t.of.item t.of.number (life_word t.life) ∷ evidence_lines t.life

-- ---- What is told

-- the life is told by the answer that is held for the selector and `*`, and it is true
pub record IsTold (pairs : PairsParts) (t : Told) : Type 0 where
  pub held : IsLife pairs.answers t.of.selector t.life
  pub is_true : ∥ IsTrueLife t.of.selector pairs.budget t.life ∥₁

-- one more selector is told of, behind a text
pub record TellsMore (pairs : PairsParts) (s : NumberedSelector) (old new : List ℕ) : Type 0 where
  pub life : Life
  pub by_answer : IsTold pairs (record { of = s; life = life })
  pub text_is : new ≡ old ++ ended (told_lines (record { of = s; life = life }))

-- a text tells the life of each of these selectors, in order
pub record TellsEach (pairs : PairsParts) (selectors : List NumberedSelector) (text : List ℕ) : Type 0 where
  pub told : List Told
  pub of_each : map (λ t. t.of) told ≡ selectors
  pub by_answers : All (IsTold pairs) told
  pub text_is : text ≡ ended (flat_map told_lines told)

-- The text tells the life of each selector of the sheet that the source is read as, over the answers that are held
-- afterwards.
pub record TellsOf (pairs : PairsParts) (source text : List ℕ) : Type 0 where
  pub items : List Item
  pub read : sheet_of source ≡ Ok items
  pub lives : TellsEach pairs (numbered_selectors items) text

-- ---- What is asked

-- an answer for one of these selectors and `*` with its pseudo-element
abbrev pub IsOfOne : List NumberedSelector → Answered → Type 0
IsOfOne selectors a = (s : NumberedSelector) × Contains selectors s × (a.left ≡ s.selector) × (a.right ≡ every s.selector.pseudo)

-- what is held once selectors were asked for: the earlier answers, and behind them only answers for these
pub record AsksEach (old new : PairsParts) (selectors : List NumberedSelector) : Type 0 where
  pub budget : new.budget ≡ old.budget
  pub more : List Answered
  pub is : new.answers ≡ old.answers ++ more
  pub only : All (IsOfOne selectors) more

-- the selectors of a sheet are asked for, and nothing where it has a fault
abbrev pub AsksOf : Result (List Item) SheetFault → (old new : PairsParts) → Type 0
AsksOf (Ok items) old new = AsksEach old new (numbered_selectors items)
AsksOf (Err fault) old new = new ≡ old
