-- What is known of the rules of an indexed sheet, by their item ids (own).
use Rattle.std.specs.Prelude.{◌≡◌, ◌⊎◌, ℕ, ◌<◌, ◌≤◌, Bool, true, false, ◌&&◌, ◌||◌, List, Option, Some, IfSome, get_or, length, slice_get}
use Rattle.css_model.specs.declared.sheet.Item.{Item}
pub use Rattle.pending_laws.specs.Facts.{HasNoCut, HasOwnDecls, HasOwnPairs, HasOwnSelectors}
use Rattle.pending_laws.specs.declared.way.Way.{Way}
use Rattle.pending_laws.specs.Ways.{IsMove}
use Rattle.indexed_sheet.specs.IndexedParts.{IndexedParts}
use Rattle.indexed_sheet.specs.declared.facts.Facts.{Facts}
use Rattle.indexed_sheet.specs.declared.marks.Mark.{Mark}
use Rattle.step_laws.specs.declared.step.Step.{Step}
use Rattle.step_laws.specs.Steps.{first_item, last_item}

-- each fact is true of the rule of this number
pub record AreTrueOf (items : List Item) (n : ℕ) (facts : Facts) : Type 0 where
  pub no_cut : facts.no_cut ≡ true → HasNoCut items n
  pub own_selectors : facts.own_selectors ≡ true → HasOwnSelectors items n
  pub own_decls : facts.own_decls ≡ true → HasOwnDecls items n
  pub own_pairs : facts.own_pairs ≡ true → HasOwnPairs items n

-- nothing is known; what is known by both; what is known by either
abbrev pub nothing : Facts
nothing = record { no_cut = false; own_selectors = false; own_decls = false; own_pairs = false }

abbrev pub by_both : Facts → Facts → Facts
by_both f g = record { no_cut = f.no_cut && g.no_cut; own_selectors = f.own_selectors && g.own_selectors; own_decls = f.own_decls && g.own_decls; own_pairs = f.own_pairs && g.own_pairs }

abbrev pub by_either : Facts → Facts → Facts
by_either f g = record { no_cut = f.no_cut || g.no_cut; own_selectors = f.own_selectors || g.own_selectors; own_decls = f.own_decls || g.own_decls; own_pairs = f.own_pairs || g.own_pairs }

-- the rule has pairs of its own
abbrev pub of_own_pairs : Facts
of_own_pairs = record { no_cut = false; own_selectors = false; own_decls = false; own_pairs = true }

-- what is known of the rule of an item id
abbrev pub facts_under : List Facts → ℕ → Facts
facts_under known item_id = get_or known item_id nothing

-- What is known of the rules of an indexed sheet is so, and nothing is known of a rule that is not created.
pub record AreKnown (indexed : IndexedParts) (known : List Facts) : Type 0 where
  pub are_true : (n : ℕ) (m : Mark) → slice_get indexed.marks n ≡ Some m → AreTrueOf indexed.items n (facts_under known m.item_id)
  pub few : length known ≤ indexed.next

-- the step is a join, and this is so of both of its rules
pub record AreTrueOfBoth (items : List Item) (k : Step) (facts : Facts) : Type 0 where
  pub way : Way
  pub move : IsMove way k
  pub upper : AreTrueOf items (first_item k) facts
  pub lower : AreTrueOf items (last_item k) facts

-- Once something is known of a rule that is made, which has the next item id, the same is known of all others.
pub record AreLearnt (old new : List Facts) (item_id : ℕ) (made : Option Facts) : Type 0 where
  pub each : (b : ℕ) → (facts_under new b ≡ facts_under old b) ⊎ ((b ≡ item_id) × (made ≡ Some (facts_under new b)))
  pub few : (n : ℕ) → length old ≤ n → IfSome made (λ _. item_id < n) → length new ≤ n

-- Once something is known of the rules that are made, which have these item ids, the same is known of all others.
abbrev pub AreLearntOfEach : List Facts → List Facts → ℕ → ℕ → Facts → Type 0
AreLearntOfEach old new from to own = ((b : ℕ) → (facts_under new b ≡ facts_under old b) ⊎ ((from ≤ b) × (b < to) × (facts_under new b ≡ own)))
    × ((n : ℕ) → length old ≤ n → to ≤ n → length new ≤ n)

-- Either something is known of the rule that is made, or of each rule that is made that it has pairs of its own.
abbrev pub AreLearntOf : List Facts → List Facts → (from to : ℕ) → Option Facts → Bool → Type 0
AreLearntOf old new from to made own_pairs = AreLearnt old new from made ⊎ ((own_pairs ≡ true) × AreLearntOfEach old new from to of_own_pairs)
