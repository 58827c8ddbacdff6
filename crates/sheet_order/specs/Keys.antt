-- Selectors, declarations and pairs in tables, where they are the same wherever they stand.
use Rattle.std.specs.Prelude.{◌≡◌, ℕ, ◌++◌, List, map, reverse}
use Rattle.std.specs.Hash as fed
use Rattle.std.specs.List.{filter, flat_map}
use Rattle.css_model.specs.contracts.selector.SelectorHash.TheImpl as selector
use Rattle.css_model.specs.contracts.text.TextHash.TheImpl as text
use Rattle.css_model.specs.declared.sheet.Decl.{Decl}
use Rattle.css_model.specs.Cascade.Order.{Pair}
use Rattle.css_model.specs.Documents.SelectorParts.{SelectorParts}
use Rattle.indexmap.specs.IndexSet.{insert_all}
use Rattle.order_laws.specs.Members.{same_pair}
use Rattle.order_laws.specs.Places.{PlacedPair, placed}
use Rattle.sheet_order.specs.Counting.{not_among}

-- the name and the value of a declaration (own)
abbrev pub decl_fed : Decl → fed.HashWrites
decl_fed d = (text.ghosts).hash_input d.name ++ fed.slice fed.u8 d.value

-- the selector and the declaration of a pair (own)
abbrev pub pair_fed : Pair → fed.HashWrites
pair_fed p = (selector.ghosts).hash_input p.selector ++ decl_fed p.decl

-- pairs with others behind them, each unless it is there (own)
abbrev pub inserted : List PlacedPair → List PlacedPair → List PlacedPair
inserted found pairs = insert_all (λ p q. same_pair q.pair p.pair) found pairs

-- the pairs of selectors and declarations of an item, those of the last selector first (own)
abbrev pub products_back : ℕ → List (ℕ × SelectorParts) → List (ℕ × Decl) → List PlacedPair
products_back item selectors decls = flat_map (λ s. map (placed item s) decls) (reverse selectors)

-- those of some pairs that are not there are put behind the others, the last one first (own)
abbrev pub PutsPairs : List PlacedPair → List PlacedPair → List PlacedPair → Type 0
PutsPairs found pairs new = reverse new ≡ filter (not_among (reverse found)) pairs ++ reverse found
