-- Equality decides whether two values are the same, from simple selectors up to whole sheets.
use Rattle.std.proofs.Common.{◌≡◌, List, Option, Decides, rules, arith}
use Rattle.std.specs.Cmp.Lexicographic.{pointwise, pointwise_decides, bytes_decides}
use Rattle.css_model.specs.declared.selector.Test.{Test}
use Rattle.css_model.specs.declared.selector.Simple.{Simple}
use Rattle.css_model.specs.Sheets.RuleParts.{RuleParts}
use Rattle.css_model.specs.Sheets.KeptRuleParts.{KeptRuleParts}
use Rattle.css_model.specs.Sheets.SheetParts.{SheetParts}
use Rattle.css_model.specs.declared.sheet.Decl.{Decl}
use Rattle.css_model.specs.declared.sheet.SelItem.{SelItem}
use Rattle.css_model.specs.declared.sheet.DeclItem.{DeclItem}
use Rattle.css_model.specs.declared.sheet.Piece.{Piece}
use Rattle.css_model.specs.declared.sheet.Item.{Item}
use Rattle.css_model.specs.contracts.selector.TestPartialEq.TheImpl as test
use Rattle.css_model.specs.contracts.selector.SimplePartialEq.TheImpl as simple
use Rattle.std.specs.Option.{option_eq}
use Rattle.std.specs.Cmp.{unsigned_Decides}
use Rattle.css_model.specs.Documents.SelectorParts.{SelectorParts}
use Rattle.css_model.specs.declared.selector.Combinator.{Combinator}
use Rattle.css_model.specs.declared.selector.Pseudo.{Pseudo}
use Rattle.css_model.specs.contracts.selector.CombinatorPartialEq.TheImpl as link
use Rattle.css_model.specs.contracts.selector.PseudoPartialEq.TheImpl as pseudo
use Rattle.css_model.specs.contracts.selector.SelectorPartialEq.TheImpl as selector
use Rattle.css_model.specs.contracts.sheet.PiecePartialEq.TheImpl as piece
use Rattle.css_model.specs.contracts.sheet.DeclPartialEq.TheImpl as decl
use Rattle.css_model.specs.contracts.sheet.SelItemPartialEq.TheImpl as sel_item
use Rattle.css_model.specs.contracts.sheet.DeclItemPartialEq.TheImpl as decl_item
use Rattle.css_model.specs.contracts.sheet.RulePartialEq.TheImpl as rule
use Rattle.css_model.specs.contracts.sheet.KeptRulePartialEq.TheImpl as kept_rule
use Rattle.css_model.specs.contracts.sheet.ItemPartialEq.TheImpl as item
use Rattle.css_model.specs.contracts.sheet.SheetPartialEq.TheImpl as sheet

pub test_decides : (a b : Test) → Decides ((test.ghosts).eq a b) (a ≡ b)
test_decides a b = search (rules, bytes_decides)

pub simple_decides : (a b : Simple) → Decides ((simple.ghosts).eq a b) (a ≡ b)
simple_decides a b = grind (arith, test_decides a.test b.test)

pub compound_decides : (a b : List Simple) → Decides (pointwise (simple.ghosts).eq a b) (a ≡ b)
compound_decides = pointwise_decides simple_decides

pub chain_decides : (a b : List (List Simple)) → Decides (pointwise (pointwise (simple.ghosts).eq) a b) (a ≡ b)
chain_decides = pointwise_decides compound_decides

pub link_decides : (a b : Combinator) → Decides ((link.ghosts).eq a b) (a ≡ b)
link_decides a b = search rules

pub links_decides : (a b : List Combinator) → Decides (pointwise (link.ghosts).eq a b) (a ≡ b)
links_decides = pointwise_decides link_decides

pub pseudo_decides : (a b : Option Pseudo) → Decides (option_eq (pseudo.ghosts).eq a b) (a ≡ b)
pseudo_decides a b = search rules

pub selector_decides : (a b : SelectorParts) → Decides ((selector.ghosts).eq a b) (a ≡ b)
selector_decides a b =
    grind (arith, chain_decides a.chain b.chain, links_decides a.links b.links, pseudo_decides a.pseudo b.pseudo)

pub piece_decides : (a b : Piece) → Decides ((piece.ghosts).eq a b) (a ≡ b)
piece_decides a b = search rules

pub decl_decides : (a b : Decl) → Decides ((decl.ghosts).eq a b) (a ≡ b)
decl_decides a b = search (rules, bytes_decides)

pub sel_item_decides : (a b : SelItem) → Decides ((sel_item.ghosts).eq a b) (a ≡ b)
sel_item_decides a b = grind (arith, selector_decides a.selector b.selector, piece_decides a.piece b.piece)

pub decl_item_decides : (a b : DeclItem) → Decides ((decl_item.ghosts).eq a b) (a ≡ b)
decl_item_decides a b =
    grind (arith, decl_decides a.decl b.decl, piece_decides a.name b.name, piece_decides a.value b.value)

pub sel_items_decides : (a b : List SelItem) → Decides (pointwise (sel_item.ghosts).eq a b) (a ≡ b)
sel_items_decides = pointwise_decides sel_item_decides

pub decl_items_decides : (a b : List DeclItem) → Decides (pointwise (decl_item.ghosts).eq a b) (a ≡ b)
decl_items_decides = pointwise_decides decl_item_decides

pub rule_decides : (a b : RuleParts) → Decides ((rule.ghosts).eq a b) (a ≡ b)
rule_decides a b =
    grind (arith, sel_items_decides a.selectors b.selectors, decl_items_decides a.decls b.decls)

pub decls_decides : (a b : List Decl) → Decides (pointwise (decl.ghosts).eq a b) (a ≡ b)
decls_decides = pointwise_decides decl_decides

pub kept_rule_decides : (a b : KeptRuleParts) → Decides ((kept_rule.ghosts).eq a b) (a ≡ b)
kept_rule_decides a b =
    grind (arith, piece_decides a.piece b.piece, decls_decides a.decls b.decls, unsigned_Decides a.reason b.reason)

pub item_decides : (a b : Item) → Decides ((item.ghosts).eq a b) (a ≡ b)
item_decides a b = search (rules, rule_decides, kept_rule_decides, piece_decides)

pub items_decides : (a b : List Item) → Decides (pointwise (item.ghosts).eq a b) (a ≡ b)
items_decides = pointwise_decides item_decides

pub sheet_decides : (a b : SheetParts) → Decides ((sheet.ghosts).eq a b) (a ≡ b)
sheet_decides a b = grind (arith, items_decides a.items b.items)
