-- What pairs and kept items are compared by (own).
use Rattle.std.specs.Prelude.{ℕ, ◌==◌, Bool, true, false, ◌&&◌, List, [], ◌++◌, Option, Some, None}
use Rattle.std.specs.Bool.{beq}
use Rattle.std.specs.Hash as fed
use Rattle.std.specs.List.{list_any}
use Rattle.css_model.specs.contracts.selector.SelectorHash.TheImpl as selector_hash
use Rattle.css_model.specs.declared.sheet.Item.{Item}
use Rattle.css_model.specs.declared.sheet.Item.TheVariants.{Rule, KeptRule, KeptBlock}
use Rattle.css_model.specs.Documents.SelectorParts.{SelectorParts}
use Rattle.css_model.specs.Lists.{same_text}
use Rattle.order_laws.specs.Members.{same_selector}
use Rattle.sheet_members.specs.Occurrences.{Occurrence, Part, Paired, Kept}

-- The normal head of the block around it, whether it is a kept rule, of a pair its selector, property and importance, and its normal text: of a
-- pair that of the value. Alike kept items are told apart by a number. A changed one is compared by less (`key_of`).
pub record Label : Type 0 where
  pub head : Option (List ℕ)
  pub rule : Bool
  pub changed : Bool
  pub selector : Option SelectorParts
  pub name : List ℕ
  pub important : Bool
  pub text : List ℕ
  pub number : ℕ

-- whether an item is a kept rule
abbrev pub is_rule : Item → Bool
is_rule (Rule r) = false
is_rule (KeptRule k) = true
is_rule (KeptBlock piece) = false

-- the label of a part with this normal text, in a block with this normal head
abbrev pub label_with : (head : Option (List ℕ)) → Part → (changed : Bool) → (text : List ℕ) → Label
label_with head (Paired s d) changed text = record {
  head = head;
  rule = false;
  changed = changed;
  selector = Some s.selector;
  name = d.decl.name;
  important = d.decl.important;
  text = text;
  number = 0;
}
label_with head (Kept item) changed text = record {
  head = head;
  rule = is_rule item;
  changed = changed;
  selector = None;
  name = [];
  important = false;
  text = text;
  number = 0;
}

abbrev pub label_of : Occurrence → Label
label_of o = label_with o.layer.head o.part false o.text

-- That of a changed one: without its value, and of a kept item with the normal text of its head alone.
abbrev pub key_of : Occurrence → Label
key_of o = label_with o.layer.head o.part true o.front

-- ---- Whether labels are the same

abbrev pub same_head : Option (List ℕ) → Option (List ℕ) → Bool
same_head None None = true
same_head None (Some head) = false
same_head (Some head) None = false
same_head (Some head) (Some other) = same_text head other

abbrev pub same_subject : Option SelectorParts → Option SelectorParts → Bool
same_subject None None = true
same_subject None (Some selector) = false
same_subject (Some selector) None = false
same_subject (Some selector) (Some other) = same_selector selector other

-- whether two labels agree in what is not a list
abbrev pub same_marks : Label → Label → Bool
same_marks a b = (beq a.rule b.rule && beq a.changed b.changed) && (beq a.important b.important && a.number == b.number)

-- and in the others
abbrev pub same_lists : Label → Label → Bool
same_lists a b = (same_text a.text b.text && same_text a.name b.name) && (same_head a.head b.head && same_subject a.selector b.selector)

abbrev pub same_label : Label → Label → Bool
same_label a b = same_marks a b && same_lists a b

-- whether a label is among these
abbrev pub has_label : List Label → Label → Bool
has_label labels label = list_any (λ l. same_label l label) labels

-- ---- What is fed to a hasher

abbrev pub head_fed : Option (List ℕ) → fed.HashWrites
head_fed None = []
head_fed (Some head) = fed.slice fed.u8 head

abbrev pub subject_fed : Option SelectorParts → fed.HashWrites
subject_fed None = []
subject_fed (Some selector) = (selector_hash.ghosts).hash_input selector

abbrev pub label_fed : Label → fed.HashWrites
label_fed l = fed.slice fed.u8 l.text ++ fed.slice fed.char l.name ++ head_fed l.head ++ subject_fed l.selector ++ fed.usize l.number
