-- Whether the rule with an order key has a pair, by a look-up of the rule.
use Rattle.std.proofs.Common.{◌≡◌, ◌↔◌, ℕ, Bool, true, false, List, Option, Some, None, IfSome, IfNone, refl, sym, subst, true≢false}
use Rattle.std.specs.List.{Contains}
use Rattle.css_model.specs.declared.sheet.Decl.{Decl}
use Rattle.css_model.specs.Documents.SelectorParts.{SelectorParts}
use Rattle.css_model.specs.Sheets.RuleParts.{RuleParts}
use Rattle.rule_tables.specs.Pairs.{HasBoth, OrderKeyHasBoth}
use Rattle.rule_tables.specs.Tables.{OrderKeyed, with_order_key}

pub pair_of_rule : (rules : List OrderKeyed) (order_key : ℕ) (s : SelectorParts) (d : Decl) (q : RuleParts) (b : Bool) → ((r : RuleParts) → Contains rules (with_order_key r order_key) ↔ (r ≡ q)) →
    ((b ≡ true) ↔ HasBoth q s d) → (b ≡ true) ↔ OrderKeyHasBoth rules order_key s d
pair_of_rule rules order_key s d q b one both = (
  λ h. (q, (one q).1 refl, both.0 h),
  λ (r, in_list, has). both.1 (subst (λ (p : RuleParts). HasBoth p s d) ((one r).0 in_list) has),
)

pub pair_of_none : (rules : List OrderKeyed) (order_key : ℕ) (s : SelectorParts) (d : Decl) → ((r : RuleParts) → Contains rules (with_order_key r order_key) → ⊥) → (false ≡ true) ↔ OrderKeyHasBoth rules order_key s d
pair_of_none rules order_key s d none = (λ h. absurd (true≢false (sym h)), λ (r, in_list, has). absurd (none r in_list))

-- ---- What a look-up gave

pub some_then : {X : Type 0} (o : Option X) (P Q : X → Type 0) → ((x : X) → P x → Q x) → IfSome o P → IfSome o Q
some_then None P Q f h = h
some_then (Some x) P Q f h = f x h

pub none_then : {X P Q : Type 0} (o : Option X) → (P → Q) → IfNone o P → IfNone o Q
none_then None f h = f h
none_then (Some x) f h = h
