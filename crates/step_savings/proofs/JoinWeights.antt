-- What two rules weigh more than the one that a join makes of them.
use Rattle.std.proofs.Common.{◌≡◌, ℕ, ◌+◌, not, List, ◌++◌, sym, ap₂, ◌∙◌, arith}
use Rattle.std.specs.List.{filter}
use Rattle.css_model.specs.declared.sheet.SelItem.{SelItem}
use Rattle.css_model.specs.Sheets.Printed.{printed_selector, printed_declaration}
use Rattle.css_model.specs.Sheets.RuleParts.{RuleParts}
use Rattle.order_laws.specs.Members.{has_selector}
use Rattle.step_laws.specs.RuleParting.{both_selectors}
use Rattle.step_laws.specs.Sizes.{weight, rule_weight}
use Rattle.rule_parts.proofs.ForCallers.{weight-append, weight-parted}
use Rattle.step_savings.specs.Weighing.{both_weight}

pub upper_selectors_weigh : (source : List ℕ) (u l : RuleParts) (n : ℕ) → n ≡ weight (printed_selector source) l.selectors →
    n + rule_weight source (record { selectors = u.selectors; decls = u.decls ++ l.decls }) ≡ both_weight source u l
upper_selectors_weigh source u l n e =
    let both : weight (printed_declaration source) (u.decls ++ l.decls) ≡ weight (printed_declaration source) u.decls + weight (printed_declaration source) l.decls = weight-append (printed_declaration source) u.decls l.decls in
    omega (arith, e, both)

pub lower_selectors_weigh : (source : List ℕ) (u l : RuleParts) (n : ℕ) → n ≡ weight (printed_selector source) u.selectors →
    n + rule_weight source (record { selectors = l.selectors; decls = u.decls ++ l.decls }) ≡ both_weight source u l
lower_selectors_weigh source u l n e =
    let both : weight (printed_declaration source) (u.decls ++ l.decls) ≡ weight (printed_declaration source) u.decls + weight (printed_declaration source) l.decls = weight-append (printed_declaration source) u.decls l.decls in
    omega (arith, e, both)

-- the selectors of both, and those of the lower one that the upper one has too
selectors_weigh : (source : List ℕ) (u l : RuleParts) →
    weight (printed_selector source) (filter (λ s. has_selector u.selectors s.selector) l.selectors) + weight (printed_selector source) (both_selectors u l) ≡ weight (printed_selector source) u.selectors + weight (printed_selector source) l.selectors
selectors_weigh source u l =
    let both : weight (printed_selector source) (u.selectors ++ filter (λ s. not (has_selector u.selectors s.selector)) l.selectors) ≡ weight (printed_selector source) u.selectors + weight (printed_selector source) (filter (λ s. not (has_selector u.selectors s.selector)) l.selectors) = weight-append (printed_selector source) u.selectors (filter (λ s. not (has_selector u.selectors s.selector)) l.selectors) in
    let parted : weight (printed_selector source) (filter (λ s. has_selector u.selectors s.selector) l.selectors) + weight (printed_selector source) (filter (λ s. not (has_selector u.selectors s.selector)) l.selectors) ≡ weight (printed_selector source) l.selectors = weight-parted (printed_selector source) (λ s. has_selector u.selectors s.selector) l.selectors in
    omega (arith, both, parted)

pub upper_decls_weigh : (source : List ℕ) (u l : RuleParts) (n m : ℕ) → n ≡ weight (printed_selector source) (filter (λ s. has_selector u.selectors s.selector) l.selectors) →
    m ≡ weight (printed_declaration source) l.decls → n + m + rule_weight source (record { selectors = both_selectors u l; decls = u.decls }) ≡ both_weight source u l
upper_decls_weigh source u l n m a b = omega (arith, a, b, selectors_weigh source u l)

pub lower_decls_weigh : (source : List ℕ) (u l : RuleParts) (n m : ℕ) → n ≡ weight (printed_selector source) (filter (λ s. has_selector u.selectors s.selector) l.selectors) →
    m ≡ weight (printed_declaration source) u.decls → n + m + rule_weight source (record { selectors = both_selectors u l; decls = l.decls }) ≡ both_weight source u l
lower_decls_weigh source u l n m a b = omega (arith, a, b, selectors_weigh source u l)

-- the selectors of both, as the code adds them
pub both_weigh : (source : List ℕ) (us ls : List SelItem) (n m : ℕ) → n ≡ weight (printed_selector source) us → m ≡ weight (printed_selector source) (filter (λ s. not (has_selector us s.selector)) ls) →
    n + m ≡ weight (printed_selector source) (us ++ filter (λ s. not (has_selector us s.selector)) ls)
both_weigh source us ls n m a b = ap₂ (λ (i j : ℕ). i + j) a b ∙ sym (weight-append (printed_selector source) us (filter (λ s. not (has_selector us s.selector)) ls))
