-- What the steps of merging make of a sheet, what they save, and how they are led.
use Rattle.std.proofs.Common.{◌≡◌, ◌+◌, ℕ, List, [], ◌∷◌, Result, Ok, Err, true, false, refl}
use Rattle.std.specs.Char.{encode_utf8}
use Rattle.std.specs.Prelude.{codes}
use Rattle.std.specs.Str.{chars, is_utf8}
use Rattle.std.specs.Str.Lossy.{utf8_valid_len, utf8_lossy}
use Rattle.body_examples.proofs.Values.{a_class, at_rule, b_class, decl, declares, left, one, parts, red, rule, top}
use Rattle.css_model.specs.declared.fault.SheetFault.{SheetFault}
use Rattle.css_model.specs.declared.sheet.Item.{Item}
use Rattle.css_model.specs.declared.sheet.Item.TheVariants.{Rule}
use Rattle.css_model.specs.Sheets.Limits.{max_bytes}
use Rattle.css_model.specs.Sheets.Sheet.{sheet_of}
use Rattle.pending_laws.specs.Scopes.{Downs}
use Rattle.pending_laws.specs.Ways.{moves_decl, moves_to, scope_of, IsMove, MovesPairs}
use Rattle.pending_laws.specs.declared.way.Way.TheVariants.{Down, Up}
use Rattle.merge_steps.specs.Standing.{is_decl_again, is_decl_elsewhere}
use Rattle.order_laws.specs.Edits.{edited}
use Rattle.plan_laws.specs.Window.Beside.{beside_end, beside_first}
use Rattle.planner_state.specs.Enqueuing.{first_candidate}
use Rattle.queue_laws.specs.IndexedBarriers.{moves_number}
use Rattle.rule_tables.specs.Entries.{entry}
use Rattle.step_laws.specs.declared.step.Step.TheVariants as steps
use Rattle.step_laws.specs.RuleParting.{rule_or_none}
use Rattle.step_laws.specs.Sizes.{size}
use Rattle.step_laws.specs.StepEdits.{cut_decl, cut_selector, join_decls_down, join_decls_up, join_selectors_down, join_selectors_up, share}

-- ---- When a declaration may go

-- another value of the same name is not the same declaration
other_value_is_another_declaration : is_decl_again (declares top ∷ declares (decl (codes "top") (codes "1px")) ∷ []) 0 top ≡ false
other_value_is_another_declaration = refl

repeated_declaration_may_go : is_decl_again (declares top ∷ declares top ∷ []) 0 top ≡ true
repeated_declaration_may_go = refl

-- both `.a` and `.b` would need another rule with the declaration, and `.b` has none
one_pair_is_nowhere_else : is_decl_elsewhere (rule (a_class ∷ b_class ∷ []) (top ∷ []) ∷ one a_class top ∷ []) 0 (parts (a_class ∷ b_class ∷ []) (top ∷ [])) 0 top ≡ false
one_pair_is_nowhere_else = refl

-- the selector and the declaration are both elsewhere, but in two rules
pair_is_in_one_rule : is_decl_elsewhere (one a_class top ∷ one a_class left ∷ one b_class top ∷ []) 0 (parts (a_class ∷ []) (top ∷ [])) 0 top ≡ false
pair_is_in_one_rule = refl

both_pairs_are_elsewhere : is_decl_elsewhere (rule (a_class ∷ b_class ∷ []) (top ∷ []) ∷ one a_class top ∷ one b_class top ∷ []) 0 (parts (a_class ∷ b_class ∷ []) (top ∷ [])) 0 top ≡ true
both_pairs_are_elsewhere = refl

-- ---- What a step makes of a sheet

abbrev below : Item
below = one b_class red

second_selector_goes : edited (cut_selector 0 1 (parts (a_class ∷ b_class ∷ []) (top ∷ []))) (rule (a_class ∷ b_class ∷ []) (top ∷ []) ∷ below ∷ []) ≡ one a_class top ∷ below ∷ []
second_selector_goes = refl

second_declaration_goes : edited (cut_decl 0 1 (parts (a_class ∷ []) (top ∷ left ∷ []))) (rule (a_class ∷ []) (top ∷ left ∷ []) ∷ below ∷ []) ≡ one a_class top ∷ below ∷ []
second_declaration_goes = refl

-- the items between the two rules and after them stay
joined_in_the_upper_place : edited (join_selectors_up 0 2 (parts (a_class ∷ []) (top ∷ [])) (parts (a_class ∷ []) (left ∷ []))) (one a_class top ∷ at_rule ∷ one a_class left ∷ below ∷ [])
    ≡ rule (a_class ∷ []) (top ∷ left ∷ []) ∷ at_rule ∷ below ∷ []
joined_in_the_upper_place = refl

joined_in_the_lower_place : edited (join_selectors_down 0 2 (parts (a_class ∷ []) (top ∷ [])) (parts (a_class ∷ []) (left ∷ []))) (one a_class top ∷ at_rule ∷ one a_class left ∷ below ∷ [])
    ≡ at_rule ∷ rule (a_class ∷ []) (top ∷ left ∷ []) ∷ below ∷ []
joined_in_the_lower_place = refl

selectors_of_both : edited (join_decls_up 0 1 (parts (a_class ∷ []) (top ∷ [])) (parts (b_class ∷ []) (top ∷ []))) (one a_class top ∷ one b_class top ∷ below ∷ [])
    ≡ rule (a_class ∷ b_class ∷ []) (top ∷ []) ∷ below ∷ []
selectors_of_both = refl

selectors_of_both_below : edited (join_decls_down 0 1 (parts (a_class ∷ []) (top ∷ [])) (parts (b_class ∷ []) (top ∷ []))) (one a_class top ∷ one b_class top ∷ below ∷ [])
    ≡ rule (a_class ∷ b_class ∷ []) (top ∷ []) ∷ below ∷ []
selectors_of_both_below = refl

-- the common declaration comes before what is left of the lower rule
common_declaration_is_shared : edited (share 0 1 (parts (a_class ∷ []) (left ∷ top ∷ [])) (parts (b_class ∷ []) (top ∷ red ∷ []))) (rule (a_class ∷ []) (left ∷ top ∷ []) ∷ rule (b_class ∷ []) (top ∷ red ∷ []) ∷ [])
    ≡ one a_class left ∷ rule (a_class ∷ b_class ∷ []) (top ∷ []) ∷ one b_class red ∷ []
common_declaration_is_shared = refl

-- a rule is gone with its last declaration
empty_rule_is_gone : rule_or_none (parts (a_class ∷ []) []) ≡ []
empty_rule_is_gone = refl

-- ---- What a step saves

abbrev after_share : List Item → List Item
after_share (Rule upper ∷ Rule lower ∷ []) = edited (share 0 1 upper lower) (Rule upper ∷ Rule lower ∷ [])
after_share items = items

abbrev sizes : List ℕ → Result (List Item) SheetFault → List ℕ
sizes source (Ok items) = size source items ∷ size source (after_share items) ∷ []
sizes source (Err fault) = []

-- a share may make a sheet longer, by four bytes here
growth_is_counted : sizes (codes ".aaa{top:0;left:0}.bbb{top:0;color:red}") (sheet_of (codes ".aaa{top:0;left:0}.bbb{top:0;color:red}")) ≡ 39 ∷ 43 ∷ []
unfolding utf8_valid_len is_utf8 chars encode_utf8 utf8_lossy
growth_is_counted = refl

-- ---- Which steps move which items

-- a share moves no item up, so that what is known of its items does not stay
share_moves_no_item : (x y : ℕ) → IsMove Up (steps.Share x y) → ⊥
share_moves_no_item x y moves = moves

-- but it moves pairs of its upper item down
share_moves_pairs_down : (x y : ℕ) → MovesPairs Down (steps.Share x y)
share_moves_pairs_down x y = tt

abbrev three_rules : List Item
three_rules = one a_class top ∷ one b_class left ∷ rule (b_class ∷ []) (red ∷ top ∷ []) ∷ []

-- those whose declaration the lower rule has, too
both_have_the_declaration : moves_decl three_rules (steps.Share 0 2) top ≡ true
both_have_the_declaration = refl

lower_rule_lacks_the_declaration : moves_decl three_rules (steps.Share 0 1) top ≡ false
lower_rule_lacks_the_declaration = refl

join_moves_all_pairs : moves_decl three_rules (steps.JoinDeclDown 0 1) top ≡ true
join_moves_all_pairs = refl

-- the same by the number of the declaration in the upper rule
second_declaration_is_shared : moves_number (rule (b_class ∷ []) (red ∷ top ∷ []) ∷ one a_class top ∷ []) (steps.Share 0 1) 1 ≡ true
second_declaration_is_shared = refl

first_declaration_is_not_shared : moves_number (rule (b_class ∷ []) (red ∷ top ∷ []) ∷ one a_class top ∷ []) (steps.Share 0 1) 0 ≡ false
first_declaration_is_not_shared = refl

-- a rule that lacks the declaration has no share that moves it
share_is_among_the_moves : moves_to three_rules top Down 0 2 ≡ steps.JoinSelDown 0 2 ∷ steps.JoinDeclDown 0 2 ∷ steps.Share 0 2 ∷ []
share_is_among_the_moves = refl

no_share_is_among_the_moves : moves_to three_rules top Down 0 1 ≡ steps.JoinSelDown 0 1 ∷ steps.JoinDeclDown 0 1 ∷ []
no_share_is_among_the_moves = refl

nothing_is_shared_upwards : moves_to three_rules top Up 2 0 ≡ steps.JoinSelUp 0 2 ∷ steps.JoinDeclUp 0 2 ∷ []
nothing_is_shared_upwards = refl

-- in a join by selectors only the receiver is left out of what is looked at
receiver_alone_is_left_out : beside_first (steps.JoinSelUp 1 4) ≡ 2
receiver_alone_is_left_out = refl

mover_is_looked_at : beside_end (steps.JoinSelUp 1 4) ≡ 5
mover_is_looked_at = refl

-- ---- Candidates

-- all steps that move pairs of an item down are on the watch list at once
downs_go_together : scope_of Down ≡ Downs
downs_go_together = refl

-- the candidate of a new item comes before all that saves something
new_item_comes_first : (first_candidate 3).priority.saving ≡ max_bytes + 1
new_item_comes_first = refl

entry_has_its_digest : entry 5 9 ≡ record { digest = 5; order_key = 9 }
entry_has_its_digest = refl
