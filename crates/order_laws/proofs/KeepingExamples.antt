-- Sheets that do not keep each other, since something wins in one of them alone; and some that do.
use Rattle.std.proofs.Common.{◌≡◌, ◌⊎◌, ℕ, false, List, [], ◌∷◌, length, Option, Some, None, refl, sym, ap, ◌∙◌, subst, inl, inr, arith}
use Rattle.std.specs.Prelude.{codes}
use Rattle.std.specs.Cmp.Lexicographic.{bytes_decides}
use Rattle.std.specs.List.{All, Contains}
use Rattle.std.proofs.lemmas.Bool.{false≢true}
use Rattle.std.proofs.lemmas.List.Elements.{All-cons, All-nil}
use Rattle.list_facts.proofs.Members.{Contains-here, Contains-nil, Contains-cons_cases}
use Rattle.css_model.specs.declared.selector.Specificity.{Specificity}
use Rattle.css_model.specs.declared.sheet.Decl.{Decl}
use Rattle.css_model.specs.declared.sheet.Item.{Item}
use Rattle.css_model.specs.declared.sheet.Item.TheVariants.{Rule}
use Rattle.css_model.specs.Cascade.Winner.{Declared, AreMeanings, Understood, Winner, winner}
use Rattle.css_model.specs.Lists.{same_text}
use Rattle.css_model.specs.Cascade.Family.{Related}
use Rattle.cascade_laws.specs.Families.{RelatingIsDecided}
use Rattle.css_model.specs.Cascade.Order.{Keeps}
use Rattle.css_model.specs.Sheets.RuleParts.{RuleParts}
use Rattle.order_laws.specs.Keeping.{AreRelated}
use Rattle.order_laws.specs.Reversed.{IsApart, Reversal}
use Rattle.order_laws.proofs.ExampleSheets.{a, b, decl, important, red, blue, top, rule_of, rule, kept_rule, kept_block, page, root, page_is_legal}
use Rattle.order_laws.proofs.MovingRules.{moving_apart_keeps}
use Rattle.order_laws.proofs.Winners.{keeping_keeps}

-- ---- Other winners

abbrev value_of : Option Winner → List ℕ
value_of None = []
value_of (Some w) = w.value

-- the value that wins at the root of the page
abbrev wins : List (List Declared) → List Item → List Understood → List ℕ
wins meanings items us = value_of (winner page root meanings items us)

abbrev NotKept : List Item → List Item → Type 0
NotKept items items' = (source source' : List ℕ) → Keeps source items source' items' → ⊥

by_winners : (items items' : List Item) (meanings : List (List Declared)) (us : List Understood) → AreMeanings items meanings → AreRelated us →
    same_text (wins meanings items us) (wins meanings items' us) ≡ false → NotKept items items'
by_winners items items' meanings us are related differ source source' keeps =
    false≢true (sym differ ∙ (bytes_decides (wins meanings items us) (wins meanings items' us)).1 (ap value_of (keeping_keeps source source' items items' keeps page root meanings us page_is_legal are related)))

-- what a browser understands: the one declaration, or both
abbrev understood : Decl → Understood
understood d = record { name = d.name; value = d.value }

one_related : (u : Understood) → AreRelated (u ∷ [])
one_related u v w h g = subst (λ (x : Understood). Related x.name w.name) (is_one v h) (subst (λ (x : Understood). Related u.name x.name) (is_one w g) (inr (inr refl)))
  where
    is_one : (x : Understood) → Contains (u ∷ []) x → u ≡ x
    is_one x h = which (Contains-cons_cases u [] x h)
      where
        which : (u ≡ x) ⊎ Contains [] x → u ≡ x
        which (inl e) = e
        which (inr g) = absurd (Contains-nil x g)

two_related : (u v : Understood) → Related u.name v.name → AreRelated (u ∷ v ∷ [])
two_related u v both x y h g = which (is_either x h) (is_either y g)
  where
    is_either : (z : Understood) → Contains (u ∷ v ∷ []) z → (u ≡ z) ⊎ (v ≡ z)
    is_either z h = first (Contains-cons_cases u (v ∷ []) z h)
      where
        second : (v ≡ z) ⊎ Contains [] z → (u ≡ z) ⊎ (v ≡ z)
        second (inl e) = inr e
        second (inr g) = absurd (Contains-nil z g)

        first : (u ≡ z) ⊎ Contains (v ∷ []) z → (u ≡ z) ⊎ (v ≡ z)
        first (inl e) = inl e
        first (inr g) = second (Contains-cons_cases v [] z g)

    turned : (m n : List ℕ) → Related m n → Related n m
    turned m n (inl e) = inr (inl e)
    turned m n (inr (inl e)) = inl e
    turned m n (inr (inr e)) = inr (inr (sym e))

    carried : (r s : Understood) → r ≡ x → s ≡ y → Related r.name s.name → Related x.name y.name
    carried r s e f k = subst (λ (z : Understood). Related z.name y.name) e (subst (λ (z : Understood). Related r.name z.name) f k)

    which : (u ≡ x) ⊎ (v ≡ x) → (u ≡ y) ⊎ (v ≡ y) → Related x.name y.name
    which (inl e) (inl f) = carried u u e f (inr (inr refl))
    which (inl e) (inr f) = carried u v e f both
    which (inr e) (inl f) = carried v u e f (turned u.name v.name both)
    which (inr e) (inr f) = carried v v e f (inr (inr refl))

-- two sheets of rules alone in which one of two declarations wins, and the other one
by_two : (d f : Decl) (items items' : List Item) → AreMeanings items [] → Related d.name f.name →
    same_text (wins [] items (understood d ∷ understood f ∷ [])) (wins [] items' (understood d ∷ understood f ∷ [])) ≡ false → NotKept items items'
by_two d f items items' are related = by_winners items items' [] (understood d ∷ understood f ∷ []) are (two_related (understood d) (understood f) related)

-- ---- Pairs that come or go

-- `.a{color:red}` and nothing
pair_dropped : NotKept (rule a (red ∷ []) ∷ []) []
pair_dropped = by_winners (rule a (red ∷ []) ∷ []) [] [] (understood red ∷ []) tt (one_related (understood red)) refl

-- nothing and `.a{color:red}`
pair_added : NotKept [] (rule a (red ∷ []) ∷ [])
pair_added = by_winners [] (rule a (red ∷ []) ∷ []) [] (understood red ∷ []) tt (one_related (understood red)) refl

abbrev clear : Decl
clear = decl (codes "color") (codes "oklch(1 0 0)")

-- a fallback, which an older browser needs: `.a{color:red;color:oklch(1 0 0)}` and `.a{color:oklch(1 0 0)}`
fallback_dropped : NotKept (rule a (red ∷ clear ∷ []) ∷ []) (rule a (clear ∷ []) ∷ [])
fallback_dropped = by_winners (rule a (red ∷ clear ∷ []) ∷ []) (rule a (clear ∷ []) ∷ []) [] (understood red ∷ []) tt (one_related (understood red)) refl

-- importance is part of a pair: `.a{color:red!important}.a{color:blue}` and `.a{color:red}.a{color:blue}`
importance_dropped : NotKept (rule a (important red ∷ []) ∷ rule a (blue ∷ []) ∷ []) (rule a (red ∷ []) ∷ rule a (blue ∷ []) ∷ [])
importance_dropped = by_two red blue (rule a (important red ∷ []) ∷ rule a (blue ∷ []) ∷ []) (rule a (red ∷ []) ∷ rule a (blue ∷ []) ∷ []) tt (inr (inr refl)) refl

-- ---- The order of pairs

-- `.a{color:red}.b{color:blue}` and the other order
pairs_swapped : NotKept (rule a (red ∷ []) ∷ rule b (blue ∷ []) ∷ []) (rule b (blue ∷ []) ∷ rule a (red ∷ []) ∷ [])
pairs_swapped = by_two red blue (rule a (red ∷ []) ∷ rule b (blue ∷ []) ∷ []) (rule b (blue ∷ []) ∷ rule a (red ∷ []) ∷ []) tt (inr (inr refl)) refl

-- both important
important_swapped : NotKept (rule a (important red ∷ []) ∷ rule b (important blue ∷ []) ∷ []) (rule b (important blue ∷ []) ∷ rule a (important red ∷ []) ∷ [])
important_swapped = by_two red blue (rule a (important red ∷ []) ∷ rule b (important blue ∷ []) ∷ []) (rule b (important blue ∷ []) ∷ rule a (important red ∷ []) ∷ []) tt (inr (inr refl)) refl

-- in one rule: `.a{color:red;color:blue}` and `.a{color:blue;color:red}`
decls_swapped : NotKept (rule a (red ∷ blue ∷ []) ∷ []) (rule a (blue ∷ red ∷ []) ∷ [])
decls_swapped = by_two red blue (rule a (red ∷ blue ∷ []) ∷ []) (rule a (blue ∷ red ∷ []) ∷ []) tt (inr (inr refl)) refl

abbrev margin : Decl
margin = decl (codes "margin") (codes "0")

abbrev margin_left : Decl
margin_left = decl (codes "margin-left") (codes "1px")

-- a shorthand past what it sets: `.a{margin:0}.b{margin-left:1px}` and the other order
shorthand_moved : NotKept (rule a (margin ∷ []) ∷ rule b (margin_left ∷ []) ∷ []) (rule b (margin_left ∷ []) ∷ rule a (margin ∷ []) ∷ [])
shorthand_moved = by_two margin margin_left (rule a (margin ∷ []) ∷ rule b (margin_left ∷ []) ∷ []) (rule b (margin_left ∷ []) ∷ rule a (margin ∷ []) ∷ []) tt (inr (inr refl)) refl

abbrev unset : Decl
unset = decl (codes "all") (codes "unset")

-- `all` past anything: `.a{color:red}.b{all:unset}` and the other order
all_moved : NotKept (rule a (red ∷ []) ∷ rule b (unset ∷ []) ∷ []) (rule b (unset ∷ []) ∷ rule a (red ∷ []) ∷ [])
all_moved = by_two red unset (rule a (red ∷ []) ∷ rule b (unset ∷ []) ∷ []) (rule b (unset ∷ []) ∷ rule a (red ∷ []) ∷ []) tt (inr (inl refl)) refl

-- ---- A pair counts by its last place

abbrev thrice : List Item
thrice = rule a (red ∷ []) ∷ rule b (blue ∷ []) ∷ rule a (red ∷ []) ∷ []

-- `.a{color:red}.b{color:blue}.a{color:red}` without its last rule
first_for_last : NotKept thrice (rule a (red ∷ []) ∷ rule b (blue ∷ []) ∷ [])
first_for_last = by_two red blue thrice (rule a (red ∷ []) ∷ rule b (blue ∷ []) ∷ []) tt (inr (inr refl)) refl

-- ---- Kept items

abbrev of_class : Specificity
of_class = record { a = 0; b = 1; c = 0 }

-- a kept item that sets `color:blue` as a class would
abbrev sets_blue : List (List Declared)
sets_blue = (record { decl = blue; specificity = of_class } ∷ []) ∷ []

-- a kept block: `.a{color:red}@x;` and `@x;.a{color:red}`
block_passed : NotKept (rule a (red ∷ []) ∷ kept_block ∷ []) (kept_block ∷ rule a (red ∷ []) ∷ [])
block_passed = by_winners (rule a (red ∷ []) ∷ kept_block ∷ []) (kept_block ∷ rule a (red ∷ []) ∷ []) sets_blue (understood red ∷ understood blue ∷ []) tt (two_related (understood red) (understood blue) (inr (inr refl))) refl

-- a kept rule of a related declaration: `.a{color:red}:x{color:blue}` and the other order
kept_rule_passed : NotKept (rule a (red ∷ []) ∷ kept_rule (blue ∷ []) ∷ []) (kept_rule (blue ∷ []) ∷ rule a (red ∷ []) ∷ [])
kept_rule_passed =
    by_winners (rule a (red ∷ []) ∷ kept_rule (blue ∷ []) ∷ []) (kept_rule (blue ∷ []) ∷ rule a (red ∷ []) ∷ []) sets_blue (understood red ∷ understood blue ∷ [])
    (All-cons (λ (e : Declared). Contains (blue ∷ []) e.decl) (record { decl = blue; specificity = of_class }) [] (Contains-here blue []) (All-nil (λ (e : Declared). Contains (blue ∷ []) e.decl)), tt)
    (two_related (understood red) (understood blue) (inr (inr refl))) refl

-- a kept item that goes
kept_dropped : NotKept (kept_block ∷ []) []
kept_dropped source source' keeps = absurd (let e : 1 ≡ 0 = ap length keeps.kept in omega arith)

-- ---- What may be moved

-- where nothing is reversed by moving the first rule behind the second
abbrev MayMove : List Item → RuleParts → Item → Type 0
MayMove items r other = RelatingIsDecided → (source : List ℕ) → Keeps source (Rule r ∷ other ∷ items) source (other ∷ Rule r ∷ items)

none_apart : All (λ (r : Reversal). IsApart r.moved.pair r.other) []
none_apart = All-nil (λ (r : Reversal). IsApart r.moved.pair r.other)

-- `.a{color:red}.b{top:0}`
other_family_moves : MayMove [] (rule_of (a ∷ []) (red ∷ [])) (rule b (top (codes "0") ∷ []))
other_family_moves relating source =
    moving_apart_keeps relating source (rule a (red ∷ []) ∷ rule b (top (codes "0") ∷ []) ∷ []) 0 1 (rule_of (a ∷ []) (red ∷ [])) (rule b (top (codes "0") ∷ [])) refl refl (λ e. absurd (omega (arith, e))) none_apart

-- `.a{color:red}:x{top:0}`
past_kept_rule_moves : MayMove [] (rule_of (a ∷ []) (red ∷ [])) (kept_rule (top (codes "0") ∷ []))
past_kept_rule_moves relating source =
    moving_apart_keeps relating source (rule a (red ∷ []) ∷ kept_rule (top (codes "0") ∷ []) ∷ []) 0 1 (rule_of (a ∷ []) (red ∷ [])) (kept_rule (top (codes "0") ∷ [])) refl refl (λ e. absurd (omega (arith, e))) none_apart

-- `.a{color:red}.b{color:blue}.a{color:red}`
repeated_moves : MayMove (rule a (red ∷ []) ∷ []) (rule_of (a ∷ []) (red ∷ [])) (rule b (blue ∷ []))
repeated_moves relating source =
    moving_apart_keeps relating source thrice 0 1 (rule_of (a ∷ []) (red ∷ [])) (rule b (blue ∷ [])) refl refl (λ e. absurd (omega (arith, e))) none_apart
