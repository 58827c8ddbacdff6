-- What competes for a property is in the group of its family.
use Rattle.std.proofs.Common.{◌≡◌, ◌⊎◌, inl, inr, ℕ, Bool, true, false, cond, List, [], ◌∷◌, Option, Some, refl, sym, ap, ◌∙◌}
use Rattle.std.specs.Prelude.{◌&&◌, ◌||◌, find}
use Rattle.std.specs.List.{filter}
use Rattle.std.specs.Cmp.Lexicographic.{bytes_decides}
use Rattle.std.proofs.lemmas.Bool.{and_parts, false≢true, or_cases, or_left, or_right}
use Rattle.css_model.specs.Cascade.Family.{family_of}
use Rattle.css_model.specs.Lists.{same_text}
use Rattle.inspect_laws.specs.Entries.{Entry}
use Rattle.inspect_laws.specs.Groups.{family_name, is_all, is_in_group, name_of}
use Rattle.inspect_laws.specs.Laws.{RivalsAreInOneGroup, competes, stands}

found_in : (p q : Entry → Bool) → ((e : Entry) → p e ≡ true → q e ≡ true) → (es : List Entry) → find p (filter q es) ≡ find p es
found_in p q within [] = refl
found_in p q within (e ∷ es) = which (p e) refl (q e) refl (found_in p q within es)
  where
    which : (b : Bool) → p e ≡ b → (c : Bool) → q e ≡ c → find p (filter q es) ≡ find p es → find p (cond c (e ∷ filter q es) (filter q es)) ≡ cond b (Some e) (find p es)
    which true h true g later = ap (λ (x : Bool). cond x (Some e) (find p (filter q es))) h
    which true h false g later = absurd (false≢true (sym g ∙ within e h))
    which false h true g later = ap (λ (x : Bool). cond x (Some e) (find p (filter q es))) h ∙ later
    which false h false g later = later

rival : (name : List ℕ) (holds : List ℕ → Bool) (e : Entry) → competes holds name e ≡ true → is_in_group (name_of (family_of name)) e ≡ true
rival name holds e h = which (or_cases (same_text e.decl.name name) (is_all e) (and_parts (same_text e.decl.name name || is_all e) (stands holds e.head) h).0)
  where
    which : (same_text e.decl.name name ≡ true) ⊎ (is_all e ≡ true) → is_in_group (name_of (family_of name)) e ≡ true
    which (inl same) =
        or_right (is_all e) (same_text (family_name e) (name_of (family_of name)))
        ((bytes_decides (family_name e) (name_of (family_of name))).1 (ap (λ (n : List ℕ). name_of (family_of n)) ((bytes_decides e.decl.name name).0 same)))
    which (inr all) = or_left (is_all e) (same_text (family_name e) (name_of (family_of name))) all

pub in_one_group : RivalsAreInOneGroup
in_one_group sorted name holds = found_in (competes holds name) (is_in_group (name_of (family_of name))) (rival name holds) sorted
