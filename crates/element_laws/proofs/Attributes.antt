-- Attributes with another id in place of theirs.
use Rattle.std.proofs.Common.{Bool, List, None, Option, Some, [], ap, arith, false, get_or, length, map, refl, suc, sym, true, zero, ℕ, ◌∙◌, ◌∷◌, ◌≡◌, ◌≢◌}
use Rattle.std.proofs.lemmas.Bool.{false≢true}
use Rattle.std.proofs.lemmas.List.Elements.{All-cons, All-head, All-nil, All-tail}
use Rattle.std.specs.Cmp.Lexicographic.{bytes_decides}
use Rattle.std.specs.List.{All, AllPairs}
use Rattle.std.specs.Prelude.{Contains, codes, if◌then◌else◌}
use Rattle.css_model.specs.Documents.Document.{Attribute}
use Rattle.css_model.specs.Lists.{same_text}
use Rattle.compound_fit.specs.Attributes.{value_of}
use Rattle.compound_fit.specs.FreeNames.{is_among}
use Rattle.shape_laws.proofs.ForCallers.{any_in}
use Rattle.element_laws.specs.Chosen.{with_id}

-- a text among others
pub not_among : (texts : List (List ℕ)) (v w : List ℕ) → is_among texts v ≡ false → Contains texts w → v ≢ w
not_among texts v w free in' e = false≢true (sym free ∙ any_in (λ r. same_text r v) texts w in' ((bytes_decides w v).1 (sym e)))

-- the pairs of a list as attributes
abbrev pub attribute : List ℕ × List ℕ → Attribute
attribute a = record { name = a.0; value = a.1 }

-- an attribute, with the id where it is that one
abbrev pub one_with : List ℕ → List ℕ × List ℕ → List ℕ × List ℕ
one_with id a = if same_text a.0 (codes "id") then (a.0, id) else a

one_name : (id : List ℕ) (a : List ℕ × List ℕ) → (one_with id a).0 ≡ a.0
one_name id a = by (same_text a.0 (codes "id"))
  where
    by : (b : Bool) → (if b then (a.0, id) else a).0 ≡ a.0
    by true = refl
    by false = refl

-- the names stay
pub names_stay : (id : List ℕ) (attrs : List (List ℕ × List ℕ)) → map (λ a. a.0) (with_id id attrs) ≡ map (λ a. a.0) attrs
names_stay id [] = refl
names_stay id (a ∷ attrs) = ap (λ n. n ∷ map (λ a. a.0) (with_id id attrs)) (one_name id a) ∙ ap (λ ns. a.0 ∷ ns) (names_stay id attrs)

-- so do other values
pub other_value : (id : List ℕ) (attrs : List (List ℕ × List ℕ)) (name : List ℕ) → same_text name (codes "id") ≡ false → value_of (with_id id attrs) name ≡ value_of attrs name
other_value id [] name other = refl
other_value id (a ∷ attrs) name other = by (same_text a.0 (codes "id")) (same_text a.0 name) refl refl (other_value id attrs name other)
  where
    by : (b c : Bool) → same_text a.0 (codes "id") ≡ b → same_text a.0 name ≡ c → value_of (with_id id attrs) name ≡ value_of attrs name →
        (if same_text (if b then (a.0, id) else a).0 name then Some (if b then (a.0, id) else a).1 else value_of (with_id id attrs) name) ≡ (if same_text a.0 name then Some a.1 else value_of attrs name)
    by true true e f rest = absurd (false≢true (sym other ∙ ap (λ (n : List ℕ). same_text n (codes "id")) (sym ((bytes_decides a.0 name).0 f)) ∙ e))
    by true false e f rest =
        ap (λ c. if c then Some id else value_of (with_id id attrs) name) f ∙ rest ∙ sym (ap (λ c. if c then Some a.1 else value_of attrs name) f)
    by false c e f rest = ap (λ (o : Option (List ℕ)). if same_text a.0 name then Some a.1 else o) rest

-- and the id is this one, where there is one
pub own_value : (id : List ℕ) (attrs : List (List ℕ × List ℕ)) (w : List ℕ) → value_of attrs (codes "id") ≡ Some w → value_of (with_id id attrs) (codes "id") ≡ Some id
own_value id [] w e = absurd (let h : None ≡ Some w = e in cc)
own_value id (a ∷ attrs) w e = by (same_text a.0 (codes "id")) refl e (own_value id attrs w)
  where
    by : (b : Bool) → same_text a.0 (codes "id") ≡ b → (if b then Some a.1 else value_of attrs (codes "id")) ≡ Some w → (value_of attrs (codes "id") ≡ Some w → value_of (with_id id attrs) (codes "id") ≡ Some id) →
        (if same_text (if b then (a.0, id) else a).0 (codes "id") then Some (if b then (a.0, id) else a).1 else value_of (with_id id attrs) (codes "id")) ≡ Some id
    by true e h rest = ap (λ b. if b then Some id else value_of (with_id id attrs) (codes "id")) e
    by false e h rest = ap (λ b. if b then Some a.1 else value_of (with_id id attrs) (codes "id")) e ∙ rest h

-- what holds of names and values, and of the id, holds of all
pub all_with_id : (P : List ℕ → List ℕ → Type 0) (id : List ℕ) (attrs : List (List ℕ × List ℕ)) → ((name value : List ℕ) → P name value → P name id) → All (λ a. P a.0 a.1) attrs → All (λ a. P a.0 a.1) (with_id id attrs)
all_with_id P id [] change all = All-nil (λ a. P a.0 a.1)
all_with_id P id (a ∷ attrs) change all =
    All-cons (λ a. P a.0 a.1) (one_with id a) (with_id id attrs) (by (same_text a.0 (codes "id"))) (all_with_id P id attrs change (All-tail (λ a. P a.0 a.1) a attrs all))
  where
    by : (b : Bool) → P (if b then (a.0, id) else a).0 (if b then (a.0, id) else a).1
    by true = change a.0 a.1 (All-head (λ a. P a.0 a.1) a attrs all)
    by false = All-head (λ a. P a.0 a.1) a attrs all

-- names that differ still do
name_at : (id : List ℕ) (attrs : List (List ℕ × List ℕ)) (k : ℕ) (d : Attribute) → (get_or (map attribute (with_id id attrs)) k d).name ≡ (get_or (map attribute attrs) k d).name
name_at id [] k d = refl
name_at id (a ∷ attrs) zero d = one_name id a
name_at id (a ∷ attrs) (suc k) d = name_at id attrs k d

same_length : (id : List ℕ) (attrs : List (List ℕ × List ℕ)) → length (map attribute (with_id id attrs)) ≡ length (map attribute attrs)
same_length id [] = refl
same_length id (a ∷ attrs) = ap suc (same_length id attrs)

pub names_differ : (id : List ℕ) (attrs : List (List ℕ × List ℕ)) → AllPairs (λ (a b : Attribute). a.name ≢ b.name) (map attribute attrs) → AllPairs (λ (a b : Attribute). a.name ≢ b.name) (map attribute (with_id id attrs))
names_differ id attrs differ i j d less within same =
    differ i j d less (let l = same_length id attrs in omega arith) (sym (name_at id attrs i d) ∙ same ∙ name_at id attrs j d)
