-- A line is read from its text.
use Rattle.std.proofs.Common.{ℕ, ◌≡◌, ◌≢◌, ◌<◌, ◌^◌, Bool, true, false, ◌==◌, List, [], ◌∷◌, ◌++◌, map, length, refl, sym, ap, ◌∙◌, append-nil, arith}
use Rattle.std.specs.Prelude.{decimal}
use Rattle.std.specs.List.{AllByRecursion, filter}
use Rattle.std.proofs.lemmas.Bool.{false≢true, or_parts}
use Rattle.std.proofs.lemmas.Fmt.{decimal_injective, decimal_nonempty}
use Rattle.std.proofs.lemmas.List.Elements.{recursion_from_All}
use Rattle.css_model.specs.declared.example.RunLine.{RunLine}
use Rattle.css_model.specs.declared.selector.Flag.{Flag}
use Rattle.css_model.specs.declared.selector.Flag.TheVariants.{Link, Visited, Hover, Active, Focus, Target, Enabled, Disabled, Checked}
use Rattle.css_model.specs.Documents.Document.{IsText}
use Rattle.css_model.specs.Documents.FeatureParts.{FeatureParts}
use Rattle.css_model.specs.Documents.Features.{flags_of}
use Rattle.css_model.specs.Documents.RunDocuments.{AreRunFeatures}
use Rattle.css_model.specs.Text.Characters.{line_feed, space}
use Rattle.doc_text.specs.DocText.{all_flags, attribute_field, equals_sign, escaped, flag_field, flag_fields, line_text, mark_field, more_fields, spaced, text_fields}
use Rattle.doc_text.specs.Elements.{IsLine, attributes_of, flags_with, has_text, unescaped_text}
use Rattle.doc_text.specs.Lines.{fields_of, holds}
use Rattle.doc_text.proofs.Free.{are_free, attribute_free, decimal_free, escaped_free, free_holds}
use Rattle.doc_text.proofs.More.{each_field, escaped_some, front_some, more_back}
use Rattle.doc_text.proofs.Pieces.{pieces_cut, pieces_whole}
use Rattle.doc_text.proofs.Unescaped.{text_back}

-- a field as it stands in a line
pub record IsField (field : List ℕ) : Type 0 where
  pub free : are_free field ≡ true
  pub some : 0 < length field

some_is : (field : List ℕ) → 0 < length field → field ≢ []
some_is [] some e = omega arith
some_is (c ∷ cs) some e = let size : length (c ∷ cs) ≡ 0 = ap length e in omega (arith, size)

fields_joined : (f : List ℕ) (fs : List (List ℕ)) → IsField f → AllByRecursion IsField fs → fields_of (f ++ spaced fs) ≡ f ∷ fs
fields_joined f [] here all = ap fields_of (append-nil f) ∙ pieces_whole space f (some_is f here.some) (free_holds f here.free).0
fields_joined f (g ∷ gs) here all = pieces_cut space f (g ++ spaced gs) (free_holds f here.free).0 ∙ ap (λ (fs : List (List ℕ)). f ∷ fs) (fields_joined g gs all.0 all.1)

field_append : (xs ys : List (List ℕ)) → AllByRecursion IsField xs → AllByRecursion IsField ys → AllByRecursion IsField (xs ++ ys)
field_append [] ys front rest = rest
field_append (x ∷ xs) ys front rest = (front.0, field_append xs ys front.1 rest)

flag_is_field : (flag : Flag) → IsField (flag_field flag)
flag_is_field Link = record { free = refl; some = omega arith }
flag_is_field Visited = record { free = refl; some = omega arith }
flag_is_field Hover = record { free = refl; some = omega arith }
flag_is_field Active = record { free = refl; some = omega arith }
flag_is_field Focus = record { free = refl; some = omega arith }
flag_is_field Target = record { free = refl; some = omega arith }
flag_is_field Enabled = record { free = refl; some = omega arith }
flag_is_field Disabled = record { free = refl; some = omega arith }
flag_is_field Checked = record { free = refl; some = omega arith }

text_is_field : (b : Bool) → AllByRecursion IsField (text_fields b)
text_is_field true = (record { free = refl; some = omega arith }, tt)
text_is_field false = tt

attributes_are_fields : (attrs : List (List ℕ × List ℕ)) → AllByRecursion (λ a. IsText a.0 × (a.0 ≢ []) × IsText a.1) attrs → AllByRecursion IsField (map attribute_field attrs)
attributes_are_fields [] all = tt
attributes_are_fields (a ∷ attrs) all =
    (record { free = attribute_free a; some = front_some (escaped a.0) (equals_sign ∷ escaped a.1) (escaped_some a.0 all.0.1) }, attributes_are_fields attrs all.1)

more_are_fields : (f : FeatureParts) → AreRunFeatures f → AllByRecursion IsField (more_fields f)
more_are_fields f good =
    field_append (text_fields f.text) (flag_fields f.flags ++ map attribute_field f.attrs) (text_is_field f.text)
    (field_append (flag_fields f.flags) (map attribute_field f.attrs) (each_field IsField (filter (flags_of f.flags) all_flags) flag_is_field)
    (attributes_are_fields f.attrs (recursion_from_All (λ a. IsText a.0 × (a.0 ≢ []) × IsText a.1) f.attrs good.attributes)))

mark_is_field : (m : Bool) → IsField (mark_field m)
mark_is_field true = record { free = refl; some = omega arith }
mark_is_field false = record { free = refl; some = omega arith }

decimal_is_field : (n : ℕ) → n < 2 ^ 32 → IsField (decimal n)
decimal_is_field n low = record { free = decimal_free n (omega (arith, low)); some = decimal_nonempty n (omega (arith, low)) }

-- the fields of a line behind its depth
pub tail_fields : Bool → RunLine → List (List ℕ)
tail_fields m l = decimal l.count ∷ mark_field m ∷ escaped l.element.kind ∷ more_fields l.element

tail_are_fields : (m : Bool) (l : RunLine) → IsLine l → AllByRecursion IsField (tail_fields m l)
unfolding tail_fields
tail_are_fields m l good = (
  decimal_is_field l.count good.count,
  (mark_is_field m, (record { free = escaped_free l.element.kind; some = escaped_some l.element.kind good.features.kind.1 }, more_are_fields l.element good.features)),
)

pub line_fields : (m : Bool) (l : RunLine) → IsLine l → fields_of (line_text m l) ≡ decimal l.depth ∷ (decimal l.count ∷ mark_field m ∷ escaped l.element.kind ∷ more_fields l.element)
unfolding tail_fields
line_fields m l good = fields_joined (decimal l.depth) (tail_fields m l) (decimal_is_field l.depth good.depth) (tail_are_fields m l good)

-- no line end stands in a line
holds_append : (at : ℕ) (xs ys : List ℕ) → holds at xs ≡ false → holds at ys ≡ false → holds at (xs ++ ys) ≡ false
holds_append at [] ys front rest = rest
holds_append at (x ∷ xs) ys front rest = let both = or_parts (x == at) (holds at xs) front in rw both.0 (holds_append at xs ys both.1 rest)

spaced_free : (fs : List (List ℕ)) → AllByRecursion IsField fs → holds line_feed (spaced fs) ≡ false
spaced_free [] all = refl
spaced_free (f ∷ fs) all = holds_append line_feed f (spaced fs) (free_holds f all.0.free).1 (spaced_free fs all.1)

pub line_end_free : (m : Bool) (l : RunLine) → IsLine l → holds line_feed (line_text m l) ≡ false
unfolding tail_fields
line_end_free m l good =
    holds_append line_feed (decimal l.depth) (spaced (tail_fields m l)) (free_holds (decimal l.depth) (decimal_is_field l.depth good.depth).free).1 (spaced_free (tail_fields m l) (tail_are_fields m l good))

-- what fields say
first_or : List (List ℕ) → List ℕ
first_or [] = []
first_or (f ∷ fs) = f

rest_of : List (List ℕ) → List (List ℕ)
rest_of [] = []
rest_of (f ∷ fs) = fs

pub both_same : (x y : List ℕ) (xs ys : List (List ℕ)) → x ∷ xs ≡ y ∷ ys → (x ≡ y) × (xs ≡ ys)
unfolding first_or rest_of
both_same x y xs ys e = (ap first_or e, ap rest_of e)

mark_same : (m n : Bool) → mark_field m ≡ mark_field n → m ≡ n
mark_same true true e = refl
mark_same false false e = refl
mark_same true false e = absurd (let bad : (0x2A == 0x2A) ≡ (0x2D == 0x2A) = ap is_star e in false≢true (sym bad))
  where
    is_star : List ℕ → Bool
    is_star [] = false
    is_star (c ∷ cs) = c == 0x2A
mark_same false true e = absurd (let bad : (0x2D == 0x2A) ≡ (0x2A == 0x2A) = ap is_star e in false≢true bad)
  where
    is_star : List ℕ → Bool
    is_star [] = false
    is_star (c ∷ cs) = c == 0x2A

-- fields of two elements
pub elements_same : (f g : FeatureParts) → AreRunFeatures f → AreRunFeatures g → escaped f.kind ≡ escaped g.kind → more_fields f ≡ more_fields g → f ≡ g
elements_same f g p q kinds fields =
    let a = more_back f p in
    let b = more_back g q in
    let kind : f.kind ≡ g.kind = sym (text_back f.kind p.kind.0) ∙ ap unescaped_text kinds ∙ text_back g.kind q.kind.0 in
    let attrs : f.attrs ≡ g.attrs = sym a.attrs ∙ ap attributes_of fields ∙ b.attrs in
    let flags : f.flags ≡ g.flags = sym a.flags ∙ ap (flags_with 0) fields ∙ b.flags in
    let text : f.text ≡ g.text = sym a.text ∙ ap has_text fields ∙ b.text in
    λ i. record { kind = kind i; attrs = attrs i; flags = flags i; text = text i }

pub line_inj : (m n : Bool) (l k : RunLine) → IsLine l → IsLine k → line_text m l ≡ line_text n k → (m ≡ n) × (l ≡ k)
line_inj m n l k p q e =
    let all = sym (line_fields m l p) ∙ ap fields_of e ∙ line_fields n k q in
    let one = both_same (decimal l.depth) (decimal k.depth) _ _ all in
    let two = both_same (decimal l.count) (decimal k.count) _ _ one.1 in
    let three = both_same (mark_field m) (mark_field n) _ _ two.1 in
    let four = both_same (escaped l.element.kind) (escaped k.element.kind) _ _ three.1 in
    let depth = decimal_injective l.depth k.depth (let low = p.depth in omega (arith, low)) (let low = q.depth in omega (arith, low)) one.0 in
    let count = decimal_injective l.count k.count (let low = p.count in omega (arith, low)) (let low = q.count in omega (arith, low)) two.0 in
    let element = elements_same l.element k.element p.features q.features four.0 four.1 in
    (mark_same m n three.0, λ i. record { depth = depth i; count = count i; element = element i })
