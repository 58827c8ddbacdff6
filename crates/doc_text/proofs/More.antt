-- What the fields behind a type say is what the element has.
use Rattle.std.proofs.Common.{ℕ, zero, suc, ◌+◌, ◌/◌, ◌%◌, ◌≡◌, ◌≢◌, ◌<◌, inl, inr, Bool, true, false, not, cond, ◌==◌, ◌&&◌, ◌||◌, List, [], ◌∷◌, ◌++◌, map, length, refl, sym, ap, ◌∙◌, subst, append_assoc, append-nil, arith, codes}
use Rattle.std.specs.Prelude.{bit_or, nat_lt}
use Rattle.std.specs.Int.Bits.{or_zero_r}
use Rattle.std.specs.List.{AllByRecursion, filter, flat_map}
use Rattle.std.specs.Str.{encode_utf8_all}
use Rattle.std.specs.Char.{encode_utf8}
use Rattle.std.proofs.lemmas.Bool.{and_parts, eq-eqb, cases_eq, eqb-true, false≢true, ltb-false, ltb-true, ne_eqb, or_parts}
use Rattle.std.proofs.lemmas.List.Elements.{recursion_from_All}
use Rattle.std.proofs.lemmas.Str.{len_utf8_bounds, length-encode}
use Rattle.css_model.specs.declared.selector.Flag.{Flag}
use Rattle.css_model.specs.declared.selector.Flag.TheVariants.{Link, Visited, Hover, Active, Focus, Target, Enabled, Disabled, Checked}
use Rattle.css_model.specs.Documents.Document.{IsText}
use Rattle.css_model.specs.Documents.FeatureParts.{FeatureParts}
use Rattle.css_model.specs.Documents.Features.{flags_of}
use Rattle.css_model.specs.Documents.RunDocuments.{AreRunFeatures}
use Rattle.css_model.specs.Lists.{same_text}
use Rattle.css_model.specs.Text.Characters.{percent, space}
use Rattle.doc_text.specs.DocText.{all_flags, attribute_field, equals_sign, escaped, escaped_byte, flag_field, flag_fields, hex_digit, is_plain, more_fields, one_flag, spaced, text_fields}
use Rattle.doc_text.specs.Elements.{attribute_of, attributes_of, before, behind, flag_bit, flags_with, has_text, unescaped_text}
use Rattle.doc_text.specs.Lines.{holds}
use Rattle.doc_text.proofs.Unescaped.{text_back}

-- flags one after the other
each_flag : ℕ → List Flag → List ℕ
each_flag bits [] = []
each_flag bits (flag ∷ flags) = one_flag bits flag ++ each_flag bits flags

one_more : (bits : ℕ) (flag : Flag) (flags : List Flag) → spaced (map flag_field (filter (flags_of bits) (flag ∷ flags))) ≡ one_flag bits flag ++ spaced (map flag_field (filter (flags_of bits) flags))
one_more bits flag flags = by (flags_of bits flag)
  where
    by : (b : Bool) → spaced (map flag_field (cond b (flag ∷ filter (flags_of bits) flags) (filter (flags_of bits) flags))) ≡ cond b (space ∷ flag_field flag) [] ++ spaced (map flag_field (filter (flags_of bits) flags))
    by true = refl
    by false = refl

flags_each : (bits : ℕ) (flags : List Flag) → spaced (map flag_field (filter (flags_of bits) flags)) ≡ each_flag bits flags
unfolding each_flag
flags_each bits [] = refl
flags_each bits (flag ∷ flags) = one_more bits flag flags ∙ ap (λ (rest : List ℕ). one_flag bits flag ++ rest) (flags_each bits flags)

pub flags_spaced : (bits : ℕ) →
    spaced (flag_fields bits) ≡ one_flag bits Link ++ (one_flag bits Visited ++ (one_flag bits Hover ++ (one_flag bits Active ++ (one_flag bits Focus ++ (one_flag bits Target ++ (one_flag bits Enabled ++ (one_flag bits Disabled ++ (one_flag bits Checked ++ []))))))))
unfolding each_flag
flags_spaced bits = flags_each bits all_flags

step : (o p f rest : List ℕ) → p ≡ o ++ f → p ++ rest ≡ o ++ (f ++ rest)
step o p f rest e = ap (λ (t : List ℕ). t ++ rest) e ∙ append_assoc o f rest

pub flags_pushed : (bits : ℕ) (a b c d e f g h i j : List ℕ) → b ≡ a ++ one_flag bits Link → c ≡ b ++ one_flag bits Visited → d ≡ c ++ one_flag bits Hover → e ≡ d ++ one_flag bits Active → f ≡ e ++ one_flag bits Focus
    → g ≡ f ++ one_flag bits Target → h ≡ g ++ one_flag bits Enabled → i ≡ h ++ one_flag bits Disabled → j ≡ i ++ one_flag bits Checked → j ≡ a ++ spaced (flag_fields bits)
flags_pushed bits a b c d e f g h i j one two three four five six seven eight nine =
    sym (append-nil j) ∙ step i j (one_flag bits Checked) _ nine ∙ step h i (one_flag bits Disabled) _ eight ∙ step g h (one_flag bits Enabled) _ seven ∙ step f g (one_flag bits Target) _ six ∙ step e f (one_flag bits Focus) _ five
    ∙ step d e (one_flag bits Active) _ four ∙ step c d (one_flag bits Hover) _ three ∙ step b c (one_flag bits Visited) _ two ∙ step a b (one_flag bits Link) _ one ∙ ap (λ (flags : List ℕ). a ++ flags) (sym (flags_spaced bits))

-- the first byte of an escaped text is neither `+` nor `:`
starts_apart : List ℕ → Bool
starts_apart [] = false
starts_apart (c ∷ cs) = not (c == 0x2B) && not (c == 0x3A)

byte_apart : (b : ℕ) (rest : List ℕ) → starts_apart (escaped_byte b ++ rest) ≡ true
unfolding starts_apart
byte_apart b rest = by (is_plain b) refl
  where
    plain : (x y : Bool) → (b == 0x2B) ≡ x → (b == 0x3A) ≡ y → is_plain b ≡ true → (not x && not y) ≡ true
    plain true y is other p = absurd (let bad : is_plain 0x2B ≡ true = subst (λ (c : ℕ). is_plain c ≡ true) (eqb-true b 0x2B is) p in false≢true bad)
    plain false true other is p = absurd (let bad : is_plain 0x3A ≡ true = subst (λ (c : ℕ). is_plain c ≡ true) (eqb-true b 0x3A is) p in false≢true bad)
    plain false false other same p = refl

    by : (p : Bool) → is_plain b ≡ p → starts_apart (cond p (b ∷ []) (percent ∷ hex_digit (b / 16) ∷ hex_digit (b % 16) ∷ []) ++ rest) ≡ true
    by true is = plain (b == 0x2B) (b == 0x3A) refl refl is
    by false other = refl

code_some : (c : ℕ) → 0 < length (encode_utf8 c)
code_some c = let size = length-encode c in let bounds = (len_utf8_bounds c).0 in omega (arith, size, bounds)

bytes_apart : (bs rest : List ℕ) → 0 < length bs → starts_apart (flat_map escaped_byte bs ++ rest) ≡ true
bytes_apart [] rest some = absurd (omega arith)
bytes_apart (b ∷ bs) rest some = subst (λ (t : List ℕ). starts_apart t ≡ true) (sym (append_assoc (escaped_byte b) (flat_map escaped_byte bs) rest)) (byte_apart b (flat_map escaped_byte bs ++ rest))

pub front_some : (xs ys : List ℕ) → 0 < length xs → 0 < length (xs ++ ys)
front_some [] ys some = absurd (omega arith)
front_some (x ∷ xs) ys some = omega arith

encoded_some : (text : List ℕ) → text ≢ [] → 0 < length (encode_utf8_all text)
encoded_some [] some = absurd (some refl)
encoded_some (c ∷ text) some = front_some (encode_utf8 c) (encode_utf8_all text) (code_some c)

name_apart : (name rest : List ℕ) → name ≢ [] → starts_apart (escaped name ++ rest) ≡ true
name_apart name rest some = bytes_apart (encode_utf8_all name) rest (encoded_some name some)

apart_some : (text : List ℕ) → starts_apart text ≡ true → 0 < length text
unfolding starts_apart
apart_some [] apart = absurd (false≢true apart)
apart_some (c ∷ cs) apart = omega arith

pub escaped_some : (text : List ℕ) → text ≢ [] → 0 < length (escaped text)
escaped_some text some = apart_some (escaped text) (subst (λ (t : List ℕ). starts_apart t ≡ true) (append-nil (escaped text)) (name_apart text [] some))

-- such a field is neither that of text nor of a flag
apart_text : (field : List ℕ) → starts_apart field ≡ true → same_text field (codes "+text") ≡ false
unfolding starts_apart
apart_text [] apart = absurd (false≢true apart)
apart_text (c ∷ cs) apart = by (c == 0x2B) (c == 0x3A) apart
  where
    by : (x y : Bool) → (not x && not y) ≡ true → (x && same_text cs (codes "text")) ≡ false
    by true y h = absurd (false≢true h)
    by false y h = refl

apart_flag : (field : List ℕ) → starts_apart field ≡ true → flag_bit field ≡ 0
unfolding starts_apart
apart_flag [] apart = absurd (false≢true apart)
apart_flag (c ∷ cs) apart = by (c == 0x3A) refl apart
  where
    by : (y : Bool) → (c == 0x3A) ≡ y → (not (c == 0x2B) && not (c == 0x3A)) ≡ true → flag_bit (c ∷ cs) ≡ 0
    by true is h = absurd (let both = and_parts (not (c == 0x2B)) (not (c == 0x3A)) h in let other : not true ≡ true = subst (λ (b : Bool). not b ≡ true) is both.1 in false≢true other)
    by false is h = rw is refl

-- an equals sign stands in no escaped text
holds_append : (at : ℕ) (xs ys : List ℕ) → holds at xs ≡ false → holds at ys ≡ false → holds at (xs ++ ys) ≡ false
holds_append at [] ys front rest = rest
holds_append at (x ∷ xs) ys front rest = let both = or_parts (x == at) (holds at xs) front in rw both.0 (holds_append at xs ys both.1 rest)

no_sign : (d : ℕ) → (hex_digit d == equals_sign) ≡ false
no_sign d = by (nat_lt d 10) refl
  where
    by : (b : Bool) → nat_lt d 10 ≡ b → (cond b (0x30 + d) (0x37 + d) == equals_sign) ≡ false
    by true is = let low = ltb-true d 10 is in ne_eqb (0x30 + d) equals_sign (omega (arith, low))
    by false is = let high = ltb-false d 10 is in ne_eqb (0x37 + d) equals_sign (omega (arith, high))

sign_byte : (b : ℕ) → holds equals_sign (escaped_byte b) ≡ false
sign_byte b = by (is_plain b) refl
  where
    plain : (x : Bool) → (b == equals_sign) ≡ x → is_plain b ≡ true → (x || false) ≡ false
    plain true is p = absurd (let bad : is_plain equals_sign ≡ true = subst (λ (c : ℕ). is_plain c ≡ true) (eqb-true b equals_sign is) p in false≢true bad)
    plain false other p = refl

    by : (p : Bool) → is_plain b ≡ p → holds equals_sign (cond p (b ∷ []) (percent ∷ hex_digit (b / 16) ∷ hex_digit (b % 16) ∷ [])) ≡ false
    by true is = plain (b == equals_sign) refl is
    by false other = rw (no_sign (b / 16), no_sign (b % 16)) refl

bytes_sign : (bs : List ℕ) → holds equals_sign (flat_map escaped_byte bs) ≡ false
bytes_sign [] = refl
bytes_sign (b ∷ bs) = holds_append equals_sign (escaped_byte b) (flat_map escaped_byte bs) (sign_byte b) (bytes_sign bs)

-- a text that is cut at a byte which does not stand in its front
record IsCut (at : ℕ) (front rest : List ℕ) : Type 0 where
  there : holds at (front ++ at ∷ rest) ≡ true
  first : before at (front ++ at ∷ rest) ≡ front
  second : behind at (front ++ at ∷ rest) ≡ rest

is_cut : (at : ℕ) (front rest : List ℕ) → holds at front ≡ false → IsCut at front rest
is_cut at [] rest none = record { there = rw (eq-eqb at at refl) refl; first = rw (eq-eqb at at refl) refl; second = rw (eq-eqb at at refl) refl }
is_cut at (c ∷ front) rest none =
    let both = or_parts (c == at) (holds at front) none in
    let later = is_cut at front rest both.1 in
    record { there = rw both.0 later.there; first = rw both.0 (ap (λ (cs : List ℕ). c ∷ cs) later.first); second = rw both.0 later.second }

pub attribute_cut : (field name value : List ℕ) → field ≡ name ++ equals_sign ∷ value → holds equals_sign name ≡ false → attribute_of field ≡ (unescaped_text name, unescaped_text value) ∷ []
attribute_cut field name value is none =
    let cut = is_cut equals_sign name value none in
    rw (is, cut.there, cut.first, cut.second) refl

-- an attribute as it may be
record IsGood (a : List ℕ × List ℕ) : Type 0 where
  name : IsText a.0
  some : a.0 ≢ []
  value : IsText a.1

attribute_back : (a : List ℕ × List ℕ) → IsGood a → attribute_of (attribute_field a) ≡ a ∷ []
attribute_back a good =
    let cut = is_cut equals_sign (escaped a.0) (escaped a.1) (bytes_sign (encode_utf8_all a.0)) in
    let first : unescaped_text (before equals_sign (attribute_field a)) ≡ a.0 = ap unescaped_text cut.first ∙ text_back a.0 good.name in
    let second : unescaped_text (behind equals_sign (attribute_field a)) ≡ a.1 = ap unescaped_text cut.second ∙ text_back a.1 good.value in
    rw cut.there (λ i. (first i, second i) ∷ [])

attributes_back : (attrs : List (List ℕ × List ℕ)) → AllByRecursion IsGood attrs → attributes_of (map attribute_field attrs) ≡ attrs
attributes_back [] all = refl
attributes_back (a ∷ attrs) all =
    ap (λ (some : List (List ℕ × List ℕ)). some ++ attributes_of (map attribute_field attrs)) (attribute_back a all.0) ∙ ap (λ (rest : List (List ℕ × List ℕ)). a ∷ rest) (attributes_back attrs all.1)

-- fields that say nothing of text, flags or attributes
abbrev NoText : List ℕ → Type 0
NoText field = same_text field (codes "+text") ≡ false

abbrev NoFlag : List ℕ → Type 0
NoFlag field = flag_bit field ≡ 0

abbrev NoSign : List ℕ → Type 0
NoSign field = holds equals_sign field ≡ false

text_passed : (fields rest : List (List ℕ)) → AllByRecursion NoText fields → has_text (fields ++ rest) ≡ has_text rest
text_passed [] rest all = refl
text_passed (f ∷ fields) rest all = rw all.0 (text_passed fields rest all.1)

flags_passed : (bits : ℕ) (fields rest : List (List ℕ)) → AllByRecursion NoFlag fields → flags_with bits (fields ++ rest) ≡ flags_with bits rest
flags_passed bits [] rest all = refl
flags_passed bits (f ∷ fields) rest all = ap (λ (b : ℕ). flags_with b (fields ++ rest)) (ap (bit_or bits) all.0 ∙ or_zero_r bits) ∙ flags_passed bits fields rest all.1

attributes_passed : (fields rest : List (List ℕ)) → AllByRecursion NoSign fields → attributes_of (fields ++ rest) ≡ attributes_of rest
attributes_passed [] rest all = refl
attributes_passed (f ∷ fields) rest all = rw all.0 (attributes_passed fields rest all.1)

flags_joined : (bits : ℕ) (fields rest : List (List ℕ)) → flags_with bits (fields ++ rest) ≡ flags_with (flags_with bits fields) rest
flags_joined bits [] rest = refl
flags_joined bits (f ∷ fields) rest = flags_joined (bit_or bits (flag_bit f)) fields rest

-- the fields of flags
flag_no_text : (flag : Flag) → NoText (flag_field flag)
flag_no_text Link = refl
flag_no_text Visited = refl
flag_no_text Hover = refl
flag_no_text Active = refl
flag_no_text Focus = refl
flag_no_text Target = refl
flag_no_text Enabled = refl
flag_no_text Disabled = refl
flag_no_text Checked = refl

flag_no_sign : (flag : Flag) → NoSign (flag_field flag)
flag_no_sign Link = refl
flag_no_sign Visited = refl
flag_no_sign Hover = refl
flag_no_sign Active = refl
flag_no_sign Focus = refl
flag_no_sign Target = refl
flag_no_sign Enabled = refl
flag_no_sign Disabled = refl
flag_no_sign Checked = refl

pub each_field : (P : List ℕ → Type 0) (flags : List Flag) → ((flag : Flag) → P (flag_field flag)) → AllByRecursion P (map flag_field flags)
each_field P [] each = tt
each_field P (flag ∷ flags) each = (each flag, each_field P flags each)

-- each number of nine bits comes back
back_below : ℕ → Bool
back_below zero = true
back_below (suc n) = (flags_with 0 (flag_fields n) == n) && back_below n

all_back : back_below 512 ≡ true
unfolding back_below
all_back = refl

flags_back_below : (m n : ℕ) → back_below m ≡ true → n < m → flags_with 0 (flag_fields n) ≡ n
unfolding back_below
flags_back_below zero n all less = absurd (omega arith)
flags_back_below (suc m) n all less =
    let both = and_parts (flags_with 0 (flag_fields m) == m) (back_below m) all in
    elim (cases_eq n m) [
      | inl same ↦ subst (λ (k : ℕ). flags_with 0 (flag_fields k) ≡ k) (sym same) (eqb-true (flags_with 0 (flag_fields m)) m both.0)
      | inr other ↦ flags_back_below m n both.1 (omega (arith, less, other))
    ]

-- the fields of text and of attributes
attribute_fields_none : (attrs : List (List ℕ × List ℕ)) → AllByRecursion IsGood attrs → AllByRecursion NoText (map attribute_field attrs) × AllByRecursion NoFlag (map attribute_field attrs)
attribute_fields_none [] all = (tt, tt)
attribute_fields_none (a ∷ attrs) all =
    let apart = name_apart a.0 (equals_sign ∷ escaped a.1) all.0.some in
    let later = attribute_fields_none attrs all.1 in
    ((apart_text (attribute_field a) apart, later.0), (apart_flag (attribute_field a) apart, later.1))

good_all : (attrs : List (List ℕ × List ℕ)) → AllByRecursion (λ a. IsText a.0 × (a.0 ≢ []) × IsText a.1) attrs → AllByRecursion IsGood attrs
good_all [] all = tt
good_all (a ∷ attrs) all = (record { name = all.0.0; some = all.0.1; value = all.0.2 }, good_all attrs all.1)

-- what an element has
pub record IsBack (f : FeatureParts) : Type 0 where
  pub text : has_text (more_fields f) ≡ f.text
  pub flags : flags_with 0 (more_fields f) ≡ f.flags
  pub attrs : attributes_of (more_fields f) ≡ f.attrs

pub more_back : (f : FeatureParts) → AreRunFeatures f → IsBack f
more_back f good =
    let attrs = good_all f.attrs (recursion_from_All (λ a. IsText a.0 × (a.0 ≢ []) × IsText a.1) f.attrs good.attributes) in
    let none = attribute_fields_none f.attrs attrs in
    let fields = map attribute_field f.attrs in
    let flags = flag_fields f.flags in
    let set = filter (flags_of f.flags) all_flags in
    record {
      text = text_first f.text (flags ++ fields) (text_passed flags fields (each_field NoText set flag_no_text) ∙ no_more fields none.0);
      flags = flags_first f.text (flags ++ fields) ∙ flags_joined 0 flags fields ∙ ap (λ (b : ℕ). flags_with b fields) (flags_back_below 512 f.flags all_back good.flags) ∙ no_flags f.flags fields none.1;
      attrs = attrs_first f.text (flags ++ fields) ∙ attributes_passed flags fields (each_field NoSign set flag_no_sign) ∙ attributes_back f.attrs attrs;
    }
  where
    text_first : (b : Bool) (rest : List (List ℕ)) → has_text rest ≡ false → has_text (text_fields b ++ rest) ≡ b
    text_first true rest none = refl
    text_first false rest none = none

    flags_first : (b : Bool) (rest : List (List ℕ)) → flags_with 0 (text_fields b ++ rest) ≡ flags_with 0 rest
    flags_first true rest = refl
    flags_first false rest = refl

    attrs_first : (b : Bool) (rest : List (List ℕ)) → attributes_of (text_fields b ++ rest) ≡ attributes_of rest
    attrs_first true rest = refl
    attrs_first false rest = refl

    no_more : (fields : List (List ℕ)) → AllByRecursion NoText fields → has_text fields ≡ false
    no_more [] all = refl
    no_more (g ∷ gs) all = rw all.0 (no_more gs all.1)

    no_flags : (bits : ℕ) (fields : List (List ℕ)) → AllByRecursion NoFlag fields → flags_with bits fields ≡ bits
    no_flags bits [] all = refl
    no_flags bits (g ∷ gs) all = ap (λ (b : ℕ). flags_with b gs) (ap (bit_or bits) all.0 ∙ or_zero_r bits) ∙ no_flags bits gs all.1
