-- What the tests of a value say, as the functions make them.
use Rattle.std.proofs.Common.{◌≡◌, ◌≢◌, ℕ, ◌+◌, ◌<◌, ◌≤◌, ◌-◌, Bool, true, false, ◌&&◌, List, [], ◌∷◌, ◌++◌, Option, Some, None, length, take, drop, get_or, refl, sym, ap, ap₂, subst, ◌∙◌, arith, append_assoc}
use Rattle.std.specs.Prelude.{◌==◌, nat_eq, is_some}
use Rattle.std.specs.Bool.{Decides}
use Rattle.std.specs.List.{starts_with, ends_with}
use Rattle.std.specs.Str.{IsUtf8, IsCharBoundary, encode_utf8_all}
use Rattle.std.proofs.lemmas.Bool.{false≢true, eqb-true, eq-eqb}
use Rattle.std.proofs.lemmas.Bool.Decides.{Decides-eqb}
use Rattle.std.proofs.lemmas.List.{take-append-drop, length-append, get_or-append-add, get_or_append_left}
use Rattle.std.proofs.lemmas.List.Prefix.{at_from_reads}
use Rattle.std.proofs.lemmas.Slice.Eq.{starts_is, ends_is}
use Rattle.std.proofs.lemmas.Str.{encodes-append, encodes_same, cons_from_encodes, IsCharBoundary-start, IsUtf8-take, IsUtf8-drop, length-le-encodes}
use Rattle.memchr.specs.Find.{OccursAt, FindsNeedle}
use Rattle.css_model.specs.declared.selector.Op.TheVariants.{Prefix, Suffix, Part}
use Rattle.css_model.specs.Documents.Attribute.{HasPart, begins_with_word, has_part, passes, starts_white}
use Rattle.css_model.specs.Lists.{begins_with}
use Rattle.cascade_laws.proofs.ForCallers.{passes-decides}

-- two tests that decide the same
same_truth : {P : Type 0} (a b : Bool) → Decides a P → Decides b P → a ≡ b
same_truth true b f g = sym (g.1 (f.0 refl))
same_truth false true f g = f.1 (g.0 refl)
same_truth false false f g = refl

with_some : {P : Type 0} (v : List ℕ) → v ≢ [] → (r : Bool) → Decides r P → Decides r ((v ≢ []) × P)
with_some v some r d = (λ t. (some, d.0 t), λ h. d.1 h.1)

-- a text that is not empty begins or ends another one
pub prefix_is : (text v : List ℕ) (r : Bool) → v ≢ [] → r ≡ starts_with nat_eq text v → r ≡ passes Prefix v text
prefix_is text v r some e =
    let is = starts_is Decides-eqb text v r e in
    same_truth r (passes Prefix v text) (with_some v some r (λ t. (drop (length v) text, is.0 t), λ h. is.1 h.0 h.1)) (passes-decides Prefix v text)

pub suffix_is : (text v : List ℕ) (r : Bool) → v ≢ [] → r ≡ ends_with nat_eq text v → r ≡ passes Suffix v text
suffix_is text v r some e =
    let is = ends_is Decides-eqb text v r e in
    same_truth r (passes Suffix v text) (with_some v some r (λ t. (take (length text - length v) text, is.0 t), λ h. is.1 h.0 h.1)) (passes-decides Suffix v text)

pub not_nil : (v : List ℕ) → false ≡ (length v == 0) → v ≢ []
not_nil [] e is = false≢true e
not_nil (c ∷ cs) e is = cc

pub nil_is : (v : List ℕ) → true ≡ (length v == 0) → v ≡ []
nil_is [] e = refl
nil_is (c ∷ cs) e = absurd (let bad : length (c ∷ cs) ≡ 0 = eqb-true (length (c ∷ cs)) 0 (sym e) in omega arith)

-- what follows a front that was taken off
pub word_behind : (v rest : List ℕ) → begins_with_word (v ++ rest) v ≡ starts_white rest
word_behind [] rest = refl
word_behind (d ∷ v) rest = ap (λ (b : Bool). b && begins_with_word (v ++ rest) v) (eq-eqb d d refl) ∙ word_behind v rest

pub dash_behind : (v rest w : List ℕ) → begins_with (v ++ rest) (v ++ w) ≡ begins_with rest w
dash_behind [] rest w = refl
dash_behind (d ∷ v) rest w = ap (λ (b : Bool). b && begins_with (v ++ rest) (v ++ w)) (eq-eqb d d refl) ∙ dash_behind v rest w

-- where there is no such front
pub no_word : (text v : List ℕ) → ((rest : List ℕ) → text ≢ v ++ rest) → begins_with_word text v ≡ false
no_word text [] none = absurd (none text refl)
no_word [] (d ∷ v) none = refl
no_word (c ∷ text) (d ∷ v) none = cases (c == d) refl (no_word text v)
  where
    cases : (b : Bool) → (c == d) ≡ b → (((rest : List ℕ) → text ≢ v ++ rest) → begins_with_word text v ≡ false) → (b && begins_with_word text v) ≡ false
    cases false e later = refl
    cases true e later = later (λ rest same. none rest (ap₂ (λ (n : ℕ) (ns : List ℕ). n ∷ ns) (eqb-true c d e) same))

pub no_dash : (text v w : List ℕ) → ((rest : List ℕ) → text ≢ v ++ rest) → begins_with text (v ++ w) ≡ false
no_dash text [] w none = absurd (none text refl)
no_dash [] (d ∷ v) w none = refl
no_dash (c ∷ text) (d ∷ v) w none = cases (c == d) refl (no_dash text v w)
  where
    cases : (b : Bool) → (c == d) ≡ b → (((rest : List ℕ) → text ≢ v ++ rest) → begins_with text (v ++ w) ≡ false) → (b && begins_with text (v ++ w)) ≡ false
    cases false e later = refl
    cases true e later = later (λ rest same. none rest (ap₂ (λ (n : ℕ) (ns : List ℕ). n ∷ ns) (eqb-true c d e) same))

-- Parts in UTF-8: what begins with the bytes of v begins with v.
begins_encoded : (v text rest : List ℕ) → encode_utf8_all text ≡ encode_utf8_all v ++ rest → (more : List ℕ) × (text ≡ v ++ more)
begins_encoded [] text rest e = (text, refl)
begins_encoded (d ∷ v) text rest e =
    let first = cons_from_encodes text (encode_utf8_all v ++ rest) d (e ∙ append_assoc _ (encode_utf8_all v) rest) in
    let later = begins_encoded v first.0 rest first.2 in
    (later.0, first.1 ∙ ap (λ (t : List ℕ). d ∷ t) later.1)

-- the bytes of a text that is not empty are some
some_bytes : (v : List ℕ) → v ≢ [] → 0 < length (encode_utf8_all v)
some_bytes [] some = absurd (some refl)
some_bytes (d ∷ v) some = let long = length-le-encodes (d ∷ v) in omega arith

-- a text that was cut in its bytes
glued : (text front back hay : List ℕ) (k : ℕ) → hay ≡ encode_utf8_all text → encode_utf8_all front ≡ take k hay → encode_utf8_all back ≡ drop k hay → text ≡ front ++ back
glued text front back hay k is f b = encodes_same text (front ++ back) (together ∙ sym (encodes-append front back))
  where
    together : encode_utf8_all text ≡ encode_utf8_all front ++ encode_utf8_all back
    together = sym is ∙ sym (take-append-drop k hay) ∙ ap₂ (λ (s t : List ℕ). s ++ t) (sym f) (sym b)

occurs_is : (text v hay needle : List ℕ) (k : ℕ) → v ≢ [] → hay ≡ encode_utf8_all text → needle ≡ encode_utf8_all v → IsUtf8 hay → IsUtf8 needle →
    OccursAt hay needle k → HasPart text v
occurs_is text v hay needle k some is_hay is_needle hay_utf8 needle_utf8 h =
    let cut : drop k hay ≡ needle ++ drop (k + length needle) hay = at_from_reads 0 hay needle k h.fits h.reads in
    let begins : 0 < length needle = subst (λ (t : List ℕ). 0 < length t) (sym is_needle) (some_bytes v some) in
    let head : get_or hay k 0 ≡ get_or needle 0 0 = subst (λ (n : ℕ). get_or hay n 0 ≡ get_or needle 0 0) (let e : k + 0 ≡ k = omega arith in e) (h.reads 0 begins) in
    let at : IsCharBoundary hay k = (omega (arith, h.fits), λ _ high. subst (λ (n : ℕ). 192 ≤ n) (sym head) ((IsCharBoundary-start needle needle_utf8).1 begins (subst (λ (n : ℕ). 128 ≤ n) head high))) in
    let front = IsUtf8-take hay k hay_utf8 at in
    let back = IsUtf8-drop hay k hay_utf8 at in
    let more = begins_encoded v back.0 (drop (k + length needle) hay) (back.1.1 ∙ cut ∙ ap (λ (t : List ℕ). t ++ drop (k + length needle) hay) is_needle) in
    (front.0, more.0, glued text front.0 back.0 hay k is_hay front.1.1 back.1.1 ∙ ap (λ (t : List ℕ). front.0 ++ t) more.1 ∙ sym (append_assoc front.0 v more.0))

is_occurrence : (front v rest : List ℕ) → OccursAt (front ++ (v ++ rest)) v (length front)
is_occurrence front v rest = record {
  fits = (let whole = length-append front (v ++ rest) in let end = length-append v rest in omega arith);
  reads = λ j below. get_or-append-add front (v ++ rest) j 0 ∙ get_or_append_left v rest 0 j below;
}

part_occurs : (text v hay needle : List ℕ) → hay ≡ encode_utf8_all text → needle ≡ encode_utf8_all v → HasPart text v → (k : ℕ) × OccursAt hay needle k
part_occurs text v hay needle is_hay is_needle h = (
  length (encode_utf8_all h.0),
  subst (λ (t : List ℕ). OccursAt hay t (length (encode_utf8_all h.0))) (sym is_needle)
      (subst (λ (t : List ℕ). OccursAt t (encode_utf8_all v) (length (encode_utf8_all h.0))) (sym pieces)
      (is_occurrence (encode_utf8_all h.0) (encode_utf8_all v) (encode_utf8_all h.1))),
)
  where
    pieces : hay ≡ encode_utf8_all h.0 ++ (encode_utf8_all v ++ encode_utf8_all h.1)
    pieces =
        is_hay ∙ ap encode_utf8_all h.2 ∙ encodes-append (h.0 ++ v) h.1 ∙ ap (λ (t : List ℕ). t ++ encode_utf8_all h.1) (encodes-append h.0 v) ∙
        append_assoc (encode_utf8_all h.0) (encode_utf8_all v) (encode_utf8_all h.1)

part_decides : (text v : List ℕ) → v ≢ [] → Decides (has_part text v) (HasPart text v)
part_decides text [] some = absurd (some refl)
part_decides text (d ∷ v) some = let decides = passes-decides Part (d ∷ v) text in (λ t. (decides.0 t).1, λ h. decides.1 (some, h))

pub part_is : (text v hay needle : List ℕ) (r : Option ℕ) → v ≢ [] → hay ≡ encode_utf8_all text → needle ≡ encode_utf8_all v → IsUtf8 hay → IsUtf8 needle →
    FindsNeedle hay needle 0 r → is_some r ≡ has_part text v
part_is text v hay needle r some is_hay is_needle hay_utf8 needle_utf8 finds =
    same_truth (is_some r) (has_part text v) (tells r finds) (part_decides text v some)
  where
    tells : (r : Option ℕ) → FindsNeedle hay needle 0 r → Decides (is_some r) (HasPart text v)
    tells None none = (
      λ bad. absurd (false≢true bad),
      λ h.
          let at = part_occurs text v hay needle is_hay is_needle h in
          absurd (none at.0 (omega arith) (let within = at.1.fits in omega arith) at.1),
    )
    tells (Some k) found = (λ _. occurs_is text v hay needle k some is_hay is_needle hay_utf8 needle_utf8 found.1, λ _. refl)
