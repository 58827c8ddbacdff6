-- The labels of occurrences in a table.
use Rattle.std.proofs.Common.{◌≡◌, ℕ, Bool, true, false, cond, List, [], ◌∷◌, ◌++◌, ◌<◌, ◌+◌, length, get_or, drop, map, reverse, refl, sym, ap, subst, ◌∙◌}
use Rattle.std.specs.Prelude.{◌||◌, ◌&&◌}
use Rattle.std.specs.List.{list_any}
use Rattle.std.proofs.lemmas.List.{map-append, reverse-append}
use Rattle.sheet_members.specs.Labels.{Label, label_of, same_label}
use Rattle.sheet_members.specs.Members.{Member, is_listed, lasts, member_of, with_last}
use Rattle.sheet_members.specs.Occurrences.{Occurrence}
use Rattle.sheet_members.specs.Tables.{AreListed, IsBack}
use Rattle.sheet_members.proofs.Repeats.{left_next}

or_is : (b c : Bool) → cond b true c ≡ (b || c)
or_is true c = refl
or_is false c = refl

pub nothing_listed : (keys : List Label) → keys ≡ [] → AreListed [] keys
nothing_listed keys none l = ap (list_any (same_label l)) none

pub listed_with : (others : List Occurrence) (old new : List Label) (o : Occurrence) → AreListed others old →
    ((q : Label) → list_any (same_label q) new ≡ cond (same_label (label_of o) q) true (list_any (same_label q) old)) → AreListed (o ∷ others) new
listed_with others old new o are updates l =
    updates l ∙ ap (cond (same_label (label_of o) l) true) (are l) ∙ or_is (same_label (label_of o) l) (list_any (λ p. same_label (label_of p) l) others)

pub passed_stays : (others : List Occurrence) (keys : List Label) (found : List Member) (o : Occurrence) → (o.repeated || is_listed others o) ≡ true → IsBack others keys found →
    IsBack (with_last o others) keys found
passed_stays others keys found o passed back = record {
  listed = subst (λ (os : List Occurrence). AreListed os keys) (sym (ap (λ (b : Bool). cond b others (o ∷ others)) passed)) back.listed;
  members = back.members ∙ ap (λ (os : List Occurrence). map member_of (reverse os)) (sym (ap (λ (b : Bool). cond b others (o ∷ others)) passed));
}

pub put_back : (others : List Occurrence) (keys more : List Label) (found new : List Member) (o : Occurrence) → (o.repeated || is_listed others o) ≡ false → IsBack others keys found →
    AreListed (o ∷ others) more → new ≡ found ++ member_of o ∷ [] → IsBack (with_last o others) more new
put_back others keys more found new o passed back listed is = record {
  listed = subst (λ (os : List Occurrence). AreListed os more) (sym counts) listed;
  members = is ∙ ap (λ (ms : List Member). ms ++ member_of o ∷ []) back.members
      ∙ sym (map-append member_of (reverse others) (o ∷ []))
      ∙ ap (map member_of) (sym (reverse-append (o ∷ []) others))
      ∙ ap (λ (os : List Occurrence). map member_of (reverse os)) (sym counts);
}
  where
    counts : with_last o others ≡ o ∷ others
    counts = ap (λ (b : Bool). cond b others (o ∷ others)) passed

-- one more occurrence, from the last one on
pub back_next : (os : List Occurrence) (n k : ℕ) (o : Occurrence) (keys : List Label) (found : List Member) → n ≡ k + 1 → k < length os → o ≡ get_or os k o →
    IsBack (with_last o (lasts (drop n os))) keys found → IsBack (lasts (drop k os)) keys found
back_next os n k o keys found next within is h =
    subst (λ (xs : List Occurrence). IsBack xs keys found) (ap (λ (m : ℕ). with_last o (lasts (drop m os))) next ∙ ap lasts (sym (left_next os k o within is))) h

drop_all : (os : List Occurrence) → drop (length os) os ≡ []
drop_all [] = refl
drop_all (o ∷ os) = drop_all os

pub none_back : (os : List Occurrence) (n : ℕ) (keys : List Label) (found : List Member) → n ≡ length os → keys ≡ [] → found ≡ [] → IsBack (lasts (drop n os)) keys found
none_back os n keys found all no_keys none =
    let nothing : drop n os ≡ [] = ap (λ (m : ℕ). drop m os) all ∙ drop_all os in
    subst (λ (xs : List Occurrence). IsBack (lasts xs) keys found) (sym nothing) (record { listed = nothing_listed keys no_keys; members = none })

pub reverse_map : (os : List Occurrence) → reverse (map member_of os) ≡ map member_of (reverse os)
reverse_map [] = refl
reverse_map (o ∷ os) =
    reverse-append (member_of o ∷ []) (map member_of os) ∙ ap (λ (ms : List Member). ms ++ member_of o ∷ []) (reverse_map os)
    ∙ sym (map-append member_of (reverse os) (o ∷ [])) ∙ ap (map member_of) (sym (reverse-append (o ∷ []) os))
