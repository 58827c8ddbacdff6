-- What is left of a sheet laid flat where each pair counts once, at its last place, and the numbers of its members.
use Rattle.std.proofs.Common.{◌≡◌, ◌≢◌, ◌⊎◌, inl, inr, ℕ, zero, suc, ◌+◌, Bool, true, false, List, [], ◌∷◌, ◌++◌, map, Option, Some, None, refl, sym, ap, ap₂, ◌∙◌, subst, arith}
use Rattle.std.specs.Prelude.{◌||◌, ◌&&◌, if◌then◌else◌, slice_get}
use Rattle.std.specs.List.{AllByRecursion, Contains, count_by, list_any}
use Rattle.std.proofs.lemmas.Bool.{false≢true, true≢false, false_from_ne_true}
use Rattle.cascade_laws.proofs.ForCallers.{some-same}
use Rattle.css_model.specs.declared.sheet.DeclItem.{DeclItem}
use Rattle.css_model.specs.declared.sheet.SelItem.{SelItem}
use Rattle.diff_laws.proofs.ForCallers.{count_last, more_if}
use Rattle.list_facts.proofs.Elements.{member}
use Rattle.list_facts.proofs.Members.{Contains-here, Contains-there, Contains-nil, Contains-cons_cases}
use Rattle.order_laws.proofs.ForCallers.{any_from, any_of, map_from, map_has}
use Rattle.sheet_members.specs.Labels.{Label, label_of, label_with, same_label}
use Rattle.sheet_members.specs.Members.{Member, is_listed, is_pair, lasts, member_of, numbered, numbered_one, with_number}
use Rattle.sheet_members.specs.Occurrences.{Kept, Occurrence, Paired, Part}
use Rattle.sheet_members.specs.SameLabels.{label_decides}
use Rattle.same_diff_laws.proofs.Spots.{Ascends, NotPast, Spotted, occurs}

abbrev pub label_at : Spotted → Label
label_at z = label_of z.occurrence

abbrev pub is_paired : Spotted → Bool
is_paired z = is_pair z.occurrence.part

-- ---- Each pair once

abbrev pub last_spots : List Spotted → List Spotted
last_spots [] = []
last_spots (z ∷ zs) = if z.occurrence.repeated || is_listed (occurs (last_spots zs)) z.occurrence then last_spots zs else z ∷ last_spots zs

pub last_occur : (zs : List Spotted) → occurs (last_spots zs) ≡ lasts (occurs zs)
last_occur [] = refl
last_occur (z ∷ zs) =
    which (z.occurrence.repeated || is_listed (occurs (last_spots zs)) z.occurrence)
    ∙ ap (λ (ls : List Occurrence). if z.occurrence.repeated || is_listed ls z.occurrence then ls else z.occurrence ∷ ls) (last_occur zs)
  where
    which : (b : Bool) → occurs (if b then last_spots zs else z ∷ last_spots zs) ≡ (if b then occurs (last_spots zs) else z.occurrence ∷ occurs (last_spots zs))
    which true = refl
    which false = refl

pub last_in : (zs : List Spotted) (z : Spotted) → Contains (last_spots zs) z → Contains zs z
last_in [] z h = absurd (Contains-nil z h)
last_in (x ∷ zs) z h = which (x.occurrence.repeated || is_listed (occurs (last_spots zs)) x.occurrence) h (λ g. last_in zs z g)
  where
    which : (b : Bool) → Contains (if b then last_spots zs else x ∷ last_spots zs) z → (Contains (last_spots zs) z → Contains zs z) → Contains (x ∷ zs) z
    which true g rest = Contains-there x zs z (rest g)
    which false g rest = sided (Contains-cons_cases x (last_spots zs) z g)
      where
        sided : (x ≡ z) ⊎ Contains (last_spots zs) z → Contains (x ∷ zs) z
        sided (inl e) = subst (λ (y : Spotted). Contains (x ∷ zs) y) e (Contains-here x zs)
        sided (inr k) = Contains-there x zs z (rest k)

all_last : (P : Spotted → Type 0) (zs : List Spotted) → AllByRecursion P zs → AllByRecursion P (last_spots zs)
all_last P [] all = tt
all_last P (x ∷ zs) all = which (x.occurrence.repeated || is_listed (occurs (last_spots zs)) x.occurrence) (all_last P zs all.1)
  where
    which : (b : Bool) → AllByRecursion P (last_spots zs) → AllByRecursion P (if b then last_spots zs else x ∷ last_spots zs)
    which true rest = rest
    which false rest = (all.0, rest)

pub last_ascends : (zs : List Spotted) → Ascends zs → Ascends (last_spots zs)
last_ascends [] up = tt
last_ascends (x ∷ zs) up = which (x.occurrence.repeated || is_listed (occurs (last_spots zs)) x.occurrence) (last_ascends zs up.1)
  where
    which : (b : Bool) → Ascends (last_spots zs) → Ascends (if b then last_spots zs else x ∷ last_spots zs)
    which true rest = rest
    which false rest = (all_last (NotPast x) zs up.0, rest)

-- ---- A pair is there at its last place

pub record HasLast (zs : List Spotted) (z : Spotted) : Type 0 where
  pub last : Spotted
  pub there : Contains (last_spots zs) last
  pub label : label_at last ≡ label_at z
  pub behind : (z ≡ last) ⊎ NotPast z last

pub last_has : (zs : List Spotted) → Ascends zs → (z : Spotted) → Contains zs z → is_paired z ≡ true → z.occurrence.repeated ≡ false → HasLast zs z
last_has [] up z h pair once = absurd (Contains-nil z h)
last_has (x ∷ zs) up z h pair once = which (Contains-cons_cases x zs z h) (λ g. last_has zs up.1 z g pair once)
  where
    flag : Bool
    flag = x.occurrence.repeated || is_listed (occurs (last_spots zs)) x.occurrence

    later : (b : Bool) (y : Spotted) → Contains (last_spots zs) y → Contains (if b then last_spots zs else x ∷ last_spots zs) y
    later true y g = g
    later false y g = Contains-there x (last_spots zs) y g

    listed : is_paired x ≡ true → is_listed (occurs (last_spots zs)) x.occurrence ≡ true → HasLast (x ∷ zs) x
    listed is_one l =
        let any : list_any (λ (p : Occurrence). same_label (label_of p) (label_of x.occurrence)) (occurs (last_spots zs)) ≡ true =
        ap (λ (b : Bool). b && list_any (λ (p : Occurrence). same_label (label_of p) (label_of x.occurrence)) (occurs (last_spots zs))) (sym is_one) ∙ l in
        let w = any_from (λ (p : Occurrence). same_label (label_of p) (label_of x.occurrence)) (occurs (last_spots zs)) any in
        let v = map_from (λ (y : Spotted). y.occurrence) (last_spots zs) w.0 w.1 in
        record {
          last = v.0;
          there = later flag v.0 v.1;
          label = ap label_of v.2 ∙ (label_decides (label_of w.0) (label_of x.occurrence)).0 w.2;
          behind = inr (member (NotPast x) zs v.0 up.0 (last_in zs v.0 v.1));
        }

    here : (b : Bool) → is_listed (occurs (last_spots zs)) x.occurrence ≡ b → is_paired x ≡ true → x.occurrence.repeated ≡ false → HasLast (x ∷ zs) x
    here true l is_one unrepeated = listed is_one l
    here false l is_one unrepeated = record {
      last = x;
      there = subst (λ (b : Bool). Contains (if b then last_spots zs else x ∷ last_spots zs) x) (sym (ap₂ (λ (b c : Bool). b || c) unrepeated l)) (Contains-here x (last_spots zs));
      label = refl;
      behind = inl refl;
    }

    which : (x ≡ z) ⊎ Contains zs z → (Contains zs z → HasLast zs z) → HasLast (x ∷ zs) z
    which (inl e) rest =
        subst (λ (y : Spotted). HasLast (x ∷ zs) y) e
        (here (is_listed (occurs (last_spots zs)) x.occurrence) refl (ap is_paired e ∙ pair) (ap (λ (y : Spotted). y.occurrence.repeated) e ∙ once))
    which (inr g) rest =
        let r : HasLast zs z = rest g in record { last = r.last; there = later flag r.last r.there; label = r.label; behind = r.behind }

-- ---- No pair is there twice

abbrev pub Fresh : List Spotted → Type 0
Fresh [] = Unit {0}
Fresh (z ∷ zs) = (is_listed (occurs zs) z.occurrence ≡ false) × Fresh zs

pub last_fresh : (zs : List Spotted) → Fresh (last_spots zs)
last_fresh [] = tt
last_fresh (x ∷ zs) = which (x.occurrence.repeated || is_listed (occurs (last_spots zs)) x.occurrence) refl (last_fresh zs)
  where
    none : (b c : Bool) → (b || c) ≡ false → c ≡ false
    none true c e = absurd (true≢false e)
    none false c e = e

    which : (b : Bool) → (x.occurrence.repeated || is_listed (occurs (last_spots zs)) x.occurrence) ≡ b → Fresh (last_spots zs) → Fresh (if b then last_spots zs else x ∷ last_spots zs)
    which true e rest = rest
    which false e rest = (none x.occurrence.repeated (is_listed (occurs (last_spots zs)) x.occurrence) e, rest)

-- one that no later one is, is another one than these
fresh_other : (z : Spotted) (zs : List Spotted) → is_listed (occurs zs) z.occurrence ≡ false → is_paired z ≡ true → (y : Spotted) → Contains zs y → label_at y ≡ label_at z → ⊥
fresh_other z zs none pair y h same =
    let any : list_any (λ (p : Occurrence). same_label (label_of p) (label_of z.occurrence)) (occurs zs) ≡ true =
    any_of (λ (p : Occurrence). same_label (label_of p) (label_of z.occurrence)) (occurs zs) y.occurrence (map_has (λ (x : Spotted). x.occurrence) zs y h) ((label_decides (label_at y) (label_at z)).1 same) in
    false≢true (sym none ∙ ap₂ (λ (b c : Bool). b && c) pair any)

-- the label of a pair has its selector, and that of a kept item has none
pair_selector : (o : Occurrence) (q : Part) → o.part ≡ q → is_pair q ≡ true → (label_of o).selector ≡ None → ⊥
pair_selector o (Paired s d) e pair none = let f : Some s.selector ≡ None = sym (ap (λ (r : Part). (label_with o.layer.head r false o.text).selector) e) ∙ none in cc
pair_selector o (Kept item) e pair none = false≢true pair

pub kept_selector : (o : Occurrence) (q : Part) → o.part ≡ q → is_pair q ≡ false → (label_of o).selector ≡ None
kept_selector o (Paired s d) e kept = absurd (true≢false kept)
kept_selector o (Kept item) e kept = ap (λ (r : Part). (label_with o.layer.head r false o.text).selector) e

pub both_pairs : (z y : Spotted) → label_at z ≡ label_at y → is_paired z ≡ true → is_paired y ≡ true
both_pairs z y same pair = which (is_paired y) refl
  where
    which : (b : Bool) → is_paired y ≡ b → is_paired y ≡ true
    which true e = e
    which false e = absurd (pair_selector z.occurrence z.occurrence.part refl pair (ap (λ (l : Label). l.selector) same ∙ kept_selector y.occurrence y.occurrence.part refl e))

pub one_pair : (zs : List Spotted) → Fresh zs → (z y : Spotted) → Contains zs z → Contains zs y → is_paired z ≡ true → label_at z ≡ label_at y → z ≡ y
one_pair [] fresh z y h g pair same = absurd (Contains-nil z h)
one_pair (x ∷ zs) fresh z y h g pair same = which (Contains-cons_cases x zs z h) (Contains-cons_cases x zs y g) (λ k m. one_pair zs fresh.1 z y k m pair same)
  where
    which : (x ≡ z) ⊎ Contains zs z → (x ≡ y) ⊎ Contains zs y → (Contains zs z → Contains zs y → z ≡ y) → z ≡ y
    which (inl e) (inl f) rest = sym e ∙ f
    which (inl e) (inr m) rest = absurd (fresh_other x zs fresh.0 (ap is_paired e ∙ pair) y m (sym same ∙ ap label_at (sym e)))
    which (inr k) (inl f) rest = absurd (fresh_other x zs fresh.0 (ap is_paired f ∙ both_pairs z y same pair) z k (same ∙ ap label_at (sym f)))
    which (inr k) (inr m) rest = rest k m

-- ---- Places of kept items

pub record Mark : Type 0 where
  pub spot : List ℕ
  pub label : Label

abbrev pub with_mark : Part → Spotted → List Mark → List Mark
with_mark (Paired s d) z ms = ms
with_mark (Kept item) z ms = record { spot = z.spot; label = label_at z } ∷ ms

-- the places of the kept ones, with their labels
abbrev pub marks : List Spotted → List Mark
marks [] = []
marks (z ∷ zs) = with_mark z.occurrence.part z (marks zs)

-- the place of the one that so many with a label come before
abbrev pub found_or : Bool → ℕ → (now : List ℕ) → (ℕ → Option (List ℕ)) → Option (List ℕ)
found_or false n now rest = rest n
found_or true zero now rest = Some now
found_or true (suc n) now rest = rest n

abbrev pub find_mark : Label → List Mark → ℕ → Option (List ℕ)
find_mark l [] n = None
find_mark l (m ∷ ms) n = found_or (same_label l m.label) n m.spot (λ i. find_mark l ms i)

pub last_marks : (zs : List Spotted) → ((z : Spotted) → Contains zs z → is_paired z ≡ false → z.occurrence.repeated ≡ false) → marks (last_spots zs) ≡ marks zs
last_marks [] once = refl
last_marks (z ∷ zs) once = which z.occurrence.part refl (last_marks zs (λ y h. once y (Contains-there z zs y h)))
  where
    flag_with : Part → Bool
    flag_with = λ q. z.occurrence.repeated || (is_pair q && list_any (λ (p : Occurrence). same_label (label_of p) (label_of z.occurrence)) (occurs (last_spots zs)))

    skipped : (b : Bool) (s : SelItem) (d : DeclItem) → z.occurrence.part ≡ Paired s d → marks (last_spots zs) ≡ marks zs → marks (if b then last_spots zs else z ∷ last_spots zs) ≡ marks zs
    skipped true s d e rest = rest
    skipped false s d e rest = ap (λ (q : Part). with_mark q z (marks (last_spots zs))) e ∙ rest

    which : (q : Part) → z.occurrence.part ≡ q → marks (last_spots zs) ≡ marks zs → marks (last_spots (z ∷ zs)) ≡ with_mark z.occurrence.part z (marks zs)
    which (Paired s d) e rest = skipped (flag_with z.occurrence.part) s d e rest ∙ ap (λ (q : Part). with_mark q z (marks zs)) (sym e)
    which (Kept item) e rest =
        let kept : is_paired z ≡ false = ap is_pair e in
        let unrepeated : z.occurrence.repeated ≡ false = once z (Contains-here z zs) kept in
        ap (λ (b : Bool). marks (if b then last_spots zs else z ∷ last_spots zs)) (ap₂ (λ (b : Bool) (q : Part). b || (is_pair q && list_any (λ (p : Occurrence). same_label (label_of p) (label_of z.occurrence)) (occurs (last_spots zs)))) unrepeated e)
        ∙ ap (λ (ms : List Mark). with_mark z.occurrence.part z ms) rest

-- ---- Numbers

-- a member is one of these, and its number is how many with its label come before, behind these labels
pub record IsMember (before : List Label) (zs : List Spotted) (k : ℕ) (m : Member) : Type 0 where
  pub spotted : Spotted
  pub at : slice_get zs k ≡ Some spotted
  pub occurrence : m.occurrence ≡ spotted.occurrence
  pub number : ℕ
  pub label : m.label ≡ with_number (count_by (same_label (label_at spotted)) before + number) (label_at spotted)
  pub pair : is_paired spotted ≡ true → number ≡ 0
  pub mark : is_paired spotted ≡ false → find_mark (label_at spotted) (marks zs) number ≡ Some spotted.spot

same_itself : (l : Label) → same_label l l ≡ true
same_itself l = (label_decides l l).1 refl

first_mark : (z : Spotted) (zs : List Spotted) (q : Part) → z.occurrence.part ≡ q → is_pair q ≡ false → find_mark (label_at z) (with_mark q z (marks zs)) 0 ≡ Some z.spot
first_mark z zs (Paired s d) e kept = absurd (true≢false kept)
first_mark z zs (Kept item) e kept = ap (λ (b : Bool). found_or b 0 z.spot (λ i. find_mark (label_at z) (marks zs) i)) (same_itself (label_at z))

-- how many more there are behind one more
abbrev past : Bool → ℕ → ℕ
past true n = suc n
past false n = n

later_mark : (z : Spotted) (zs : List Spotted) (y : Spotted) (n : ℕ) (q : Part) → z.occurrence.part ≡ q → is_paired y ≡ false → find_mark (label_at y) (marks zs) n ≡ Some y.spot →
    find_mark (label_at y) (with_mark q z (marks zs)) (past (same_label (label_at y) (label_at z)) n) ≡ Some y.spot
later_mark z zs y n (Paired s d) e kept h =
    ap (λ (b : Bool). find_mark (label_at y) (marks zs) (past b n)) (false_from_ne_true (same_label (label_at y) (label_at z)) (λ same.
    let f : label_at y ≡ label_at z = (label_decides (label_at y) (label_at z)).0 same in
    absurd (pair_selector z.occurrence (Paired s d) e refl (ap (λ (l : Label). l.selector) (sym f) ∙ kept_selector y.occurrence y.occurrence.part refl kept)))) ∙ h
later_mark z zs y n (Kept item) e kept h = which (same_label (label_at y) (label_at z))
  where
    which : (b : Bool) → found_or b (past b n) z.spot (λ i. find_mark (label_at y) (marks zs) i) ≡ Some y.spot
    which true = h
    which false = h

count_past : (l x : Label) (before : List Label) (n : ℕ) → count_by (same_label l) (before ++ x ∷ []) + n ≡ count_by (same_label l) before + past (same_label l x) n
count_past l x before n = ap (λ (c : ℕ). c + n) (count_last l x before) ∙ which (same_label l x)
  where
    which : (b : Bool) → more_if b (count_by (same_label l) before) + n ≡ count_by (same_label l) before + past b n
    which true = omega arith
    which false = omega arith

slice_in : (zs : List Spotted) (k : ℕ) (z : Spotted) → slice_get zs k ≡ Some z → Contains zs z
slice_in [] k z at = absurd (let e : None ≡ Some z = at in cc)
slice_in (x ∷ zs) zero z at = subst (λ (y : Spotted). Contains (x ∷ zs) y) (some-same at) (Contains-here x zs)
slice_in (x ∷ zs) (suc k) z at = Contains-there x zs z (slice_in zs k z at)

pub spotted_in : (zs : List Spotted) (k : ℕ) (z : Spotted) → slice_get zs k ≡ Some z → Contains zs z
spotted_in zs k z at = slice_in zs k z at

pub numbered_is : (before : List Label) (zs : List Spotted) → Fresh zs → (k : ℕ) (m : Member) → slice_get (numbered before (map member_of (occurs zs))) k ≡ Some m → IsMember before zs k m
numbered_is before [] fresh k m at = absurd (let e : None ≡ Some m = at in cc)
numbered_is before (z ∷ zs) fresh zero m at =
    let e : numbered_one before (member_of z.occurrence) ≡ m = some-same at in
    record {
      spotted = z;
      at = refl;
      occurrence = ap (λ (x : Member). x.occurrence) (sym e);
      number = 0;
      label = ap (λ (x : Member). x.label) (sym e) ∙ ap (λ (c : ℕ). with_number c (label_at z)) (let n : count_by (same_label (label_at z)) before ≡ count_by (same_label (label_at z)) before + 0 = omega arith in n);
      pair = λ h. refl;
      mark = λ h. first_mark z zs z.occurrence.part refl h;
    }
numbered_is before (z ∷ zs) fresh (suc k) m at =
    let r : IsMember (before ++ label_at z ∷ []) zs k m = numbered_is (before ++ label_at z ∷ []) zs fresh.1 k m at in
    record {
      spotted = r.spotted;
      at = r.at;
      occurrence = r.occurrence;
      number = past (same_label (label_at r.spotted) (label_at z)) r.number;
      label = r.label ∙ ap (λ (c : ℕ). with_number c (label_at r.spotted)) (count_past (label_at r.spotted) (label_at z) before r.number);
      pair = λ h. ap (λ (b : Bool). past b r.number) (other r h) ∙ r.pair h;
      mark = λ h. later_mark z zs r.spotted r.number z.occurrence.part refl h (r.mark h);
    }
  where
    other : (r : IsMember (before ++ label_at z ∷ []) zs k m) → is_paired r.spotted ≡ true → same_label (label_at r.spotted) (label_at z) ≡ false
    other r pair = false_from_ne_true (same_label (label_at r.spotted) (label_at z)) (λ same.
        let e : label_at r.spotted ≡ label_at z = (label_decides (label_at r.spotted) (label_at z)).0 same in
        absurd (fresh_other z zs fresh.0 (both_pairs r.spotted z e pair) r.spotted (slice_in zs k r.spotted r.at) e))

-- ---- What is there is a member

pub record HasMember (ms : List Member) (l : Label) : Type 0 where
  pub member : Member
  pub there : Contains ms member
  pub label : member.label ≡ l

pub pair_member : (before : List Label) (zs : List Spotted) → Fresh zs → (z : Spotted) → Contains zs z → is_paired z ≡ true → count_by (same_label (label_at z)) before ≡ 0 → HasMember (numbered before (map member_of (occurs zs))) (label_at z)
pair_member before [] fresh z h pair none = absurd (Contains-nil z h)
pair_member before (x ∷ zs) fresh z h pair none =
    which (Contains-cons_cases x zs z h) (λ g. pair_member (before ++ label_at x ∷ []) zs fresh.1 z g pair (count_last (label_at z) (label_at x) before ∙ ap₂ more_if (other g) none))
  where
    other : Contains zs z → same_label (label_at z) (label_at x) ≡ false
    other g = false_from_ne_true (same_label (label_at z) (label_at x)) (λ same.
        let e : label_at z ≡ label_at x = (label_decides (label_at z) (label_at x)).0 same in
        absurd (fresh_other x zs fresh.0 (both_pairs z x e pair) z g e))

    which : (x ≡ z) ⊎ Contains zs z → (Contains zs z → HasMember (numbered (before ++ label_at x ∷ []) (map member_of (occurs zs))) (label_at z)) → HasMember (numbered before (map member_of (occurs (x ∷ zs)))) (label_at z)
    which (inl e) rest = record {
      member = numbered_one before (member_of x.occurrence);
      there = Contains-here (numbered_one before (member_of x.occurrence)) (numbered (before ++ label_at x ∷ []) (map member_of (occurs zs)));
      label = ap (λ (c : ℕ). with_number c (label_at x)) (ap (λ (y : Spotted). count_by (same_label (label_at y)) before) e ∙ none) ∙ ap label_at e;
    }
    which (inr g) rest =
        let r = rest g in
        record { member = r.member; there = Contains-there (numbered_one before (member_of x.occurrence)) (numbered (before ++ label_at x ∷ []) (map member_of (occurs zs))) r.member r.there; label = r.label }

pub kept_member : (before : List Label) (zs : List Spotted) (l : Label) (n : ℕ) (u : List ℕ) → l.selector ≡ None → find_mark l (marks zs) n ≡ Some u → HasMember (numbered before (map member_of (occurs zs))) (with_number (count_by (same_label l) before + n) l)
kept_member before [] l n u none h = absurd (let e : None ≡ Some u = h in cc)
kept_member before (x ∷ zs) l n u none h = which x.occurrence.part refl (same_label l (label_at x)) refl n h (λ i g. kept_member (before ++ label_at x ∷ []) zs l i u none g)
  where
    Whole : ℕ → Type 0
    Whole = λ i. HasMember (numbered before (map member_of (occurs (x ∷ zs)))) (with_number (count_by (same_label l) before + i) l)

    Rest : ℕ → Type 0
    Rest = λ i. HasMember (numbered (before ++ label_at x ∷ []) (map member_of (occurs zs))) (with_number (count_by (same_label l) (before ++ label_at x ∷ []) + i) l)

    later : (b : Bool) → same_label l (label_at x) ≡ b → (i : ℕ) → Rest i → Whole (past b i)
    later b e i r = record {
      member = r.member;
      there = Contains-there (numbered_one before (member_of x.occurrence)) (numbered (before ++ label_at x ∷ []) (map member_of (occurs zs))) r.member r.there;
      label = r.label ∙ ap (λ (c : ℕ). with_number c l) (count_past l (label_at x) before i ∙ ap (λ (c : Bool). count_by (same_label l) before + past c i) e);
    }

    here : same_label l (label_at x) ≡ true → Whole 0
    here e =
        let same : l ≡ label_at x = (label_decides l (label_at x)).0 e in
        record {
          member = numbered_one before (member_of x.occurrence);
          there = Contains-here (numbered_one before (member_of x.occurrence)) (numbered (before ++ label_at x ∷ []) (map member_of (occurs zs)));
          label = ap (λ (k : Label). with_number (count_by (same_label k) before) k) (sym same) ∙ ap (λ (c : ℕ). with_number c l) (let f : count_by (same_label l) before ≡ count_by (same_label l) before + 0 = omega arith in f);
        }

    which : (q : Part) → x.occurrence.part ≡ q → (b : Bool) → same_label l (label_at x) ≡ b → (i : ℕ) → find_mark l (with_mark q x (marks zs)) i ≡ Some u → ((j : ℕ) → find_mark l (marks zs) j ≡ Some u → Rest j) → Whole i
    which (Paired s d) part true e i g rest =
        absurd (pair_selector x.occurrence (Paired s d) part refl (ap (λ (k : Label). k.selector) (sym ((label_decides l (label_at x)).0 e)) ∙ none))
    which (Paired s d) part false e i g rest = later false e i (rest i g)
    which (Kept item) part true e zero g rest = here e
    which (Kept item) part true e (suc i) g rest =
        later true e i (rest i (ap (λ (b : Bool). found_or b (suc i) x.spot (λ j. find_mark l (marks zs) j)) (sym e) ∙ g))
    which (Kept item) part false e i g rest = later false e i (rest i (ap (λ (b : Bool). found_or b i x.spot (λ j. find_mark l (marks zs) j)) (sym e) ∙ g))
