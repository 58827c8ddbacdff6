-- In a scene each kept rule applies its own declarations.
use Rattle.std.proofs.Common.{◌≡◌, ◌⊎◌, inl, inr, ℕ, ◌+◌, Bool, true, false, not, List, [], ◌∷◌, ◌++◌, map, Option, Some, None, append_assoc, refl, sym, ap, ◌∙◌, subst}
use Rattle.std.specs.Prelude.{if◌then◌else◌, ◌||◌, ◌&&◌}
use Rattle.std.specs.List.{All, Contains, enumerate_from, filter, flat_map, list_any}
use Rattle.std.proofs.lemmas.List.{map-append}
use Rattle.std.proofs.lemmas.List.Elements.{All-contains, filter-append}
use Rattle.css_model.specs.declared.sheet.Decl.{Decl}
use Rattle.css_model.specs.declared.sheet.DeclItem.{DeclItem}
use Rattle.css_model.specs.declared.sheet.Item.{Item}
use Rattle.css_model.specs.declared.sheet.Item.TheVariants.{Rule, KeptRule, KeptBlock}
use Rattle.css_model.specs.declared.sheet.SelItem.{SelItem}
use Rattle.css_model.specs.Cascade.Winner.{AreMeanings, Declared}
use Rattle.css_model.specs.Sheets.RuleParts.{RuleParts}
use Rattle.list_facts.proofs.Members.{Contains-nil, Contains-cons_cases}
use Rattle.media_groups.specs.declared.media.Media.{Media}
use Rattle.opened_laws.specs.Media.Scenes.{KeptScene}
use Rattle.order_laws.proofs.ForCallers.{map_from}
use Rattle.sheet_members.specs.Labels.{Label, label_of, same_label}
use Rattle.sheet_members.specs.Layers.{Layer, body_layer, outer_layer}
use Rattle.sheet_members.specs.Members.{Member, is_listed, is_pair, lasts, member_of, numbered, numbered_one}
use Rattle.sheet_members.specs.Occurrences.{Kept, Occurrence, Paired, Part, by_body, by_item, by_opened, by_outer_item, by_rule, pair_of, with_repeats}
use Rattle.diff_laws.specs.Scenes.{applied_in, kept_labels, normal_declared}
use Rattle.diff_laws.proofs.Applied.{normal_all, unrepeated}
use Rattle.diff_laws.proofs.Lasts.{NoneRepeats}
use Rattle.diff_laws.proofs.Scene.{IsSceneFor, Tally}

-- each of these has the property and the importance of a declaration of a kept rule
abbrev pub Owns : Item → List Declared → Type 0
Owns (Rule r) ds = ⊥
Owns (KeptRule k) ds = (x : Declared) → Contains ds x → (d : Decl) × Contains k.decls d × (d.name ≡ x.decl.name) × (d.important ≡ x.decl.important)
Owns (KeptBlock piece) ds = Unit {0}

abbrev pub own_part : Part → (List (List Declared) → Type 0) → List (List Declared) → Type 0
own_part (Paired s d) Rest ps = Rest ps
own_part (Kept item) Rest [] = Unit {0}
own_part (Kept item) Rest (p ∷ ps) = Owns item p × Rest ps

-- kept items of these apply these lists, one after the other, each its own
abbrev pub OwnAll : List Occurrence → List (List Declared) → Type 0
OwnAll [] ps = Unit {0}
OwnAll (o ∷ os) ps = own_part o.part (λ qs. OwnAll os qs) ps

-- ---- The pairs of a rule

pairs_own : (l : Layer) (n : ℕ) (d : DeclItem) (ws : List (SelItem × Bool)) (rest : List Occurrence) (ps : List (List Declared)) → OwnAll rest ps → OwnAll (unrepeated (map (pair_of l n d) ws) ++ rest) ps
pairs_own l n d [] rest ps own = own
pairs_own l n d (w ∷ ws) rest ps own = which w.1 (pairs_own l n d ws rest ps own)
  where
    which : (b : Bool) → OwnAll (unrepeated (map (pair_of l n d) ws) ++ rest) ps →
        OwnAll ((if not b then record (pair_of l n d w) { repeated = b } ∷ unrepeated (map (pair_of l n d) ws) else unrepeated (map (pair_of l n d) ws)) ++ rest) ps
    which true more = more
    which false more = more

decls_own : (l : Layer) (n : ℕ) (ss : List SelItem) (ds : List DeclItem) (rest : List Occurrence) (ps : List (List Declared)) → OwnAll rest ps →
    OwnAll (unrepeated (flat_map (λ d. map (pair_of l n d) (with_repeats [] ss)) ds) ++ rest) ps
decls_own l n ss [] rest ps own = own
decls_own l n ss (d ∷ ds) rest ps own =
    let here : List Occurrence = map (pair_of l n d) (with_repeats [] ss) in
    let more : List Occurrence = flat_map (λ d. map (pair_of l n d) (with_repeats [] ss)) ds in
    subst (λ (os : List Occurrence). OwnAll (os ++ rest) ps) (sym (filter-append (λ (o : Occurrence). not o.repeated) here more))
    (subst (λ (os : List Occurrence). OwnAll os ps) (sym (append_assoc (unrepeated here) (unrepeated more) rest))
    (pairs_own l n d (with_repeats [] ss) (unrepeated more ++ rest) ps (decls_own l n ss ds rest ps own)))

rule_own : (l : Layer) (n : ℕ) (r : RuleParts) (more rest : List Occurrence) (ps : List (List Declared)) → OwnAll (unrepeated more ++ rest) ps → OwnAll (unrepeated (by_rule l n r ++ more) ++ rest) ps
rule_own l n r more rest ps own =
    subst (λ (os : List Occurrence). OwnAll (os ++ rest) ps) (sym (filter-append (λ (o : Occurrence). not o.repeated) (by_rule l n r) more))
    (subst (λ (os : List Occurrence). OwnAll os ps) (sym (append_assoc (unrepeated (by_rule l n r)) (unrepeated more) rest))
    (decls_own l n r.selectors r.decls (unrepeated more ++ rest) ps own))

-- ---- Kept rules

normal_own : (decls : List Decl) (m : List Declared) → All (λ e. Contains decls e.decl) m → (x : Declared) → Contains (map normal_declared m) x → (d : Decl) × Contains decls d × (d.name ≡ x.decl.name) × (d.important ≡ x.decl.important)
normal_own decls m all x among =
    let w = map_from normal_declared m x among in
    ((w.0).decl, All-contains (λ (e : Declared). Contains decls e.decl) m w.0 all w.1, ap (λ (y : Declared). y.decl.name) w.2, ap (λ (y : Declared). y.decl.important) w.2)

layer_own : (l : Layer) (n : ℕ) (items : List Item) (ms : List (List Declared)) → AreMeanings items ms → (rest : List Occurrence) (ps : List (List Declared)) → OwnAll rest ps →
    OwnAll (unrepeated (flat_map (by_item l) (enumerate_from n items)) ++ rest) (normal_all ms ++ ps)
layer_own l n [] [] are rest ps own = own
layer_own l n [] (m ∷ ms) are rest ps own = absurd are
layer_own l n (Rule r ∷ items) ms are rest ps own = rule_own l n r (flat_map (by_item l) (enumerate_from (n + 1) items)) rest (normal_all ms ++ ps) (layer_own l (n + 1) items ms are rest ps own)
layer_own l n (KeptRule k ∷ items) [] are rest ps own = absurd are
layer_own l n (KeptRule k ∷ items) (m ∷ ms) are rest ps own = (normal_own k.decls m are.0, layer_own l (n + 1) items ms are.1 rest ps own)
layer_own l n (KeptBlock piece ∷ items) [] are rest ps own = absurd are
layer_own l n (KeptBlock piece ∷ items) (m ∷ ms) are rest ps own = (tt, layer_own l (n + 1) items ms are rest ps own)

module _ (source : List ℕ) (bodies : List Layer) (all : List Item) where
  abbrev outer : Layer
  outer = outer_layer source all

  abbrev occurring : ℕ → List Item → List Occurrence
  occurring n items = flat_map (by_outer_item bodies outer) (enumerate_from n items)

  pub outer_own : (n : ℕ) (items : List Item) (os : List (Option Media)) (scene : List KeptScene) → Tally source bodies n items os → IsSceneFor items os scene → OwnAll (unrepeated (occurring n items)) (normal_all (applied_in os scene))
  outer_own n [] [] [] tally is = tt
  outer_own n [] [] (x ∷ scene) tally is = absurd is
  outer_own n [] (o ∷ os) scene tally is = absurd tally
  outer_own n (Rule r ∷ items) os scene tally is =
      subst (λ (us : List Occurrence). OwnAll us (normal_all (applied_in os scene))) (append_nil (unrepeated (occurring n (Rule r ∷ items))))
      (rule_own outer n r (occurring (n + 1) items) [] (normal_all (applied_in os scene))
      (subst (λ (us : List Occurrence). OwnAll us (normal_all (applied_in os scene))) (sym (append_nil (unrepeated (occurring (n + 1) items)))) (outer_own (n + 1) items os scene tally is)))
    where
      append_nil : (us : List Occurrence) → us ++ [] ≡ us
      append_nil [] = refl
      append_nil (u ∷ us) = ap (λ (vs : List Occurrence). u ∷ vs) (append_nil us)
  outer_own n (KeptRule k ∷ items) [] scene tally is = absurd tally
  outer_own n (KeptRule k ∷ items) (o ∷ os) [] tally is = absurd is
  outer_own n (KeptRule k ∷ items) (None ∷ os) (x ∷ scene) tally is = (normal_own k.decls x.plain is.0, outer_own (n + 1) items os scene tally.1 is.1)
  outer_own n (KeptRule k ∷ items) (Some m ∷ os) (x ∷ scene) tally is = absurd (let e : Some m ≡ None = tally.0 in cc)
  outer_own n (KeptBlock piece ∷ items) [] scene tally is = absurd tally
  outer_own n (KeptBlock piece ∷ items) (o ∷ os) [] tally is = absurd is
  outer_own n (KeptBlock piece ∷ items) (None ∷ os) (x ∷ scene) tally is =
      subst (λ (b : Option Layer). OwnAll (unrepeated (by_opened outer (n, KeptBlock piece) b ++ occurring (n + 1) items)) (normal_all (x.plain ∷ applied_in os scene))) (sym tally.0)
      (tt, outer_own (n + 1) items os scene tally.1 is.1)
  outer_own n (KeptBlock piece ∷ items) (Some m ∷ os) (x ∷ scene) tally is =
      subst (λ (b : Option Layer). OwnAll (unrepeated (by_opened outer (n, KeptBlock piece) b ++ occurring (n + 1) items)) (normal_all (x.inside ++ applied_in os scene))) (sym tally.0)
      (subst (λ (us : List Occurrence). OwnAll us (normal_all (x.inside ++ applied_in os scene))) (sym (filter-append (λ (o : Occurrence). not o.repeated) (by_body (body_layer source m)) (occurring (n + 1) items)))
      (subst (λ (qs : List (List Declared)). OwnAll (unrepeated (by_body (body_layer source m)) ++ unrepeated (occurring (n + 1) items)) qs) (sym (map-append (map normal_declared) x.inside (applied_in os scene)))
      (layer_own (body_layer source m) 0 m.sheet.items x.inside is.0 (unrepeated (occurring (n + 1) items)) (normal_all (applied_in os scene)) (outer_own (n + 1) items os scene tally.1 is.1))))

-- ---- Of members

pub lasts_own : (os : List Occurrence) (ps : List (List Declared)) → NoneRepeats os → OwnAll os ps → OwnAll (lasts os) ps
lasts_own [] ps none own = tt
lasts_own (o ∷ os) ps none own =
    subst (λ (b : Bool). OwnAll (if b || is_listed (lasts os) o then lasts os else o ∷ lasts os) ps) (sym none.0)
    (which o.part refl ps own (λ qs g. lasts_own os qs none.1 g))
  where
    which : (q : Part) → o.part ≡ q → (ps : List (List Declared)) → own_part q (λ qs. OwnAll os qs) ps → ((qs : List (List Declared)) → OwnAll os qs → OwnAll (lasts os) qs) →
        OwnAll (if is_pair o.part && list_any (λ (p : Occurrence). same_label (label_of p) (label_of o)) (lasts os) then lasts os else o ∷ lasts os) ps
    which q e ps own rest =
        subst (λ (r : Part). OwnAll (if is_pair r && list_any (λ (p : Occurrence). same_label (label_of p) (label_of o)) (lasts os) then lasts os else o ∷ lasts os) ps) (sym e)
        (kind q e ps own)
      where
        kind : (q : Part) → o.part ≡ q → (ps : List (List Declared)) → own_part q (λ qs. OwnAll os qs) ps →
            OwnAll (if is_pair q && list_any (λ (p : Occurrence). same_label (label_of p) (label_of o)) (lasts os) then lasts os else o ∷ lasts os) ps
        kind (Paired s d) e ps own = sided (list_any (λ (p : Occurrence). same_label (label_of p) (label_of o)) (lasts os))
          where
            sided : (b : Bool) → OwnAll (if b then lasts os else o ∷ lasts os) ps
            sided true = rest ps own
            sided false = subst (λ (r : Part). own_part r (λ qs. OwnAll (lasts os) qs) ps) (sym e) (rest ps own)
        kind (Kept item) e [] own = subst (λ (r : Part). own_part r (λ qs. OwnAll (lasts os) qs) []) (sym e) tt
        kind (Kept item) e (p ∷ ps) own = subst (λ (r : Part). own_part r (λ qs. OwnAll (lasts os) qs) (p ∷ ps)) (sym e) (own.0, rest ps own.1)

-- what is said of the label of a member is its own
abbrev pub PartOwns : Part → List Declared → Type 0
PartOwns (Paired s d) ds = Unit {0}
PartOwns (Kept item) ds = Owns item ds

module _ (means : Label → List Declared) where
  pub members_own : (before : List Label) (os : List Occurrence) → OwnAll os (map means (kept_labels (numbered before (map member_of os)))) →
      (m : Member) → Contains (numbered before (map member_of os)) m → PartOwns m.occurrence.part (means m.label)
  members_own before [] own m among = absurd (Contains-nil m among)
  members_own before (o ∷ os) own m among =
      which o.part refl own (Contains-cons_cases (numbered_one before (member_of o)) (numbered (before ++ label_of o ∷ []) (map member_of os)) m among) (λ h g. members_own (before ++ label_of o ∷ []) os h m g)
    where
      which : (q : Part) → o.part ≡ q →
          own_part q (λ qs. OwnAll os qs) (map means (map (λ (x : Member). x.label) (if not (is_pair o.part) then numbered_one before (member_of o) ∷ filter (λ (x : Member). not (is_pair x.occurrence.part)) (numbered (before ++ label_of o ∷ []) (map member_of os)) else filter (λ (x : Member). not (is_pair x.occurrence.part)) (numbered (before ++ label_of o ∷ []) (map member_of os))))) →
          (numbered_one before (member_of o) ≡ m) ⊎ Contains (numbered (before ++ label_of o ∷ []) (map member_of os)) m →
          (OwnAll os (map means (kept_labels (numbered (before ++ label_of o ∷ []) (map member_of os)))) → Contains (numbered (before ++ label_of o ∷ []) (map member_of os)) m → PartOwns m.occurrence.part (means m.label)) →
          PartOwns m.occurrence.part (means m.label)
      which q e own side rest =
          kind q e (subst (λ (r : Part). own_part q (λ qs. OwnAll os qs) (map means (map (λ (x : Member). x.label) (if not (is_pair r) then numbered_one before (member_of o) ∷ filter (λ (x : Member). not (is_pair x.occurrence.part)) (numbered (before ++ label_of o ∷ []) (map member_of os)) else filter (λ (x : Member). not (is_pair x.occurrence.part)) (numbered (before ++ label_of o ∷ []) (map member_of os)))))) e own) side
        where
          kind : (q : Part) → o.part ≡ q →
              own_part q (λ qs. OwnAll os qs) (map means (map (λ (x : Member). x.label) (if not (is_pair q) then numbered_one before (member_of o) ∷ filter (λ (x : Member). not (is_pair x.occurrence.part)) (numbered (before ++ label_of o ∷ []) (map member_of os)) else filter (λ (x : Member). not (is_pair x.occurrence.part)) (numbered (before ++ label_of o ∷ []) (map member_of os))))) →
              (numbered_one before (member_of o) ≡ m) ⊎ Contains (numbered (before ++ label_of o ∷ []) (map member_of os)) m → PartOwns m.occurrence.part (means m.label)
          kind (Paired s d) e own (inl same) = subst (λ (x : Member). PartOwns x.occurrence.part (means x.label)) same (subst (λ (r : Part). PartOwns r (means (numbered_one before (member_of o)).label)) (sym e) tt)
          kind (Paired s d) e own (inr g) = rest own g
          kind (Kept item) e own (inl same) = subst (λ (x : Member). PartOwns x.occurrence.part (means x.label)) same (subst (λ (r : Part). PartOwns r (means (numbered_one before (member_of o)).label)) (sym e) own.0)
          kind (Kept item) e own (inr g) = rest own.1 g
