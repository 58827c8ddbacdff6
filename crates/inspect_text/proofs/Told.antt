-- What is told of an input, by the document and the sheet that it has.
use Rattle.std.proofs.Common.{◌≡◌, ◌⊎◌, inl, inr, ℕ, Bool, true, false, not, cond, List, [], ◌∷◌, ◌++◌, append_assoc, append-nil, Ok, refl, sym, ap, subst, ◌∙◌}
use Rattle.std.specs.Prelude.{◌&&◌, Result}
use Rattle.std.specs.Cmp.Lexicographic.{bytes_decides}
use Rattle.std.specs.List.{Contains, filter, flat_map, list_all}
use Rattle.std.proofs.lemmas.Bool.{false≢true, or_left, or_right}
use Rattle.std.proofs.lemmas.List.Sorted.{Contains-permutation}
use Rattle.list_facts.proofs.Members.{Contains-cons_cases, Contains-filtered, Contains-here, Contains-nil, Contains-there}
use Rattle.css_model.specs.declared.example.Example.{Example}
use Rattle.css_model.specs.declared.fault.SheetFault.{SheetFault}
use Rattle.css_model.specs.declared.sheet.Item.{Item}
use Rattle.css_model.specs.Documents.RunDocuments.{expand, target_of}
use Rattle.css_model.specs.Lists.{same_text}
use Rattle.css_model.specs.Text.Characters.{line_feed}
use Rattle.doc_text.specs.Reading.{TextsDiffer}
use Rattle.inspect_laws.specs.Entries.{Entry, entries_of}
use Rattle.inspect_laws.specs.Groups.{AreFamilies, family_name, is_all, is_in_group, leading}
use Rattle.inspect_laws.specs.Laws.{FirstWins, LostNeverWins, WinsUnderItsHead, WinsWhereNoneHolds}
use Rattle.style_text.specs.Inputs.{document_part, sheet_part}
use Rattle.style_text.specs.Reading.{IsDocument}
use Rattle.inspect_text.specs.InspectTexts.{TellsEntries, kept_count, kept_line, line_among, lines_in}
use Rattle.inspect_text.specs.Laws.{EachEntryHasItsLine, EntriesAreTold, IsPartOf, LostLinesLose, WhenLinesWin, WinsLinesWin}
use Rattle.inspect_text.proofs.Lines.{mapped}

-- ---- One document and one sheet

same_items : (xs ys : List Item) → ◌≡◌ {A = Result (List Item) SheetFault} (Ok xs) (Ok ys) → xs ≡ ys
same_items xs ys same = cc

same_example : TextsDiffer → (text : List ℕ) (x y : Example) → IsDocument text x → IsDocument text y → x ≡ y
unfolding IsDocument
same_example differ text x y one other = differ text x y one.1 other.1

pub told : TextsDiffer → EntriesAreTold
told differ input text x items inspected document sheet =
    let i = inspected.inspection in
    subst (λ (y : Example). TellsEntries y (sheet_part input) items text) (same_example differ (document_part input) i.example x i.document_read document)
    (subst (λ (ys : List Item). TellsEntries i.example (sheet_part input) ys text) (same_items i.items items (sym i.sheet_read ∙ sheet)) i.tells)

-- ---- The line of an entry

in_flat : {X : Type 0} (f : X → List ℕ) (xs : List X) (x : X) → Contains xs x → IsPartOf (f x) (flat_map f xs)
in_flat f [] x among = absurd (Contains-nil x among)
in_flat f (y ∷ xs) x among = which (Contains-cons_cases y xs x among) (λ there. in_flat f xs x there)
  where
    which : (y ≡ x) ⊎ Contains xs x → (Contains xs x → IsPartOf (f x) (flat_map f xs)) → IsPartOf (f x) (f y ++ flat_map f xs)
    which (inl same) later = ([], flat_map f xs, ap (λ z. f z ++ flat_map f xs) same)
    which (inr there) later = let w = later there in (f y ++ w.0, w.1, ap (λ (zs : List ℕ). f y ++ zs) w.2 ∙ sym (append_assoc (f y) w.0 (f x ++ w.1)))

-- a part of a part
part_trans : (x y z : List ℕ) → IsPartOf x y → IsPartOf y z → IsPartOf x z
part_trans x y z inner outer = (
  outer.0 ++ inner.0,
  inner.1 ++ outer.1,
  outer.2
      ∙ ap (λ (ys : List ℕ). outer.0 ++ (ys ++ outer.1)) inner.2
      ∙ ap (λ (ys : List ℕ). outer.0 ++ ys) (append_assoc inner.0 (x ++ inner.1) outer.1 ∙ ap (λ (ys : List ℕ). inner.0 ++ ys) (append_assoc x inner.1 outer.1))
      ∙ sym (append_assoc outer.0 inner.0 (x ++ (inner.1 ++ outer.1))),
)

behind : (before text : List ℕ) → IsPartOf text (before ++ text)
behind before text = (before, [], ap (λ (xs : List ℕ). before ++ xs) (sym (append-nil text)))

-- a family in whose group an entry is
record HasGroup (families : List (List ℕ)) (e : Entry) : Type 0 where
  family : List ℕ
  there : Contains families family
  inside : is_in_group family e ≡ true

itself : (text : List ℕ) → same_text text text ≡ true
itself text = (bytes_decides text text).1 refl

-- one that leads is in the group of its family
own_group : (all : List Entry) (families : List (List ℕ)) → AreFamilies all families → (e : Entry) → Contains (leading all) e → HasGroup families e
own_group all families groups e leads = record {
  family = family_name e;
  there = (groups.exactly (family_name e)).1 (mapped (leading all) e leads);
  inside = or_right (is_all e) (same_text (family_name e) (family_name e)) (itself (family_name e));
}

-- some other entry, unless all are of `all`
some_other : (es : List Entry) → list_all is_all es ≡ false → (f : Entry) × Contains es f × (is_all f ≡ false)
some_other [] h = absurd (false≢true (sym h))
some_other (e ∷ es) h = which (is_all e) refl h (λ later. some_other es later)
  where
    which : (b : Bool) → is_all e ≡ b → (b && list_all is_all es) ≡ false → (list_all is_all es ≡ false → (f : Entry) × Contains es f × (is_all f ≡ false)) → (f : Entry) × Contains (e ∷ es) f × (is_all f ≡ false)
    which false g h later = (e, Contains-here e es, g)
    which true g h later = let w = later h in (w.0, Contains-there e es w.0 w.1, w.2)

has_group : (all : List Entry) (families : List (List ℕ)) → AreFamilies all families → (e : Entry) → Contains all e → HasGroup families e
has_group all families groups e among = which (list_all is_all all) refl (is_all e) refl
  where
    leads : list_all is_all all ≡ false → (f : Entry) → Contains all f → is_all f ≡ false → Contains (leading all) f
    leads h f there g = subst (λ (b : Bool). Contains (cond b all (filter (λ x. not (is_all x)) all)) f) (sym h) (Contains-filtered (λ x. not (is_all x)) all f there (ap not g))

    which : (b : Bool) → list_all is_all all ≡ b → (c : Bool) → is_all e ≡ c → HasGroup families e
    which true h c g = own_group all families groups e (subst (λ (b : Bool). Contains (cond b all (filter (λ x. not (is_all x)) all)) e) (sym h) among)
    which false h false g = own_group all families groups e (leads h e among g)
    which false h true g =
        let w = some_other all h in
        let other = own_group all families groups w.0 (leads h w.0 w.1 w.2) in
        record { family = other.family; there = other.there; inside = or_left (is_all e) (same_text (family_name e) other.family) g }

pub each_line : EachEntryHasItsLine
each_line x source items text tells e among =
    let all = entries_of x source items in
    let group = has_group all tells.families tells.groups e among in
    let here : Contains (filter (is_in_group group.family) tells.sorted) e =
    Contains-filtered (is_in_group group.family) tells.sorted e (Contains-permutation all tells.sorted e tells.in_order.same among) group.inside in
    let line : IsPartOf (line_among source all e) (lines_in source all tells.sorted group.family) = in_flat (line_among source all) (filter (is_in_group group.family) tells.sorted) e here in
    let lines : IsPartOf (lines_in source all tells.sorted group.family) (line_feed ∷ lines_in source all tells.sorted group.family) = behind (line_feed ∷ []) (lines_in source all tells.sorted group.family) in
    let within : IsPartOf (line_feed ∷ lines_in source all tells.sorted group.family) (flat_map (λ family. line_feed ∷ lines_in source all tells.sorted family) tells.families) =
    in_flat (λ family. line_feed ∷ lines_in source all tells.sorted family) tells.families group.family group.there in
    let whole : IsPartOf (flat_map (λ family. line_feed ∷ lines_in source all tells.sorted family) tells.families) text =
    subst (IsPartOf (flat_map (λ family. line_feed ∷ lines_in source all tells.sorted family) tells.families)) (sym tells.text_is)
    (behind (kept_line (kept_count source items)) (flat_map (λ family. line_feed ∷ lines_in source all tells.sorted family) tells.families)) in
    part_trans (line_among source all e) (line_feed ∷ lines_in source all tells.sorted group.family) text
    (part_trans (line_among source all e) (lines_in source all tells.sorted group.family) (line_feed ∷ lines_in source all tells.sorted group.family) line lines)
    (part_trans (line_feed ∷ lines_in source all tells.sorted group.family) (flat_map (λ family. line_feed ∷ lines_in source all tells.sorted family) tells.families) text within whole)

-- ---- The words of lines

pub wins_win : WinsWhereNoneHolds → WinsLinesWin
wins_win law x source items text read tells e among word =
    law (expand x) (target_of x) source items tells.sorted e read tells.in_order (Contains-permutation (entries_of x source items) tells.sorted e tells.in_order.same among) word

pub when_win : WinsUnderItsHead → WhenLinesWin
when_win law x source items text read tells e head among word under =
    law (expand x) (target_of x) source items tells.sorted e head read tells.in_order (Contains-permutation (entries_of x source items) tells.sorted e tells.in_order.same among) word under

pub lost_lose : FirstWins → LostNeverWins → LostLinesLose
lost_lose first lost x source items text read tells holds name = record {
  winner = first (expand x) (target_of x) source items tells.sorted name holds read tells.in_order;
  not_lost = λ e is. lost (entries_of x source items) tells.sorted e name holds tells.in_order is;
}
