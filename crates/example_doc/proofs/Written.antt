-- The lines that are written are those of the tree of a shape.
use Rattle.std.proofs.Common.{Bool, List, [], ap, arith, false, length, refl, suc, sym, true, zero, ℕ, ◌*◌, ◌++◌, ◌+◌, ◌-◌, ◌<◌, ◌^◌, ◌∙◌, ◌∷◌, ◌≡◌, ◌≤◌}
use Rattle.std.proofs.lemmas.List.{append-nil, append_assoc, length-append}
use Rattle.css_model.specs.Documents.FeatureParts.{FeatureParts}
use Rattle.css_model.specs.declared.example.RunLine.{RunLine}
use Rattle.shape_laws.specs.Document.Trees.{behind_plain, grown, line_from, plain, plain_runs, tree_from, tree_with}
use Rattle.example_doc.specs.Lines.{AllFall, Falls, back_lines, depth_from, front_lines, line, lines_behind, lines_between, plain_line, rise, top_lines}
use Rattle.cascade_laws.specs.Line.Runs.{Runs, done, lines_of, run}
use Rattle.slot_plan.specs.Counts.{CountsFit, StepCounts}
use Rattle.slot_plan.specs.declared.shape.SlotStep.{SlotStep}
use Rattle.slot_plan.specs.declared.shape.SlotStep.TheVariants.{Further, NextTo, UpMore, UpOne}

-- plain elements in front of others
plain_lines : (d n : ℕ) (row : Runs) → lines_of d (plain_runs n row) ≡ plain_line d n ++ lines_of d row
plain_lines d zero row = refl
plain_lines d (suc n) row = refl

-- and alone
plain_alone : (d n : ℕ) → lines_of d (plain_runs n done) ≡ plain_line d n
plain_alone d n = plain_lines d n done ∙ append-nil (plain_line d n)

-- the lines of the next slot with all to its right
grown_lines : (s : SlotStep) (g : FeatureParts) (b b' a' : ℕ) (d : ℕ) (row : Runs) →
    lines_of d (grown s g b b' a' row) ≡ (line d g ∷ lines_between s d b b') ++ (lines_of (rise s + d) row ++ lines_behind s d a')
grown_lines NextTo g b b' a' d row =
    ap (λ l. line d g ∷ l) (plain_lines d (b - suc b') row
    ∙ ap (λ (n : ℕ). plain_line d n ++ lines_of d row) (let e : b - suc b' ≡ b - (b' + 1) = omega arith in e)
    ∙ ap (λ l. plain_line d (b - (b' + 1)) ++ l) (sym (append-nil (lines_of d row)) ∙ ap (λ (n : ℕ). lines_of n row ++ []) (let e : d ≡ 0 + d = omega arith in e)))
grown_lines Further g b b' a' d row =
    ap (λ l. line d g ∷ l) (plain_lines d (b - suc b') row
    ∙ ap (λ (n : ℕ). plain_line d n ++ lines_of d row) (let e : b - suc b' ≡ b - (b' + 1) = omega arith in e)
    ∙ ap (λ l. plain_line d (b - (b' + 1)) ++ l) (sym (append-nil (lines_of d row)) ∙ ap (λ (n : ℕ). lines_of n row ++ []) (let e : d ≡ 0 + d = omega arith in e)))
grown_lines UpOne g b b' a' d row =
    ap (λ l. line d g ∷ l) (ap (λ l. lines_of (suc d) (plain_runs b row) ++ l) (plain_alone d a')
    ∙ ap (λ (n : ℕ). lines_of n (plain_runs b row) ++ plain_line d a') (let e : suc d ≡ d + 1 = omega arith in e)
    ∙ ap (λ l. l ++ plain_line d a') (plain_lines (d + 1) b row)
    ∙ append_assoc (plain_line (d + 1) b) (lines_of (d + 1) row) (plain_line d a')
    ∙ ap (λ (n : ℕ). plain_line (d + 1) b ++ (lines_of n row ++ plain_line d a')) (let e : d + 1 ≡ 1 + d = omega arith in e))
grown_lines UpMore g b b' a' d row =
    ap (λ l. line d g ∷ l) (ap (λ l. lines_of (suc d) (run 1 plain (plain_runs b row) done) ++ l) (plain_alone d a')
    ∙ ap (λ (n : ℕ). lines_of n (run 1 plain (plain_runs b row) done) ++ plain_line d a') (let e : suc d ≡ d + 1 = omega arith in e)
    ∙ ap (λ l. line (d + 1) plain ∷ (l ++ plain_line d a')) (append-nil (lines_of (suc (d + 1)) (plain_runs b row))
    ∙ ap (λ (n : ℕ). lines_of n (plain_runs b row)) (let e : suc (d + 1) ≡ d + 2 = omega arith in e)
    ∙ plain_lines (d + 2) b row)
    ∙ ap (λ l. line (d + 1) plain ∷ l) (append_assoc (plain_line (d + 2) b) (lines_of (d + 2) row) (plain_line d a'))
    ∙ ap (λ (n : ℕ). line (d + 1) plain ∷ (plain_line (d + 2) b ++ (lines_of n row ++ plain_line d a'))) (let e : d + 2 ≡ 2 + d = omega arith in e))

-- the depth of the slot before
depth_before : (root : Bool) (s : SlotStep) (ss : List SlotStep) → rise s + depth_from root ss ≡ depth_from root (s ∷ ss)
depth_before root s ss = omega arith

depth_behind : (root : Bool) (s : SlotStep) (ss : List SlotStep) → depth_from root (s ∷ ss) - rise s ≡ depth_from root ss
depth_behind root s ss = omega arith

-- the lines of the whole tree, from a slot on
lines_from : (root : Bool) (ss : List SlotStep) (b : ℕ) (bs : List ℕ) (a : ℕ) (aa : List ℕ) (fs : List FeatureParts) (row : Runs) → CountsFit ss (b ∷ bs) (a ∷ aa) → length fs ≡ length ss →
    lines_of 0 (tree_from root ss b bs aa fs row) ≡ front_lines root ss b bs fs ++ (lines_of (depth_from root ss) row ++ back_lines (depth_from root ss) ss aa)
lines_from true [] b bs a aa fs row fit same =
    sym (append-nil (lines_of 0 row)) ∙ ap (λ (n : ℕ). lines_of n row ++ []) (let e : 0 ≡ 0 + 0 = omega arith in e)
lines_from false [] b bs a aa fs row fit same =
    ap (λ l. line 0 plain ∷ l) (append-nil (lines_of 1 (plain_runs b row)) ∙ plain_lines 1 b row ∙ ap (λ l. plain_line 1 b ++ l) (sym (append-nil (lines_of 1 row)) ∙ ap (λ (n : ℕ). lines_of n row ++ []) (let e : 1 ≡ 0 + 1 = omega arith in e)))
lines_from root (s ∷ ss) b [] a aa fs row fit same = absurd fit
lines_from root (s ∷ ss) b (b' ∷ bs) a [] fs row fit same = absurd fit
lines_from root (s ∷ ss) b (b' ∷ bs) a (a' ∷ aa) [] row fit same = absurd (omega arith)
lines_from root (s ∷ ss) b (b' ∷ bs) a (a' ∷ aa) (g ∷ fs) row fit same =
    let front = front_lines root ss b' bs fs in
    let d = depth_from root ss in
    let here = line d g ∷ lines_between s d b b' in
    let back = back_lines d ss aa in
    lines_from root ss b' bs a' aa fs (grown s g b b' a' row) fit.1 (omega arith)
    ∙ ap (λ l. front ++ (l ++ back)) (grown_lines s g b b' a' d row)
    ∙ ap (λ l. front ++ l) (append_assoc here (lines_of (rise s + d) row ++ lines_behind s d a') back ∙ ap (λ l. here ++ l) (append_assoc (lines_of (rise s + d) row) (lines_behind s d a') back))
    ∙ sym (append_assoc front here (lines_of (rise s + d) row ++ (lines_behind s d a' ++ back)))
    ∙ ap (λ (n : ℕ). (front ++ here) ++ (lines_of n row ++ (lines_behind s d a' ++ back))) (depth_before root s ss)
    ∙ ap (λ (n : ℕ). (front ++ here) ++ (lines_of (depth_from root (s ∷ ss)) row ++ (lines_behind s n a' ++ back_lines n ss aa))) (sym (depth_behind root s ss))

-- the number of the marked line
count_plain : (d n m : ℕ) → behind_plain n m ≡ length (plain_line d n) + m
count_plain d zero m = let e : m ≡ 0 + m = omega arith in e
count_plain d (suc n) m = omega arith

count_between : (s : SlotStep) (d b b' : ℕ) → length (lines_between s d b b') ≤ 2
count_between NextTo d b b' = count_small d (b - (b' + 1))
  where
    count_small : (d n : ℕ) → length (plain_line d n) ≤ 2
    count_small d zero = omega arith
    count_small d (suc n) = omega arith
count_between Further d b b' = count_small d (b - (b' + 1))
  where
    count_small : (d n : ℕ) → length (plain_line d n) ≤ 2
    count_small d zero = omega arith
    count_small d (suc n) = omega arith
count_between UpOne d zero b' = omega arith
count_between UpOne d (suc b) b' = omega arith
count_between UpMore d zero b' = omega arith
count_between UpMore d (suc b) b' = omega arith

marked_from : (root : Bool) (ss : List SlotStep) (b : ℕ) (bs : List ℕ) (a : ℕ) (aa : List ℕ) (fs : List FeatureParts) (m : ℕ) → CountsFit ss (b ∷ bs) (a ∷ aa) → length fs ≡ length ss →
    line_from root ss b bs m ≡ length (front_lines root ss b bs fs) + m
marked_from true [] b bs a aa fs m fit same = let e : m ≡ 0 + m = omega arith in e
marked_from false [] b bs a aa fs m fit same = let c = count_plain 1 b m in omega arith
marked_from root (s ∷ ss) b [] a aa fs m fit same = absurd fit
marked_from root (s ∷ ss) b (b' ∷ bs) a [] fs m fit same = absurd fit
marked_from root (s ∷ ss) b (b' ∷ bs) a (a' ∷ aa) [] m fit same = absurd (omega arith)
marked_from root (NextTo ∷ ss) b (b' ∷ bs) a (a' ∷ aa) (g ∷ fs) m fit same =
    let d = depth_from root ss in
    let ih = marked_from root ss b' bs a' aa fs (suc (behind_plain (b - suc b') m)) fit.1 (omega arith) in
    let c = count_plain d (b - suc b') m in
    let l = length-append (front_lines root ss b' bs fs) (line d g ∷ plain_line d (b - (b' + 1))) in
    let e : length (plain_line d (b - suc b')) ≡ length (plain_line d (b - (b' + 1))) = ap (λ (n : ℕ). length (plain_line d n)) (let e : b - suc b' ≡ b - (b' + 1) = omega arith in e) in
    omega arith
marked_from root (Further ∷ ss) b (b' ∷ bs) a (a' ∷ aa) (g ∷ fs) m fit same =
    let d = depth_from root ss in
    let ih = marked_from root ss b' bs a' aa fs (suc (behind_plain (b - suc b') m)) fit.1 (omega arith) in
    let c = count_plain d (b - suc b') m in
    let l = length-append (front_lines root ss b' bs fs) (line d g ∷ plain_line d (b - (b' + 1))) in
    let e : length (plain_line d (b - suc b')) ≡ length (plain_line d (b - (b' + 1))) = ap (λ (n : ℕ). length (plain_line d n)) (let e : b - suc b' ≡ b - (b' + 1) = omega arith in e) in
    omega arith
marked_from root (UpOne ∷ ss) b (b' ∷ bs) a (a' ∷ aa) (g ∷ fs) m fit same =
    let d = depth_from root ss in
    let ih = marked_from root ss b' bs a' aa fs (suc (behind_plain b m)) fit.1 (omega arith) in
    let c = count_plain (d + 1) b m in
    let l = length-append (front_lines root ss b' bs fs) (line d g ∷ plain_line (d + 1) b) in
    omega arith
marked_from root (UpMore ∷ ss) b (b' ∷ bs) a (a' ∷ aa) (g ∷ fs) m fit same =
    let d = depth_from root ss in
    let ih = marked_from root ss b' bs a' aa fs (suc (suc (behind_plain b m))) fit.1 (omega arith) in
    let c = count_plain (d + 2) b m in
    let l = length-append (front_lines root ss b' bs fs) (line d g ∷ (line (d + 1) plain ∷ plain_line (d + 2) b)) in
    omega arith

-- the lines in front of slot 0 are few
pub front_short : (root : Bool) (ss : List SlotStep) (b : ℕ) (bs : List ℕ) (fs : List FeatureParts) → length ss < 2 ^ 16 → length (front_lines root ss b bs fs) < 2 ^ 32
front_short root ss b bs fs few = let h = short root ss b bs fs in omega arith
  where
    top : (root : Bool) (b : ℕ) → length (top_lines root b) ≤ 2
    top true b = omega arith
    top false zero = omega arith
    top false (suc b) = omega arith

    short : (root : Bool) (ss : List SlotStep) (b : ℕ) (bs : List ℕ) (fs : List FeatureParts) → length (front_lines root ss b bs fs) ≤ 3 * length ss + 2
    short root [] b bs fs = top root b
    short root (s ∷ ss) b [] fs = omega arith
    short root (s ∷ ss) b (b' ∷ bs) [] = omega arith
    short root (s ∷ ss) b (b' ∷ bs) (f ∷ fs) =
        let ih = short root ss b' bs fs in
        let c = count_between s (depth_from root ss) b b' in
        let l = length-append (front_lines root ss b' bs fs) (line (depth_from root ss) f ∷ lines_between s (depth_from root ss) b b') in
        omega arith

-- what the counts of a shape say of its first slot, and of the others
falls : (s : SlotStep) (b b' a a' : ℕ) → StepCounts s b b' a a' → Falls s b b'
falls NextTo b b' a a' (is-b, is-a) = omega arith
falls Further b b' a a' (gap, some, is-b, is-a) = omega arith
falls UpOne b b' a a' step = tt
falls UpMore b b' a a' step = tt

pub counts_fall : (ss : List SlotStep) (b : ℕ) (bs aa : List ℕ) → CountsFit ss (b ∷ bs) aa → AllFall ss b bs
counts_fall [] b bs aa fit = tt
counts_fall (s ∷ ss) b [] aa fit = absurd fit
counts_fall (s ∷ ss) b (b' ∷ bs) [] fit = absurd fit
counts_fall (s ∷ ss) b (b' ∷ bs) (a ∷ []) fit = absurd fit
counts_fall (s ∷ ss) b (b' ∷ bs) (a ∷ a' ∷ aa) fit = (falls s b b' a a' fit.0, counts_fall ss b' bs (a' ∷ aa) fit.1)

pub counts_some : (ss : List SlotStep) (before after : List ℕ) → CountsFit ss before after → (0 < length before) × (0 < length after)
counts_some [] (b ∷ []) (a ∷ []) fit = (omega arith, omega arith)
counts_some [] [] aa fit = absurd fit
counts_some [] (b ∷ []) [] fit = absurd fit
counts_some [] (b ∷ []) (a ∷ a' ∷ aa) fit = absurd fit
counts_some [] (b ∷ b' ∷ bs) aa fit = absurd fit
counts_some (s ∷ ss) [] aa fit = absurd fit
counts_some (s ∷ ss) (b ∷ []) aa fit = absurd fit
counts_some (s ∷ ss) (b ∷ b' ∷ bs) [] fit = absurd fit
counts_some (s ∷ ss) (b ∷ b' ∷ bs) (a ∷ []) fit = absurd fit
counts_some (s ∷ ss) (b ∷ b' ∷ bs) (a ∷ a' ∷ aa) fit = (omega arith, omega arith)

-- the lines and the marked line of a shape
pub lines_are : (root : Bool) (ss : List SlotStep) (b : ℕ) (bs : List ℕ) (a : ℕ) (aa : List ℕ) (f : FeatureParts) (fs : List FeatureParts) → CountsFit ss (b ∷ bs) (a ∷ aa) → length fs ≡ length ss →
    (((front_lines root ss b bs fs ++ line (depth_from root ss) f ∷ []) ++ plain_line (depth_from root ss) a) ++ back_lines (depth_from root ss) ss aa) ≡ lines_of 0 (tree_with root ss (b ∷ bs) (a ∷ aa) (f ∷ fs))
lines_are root ss b bs a aa f fs fit same =
    let front = front_lines root ss b bs fs in
    let d = depth_from root ss in
    let back = back_lines d ss aa in
    ap (λ l. l ++ back) (append_assoc front (line d f ∷ []) (plain_line d a))
    ∙ append_assoc front (line d f ∷ plain_line d a) back
    ∙ sym (lines_from root ss b bs a aa fs (run 1 f done (plain_runs a done)) fit same ∙ ap (λ l. front ++ (line d f ∷ (l ++ back))) (plain_alone d a))

pub marked_is : (root : Bool) (ss : List SlotStep) (b : ℕ) (bs : List ℕ) (a : ℕ) (aa : List ℕ) (fs : List FeatureParts) → CountsFit ss (b ∷ bs) (a ∷ aa) → length fs ≡ length ss →
    length (front_lines root ss b bs fs) ≡ line_from root ss b bs 0
marked_is root ss b bs a aa fs fit same = let m = marked_from root ss b bs a aa fs 0 fit same in omega arith

-- what is written, line by line
pub written_is : (root : Bool) (ss : List SlotStep) (b : ℕ) (bs : List ℕ) (a : ℕ) (aa : List ℕ) (f : FeatureParts) (fs : List FeatureParts) (l0 l1 l2 l3 l4 : List RunLine) (d : ℕ) (g : FeatureParts) → CountsFit ss (b ∷ bs) (a ∷ aa) → length fs ≡ length ss →
    l0 ≡ [] → l1 ≡ l0 ++ front_lines root ss b bs fs → d ≡ depth_from root ss → g ≡ f → l2 ≡ l1 ++ line d g ∷ [] → l3 ≡ l2 ++ plain_line d a → l4 ≡ l3 ++ back_lines d ss aa →
    l4 ≡ lines_of 0 (tree_with root ss (b ∷ bs) (a ∷ aa) (f ∷ fs))
written_is root ss b bs a aa f fs l0 l1 l2 l3 l4 d g fit same e0 e1 ed eg e2 e3 e4 =
    e4
    ∙ ap (λ l. l ++ back_lines d ss aa) (e3 ∙ ap (λ l. l ++ plain_line d a) (e2 ∙ ap (λ l. l ++ line d g ∷ []) (e1 ∙ ap (λ l. l ++ front_lines root ss b bs fs) e0)))
    ∙ ap (λ (n : ℕ). ((front_lines root ss b bs fs ++ line n g ∷ []) ++ plain_line n a) ++ back_lines n ss aa) ed
    ∙ ap (λ h. ((front_lines root ss b bs fs ++ line (depth_from root ss) h ∷ []) ++ plain_line (depth_from root ss) a) ++ back_lines (depth_from root ss) ss aa) eg
    ∙ lines_are root ss b bs a aa f fs fit same
