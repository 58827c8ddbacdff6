use Rattle.std.proofs.Common.{◌≡◌, ◌≤◌, ℕ, List, length, nat_le, slice_range, take, sym, ap, ap₂, ◌∙◌, subst}
use Rattle.std.specs.List.{prefix_len}
use Rattle.std.specs.List.Sorted.{IsNonDecreasingBy}
use Rattle.line_places.specs.Lines as spec
use Rattle.line_places.proofs.Beginnings.{place_is, starts_counted, starts_rise, starts_taken}
use Rattle.line_places.proofs.lines.Lines.place.Goals as goal

pub starts_up_to-count-requires : goal.starts_up_to-count-requires
starts_up_to-count-requires c =
    let text = c.args.self.now.text.now in
    subst (λ (xs : List ℕ). IsNonDecreasingBy (λ (start : ℕ). start) xs) (sym (c.deref.ensures.value ∙ c.args.self.now.starts_are)) (starts_rise (length text) 0 text)

pub returns : goal.returns
returns c =
    let text = c.args.self.now.text.now in
    let at = c.args.at in
    let all = spec.starts_within (length text) 0 text in
    let lines = c.starts_up_to-count.ensures.count ∙ ap (prefix_len (λ (start : ℕ). nat_le start at)) (c.deref.ensures.value ∙ c.args.self.now.starts_are) ∙ starts_counted at text in
    let taken = ap₂ (λ (n : ℕ) (xs : List ℕ). take n xs) lines (c.deref-2.ensures.value ∙ c.args.self.now.starts_are) ∙ starts_taken at text in
    let start = c.last_start-start.ensures ∙ ap₂ spec.last_of c.first_start.ensures taken in
    place_is _ _ _ _ lines (c.points_between.ensures.count ∙ ap (λ (s : ℕ). spec.code_points (slice_range text s at)) start)
