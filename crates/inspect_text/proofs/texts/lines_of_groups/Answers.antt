use Rattle.std.proofs.Common.{◌≡◌, ℕ, false, List, subst, sym}
use Rattle.std.specs.List.{All, Contains}
use Rattle.inspect_laws.specs.Entries.{Entry}
use Rattle.inspect_laws.specs.Groups.{AreFamilies, family_name, is_all}
use Rattle.inspect_text.proofs.Lines.{each_there}
use Rattle.inspect_text.proofs.texts.lines_of_groups.Goals as goal

pub group_texts-requires-clause-there : goal.group_texts-requires-clause-there
group_texts-requires-clause-there c =
    subst (λ (es : List Entry). All (λ e. is_all e ≡ false → Contains c.deref-3.result.now (family_name e)) es) (sym c.deref-2.ensures.value)
    (subst (λ (families : List (List ℕ)). All (λ e. is_all e ≡ false → Contains families (family_name e)) c.in_ok-sorted.sorted.items) (sym c.deref-3.ensures.value)
    (each_there c.args.entries.items c.in_ok-sorted.sorted.items c.in_ok-families.families.items c.in_ok-sorted.ensures
    (subst (λ (es : List Entry). AreFamilies es c.in_ok-families.families.items) c.deref.ensures.value c.in_ok-families.ensures)))
