-- Kinds in their order, and steps by their kind and numbers.
use Rattle.std.proofs.Common.{◌≡◌, ℕ, ◌<◌, [], ◌∷◌, refl, arith}
use Rattle.std.specs.declared.cmp.Ordering.{Ordering}
use Rattle.std.specs.Ordering.{nat_cmp}
use Rattle.step_kinds.specs.contracts.kind.KindOrd.TheImpl as kind_ord
use Rattle.step_kinds.specs.declared.kind.Kind.{Kind}
use Rattle.step_kinds.specs.declared.kind.Kind.TheVariants.{DeclCut, SelCut, SelJoinUp, SelJoinDown, DeclJoinUp, DeclJoinDown, Sharing}
use Rattle.step_kinds.specs.StepsByKind.{step_of_kind, kind_of, second_of, kind_number}
use Rattle.step_laws.specs.declared.step.Step.{Step}
use Rattle.step_laws.specs.declared.step.Step.TheVariants.{CutDecl, CutSel, JoinSelUp, JoinSelDown, JoinDeclUp, JoinDeclDown, Share}
use Rattle.step_laws.specs.Steps.{first_item, rank}

-- ---- The order

abbrev pub kind_cmp : Kind → Kind → Ordering
kind_cmp = (kind_ord.ghosts).cmp

pub kinds_compare : (a b : Kind) → kind_cmp a b ≡ nat_cmp (kind_number a) (kind_number b)
kinds_compare DeclCut DeclCut = refl
kinds_compare SelCut SelCut = refl
kinds_compare SelJoinUp SelJoinUp = refl
kinds_compare SelJoinDown SelJoinDown = refl
kinds_compare DeclJoinUp DeclJoinUp = refl
kinds_compare DeclJoinDown DeclJoinDown = refl
kinds_compare Sharing Sharing = refl
kinds_compare a b = refl

pub same_kind : (a b : Kind) → kind_number a ≡ kind_number b → a ≡ b
same_kind DeclCut DeclCut e = refl
same_kind SelCut SelCut e = refl
same_kind SelJoinUp SelJoinUp e = refl
same_kind SelJoinDown SelJoinDown e = refl
same_kind DeclJoinUp DeclJoinUp e = refl
same_kind DeclJoinDown DeclJoinDown e = refl
same_kind Sharing Sharing e = refl
same_kind a b e = absurd (omega (arith, e))

pub few_kinds : (kind : Kind) → kind_number kind < 7
few_kinds DeclCut = omega arith
few_kinds SelCut = omega arith
few_kinds SelJoinUp = omega arith
few_kinds SelJoinDown = omega arith
few_kinds DeclJoinUp = omega arith
few_kinds DeclJoinDown = omega arith
few_kinds Sharing = omega arith

-- ---- Steps by their kind and numbers

pub rank_of : (kind : Kind) (x y : ℕ) → rank (step_of_kind kind x y) ≡ kind_number kind ∷ x ∷ y ∷ []
rank_of DeclCut x y = refl
rank_of SelCut x y = refl
rank_of SelJoinUp x y = refl
rank_of SelJoinDown x y = refl
rank_of DeclJoinUp x y = refl
rank_of DeclJoinDown x y = refl
rank_of Sharing x y = refl

pub rank_is : (k : Step) → rank k ≡ kind_number (kind_of k) ∷ first_item k ∷ second_of k ∷ []
rank_is (CutDecl n i) = refl
rank_is (CutSel n i) = refl
rank_is (JoinSelUp x y) = refl
rank_is (JoinSelDown x y) = refl
rank_is (JoinDeclUp x y) = refl
rank_is (JoinDeclDown x y) = refl
rank_is (Share x y) = refl

pub made_of : (k : Step) → k ≡ step_of_kind (kind_of k) (first_item k) (second_of k)
made_of (CutDecl n i) = refl
made_of (CutSel n i) = refl
made_of (JoinSelUp x y) = refl
made_of (JoinSelDown x y) = refl
made_of (JoinDeclUp x y) = refl
made_of (JoinDeclDown x y) = refl
made_of (Share x y) = refl

pub kind_is : (kind : Kind) (x y : ℕ) → kind_of (step_of_kind kind x y) ≡ kind
kind_is DeclCut x y = refl
kind_is SelCut x y = refl
kind_is SelJoinUp x y = refl
kind_is SelJoinDown x y = refl
kind_is DeclJoinUp x y = refl
kind_is DeclJoinDown x y = refl
kind_is Sharing x y = refl

pub first_is : (kind : Kind) (x y : ℕ) → first_item (step_of_kind kind x y) ≡ x
first_is DeclCut x y = refl
first_is SelCut x y = refl
first_is SelJoinUp x y = refl
first_is SelJoinDown x y = refl
first_is DeclJoinUp x y = refl
first_is DeclJoinDown x y = refl
first_is Sharing x y = refl

pub second_is : (kind : Kind) (x y : ℕ) → second_of (step_of_kind kind x y) ≡ y
second_is DeclCut x y = refl
second_is SelCut x y = refl
second_is SelJoinUp x y = refl
second_is SelJoinDown x y = refl
second_is DeclJoinUp x y = refl
second_is DeclJoinDown x y = refl
second_is Sharing x y = refl
