-- What is left to do of a loop.
use Rattle.std.proofs.Common.{◌≡◌, ℕ, zero, suc, ◌+◌, ◌<◌, ◌≤◌, List, length, refl, ap, ◌∙◌, arith, Some, None}
use Rattle.jn_trees.specs.declared.token.TokenKind.{TokenKind}
use Rattle.jn_trees.specs.Trees.{Tree, Trees}
use Rattle.jn_trees.specs.Longest.{Try}
use Rattle.jn_parse_expr_law.specs.Reader.{Got, TryAll, iterate, items_from}
use Rattle.jn_parse_expr.specs.Steps.{prepend}

-- n steps more from here give the answer, and n is enough
pub record Going (step : Tree → List TokenKind → Try) (D deep : ℕ) (got : Got) (o : Try) : Type 0 where
  pub n : ℕ
  pub room : D ≤ n + deep
  pub gives : o ≡ Some (iterate step n got)

pub record GoingAll (one : List TokenKind → Try) (before : Trees) (left : List TokenKind) (o : TryAll) : Type 0 where
  pub n : ℕ
  pub room : length left < n
  pub gives : o ≡ prepend before (items_from one n left)

stop_by : (step : Tree → List TokenKind → Try) (got : Got) → step got.0 got.1 ≡ None → (n : ℕ) → ◌≡◌ {A = Try} (Some (iterate step n got)) (Some got)
stop_by step got e zero = refl
stop_by step got e (suc n) = ap (λ (p : Try). Some (elim p as (λ _. Got) [ None ↦ got | Some q ↦ iterate step n q ])) e

pub stopped : (step : Tree → List TokenKind → Try) (D deep : ℕ) (got : Got) (o : Try) → Going step D deep got o → step got.0 got.1 ≡ None → o ≡ Some got
stopped step D deep got o g e = g.gives ∙ stop_by step got e g.n

went_by : (step : Tree → List TokenKind → Try) (D deep more : ℕ) (got q : Got) (o : Try) (n : ℕ) → D ≤ n + deep → o ≡ Some (iterate step n got) → step got.0 got.1 ≡ Some q → deep < D → deep < more → Going step D more q o
went_by step D deep more got q o zero room gives e fits lt = absurd (omega (arith, room, fits))
went_by step D deep more got q o (suc n) room gives e fits lt =
    record { n = n; room = omega (arith, room, lt); gives = gives ∙ ap (λ (p : Try). Some (elim p as (λ _. Got) [ None ↦ got | Some x ↦ iterate step n x ])) e }

pub went : (step : Tree → List TokenKind → Try) (D deep more : ℕ) (got q : Got) (o : Try) → Going step D deep got o → step got.0 got.1 ≡ Some q → deep < D → deep < more → Going step D more q o
went step D deep more got q o g e fits lt = went_by step D deep more got q o g.n g.room g.gives e fits lt
