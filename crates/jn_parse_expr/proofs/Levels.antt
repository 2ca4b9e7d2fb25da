-- From the operators of one power to those of the next.
use Rattle.std.proofs.Common.{◌≡◌, ℕ, zero, suc, ◌+◌, ◌-◌, ◌<◌, ◌≤◌, List, [], ◌∷◌, refl, ap, ◌∙◌, subst, arith, Some, None, Bool, true, false, cond, nat_eq, nat_lt}
use Rattle.std.proofs.lemmas.Bool.{ne_eqb, eqb-true, eqb-false}
use Rattle.jn_trees.specs.declared.token.TokenKind.{TokenKind}
use Rattle.jn_trees.specs.Trees.{Tree, BinaryTree}
use Rattle.jn_trees.specs.WellFormed.{nesting, power, relational}
use Rattle.jn_trees.specs.Longest.{Try}
use Rattle.jn_parse_expr_law.specs.Reader.{Got, Reader, Sign, NoSign, OperatorSign, TestSign, sign, build, test, grow, grow_by, go_on, iterate, unary, reader}
use Rattle.jn_parse_expr.specs.Steps.{sign_power, front_power}
use Rattle.jn_parse_expr.proofs.Going.{Going, stopped}
use Rattle.jn_parse_expr.proofs.Parts.{back}

-- what was read is an operand of power k, with some of the operators of power k + 1 after it
abbrev pub Climbing : ℕ → ℕ → Got → List TokenKind → ℕ → Type 0
Climbing d deep got ts k = Going (grow (reader (d - 1)) d k) d deep got ((reader d).operand (suc k) ts)

-- no operator of these powers goes on with what was read
abbrev pub Ended : ℕ → Got → ℕ → ℕ → Type 0
Ended d got j m = (k : ℕ) → j ≤ k → k < m → grow (reader (d - 1)) d k got.0 got.1 ≡ None

pub operand_starts : (d k : ℕ) (ts : List TokenKind) (got : Got) → 0 < d → (reader d).operand k ts ≡ Some got → (deep : ℕ) → Climbing d deep got ts k
operand_starts zero k ts got lt e deep = absurd (omega (arith, lt))
operand_starts (suc d) k ts got lt e deep = record {
  n = suc d;
  room = omega arith;
  gives = ap (λ o. go_on (grow (reader d) (suc d) k) (suc d) o) e ∙ ap (λ n. Some (iterate (grow (reader n) (suc d) k) (suc d) got)) (back d);
}

pub operand_none : (d k : ℕ) (ts : List TokenKind) → 0 < d → unary (reader (d - 1)) d ts ≡ None → (reader d).operand k ts ≡ None
operand_none zero k ts lt e = refl
operand_none (suc d) zero ts lt e = ap (λ n. unary (reader n) (suc d) ts) (back d) ∙ e
operand_none (suc d) (suc k) ts lt e = ap (λ o. go_on (grow (reader d) (suc d) k) (suc d) o) (operand_none (suc d) k ts lt e)

climb : (d deep : ℕ) (got : Got) (ts : List TokenKind) → 0 < d → (j n m : ℕ) → m ≡ n + j → Climbing d deep got ts j → Ended d got j m → Climbing d deep got ts m
climb d deep got ts lt j zero m e g h = let same : j ≡ m = omega (arith, e) in subst (λ x. Climbing d deep got ts x) same g
climb d deep got ts lt j (suc n) m e g h =
    let before = climb d deep got ts lt j n (n + j) refl g (λ k a b. h k a (omega (arith, b, e))) in
    let read = stopped (grow (reader (d - 1)) d (n + j)) d deep got ((reader d).operand (suc (n + j)) ts) before (h (n + j) (omega arith) (omega (arith, e))) in
    let same : suc (n + j) ≡ m = omega (arith, e) in
    subst (λ x. Climbing d deep got ts x) same (operand_starts d (suc (n + j)) ts got lt read deep)

pub climbs : (d deep : ℕ) (got : Got) (ts : List TokenKind) → 0 < d → (j m : ℕ) → j ≤ m → Climbing d deep got ts j → Ended d got j m → Climbing d deep got ts m
climbs d deep got ts lt j m le g h = climb d deep got ts lt j (m - j) m (omega (arith, le)) g h

pub climbed : (d deep : ℕ) (got : Got) (ts : List TokenKind) → 0 < d → (j m : ℕ) → j < m → Climbing d deep got ts j → Ended d got j m → (reader d).operand m ts ≡ Some got
climbed d deep got ts lt j zero inside g h = absurd (omega (arith, inside))
climbed d deep got ts lt j (suc m) inside g h =
    stopped (grow (reader (d - 1)) d m) d deep got ((reader d).operand (suc m) ts)
    (climbs d deep got ts lt j m (omega (arith, inside)) g (λ k a b. h k a (omega (arith, b))))
    (h m (omega (arith, inside)) (omega arith))

-- only an operator of the power that stands at the front goes on
no_other_by : (R : Reader) (k : ℕ) (l : Tree) (s : Sign) (ts : List TokenKind) → (sign_power s ≡ k + 1 → ⊥) → grow_by R k l s ts ≡ None
no_other_by R k l NoSign ts h = refl
no_other_by R k l (OperatorSign o) ts h = ap (λ (b : Bool). cond {A = Try} b (build (λ r. BinaryTree l o r) (R.operand k ts)) None) (ne_eqb (power o) (k + 1) h)
no_other_by R k l TestSign ts h = ap (λ (b : Bool). cond {A = Try} b (test l ts) None) (ne_eqb relational (k + 1) h)

no_other : (R : Reader) (d k : ℕ) (l : Tree) (ts : List TokenKind) → (front_power ts ≡ k + 1 → ⊥) → grow R d k l ts ≡ None
no_other R d k l [] h = refl
no_other R d k l (x ∷ ts) h =
    elim (nat_lt (nesting l) d) as (λ b. cond {A = Try} b (grow_by R k l (sign x) ts) None ≡ None) [ true ↦ no_other_by R k l (sign x) ts h | false ↦ refl ]

pub ended_above : (d : ℕ) (got : Got) (j m next : ℕ) → next ≡ front_power got.1 → m < next → Ended d got j m
ended_above d got j m next e lt k a b = no_other (reader (d - 1)) d k got.0 got.1 (λ h. omega (arith, e, lt, b, h))

pub ended_below : (d : ℕ) (got : Got) (j m next : ℕ) → next ≡ front_power got.1 → next ≤ j → Ended d got j m
ended_below d got j m next e le k a b = no_other (reader (d - 1)) d k got.0 got.1 (λ h. omega (arith, e, le, a, h))

pub ended_at : (d : ℕ) (got : Got) (j m next : ℕ) → next ≡ front_power got.1 → 0 < next → grow (reader (d - 1)) d (next - 1) got.0 got.1 ≡ None → Ended d got j m
ended_at d got j m next e some none k a b = here (nat_eq (next - 1) k) refl
  where
    here : (t : Bool) → nat_eq (next - 1) k ≡ t → grow (reader (d - 1)) d k got.0 got.1 ≡ None
    here true s = subst (λ x. grow (reader (d - 1)) d x got.0 got.1 ≡ None) (eqb-true (next - 1) k s) none
    here false s = no_other (reader (d - 1)) d k got.0 got.1 (λ h. eqb-false (next - 1) k s (omega (arith, e, some, h)))
