-- Rows are gathered one after the other.
use Rattle.std.proofs.Common.{ℕ, zero, suc, ◌+◌, ◌≡◌, ◌<◌, ◌⊎◌, inl, inr, Bool, true, false, cond, Option, List, [], ◌∷◌, ◌++◌, refl, sym, ap, ◌∙◌, subst, arith, append_assoc, Contains}
use Rattle.std.proofs.lemmas.List.Elements.{Contains-append_left, Contains-append_right, Contains-append_cases}
use Rattle.jn_base.specs.declared.place.Row.{Row}
use Rattle.jn_points.specs.declared.point.Operand.{Operand}
use Rattle.jn_points.specs.declared.program.Program.{Program}
use Rattle.jn_points.specs.Operands.{operand_if}
use Rattle.jn_basecheck.specs.declared.operands.Operands.{Operands}
use Rattle.jn_basecheck.specs.Listed.{listed}
use Rattle.jn_basecheck.specs.Rows.{Adds, Among, is_unassigned, readings}

pub adds_none : (Q : Row → Type 0) (xs : List Row) → ((row : Row) → Q row → ⊥) → Adds Q xs xs
adds_none Q xs none row = (λ h. inl h, λ h. elim h [ inl old ↦ old | inr q ↦ absurd (none row q) ])

pub adds_list : (Q : Row → Type 0) (old new xs : List Row) → new ≡ old ++ xs → ((row : Row) → Contains xs row → Q row) → ((row : Row) → Q row → Contains xs row) → Adds Q old new
adds_list Q old new xs is meant all row = (
  λ h. elim (Contains-append_cases old xs row (subst (λ ys. Contains ys row) is h)) [ inl o ↦ inl o | inr m ↦ inr (meant row m) ],
  λ h. subst (λ ys. Contains ys row) (sym is) (elim h [ inl o ↦ Contains-append_left old xs row o | inr q ↦ Contains-append_right old xs row (all row q) ]),
)

pub adds_then : (Q R : Row → Type 0) (old mid new : List Row) → Adds Q old mid → Adds R mid new → Adds (λ row. Q row ⊎ R row) old new
adds_then Q R old mid new first second row = (
  λ h. elim ((second row).0 h) [
    | inl m ↦ elim ((first row).0 m) [ inl o ↦ inl o | inr q ↦ inr (inl q) ]
    | inr r ↦ inr (inr r)
  ],
  λ h. (second row).1 (elim h [
    | inl o ↦ inl ((first row).1 (inl o))
    | inr e ↦ elim e [ inl q ↦ inl ((first row).1 (inr q)) | inr r ↦ inr r ]
  ]),
)

pub adds_zero : (F : ℕ → Row → Type 0) (xs : List Row) → Adds (Among F 0) xs xs
adds_zero F xs = adds_none (Among F 0) xs (λ row q. let lt : q.0 < 0 = q.1 in omega arith)

among_more : (F : ℕ → Row → Type 0) (n : ℕ) (row : Row) → Among F n row ⊎ F n row → Among F (n + 1) row
among_more F n row (inl q) = let lt : q.0 < n = q.1 in (q.0, omega arith, q.2)
among_more F n row (inr q) = (n, omega arith, q)

pub last_or : (k n : ℕ) → k < n + 1 → (k < n) ⊎ (k ≡ n)
last_or zero zero lt = inr refl
last_or zero (suc n) lt = inl (omega arith)
last_or (suc k) zero lt = absurd (omega arith)
last_or (suc k) (suc n) lt = elim (last_or k n (omega arith)) [ inl h ↦ inl (omega arith) | inr h ↦ inr (ap suc h) ]

among_fewer : (F : ℕ → Row → Type 0) (n : ℕ) (row : Row) → Among F (n + 1) row → Among F n row ⊎ F n row
among_fewer F n row q = elim (last_or q.0 n q.1) [
  | inl lt ↦ inl (q.0, lt, q.2)
  | inr same ↦ inr (subst (λ k. F k row) same q.2)
]

pub adds_more : (F : ℕ → Row → Type 0) (old mid new : List Row) (n : ℕ) → Adds (Among F n) old mid → Adds (F n) mid new → Adds (Among F (n + 1)) old new
adds_more F old mid new n first second row =
    let both = adds_then (Among F n) (F n) old mid new first second row in (
      λ h. elim (both.0 h) [ inl o ↦ inl o | inr q ↦ inr (among_more F n row q) ],
      λ h. both.1 (elim h [ inl o ↦ inl o | inr q ↦ inr (among_fewer F n row q) ]),
    )

with_first : (a : Bool) (row : Row) (xs ys : List Row) → cond a (row ∷ (xs ++ ys)) (xs ++ ys) ≡ cond a (row ∷ xs) xs ++ ys
with_first true row xs ys = refl
with_first false row xs ys = refl

pub readings_append : (P : Program) (b : ℕ) (lacks : Option (List Bool)) (xs ys : List Operand) → readings P b lacks (xs ++ ys) ≡ readings P b lacks xs ++ readings P b lacks ys
readings_append P b lacks [] ys = refl
readings_append P b lacks (x ∷ xs) ys = rw (readings_append P b lacks xs ys) (with_first (is_unassigned P b lacks x.reg.0) _ (readings P b lacks xs) (readings P b lacks ys))

-- the operands of a point one after the other
pub readings_listed : (P : Program) (b : ℕ) (lacks : Option (List Bool)) (o : Operands) (old one two three new : List Row) → one ≡ old ++ readings P b lacks (operand_if o.first) → two ≡ one ++ readings P b lacks (operand_if o.second) → three ≡ two ++ readings P b lacks (operand_if o.third) → new ≡ three ++ readings P b lacks o.rest.now → new ≡ old ++ readings P b lacks (listed o)
readings_listed P b lacks o old one two three new first second third rest =
    let R : List Operand → List Row = λ xs. readings P b lacks xs in
    let a = R (operand_if o.first) in
    let e = R (operand_if o.second) in
    let f = R (operand_if o.third) in
    let g = R o.rest.now in
    rest
    ∙ ap (λ z. z ++ g) (third ∙ ap (λ z. z ++ f) (second ∙ ap (λ z. z ++ e) first))
    ∙ append_assoc ((old ++ a) ++ e) f g
    ∙ append_assoc (old ++ a) e (f ++ g)
    ∙ append_assoc old a (e ++ (f ++ g))
    ∙ ap (λ z. old ++ (a ++ (e ++ z))) (sym (readings_append P b lacks (operand_if o.third) o.rest.now))
    ∙ ap (λ z. old ++ (a ++ z)) (sym (readings_append P b lacks (operand_if o.second) (operand_if o.third ++ o.rest.now)))
    ∙ ap (λ z. old ++ z) (sym (readings_append P b lacks (operand_if o.first) (operand_if o.second ++ (operand_if o.third ++ o.rest.now))))
