-- The qualifiers of reference arguments, one argument after another.
use Rattle.std.proofs.Common.{◌≡◌, ℕ, zero, suc, ◌+◌, ◌<◌, ◌≤◌, ◌⊎◌, inl, inr, List, [], ◌∷◌, ◌++◌, length, drop, cond, Option, Some, None, refl, sym, ap, ◌∙◌, add-one, append_assoc, append-nil, arith}
use Rattle.std.specs.Prelude.{slice_index_or}
use Rattle.jn_base.specs.declared.number.SlotNo.{SlotNo}
use Rattle.jn_quals.specs.Qualifier.{Qualifier}
use Rattle.jn_points.specs.declared.point.Operand.{Operand}
use Rattle.jn_points.specs.Lookup.{has_slot}
use Rattle.jn_env.specs.Environment.{Env}
use Rattle.jn_env.specs.Order.{qual_at}
use Rattle.jn_base.specs.declared.number.PointNo.{PointNo}
use Rattle.jn_transfer.specs.Transfer.{ref_quals}
use Rattle.jn_transfer.specs.Covered.{numbered}

abbrev pub ref_of_slot : Env → Option SlotNo → Operand → List Qualifier
ref_of_slot e s a = cond (has_slot s) (qual_at e a.reg.0 ∷ []) []

ref_first : (e : Env) (s : Option SlotNo) (slots : List (Option SlotNo)) (a : Operand) (args : List Operand) → ref_quals e (s ∷ slots) (a ∷ args) ≡ ref_of_slot e s a ++ ref_quals e slots args
ref_first e None slots a args = refl
ref_first e (Some s) slots a args = refl

ref_at : (e : Env) (slots : List (Option SlotNo)) (args : List Operand) (i : ℕ) (s : Option SlotNo) (a : Operand) → i < length slots → i < length args → s ≡ slice_index_or slots i s → a ≡ slice_index_or args i a → ref_quals e (drop i slots) (drop i args) ≡ ref_of_slot e s a ++ ref_quals e (drop (suc i) slots) (drop (suc i) args)
ref_at e [] args i s a lt lu f g = absurd (omega (arith, lt))
ref_at e (x ∷ slots) [] i s a lt lu f g = absurd (omega (arith, lu))
ref_at e (x ∷ slots) (y ∷ args) zero s a lt lu f g = ref_first e x slots y args ∙ ap (λ z. ref_of_slot e z y ++ ref_quals e slots args) (sym f) ∙ ap (λ z. ref_of_slot e s z ++ ref_quals e slots args) (sym g)
ref_at e (x ∷ slots) (y ∷ args) (suc i) s a lt lu f g = ref_at e slots args i s a (omega (arith, lt)) (omega (arith, lu)) f g

pub ref_step : (e : Env) (slots : List (Option SlotNo)) (args : List Operand) (i : ℕ) (s : Option SlotNo) (a : Operand) (quals more all : List Qualifier) → i < length slots → i < length args → s ≡ slice_index_or slots i s → a ≡ slice_index_or args i a → more ≡ quals ++ ref_of_slot e s a → quals ++ ref_quals e (drop i slots) (drop i args) ≡ all → more ++ ref_quals e (drop (i + 1) slots) (drop (i + 1) args) ≡ all
ref_step e slots args i s a quals more all lt lu f g m h =
    rw add-one (ap (λ q. q ++ ref_quals e (drop (suc i) slots) (drop (suc i) args)) m ∙ append_assoc quals (ref_of_slot e s a) (ref_quals e (drop (suc i) slots) (drop (suc i) args)) ∙ ap (λ q. quals ++ q) (sym (ref_at e slots args i s a lt lu f g)) ∙ h)

none_left : (e : Env) (slots : List (Option SlotNo)) (args : List Operand) (i : ℕ) → (length slots ≤ i) ⊎ (length args ≤ i) → ref_quals e (drop i slots) (drop i args) ≡ []
none_left e [] args zero le = refl
none_left e [] args (suc i) le = refl
none_left e (s ∷ slots) [] zero le = refl
none_left e (s ∷ slots) [] (suc i) le = last e (drop i slots)
  where
    last : (e : Env) (slots : List (Option SlotNo)) → ref_quals e slots [] ≡ []
    last e [] = refl
    last e (s ∷ slots) = refl
none_left e (s ∷ slots) (a ∷ args) zero (inl le) = absurd (omega (arith, le))
none_left e (s ∷ slots) (a ∷ args) zero (inr le) = absurd (omega (arith, le))
none_left e (s ∷ slots) (a ∷ args) (suc i) (inl le) = none_left e slots args i (inl (omega (arith, le)))
none_left e (s ∷ slots) (a ∷ args) (suc i) (inr le) = none_left e slots args i (inr (omega (arith, le)))

pub ref_end : (e : Env) (slots : List (Option SlotNo)) (args : List Operand) (i : ℕ) (quals all : List Qualifier) → (length slots ≤ i) ⊎ (length args ≤ i) → quals ++ ref_quals e (drop i slots) (drop i args) ≡ all → quals ≡ all
ref_end e slots args i quals all le h = sym (append-nil quals) ∙ ap (λ q. quals ++ q) (sym (none_left e slots args i le)) ∙ h

-- what a read past the end would give
abbrev pub no_operand : Operand
no_operand = record { reg = record { 0 = 0 }; span = record { file = record { 0 = 0 }; from = 0; to = 0 } }

pub numbered_more : (xs : List (PointNo × Env)) (x : PointNo × Env) → numbered (xs ++ x ∷ []) ≡ numbered xs ++ (x.0.0, x.1) ∷ []
numbered_more [] x = refl
numbered_more (y ∷ xs) x = ap (λ ys. (y.0.0, y.1) ∷ ys) (numbered_more xs x)
