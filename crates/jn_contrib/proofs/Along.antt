-- Arguments, fields and points, one after another.
use Rattle.std.proofs.Common.{◌≡◌, ℕ, zero, suc, ◌+◌, ◌<◌, ◌≤◌, Bool, List, [], ◌∷◌, ◌++◌, length, drop, cond, eqb, Option, None, refl, sym, ap, ◌∙◌, add-one, append_assoc, append-nil, arith}
use Rattle.std.specs.Prelude.{slice_index_or}
use Rattle.std.proofs.lemmas.List.{at_drop_more}
use Rattle.jn_base.specs.declared.number.SlotNo.{SlotNo}
use Rattle.jn_quals.specs.Qualifier.{Qualifier}
use Rattle.jn_quals.specs.Order.{null_only}
use Rattle.jn_points.specs.declared.point.Operand.{Operand}
use Rattle.jn_points.specs.declared.point.Point.{Point}
use Rattle.jn_points.specs.declared.program.Program.{Program}
use Rattle.jn_points.specs.Lookup.{field_info}
use Rattle.jn_env.specs.Environment.{Env}
use Rattle.jn_env.specs.Order.{Table, env_in, qual_at}
use Rattle.jn_env.specs.Keys.{is_on}
use Rattle.jn_transfer.specs.Contributions.{sends, arg_sends, unset_sends, field_slot_of}
use Rattle.jn_contrib.specs.Sends.{point_sends, sends_from, slot_numbers}

-- what is sent so far, and the first of what is left
module _ {A : Type 0} where
  pub sent_more : (list more now rest left all : List A) → more ≡ list ++ now → left ≡ now ++ rest → list ++ left ≡ all → more ++ rest ≡ all
  sent_more list more now rest left all m e h = ap (λ z. z ++ rest) m ∙ append_assoc list now rest ∙ ap (λ z. list ++ z) (sym e) ∙ h

  pub sent_both : (list first more a b : List A) → first ≡ list ++ a → more ≡ first ++ b → more ≡ list ++ (a ++ b)
  sent_both list first more a b f m = m ∙ ap (λ z. z ++ b) f ∙ append_assoc list a b

module _ (P : Program) where
  no_slots : (e : Env) (args : List Operand) → arg_sends P e [] args ≡ []
  no_slots e [] = refl
  no_slots e (a ∷ args) = refl

  pub no_args : (e : Env) (slots : List (Option SlotNo)) → arg_sends P e slots [] ≡ []
  no_args e [] = refl
  no_args e (s ∷ slots) = refl

  -- a slot past the last takes nothing
  args_at : (e : Env) (slots : List (Option SlotNo)) (args : List Operand) (i : ℕ) (d : Operand) → i < length args → arg_sends P e (drop i slots) (drop i args) ≡ sends P (slice_index_or slots i None) (qual_at e (slice_index_or args i d).reg.0) ++ arg_sends P e (drop (suc i) slots) (drop (suc i) args)
  args_at e slots [] i d lt = absurd (omega (arith, lt))
  args_at e [] (a ∷ args) zero d lt = sym (no_slots e args)
  args_at e [] (a ∷ args) (suc i) d lt = no_slots e (drop i args) ∙ sym (no_slots e (drop (suc i) args))
  args_at e (s ∷ slots) (a ∷ args) zero d lt = refl
  args_at e (s ∷ slots) (a ∷ args) (suc i) d lt = args_at e slots args i d (omega (arith, lt))

  pub args_step : (e : Env) (slots : List (Option SlotNo)) (args : List Operand) (i : ℕ) (d : Operand) (list more all : List (ℕ × Qualifier)) → i < length args → more ≡ list ++ sends P (slice_index_or slots i None) (qual_at e (slice_index_or args i d).reg.0) → list ++ arg_sends P e (drop i slots) (drop i args) ≡ all → more ++ arg_sends P e (drop (i + 1) slots) (drop (i + 1) args) ≡ all
  args_step e slots args i d list more all lt m h =
      rw add-one (sent_more list more (sends P (slice_index_or slots i None) (qual_at e (slice_index_or args i d).reg.0)) (arg_sends P e (drop (suc i) slots) (drop (suc i) args)) (arg_sends P e (drop i slots) (drop i args)) all m (args_at e slots args i d lt) h)

  args_left : (e : Env) (slots : List (Option SlotNo)) (args : List Operand) (i : ℕ) → length args ≤ i → arg_sends P e (drop i slots) (drop i args) ≡ []
  args_left e slots [] zero le = no_args e slots
  args_left e slots [] (suc i) le = no_args e (drop (suc i) slots)
  args_left e slots (a ∷ args) zero le = absurd (omega (arith, le))
  args_left e [] (a ∷ args) (suc i) le = no_slots e (drop i args)
  args_left e (s ∷ slots) (a ∷ args) (suc i) le = args_left e slots args i (omega (arith, le))

  pub args_end : (e : Env) (slots : List (Option SlotNo)) (args : List Operand) (i : ℕ) (list all : List (ℕ × Qualifier)) → length args ≤ i → list ++ arg_sends P e (drop i slots) (drop i args) ≡ all → list ≡ all
  args_end e slots args i list all le h = sym (append-nil list) ∙ ap (λ z. list ++ z) (sym (args_left e slots args i le)) ∙ h

  abbrev pub unset_send : List ℕ → List Bool → ℕ → List (ℕ × Qualifier)
  unset_send keys bits f = cond (is_on (λ k. eqb k f) keys bits) [] (sends P (field_slot_of (field_info P f)) null_only)

  pub unset_step : (keys : List ℕ) (bits : List Bool) (own : List ℕ) (i d : ℕ) (list more all : List (ℕ × Qualifier)) → i < length own → more ≡ list ++ unset_send keys bits (slice_index_or own i d) → list ++ unset_sends P (drop i own) keys bits ≡ all → more ++ unset_sends P (drop (i + 1) own) keys bits ≡ all
  unset_step keys bits own i d list more all lt m h =
      sent_more list more (unset_send keys bits (slice_index_or own i d)) (unset_sends P (drop (i + 1) own) keys bits) (unset_sends P (drop i own) keys bits) all m (at_drop_more (λ fs. unset_sends P fs keys bits) own i d lt) h

  pub points_step : (b : ℕ) (points : List Point) (t : Table) (at : ℕ) (d : Point) (list more all : List (ℕ × Qualifier)) → at < length points → more ≡ list ++ point_sends P b (slice_index_or points at d) (env_in t at) → list ++ sends_from P b (drop at points) at t ≡ all → more ++ sends_from P b (drop (at + 1) points) (at + 1) t ≡ all
  points_step b points t at d list more all lt m h =
      sent_more list more (point_sends P b (slice_index_or points at d) (env_in t at)) (sends_from P b (drop (at + 1) points) (at + 1) t) (sends_from P b (drop at points) at t) all m (at_drop_more (λ pts. sends_from P b pts at t) points at d lt) h

pub slots_more : (xs : List (SlotNo × Qualifier)) (x : SlotNo × Qualifier) → slot_numbers (xs ++ x ∷ []) ≡ slot_numbers xs ++ (x.0.0, x.1) ∷ []
slots_more [] x = refl
slots_more (y ∷ xs) x = ap (λ ys. (y.0.0, y.1) ∷ ys) (slots_more xs x)
