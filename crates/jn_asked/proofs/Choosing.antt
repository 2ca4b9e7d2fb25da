-- The first of a list with a name.
use Rattle.std.proofs.Common.{◌≡◌, ℕ, Bool, true, false, List, [], ◌∷◌, ◌++◌, map, Option, Some, None, refl, sym, ap, ◌∙◌, append_assoc}
use Rattle.std.specs.Prelude.{if◌then◌else◌}
use Rattle.std.specs.Str.{bytes_eq}
use Rattle.jn_command.specs.Reporters.{first_named}
use Rattle.jn_reporters.specs.Forms.{Form}

none_picked : (b : Bool) (form : Form) (rest : Option Form) → (if b then Some form else rest) ≡ None → (b ≡ false) × (rest ≡ None)
none_picked true form rest e = absurd (no_some e)
  where
    no_some : Some form ≡ None → ⊥
    no_some e = cc
none_picked false form rest e = (refl, e)

module _ {X : Type 0} (form : X → Form) (name : List ℕ) where
  named_next : (before : List X) (x : X) (behind : List X) → first_named name (map form before) ≡ None → bytes_eq (form x).title name ≡ true → first_named name (map form (before ++ x ∷ behind)) ≡ Some (form x)
  named_next [] x behind none is = ap (λ b. if b then Some (form x) else first_named name (map form behind)) is
  named_next (y ∷ ys) x behind none is =
      let other = none_picked (bytes_eq (form y).title name) (form y) (first_named name (map form ys)) none in
      ap (λ b. if b then Some (form y) else first_named name (map form (ys ++ x ∷ behind))) other.0 ∙ named_next ys x behind other.1 is

  not_next : (before : List X) (x : X) → first_named name (map form before) ≡ None → bytes_eq (form x).title name ≡ false → first_named name (map form (before ++ x ∷ [])) ≡ None
  not_next [] x none is = ap (λ b. if b then Some (form x) else None) is
  not_next (y ∷ ys) x none is =
      let other = none_picked (bytes_eq (form y).title name) (form y) (first_named name (map form ys)) none in
      ap (λ b. if b then Some (form y) else first_named name (map form (ys ++ x ∷ []))) other.0 ∙ not_next ys x other.1 is

  pub named_here : (all before rest behind : List X) (x : X) → before ++ rest ≡ all → rest ≡ x ∷ behind → first_named name (map form before) ≡ None → bytes_eq (form x).title name ≡ true → first_named name (map form all) ≡ Some (form x)
  named_here all before rest behind x whole next none is =
      ap (λ xs. first_named name (map form xs)) (sym whole ∙ ap (λ xs. before ++ xs) next) ∙ named_next before x behind none is

  pub not_here : (all before rest behind : List X) (x : X) → before ++ rest ≡ all → rest ≡ x ∷ behind → first_named name (map form before) ≡ None → bytes_eq (form x).title name ≡ false → ((before ++ x ∷ []) ++ behind ≡ all) × (first_named name (map form (before ++ x ∷ [])) ≡ None)
  not_here all before rest behind x whole next none is =
      (append_assoc before (x ∷ []) behind ∙ sym (ap (λ xs. before ++ xs) next) ∙ whole, not_next before x none is)
