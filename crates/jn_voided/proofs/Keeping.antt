-- Turns that are kept.
use Rattle.std.proofs.Common.{◌≡◌, ℕ, Bool, true, false, cond, List, [], Option, Some, None, refl, sym, ap, ◌∙◌, subst}
use Rattle.std.specs.Prelude.{eqb, ◌&&◌, slice_index_or}
use Rattle.std.specs.HashMap.{HashMap, get}
use Rattle.std.specs.Map.{lookup}
use Rattle.std.proofs.lemmas.Bool.{and_parts, eqb-true}
use Rattle.jn_quals.specs.Qualifier.{Qualifier}
use Rattle.jn_points.specs.declared.program.Program.{Program}
use Rattle.jn_env.specs.Keys.{Key}
use Rattle.jn_env.specs.Order.{Table}
use Rattle.jn_voided.specs.declared.search.Turned.{Turned}
use Rattle.jn_voided.specs.Kept.{AreTurned, Numbers, numbers_eq, numbers_of, turned_of}
use Rattle.jn_voided.specs.Searched.{IsTurned}

one_turned : (t u : Turned) → Some t ≡ Some u → t ≡ u
one_turned t u e = cc

never : (t : Turned) → None ≡ Some t → ⊥
never t e = cc

pub none_turned : (entries : List (Numbers × Turned)) → entries ≡ [] → (P : Program) (s : List Qualifier) (tables : List Table) → AreTurned P s tables entries
none_turned entries e P s tables b k t h = absurd (never t (sym (ap (λ (es : List (Numbers × Turned)). turned_of es b k) e) ∙ h))

record IsSame (b c : ℕ) (k l : Key) : Type 0 where
  pub body : b ≡ c
  pub key : k ≡ l

same_numbers : (b c : ℕ) (k l : Key) → numbers_eq (numbers_of b k) (numbers_of c l) ≡ true → IsSame b c k l
same_numbers b c k l h =
    let f = and_parts (eqb b c && eqb k.reg l.reg) (eqb k.field l.field) h in
    let g = and_parts (eqb b c) (eqb k.reg l.reg) f.0 in
    let r = eqb-true k.reg l.reg g.1 in
    let d = eqb-true k.field l.field f.1 in
    record { body = eqb-true b c g.0; key = λ i. record { reg = r i; field = d i } }

module _ {S : Type 0} (P : Program) (s : List Qualifier) (tables : List Table) where
  pub put_turned : (old new : HashMap Numbers Turned S) (b : ℕ) (k : Key) (t : Turned) (numbers : Numbers) → numbers ≡ numbers_of b k → AreTurned P s tables old.entries → IsTurned P s b (slice_index_or tables b []) k t
      → ((q : Numbers) → get numbers_eq new q ≡ cond (numbers_eq numbers q) (Some t) (get numbers_eq old q)) → AreTurned P s tables new.entries
  put_turned old new b k t numbers is kept this inserts c l u h = by (numbers_eq numbers (numbers_of c l)) refl
    where
      at : (o : Bool) → numbers_eq numbers (numbers_of c l) ≡ o → cond o (Some t) (turned_of old.entries c l) ≡ Some u
      at o e = ap (λ (x : Bool). cond x (Some t) (turned_of old.entries c l)) (sym e) ∙ sym (inserts (numbers_of c l)) ∙ h

      by : (o : Bool) → numbers_eq numbers (numbers_of c l) ≡ o → IsTurned P s c (slice_index_or tables c []) l u
      by true e =
          let same = same_numbers b c k l (ap (λ (n : Numbers). numbers_eq n (numbers_of c l)) (sym is) ∙ e) in
          subst (IsTurned P s c (slice_index_or tables c []) l) (one_turned t u (at true e))
          (subst (λ (n : ℕ). IsTurned P s n (slice_index_or tables n []) l t) same.body (subst (λ (x : Key). IsTurned P s b (slice_index_or tables b []) x t) same.key this))
      by false e = kept c l u (at false e)

pub got_turned : {S : Type 0} (entries : List (Numbers × Turned)) (map : HashMap Numbers Turned S) (numbers : Numbers) (b : ℕ) (k : Key) (t : Turned) → numbers ≡ numbers_of b k → map.entries ≡ entries → Some t ≡ get numbers_eq map numbers → turned_of entries b k ≡ Some t
got_turned entries map numbers b k t is e h = sym (h ∙ ap (λ (n : Numbers). lookup (numbers_eq n) map.entries) is ∙ ap (lookup (numbers_eq (numbers_of b k))) e)
