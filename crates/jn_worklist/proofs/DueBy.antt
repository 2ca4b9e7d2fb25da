-- For which output a body is due.
use Rattle.std.proofs.Common.{◌≡◌, ◌≢◌, ◌⊎◌, ◌↔◌, ℕ, zero, suc, ◌+◌, ◌/◌, ◌<◌, ◌≤◌, Bool, true, false, List, [], ◌∷◌, length, set, take, get_or, sym, ap, ◌∙◌, subst, ⊎_elim, arith, true≢false, get_or-set_same, get_or-set_other}
use mathlib.Core.Logic.{dite}
use native.Mathlib.Decide.{ℕ_discrete}
use Rattle.jn_base.specs.declared.number.BodyNo.{BodyNo}
use Rattle.jn_base.specs.declared.number.WordNo.{WordNo}
use Rattle.jn_worklist.specs.Plans.{Lists, IsDue, IsDueBy, IsNoneDue}
use Rattle.jn_worklist.proofs.PlanFacts.{lists_more}

-- no flag stands after the end of the flags
no_flag : (new : List Bool) (j : ℕ) → length new ≤ j → get_or new j false ≡ true → ⊥
no_flag [] j le h = true≢false (sym h)
no_flag (f ∷ new) zero le h = absurd (omega arith)
no_flag (f ∷ new) (suc j) le h = no_flag new j (omega arith) h

module _ (plan : List (List BodyNo)) (os : List (WordNo × ℕ)) where
  pub all_marked : (new : List Bool) (due : List ℕ) (i : ℕ) → length new ≤ i → ((x : ℕ) → IsDue due x → IsDueBy plan os new i x) → IsNoneDue due
  all_marked new due i le h x is = let p = h x is in no_flag new p.0 (let q = p.1 in omega arith) p.2

  -- one output more was raised, whose readers are due now
  pub due_by_more : (new : List Bool) (due after : List ℕ) (i : ℕ) (readers : List BodyNo) → i < length new → readers ≡ get_or plan (get_or os i (record { 0 = 0 }, 0)).0.0 []
      → ((x : ℕ) → IsDue after x ↔ (IsDue due x ⊎ Lists readers x)) → ((x : ℕ) → IsDue due x → IsDueBy plan os new 0 x) → (x : ℕ) → IsDue after x → IsDueBy plan os (set new i true) 0 x
  due_by_more new due after i readers inside same f h x is = ⊎_elim
      (λ was. let p = h x was in (p.0, omega arith, flag_stays p.0 p.2, p.3))
      (λ l. (i, omega arith, get_or-set_same new i true false inside, subst (λ (r : List BodyNo). Lists r x) same l))
      ((f x).0 is)
    where
      flag_stays : (j : ℕ) → get_or new j false ≡ true → get_or (set new i true) j false ≡ true
      flag_stays j e = dite (ℕ_discrete j i) (λ s. ap (λ (k : ℕ). get_or (set new i true) k false) s ∙ get_or-set_same new i true false inside) (λ ne. get_or-set_other new i j true false ne ∙ e)

  -- the readers of one output more are marked
  pub due_by_less : (new : List Bool) (due after : List ℕ) (i : ℕ) (readers : List BodyNo) → readers ≡ get_or plan (get_or os i (record { 0 = 0 }, 0)).0.0 []
      → ((x : ℕ) → IsDue after x → IsDue due x × (Lists readers x → ⊥)) → ((x : ℕ) → IsDue due x → IsDueBy plan os new i x) → (x : ℕ) → IsDue after x → IsDueBy plan os new (i + 1) x
  due_by_less new due after i readers same f h x is =
      let q = f x is in let p = h x q.0 in
      dite (ℕ_discrete p.0 i)
      (λ s. absurd (q.1 (subst (λ (r : List BodyNo). Lists r x) (sym same) (subst (λ (k : ℕ). Lists (get_or plan (get_or os k (record { 0 = 0 }, 0)).0.0 []) x) s p.3))))
      (λ ne. (p.0, let le = p.1 in omega arith, p.2, p.3))

  -- an output in which no bit was new has none that are due
  pub due_by_over : (new : List Bool) (due : List ℕ) (i : ℕ) → get_or new i false ≡ false → ((x : ℕ) → IsDue due x → IsDueBy plan os new i x) → (x : ℕ) → IsDue due x → IsDueBy plan os new (i + 1) x
  due_by_over new due i none h x is =
      let p = h x is in
      dite (ℕ_discrete p.0 i)
      (λ s. absurd (true≢false (sym p.2 ∙ (ap (λ (k : ℕ). get_or new k false) s ∙ none))))
      (λ ne. (p.0, let le = p.1 in omega arith, p.2, p.3))

-- one reader more is marked
pub readers_less : (bs : List BodyNo) (i : ℕ) (b : BodyNo) (first before after : List ℕ) → i < length bs → b ≡ get_or bs i b
    → ((x : ℕ) → IsDue before x → IsDue first x × (Lists (take i bs) x → ⊥)) → ((x : ℕ) → IsDue after x → IsDue before x × (x / 64 ≢ b.0 / 64)) → (x : ℕ) → IsDue after x → IsDue first x × (Lists (take (i + 1) bs) x → ⊥)
readers_less bs i b first before after lt at was is x due =
    let p = is x due in let q = was x p.0 in
    (q.0, λ l. ⊎_elim (λ r. q.1 r) (λ s. p.1 (ap (λ (y : ℕ). y / 64) s)) ((lists_more bs i b x lt at).0 l))
