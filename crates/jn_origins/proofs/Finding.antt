-- The causes whose sources stand are the causes that the search follows.
use Rattle.std.proofs.Common.{◌≡◌, ℕ, Bool, true, false, cond, List, [], ◌∷◌, ◌++◌, Option, Some, None, inl, inr, refl, sym, ap, ◌∙◌, subst}
use Rattle.std.specs.Prelude.{slice_index_or}
use Rattle.jn_quals.specs.Qualifier.{Qualifier}
use Rattle.jn_env.specs.Environment.{Env}
use Rattle.jn_env.specs.Order.{Table, env_in}
use Rattle.jn_reasons_law.specs.declared.item.Bit.{Bit}
use Rattle.jn_reasons_law.specs.declared.item.Item.{Item}
use Rattle.jn_reasons_law.specs.declared.item.Item.TheVariants.{AtSlot, AtRegister}
use Rattle.jn_reasons_law.specs.declared.item.Place.{Place}
use Rattle.jn_reasons_law.specs.Items.{StandsAt}
use Rattle.jn_reasons_law.specs.Chains.{IsCause}
use Rattle.jn_reasons.specs.declared.causes.Cause.{Cause}
use Rattle.jn_reasons.specs.Listed.{IsListed, cause_at, causes}
use Rattle.jn_chain.specs.Search.{Ground, IsThere, AreCauses}
use Rattle.jn_origins.specs.Standing.{has_bit, is_there, standing}
use Rattle.jn_origins.specs.Targets.{AreSame}

-- the test says what stands
stands_at : (T : Table) (p r : ℕ) (bit : Bit) (o : Option Env) → env_in T p ≡ o → has_bit o r bit ≡ true → StandsAt T p r bit
stands_at T p r bit None is h = cc
stands_at T p r bit (Some e) is h = record { env = e; reached = is; has = h }

tested : (G : Ground) (z : Option Item) → IsThere G z → is_there G.sig G.tables z ≡ true
tested G None h = refl
tested G (Some (AtSlot k bit)) h = h
tested G (Some (AtRegister b p r bit)) h = ap (λ (o : Option Env). has_bit o r bit) h.reached ∙ h.has

holds : (G : Ground) (z : Option Item) → is_there G.sig G.tables z ≡ true → IsThere G z
holds G None h = tt
holds G (Some (AtSlot k bit)) h = h
holds G (Some (AtRegister b p r bit)) h = stands_at (slice_index_or G.tables b []) p r bit (env_in (slice_index_or G.tables b []) p) refl h

-- of a list its causes that are there
keep : (t : Bool) (c x : Cause) (rest : List Cause) → t ≡ true → c ≡ x → IsListed c (cond t (x ∷ []) [] ++ rest)
keep true c x rest is e = inl e
keep false c x rest is e = cc

skip : (t : Bool) (c x : Cause) (rest : List Cause) → IsListed c rest → IsListed c (cond t (x ∷ []) [] ++ rest)
skip true c x rest h = inr h
skip false c x rest h = h

module _ (s : List Qualifier) (tables : List Table) where
  kept : (c : Cause) (xs : List Cause) → is_there s tables c.source ≡ true → IsListed c xs → IsListed c (standing s tables xs)
  kept c [] t h = absurd h
  kept c (x ∷ xs) t (inl e) = keep (is_there s tables x.source) c x (standing s tables xs) (ap (λ (y : Cause). is_there s tables y.source) (sym e) ∙ t) e
  kept c (x ∷ xs) t (inr h) = skip (is_there s tables x.source) c x (standing s tables xs) (kept c xs t h)

  record IsKept (c : Cause) (xs : List Cause) : Type 0 where
    pub listed : IsListed c xs
    pub there : is_there s tables c.source ≡ true

  from : (c : Cause) (xs : List Cause) → IsListed c (standing s tables xs) → IsKept c xs
  from c [] h = absurd h
  from c (x ∷ xs) h = split (is_there s tables x.source) refl (from c xs) h
    where
      later : IsKept c xs → IsKept c (x ∷ xs)
      later k = record { listed = inr k.listed; there = k.there }

      split : (t : Bool) → is_there s tables x.source ≡ t → (IsListed c (standing s tables xs) → IsKept c xs) → IsListed c (cond t (x ∷ []) [] ++ standing s tables xs) → IsKept c (x ∷ xs)
      split true is f (inl e) = record { listed = inl e; there = ap (λ (y : Cause). is_there s tables y.source) e ∙ is }
      split true is f (inr m) = later (f m)
      split false is f m = later (f m)

module _ (G : Ground) where
  pub found : (x : Item) (list : List Cause)
      → ((p : Place) (z : Option Item) → IsCause G.program G.sig G.tables x p z → IsListed (cause_at p z) (causes G.program G.sig G.tables x))
      → ((p : Place) (z : Option Item) → IsListed (cause_at p z) (causes G.program G.sig G.tables x) → IsCause G.program G.sig G.tables x p z)
      → AreSame list (standing G.sig G.tables (causes G.program G.sig G.tables x))
      → AreCauses G (Some x) list
  found x list all none e = record {
    all = λ p z i. e.all (cause_at p z) (kept G.sig G.tables (cause_at p z) (causes G.program G.sig G.tables x) (tested G z i.1) (all p z i.0));
    none_else = λ p z m. let k = from G.sig G.tables (cause_at p z) (causes G.program G.sig G.tables x) (e.none_else (cause_at p z) m) in (none p z k.listed, holds G z k.there);
  }

-- of the same causes the same ones stand
pub same_standing : (s : List Qualifier) (tables : List Table) (list xs ys : List Cause) → list ≡ standing s tables xs → AreSame xs ys → AreSame list (standing s tables ys)
same_standing s tables list xs ys is h = record {
  all = λ c m. let k = from s tables c ys m in subst (IsListed c) (sym is) (kept s tables c xs k.there (h.all c k.listed));
  none_else = λ c m. let k = from s tables c xs (subst (IsListed c) is m) in kept s tables c ys k.there (h.none_else c k.listed);
}
