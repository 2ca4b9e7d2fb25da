-- A contribution of a body comes from one of its reached points, and each of theirs is among the body's.
use Rattle.std.proofs.Common.{◌≡◌, ℕ, zero, suc, ◌+◌, ◌⊎◌, inl, inr, ⊎_elim, List, [], ◌∷◌, ◌++◌, Option, Some, None, refl, sym, subst, arith}
use Rattle.std.specs.Prelude.{slice_get}
use Rattle.jn_quals.specs.Qualifier.{Qualifier}
use Rattle.jn_points.specs.declared.point.Point.{Point}
use Rattle.jn_points.specs.declared.program.Program.{Program}
use Rattle.jn_points.specs.Lookup.{points_of, body_at}
use Rattle.jn_env.specs.Environment.{Env}
use Rattle.jn_env.specs.Order.{Table, env_in}
use Rattle.jn_transfer.specs.Contributions.{IsSent, kind_sends}
use Rattle.jn_contrib.specs.Sends.{point_sends, sends_from, body_sends}
use Rattle.jn_contrib.specs.SentBy.{IsSentBy}

-- what is sent of one list after another
pub sent_left : (x : ℕ × Qualifier) (xs ys : List (ℕ × Qualifier)) → IsSent x xs → IsSent x (xs ++ ys)
sent_left x [] ys h = absurd h
sent_left x (y ∷ xs) ys (inl e) = inl e
sent_left x (y ∷ xs) ys (inr h) = inr (sent_left x xs ys h)

pub sent_right : (x : ℕ × Qualifier) (xs ys : List (ℕ × Qualifier)) → IsSent x ys → IsSent x (xs ++ ys)
sent_right x [] ys h = h
sent_right x (y ∷ xs) ys h = inr (sent_right x xs ys h)

pub sent_cases : (x : ℕ × Qualifier) (xs ys : List (ℕ × Qualifier)) → IsSent x (xs ++ ys) → IsSent x xs ⊎ IsSent x ys
sent_cases x [] ys h = inr h
sent_cases x (y ∷ xs) ys (inl e) = inl (inl e)
sent_cases x (y ∷ xs) ys (inr h) = ⊎_elim (λ a. inl (inr a)) (λ b. inr b) (sent_cases x xs ys h)

module _ (P : Program) (b : ℕ) where
  record Comes (points : List Point) (p0 : ℕ) (t : Table) (x : ℕ × Qualifier) : Type 0 where
    pub k : ℕ
    pub pt : Point
    pub env : Env
    pub point : slice_get points k ≡ Some pt
    pub reached : env_in t (p0 + k) ≡ Some env
    pub sent : IsSent x (kind_sends P b env pt.kind)

  comes_here : (pt : Point) (pts : List Point) (p : ℕ) (t : Table) (x : ℕ × Qualifier) (o : Option Env) → env_in t p ≡ o → IsSent x (point_sends P b pt o) → Comes (pt ∷ pts) p t x
  comes_here pt pts p t x None is m = absurd m
  comes_here pt pts p t x (Some e) is m =
      let here : p ≡ p + 0 = omega arith in
      record { k = 0; pt = pt; env = e; point = refl; reached = subst (λ n. env_in t n ≡ Some e) here is; sent = m }

  comes_later : (pt : Point) (pts : List Point) (p : ℕ) (t : Table) (x : ℕ × Qualifier) → Comes pts (p + 1) t x → Comes (pt ∷ pts) p t x
  comes_later pt pts p t x c =
      let k = c.k in
      let next : (p + 1) + k ≡ p + suc k = omega arith in
      record { k = suc c.k; pt = c.pt; env = c.env; point = c.point; reached = subst (λ n. env_in t n ≡ Some c.env) next c.reached; sent = c.sent }

  comes : (points : List Point) (p : ℕ) (t : Table) (x : ℕ × Qualifier) → IsSent x (sends_from P b points p t) → Comes points p t x
  comes [] p t x m = absurd m
  comes (pt ∷ pts) p t x m =
      ⊎_elim (λ h. comes_here pt pts p t x (env_in t p) refl h) (λ h. comes_later pt pts p t x (comes pts (p + 1) t x h)) (sent_cases x (point_sends P b pt (env_in t p)) (sends_from P b pts (p + 1) t) m)

  is_sent : (points : List Point) (p0 k : ℕ) (pt : Point) (e : Env) (t : Table) (x : ℕ × Qualifier) → slice_get points k ≡ Some pt → env_in t (p0 + k) ≡ Some e → IsSent x (kind_sends P b e pt.kind) → IsSent x (sends_from P b points p0 t)
  is_sent [] p0 k pt e t x at is m = cc
  is_sent (pt' ∷ pts) p0 zero pt e t x at is m =
      let here : p0 + 0 ≡ p0 = omega arith in
      let same : pt' ≡ pt = cc in
      sent_left x (point_sends P b pt' (env_in t p0)) (sends_from P b pts (p0 + 1) t)
      (subst (λ q. IsSent x (point_sends P b q (env_in t p0))) (sym same)
      (subst (λ o. IsSent x (point_sends P b pt o)) (sym (subst (λ n. env_in t n ≡ Some e) here is)) m))
  is_sent (pt' ∷ pts) p0 (suc k) pt e t x at is m =
      let next : p0 + suc k ≡ (p0 + 1) + k = omega arith in
      sent_right x (point_sends P b pt' (env_in t p0)) (sends_from P b pts (p0 + 1) t)
      (is_sent pts (p0 + 1) k pt e t x at (subst (λ n. env_in t n ≡ Some e) next is) m)

  pub of_a_point : (t : Table) (x : ℕ × Qualifier) → IsSent x (body_sends P b t) → IsSentBy P b t x
  of_a_point t x h =
      let c = comes (points_of (body_at P b)) 0 t x h in
      let k = c.k in
      let same : 0 + k ≡ k = omega arith in
      record { place = c.k; point = c.pt; env = c.env; there = c.point; reached = subst (λ n. env_in t n ≡ Some c.env) same c.reached; sent = c.sent }

  pub of_the_body : (t : Table) (x : ℕ × Qualifier) → IsSentBy P b t x → IsSent x (body_sends P b t)
  of_the_body t x h =
      let k = h.place in
      let same : k ≡ 0 + k = omega arith in
      is_sent (points_of (body_at P b)) 0 h.place h.point h.env t x h.there (subst (λ n. env_in t n ≡ Some h.env) same h.reached) h.sent
