-- In a solution the points with a slot are those that some path comes to, and a register lacks a write exactly where some path comes without one.
use Rattle.std.proofs.Common.{◌≡◌, ℕ, zero, suc, ◌<◌, ◌⊎◌, Bool, true, false, cond, ltb, ◌||◌, inl, inr, ⊎_elim, List, [], ◌∷◌, ◌++◌, length, get_or, replicate, Option, Some, None, refl, sym, ap, ◌∙◌, subst, arith}
use Rattle.std.specs.Prelude.{slice_set}
use Rattle.std.proofs.lemmas.Bool.{lt-ltb, cases_lt}
use Rattle.std.proofs.lemmas.List.{get_or-set_other}
use Rattle.std.proofs.lemmas.Option.{slice_get_within}
use Rattle.jn_base.specs.declared.number.PointNo.{PointNo}
use Rattle.jn_points.specs.declared.leads.Edges.{Edges}
use Rattle.jn_points.specs.declared.point.Point.{Point}
use Rattle.jn_points.specs.declared.program.Program.{Program}
use Rattle.jn_points.specs.Edges.{edges_at}
use Rattle.jn_points.specs.Lookup.{points_of, regs_of, body_at, point_at}
use Rattle.jn_points.specs.Paths.{Step, Path, Reached, Lacks, NotWritten, Avoids}
use Rattle.jn_points.specs.Shaped.{LeadsTo, IsAt, writes}
use Rattle.jn_dataflow.specs.Problem.{IsAmong, slot_at}
use Rattle.jn_dataflow.specs.Solution.{Arises, entered, followed, joined, Absorbs, Solves}
use Rattle.jn_env.specs.Packed.{either_bits}
use Rattle.jn_assigned.specs.Lacking.{clear, behind, edge_to, edges_to, lacking, is_reached, is_lacking, TellsLacking}
use Rattle.jn_assigned.specs.LackingLaws.{Goes, goes_one}

or_cases : (x y : Bool) → (x || y) ≡ true → (x ≡ true) ⊎ (y ≡ true)
or_cases true y e = inl refl
or_cases false y e = inr e

bit_cases : (xs ys : List Bool) (r : ℕ) → get_or (either_bits xs ys) r false ≡ true → (get_or xs r false ≡ true) ⊎ (get_or ys r false ≡ true)
bit_cases [] ys r e = inr e
bit_cases (x ∷ xs) [] r e = inl e
bit_cases (x ∷ xs) (y ∷ ys) zero e = or_cases x y e
bit_cases (x ∷ xs) (y ∷ ys) (suc r) e = bit_cases xs ys r e

right_or : (x y : Bool) → y ≡ true → (x || y) ≡ true
right_or true y e = refl
right_or false y e = e

bit_right : (xs ys : List Bool) (r : ℕ) → get_or ys r false ≡ true → get_or (either_bits xs ys) r false ≡ true
bit_right [] ys r e = e
bit_right (x ∷ xs) [] r e = absurd cc
bit_right (x ∷ xs) (y ∷ ys) zero e = right_or x y e
bit_right (x ∷ xs) (y ∷ ys) (suc r) e = bit_right xs ys r e

bit_all : (n r : ℕ) → r < n → get_or (replicate n true) r false ≡ true
bit_all zero r lt = absurd (omega (arith, lt))
bit_all (suc n) zero lt = refl
bit_all (suc n) (suc r) lt = bit_all n r (omega (arith, lt))

-- a bit that is not cleared was there, and of a register that is not written
uncleared : (o : Option ℕ) (bits : List Bool) (r : ℕ) → get_or (clear o bits) r false ≡ true → (get_or bits r false ≡ true) × (o ≡ Some r → ⊥)
uncleared None bits r e = (e, λ h. absurd cc)
uncleared (Some k) bits r e =
    ⊎_elim
    (λ lt. (sym (other (λ same. omega (arith, lt, same))) ∙ e, λ h. let same : k ≡ r = cc in omega (arith, lt, same)))
    (λ le. ⊎_elim (λ gt. (sym (other (λ same. omega (arith, gt, same))) ∙ e, λ h. let same : k ≡ r = cc in omega (arith, gt, same))) (λ ge. absurd (here (omega (arith, le, ge)))) (cases_lt k r))
    (cases_lt r k)
  where
    other : (r ≡ k → ⊥) → get_or (slice_set bits k false) r false ≡ get_or bits r false
    other apart = get_or-set_other bits k r false false apart

    cleared : (xs : List Bool) (i : ℕ) → get_or (slice_set xs i false) i false ≡ false
    cleared [] i = refl
    cleared (x ∷ xs) zero = refl
    cleared (x ∷ xs) (suc i) = cleared xs i

    here : r ≡ k → ⊥
    here same = let gone = cleared bits k in let on : get_or (slice_set bits k false) k false ≡ true = subst (λ i. get_or (slice_set bits k false) i false ≡ true) same e in absurd cc

kept_on : (o : Option ℕ) (bits : List Bool) (r : ℕ) → (o ≡ Some r → ⊥) → get_or bits r false ≡ true → get_or (clear o bits) r false ≡ true
kept_on None bits r other e = e
kept_on (Some k) bits r other e = get_or-set_other bits k r false false (λ same. other (ap Some (sym same))) ∙ e

module _ (P : Program) (b : ℕ) where
  behind_lacks : (r p : ℕ) (q : ℕ) (o : Option Point) (bits : List Bool) → point_at P b p ≡ o → (get_or bits r false ≡ true → Lacks P b r p) → get_or (behind o bits) r false ≡ true → LeadsTo (edges_at o p) q → Lacks P b r q
  behind_lacks r p q None bits there before e leads = absurd (⊎_elim (λ h. h) (λ h. h) leads)
  behind_lacks r p q (Some pt) bits there before e leads =
      let u = uncleared (writes pt.kind) bits r e in
      let come = before u.0 in
      record {
        past = p ∷ come.past;
        path = (record { pt = pt; there = there; leads = leads }, come.path);
        avoids = (λ other there' written. let same : other ≡ pt = cc in u.1 (ap (λ (z : Point). writes z.kind) (sym same) ∙ written), come.avoids);
      }

  leads_by : (n : ℕ) (to : Edges) (bits : List Bool) (x : ℕ × List Bool) → IsAmong x (edges_to n to bits) → LeadsTo to x.0
  leads_by n to bits x m = ⊎_elim (λ h. inl (at to.first h)) (λ h. inr (at to.second h)) (goes_one n to bits x m)
    where
      at : (o : Option PointNo) → Goes n o bits x → IsAt o x.0
      at o g = subst (λ z. IsAt z x.0) (sym g.is) g.target

  bits_by : (n : ℕ) (to : Edges) (bits : List Bool) (x : ℕ × List Bool) → IsAmong x (edges_to n to bits) → x.1 ≡ bits
  bits_by n to bits x m = ⊎_elim (λ h. h.carried) (λ h. h.carried) (goes_one n to bits x m)

  -- what comes to a point comes along paths without a write
  pub arises_lacks : (p : ℕ) (e : List Bool) → Arises (lacking P b) p e → (r : ℕ) → get_or e r false ≡ true → Lacks P b r p
  arises_lacks p e entered r on = record { past = []; path = refl; avoids = tt }
  arises_lacks p e (followed q f p' e' before m) r on =
      let n = length (points_of (body_at P b)) in
      let to = edges_at (point_at P b q) q in
      let after = behind (point_at P b q) f in
      behind_lacks r q p (point_at P b q) f refl (arises_lacks q f before r) (subst (λ bits. get_or bits r false ≡ true) (bits_by n to after (p, e) m) on) (leads_by n to after (p, e) m)
  arises_lacks p e (joined p' x y hx hy) r on = ⊎_elim (λ h. arises_lacks p x hx r h) (λ h. arises_lacks p y hy r h) (bit_cases x y r on)

  among_left : (x : ℕ × List Bool) (xs ys : List (ℕ × List Bool)) → IsAmong x xs → IsAmong x (xs ++ ys)
  among_left x [] ys m = absurd m
  among_left x (y ∷ xs) ys (inl e) = inl e
  among_left x (y ∷ xs) ys (inr m) = inr (among_left x xs ys m)

  among_right : (x : ℕ × List Bool) (xs ys : List (ℕ × List Bool)) → IsAmong x ys → IsAmong x (xs ++ ys)
  among_right x [] ys m = m
  among_right x (y ∷ xs) ys m = inr (among_right x xs ys m)

  edge_at : (n : ℕ) (o : Option PointNo) (bits : List Bool) (p : ℕ) → IsAt o p → p < n → IsAmong (p, bits) (edge_to n o bits)
  edge_at n None bits p is lt = absurd is
  edge_at n (Some to) bits p is lt =
      let inside : ltb to.0 n ≡ true = lt-ltb to.0 n (subst (λ k. k < n) (sym is) lt) in
      subst (λ c. IsAmong {A = ℕ × List Bool} (p, bits) (cond c ((to.0, bits) ∷ []) [])) (sym inside) (inl (ap (λ (k : ℕ). (k, bits)) (sym is)))

  edge_there : (n : ℕ) (to : Edges) (bits : List Bool) (p : ℕ) → LeadsTo to p → p < n → IsAmong (p, bits) (edges_to n to bits)
  edge_there n to bits p leads lt =
      ⊎_elim
      (λ h. among_left (p, bits) (edge_to n to.first bits) (edge_to n to.second bits) (edge_at n to.first bits p h lt))
      (λ h. among_right (p, bits) (edge_to n to.first bits) (edge_to n to.second bits) (edge_at n to.second bits p h lt))
      leads

  module _ (t : List (Option (List Bool))) (s : Solves (lacking P b) t) (r : ℕ) (inside : r < regs_of (body_at P b)) where
    absorbed : (bits : List Bool) (o : Option (List Bool)) → Absorbs (lacking P b) o bits → get_or bits r false ≡ true → is_lacking o r ≡ true
    absorbed bits None h on = absurd h
    absorbed bits (Some a) h on = subst (λ (z : List Bool). get_or z r false ≡ true) h (bit_right a bits r on)

    over_step : (q p : ℕ) (step : Step P b q p) → NotWritten P b r q → p < length (points_of (body_at P b)) → (o : Option (List Bool)) → slot_at t q ≡ o → is_lacking o r ≡ true → is_lacking (slot_at t p) r ≡ true
    over_step q p step free lt None is lacks = absurd cc
    over_step q p step free lt (Some e) is lacks =
        let n = length (points_of (body_at P b)) in
        let to = edges_at (point_at P b q) q in
        let after = behind (point_at P b q) e in
        let leads : LeadsTo to p = subst (λ o. LeadsTo (edges_at o q) p) (sym step.there) step.leads in
        let on : get_or after r false ≡ true = subst (λ o. get_or (behind o e) r false ≡ true) (sym step.there) (kept_on (writes step.pt.kind) e r (free step.pt step.there) lacks) in
        absorbed after (slot_at t p) (s.edges q e is (p, after) (edge_there n to after p leads lt)) on

    path_lacking : (past : List ℕ) (p : ℕ) → Path P b past p → Avoids P b r past → p < length (points_of (body_at P b)) → is_lacking (slot_at t p) r ≡ true
    path_lacking [] p path free lt =
        subst (λ q. is_lacking (slot_at t q) r ≡ true) (sym path) (absorbed (replicate (regs_of (body_at P b)) true) (slot_at t 0) s.entry (bit_all (regs_of (body_at P b)) r inside))
    path_lacking (q ∷ past) p path free lt =
        let within : q < length (points_of (body_at P b)) = slice_get_within (points_of (body_at P b)) q path.0.pt path.0.there in
        over_step q p path.0 free.0 lt (slot_at t q) refl (path_lacking past q path.1 free.1 within)

    -- in the solution a register lacks a write exactly where some path comes without one
    pub lacks_is : (p : ℕ) → p < length (points_of (body_at P b)) → Lacks P b r p → is_lacking (slot_at t p) r ≡ true
    lacks_is p lt come = path_lacking come.past p come.path come.avoids lt

    is_lacks : (p : ℕ) (o : Option (List Bool)) → slot_at t p ≡ o → is_lacking o r ≡ true → Lacks P b r p
    is_lacks p None is lacks = absurd cc
    is_lacks p (Some e) is lacks = arises_lacks p e (s.arises p e is) r lacks

    pub lacks_by : (p : ℕ) → is_lacking (slot_at t p) r ≡ true → Lacks P b r p
    lacks_by p lacks = is_lacks p (slot_at t p) refl lacks

  -- a slot is there exactly where some path comes to
  comes_behind : (p q : ℕ) (o : Option Point) → point_at P b p ≡ o → Reached P b p → LeadsTo (edges_at o p) q → Reached P b q
  comes_behind p q None there come leads = absurd (⊎_elim (λ h. h) (λ h. h) leads)
  comes_behind p q (Some pt) there come leads = record { past = p ∷ come.past; path = (record { pt = pt; there = there; leads = leads }, come.path) }

  arises_comes : (p : ℕ) (e : List Bool) → Arises (lacking P b) p e → Reached P b p
  arises_comes p e entered = record { past = []; path = refl }
  arises_comes p e (followed q f p' e' before m) =
      let to = edges_at (point_at P b q) q in
      comes_behind q p (point_at P b q) refl (arises_comes q f before) (leads_by (length (points_of (body_at P b))) to (behind (point_at P b q) f) (p, e) m)
  arises_comes p e (joined p' x y hx hy) = arises_comes p x hx

  absorbs_reached : (o : Option (List Bool)) (bits : List Bool) → Absorbs (lacking P b) o bits → is_reached o ≡ true
  absorbs_reached None bits h = absurd h
  absorbs_reached (Some a) bits h = refl

  module _ (t : List (Option (List Bool))) (s : Solves (lacking P b) t) where
    step_reached : (q p : ℕ) (step : Step P b q p) → p < length (points_of (body_at P b)) → (o : Option (List Bool)) → slot_at t q ≡ o → is_reached o ≡ true → is_reached (slot_at t p) ≡ true
    step_reached q p step lt None is come = absurd cc
    step_reached q p step lt (Some e) is come =
        let n = length (points_of (body_at P b)) in
        let to = edges_at (point_at P b q) q in
        let after = behind (point_at P b q) e in
        let leads : LeadsTo to p = subst (λ o. LeadsTo (edges_at o q) p) (sym step.there) step.leads in
        absorbs_reached (slot_at t p) after (s.edges q e is (p, after) (edge_there n to after p leads lt))

    path_reached : (past : List ℕ) (p : ℕ) → Path P b past p → p < length (points_of (body_at P b)) → is_reached (slot_at t p) ≡ true
    path_reached [] p path lt = subst (λ q. is_reached (slot_at t q) ≡ true) (sym path) (absorbs_reached (slot_at t 0) (replicate (regs_of (body_at P b)) true) s.entry)
    path_reached (q ∷ past) p path lt =
        let within : q < length (points_of (body_at P b)) = slice_get_within (points_of (body_at P b)) q path.0.pt path.0.there in
        step_reached q p path.0 lt (slot_at t q) refl (path_reached past q path.1 within)

    slot_comes : (p : ℕ) (o : Option (List Bool)) → slot_at t p ≡ o → is_reached o ≡ true → Reached P b p
    slot_comes p None is come = absurd cc
    slot_comes p (Some e) is come = arises_comes p e (s.arises p e is)

    pub solution_tells : TellsLacking P b t
    solution_tells = record {
      long = s.long;
      reached = λ p lt. (λ come. slot_comes p (slot_at t p) refl come, λ come. path_reached come.past p come.path lt);
      lacking = λ r p inside lt. (λ lacks. lacks_by t s r inside p lacks, λ come. lacks_is t s r inside p lt come);
    }
