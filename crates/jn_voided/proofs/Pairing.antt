-- The first pair of a course is the first of the body, and there is one.
use Rattle.std.proofs.Common.{◌≡◌, ◌⊎◌, inl, inr, ⊎_elim, ℕ, ◌<◌, ◌≤◌, Bool, true, false, List, Option, Some, None, refl, sym, ap, ◌∙◌, subst, arith}
use Rattle.std.proofs.lemmas.Bool.{cases_lt}
use Rattle.jn_quals.specs.Qualifier.{Qualifier}
use Rattle.jn_points.specs.declared.program.Program.{Program}
use Rattle.jn_points.specs.Lookup.{point_at}
use Rattle.jn_env.specs.Keys.{Key}
use Rattle.jn_env.specs.Order.{Table}
use Rattle.jn_dataflow.specs.Problem.{IsAmong}
use Rattle.jn_voided.specs.declared.course.Passed.{Passed}
use Rattle.jn_voided.specs.declared.course.Way.{Way}
use Rattle.jn_voided.specs.declared.search.Voided.{Voided}
use Rattle.jn_voided.specs.Courses.{is_there}
use Rattle.jn_voided.specs.Searched.{IsPair, IsFoundBy, ended_by, pair}
use Rattle.jn_voided.specs.Turning.{IsAtMost, TellsTurns, turn_at}
use Rattle.jn_voided.specs.Voided.{Since, turned, kept, IsVoided, IsFirstVoided, IsFound, course, is_known, knowers, makers, makes}

-- ---- since when a fact is as wanted

clash : (c : Bool) → c ≡ true → c ≡ false → ⊥
clash true e f = absurd cc
clash false e f = absurd cc

so_there : (at : ℕ → Passed) (source : ℕ → Bool) (wanted : Bool) (from p : ℕ) → Since at source wanted from p → (at p).known ≡ Some wanted
so_there at source wanted from p (turned p' on m there) = there
so_there at source wanted from p (kept q p' before off m there) = there

begins : (at : ℕ → Passed) (source : ℕ → Bool) (wanted : Bool) (from p : ℕ) → Since at source wanted from p → source from ≡ true
begins at source wanted from p (turned p' on m there) = on
begins at source wanted from p (kept q p' before off m there) = begins at source wanted from q before

-- by other sources, of which the first point is one, and none before which the fact is as wanted
by_others : (at : ℕ → Passed) (source other : ℕ → Bool) (wanted : Bool) (from : ℕ) → other from ≡ true → ((q : ℕ) → (at q).known ≡ Some wanted → other q ≡ false) → (p : ℕ) → Since at source wanted from p → Since at other wanted from p
by_others at source other wanted from first rest p (turned p' on m there) = turned p first m there
by_others at source other wanted from first rest p (kept q p' before off m there) =
    kept q p (by_others at source other wanted from first rest q before) (rest q (so_there at source wanted from q before)) m there

-- ---- the first of a course

module _ (at : ℕ → Passed) (maker : ℕ → Bool) (ends : ℕ → Bool) (known unknown : List (Option (Option ℕ)))
    (tells_known : TellsTurns at maker true known) (ends_there : (p : ℕ) → ends p ≡ is_there (turn_at known p)) (tells_unknown : TellsTurns at ends false unknown) where
  there_if : (o : Option ℕ) (k : ℕ) → IsAtMost o k → is_there o ≡ true
  there_if None k h = absurd h
  there_if (Some m) k h = refl

  none_most : (o : Option ℕ) (k : ℕ) → o ≡ None → IsAtMost o k → ⊥
  none_most o k is h = subst (λ z. IsAtMost z k) is h

  some_most : (o : Option ℕ) (k m : ℕ) → o ≡ Some m → IsAtMost o k → m ≤ k
  some_most o k m is h = subst (λ z. IsAtMost z k) is h

  abbrev knower : ℕ → Bool
  knower p = is_known (at p).known

  -- before an end the fact is known
  ends_known : (p : ℕ) → ends p ≡ true → (at p).known ≡ Some true
  ends_known p on = by (turn_at known p) refl (sym (ends_there p) ∙ on)
    where
      by : (o : Option ℕ) → turn_at known p ≡ o → is_there o ≡ true → (at p).known ≡ Some true
      by None is e = absurd (clash false e refl)
      by (Some m) is e = so_there at maker true m p (tells_known.is p m is)

  no_end : (p : ℕ) → (at p).known ≡ Some false → ends p ≡ false
  no_end p is = by (ends p) refl
    where
      by : (c : Bool) → ends p ≡ c → c ≡ false
      by true on = absurd (clash (knower p) (ap is_known (ends_known p on)) (ap is_known is))
      by false off = refl

  -- an end of some pair is among the ends, and its least comes to the read
  end_most : (read made ended : ℕ) → IsPair at maker read made ended → IsAtMost (turn_at unknown read) ended
  end_most read made ended p =
      let on = ends_there ended ∙ there_if (turn_at known ended) made (tells_known.first made ended p.known) in
      tells_unknown.first ended read (by_others at knower ends false ended on no_end read p.unknown)

  none_found : (read : ℕ) → turn_at unknown read ≡ None → IsFoundBy at maker read None
  none_found read is = λ made ended p. none_most (turn_at unknown read) ended is (end_most read made ended p)

  pair_found : (read ended : ℕ) (o : Option ℕ) → turn_at unknown read ≡ Some ended → turn_at known ended ≡ o → IsFoundBy at maker read (pair o ended)
  pair_found read ended None is none =
      let end = tells_unknown.is read ended is in
      let there = sym (ends_there ended) ∙ begins at ends false ended read end in
      let gone : is_there (turn_at known ended) ≡ false = ap is_there none in
      absurd (clash (is_there (turn_at known ended)) there gone)
  pair_found read ended (Some made) is first =
      let end = tells_unknown.is read ended is in
      record {
        is = record {
          known = tells_known.is ended made first;
          unknown = by_others at ends knower false ended (ap is_known (ends_known ended (begins at ends false ended read end))) (λ q e. ap is_known e) read end;
        };
        first = λ other last p.
            let low = some_most (turn_at unknown read) last ended is (end_most read other last p) in
            ⊎_elim (λ less. inl less) (λ le. let same : ended ≡ last = omega (arith, low, le) in inr (same, some_most (turn_at known ended) other made first (subst (λ e. IsAtMost (turn_at known e) other) (sym same) (tells_known.first other last p.known)))) (cases_lt ended last);
      }

  -- before each read
  pub turned_found : (read : ℕ) → IsFoundBy at maker read (ended_by known (turn_at unknown read))
  turned_found read = by (turn_at unknown read) refl
    where
      by : (o : Option ℕ) → turn_at unknown read ≡ o → IsFoundBy at maker read (ended_by known o)
      by None is = none_found read is
      by (Some ended) is = pair_found read ended (turn_at known ended) is refl

-- ---- two courses that are the same at each point

module _ (at to : ℕ → Passed) (same : (p : ℕ) → at p ≡ to p) (source other : ℕ → Bool) (as_other : (p : ℕ) → source p ≡ other p) where
  known_there : (p : ℕ) (k : Option Bool) → (at p).known ≡ k → (to p).known ≡ k
  known_there p k e = subst (λ (x : Passed). x.known ≡ k) (same p) e

  among_there : (p : ℕ) (w : Way) → IsAmong w (at p).ways → IsAmong w (to p).ways
  among_there p w m = subst (λ (x : Passed). IsAmong w x.ways) (same p) m

  pub since_there : (wanted : Bool) (from p : ℕ) → Since at source wanted from p → Since to other wanted from p
  since_there wanted from p (turned p' on m there) = turned p (sym (as_other from) ∙ on) (among_there from (record { to = p; known = wanted }) m) (known_there p (Some wanted) there)
  since_there wanted from p (kept q p' before off m there) = kept q p (since_there wanted from q before) (sym (as_other q) ∙ off) (among_there q (record { to = p; known = wanted }) m) (known_there p (Some wanted) there)

module _ (P : Program) (s : List Qualifier) (b : ℕ) (t : Table) (k : Key) (at : ℕ → Passed) (maker : ℕ → Bool)
    (is_course : (p : ℕ) → at p ≡ course P s b t k p) (are_makers : (p : ℕ) → maker p ≡ makes k (point_at P b p)) where
  abbrev knows_at : (ℕ → Passed) → ℕ → Bool
  knows_at x p = is_known (x p).known

  alike : (p : ℕ) → knows_at at p ≡ knowers P s b t k p
  alike p = ap (λ (x : Passed). is_known x.known) (is_course p)

  to_voided : (read made ended : ℕ) → IsPair at maker read made ended → IsVoided P s b t k read made ended
  to_voided read made ended p = record {
    known = since_there at (course P s b t k) is_course maker (makers P s b t k) are_makers true made ended p.known;
    unknown = since_there at (course P s b t k) is_course (knows_at at) (knowers P s b t k) alike false ended read p.unknown;
  }

  to_pair : (read made ended : ℕ) → IsVoided P s b t k read made ended → IsPair at maker read made ended
  to_pair read made ended v = record {
    known = since_there (course P s b t k) at (λ p. sym (is_course p)) (makers P s b t k) maker (λ p. sym (are_makers p)) true made ended v.known;
    unknown = since_there (course P s b t k) at (λ p. sym (is_course p)) (knowers P s b t k) (knows_at at) (λ p. sym (alike p)) false ended read v.unknown;
  }

  pub found_is : (read : ℕ) (o : Option Voided) → IsFoundBy at maker read o → IsFound P s b t k read o
  found_is read None none = λ made ended v. none made ended (to_pair read made ended v)
  found_is read (Some v) first = record {
    is = to_voided read v.made.0 v.ended.0 first.is;
    first = λ other end w. first.first other end (to_pair read other end w);
  }

-- ---- there is one first

module _ (P : Program) (s : List Qualifier) (b : ℕ) (t : Table) (k : Key) (read : ℕ) where
  abbrev of_numbers : ℕ → ℕ → Voided
  of_numbers made ended = record { made = record { 0 = made }; ended = record { 0 = ended } }

  voided_one : (v w : Voided) → v.made.0 ≡ w.made.0 → v.ended.0 ≡ w.ended.0 → v ≡ w
  voided_one v w e f = ap (λ (n : ℕ). of_numbers n v.ended.0) e ∙ ap (λ (n : ℕ). of_numbers w.made.0 n) f

  both_first : (v w : Voided) → IsFirstVoided P s b t k read v.made.0 v.ended.0 → IsFirstVoided P s b t k read w.made.0 w.ended.0 → v ≡ w
  both_first v w h i = by (h.first w.made.0 w.ended.0 i.is) (i.first v.made.0 v.ended.0 h.is)
    where
      by : (v.ended.0 < w.ended.0) ⊎ ((v.ended.0 ≡ w.ended.0) × (v.made.0 ≤ w.made.0)) → (w.ended.0 < v.ended.0) ⊎ ((w.ended.0 ≡ v.ended.0) × (w.made.0 ≤ v.made.0)) → v ≡ w
      by (inl x) (inl y) = absurd (omega (arith, x, y))
      by (inl x) (inr y) = let e = y.0 in absurd (omega (arith, x, e))
      by (inr x) (inl y) = let e = x.0 in absurd (omega (arith, y, e))
      by (inr x) (inr y) = let c = x.1 in let d = y.1 in voided_one v w (omega (arith, c, d)) x.0

  pub one_first : (one other : Option Voided) → IsFound P s b t k read one → IsFound P s b t k read other → one ≡ other
  one_first None None h i = refl
  one_first None (Some w) h i = absurd (h w.made.0 w.ended.0 i.is)
  one_first (Some v) None h i = absurd (i v.made.0 v.ended.0 h.is)
  one_first (Some v) (Some w) h i = ap Some (both_first v w h i)
