-- A solution has for each point the least source since which the fact is as wanted.
use Rattle.std.proofs.Common.{◌≡◌, ℕ, zero, suc, ◌+◌, ◌<◌, ◌≤◌, ◌⊎◌, Bool, true, false, cond, ltb, inl, inr, ⊎_elim, List, [], ◌∷◌, ◌++◌, length, Option, Some, None, refl, sym, ap, ◌∙◌, subst, arith}
use Rattle.std.specs.Prelude.{◌&&◌, flat_map}
use Rattle.std.proofs.lemmas.Bool.{lt-ltb, ltb-false}
use Rattle.jn_dataflow.specs.Problem.{IsAmong, slot_at}
use Rattle.jn_dataflow.specs.Solution.{Arises, entered, followed, joined, Absorbs, Solves}
use Rattle.jn_voided.specs.declared.course.Passed.{Passed}
use Rattle.jn_voided.specs.declared.course.Way.{Way}
use Rattle.jn_voided.specs.Voided.{Since, turned, kept}
use Rattle.jn_voided.specs.Courses.{is_in, passed_in}
use Rattle.jn_voided.specs.Turning.{along, arriving, as_wanted, handed, IsAtMost, least, TellsTurns, handed_to, turn_at, turn_in, turning}
use Rattle.jn_voided.specs.TurningLaws.{Along, edge_cases}

-- ---- what is as wanted

wanted_is : (w k : Bool) → as_wanted w k ≡ true → k ≡ w
wanted_is true k e = e
wanted_is false true e = absurd cc
wanted_is false false e = refl

as_itself : (w : Bool) → as_wanted w w ≡ true
as_itself true = refl
as_itself false = refl

both_true : (x y : Bool) → (x && y) ≡ true → (x ≡ true) × (y ≡ true)
both_true true y e = (refl, e)
both_true false y e = absurd cc

some_if : (c : Bool) (from : Option ℕ) (k : ℕ) → cond c from None ≡ Some k → (c ≡ true) × (from ≡ Some k)
some_if true from k e = (refl, e)
some_if false from k e = absurd cc

-- ---- membership

among_left : (x : ℕ × Option ℕ) (xs ys : List (ℕ × Option ℕ)) → IsAmong x xs → IsAmong x (xs ++ ys)
among_left x [] ys m = absurd m
among_left x (y ∷ xs) ys (inl e) = inl e
among_left x (y ∷ xs) ys (inr m) = inr (among_left x xs ys m)

among_right : (x : ℕ × Option ℕ) (xs ys : List (ℕ × Option ℕ)) → IsAmong x ys → IsAmong x (xs ++ ys)
among_right x [] ys m = m
among_right x (y ∷ xs) ys m = inr (among_right x xs ys m)

-- ---- the lesser of two

least_cases : (x y : Option ℕ) (k : ℕ) → least x y ≡ Some k → (x ≡ Some k) ⊎ (y ≡ Some k)
least_cases None y k e = inr e
least_cases (Some x) None k e = inl e
least_cases (Some x) (Some y) k e = by (ltb y x) e
  where
    by : (c : Bool) → Some (cond c y x) ≡ Some k → (Some x ≡ Some k) ⊎ (Some y ≡ Some k)
    by true h = inr h
    by false h = inl h

least_no_greater : (x : Option ℕ) (k : ℕ) → least x (Some k) ≡ x → IsAtMost x k
least_no_greater None k e = absurd cc
least_no_greater (Some x) k e = by (ltb k x) refl e
  where
    by : (c : Bool) → ltb k x ≡ c → Some (cond c k x) ≡ Some x → x ≤ k
    by true is h = let same : k ≡ x = cc in omega (arith, same)
    by false is h = ltb-false k x is

at_most_less : (x : Option ℕ) (m k : ℕ) → IsAtMost x m → m ≤ k → IsAtMost x k
at_most_less None m k h le = h
at_most_less (Some x) m k h le = omega (arith, h, le)

module _ (n : ℕ) (at : ℕ → Passed) (source : ℕ → Bool) (wanted : Bool) where
  -- ---- what comes to a point is a source since which the fact is as wanted

  -- what is handed on is the point itself, a source, or came to the point, which is none
  from_handed : (q : ℕ) (f : Option ℕ) (k : ℕ) → handed source q f ≡ Some k → ((source q ≡ true) × (q ≡ k)) ⊎ ((source q ≡ false) × (f ≡ Some k))
  from_handed q f k e = by (source q) refl e
    where
      by : (c : Bool) → source q ≡ c → cond c (Some q) f ≡ Some k → ((source q ≡ true) × (q ≡ k)) ⊎ ((source q ≡ false) × (f ≡ Some k))
      by true is h = let own : Some q ≡ Some k = h in inl (is, cc)
      by false is h = inr (is, h)

  from_arriving : (known : Bool) (there : Option Bool) (f : Option ℕ) (k : ℕ) → arriving wanted known there f ≡ Some k → (known ≡ wanted) × (there ≡ Some wanted) × (f ≡ Some k)
  from_arriving known None f k e = absurd cc
  from_arriving known (Some there) f k e =
      let two = some_if (as_wanted wanted known && as_wanted wanted there) f k e in
      let two_is = both_true (as_wanted wanted known) (as_wanted wanted there) two.0 in
      (wanted_is wanted known two_is.0, ap Some (wanted_is wanted there two_is.1), two.1)

  way_is : (way : Way) (p : ℕ) → p ≡ way.to → way.known ≡ wanted → way ≡ record { to = p; known = wanted }
  way_is way p e f = subst (λ x. way ≡ record { to = x; known = wanted }) (sym e) (subst (λ x. way ≡ record { to = way.to; known = x }) f refl)

  over_way : (q p : ℕ) (f e : Option ℕ) (k : ℕ) → e ≡ Some k → (f ≡ Some k → Since at source wanted k q) → Along n at wanted (handed source q f) (at q).ways (p, e) → Since at source wanted k p
  over_way q p f e k is before way =
      let went = from_arriving way.way.known (at way.way.to).known (handed source q f) k (sym way.carried ∙ is) in
      let edge : IsAmong (record { to = p; known = wanted }) (at q).ways = subst (λ w. IsAmong w (at q).ways) (way_is way.way p way.target went.0) way.among in
      let there : (at p).known ≡ Some wanted = subst (λ x. (at x).known ≡ Some wanted) (sym way.target) went.1 in
      ⊎_elim
      (λ h. subst (λ x. Since at source wanted x p) h.1 (turned p h.0 edge there))
      (λ h. kept q p (before h.1) h.0 edge there)
      (from_handed q f k went.2)

  arises_turned : (p : ℕ) (e : Option ℕ) → Arises (turning n at source wanted) p e → (k : ℕ) → e ≡ Some k → Since at source wanted k p
  arises_turned p e entered k is = absurd cc
  arises_turned p e (followed q f p' e' before m) k is =
      ⊎_elim
      (λ h. let nothing : e ≡ None = h.nothing in absurd cc)
      (λ h. over_way q p f e k is (λ same. arises_turned q f before k same) h)
      (edge_cases n at source wanted q f (p, e) m)
  arises_turned p e (joined p' x y hx hy) k is = ⊎_elim (λ h. arises_turned p x hx k h) (λ h. arises_turned p y hy k h) (least_cases x y k is)

  -- ---- each source comes to the points up to which the fact has been so

  module _ (turns : List (Option (Option ℕ))) (s : Solves (turning n at source wanted) turns) (inside : (p : ℕ) (k : Bool) → (at p).known ≡ Some k → p < n)
      (goes : (p : ℕ) (w : Way) → IsAmong w (at p).ways → p < n) where
    slot_turned : (p k : ℕ) (o : Option (Option ℕ)) → slot_at turns p ≡ o → turn_in o ≡ Some k → Since at source wanted k p
    slot_turned p k None is e = absurd cc
    slot_turned p k (Some f) is e = arises_turned p f (s.arises p f is) k e

    pub record Come (p : ℕ) : Type 0 where
      pub from : Option ℕ
      pub is : slot_at turns p ≡ Some from

    come_by : (p : ℕ) (e : Option ℕ) (o : Option (Option ℕ)) → slot_at turns p ≡ o → Absorbs (turning n at source wanted) o e → Come p
    come_by p e None is h = absurd h
    come_by p e (Some f) is h = record { from = f; is = is }

    next_there : (p : ℕ) → p + 1 < n → IsAmong (p + 1, None) (handed_to n (p + 1) None)
    next_there p lt = subst (λ c. IsAmong {A = ℕ × Option ℕ} (p + 1, None) (cond c ((p + 1, None) ∷ []) [])) (sym (lt-ltb (p + 1) n lt)) (inl refl)

    comes : (p : ℕ) → p < n → Come p
    comes zero lt = come_by zero None (slot_at turns zero) refl s.entry
    comes (suc p) lt =
        let before = comes p (omega (arith, lt)) in
        let le : p + 1 < n = omega (arith, lt) in
        let next : p + 1 ≡ suc p = omega arith in
        let edge = among_left (p + 1, None) (handed_to n (p + 1) None) (flat_map (along n at wanted (handed source p before.from)) (at p).ways) (next_there p le) in
        subst (λ x. Come x) next (come_by (p + 1) None (slot_at turns (p + 1)) refl (s.edges p before.from before.is (p + 1, None) edge))

    along_there : (from : Option ℕ) (p : ℕ) (ways : List Way) → p < n → (at p).known ≡ Some wanted → IsAmong (record { to = p; known = wanted }) ways → IsAmong (p, from) (flat_map (along n at wanted from) ways)
    along_there from p [] lt there m = absurd m
    along_there from p (w ∷ ws) lt there (inl e) = among_left (p, from) (along n at wanted from w) (flat_map (along n at wanted from) ws) (subst (λ z. IsAmong (p, from) (along n at wanted from z)) e one)
      where
        arrives : arriving wanted wanted (at p).known from ≡ from
        arrives = subst (λ k. arriving wanted wanted k from ≡ from) (sym there) (subst (λ c. cond (c && c) from None ≡ from) (sym (as_itself wanted)) refl)

        one : IsAmong (p, from) (along n at wanted from (record { to = p; known = wanted }))
        one = subst (λ c. IsAmong {A = ℕ × Option ℕ} (p, from) (cond c ((p, arriving wanted wanted (at p).known from) ∷ []) [])) (sym (lt-ltb p n lt)) (inl (ap (λ (z : Option ℕ). (p, z)) (sym arrives)))
    along_there from p (w ∷ ws) lt there (inr m) = among_right (p, from) (along n at wanted from w) (flat_map (along n at wanted from) ws) (along_there from p ws lt there m)

    -- what a point hands on is at the target of a way, or less
    handed_on : (q p k : ℕ) (f : Option ℕ) → slot_at turns q ≡ Some f → handed source q f ≡ Some k → IsAmong (record { to = p; known = wanted }) (at q).ways → (at p).known ≡ Some wanted → IsAtMost (turn_at turns p) k
    handed_on q p k f is hands m there =
        let from = handed source q f in
        let edge = among_right (p, from) (handed_to n (q + 1) None) (flat_map (along n at wanted from) (at q).ways) (along_there from p (at q).ways (inside p wanted there) there m) in
        let takes : Absorbs (turning n at source wanted) (slot_at turns p) (Some k) = subst (λ z. Absorbs (turning n at source wanted) (slot_at turns p) z) hands (s.edges q f is (p, from) edge) in
        by (slot_at turns p) takes
      where
        by : (o : Option (Option ℕ)) → Absorbs (turning n at source wanted) o (Some k) → IsAtMost (turn_in o) k
        by None h = absurd h
        by (Some x) h = least_no_greater x k h

    hands_itself : (q : ℕ) (f : Option ℕ) → source q ≡ true → handed source q f ≡ Some q
    hands_itself q f on = subst (λ c. cond c (Some q) f ≡ Some q) (sym on) refl

    hands_on : (q k : ℕ) (f : Option ℕ) → source q ≡ false → f ≡ Some k → handed source q f ≡ Some k
    hands_on q k f off e = subst (λ c. cond c (Some q) f ≡ Some k) (sym off) e

    pub record Lower (q k : ℕ) : Type 0 where
      pub from : ℕ
      pub is : slot_at turns q ≡ Some (Some from)
      pub le : from ≤ k

    lower_by : (q k : ℕ) (o : Option (Option ℕ)) → slot_at turns q ≡ o → IsAtMost (turn_in o) k → Lower q k
    lower_by q k None is h = absurd h
    lower_by q k (Some None) is h = absurd h
    lower_by q k (Some (Some m)) is h = record { from = m; is = is; le = h }

    since_first : (k p : ℕ) → Since at source wanted k p → IsAtMost (turn_at turns p) k
    since_first k p (turned p' on m there) =
        let come = comes k (goes k (record { to = p; known = wanted }) m) in
        handed_on k p k come.from come.is (hands_itself k come.from on) m there
    since_first k p (kept q p' before off m there) =
        let low = lower_by q k (slot_at turns q) refl (since_first k q before) in
        at_most_less (turn_at turns p) low.from k (handed_on q p low.from (Some low.from) low.is (hands_on q low.from (Some low.from) off refl) m there) low.le

    pub solution_tells_turns : TellsTurns at source wanted turns
    solution_tells_turns = record {
      is = λ p from e. slot_turned p from (slot_at turns p) refl e;
      first = λ from p h. since_first from p h;
    }

-- ---- of lists

passed_inside : (course : List Passed) (p : ℕ) (k : Bool) → (passed_in course p).known ≡ Some k → p < length course
passed_inside [] p k e = absurd cc
passed_inside (x ∷ course) zero k e = omega arith
passed_inside (x ∷ course) (suc p) k e = let lt = passed_inside course p k e in omega (arith, lt)

ways_inside : (course : List Passed) (p : ℕ) (w : Way) → IsAmong w (passed_in course p).ways → p < length course
ways_inside [] p w m = absurd m
ways_inside (x ∷ course) zero w m = omega arith
ways_inside (x ∷ course) (suc p) w m = let lt = ways_inside course p w m in omega (arith, lt)

pub tells_by : (course : List Passed) (sources : List Bool) (wanted : Bool) (turns : List (Option (Option ℕ))) → Solves (turning (length course) (passed_in course) (is_in sources) wanted) turns → TellsTurns (passed_in course) (is_in sources) wanted turns
tells_by course sources wanted turns s = solution_tells_turns (length course) (passed_in course) (is_in sources) wanted turns s (passed_inside course) (ways_inside course)
