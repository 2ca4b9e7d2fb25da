-- Which task is which: those below the number of bodies are bodies, and each method that sends has a task after them.
use Rattle.std.proofs.Common.{◌≡◌, inl, inr, ℕ, suc, ◌+◌, ◌-◌, ◌<◌, ◌≤◌, Bool, true, false, cond, ◌||◌, List, [], ◌∷◌, length, Option, Some, None, refl, sym, ap, ◌∙◌, arith}
use Rattle.std.specs.Prelude.{filter, flat_map, slice_index_or}
use Rattle.std.proofs.lemmas.Bool.{ltb-true, lt-ltb}
use Rattle.jn_quals.specs.Qualifier.{Qualifier}
use Rattle.jn_points.specs.declared.program.Method.{Method}
use Rattle.jn_points.specs.declared.program.Program.{Program}
use Rattle.jn_points.specs.Lookup.{method_at}
use Rattle.jn_points.specs.Members.{some_of, below, is_pair, pairs_of}
use Rattle.jn_transfer.specs.Contributions.{IsSent}
use Rattle.jn_transfer.specs.Pairs.{overrides, overriders, override_sends, pair_sends}
use Rattle.jn_contrib.proofs.Fits.{Among, among_below, among_filter, there_below}
use Rattle.jn_tables_law.specs.Tasks.{task_count, is_body_task, task_method, task_sends}
use Rattle.jn_tables_law.specs.Inferable.{least_sends}

-- something that is sent is sent for one that passes
record Passes (p : ℕ → Bool) (xs : List ℕ) : Type 0 where
  pub one : ℕ
  pub does : p one ≡ true
  pub some : some_of p xs ≡ true

passes_next : (p : ℕ → Bool) (x : ℕ) (xs : List ℕ) → Passes p xs → (t : Bool) → (t || some_of p xs) ≡ true
passes_next p x xs r true = refl
passes_next p x xs r false = r.some

sent_passes : (p : ℕ → Bool) (f : ℕ → List (ℕ × Qualifier)) (x : ℕ × Qualifier) (xs : List ℕ) → IsSent x (flat_map f (filter p xs)) → Passes p xs
sent_passes p f x [] m = absurd m
sent_passes p f x (y ∷ xs) m = by (p y) refl (sent_passes p f x xs) m
  where
    by : (t : Bool) → p y ≡ t → (IsSent x (flat_map f (filter p xs)) → Passes p xs) → IsSent x (flat_map f (cond t (y ∷ filter p xs) (filter p xs))) → Passes p (y ∷ xs)
    by true e rest h = record { one = y; does = e; some = ap (λ (t : Bool). t || some_of p xs) e }
    by false e rest h = let r = rest h in record { one = r.one; does = r.does; some = passes_next p y xs r (p y) }

-- a number among others has a place there
record Place (k : ℕ) (xs : List ℕ) : Type 0 where
  pub at : ℕ
  pub inside : at < length xs
  pub is : slice_index_or xs at 0 ≡ k

place_of : (k : ℕ) (xs : List ℕ) → Among k xs → Place k xs
place_of k [] h = absurd h
place_of k (x ∷ xs) (inl e) = record { at = 0; inside = omega arith; is = sym e }
place_of k (x ∷ xs) (inr h) = let r = place_of k xs h in let lt = r.inside in record { at = suc r.at; inside = omega (arith, lt); is = r.is }

module _ (P : Program) where
  over_below : (m k : ℕ) → is_pair P m k ≡ true → m < length P.methods
  over_below m k p = by (method_at P m) refl
    where
      by : (o : Option Method) → method_at P m ≡ o → m < length P.methods
      by None e = absurd (let a = sym (ap (λ (o : Option Method). pairs_of P m k o (method_at P k)) e) ∙ p in cc)
      by (Some y) e = there_below Method P.methods m y e

  -- a method that sends is one of those that override
  sends_overrides : (s : List Qualifier) (m : ℕ) (x : ℕ × Qualifier) → IsSent x (pair_sends P s m) → Among m (overriders P)
  sends_overrides s m x h =
      let r = sent_passes (is_pair P m) (λ k. override_sends P s (method_at P m) (method_at P k)) x (below (length P.methods)) h in
      among_filter (overrides P) (below (length P.methods)) m r.some (among_below (length P.methods) m (over_below m r.one r.does))

  pub body_task : (s : List Qualifier) (t : ℕ) → t < length P.bodies → task_sends P s t ≡ least_sends P s t
  body_task s t lt = ap (λ (c : Bool). cond c (least_sends P s t) (pair_sends P s (task_method P t))) (lt-ltb t (length P.bodies) lt)

  pub pair_task : (s : List Qualifier) (t : ℕ) → is_body_task P t ≡ false → task_sends P s t ≡ pair_sends P s (task_method P t)
  pair_task s t e = ap (λ (c : Bool). cond c (least_sends P s t) (pair_sends P s (task_method P t))) e

  -- the task of a method that sends
  pub record TaskOf (m : ℕ) : Type 0 where
    pub task : ℕ
    pub inside : task < task_count P
    pub behind : is_body_task P task ≡ false
    pub method : task_method P task ≡ m

  not_body : (t : ℕ) → length P.bodies ≤ t → is_body_task P t ≡ false
  not_body t le = by (is_body_task P t) refl
    where
      by : (c : Bool) → is_body_task P t ≡ c → c ≡ false
      by true e = let lt = ltb-true t (length P.bodies) e in absurd (omega (arith, lt, le))
      by false e = refl

  pub task_of : (s : List Qualifier) (m : ℕ) (x : ℕ × Qualifier) → IsSent x (pair_sends P s m) → TaskOf m
  task_of s m x h =
      let r = place_of m (overriders P) (sends_overrides s m x h) in
      let at = r.at in
      let lt = r.inside in
      let back : length P.bodies + at - length P.bodies ≡ at = omega arith in
      record {
        task = length P.bodies + r.at;
        inside = omega (arith, lt);
        behind = not_body (length P.bodies + r.at) (omega arith);
        method = ap (λ (j : ℕ). slice_index_or (overriders P) j 0) back ∙ r.is;
      }
