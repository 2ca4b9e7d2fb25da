-- Reads that go as far as a tree does, and the loops of the reader.
use Rattle.std.proofs.Common.{◌≡◌, ℕ, zero, suc, ◌+◌, ◌<◌, ◌≤◌, List, ◌∷◌, length, refl, sym, ap, ◌∙◌, subst, arith, length-append, Some, None, Bool, true, false, cond}
use Rattle.jn_trees.specs.declared.token.TokenKind.{TokenKind}
use Rattle.jn_trees.specs.declared.token.TokenKind.TheVariants.{RightParen}
use Rattle.jn_trees.specs.Trees.{Tree, Trees}
use Rattle.jn_trees.specs.Spelling.{spell, spell_list}
use Rattle.jn_trees.specs.WellFormed.{nesting}
use Rattle.jn_trees.specs.Longest.{Try}
use Rattle.jn_parse_expr_law.specs.Follow.{reach_of}
use Rattle.jn_parse_expr_law.specs.Reader.{Got, TryAll, iterate, build, extend, go_on, bind, called}
use Rattle.jn_parse_expr_law.proofs.Sound.{Sound, SoundCall}

-- no more is left than `rest`; and just the tree, where what follows does not go on with a tree of rank i
abbrev pub ReadsAt : ℕ → Tree → List TokenKind → Try → Type 0
ReadsAt i t rest None = ⊥
ReadsAt i t rest (Some r) = (length r.1 ≤ length rest) × (i < reach_of rest → r ≡ (t, rest))

pub exact_of : (i : ℕ) (t : Tree) (rest : List TokenKind) (o : Try) → ReadsAt i t rest o → i < reach_of rest → o ≡ Some (t, rest)
exact_of i t rest None s lt = absurd s
exact_of i t rest (Some r) s lt = ap (λ q. Some q) (s.1 lt)

pub got_of : (i : ℕ) (t : Tree) (rest : List TokenKind) (o : Try) → ReadsAt i t rest o → (q : Got) × (o ≡ Some q) × (length q.1 ≤ length rest) × (i < reach_of rest → q ≡ (t, rest))
got_of i t rest None s = absurd s
got_of i t rest (Some r) s = (r, refl, s.0, s.1)

abbrev pub Shorter : List TokenKind → Try → Type 0
Shorter ts None = Unit {0}
Shorter ts (Some r) = length r.1 ≤ length ts

abbrev pub ShorterStep : (Tree → List TokenKind → Try) → Type 0
ShorterStep step = (t : Tree) (ts : List TokenKind) → Shorter ts (step t ts)

-- no step where what follows does not go on with rank i
abbrev pub StopsAt : ℕ → (Tree → List TokenKind → Try) → Type 0
StopsAt i step = (t : Tree) (ts : List TokenKind) → i < reach_of ts → step t ts ≡ None

shorter_iterate : (step : Tree → List TokenKind → Try) → ShorterStep step → (n : ℕ) (r : Got) → length (iterate step n r).1 ≤ length r.1
shorter_iterate step h zero r = omega arith
shorter_iterate step h (suc n) r =
    (elim (step r.0 r.1) as (λ o. Shorter r.1 o → length (elim o as (λ _. Got) [ None ↦ r | Some q ↦ iterate step n q ]).1 ≤ length r.1)
    [ None ↦ λ _. omega arith | Some q ↦ λ s. let ih = shorter_iterate step h n q in omega (arith, ih, s) ])
    (h r.0 r.1)

pub stop_iterate : (step : Tree → List TokenKind → Try) (n : ℕ) (r : Got) → step r.0 r.1 ≡ None → iterate step n r ≡ r
stop_iterate step zero r e = refl
stop_iterate step (suc n) r e = ap (λ (o : Try). elim o as (λ _. Got) [ None ↦ r | Some q ↦ iterate step n q ]) e

pub reads_go_on : (i j : ℕ) (step : Tree → List TokenKind → Try) → i ≤ j → ShorterStep step → StopsAt j step → (n : ℕ) (t : Tree) (rest : List TokenKind) (o : Try) → ReadsAt i t rest o → ReadsAt j t rest (go_on step n o)
reads_go_on i j step le h stops n t rest None s = absurd s
reads_go_on i j step le h stops n t rest (Some r) s =
    let short = shorter_iterate step h n r in
    (omega (arith, short, s.0), λ lt. subst (λ x. iterate step n x ≡ (t, rest)) (sym (s.1 (omega (arith, lt, le)))) (stop_iterate step n (t, rest) (stops t rest lt)))

pub reads_extend : (i j : ℕ) (step : Tree → List TokenKind → Try) → i ≤ j → ShorterStep step → StopsAt j step → (t : Tree) (rest : List TokenKind) (o : Try) → ReadsAt i t rest o → ReadsAt j t rest (extend step o)
reads_extend i j step le h stops t rest None s = absurd s
reads_extend i j step le h stops t rest (Some r) s =
    (elim (step r.0 r.1) as (λ o. Shorter r.1 o → (j < reach_of rest → o ≡ None) → ReadsAt j t rest (elim o [ None ↦ Some r | Some q ↦ Some q ])) [
      | None ↦ λ _ _. (s.0, λ lt. s.1 (omega (arith, lt, le)))
      | Some q ↦ λ short none. (omega (arith, short, s.0), λ lt. let e : Some q ≡ None = none lt in cc)
    ])
    (h r.0 r.1)
    (λ lt. subst (λ x. step x.0 x.1 ≡ None) (sym (s.1 (omega (arith, lt, le)))) (stops t rest lt))

-- a tree that is read up to `got`, from which n steps more are made
pub record Spine (i D : ℕ) (step : Tree → List TokenKind → Try) (t : Tree) (rest : List TokenKind) (o : Try) : Type 0 where
  pub n : ℕ
  pub got : Got
  pub read : o ≡ Some (iterate step n got)
  pub room : D ≤ n + nesting got.0
  pub shorter : length got.1 ≤ length rest
  pub exact : i < reach_of rest → got ≡ (t, rest)

pub spine_reads : (i j D : ℕ) (step : Tree → List TokenKind → Try) → i ≤ j → ShorterStep step → StopsAt j step → (t : Tree) (rest : List TokenKind) (o : Try) → Spine i D step t rest o → ReadsAt j t rest o
spine_reads i j D step le h stops t rest o s =
    let short = shorter_iterate step h s.n s.got in
    subst (λ x. ReadsAt j t rest x) (sym s.read)
    (omega (arith, short, s.shorter), λ lt. subst (λ x. iterate step s.n x ≡ (t, rest)) (sym (s.exact (omega (arith, lt, le)))) (stop_iterate step s.n (t, rest) (stops t rest lt)))

pub stepped : (step : Tree → List TokenKind → Try) (D n : ℕ) (l : Tree) (ts : List TokenKind) (q : Got) → D ≤ n + nesting l → nesting l < D → nesting l < nesting q.0 → step l ts ≡ Some q
    → (m : ℕ) × (iterate step n (l, ts) ≡ iterate step m q) × (D ≤ m + nesting q.0)
stepped step D zero l ts q room lt more e = absurd (omega (arith, room, lt))
stepped step D (suc n) l ts q room lt more e =
    (n, ap (λ (o : Try). elim o as (λ _. Got) [ None ↦ (l, ts) | Some p ↦ iterate step n p ]) e, omega (arith, room, lt, more))

-- one step from what was read exactly
abbrev pub spine_step : (i D : ℕ) (step : Tree → List TokenKind → Try) (l : Tree) (ts : List TokenKind) (o : Try) → Spine i D step l ts o → i < reach_of ts → nesting l < D
    → (q : Got) → step l ts ≡ Some q → nesting l < nesting q.0 → (t : Tree) (rest : List TokenKind) → length q.1 ≤ length rest → (i < reach_of rest → q ≡ (t, rest)) → Spine i D step t rest o
spine_step i D step l ts o s lt fits q e more t rest short exact =
    let same = s.exact lt in
    let room : D ≤ s.n + nesting l = subst (λ x. D ≤ s.n + nesting x.0) same s.room in
    let p = stepped step D s.n l ts q room fits more e in
    record { n = p.0; got = q; read = s.read ∙ ap (λ x. Some (iterate step s.n x)) same ∙ ap (λ x. Some x) p.1; room = p.2; shorter = short; exact = exact }

-- where a spine begins
abbrev pub spine_start : (i D : ℕ) (step : Tree → List TokenKind → Try) (o : Try) (q : Got) → o ≡ Some q → (t : Tree) (rest : List TokenKind) → length q.1 ≤ length rest → (i < reach_of rest → q ≡ (t, rest)) → Spine i D step t rest (go_on step D o)
spine_start i D step o q e t rest short exact =
    record { n = D; got = q; read = ap (λ x. go_on step D x) e; room = omega arith; shorter = short; exact = exact }

pub spine_from : (i D : ℕ) (step : Tree → List TokenKind → Try) (t : Tree) (rest : List TokenKind) (o : Try) → ReadsAt i t rest o → Spine i D step t rest (go_on step D o)
spine_from i D step t rest o s =
    let g = got_of i t rest o s in
    record { n = D; got = g.0; read = ap (λ x. go_on step D x) g.1; room = omega arith; shorter = g.2; exact = g.3 }

pub spine_exact : (i D : ℕ) (step : Tree → List TokenKind → Try) (t : Tree) (rest : List TokenKind) (o : Try) → Spine i D step t rest o → i < reach_of rest → step t rest ≡ None → o ≡ Some (t, rest)
spine_exact i D step t rest o s lt e = s.read ∙ ap (λ x. Some (iterate step s.n x)) (s.exact lt) ∙ ap (λ x. Some x) (stop_iterate step s.n (t, rest) e)

pub reads_build : (f : Tree → Tree) (i j : ℕ) (t : Tree) (rest : List TokenKind) (o : Try) → i ≤ j → ReadsAt i t rest o → ReadsAt j (f t) rest (build f o)
reads_build f i j t rest None le s = absurd s
reads_build f i j t rest (Some r) le s = (s.0, λ lt. ap (λ (q : Got). (f q.0, q.1)) (s.1 (omega (arith, lt, le))))

pub extend_from : (step : Tree → List TokenKind → Try) (t : Tree) (ts : List TokenKind) (i : ℕ) (u : Tree) (rest : List TokenKind) → ReadsAt i u rest (step t ts) → ReadsAt i u rest (extend step (Some (t, ts)))
extend_from step t ts i u rest s =
    (elim (step t ts) as (λ o. ReadsAt i u rest o → ReadsAt i u rest (elim o [ None ↦ Some (t, ts) | Some q ↦ Some q ])) [ None ↦ λ q. absurd q | Some q ↦ λ r. r ]) s

-- a read of exactly the left part, and then a step
pub extend_after : (step : Tree → List TokenKind → Try) (l : Tree) (ts : List TokenKind) (o p : Try) → o ≡ Some (l, ts) → step l ts ≡ p → (i : ℕ) (t : Tree) (rest : List TokenKind) → ReadsAt i t rest p → ReadsAt i t rest (extend step o)
extend_after step l ts o p e f i t rest s =
    subst (λ x. ReadsAt i t rest (extend step x)) (sym e) (extend_from step l ts i t rest (subst (λ x. ReadsAt i t rest x) (sym f) s))

-- what is sound is no longer
pub shorter_of : (i d : ℕ) (ts : List TokenKind) (o : Try) → Sound i d ts o → Shorter ts o
shorter_of i d ts None s = tt
shorter_of i d ts (Some r) s = omega (arith, ap length s.0, length-append (spell r.0) r.1)

pub shorter_when : (b : Bool) (ts : List TokenKind) (o : Try) → Shorter ts o → Shorter ts (cond b o None)
shorter_when true ts o s = s
shorter_when false ts o s = tt

pub shorter_by : (k : TokenKind) (ts : List TokenKind) (o : Try) → Shorter ts o → Shorter (k ∷ ts) o
shorter_by k ts None s = tt
shorter_by k ts (Some r) s = omega (arith, s)

pub shorter_build : (f : Tree → Tree) (ts : List TokenKind) (o : Try) → Shorter ts o → Shorter ts (build f o)
shorter_build f ts None s = tt
shorter_build f ts (Some r) s = s

pub shorter_bind : (f : Tree → List TokenKind → Try) → ((t : Tree) (ts : List TokenKind) → Shorter ts (f t ts)) → (ts : List TokenKind) (o : Try) → Shorter ts o → Shorter ts (bind o f)
shorter_bind f h ts None s = tt
shorter_bind f h ts (Some r) s =
    (elim (f r.0 r.1) as (λ o. Shorter r.1 o → Shorter ts o) [ None ↦ λ _. tt | Some q ↦ λ g. omega (arith, g, s) ]) (h r.0 r.1)

pub called_shorter : (d : ℕ) (t : Tree) (f : Trees → Tree) (ts : List TokenKind) (o : TryAll) → SoundCall d ts o → length (called t f ts o).1 ≤ length ts
called_shorter d t f ts None s = omega arith
called_shorter d t f ts (Some r) s = omega (arith, ap length s.0, length-append (spell_list RightParen r.0) r.1)

pub both_none : (b : Bool) → ◌≡◌ {A = Try} (cond b None None) None
both_none true = refl
both_none false = refl
