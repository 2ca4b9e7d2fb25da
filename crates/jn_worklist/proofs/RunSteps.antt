-- How one step of a body changes what is known.
use Rattle.std.proofs.Common.{◌≡◌, ◌≢◌, ◌⊎◌, ℕ, zero, suc, ◌+◌, ◌-◌, ◌/◌, ◌%◌, ◌<◌, ◌≤◌, ◌==◌, ◌&&◌, ◌||◌, not, Bool, true, false, if◌then◌else◌, Option, Some, None, List, [], ◌∷◌, length, set, take, drop, replicate, get_or, get_or-set_same, get_or-set_other, add-one, filter, sym, refl, ap, ◌∙◌, subst, inl, inr, ⊎_elim, arith, true≢false, length-set, eq-eqb, ne_eqb}
use mathlib.Core.Logic.{dite}
use native.Mathlib.Decide.{ℕ_discrete}
use Rattle.std.specs.Prelude.{slice_index}
use Rattle.std.specs.Int.{bit_at}
use Rattle.std.proofs.lemmas.Bool.{eqb-true}
use Rattle.std.proofs.lemmas.Nat.Bits.{bit_at-zero}
use Rattle.jn_sigtable.specs.declared.view.View.{View}
use Rattle.jn_base.specs.declared.number.WordNo.{WordNo}
use Rattle.jn_sigtable.specs.System.{System, IsReadList, lists_word}
use Rattle.jn_sigtable.specs.Machine.{Has, has, HasReadAll, HasRaisedAll, IsAtRest, MayMark, is_marked, own_marked, own_owed, after_read, after_mark, described}
use Rattle.jn_sigtable.proofs.Keeping.{both_true, has_filter, filter_has, none_from}
use Rattle.jn_worklist.specs.Plans.{IsDue, IsNoneDue}
use Rattle.jn_worklist.specs.Runs.{IsReading, IsMarking, RaisedOwn, HasRun}

pub has_true : (xs : List ℕ) (x : ℕ) → Has xs x → has xs x ≡ true
has_true [] x h = absurd h
has_true (y ∷ xs) x h = ⊎_elim (λ e. ap (λ (t : Bool). t || has xs x) (eq-eqb y x e)) (λ r. ap (λ (t : Bool). (y == x) || t) (has_true xs x r) ∙ or_true (y == x)) h
  where
    or_true : (t : Bool) → (t || true) ≡ true
    or_true true = refl
    or_true false = refl

-- a body that is among the marks set is ended, and was owed
module _ (d ones : ℕ) (owed : List ℕ) (all : (b : ℕ) → is_marked d ones b ≡ true → Has owed b) where
  owed_marks : (o : Option ℕ) → (own_marked o d ones && not (own_owed o owed)) ≡ false
  owed_marks None = refl
  owed_marks (Some b) = go (is_marked d ones b) (has owed b) (λ e. has_true owed b (all b e))
    where
      go : (t u : Bool) → (t ≡ true → u ≡ true) → (t && not u) ≡ false
      go true true h = refl
      go true false h = sym (h refl)
      go false u h = refl

-- the first words of a list, and one more
words_step : (ws : List WordNo) (i : ℕ) (x : WordNo) (u : ℕ) → i < length ws → x ≡ get_or ws i x → lists_word (take (suc i) ws) u ≡ true → (x.0 ≡ u) ⊎ (lists_word (take i ws) u ≡ true)
words_step [] i x u lt e h = absurd (omega arith)
words_step (y ∷ ws) zero x u lt e h = inl (ap (λ (z : WordNo). z.0) e ∙ eqb-true y.0 u (only (y.0 == u) h))
  where
    only : (t : Bool) → (t || false) ≡ true → t ≡ true
    only true h = refl
    only false h = h
words_step (y ∷ ws) (suc i) x u lt e h = go (y.0 == u) (words_step ws i x u (omega arith) e) h
  where
    go : (t : Bool) → (lists_word (take (suc i) ws) u ≡ true → (x.0 ≡ u) ⊎ (lists_word (take i ws) u ≡ true)) → (t || lists_word (take (suc i) ws) u) ≡ true → (x.0 ≡ u) ⊎ ((t || lists_word (take i ws) u) ≡ true)
    go true rest h = inr refl
    go false rest h = rest h

words_more : (ws : List WordNo) (i : ℕ) (x : WordNo) → i < length ws → x ≡ get_or ws i x → (u : ℕ) → lists_word (take (i + 1) ws) u ≡ true → (x.0 ≡ u) ⊎ (lists_word (take i ws) u ≡ true)
words_more ws i x lt e u h = words_step ws i x u lt e (subst (λ (k : ℕ). lists_word (take k ws) u ≡ true) (add-one i) h)

-- a word of the list is one that the body reads
pub word_there : (ws : List WordNo) (i : ℕ) (x : WordNo) → i < length ws → x ≡ get_or ws i x → lists_word ws x.0 ≡ true
word_there [] i x lt e = absurd (omega arith)
word_there (y ∷ ws) zero x lt e = ap (λ (t : Bool). t || lists_word ws x.0) (eq-eqb y.0 x.0 (ap (λ (z : WordNo). z.0) (sym e)))
word_there (y ∷ ws) (suc i) x lt e = go (y.0 == x.0) (word_there ws i x (omega arith) e)
  where
    go : (t : Bool) → lists_word ws x.0 ≡ true → (t || lists_word ws x.0) ≡ true
    go true h = refl
    go false h = h

pub word_read : (sys : System) (b : ℕ) (ws : List WordNo) (i : ℕ) (x : WordNo) → i < length ws → x ≡ get_or ws i x → IsReadList sys b ws → (x.0 < sys.words) × (sys.reads b x.0 ≡ true)
word_read sys b ws i x lt e list = list.only x.0 (word_there ws i x lt e)

listed_step : (ws : List WordNo) (i u : ℕ) → lists_word (take i ws) u ≡ true → lists_word (take (suc i) ws) u ≡ true
listed_step [] zero u h = absurd (true≢false (sym h))
listed_step [] (suc i) u h = absurd (true≢false (sym h))
listed_step (y ∷ ws) zero u h = absurd (true≢false (sym h))
listed_step (y ∷ ws) (suc i) u h = go (y.0 == u) (listed_step ws i u) h
  where
    go : (t : Bool) → (lists_word (take i ws) u ≡ true → lists_word (take (suc i) ws) u ≡ true) → (t || lists_word (take i ws) u) ≡ true → (t || lists_word (take (suc i) ws) u) ≡ true
    go true rest h = refl
    go false rest h = rest h

listed_more : (ws : List WordNo) (i u : ℕ) → lists_word (take i ws) u ≡ true → lists_word (take (i + 1) ws) u ≡ true
listed_more ws i u h = subst (λ (k : ℕ). lists_word (take k ws) u ≡ true) (sym (add-one i)) (listed_step ws i u h)

this_step : (ws : List WordNo) (i : ℕ) (x : WordNo) → i < length ws → x ≡ get_or ws i x → lists_word (take (suc i) ws) x.0 ≡ true
this_step [] i x lt e = absurd (omega arith)
this_step (y ∷ ws) zero x lt e = ap (λ (t : Bool). t || false) (eq-eqb y.0 x.0 (ap (λ (z : WordNo). z.0) (sym e)))
this_step (y ∷ ws) (suc i) x lt e = go (y.0 == x.0) (this_step ws i x (omega arith) e)
  where
    go : (t : Bool) → lists_word (take (suc i) ws) x.0 ≡ true → (t || lists_word (take (suc i) ws) x.0) ≡ true
    go true h = refl
    go false h = h

listed_this : (ws : List WordNo) (i : ℕ) (x : WordNo) → i < length ws → x ≡ get_or ws i x → lists_word (take (i + 1) ws) x.0 ≡ true
listed_this ws i x lt e = subst (λ (k : ℕ). lists_word (take k ws) x.0 ≡ true) (sym (add-one i)) (this_step ws i x lt e)

-- ---- clearing
-- where a listed word is written, the words after it are those that may not be zero
drops_step : (ws : List WordNo) (i : ℕ) (x : WordNo) (u : ℕ) → i < length ws → x ≡ get_or ws i x → lists_word (drop i ws) u ≡ true → (x.0 ≡ u) ⊎ (lists_word (drop (suc i) ws) u ≡ true)
drops_step [] i x u lt e h = absurd (omega arith)
drops_step (y ∷ ws) zero x u lt e h = go (y.0 == u) refl h
  where
    go : (t : Bool) → (y.0 == u) ≡ t → (t || lists_word ws u) ≡ true → (x.0 ≡ u) ⊎ (lists_word ws u ≡ true)
    go true is h = inl (ap (λ (z : WordNo). z.0) e ∙ eqb-true y.0 u is)
    go false is h = inr h
drops_step (y ∷ ws) (suc i) x u lt e h = drops_step ws i x u (omega arith) e h

pub clears_more : (values : List ℕ) (ws : List WordNo) (i : ℕ) (x : WordNo) → i < length ws → x ≡ get_or ws i x → x.0 < length values
    → ((u : ℕ) → (slice_index values u ≡ 0) ⊎ (lists_word (drop i ws) u ≡ true)) → (u : ℕ) → (slice_index (set values x.0 0) u ≡ 0) ⊎ (lists_word (drop (i + 1) ws) u ≡ true)
clears_more values ws i x lt at inside h u = dite (ℕ_discrete u x.0)
    (λ s. inl (ap (slice_index (set values x.0 0)) s ∙ get_or-set_same values x.0 0 0 inside))
    (λ ne. ⊎_elim
    (λ z. inl (get_or-set_other values x.0 u 0 0 ne ∙ z))
    (λ l. inr (subst (λ (k : ℕ). lists_word (drop k ws) u ≡ true) (sym (add-one i)) (⊎_elim (λ s. absurd (ne (sym s))) (λ r. r) (drops_step ws i x u lt at l))))
    (h u))

-- a list without a number but zero
pub zeros_are : (values : List ℕ) → ((u : ℕ) → slice_index values u ≡ 0) → values ≡ replicate (length values) 0
zeros_are [] h = refl
zeros_are (n ∷ values) h = λ i. h 0 i ∷ zeros_are values (λ u. h (suc u)) i

past_drop : (ws : List WordNo) (i u : ℕ) → length ws ≤ i → lists_word (drop i ws) u ≡ true → ⊥
past_drop [] zero u le h = true≢false (sym h)
past_drop [] (suc i) u le h = true≢false (sym h)
past_drop (y ∷ ws) zero u le h = absurd (omega arith)
past_drop (y ∷ ws) (suc i) u le h = past_drop ws i u (omega arith) h

pub cleared_all : (values : List ℕ) (ws : List WordNo) (i : ℕ) → length ws ≤ i → ((u : ℕ) → (slice_index values u ≡ 0) ⊎ (lists_word (drop i ws) u ≡ true)) → values ≡ replicate (length values) 0
cleared_all values ws i le h = zeros_are values (λ u. ⊎_elim (λ z. z) (λ l. absurd (past_drop ws i u le l)) (h u))

-- ---- the bits of one dirty word are cleared
pub due_left : (due : List ℕ) (d x : ℕ) → d < length due → IsDue (set due d 0) x → IsDue due x × (x / 64 ≢ d)
due_left due d x inside is = dite (ℕ_discrete (x / 64) d)
    (λ s.
    let z : slice_index (set due d 0) (x / 64) ≡ 0 = ap (slice_index (set due d 0)) s ∙ get_or-set_same due d 0 0 inside in
    let o = bit_at-zero (x % 64) in let p : bit_at 0 (x % 64) ≡ 1 = ap (λ (y : ℕ). bit_at y (x % 64)) (sym z) ∙ is in absurd (omega arith))
    (λ ne. (ap (λ (y : ℕ). bit_at y (x % 64)) (sym (get_or-set_other due d (x / 64) 0 0 ne)) ∙ is, ne))

due_else : (due : List ℕ) (d x : ℕ) → x / 64 ≢ d → IsDue due x → IsDue (set due d 0) x
due_else due d x ne is = ap (λ (y : ℕ). bit_at y (x % 64)) (get_or-set_other due d (x / 64) 0 0 ne) ∙ is

-- no bit of a word that is zero is set
pub due_over : (due : List ℕ) (d x : ℕ) → slice_index due d ≡ 0 → IsDue due x → x / 64 ≢ d
due_over due d x none is s =
    let o = bit_at-zero (x % 64) in let p : bit_at 0 (x % 64) ≡ 1 = ap (λ (y : ℕ). bit_at y (x % 64)) (sym none) ∙ (ap (λ (y : ℕ). bit_at (slice_index due y) (x % 64)) (sym s) ∙ is) in omega arith

module _ {C : Type 0} (describe : C → System) where
  reads_on : (sys : System) (b : ℕ) (from v w : View (Option C)) (values : List ℕ) (done more : List WordNo) (u n : ℕ) → IsReading sys b from v values done → w ≡ after_read (described describe) v u n → ((x : ℕ) → lists_word more x ≡ true → (u ≡ x) ⊎ (lists_word done x ≡ true)) → ((x : ℕ) → lists_word done x ≡ true → lists_word more x ≡ true) → lists_word more u ≡ true → IsReading sys b from w (set values u n) more
  reads_on sys b from v w values done more u n h e f still this = record {
    body = ap (λ (x : View (Option C)). x.body) e ∙ h.body;
    owed = ap (λ (x : View (Option C)). x.owed) e ∙ h.owed;
    raised = ap (λ (x : View (Option C)). x.raised) e ∙ h.raised;
    same_share = ap (λ (x : View (Option C)). x.share) e ∙ h.same_share;
    same_taken = ap (λ (x : View (Option C)). x.taken) e ∙ h.same_taken;
    are = ap (λ (x : View (Option C)). x.values) e ∙ ap (λ (l : List ℕ). set l u n) h.are;
    count = ap (λ (x : View (Option C)). length x.values) e ∙ (length-set v.values u n ∙ h.count);
    read = λ x m. subst (λ (l : List ℕ). Has l x) (sym (ap (λ (y : View (Option C)). y.read) e)) (⊎_elim (λ s. inl s) (λ r. inr (h.read x r)) (f x m));
    rest = λ x. dite (ℕ_discrete x u)
        (λ s. inr (subst (λ (y : ℕ). lists_word more y ≡ true) (sym s) this))
        (λ ne. ⊎_elim (λ z. inl (get_or-set_other values u x n 0 ne ∙ z)) (λ r. inr (still x r)) (h.rest x));
  }

  -- one word more of the list
  pub reads_more : (sys : System) (b : ℕ) (from v w : View (Option C)) (values : List ℕ) (ws : List WordNo) (i : ℕ) (x : WordNo) (n : ℕ) → i < length ws → x ≡ get_or ws i x → IsReading sys b from v values (take i ws) → w ≡ after_read (described describe) v x.0 n → IsReading sys b from w (set values x.0 n) (take (i + 1) ws)
  reads_more sys b from v w values ws i x n lt at h e = reads_on sys b from v w values (take i ws) (take (i + 1) ws) x.0 n h e (words_more ws i x lt at) (listed_more ws i) (listed_this ws i x lt at)

  is_due : (due : List ℕ) (d x : ℕ) → is_marked d (slice_index due d) x ≡ true → (x / 64 ≡ d) × IsDue due x
  is_due due d x e =
      let t = both_true (x / 64 == d) (bit_at (slice_index due d) (x % 64) == 1) e in
      let place : x / 64 ≡ d = eqb-true (x / 64) d t.0 in
      (place, ap (λ (y : ℕ). bit_at (slice_index due y) (x % 64)) place ∙ eqb-true (bit_at (slice_index due d) (x % 64)) 1 t.1)

  all_owed : (sys : System) (b : ℕ) (from v : View (Option C)) (d : ℕ) (due : List ℕ) → IsMarking sys b from v due → (x : ℕ) → is_marked d (slice_index due d) x ≡ true → Has v.owed x
  all_owed sys b from v d due h x e = let p = is_due due d x e in (h.owes x).1 p.1

  pub may_mark : (sys : System) (b : ℕ) (from v : View (Option C)) (d : ℕ) (due : List ℕ) → IsMarking sys b from v due → MayMark v d (slice_index due d)
  may_mark sys b from v d due h x e = inl (all_owed sys b from v d due h x e)

  not_true : (t : Bool) → not t ≡ true → t ≡ false
  not_true true e = absurd (true≢false (sym e))
  not_true false e = refl

  -- the running body after a mark: none where its own bit was set
  still_or_none : (t : Bool) (b : ℕ) (X : Type 0) → (t ≡ true → X) → ((if t then None else Some b) ≡ Some b) ⊎ (((if t then None else Some b) ≡ None) × X)
  still_or_none true b X f = inr (refl, f refl)
  still_or_none false b X f = inl refl

  none_kept : (t : Bool) (x : Option ℕ) → x ≡ None → (if t then None else x) ≡ None
  none_kept true x e = refl
  none_kept false x e = e

  pub marks_on : (sys : System) (b : ℕ) (from v w : View (Option C)) (d : ℕ) (due : List ℕ) → IsMarking sys b from v due → d < length due → w ≡ after_mark (described describe) v d (slice_index due d) → IsMarking sys b from w (set due d 0)
  marks_on sys b from v w d due h inside e =
      let ones : ℕ = slice_index due d in
      let owed : w.owed ≡ filter (λ x. not (is_marked d ones x)) v.owed = ap (λ (x : View (Option C)). x.owed) e in
      let body : w.body ≡ (if own_marked v.body d ones then None else v.body) = ap (λ (x : View (Option C)). x.body) e in
      let none_given : (own_marked v.body d ones && not (own_owed v.body v.owed)) ≡ false = owed_marks d ones v.owed (all_owed sys b from v d due h) v.body in
      let own : RaisedOwn sys v b → RaisedOwn sys w b = λ r. subst (λ (x : View (Option C)). RaisedOwn sys x b) (sym e) r in
      record {
        same_share = ap (λ (x : View (Option C)). x.share) e ∙ h.same_share;
        same_taken = ap (λ (x : View (Option C)). x.taken) e ∙ (ap (λ (t : Bool). if t then (v.taken - 1) else v.taken) none_given ∙ h.same_taken);
        body = ⊎_elim
            (λ runs.
            let now : w.body ≡ (if is_marked d ones b then None else Some b) = body ∙ ap (λ (x : Option ℕ). if own_marked x d ones then None else x) runs in
            subst (λ (x : Option ℕ). (x ≡ Some b) ⊎ ((x ≡ None) × RaisedOwn sys w b)) (sym now)
            (still_or_none (is_marked d ones b) b (RaisedOwn sys w b) (λ t. own (h.own (is_due due d b t).1))))
            (λ r. inr (body ∙ none_kept (own_marked v.body d ones) v.body r.0, own r.1))
            h.body;
        read = subst (λ (x : View (Option C)). HasReadAll sys x b) (sym e) h.read;
        raised = subst (λ (x : View (Option C)). HasRaisedAll sys x b) (sym e) h.raised;
        owes = λ x. (
          (λ has.
              let p = filter_has (λ y. not (is_marked d ones y)) v.owed x (subst (λ (l : List ℕ). Has l x) owed has) in
              let was : IsDue due x = (h.owes x).0 p.0 in
              let out : is_marked d ones x ≡ false = not_true (is_marked d ones x) p.1 in
              due_else due d x (λ s. true≢false (sym (marked_here due d x s was) ∙ out)) was),
          (λ is.
              let p = due_left due d x inside is in
              subst (λ (l : List ℕ). Has l x) (sym owed)
              (has_filter (λ y. not (is_marked d ones y)) v.owed x (ap not (marked_else due d x p.1)) ((h.owes x).1 p.0))),
        );
        own = λ is. own (h.own (due_left due d b inside is).0);
      }
    where
      marked_here : (due : List ℕ) (d x : ℕ) → x / 64 ≡ d → IsDue due x → is_marked d (slice_index due d) x ≡ true
      marked_here due d x s is = λ i. eq-eqb (x / 64) d s i && eq-eqb (bit_at (slice_index due d) (x % 64)) 1 (ap (λ (y : ℕ). bit_at (slice_index due y) (x % 64)) (sym s) ∙ is) i

      marked_else : (due : List ℕ) (d x : ℕ) → x / 64 ≢ d → is_marked d (slice_index due d) x ≡ false
      marked_else due d x ne = ap (λ (t : Bool). t && (bit_at (slice_index due d) (x % 64) == 1)) (ne_eqb (x / 64) d ne)

  some_same : (o b : ℕ) → Some o ≡ Some b → o ≡ b
  some_same o b e = cc

  none_some : (b : ℕ) → None ≡ Some b → ⊥
  none_some b e = cc

  -- where all marks are set, the pass is at rest, and the body has been run
  module _ (sys : System) (b : ℕ) (from v : View (Option C)) (due : List ℕ) (h : IsMarking sys b from v due) (none : IsNoneDue due) where
    pub marks_rest : IsAtRest sys v
    marks_rest = (
      none_from v.owed (λ x has. none x ((h.owes x).0 has)),
      λ x runs. ⊎_elim
          (λ is. subst (λ (y : ℕ). HasReadAll sys v y × HasRaisedAll sys v y) (some_same b x (sym is ∙ runs)) (h.read, h.raised))
          (λ r. absurd (none_some x (sym r.0 ∙ runs)))
          h.body,
    )

    pub marks_run : HasRun sys b from v
    marks_run = record { taken = h.same_taken; body = h.body }
