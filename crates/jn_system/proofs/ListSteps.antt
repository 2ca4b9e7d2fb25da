-- Steps of the code that lists the words that a body reads.
use Rattle.std.proofs.Common.{◌≡◌, ℕ, zero, suc, ◌+◌, ◌/◌, ◌<◌, ◌≤◌, ◌==◌, Bool, true, false, ◌||◌, ◌&&◌, ltb, List, [], ◌∷◌, ◌++◌, length, drop, Option, refl, sym, ap, ◌∙◌, subst, arith, eqb-true, eq-eqb}
use Rattle.std.specs.Prelude.{slice_get, slice_index_or}
use Rattle.std.proofs.lemmas.List.{at_drop_more}
use Rattle.std.proofs.lemmas.Bool.{and_parts, and_from, ltb-true, lt-ltb}
use Rattle.jn_base.specs.declared.number.SlotNo.{SlotNo}
use Rattle.jn_base.specs.declared.number.WordNo.{WordNo}
use Rattle.jn_points.specs.declared.point.Point.{Point}
use Rattle.jn_points.specs.declared.program.Body.{Body}
use Rattle.jn_points.specs.declared.program.Program.{Program}
use Rattle.jn_points.specs.Lookup.{body_at, method_at, method_in, points_of}
use Rattle.jn_sigtable.specs.System.{IsReadList, WordsOnce, lists_word}
use Rattle.jn_inference_law.specs.Inference.{inference, words_for, task_reads}
use Rattle.jn_inference_law.specs.Reading.{slot_list, slot_lists, given_reads, methods_reads, has_word, kind_reads, points_reads, body_reads}
use Rattle.jn_system.specs.ReadLists.{Adds}
use Rattle.jn_system.proofs.ReadSteps.{has_word-append}

or_next : (a b c : Bool) → (a || (b || c)) ≡ ((a || b) || c)
or_next true b c = refl
or_next false b c = refl

or_none : (a : Bool) → (a || false) ≡ a
or_none true = refl
or_none false = refl

and_none : (a : Bool) → (a && false) ≡ false
and_none true = refl
and_none false = refl

and_or : (t a b : Bool) → (t && (a || b)) ≡ ((t && a) || (t && b))
and_or true a b = refl
and_or false a b = refl

pub listed_more : (ws : List WordNo) (w i : ℕ) (d : WordNo) (found more all : Bool) → i < length ws → more ≡ (found || ((slice_index_or ws i d).0 == w)) → (found || lists_word (drop i ws) w) ≡ all → (more || lists_word (drop (i + 1) ws) w) ≡ all
listed_more ws w i d found more all lt e h =
    ap (λ (t : Bool). t || lists_word (drop (i + 1) ws) w) e
    ∙ sym (or_next found ((slice_index_or ws i d).0 == w) (lists_word (drop (i + 1) ws) w))
    ∙ ap (λ (t : Bool). found || t) (sym (at_drop_more (λ (vs : List WordNo). lists_word vs w) ws i d lt))
    ∙ h

-- a word that stands at some place is listed
pub at_listed : (ws : List WordNo) (w i : ℕ) (d : WordNo) → i < length ws → ((slice_index_or ws i d).0 == w) ≡ true → lists_word ws w ≡ true
at_listed [] w i d lt e = absurd (omega (arith, lt))
at_listed (x ∷ ws) w zero d lt e = ap (λ (t : Bool). t || lists_word ws w) e
at_listed (x ∷ ws) w (suc i) d lt e = behind (x.0 == w) (at_listed ws w i d (omega (arith, lt)) e)
  where
    behind : (t : Bool) → lists_word ws w ≡ true → (t || lists_word ws w) ≡ true
    behind true h = refl
    behind false h = h

pub adds_none : (n : ℕ) (list : List WordNo) → Adds n [] list list
adds_none n list = record { words = λ w. sym (ap (λ (t : Bool). lists_word list w || t) (and_none (ltb w n)) ∙ or_none (lists_word list w)); once = λ h. h }

pub adds_both : (n : ℕ) (xs ys : List ℕ) (a b c : List WordNo) → Adds n xs a b → Adds n ys b c → Adds n (xs ++ ys) a c
adds_both n xs ys a b c h k = record {
  words = λ w.
      k.words w
      ∙ ap (λ (t : Bool). t || (ltb w n && has_word w ys)) (h.words w)
      ∙ sym (or_next (lists_word a w) (ltb w n && has_word w xs) (ltb w n && has_word w ys))
      ∙ ap (λ (t : Bool). lists_word a w || t) (sym (and_or (ltb w n) (has_word w xs) (has_word w ys)) ∙ ap (λ (t : Bool). ltb w n && t) (sym (has_word-append w xs ys)));
  once = λ o. k.once (h.once o);
}

-- the list stays where the word is past the last, or stands there
stays : (n i : ℕ) (list : List WordNo) → ((w : ℕ) → (i / 21 == w) ≡ true → (ltb w n && true) ≡ true → lists_word list w ≡ true) → Adds n (i ∷ []) list list
stays n i list h = record { words = λ w. same w (i / 21 == w) refl (ltb w n) refl; once = λ o. o }
  where
    same : (w : ℕ) (t : Bool) → (i / 21 == w) ≡ t → (u : Bool) → ltb w n ≡ u → lists_word list w ≡ (lists_word list w || (u && (t || false)))
    same w true e true f = go (lists_word list w) (h w e (ap (λ (s : Bool). s && true) f))
      where
        go : (s : Bool) → s ≡ true → s ≡ (s || true)
        go true e = refl
        go false e = e
    same w true e false f = sym (or_none (lists_word list w))
    same w false e true f = sym (or_none (lists_word list w))
    same w false e false f = sym (or_none (lists_word list w))

ltb_below : (w n : ℕ) → ltb w n ≡ true → w < n
ltb_below w n e = ltb-true w n e

below_ltb : (w n : ℕ) → w < n → ltb w n ≡ true
below_ltb w n lt = lt-ltb w n lt

pub adds_past : (n i : ℕ) (list : List WordNo) → n ≤ i / 21 → Adds n (i ∷ []) list list
adds_past n i list le = stays n i list (λ w e f. let a = eqb-true (i / 21) w e in let c = ltb_below w n ((and_parts (ltb w n) true f).0) in absurd (omega (arith, le, a, c)))

pub adds_listed : (n i : ℕ) (list : List WordNo) → lists_word list (i / 21) ≡ true → Adds n (i ∷ []) list list
adds_listed n i list h = stays n i list (λ w e f. ap (lists_word list) (sym (eqb-true (i / 21) w e)) ∙ h)

pushed_lists : (list : List WordNo) (x : WordNo) (w : ℕ) → lists_word (list ++ x ∷ []) w ≡ (lists_word list w || (x.0 == w))
pushed_lists [] x w = or_none (x.0 == w)
pushed_lists (y ∷ list) x w = ap (λ (t : Bool). (y.0 == w) || t) (pushed_lists list x w) ∙ or_next (y.0 == w) (lists_word list w) (x.0 == w)

pushed_once : (list : List WordNo) (x : WordNo) → WordsOnce list → lists_word list x.0 ≡ false → WordsOnce (list ++ x ∷ [])
pushed_once [] x o h = (refl, tt)
pushed_once (y ∷ list) x o h =
    let p = both_false (y.0 == x.0) (lists_word list x.0) h in
    (pushed_lists list x y.0 ∙ ap (λ (t : Bool). t || (x.0 == y.0)) o.0 ∙ turned (x.0 == y.0) refl p.0, pushed_once list x o.1 p.1)
  where
    both_false : (a b : Bool) → (a || b) ≡ false → (a ≡ false) × (b ≡ false)
    both_false true b e = absurd cc
    both_false false b e = (refl, e)

    turned : (t : Bool) → (x.0 == y.0) ≡ t → (y.0 == x.0) ≡ false → (x.0 == y.0) ≡ false
    turned true e f = let g = eq-eqb y.0 x.0 (sym (eqb-true x.0 y.0 e)) in cc
    turned false e f = e

pub adds_pushed : (n i : ℕ) (list more : List WordNo) (x : WordNo) → x.0 ≡ i / 21 → i / 21 < n → lists_word list (i / 21) ≡ false → more ≡ list ++ x ∷ [] → Adds n (i ∷ []) list more
adds_pushed n i list more x is lt h e = record {
  words = λ w. ap (λ (ws : List WordNo). lists_word ws w) e ∙ pushed_lists list x w ∙ ap (λ (t : Bool). lists_word list w || t) (ap (λ (k : ℕ). k == w) is ∙ one w (i / 21 == w) refl);
  once = λ o. subst WordsOnce (sym e) (pushed_once list x o (ap (lists_word list) is ∙ h));
}
  where
    one : (w : ℕ) (t : Bool) → (i / 21 == w) ≡ t → t ≡ (ltb w n && (t || false))
    one w true s = sym (ap (λ (u : Bool). u && true) (below_ltb w n (let a = eqb-true (i / 21) w s in omega (arith, a, lt))))
    one w false s = sym (and_none (ltb w n))

-- none is left
pub slots_end : (n : ℕ) (xs : List (Option SlotNo)) (i : ℕ) (list : List WordNo) → length xs ≤ i → Adds n (slot_lists (drop i xs)) list list
slots_end n [] zero list le = adds_none n list
slots_end n [] (suc i) list le = adds_none n list
slots_end n (x ∷ xs) zero list le = absurd (omega (arith, le))
slots_end n (x ∷ xs) (suc i) list le = slots_end n xs i list (omega (arith, le))

pub points_end : (P : Program) (n : ℕ) (pts : List Point) (i : ℕ) (list : List WordNo) → length pts ≤ i → Adds n (points_reads P (drop i pts)) list list
points_end P n [] zero list le = adds_none n list
points_end P n [] (suc i) list le = adds_none n list
points_end P n (x ∷ pts) zero list le = absurd (omega (arith, le))
points_end P n (x ∷ pts) (suc i) list le = points_end P n pts i list (omega (arith, le))

-- the points of a body that is there
pub points_there : (bodies : List Body) (b : ℕ) (info : Body) → b < length bodies → info ≡ slice_index_or bodies b info → points_of (slice_get bodies b) ≡ info.points
points_there [] b info lt e = absurd (omega (arith, lt))
points_there (x ∷ bodies) zero info lt e = ap (λ (y : Body). y.points) (sym e)
points_there (x ∷ bodies) (suc b) info lt e = points_there bodies b info (omega (arith, lt)) e

-- one slot more of a list, and one point more
pub adds_slots : (n : ℕ) (xs : List (Option SlotNo)) (i : ℕ) (d : Option SlotNo) (first list next more : List WordNo) → i < length xs → Adds n (slot_list (slice_index_or xs i d)) list next → ((last : List WordNo) → Adds n (slot_lists (drop i xs)) list last → Adds n (slot_lists xs) first last) → Adds n (slot_lists (drop (i + 1) xs)) next more → Adds n (slot_lists xs) first more
adds_slots n xs i d first list next more lt a h k =
    h more (subst (λ (is : List ℕ). Adds n is list more) (sym (at_drop_more slot_lists xs i d lt)) (adds_both n (slot_list (slice_index_or xs i d)) (slot_lists (drop (i + 1) xs)) list next more a k))

pub adds_points : (P : Program) (n : ℕ) (pts : List Point) (i : ℕ) (d : Point) (first list next more : List WordNo) → i < length pts → Adds n (kind_reads P (slice_index_or pts i d).kind) list next → ((last : List WordNo) → Adds n (points_reads P (drop i pts)) list last → Adds n (points_reads P pts) first last) → Adds n (points_reads P (drop (i + 1) pts)) next more → Adds n (points_reads P pts) first more
adds_points P n pts i d first list next more lt a h k =
    h more (subst (λ (is : List ℕ). Adds n is list more) (sym (at_drop_more (points_reads P) pts i d lt)) (adds_both n (kind_reads P (slice_index_or pts i d).kind) (points_reads P (drop (i + 1) pts)) list next more a k))

pub adds_methods : (P : Program) (n : ℕ) (ks : List ℕ) (i d : ℕ) (first list next more : List WordNo) → i < length ks → Adds n (given_reads (method_at P (slice_index_or ks i d))) list next → ((last : List WordNo) → Adds n (methods_reads P (drop i ks)) list last → Adds n (methods_reads P ks) first last) → Adds n (methods_reads P (drop (i + 1) ks)) next more → Adds n (methods_reads P ks) first more
adds_methods P n ks i d first list next more lt a h k =
    h more (subst (λ (is : List ℕ). Adds n is list more) (sym (at_drop_more (methods_reads P) ks i d lt)) (adds_both n (given_reads (method_at P (slice_index_or ks i d))) (methods_reads P (drop (i + 1) ks)) list next more a k))

pub methods_end : (P : Program) (n : ℕ) (ks : List ℕ) (i : ℕ) (list : List WordNo) → length ks ≤ i → Adds n (methods_reads P (drop i ks)) list list
methods_end P n [] zero list le = adds_none n list
methods_end P n [] (suc i) list le = adds_none n list
methods_end P n (x ∷ ks) zero list le = absurd (omega (arith, le))
methods_end P n (x ∷ ks) (suc i) list le = methods_end P n ks i list (omega (arith, le))

-- the words of a body that is there
pub body_list : (P : Program) (n b : ℕ) (given list : List WordNo) (pts : List Point) → points_of (body_at P b) ≡ pts → Adds n (given_reads (method_in P b)) [] given → Adds n (points_reads P pts) given list → Adds n (body_reads P b) [] list
body_list P n b given list pts at h k = adds_both n (given_reads (method_in P b)) (points_reads P (points_of (body_at P b))) [] given list h (subst (λ (ps : List Point). Adds n (points_reads P ps) given list) (sym at) k)

-- a list of a task's words
pub task_list : (P : Program) (n t : ℕ) (list : List WordNo) (slots : List ℕ) → n ≡ words_for (length P.slots) → task_reads P t ≡ slots → Adds n slots [] list → IsReadList (inference P) t list
task_list P n t list slots e is h = record {
  only = λ w there.
      let p = and_parts (ltb w n) (has_word w (task_reads P t)) (sym (all.words w) ∙ there) in
      (let lt = ltb_below w n p.0 in omega (arith, lt, e), p.1);
  all = λ w lt there. all.words w ∙ and_from (ltb w n) (has_word w (task_reads P t)) (below_ltb w n (omega (arith, lt, e))) there;
  once = all.once tt;
}
  where
    all : Adds n (task_reads P t) [] list
    all = subst (λ (is : List ℕ). Adds n is [] list) (sym is) h
