-- Steps of the code that makes a plan.
use Rattle.std.proofs.Common.{◌≡◌, ◌≢◌, ℕ, zero, suc, ◌+◌, ◌<◌, ◌≤◌, ◌==◌, ◌||◌, cond, Bool, true, false, List, [], ◌∷◌, ◌++◌, length, map, filter, take, get_or, set, replicate, sym, refl, ap, ◌∙◌, arith, add-one, append-nil, eqb-true, eq-eqb, ne_eqb, length-set, get_or-set_same, get_or-set_other, true≢false}
use mathlib.Core.Logic.{dite}
use native.Mathlib.Decide.{ℕ_discrete}
use Rattle.std.specs.List.{range_with_len}
use Rattle.std.proofs.lemmas.List.{ext_get_or, length-replicate, get_or-replicate}
use Rattle.std.proofs.lemmas.List.FromFn.{filter_of_map_range_with_len_more, get_or-map-range_with_len, length-map-range_with_len}
use Rattle.jn_base.specs.declared.number.BodyNo.{BodyNo}
use Rattle.jn_base.specs.declared.number.WordNo.{WordNo}
use Rattle.jn_sigtable.specs.System.{System, IsReadList, WordsOnce, lists_word}
use Rattle.jn_worklist.specs.Plans.{body_no, readers_of, plan_of, ArePlanned}
use Rattle.jn_worklist.proofs.RunSteps.{word_read}

-- what the first words of a list are, with one more
taken_step : (ws : List WordNo) (i : ℕ) (x : WordNo) (u : ℕ) → i < length ws → x ≡ get_or ws i x → lists_word (take (suc i) ws) u ≡ (lists_word (take i ws) u || (x.0 == u))
taken_step [] i x u lt e = absurd (omega arith)
taken_step (y ∷ ws) zero x u lt e = or_none (y.0 == u) ∙ ap (λ (z : WordNo). z.0 == u) (sym e)
  where
    or_none : (a : Bool) → (a || false) ≡ a
    or_none true = refl
    or_none false = refl
taken_step (y ∷ ws) (suc i) x u lt e = ap (λ (t : Bool). (y.0 == u) || t) (taken_step ws i x u (omega arith) e) ∙ or_next (y.0 == u) (lists_word (take i ws) u) (x.0 == u)
  where
    or_next : (a b c : Bool) → (a || (b || c)) ≡ ((a || b) || c)
    or_next true b c = refl
    or_next false b c = refl

-- a word is not among those before it
not_before : (ws : List WordNo) (i : ℕ) (x : WordNo) → WordsOnce ws → i < length ws → x ≡ get_or ws i x → lists_word (take i ws) x.0 ≡ false
not_before [] i x once lt e = absurd (omega arith)
not_before (y ∷ ws) zero x once lt e = refl
not_before (y ∷ ws) (suc i) x once lt e = ap (λ (t : Bool). t || lists_word (take i ws) x.0) (apart (y.0 == x.0) refl) ∙ not_before ws i x once.1 (omega arith) e
  where
    there : (vs : List WordNo) (k : ℕ) → k < length vs → x ≡ get_or vs k x → lists_word vs x.0 ≡ true
    there [] k lt e = absurd (omega arith)
    there (z ∷ vs) zero lt e = ap (λ (t : Bool). t || lists_word vs x.0) (eq-eqb z.0 x.0 (ap (λ (v : WordNo). v.0) (sym e)))
    there (z ∷ vs) (suc k) lt e = go (z.0 == x.0) (there vs k (omega arith) e)
      where
        go : (t : Bool) → lists_word vs x.0 ≡ true → (t || lists_word vs x.0) ≡ true
        go true h = refl
        go false h = h

    apart : (t : Bool) → (y.0 == x.0) ≡ t → (y.0 == x.0) ≡ false
    apart true s =
        let same : y.0 ≡ x.0 = eqb-true y.0 x.0 s in
        absurd (true≢false (sym (ap (lists_word ws) same ∙ there ws i (omega arith) e) ∙ once.0))
    apart false s = s

pub word_inside : (sys : System) (b : ℕ) (added : List WordNo) (readers : List (List BodyNo)) (ws : List WordNo) (i : ℕ) (x : WordNo) → i < length ws → x ≡ get_or ws i x → IsReadList sys b ws → ArePlanned sys b added readers → x.0 < length readers
word_inside sys b added readers ws i x lt e list h = let w = (word_read sys b ws i x lt e list).0 in let c = h.count in omega arith

-- one word more
pub planned_more : (sys : System) (b : ℕ) (readers more : List (List BodyNo)) (ws : List WordNo) (i : ℕ) (x : WordNo) → i < length ws → x ≡ get_or ws i x → IsReadList sys b ws → more ≡ set readers x.0 (get_or readers x.0 [] ++ body_no b ∷ []) → ArePlanned sys b (take i ws) readers → ArePlanned sys b (take (i + 1) ws) more
planned_more sys b readers more ws i x lt e list is h = record {
  count = ap (λ (l : List (List BodyNo)). length l) is ∙ length-set readers x.0 (get_or readers x.0 [] ++ body_no b ∷ []) ∙ h.count;
  each = λ w less. dite (ℕ_discrete w x.0) (λ same. here w less same) (λ ne. elsewhere w less ne);
}
  where
    before : ℕ → List BodyNo
    before w = filter (λ c. sys.reads c.0 w) (map body_no (range_with_len 0 b))

    here : (w : ℕ) → w < sys.words → w ≡ x.0 → get_or more w [] ≡ before w ++ cond (lists_word (take (i + 1) ws) w) (body_no b ∷ []) []
    here w less same =
        let room : x.0 < length readers = let c = h.count in omega arith in
        let now : lists_word (take (i + 1) ws) w ≡ true =
        ap (λ (k : ℕ). lists_word (take k ws) w) (add-one i) ∙ taken_step ws i x w lt e ∙ or_true (lists_word (take i ws) w) (x.0 == w) (eq-eqb x.0 w (sym same)) in
        let was : lists_word (take i ws) x.0 ≡ false = not_before ws i x list.once lt e in
        let old : get_or readers x.0 [] ≡ before x.0 = h.each x.0 (omega arith) ∙ ap (λ (t : Bool). before x.0 ++ cond t (body_no b ∷ []) []) was ∙ append-nil (before x.0) in
        ap (λ (l : List (List BodyNo)). get_or l w []) is
        ∙ ap (λ (k : ℕ). get_or (set readers x.0 (get_or readers x.0 [] ++ body_no b ∷ [])) k []) same
        ∙ get_or-set_same readers x.0 (get_or readers x.0 [] ++ body_no b ∷ []) [] room
        ∙ ap (λ (l : List BodyNo). l ++ body_no b ∷ []) (old ∙ ap before (sym same))
        ∙ ap (λ (t : Bool). before w ++ cond t (body_no b ∷ []) []) (sym now)
      where
        or_true : (a c : Bool) → c ≡ true → (a || c) ≡ true
        or_true true c e = refl
        or_true false c e = e

    elsewhere : (w : ℕ) → w < sys.words → w ≢ x.0 → get_or more w [] ≡ before w ++ cond (lists_word (take (i + 1) ws) w) (body_no b ∷ []) []
    elsewhere w less ne =
        let same : lists_word (take i ws) w ≡ lists_word (take (i + 1) ws) w =
        sym (ap (λ (k : ℕ). lists_word (take k ws) w) (add-one i) ∙ taken_step ws i x w lt e ∙ ap (λ (t : Bool). lists_word (take i ws) w || t) (ne_eqb x.0 w (λ s. ne (sym s))) ∙ or_none (lists_word (take i ws) w)) in
        ap (λ (l : List (List BodyNo)). get_or l w []) is
        ∙ get_or-set_other readers x.0 w (get_or readers x.0 [] ++ body_no b ∷ []) [] ne
        ∙ h.each w less
        ∙ ap (λ (t : Bool). before w ++ cond t (body_no b ∷ []) []) same
      where
        or_none : (a : Bool) → (a || false) ≡ a
        or_none true = refl
        or_none false = refl

-- one body more
pub planned_body : (sys : System) (b : ℕ) (readers : List (List BodyNo)) (ws : List WordNo) (i : ℕ) → length ws ≤ i → IsReadList sys b ws → ArePlanned sys b (take i ws) readers → ArePlanned sys (b + 1) [] readers
planned_body sys b readers ws i le list h = record {
  count = h.count;
  each = λ w less.
      h.each w less
      ∙ ap (λ (t : Bool). filter (λ c. sys.reads c.0 w) (map body_no (range_with_len 0 b)) ++ cond t (body_no b ∷ []) []) (reads w less)
      ∙ sym (filter_of_map_range_with_len_more (λ c. sys.reads c.0 w) body_no 0 b b (omega arith))
      ∙ sym (append-nil (filter (λ c. sys.reads c.0 w) (map body_no (range_with_len 0 (b + 1)))));
}
  where
    whole : (vs : List WordNo) (k : ℕ) → length vs ≤ k → take k vs ≡ vs
    whole [] zero le = refl
    whole [] (suc k) le = refl
    whole (v ∷ vs) zero le = absurd (omega arith)
    whole (v ∷ vs) (suc k) le = ap (λ (l : List WordNo). v ∷ l) (whole vs k (omega arith))

    reads : (w : ℕ) → w < sys.words → lists_word (take i ws) w ≡ sys.reads b w
    reads w less = ap (λ (l : List WordNo). lists_word l w) (whole ws i le) ∙ both (lists_word ws w) (sys.reads b w) (λ e. (list.only w e).1) (list.all w less)
      where
        both : (a c : Bool) → (a ≡ true → c ≡ true) → (c ≡ true → a ≡ true) → a ≡ c
        both true c f g = sym (f refl)
        both false true f g = g refl
        both false false f g = refl

pub planned_none : (sys : System) (n : ℕ) (readers : List (List BodyNo)) → n ≡ sys.words → readers ≡ replicate n [] → ArePlanned sys 0 [] readers
planned_none sys n readers e is = record {
  count = ap (λ (l : List (List BodyNo)). length l) is ∙ length-replicate n [] ∙ e;
  each = λ w less. ap (λ (l : List (List BodyNo)). get_or l w []) is ∙ get_or-replicate n w [] [] (omega arith);
}

pub planned_all : (sys : System) (n : ℕ) (readers : List (List BodyNo)) → n ≡ sys.bodies → ArePlanned sys n [] readers → readers ≡ plan_of sys
planned_all sys n readers e h =
    let long = length-map-range_with_len (readers_of sys) 0 sys.words in
    ext_get_or [] readers (plan_of sys) (h.count ∙ sym long) (λ w lt.
    let less : w < sys.words = let c = h.count in omega arith in
    h.each w less
    ∙ append-nil (filter (λ b. sys.reads b.0 w) (map body_no (range_with_len 0 n)))
    ∙ ap (λ (k : ℕ). filter (λ b. sys.reads b.0 w) (map body_no (range_with_len 0 k))) e
    ∙ sym (get_or-map-range_with_len (readers_of sys) 0 sys.words w w [] less (omega arith)))
