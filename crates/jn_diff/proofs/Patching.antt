-- Hunks make the old lines the new ones.
use Rattle.std.proofs.Common.{◌≡◌, ℕ, zero, suc, ◌+◌, ◌-◌, ◌≤◌, ◌==◌, ◌||◌, Bool, true, false, not, cond, List, [], ◌∷◌, ◌++◌, length, refl, sym, ap, ◌∙◌, subst, arith, append_assoc, length-drop}
use Rattle.std.specs.Prelude.{bytes_eq, drop, take}
use Rattle.std.specs.List.{list_any}
use Rattle.std.proofs.lemmas.Bool.{false≢true}
use Rattle.std.proofs.lemmas.Slice.Eq.{bytes_eq-Decides}
use Rattle.jn_diff.specs.declared.line.Line.{Line}
use Rattle.jn_diff.specs.Hunks.{due_behind, Hunk, hunks_from, is_changed, is_shown, shown_count}
use Rattle.jn_diff.specs.Lines.{against, alone, is_added, lines_of, more_lines, onto, paired, side_by_side}
use Rattle.jn_diff.specs.Patch.{news, olds, Patches, there}
use Rattle.jn_diff.proofs.Showing.{none_begins, one_begins}

there_more : (b : ℕ) (bs : List ℕ) → there (b ∷ bs) ≡ (b ∷ bs) ∷ []
there_more b bs = ap (λ c. cond (not c) ((b ∷ bs) ∷ []) []) (not_zero (length bs))
  where
    not_zero : (n : ℕ) → (suc n == 0) ≡ false
    not_zero n = grind arith

-- lines of a text, each of which has a byte
abbrev AreThere : List (List ℕ) → Type 0
AreThere [] = Unit {0}
AreThere (l ∷ ls) = (there l ≡ l ∷ []) × AreThere ls

onto_there : (b : ℕ) (ls : List (List ℕ)) → AreThere ls → AreThere (onto b ls)
onto_there b [] all = (there_more b [], tt)
onto_there b (l ∷ ls) all = (there_more b l, all.1)

either_there : (b : ℕ) (ls : List (List ℕ)) (c : Bool) → AreThere ls → AreThere (cond c ((b ∷ []) ∷ ls) (onto b ls))
either_there b ls true all = (there_more b [], all)
either_there b ls false all = onto_there b ls all

lines_there : (text : List ℕ) → AreThere (lines_of text)
lines_there [] = tt
lines_there (b ∷ bs) = either_there b (lines_of bs) (b == 10) (lines_there bs)

old_alone : (os : List (List ℕ)) → AreThere os → olds (alone os) ≡ os
old_alone [] all = refl
old_alone (o ∷ os) all = ap (λ x. x ++ olds (alone os)) all.0 ∙ ap (λ x. o ∷ x) (old_alone os all.1)

new_alone : (os : List (List ℕ)) → news (alone os) ≡ []
new_alone [] = refl
new_alone (o ∷ os) = new_alone os

old_lines : (extra : ℕ) (os ns : List (List ℕ)) → AreThere os → olds (side_by_side extra os ns) ≡ os
old_lines extra os [] all = old_alone os all
old_lines extra [] (n ∷ ns) all = old_lines extra [] ns tt
old_lines extra (o ∷ os) (n ∷ ns) all = by (is_added extra o n) (old_lines (extra - 1) (o ∷ os) ns all) (old_lines extra os ns all.1)
  where
    by : (c : Bool) → olds (side_by_side (extra - 1) (o ∷ os) ns) ≡ o ∷ os → olds (side_by_side extra os ns) ≡ os → olds (cond c (against [] n ∷ side_by_side (extra - 1) (o ∷ os) ns) (against o n ∷ side_by_side extra os ns)) ≡ o ∷ os
    by true e f = e
    by false e f = ap (λ x. x ++ olds (side_by_side extra os ns)) all.0 ∙ ap (λ x. o ∷ x) f

new_lines : (extra : ℕ) (os ns : List (List ℕ)) → AreThere ns → news (side_by_side extra os ns) ≡ ns
new_lines extra os [] all = new_alone os
new_lines extra [] (n ∷ ns) all = ap (λ x. x ++ news (side_by_side extra [] ns)) all.0 ∙ ap (λ x. n ∷ x) (new_lines extra [] ns all.1)
new_lines extra (o ∷ os) (n ∷ ns) all = by (is_added extra o n) (new_lines (extra - 1) (o ∷ os) ns all.1) (new_lines extra os ns all.1)
  where
    by : (c : Bool) → news (side_by_side (extra - 1) (o ∷ os) ns) ≡ ns → news (side_by_side extra os ns) ≡ ns → news (cond c (against [] n ∷ side_by_side (extra - 1) (o ∷ os) ns) (against o n ∷ side_by_side extra os ns)) ≡ n ∷ ns
    by true e f = ap (λ x. x ++ news (side_by_side (extra - 1) (o ∷ os) ns)) all.0 ∙ ap (λ x. n ∷ x) e
    by false e f = ap (λ x. x ++ news (side_by_side extra os ns)) all.0 ∙ ap (λ x. n ∷ x) f

-- a line that doesn't change is there in both texts
abbrev IsSame : Line → Type 0
IsSame l = is_changed l ≡ false → (there l.old ≡ l.old ∷ []) × (l.new ≡ l.old)

abbrev AllSame : List Line → Type 0
AllSame [] = Unit {0}
AllSame (l ∷ ls) = IsSame l × AllSame ls

same_bytes : (o n : List ℕ) → bytes_eq o n ≡ true → o ≡ n
same_bytes o n h = (bytes_eq-Decides o n).0 h

kept_equal : (b : Bool) → not b ≡ false → b ≡ true
kept_equal true e = refl
kept_equal false e = absurd (false≢true (sym e))

nowhere : (line : List ℕ) → line ≡ [] → there line ≡ line ∷ [] → ⊥
nowhere [] e t = cc
nowhere (b ∷ bs) e t = cc

same_alone : (os : List (List ℕ)) → AreThere os → AllSame (alone os)
same_alone [] all = tt
same_alone (o ∷ os) all = (λ kept. absurd (nowhere o (same_bytes o [] (kept_equal (bytes_eq o []) kept)) all.0), same_alone os all.1)

same_added : (n : List ℕ) → there n ≡ n ∷ [] → IsSame (against [] n)
same_added n is = λ kept. absurd (nowhere n (sym (same_bytes [] n (kept_equal (bytes_eq [] n) kept))) is)

all_same : (extra : ℕ) (os ns : List (List ℕ)) → AreThere os → AreThere ns → AllSame (side_by_side extra os ns)
all_same extra os [] all more = same_alone os all
all_same extra [] (n ∷ ns) all more = (same_added n more.0, all_same extra [] ns tt more.1)
all_same extra (o ∷ os) (n ∷ ns) all more = by (is_added extra o n) (all_same (extra - 1) (o ∷ os) ns all more.1) (all_same extra os ns all.1 more.1)
  where
    by : (c : Bool) → AllSame (side_by_side (extra - 1) (o ∷ os) ns) → AllSame (side_by_side extra os ns) → AllSame (cond c (against [] n ∷ side_by_side (extra - 1) (o ∷ os) ns) (against o n ∷ side_by_side extra os ns))
    by true e f = (same_added n more.0, e)
    by false e f = (λ kept. (all.0, sym (same_bytes o n (kept_equal (bytes_eq o n) kept))), f)

all_drop : (n : ℕ) (ls : List Line) → AllSame ls → AllSame (drop n ls)
all_drop zero [] all = all
all_drop zero (l ∷ ls) all = all
all_drop (suc n) [] all = all
all_drop (suc n) (l ∷ ls) all = all_drop n ls all.1

olds_split : (n : ℕ) (ls : List Line) → olds ls ≡ olds (take n ls) ++ olds (drop n ls)
olds_split zero [] = refl
olds_split zero (l ∷ ls) = refl
olds_split (suc n) [] = refl
olds_split (suc n) (l ∷ ls) = ap (λ x. there l.old ++ x) (olds_split n ls) ∙ sym (append_assoc (there l.old) (olds (take n ls)) (olds (drop n ls)))

news_split : (n : ℕ) (ls : List Line) → news ls ≡ news (take n ls) ++ news (drop n ls)
news_split zero [] = refl
news_split zero (l ∷ ls) = refl
news_split (suc n) [] = refl
news_split (suc n) (l ∷ ls) = ap (λ x. there l.new ++ x) (news_split n ls) ∙ sym (append_assoc (there l.new) (news (take n ls)) (news (drop n ls)))

few_or_none : (c : Bool) (m n : ℕ) → m ≤ n → cond c (suc m) 0 ≤ suc n
few_or_none true m n le = omega (arith, le)
few_or_none false m n le = omega arith

shown_few : (due : ℕ) (ls : List Line) → shown_count due ls ≤ length ls
shown_few due [] = omega arith
shown_few due (l ∷ ls) = few_or_none (is_shown due (l ∷ ls)) (shown_count (due_behind due l) ls) (length ls) (shown_few (due_behind due l) ls)

take_few : (n : ℕ) (ls : List Line) → n ≤ length ls → length (take n ls) ≡ n
take_few zero [] le = refl
take_few zero (l ∷ ls) le = refl
take_few (suc n) [] le = absurd (omega (arith, le))
take_few (suc n) (l ∷ ls) le = ap suc (take_few n ls (omega (arith, le)))

-- one line more that is the same
prepend : (at : ℕ) (hs : List Hunk) (x : List ℕ) (o n : List (List ℕ)) → Patches (at + 1) hs o n → Patches at hs (x ∷ o) (x ∷ n)
prepend at [] x o n e = ap (λ ys. x ∷ ys) e
prepend at (h ∷ hs) x o n (same, more, others, first, old, new, rest) = (x ∷ same, more, others, omega (arith, first), ap (λ ys. x ∷ ys) old, ap (λ ys. x ∷ ys) new, rest)

hidden : (c : Bool) (n : ℕ) → cond c (suc n) 0 ≡ 0 → c ≡ false
hidden true n e = absurd (omega (arith, e))
hidden false n e = refl

first_false : (a b : Bool) → (a || b) ≡ false → a ≡ false
first_false true b e = e
first_false false b e = refl

-- the lines of a text that are the same up to here
abbrev PatchedFrom : ℕ → List Line → Type 0
PatchedFrom at ls = Patches at (hunks_from at 0 ls) (olds ls) (news ls)

module _ (at : ℕ) (l : Line) (ls : List Line) (same : IsSame l) where
  none : shown_count 0 (l ∷ ls) ≡ 0 → PatchedFrom (at + 1) ls → PatchedFrom at (l ∷ ls)
  none is rest =
      let kept = first_false (is_changed l) (list_any is_changed (take 3 ls)) (hidden (is_shown 0 (l ∷ ls)) (shown_count (due_behind 0 l) ls) is) in
      let s = same kept in
      let new : there l.new ≡ l.old ∷ [] = ap there s.1 ∙ s.0 in
      subst (λ hs. Patches at hs (olds (l ∷ ls)) (news (l ∷ ls))) (none_begins at (l ∷ ls) (omega arith) is)
      (subst (λ x. Patches at (hunks_from (at + 1) 0 ls) (x ++ olds ls) (there l.new ++ news ls)) (sym s.0)
      (subst (λ x. Patches at (hunks_from (at + 1) 0 ls) (l.old ∷ olds ls) (x ++ news ls)) (sym new)
      (prepend at (hunks_from (at + 1) 0 ls) l.old (olds ls) (news ls) rest)))

  some : (n : ℕ) → shown_count 0 (l ∷ ls) ≡ suc n → PatchedFrom (at + suc n) (drop n ls) → PatchedFrom at (l ∷ ls)
  some n is rest =
      let few = shown_few 0 (l ∷ ls) in
      let long : length (take (suc n) (l ∷ ls)) ≡ suc n = take_few (suc n) (l ∷ ls) (omega (arith, few, is)) in
      subst (λ hs. Patches at hs (olds (l ∷ ls)) (news (l ∷ ls))) (sym (one_begins at (suc n) (l ∷ ls) is (λ e. absurd (omega (arith, e))))) (
        [],
        olds (drop n ls),
        news (drop n ls),
        omega arith,
        olds_split (suc n) (l ∷ ls),
        news_split (suc n) (l ∷ ls),
        subst (λ k. Patches (at + k) (hunks_from (at + suc n) 0 (drop n ls)) (olds (drop n ls)) (news (drop n ls))) (sym long) rest,
      )

patched_from : (fuel at : ℕ) (ls : List Line) → length ls ≤ fuel → AllSame ls → PatchedFrom at ls
patched_from fuel at [] le all = refl
patched_from zero at (l ∷ ls) le all = absurd (omega (arith, le))
patched_from (suc fuel) at (l ∷ ls) le all = by (shown_count 0 (l ∷ ls)) refl (patched_from fuel)
  where
    by : (n : ℕ) → shown_count 0 (l ∷ ls) ≡ n → ((k : ℕ) (ms : List Line) → length ms ≤ fuel → AllSame ms → PatchedFrom k ms) → PatchedFrom at (l ∷ ls)
    by zero is rest = none at l ls all.0 is (rest (at + 1) ls (omega (arith, le)) all.1)
    by (suc n) is rest = some at l ls all.0 n is (rest (at + suc n) (drop n ls) (let d = length-drop n ls in omega (arith, le, d)) (all_drop n ls all.1))

pub patched : (old new : List ℕ) → Patches 1 (hunks_from 1 0 (paired old new)) (lines_of old) (lines_of new)
patched old new =
    let os = lines_of old in
    let ns = lines_of new in
    let extra = more_lines os ns in
    let lines = side_by_side extra os ns in
    let all = all_same extra os ns (lines_there old) (lines_there new) in
    subst (λ x. Patches 1 (hunks_from 1 0 lines) x ns) (old_lines extra os ns (lines_there old))
    (subst (λ x. Patches 1 (hunks_from 1 0 lines) (olds lines) x) (new_lines extra os ns (lines_there new))
    (patched_from (length lines) 1 lines (omega arith) all))
