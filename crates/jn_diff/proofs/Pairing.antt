-- Lines of two texts, read one by one.
use Rattle.std.proofs.Common.{◌≡◌, ℕ, suc, ◌+◌, ◌-◌, ◌<◌, ◌==◌, ◌&&◌, Bool, true, false, not, cond, List, [], ◌∷◌, ◌++◌, length, refl, sym, ap, ◌∙◌, arith, append_assoc, length-drop}
use Rattle.std.specs.Prelude.{bytes_eq, drop, ltb, take}
use Rattle.std.proofs.lemmas.Bool.{false≢true}
use Rattle.jn_diff.specs.declared.line.Line.{Line}
use Rattle.jn_diff.specs.Lines.{against, alone, is_added, is_there, line_length, lines_of, onto, paired_by, side_by_side}

-- the first line stands before the others
pub first_of : (b : ℕ) (bs : List ℕ) → lines_of (b ∷ bs) ≡ take (line_length (b ∷ bs)) (b ∷ bs) ∷ lines_of (drop (line_length (b ∷ bs)) (b ∷ bs))
first_of b [] = ended (b == 10)
  where
    ended : (c : Bool) → cond c ((b ∷ []) ∷ []) ((b ∷ []) ∷ []) ≡ take (cond c 1 1) (b ∷ []) ∷ lines_of (drop (cond c 1 1) (b ∷ []))
    ended true = refl
    ended false = refl
first_of b (d ∷ ds) = goes_on (b == 10) (first_of d ds)
  where
    goes_on : (c : Bool) → lines_of (d ∷ ds) ≡ take (line_length (d ∷ ds)) (d ∷ ds) ∷ lines_of (drop (line_length (d ∷ ds)) (d ∷ ds)) → cond c ((b ∷ []) ∷ lines_of (d ∷ ds)) (onto b (lines_of (d ∷ ds))) ≡ take (cond c 1 (suc (line_length (d ∷ ds)))) (b ∷ d ∷ ds) ∷ lines_of (drop (cond c 1 (suc (line_length (d ∷ ds)))) (b ∷ d ∷ ds))
    goes_on true more = refl
    goes_on false more = ap (onto b) more

-- the first line of a text, and what stands after it
abbrev line_in : List ℕ → List ℕ
line_in text = take (line_length text) text

abbrev behind_in : List ℕ → List ℕ
behind_in text = drop (line_length text) text

alone_next : (a : ℕ) (as' : List ℕ) (extra : ℕ) → paired_by extra (a ∷ as') [] ≡ against (line_in (a ∷ as')) [] ∷ paired_by extra (behind_in (a ∷ as')) []
alone_next a as' extra = ap alone (first_of a as')

-- the next lines stand against each other, or the new text's is added
pub next_pair : (extra : ℕ) (o n : List ℕ) → 0 < length o + length n → paired_by extra o n ≡ cond (is_added extra (line_in o) (line_in n)) (against [] (line_in n) ∷ paired_by (extra - 1) o (behind_in n)) (against (line_in o) (line_in n) ∷ paired_by extra (behind_in o) (behind_in n))
next_pair extra [] [] some = absurd (omega (arith, some))
next_pair extra [] (b ∷ bs) some =
    ap (side_by_side extra []) (first_of b bs)
    ∙ sym (ap (λ c. cond c (against [] (line_in (b ∷ bs)) ∷ paired_by (extra - 1) [] (behind_in (b ∷ bs))) (against [] (line_in (b ∷ bs)) ∷ paired_by extra [] (behind_in (b ∷ bs)))) (never (ltb 0 extra) (is_there (line_in (b ∷ bs))) (not (bytes_eq [] (line_in (b ∷ bs))))))
  where
    never : (x y z : Bool) → (x && false && y && z) ≡ false
    never true y z = refl
    never false y z = refl
next_pair extra (a ∷ as') [] some =
    alone_next a as' extra
    ∙ sym (ap (λ c. cond c (against [] [] ∷ paired_by (extra - 1) (a ∷ as') []) (against (line_in (a ∷ as')) [] ∷ paired_by extra (behind_in (a ∷ as')) [])) (never (ltb 0 extra) (is_there (line_in (a ∷ as'))) (not (bytes_eq (line_in (a ∷ as')) []))))
  where
    never : (x y z : Bool) → (x && y && false && z) ≡ false
    never true true z = refl
    never true false z = refl
    never false y z = refl
next_pair extra (a ∷ as') (b ∷ bs) some =
    ap (λ ls. side_by_side extra ls (lines_of (b ∷ bs))) (first_of a as')
    ∙ ap (side_by_side extra (line_in (a ∷ as') ∷ lines_of (behind_in (a ∷ as')))) (first_of b bs)
    ∙ ap (λ ls. cond (is_added extra (line_in (a ∷ as')) (line_in (b ∷ bs))) (against [] (line_in (b ∷ bs)) ∷ side_by_side (extra - 1) ls (lines_of (behind_in (b ∷ bs)))) (against (line_in (a ∷ as')) (line_in (b ∷ bs)) ∷ paired_by extra (behind_in (a ∷ as')) (behind_in (b ∷ bs)))) (sym (first_of a as'))

-- one that is added
pub next_added : (extra : ℕ) (o n b n' : List ℕ) (c : Bool) → 0 < length o + length n → b ≡ line_in n → n' ≡ behind_in n → c ≡ is_added extra (line_in o) (line_in n) → c ≡ true → paired_by extra o n ≡ against [] b ∷ paired_by (extra - 1) o n'
next_added extra o n b n' c some new others tells is =
    next_pair extra o n some
    ∙ ap (λ x. cond x (against [] (line_in n) ∷ paired_by (extra - 1) o (behind_in n)) (against (line_in o) (line_in n) ∷ paired_by extra (behind_in o) (behind_in n))) (sym tells ∙ is)
    ∙ ap (λ x. against [] x ∷ paired_by (extra - 1) o (behind_in n)) (sym new) ∙ ap (λ x. against [] b ∷ paired_by (extra - 1) o x) (sym others)

-- one that stands against another
pub next_both : (extra : ℕ) (o n a b o' n' : List ℕ) (c : Bool) → 0 < length o + length n → a ≡ line_in o → b ≡ line_in n → o' ≡ behind_in o → n' ≡ behind_in n → c ≡ is_added extra (line_in o) (line_in n) → c ≡ false → paired_by extra o n ≡ against a b ∷ paired_by extra o' n'
next_both extra o n a b o' n' c some old new rest others tells is =
    next_pair extra o n some
    ∙ ap (λ x. cond x (against [] (line_in n) ∷ paired_by (extra - 1) o (behind_in n)) (against (line_in o) (line_in n) ∷ paired_by extra (behind_in o) (behind_in n))) (sym tells ∙ is)
    ∙ ap (λ x. against x (line_in n) ∷ paired_by extra (behind_in o) (behind_in n)) (sym old) ∙ ap (λ x. against a x ∷ paired_by extra (behind_in o) (behind_in n)) (sym new)
    ∙ ap (λ x. against a b ∷ paired_by extra x (behind_in n)) (sym rest) ∙ ap (λ x. against a b ∷ paired_by extra o' x) (sym others)

-- after all lines there is none
pub no_pair : (extra : ℕ) (o n : List ℕ) → length o + length n ≡ 0 → paired_by extra o n ≡ []
no_pair extra [] [] none = refl
no_pair extra [] (b ∷ bs) none = absurd (omega (arith, none))
no_pair extra (a ∷ as') [] none = absurd (omega (arith, none))
no_pair extra (a ∷ as') (b ∷ bs) none = absurd (omega (arith, none))

-- each pair takes some of the texts
pub line_some : (b : ℕ) (bs : List ℕ) → 0 < line_length (b ∷ bs)
line_some b bs = some (b == 10)
  where
    some : (c : Bool) → 0 < cond c 1 (suc (line_length bs))
    some true = omega arith
    some false = omega arith

drop_less : (k : ℕ) (xs : List ℕ) → 0 < k → 0 < length xs → length (drop k xs) < length xs
drop_less k xs some there = omega (arith, length-drop k xs, some, there)

pub shorter : (o n : List ℕ) → 0 < length o + length n → length (drop (line_length o) o) + length (drop (line_length n) n) < length o + length n
shorter [] [] some = absurd (omega (arith, some))
shorter [] (b ∷ bs) some = let less = drop_less (line_length (b ∷ bs)) (b ∷ bs) (line_some b bs) (omega arith) in omega (arith, less)
shorter (a ∷ as') n some =
    let less : length (drop (line_length (a ∷ as')) (a ∷ as')) < length (a ∷ as') = drop_less (line_length (a ∷ as')) (a ∷ as') (line_some a as') (omega arith) in
    omega (arith, less, length-drop (line_length n) n)

pub shorter_rests : (o n o' n' : List ℕ) → 0 < length o + length n → o' ≡ drop (line_length o) o → n' ≡ drop (line_length n) n → length o' + length n' < length o + length n
shorter_rests o n o' n' some rest others =
    let less = shorter o n some in
    let first : length o' ≡ length (drop (line_length o) o) = ap length rest in
    let second : length n' ≡ length (drop (line_length n) n) = ap length others in
    omega (arith, less, first, second)

-- a text whose first line was taken is shorter
pub less_new : (o n n' : List ℕ) → 0 < length n → n' ≡ drop (line_length n) n → length o + length n' < length o + length n
less_new o [] n' some rest = absurd (omega (arith, some))
less_new o (b ∷ bs) n' some rest =
    let less : length (drop (line_length (b ∷ bs)) (b ∷ bs)) < length (b ∷ bs) = drop_less (line_length (b ∷ bs)) (b ∷ bs) (line_some b bs) some in
    let same : length n' ≡ length (drop (line_length (b ∷ bs)) (b ∷ bs)) = ap length rest in
    omega (arith, less, same)

-- an added line is one of the new text's
pub added_some : (extra : ℕ) (old n b : List ℕ) (c : Bool) → b ≡ line_in n → c ≡ is_added extra old b → c ≡ true → 0 < length n
added_some extra old [] b c new tells is = absurd (false≢true (sym (ap (λ x. is_added extra old x) new ∙ never (ltb 0 extra) (is_there old) (not (bytes_eq old []))) ∙ sym tells ∙ is))
  where
    never : (x y z : Bool) → (x && y && false && z) ≡ false
    never true true z = refl
    never true false z = refl
    never false y z = refl
added_some extra old (x ∷ xs) b c new tells is = omega arith

-- one line more is put
pub put_more : (ls more : List Line) (l : Line) (one two all : List Line) → more ≡ ls ++ l ∷ [] → one ≡ l ∷ two → ls ++ one ≡ all → more ++ two ≡ all
put_more ls more l one two all put next before = ap (λ x. x ++ two) put ∙ append_assoc ls (l ∷ []) two ∙ ap (λ x. ls ++ x) (sym next) ∙ before

-- how many lines there are, counted one by one
pub count_more : (text rest : List ℕ) → 0 < length text → rest ≡ drop (line_length text) text → length (lines_of text) ≡ 1 + length (lines_of rest)
count_more [] rest some is = absurd (omega (arith, some))
count_more (b ∷ bs) rest some is =
    let e = ap length (first_of b bs) in
    let same : length (lines_of rest) ≡ length (lines_of (drop (line_length (b ∷ bs)) (b ∷ bs))) = ap (λ x. length (lines_of x)) is in
    omega (arith, e, same)

pub rest_less : (text rest : List ℕ) → 0 < length text → rest ≡ drop (line_length text) text → length rest < length text
rest_less [] rest some is = absurd (omega (arith, some))
rest_less (b ∷ bs) rest some is =
    let less : length (drop (line_length (b ∷ bs)) (b ∷ bs)) < length (b ∷ bs) = drop_less (line_length (b ∷ bs)) (b ∷ bs) (line_some b bs) some in
    let same : length rest ≡ length (drop (line_length (b ∷ bs)) (b ∷ bs)) = ap length is in
    omega (arith, less, same)

pub count_none : (text : List ℕ) → length text ≡ 0 → length (lines_of text) ≡ 0
count_none [] none = refl
count_none (b ∷ bs) none = absurd (omega (arith, none))
