-- White space and comments end at one place.
use Rattle.std.proofs.Common.{◌≡◌, ℕ, Bool, true, false, not, ◌&&◌, ◌||◌, List, [], ◌∷◌, ◌++◌, length, refl, sym, ap, ◌∙◌, subst, arith, length-append, append_assoc}
use Rattle.std.specs.Prelude.{nat_eq}
use Rattle.std.proofs.lemmas.Bool.{false≢true}
use Rattle.jn_lexer.specs.Characters.{is_white, is_line_end, is_in_line, AllAre, BeginsOnly}
use Rattle.jn_lexer.specs.Gaps.{Blank, Space, Line, Block, blank_text, IsBlank, IsNextClose, gap_text, IsGap}
use Rattle.jn_lexer.specs.Scan.{begins_mark, begins_blank}
use Rattle.jn_lexer.proofs.Lists.{same_front}
use Rattle.jn_lexer.proofs.Classes.{white_47, not_both}

-- no white space or comment stands at the front
abbrev pub NotBlank : List ℕ → Type 0
NotBlank text = (b : Blank) (after : List ℕ) → text ≡ blank_text b ++ after → IsBlank b after → ⊥

not_line_end : (c : ℕ) → is_in_line c ≡ true → is_line_end c ≡ true → ⊥
unfolding is_in_line
not_line_end c i e = false≢true (sym (ap not e) ∙ i)

line_one : (xs ys a b : List ℕ) → xs ++ a ≡ ys ++ b → AllAre is_in_line xs → AllAre is_in_line ys → BeginsOnly is_line_end a → BeginsOnly is_line_end b → a ≡ b
line_one [] [] a b e p q s t = e
line_one [] (y ∷ ys) a b e p q s t = absurd (not_line_end y q.0 (subst (BeginsOnly is_line_end) e s))
line_one (x ∷ xs) [] a b e p q s t = absurd (not_line_end x p.0 (subst (BeginsOnly is_line_end) (sym e) t))
line_one (x ∷ xs) (y ∷ ys) a b e p q s t = let tail : xs ++ a ≡ ys ++ b = cc in line_one xs ys a b tail p.1 q.1 s t

pub white_not_47 : (c : ℕ) → is_white c ≡ true → c ≡ 47 → ⊥
white_not_47 c h e = not_both _ (subst (λ x. is_white x ≡ true) e h) white_47

pub block_tail : (inside after : List ℕ) → blank_text (Block inside) ++ after ≡ 47 ∷ 42 ∷ (inside ++ 42 ∷ 47 ∷ after)
block_tail inside after = ap (λ xs. 47 ∷ 42 ∷ xs) (append_assoc inside (42 ∷ 47 ∷ []) after)

block_one : (i j a b : List ℕ) → i ++ 42 ∷ 47 ∷ a ≡ j ++ 42 ∷ 47 ∷ b → IsNextClose i a → IsNextClose j b → a ≡ b
block_one i j a b e p q =
    let l = p j b e in
    let m = q i a (sym e) in
    let s = same_front i j (42 ∷ 47 ∷ a) (42 ∷ 47 ∷ b) e (omega arith) in
    let t : 42 ∷ 47 ∷ a ≡ 42 ∷ 47 ∷ b = s.1 in
    cc

blank_one : (b c : Blank) (x y : List ℕ) → blank_text b ++ x ≡ blank_text c ++ y → IsBlank b x → IsBlank c y → x ≡ y
blank_one (Space u) (Space v) x y e p q = cc
blank_one (Space u) (Line j) x y e p q = absurd (white_not_47 u p cc)
blank_one (Space u) (Block j) x y e p q = absurd (white_not_47 u p (let f : u ∷ x ≡ 47 ∷ 42 ∷ (j ++ 42 ∷ 47 ∷ y) = e ∙ block_tail j y in cc))
blank_one (Line i) (Space v) x y e p q = absurd (white_not_47 v q cc)
blank_one (Line i) (Line j) x y e p q = let f : i ++ x ≡ j ++ y = cc in line_one i j x y f p.0 q.0 p.1 q.1
blank_one (Line i) (Block j) x y e p q = absurd (let f : 47 ∷ 47 ∷ (i ++ x) ≡ 47 ∷ 42 ∷ (j ++ 42 ∷ 47 ∷ y) = e ∙ block_tail j y in let g : ◌≡◌ {A = ℕ} 47 42 = cc in omega arith)
blank_one (Block i) (Space v) x y e p q = absurd (white_not_47 v q (let f : v ∷ y ≡ 47 ∷ 42 ∷ (i ++ 42 ∷ 47 ∷ x) = sym e ∙ block_tail i x in cc))
blank_one (Block i) (Line j) x y e p q = absurd (let f : 47 ∷ 47 ∷ (j ++ y) ≡ 47 ∷ 42 ∷ (i ++ 42 ∷ 47 ∷ x) = sym e ∙ block_tail i x in let g : ◌≡◌ {A = ℕ} 47 42 = cc in omega arith)
blank_one (Block i) (Block j) x y e p q =
    let f : 47 ∷ 42 ∷ (i ++ 42 ∷ 47 ∷ x) ≡ 47 ∷ 42 ∷ (j ++ 42 ∷ 47 ∷ y) = sym (block_tail i x) ∙ e ∙ block_tail j y in
    let g : i ++ 42 ∷ 47 ∷ x ≡ j ++ 42 ∷ 47 ∷ y = cc in
    block_one i j x y g p q

pub gap_one : (bs cs : List Blank) (x y : List ℕ) → gap_text bs ++ x ≡ gap_text cs ++ y → IsGap bs x → IsGap cs y → NotBlank x → NotBlank y → x ≡ y
gap_one [] [] x y e g h m n = e
gap_one [] (c ∷ cs) x y e g h m n = absurd (m c (gap_text cs ++ y) (e ∙ append_assoc (blank_text c) (gap_text cs) y) h.0)
gap_one (b ∷ bs) [] x y e g h m n = absurd (n b (gap_text bs ++ x) (sym e ∙ append_assoc (blank_text b) (gap_text bs) x) g.0)
gap_one (b ∷ bs) (c ∷ cs) x y e g h m n =
    let f = blank_one b c (gap_text bs ++ x) (gap_text cs ++ y) (sym (append_assoc (blank_text b) (gap_text bs) x) ∙ e ∙ append_assoc (blank_text c) (gap_text cs) y) g.0 h.0 in
    gap_one bs cs x y f g.1 h.1 m n

-- two fronts of one text before one rest are one
pub front_one : (xs ys x y : List ℕ) → xs ++ x ≡ ys ++ y → x ≡ y → xs ≡ ys
front_one xs ys x y e f =
    let a = ap length e in
    let b = length-append xs x in
    let c = length-append ys y in
    let d = ap length f in
    (same_front xs ys x y e (omega arith)).0

pub or_true : (a b : Bool) → b ≡ true → (a || b) ≡ true
or_true true b e = refl
or_true false b e = e

or_first : (a b : Bool) → a ≡ true → (a || b) ≡ true
or_first true b e = refl
or_first false b e = absurd (false≢true e)

begins_of : (b : Blank) (after : List ℕ) → IsBlank b after → begins_blank (blank_text b ++ after) ≡ true
begins_of (Space c) after h = or_first (is_white c) (nat_eq c 47 && begins_mark after) h
begins_of (Line inside) after h = or_true (is_white 47) true refl
begins_of (Block inside) after h = or_true (is_white 47) true refl

pub not_blank : (text : List ℕ) → begins_blank text ≡ false → NotBlank text
not_blank text e b after is h = not_both _ (begins_of b after h) (ap begins_blank (sym is) ∙ e)

pub nil_not_blank : NotBlank []
nil_not_blank b after is h = not_both _ (begins_of b after h) (ap begins_blank (sym is))
