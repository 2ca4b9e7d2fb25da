-- White space and comments, as a scan finds them.
use Rattle.std.proofs.Common.{◌≡◌, ℕ, suc, ◌+◌, ◌<◌, ◌≤◌, Bool, true, false, not, cond, ◌&&◌, ◌||◌, ◌⊎◌, inl, inr, ⊎_elim, List, [], ◌∷◌, ◌++◌, length, take, drop, Option, Some, None, refl, sym, ap, ◌∙◌, subst, arith, length-append, append_assoc}
use Rattle.std.specs.Prelude.{nat_eq, option_map, get_or}
use Rattle.std.specs.List.{prefix_len}
use Rattle.std.proofs.lemmas.Bool.{eqb-true, eq-eqb, and_parts, false≢true}
use Rattle.std.proofs.lemmas.List.{take-append-drop, take_at, drop_at, length-take-le, drop-drop, append-nil}
use Rattle.jn_lexer.specs.declared.shape.Step.{Step}
use Rattle.jn_lexer.specs.declared.shape.Step.TheVariants.{Of}
use Rattle.jn_lexer.specs.Characters.{is_white, is_line_end, is_in_line, BeginsOnly, BeginsNot}
use Rattle.jn_lexer.specs.Gaps.{Blank, Space, Line, Block, blank_text, IsBlank, IsNextClose, gap_text, IsGap}
use Rattle.jn_lexer.specs.Scan.{block_len, begins_mark, begins_blank}
use Rattle.jn_lexer.specs.Found.{IsBlankOf, IsStep, IsGapOf, closed}
use Rattle.jn_lexer.proofs.Lists.{prefix_passes, prefix_ends, prefix_within, from_first, from_none, test_false}
use Rattle.jn_lexer.proofs.Classes.{white_47}

-- comments `/* .. */`

pub record Closes (star : Bool) (text : List ℕ) (n : ℕ) : Type 0 where
  pub after : List ℕ
  pub where_is : ((star ≡ true) × (text ≡ 47 ∷ after) × (n ≡ 1)) ⊎ ((inside : List ℕ) × (text ≡ inside ++ 42 ∷ 47 ∷ after) × (n ≡ length inside + 2))
  pub least : (inside tail : List ℕ) → text ≡ inside ++ 42 ∷ 47 ∷ tail → n ≤ length inside + 2

-- the option's suc is some
pub suc_some : (x : Option ℕ) (n : ℕ) → option_map suc x ≡ Some n → (m : ℕ) × (x ≡ Some m) × (n ≡ suc m)
suc_some None n e = absurd (let f : ◌≡◌ {A = Option ℕ} None (Some n) = e in cc)
suc_some (Some m) n e = (m, refl, let f : ◌≡◌ {A = Option ℕ} (Some (suc m)) (Some n) = e in cc)

pub suc_none : (x : Option ℕ) → option_map suc x ≡ None → x ≡ None
suc_none None e = refl
suc_none (Some m) e = absurd (let f : ◌≡◌ {A = Option ℕ} (Some (suc m)) None = e in cc)

pub closes : (star : Bool) (text : List ℕ) (n : ℕ) → block_len star text ≡ Some n → Closes star text n
closes star [] n e = absurd (let f : ◌≡◌ {A = Option ℕ} None (Some n) = e in cc)
closes star (c ∷ cs) n e = here (star && nat_eq c 47) refl (closes (nat_eq c 42) cs) e
  where
    shut : (m : ℕ) → n ≡ suc m → Closes (nat_eq c 42) cs m → block_len (nat_eq c 42) cs ≡ Some m → Closes star (c ∷ cs) n
    shut m s r g = record {
      after = r.after;
      where_is = inr (⊎_elim
          (λ a. ([], ap (λ x. x ∷ cs) (eqb-true c 42 a.0) ∙ ap (λ xs. 42 ∷ xs) a.1, (let p = a.2 in omega arith)))
          (λ b. (c ∷ b.0, ap (λ xs. c ∷ xs) b.1, (let p = b.2 in omega arith)))
          r.where_is);
      least = last;
    }
      where
        last : (inside tail : List ℕ) → c ∷ cs ≡ inside ++ 42 ∷ 47 ∷ tail → n ≤ length inside + 2
        last [] tail q =
            let star_is : c ≡ 42 = cc in
            let rest_is : cs ≡ 47 ∷ tail = cc in
            let one : block_len (nat_eq c 42) cs ≡ Some 1 = ap (λ b. block_len b cs) (eq-eqb c 42 star_is) ∙ ap (block_len true) rest_is in
            let same : ◌≡◌ {A = Option ℕ} (Some m) (Some 1) = sym g ∙ one in
            let m_is : m ≡ 1 = cc in
            omega arith
        last (d ∷ ds) tail q = let rest_is : cs ≡ ds ++ 42 ∷ 47 ∷ tail = cc in let l = r.least ds tail rest_is in omega arith

    here : (b : Bool) → (star && nat_eq c 47) ≡ b → ((m : ℕ) → block_len (nat_eq c 42) cs ≡ Some m → Closes (nat_eq c 42) cs m) → cond b (Some 1) (option_map suc (block_len (nat_eq c 42) cs)) ≡ Some n → Closes star (c ∷ cs) n
    here true t ih e =
        let p = and_parts star (nat_eq c 47) t in
        let one : n ≡ 1 = (let f : ◌≡◌ {A = Option ℕ} (Some 1) (Some n) = e in cc) in
        record {
          after = cs;
          where_is = inl (p.0, ap (λ x. x ∷ cs) (eqb-true c 47 p.1), one);
          least = λ inside tail q. omega arith;
        }
    here false t ih e = let s = suc_some (block_len (nat_eq c 42) cs) n e in shut s.0 s.2 (ih s.0 s.1) s.1

pub never_closes : (star : Bool) (text : List ℕ) → block_len star text ≡ None → (before after : List ℕ) → text ≡ before ++ 42 ∷ 47 ∷ after → ⊥
never_closes star [] e before after q = empty before q
  where
    empty : (before : List ℕ) → [] ≡ before ++ 42 ∷ 47 ∷ after → ⊥
    empty [] q = cc
    empty (b ∷ bs) q = cc
never_closes star (c ∷ cs) e before after q = here (star && nat_eq c 47) (never_closes (nat_eq c 42) cs) e before q
  where
    here : (b : Bool) → (block_len (nat_eq c 42) cs ≡ None → (before after : List ℕ) → cs ≡ before ++ 42 ∷ 47 ∷ after → ⊥) → cond b (Some 1) (option_map suc (block_len (nat_eq c 42) cs)) ≡ None → (before : List ℕ) → c ∷ cs ≡ before ++ 42 ∷ 47 ∷ after → ⊥
    here true ih e before q = let f : ◌≡◌ {A = Option ℕ} (Some 1) None = e in cc
    here false ih e [] q =
        let star_is : c ≡ 42 = cc in
        let rest_is : cs ≡ 47 ∷ after = cc in
        let one : block_len (nat_eq c 42) cs ≡ Some 1 = ap (λ b. block_len b cs) (eq-eqb c 42 star_is) ∙ ap (block_len true) rest_is in
        let none = suc_none (block_len (nat_eq c 42) cs) e in
        let f : ◌≡◌ {A = Option ℕ} None (Some 1) = sym none ∙ one in cc
    here false ih e (b ∷ bs) q = let rest_is : cs ≡ bs ++ 42 ∷ 47 ∷ after = cc in ih (suc_none (block_len (nat_eq c 42) cs) e) bs after rest_is

-- what stands after a `/`
pub lone_slash : begins_blank (47 ∷ []) ≡ false
lone_slash = ap (λ b. b || (true && false)) white_47

pub no_comment : (c : ℕ) (cs : List ℕ) → nat_eq c 47 ≡ false → nat_eq c 42 ≡ false → begins_blank (47 ∷ c ∷ cs) ≡ false
no_comment c cs a b = ap (λ x. x || (true && (nat_eq c 47 || nat_eq c 42))) white_47 ∙ ap (λ x. x || nat_eq c 42) a ∙ b

flip : (b : Bool) → not b ≡ false → b ≡ true
flip true e = refl
flip false e = absurd (false≢true (sym e))

line_end : (c : ℕ) → is_in_line c ≡ false → is_line_end c ≡ true
unfolding is_in_line
line_end c h = flip (is_line_end c) h

line_ends : (cs : List ℕ) → BeginsNot is_in_line cs → BeginsOnly is_line_end cs
line_ends [] h = tt
line_ends (c ∷ cs) h = line_end c h

pub line_step : (inside : List ℕ) → IsStep (47 ∷ 47 ∷ inside) (Of (2 + prefix_len is_in_line inside))
line_step inside =
    let n = prefix_len is_in_line inside in
    let two : 2 + n ≡ suc (suc n) = omega arith in
    subst (λ m. IsStep (47 ∷ 47 ∷ inside) (Of m)) (sym two) (
      (Line (take n inside), refl, (prefix_passes is_in_line inside, line_ends (drop n inside) (prefix_ends is_in_line inside))),
      omega arith,
      (let w = prefix_within is_in_line inside in omega arith),
    )

pub block_step : (text : List ℕ) → IsStep (47 ∷ 42 ∷ text) (closed (block_len false text))
block_step text = here (block_len false text) refl
  where
    here : (r : Option ℕ) → block_len false text ≡ r → IsStep (47 ∷ 42 ∷ text) (closed r)
    here None e = record { back = text; is = refl; open_end = never_closes false text e }
    here (Some n) e =
        let r = closes false text n e in
        ⊎_elim (λ a. absurd (false≢true a.0)) (λ b. shut r.after b.0 b.1 b.2 r.least) r.where_is
      where
        shut : (after inside : List ℕ) → text ≡ inside ++ 42 ∷ 47 ∷ after → n ≡ length inside + 2 → ((inside tail : List ℕ) → text ≡ inside ++ 42 ∷ 47 ∷ tail → n ≤ length inside + 2) → IsStep (47 ∷ 42 ∷ text) (Of (2 + n))
        shut after inside is len least =
            let body : List ℕ = inside ++ 42 ∷ 47 ∷ [] in
            let split : text ≡ body ++ after = is ∙ sym (append_assoc inside (42 ∷ 47 ∷ []) after) in
            let long : length body ≡ n = length-append inside (42 ∷ 47 ∷ []) ∙ sym len in
            let front : take n text ≡ body = ap (take n) split ∙ take_at body after n long in
            let behind : drop n text ≡ after = ap (drop n) split ∙ drop_at body after n long in
            let two : 2 + n ≡ suc (suc n) = omega arith in
            let close : IsNextClose inside after = (λ shorter tail q. let l = least shorter tail (is ∙ q) in omega arith) in
            let total : length text ≡ length body + length after = ap length split ∙ length-append body after in
            subst (λ m. IsStep (47 ∷ 42 ∷ text) (Of m)) (sym two) (
              (Block inside, ap (λ xs. 47 ∷ 42 ∷ xs) (sym front), subst (IsNextClose inside) (sym behind) close),
              omega arith,
              omega arith,
            )

pub white_step : (c : ℕ) (cs : List ℕ) → is_white c ≡ true → IsStep (c ∷ cs) (Of 1)
white_step c cs h = ((Space c, refl, h), omega arith, omega arith)

pub no_step : (c : ℕ) (cs : List ℕ) → is_white c ≡ false → nat_eq c 47 ≡ false → begins_blank (c ∷ cs) ≡ false
no_step c cs a b = ap (λ x. x || (nat_eq c 47 && begins_mark cs)) a ∙ ap (λ x. x && begins_mark cs) b

-- one blank more
gap_text-push : (bs : List Blank) (b : Blank) → gap_text (bs ++ b ∷ []) ≡ gap_text bs ++ blank_text b
gap_text-push [] b = append-nil (blank_text b)
gap_text-push (a ∷ bs) b = ap (λ xs. blank_text a ++ xs) (gap_text-push bs b) ∙ sym (append_assoc (blank_text a) (gap_text bs) (blank_text b))

gap-push : (bs : List Blank) (b : Blank) (after : List ℕ) → IsGap bs (blank_text b ++ after) → IsBlank b after → IsGap (bs ++ b ∷ []) after
gap-push [] b after g h = (h, tt)
gap-push (a ∷ bs) b after g h =
    let same : gap_text bs ++ (blank_text b ++ after) ≡ gap_text (bs ++ b ∷ []) ++ after = sym (append_assoc (gap_text bs) (blank_text b) after) ∙ ap (λ xs. xs ++ after) (sym (gap_text-push bs b)) in
    (subst (IsBlank a) same g.0, gap-push bs b after g.1 h)

pub gap_more : (text : List ℕ) (i n : ℕ) → i ≤ length text → n ≤ length (drop i text) → IsGapOf text i → IsBlankOf (drop i text) n → IsGapOf text (i + n)
gap_more text i n within fits g h =
    let left = drop i text in
    let behind : drop n left ≡ drop (i + n) text = drop-drop n i text in
    let whole : blank_text h.0 ++ drop n left ≡ left = ap (λ xs. xs ++ drop n left) h.1 ∙ take-append-drop n left in
    let text_is : gap_text (g.0 ++ h.0 ∷ []) ++ drop (i + n) text ≡ text =
    ap (λ xs. xs ++ drop (i + n) text) (gap_text-push g.0 h.0) ∙ append_assoc (gap_text g.0) (blank_text h.0) (drop (i + n) text) ∙ ap (λ xs. gap_text g.0 ++ (blank_text h.0 ++ xs)) (sym behind) ∙ ap (λ xs. gap_text g.0 ++ xs) whole ∙ ap (λ xs. xs ++ left) g.1 ∙ take-append-drop i text in
    let a : length (gap_text g.0) ≡ i = ap length g.1 ∙ length-take-le i text within in
    let b : length (blank_text h.0) ≡ n = ap length h.1 ∙ length-take-le n left fits in
    let long : length (gap_text (g.0 ++ h.0 ∷ [])) ≡ i + n = ap length (gap_text-push g.0 h.0) ∙ length-append (gap_text g.0) (blank_text h.0) ∙ ap (λ x. x + length (blank_text h.0)) a ∙ ap (λ x. i + x) b in (
      g.0 ++ h.0 ∷ [],
      sym (ap (take (i + n)) (sym text_is) ∙ take_at (gap_text (g.0 ++ h.0 ∷ [])) (drop (i + n) text) (i + n) long),
      subst (IsGap (g.0 ++ h.0 ∷ [])) behind (gap-push g.0 h.0 (drop n left) (subst (IsGap g.0) (sym whole) g.2) h.2),
    )

-- the same for a text with its first character
module _ (text : List ℕ) (x : ℕ) (some : 1 ≤ length text) (first : x ≡ get_or text 0 x) where
  pub line_case : (n : ℕ) → x ≡ 47 → n ≡ prefix_len is_in_line (drop 1 text) → IsStep (47 ∷ text) (Of (2 + n))
  line_case n e h = from_first (λ xs. IsStep (47 ∷ xs) (Of (2 + n))) text x some first (subst (λ y. IsStep (47 ∷ y ∷ drop 1 text) (Of (2 + n))) (sym e) (subst (λ m. IsStep (47 ∷ 47 ∷ drop 1 text) (Of (2 + m))) (sym h) (line_step (drop 1 text))))

  pub block_case : (step : Step) → x ≡ 42 → step ≡ closed (block_len false (drop 1 text)) → IsStep (47 ∷ text) step
  block_case step e h = from_first (λ xs. IsStep (47 ∷ xs) step) text x some first (subst (λ y. IsStep (47 ∷ y ∷ drop 1 text) step) (sym e) (subst (λ s. IsStep (47 ∷ 42 ∷ drop 1 text) s) (sym h) (block_step (drop 1 text))))

  pub no_case : (x ≡ 47 → ⊥) → (x ≡ 42 → ⊥) → begins_blank (47 ∷ text) ≡ false
  no_case a b = from_first (λ xs. begins_blank (47 ∷ xs) ≡ false) text x some first (no_comment x (drop 1 text) (test_false x 47 a) (test_false x 42 b))

  pub white_case : is_white x ≡ true → IsStep text (Of 1)
  white_case h = from_first (λ xs. IsStep xs (Of 1)) text x some first (white_step x (drop 1 text) h)

pub empty_case : (text : List ℕ) → length text < 1 → begins_blank (47 ∷ text) ≡ false
empty_case text l = from_none (λ xs. begins_blank (47 ∷ xs) ≡ false) text l lone_slash
