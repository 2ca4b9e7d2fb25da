-- The tables of tokens that have one spelling.
use Rattle.std.proofs.Common.{◌≡◌, ℕ, ◌≤◌, Bool, true, false, not, cond, ◌&&◌, ◌||◌, ◌⊎◌, inl, inr, ⊎_elim, List, [], ◌∷◌, ◌++◌, length, Option, Some, None, refl, sym, ap, ◌∙◌, subst, arith}
use Rattle.std.specs.Prelude.{nat_eq, find}
use Rattle.std.specs.List.{list_all}
use Rattle.std.proofs.lemmas.Bool.{eqb-true, eq-eqb, and_parts, false≢true}
use Rattle.jn_trees.specs.declared.token.TokenKind.{TokenKind}
use Rattle.jn_trees.specs.declared.token.TokenKind.TheVariants.{Id, Str, Number, Abstract, Assert, Boolean, Break, Byte, Case, Catch, Char, Class, Const, Continue, Default, Do, Double, Else, Enum, Extends, Final, Finally, Float, For, Goto, If, Implements, Import, Instanceof, Int, Interface, Long, Native, New, Package, Private, Protected, Public, Return, Short, Static, Strictfp, Super, Switch, Synchronized, This, Throw, Throws, Transient, Try, Void, Volatile, While, True, False, Null, LeftParen, RightParen, LeftBrace, RightBrace, LeftBracket, RightBracket, Semicolon, Comma, Dot, At, Assign, Greater, Less, Not, Question, Colon, EqualEqual, LessEqual, GreaterEqual, NotEqual, AndAnd, OrOr, PlusPlus, MinusMinus, Plus, Minus, Star, Slash, Percent, PlusAssign, MinusAssign, StarAssign, SlashAssign, PercentAssign}
use Rattle.jn_lexer.specs.declared.spelling.TheConstants.{WORDS, PAIRS, SINGLES}
use Rattle.jn_lexer.specs.Characters.{is_part, AllAre, BeginsNot}
use Rattle.jn_lexer.specs.Spelling.{spelling}
use Rattle.jn_lexer.specs.Lexemes.{hinders_kind}
use Rattle.jn_lexer.specs.Scan.{begins, is_spelled, begins_blank, begins_mark}
use Rattle.jn_lexer.proofs.Classes.{is_lower, is_mark, white_is, ascii_white, lower_start, lower_part, mark_start, not_flips}

-- members of a list
abbrev pub Among : TokenKind → List TokenKind → Type 0
Among k [] = ⊥
Among k (x ∷ xs) = (x ≡ k) ⊎ Among k xs

module _ (p : TokenKind → Bool) where
  pub found_passes : (xs : List TokenKind) (k : TokenKind) → find p xs ≡ Some k → (p k ≡ true) × Among k xs
  found_passes [] k e = absurd (let f : ◌≡◌ {A = Option TokenKind} None (Some k) = e in cc)
  found_passes (x ∷ xs) k e = here (p x) refl (found_passes xs k) e
    where
      here : (b : Bool) → p x ≡ b → (find p xs ≡ Some k → (p k ≡ true) × Among k xs) → cond b (Some x) (find p xs) ≡ Some k → (p k ≡ true) × Among k (x ∷ xs)
      here true t ih e = let same : x ≡ k = (let f : ◌≡◌ {A = Option TokenKind} (Some x) (Some k) = e in cc) in (subst (λ y. p y ≡ true) same t, inl same)
      here false t ih e = let r = ih e in (r.0, inr r.1)

  pub none_passes : (xs : List TokenKind) (k : TokenKind) → find p xs ≡ None → Among k xs → p k ≡ true → ⊥
  none_passes [] k e m t = m
  none_passes (x ∷ xs) k e m t = here (p x) refl (none_passes xs k) e
    where
      here : (b : Bool) → p x ≡ b → (find p xs ≡ None → Among k xs → p k ≡ true → ⊥) → cond b (Some x) (find p xs) ≡ None → ⊥
      here true s ih e = let f : ◌≡◌ {A = Option TokenKind} (Some x) None = e in cc
      here false s ih e = ⊎_elim (λ same. false≢true (sym s ∙ ap p same ∙ t)) (λ a. ih e a t) m

  pub all_pass : (xs : List TokenKind) (k : TokenKind) → list_all p xs ≡ true → Among k xs → p k ≡ true
  all_pass [] k e m = absurd m
  all_pass (x ∷ xs) k e m = let q = and_parts (p x) (list_all p xs) e in ⊎_elim (λ same. subst (λ y. p y ≡ true) same q.0) (λ a. all_pass xs k q.1 a) m

-- each spelling is in one of the tables
abbrev IsFoundIn : TokenKind → List TokenKind → Type 0
IsFoundIn k xs = find (λ j. is_spelled (spelling k) (spelling j)) xs ≡ Some k

listed : (k : TokenKind) → 1 ≤ length (spelling k) → IsFoundIn k WORDS ⊎ (IsFoundIn k PAIRS ⊎ IsFoundIn k SINGLES)
listed (Id n) l = absurd (omega arith)
listed (Str n) l = absurd (omega arith)
listed (Number n) l = absurd (omega arith)
listed Abstract l = inl refl
listed Assert l = inl refl
listed Boolean l = inl refl
listed Break l = inl refl
listed Byte l = inl refl
listed Case l = inl refl
listed Catch l = inl refl
listed Char l = inl refl
listed Class l = inl refl
listed Const l = inl refl
listed Continue l = inl refl
listed Default l = inl refl
listed Do l = inl refl
listed Double l = inl refl
listed Else l = inl refl
listed Enum l = inl refl
listed Extends l = inl refl
listed Final l = inl refl
listed Finally l = inl refl
listed Float l = inl refl
listed For l = inl refl
listed Goto l = inl refl
listed If l = inl refl
listed Implements l = inl refl
listed Import l = inl refl
listed Instanceof l = inl refl
listed Int l = inl refl
listed Interface l = inl refl
listed Long l = inl refl
listed Native l = inl refl
listed New l = inl refl
listed Package l = inl refl
listed Private l = inl refl
listed Protected l = inl refl
listed Public l = inl refl
listed Return l = inl refl
listed Short l = inl refl
listed Static l = inl refl
listed Strictfp l = inl refl
listed Super l = inl refl
listed Switch l = inl refl
listed Synchronized l = inl refl
listed This l = inl refl
listed Throw l = inl refl
listed Throws l = inl refl
listed Transient l = inl refl
listed Try l = inl refl
listed Void l = inl refl
listed Volatile l = inl refl
listed While l = inl refl
listed True l = inl refl
listed False l = inl refl
listed Null l = inl refl
listed LeftParen l = inr (inr refl)
listed RightParen l = inr (inr refl)
listed LeftBrace l = inr (inr refl)
listed RightBrace l = inr (inr refl)
listed LeftBracket l = inr (inr refl)
listed RightBracket l = inr (inr refl)
listed Semicolon l = inr (inr refl)
listed Comma l = inr (inr refl)
listed Dot l = inr (inr refl)
listed At l = inr (inr refl)
listed Assign l = inr (inr refl)
listed Greater l = inr (inr refl)
listed Less l = inr (inr refl)
listed Not l = inr (inr refl)
listed Question l = inr (inr refl)
listed Colon l = inr (inr refl)
listed EqualEqual l = inr (inl refl)
listed LessEqual l = inr (inl refl)
listed GreaterEqual l = inr (inl refl)
listed NotEqual l = inr (inl refl)
listed AndAnd l = inr (inl refl)
listed OrOr l = inr (inl refl)
listed PlusPlus l = inr (inl refl)
listed MinusMinus l = inr (inl refl)
listed Plus l = inr (inr refl)
listed Minus l = inr (inr refl)
listed Star l = inr (inr refl)
listed Slash l = inr (inr refl)
listed Percent l = inr (inr refl)
listed PlusAssign l = inr (inl refl)
listed MinusAssign l = inr (inl refl)
listed StarAssign l = inr (inl refl)
listed SlashAssign l = inr (inl refl)
listed PercentAssign l = inr (inl refl)

pub among : (k : TokenKind) → 1 ≤ length (spelling k) → Among k WORDS ⊎ (Among k PAIRS ⊎ Among k SINGLES)
among k l =
    ⊎_elim (λ e. inl (found_passes (λ j. is_spelled (spelling k) (spelling j)) WORDS k e).1)
    (λ r. inr (⊎_elim (λ e. inl (found_passes (λ j. is_spelled (spelling k) (spelling j)) PAIRS k e).1) (λ e. inr (found_passes (λ j. is_spelled (spelling k) (spelling j)) SINGLES k e).1) r))
    (listed k l)

-- texts that begin with a spelling
pub begins_is : (text word : List ℕ) → begins text word ≡ true → (rest : List ℕ) × (text ≡ word ++ rest)
begins_is text [] h = (text, refl)
begins_is [] (f ∷ fs) h = absurd (false≢true h)
begins_is (c ∷ cs) (f ∷ fs) h =
    let p = and_parts (nat_eq c f) (begins cs fs) h in
    let r = begins_is cs fs p.1 in
    (r.0, ap (λ x. x ∷ cs) (eqb-true c f p.0) ∙ ap (λ xs. f ∷ xs) r.1)

pub begins_front : (word rest : List ℕ) → begins (word ++ rest) word ≡ true
begins_front [] rest = refl
begins_front (w ∷ ws) rest = ap (λ b. b && begins (ws ++ rest) ws) (eq-eqb w w refl) ∙ begins_front ws rest

pub spelled_is : (text word : List ℕ) → is_spelled text word ≡ true → text ≡ word
spelled_is text word h =
    let p = and_parts (nat_eq (length text) (length word)) (begins text word) h in
    let r = begins_is text word p.1 in
    let l = ap length r.1 in
    nothing_more word r.0 text r.1 (eqb-true (length text) (length word) p.0)
  where
    nothing_more : (word rest text : List ℕ) → text ≡ word ++ rest → length text ≡ length word → text ≡ word
    nothing_more [] [] text e l = e
    nothing_more [] (r ∷ rs) text e l = absurd (let n = ap length e in omega arith)
    nothing_more (w ∷ ws) rest [] e l = absurd (omega arith)
    nothing_more (w ∷ ws) rest (t ∷ ts) e l =
        let head : t ≡ w = cc in
        let tail : ts ≡ ws ++ rest = cc in
        ap (λ x. x ∷ ts) head ∙ ap (λ xs. w ∷ xs) (nothing_more ws rest ts tail (omega arith))

pub is_spelled_same : (word : List ℕ) → is_spelled word word ≡ true
is_spelled_same word = ap (λ b. b && begins word word) (eq-eqb (length word) (length word) refl) ∙ same word
  where
    same : (word : List ℕ) → begins word word ≡ true
    same [] = refl
    same (w ∷ ws) = ap (λ b. b && begins ws ws) (eq-eqb w w refl) ∙ same ws

-- what the words and the marks are made of
abbrev all_lower : TokenKind → Bool
all_lower k = list_all is_lower (spelling k)

abbrev begins_so : List ℕ → Bool
begins_so [] = false
begins_so (c ∷ cs) = is_mark c

abbrev frees : TokenKind → Bool
frees Dot = false
frees Slash = false
frees _ = true

free_kind : (k : TokenKind) → frees k ≡ true → (c : ℕ) → hinders_kind k c ≡ false
free_kind Dot e c = absurd (false≢true e)
free_kind Slash e c = absurd (false≢true e)
free_kind _ e c = refl

pub word_frees : (k : TokenKind) → Among k WORDS → (c : ℕ) → hinders_kind k c ≡ false
word_frees k m = free_kind k (all_pass frees WORDS k refl m)

pub pair_frees : (k : TokenKind) → Among k PAIRS → (c : ℕ) → hinders_kind k c ≡ false
pair_frees k m = free_kind k (all_pass frees PAIRS k refl m)

pub pair_length : (k : TokenKind) → Among k PAIRS → length (spelling k) ≡ 2
pair_length k m = eqb-true _ 2 (all_pass (λ j. nat_eq (length (spelling j)) 2) PAIRS k refl m)

pub single_length : (k : TokenKind) → Among k SINGLES → length (spelling k) ≡ 1
single_length k m = eqb-true _ 1 (all_pass (λ j. nat_eq (length (spelling j)) 1) SINGLES k refl m)

pub word_lower : (k : TokenKind) → Among k WORDS → list_all is_lower (spelling k) ≡ true
word_lower k m = all_pass all_lower WORDS k refl m

pub pair_mark : (k : TokenKind) → Among k PAIRS → (w : ℕ) (ws : List ℕ) → w ∷ ws ≡ spelling k → is_mark w ≡ true
pair_mark k m w ws e = subst (λ s. begins_so s ≡ true) (sym e) (all_pass (λ j. begins_so (spelling j)) PAIRS k refl m)

pub single_mark : (k : TokenKind) → Among k SINGLES → (w : ℕ) (ws : List ℕ) → w ∷ ws ≡ spelling k → is_mark w ≡ true
single_mark k m w ws e = subst (λ s. begins_so s ≡ true) (sym e) (all_pass (λ j. begins_so (spelling j)) SINGLES k refl m)

-- all of a word of letters may stand in an identifier
pub lower_parts : (ws : List ℕ) → list_all is_lower ws ≡ true → AllAre is_part ws
lower_parts [] h = tt
lower_parts (w ∷ ws) h = let p = and_parts (is_lower w) (list_all is_lower ws) h in (lower_part w p.0, lower_parts ws p.1)

-- where a token of a table stands no white space or comment begins
abbrev no_blank : List ℕ → Bool
no_blank [] = false
no_blank (c ∷ []) = not (ascii_white c)
no_blank (c ∷ d ∷ ds) = not (ascii_white c) && not (nat_eq c 47 && (nat_eq d 47 || nat_eq d 42))

pub pair_blank : (k : TokenKind) → Among k PAIRS → (rest : List ℕ) → begins_blank (spelling k ++ rest) ≡ false
pair_blank k m rest = go (spelling k) (pair_length k m) (all_pass (λ j. no_blank (spelling j)) PAIRS k refl m)
  where
    go : (s : List ℕ) → length s ≡ 2 → no_blank s ≡ true → begins_blank (s ++ rest) ≡ false
    go [] l h = absurd (omega arith)
    go (c ∷ []) l h = absurd (omega arith)
    go (c ∷ d ∷ ds) l h =
        let p = and_parts (not (ascii_white c)) (not (nat_eq c 47 && (nat_eq d 47 || nat_eq d 42))) h in
        ap (λ b. b || (nat_eq c 47 && (nat_eq d 47 || nat_eq d 42))) (white_is c (not_flips _ p.0)) ∙ not_flips _ p.1

-- of one character only a `/` may begin a comment
abbrev begins_other : List ℕ → Bool
begins_other [] = false
begins_other (c ∷ cs) = not (nat_eq c 47)

abbrev slash_or : TokenKind → Bool
slash_or Slash = true
slash_or k = begins_other (spelling k)

slash_cases : (k : TokenKind) → slash_or k ≡ true → (k ≡ Slash) ⊎ (begins_other (spelling k) ≡ true)
slash_cases Slash h = inl refl
slash_cases k h = inr h

pub single_blank : (k : TokenKind) → Among k SINGLES → (rest : List ℕ) → BeginsNot (hinders_kind k) rest → begins_blank (spelling k ++ rest) ≡ false
single_blank k m rest free =
    ⊎_elim (λ e. slash e free) (λ e. go (spelling k) (single_length k m) (all_pass (λ j. no_blank (spelling j)) SINGLES k refl m) e) (slash_cases k (all_pass slash_or SINGLES k refl m))
  where
    mark : (rest : List ℕ) → BeginsNot (hinders_kind Slash) rest → begins_mark rest ≡ false
    mark [] f = refl
    mark (c ∷ cs) f = f

    slash : k ≡ Slash → BeginsNot (hinders_kind k) rest → begins_blank (spelling k ++ rest) ≡ false
    slash e f = subst (λ j. begins_blank (spelling j ++ rest) ≡ false) (sym e) (ap (λ b. b || (true && begins_mark rest)) (white_is 47 refl) ∙ mark rest (subst (λ j. BeginsNot (hinders_kind j) rest) e f))

    go : (s : List ℕ) → length s ≡ 1 → no_blank s ≡ true → begins_other s ≡ true → begins_blank (s ++ rest) ≡ false
    go [] l h o = absurd (omega arith)
    go (c ∷ d ∷ ds) l h o = absurd (omega arith)
    go (c ∷ []) l h o = ap (λ b. b || (nat_eq c 47 && begins_mark rest)) (white_is c (not_flips _ h)) ∙ ap (λ b. b && begins_mark rest) (not_flips _ o)

-- only `.` and `/` hinder what follows
pub free_cases : (k : TokenKind) → (k ≡ Dot) ⊎ ((k ≡ Slash) ⊎ ((c : ℕ) → hinders_kind k c ≡ false))
free_cases Dot = inl refl
free_cases Slash = inr (inl refl)
free_cases _ = inr (inr (λ c. refl))

-- a spelling is of one kind
word_and_mark : (k j : TokenKind) → Among k WORDS → (Among j PAIRS ⊎ Among j SINGLES) → spelling k ≡ spelling j → 1 ≤ length (spelling k) → ⊥
word_and_mark k j m n e l = go (spelling k) refl l
  where
    mark : (w : ℕ) (ws : List ℕ) → spelling k ≡ w ∷ ws → is_mark w ≡ true
    mark w ws s = ⊎_elim (λ p. pair_mark j p w ws (sym s ∙ e)) (λ p. single_mark j p w ws (sym s ∙ e)) n

    go : (s : List ℕ) → spelling k ≡ s → 1 ≤ length s → ⊥
    go [] s l = omega arith
    go (w ∷ ws) s l = mark_start w (mark w ws s) (lower_start w (and_parts _ _ (subst (λ x. list_all is_lower x ≡ true) s (word_lower k m))).0)

pair_and_single : (k j : TokenKind) → Among k PAIRS → Among j SINGLES → spelling k ≡ spelling j → ⊥
pair_and_single k j m n e = let a = pair_length k m in let b = single_length j n in let c = ap length e in omega arith

found_one : (k j : TokenKind) (xs : List TokenKind) → IsFoundIn k xs → IsFoundIn j xs → spelling k ≡ spelling j → k ≡ j
found_one k j xs g h e =
    let some : ◌≡◌ {A = Option TokenKind} (Some k) (Some j) = sym g ∙ ap (λ s. find (λ i. is_spelled s (spelling i)) xs) e ∙ h in
    cc

in_table : (k : TokenKind) (xs : List TokenKind) → IsFoundIn k xs → Among k xs
in_table k xs e = (found_passes (λ j. is_spelled (spelling k) (spelling j)) xs k e).1

pub one_kind : (k j : TokenKind) → 1 ≤ length (spelling k) → spelling k ≡ spelling j → k ≡ j
one_kind k j l e =
    ⊎_elim
    (λ a. ⊎_elim (λ x. found_one k j WORDS a x e) (λ y. absurd (word_and_mark k j (in_table k WORDS a) (⊎_elim (λ p. inl (in_table j PAIRS p)) (λ q. inr (in_table j SINGLES q)) y) e l)) other)
    (λ b. ⊎_elim (λ x. absurd (word_and_mark j k (in_table j WORDS x) (⊎_elim (λ p. inl (in_table k PAIRS p)) (λ q. inr (in_table k SINGLES q)) b) (sym e) m))
    (λ y. ⊎_elim
    (λ p. ⊎_elim (λ q. found_one k j PAIRS p q e) (λ r. absurd (pair_and_single k j (in_table k PAIRS p) (in_table j SINGLES r) e)) y)
    (λ p. ⊎_elim (λ q. absurd (pair_and_single j k (in_table j PAIRS q) (in_table k SINGLES p) (sym e))) (λ r. found_one k j SINGLES p r e) y)
    b)
    other)
    (listed k l)
  where
    m : 1 ≤ length (spelling j)
    m = subst (λ s. 1 ≤ length s) e l

    other : IsFoundIn j WORDS ⊎ (IsFoundIn j PAIRS ⊎ IsFoundIn j SINGLES)
    other = listed j m

-- no operator of two characters begins with `.`
abbrev begins_without_dot : List ℕ → Bool
begins_without_dot [] = false
begins_without_dot (c ∷ cs) = not (nat_eq c 46)

pub pair_no_dot : (k : TokenKind) → Among k PAIRS → (ws : List ℕ) → 46 ∷ ws ≡ spelling k → ⊥
pair_no_dot k m ws e = false≢true (subst (λ s. begins_without_dot s ≡ true) (sym e) (all_pass (λ j. begins_without_dot (spelling j)) PAIRS k refl m))
