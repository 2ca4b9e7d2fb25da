-- Unicode escapes, as a scan finds them.
use Rattle.std.proofs.Common.{◌≡◌, ℕ, suc, ◌+◌, ◌-◌, ◌<◌, ◌≤◌, ◌%◌, Bool, true, false, not, cond, ◌&&◌, ◌⊎◌, inl, inr, List, [], ◌∷◌, ◌++◌, length, take, Option, Some, None, refl, sym, ap, ◌∙◌, subst, arith, length-append, append_assoc}
use Rattle.std.specs.Prelude.{nat_eq, option_map, slice_get, chars, IsUtf8, encode_utf8, encode_utf8_all}
use Rattle.std.specs.List.{prefix_len, suffix_len, list_any}
use Rattle.std.specs.Str.Iter.{HasSubslice}
use Rattle.std.proofs.lemmas.Bool.{eqb-true, eq-eqb, and_parts, false≢true}
use Rattle.std.proofs.lemmas.List.{reverse-append, take_at}
use Rattle.std.proofs.Math.Bool.{or-true}
use Rattle.std.proofs.lemmas.List.Folds.{list_any-append}
use Rattle.std.proofs.lemmas.Str.{encodes-append, encodes-chars, encode_ascii}
use Rattle.jn_lexer.specs.Faults.{is_backslash, IsEscapeBehind, HasNoUnicodeEscape, IsFirstEscape}
use Rattle.jn_lexer.specs.Scan.{escape_at}
use Rattle.jn_lexer.proofs.Lists.{same_front, get_at}
use Rattle.jn_lexer.proofs.Comments.{suc_some, suc_none}

-- how many backslashes stand at the end
abbrev trail : List ℕ → ℕ
trail xs = suffix_len is_backslash xs

trail_push : (xs : List ℕ) (c : ℕ) → trail (xs ++ c ∷ []) ≡ cond (nat_eq c 92) (1 + trail xs) 0
trail_push xs c = ap (prefix_len is_backslash) (reverse-append xs (c ∷ []))

trail_slash : (xs : List ℕ) (c : ℕ) → nat_eq c 92 ≡ true → trail (xs ++ c ∷ []) ≡ 1 + trail xs
trail_slash xs c e = trail_push xs c ∙ ap (λ b. cond b (1 + trail xs) 0) e

trail_other : (xs : List ℕ) (c : ℕ) → nat_eq c 92 ≡ false → trail (xs ++ c ∷ []) ≡ 0
trail_other xs c e = trail_push xs c ∙ ap (λ b. cond b (1 + trail xs) 0) e

even_two : (n : ℕ) → n % 2 ≡ 0 → (1 + (1 + n)) % 2 ≡ 0
even_two n e = omega arith

even_one : (n : ℕ) → n % 2 ≡ 0 → (1 + n) % 2 ≡ 0 → ⊥
even_one n e f = omega arith

zero_even : (n : ℕ) → n ≡ 0 → n % 2 ≡ 0
zero_even n e = omega arith

-- what the flag of the scan says of the characters before
abbrev IsFlag : Bool → List ℕ → Type 0
IsFlag true done = (before : List ℕ) × (done ≡ before ++ 92 ∷ []) × (trail before % 2 ≡ 0)
IsFlag false done = trail done % 2 ≡ 0

flag_push : (slash : Bool) (done : List ℕ) (c : ℕ) → IsFlag slash done → IsFlag (nat_eq c 92 && not slash) (done ++ c ∷ [])
flag_push slash done c f = here (nat_eq c 92) refl slash f
  where
    here : (b : Bool) → nat_eq c 92 ≡ b → (slash : Bool) → IsFlag slash done → IsFlag (b && not slash) (done ++ c ∷ [])
    here true e true f =
        let t : trail (done ++ c ∷ []) ≡ 1 + (1 + trail f.0) = trail_slash done c e ∙ ap (λ x. 1 + trail x) f.1 ∙ ap (λ n. 1 + n) (trail_slash f.0 92 refl) in
        subst (λ n. n % 2 ≡ 0) (sym t) (even_two (trail f.0) f.2)
    here true e false f = (done, ap (λ x. done ++ x ∷ []) (eqb-true c 92 e), f)
    here false e slash f = zero_even (trail (done ++ c ∷ [])) (trail_other done c e)

module _ (whole : List ℕ) where
  -- each escape's `u` stands after so many characters, or more
  abbrev NoneBefore : ℕ → Type 0
  NoneBefore n = (other : List ℕ) → IsEscapeBehind whole other → n ≤ 1 + length other

  none_push : (slash : Bool) (done : List ℕ) (c : ℕ) (cs : List ℕ) → whole ≡ done ++ c ∷ cs → IsFlag slash done → (slash && nat_eq c 117) ≡ false → NoneBefore (length done) → NoneBefore (length (done ++ c ∷ []))
  none_push slash done c cs is f nope below other e = there (le_cases (length done) (1 + length other) (below other e))
    where
      le_cases : (a b : ℕ) → a ≤ b → (a ≡ b) ⊎ (1 + a ≤ b)
      le_cases a b l = here (nat_eq a b) refl
        where
          here : (x : Bool) → nat_eq a b ≡ x → (a ≡ b) ⊎ (1 + a ≤ b)
          here true q = inl (eqb-true a b q)
          here false q = inr (let ne : a ≡ b → ⊥ = (λ s. false≢true (sym q ∙ eq-eqb a b s)) in omega arith)

      odd : (slash : Bool) → (slash && nat_eq c 117) ≡ false → IsFlag slash done → c ≡ 117 → done ≡ other ++ 92 ∷ [] → ⊥
      odd true nope f u d = false≢true (sym nope ∙ eq-eqb c 117 u)
      odd false nope f u d = even_one (trail other) e.2 (subst (λ n. n % 2 ≡ 0) (ap trail d ∙ trail_slash other 92 refl) f)

      there : (length done ≡ 1 + length other) ⊎ (1 + length done ≤ 1 + length other) → length (done ++ c ∷ []) ≤ 1 + length other
      there (inr l) = let n = length-append done (c ∷ []) in omega arith
      there (inl q) =
          let split : done ++ (c ∷ cs) ≡ (other ++ 92 ∷ []) ++ (117 ∷ e.0) = sym is ∙ e.1 ∙ sym (append_assoc other (92 ∷ []) (117 ∷ e.0)) in
          let s = same_front done (other ++ 92 ∷ []) (c ∷ cs) (117 ∷ e.0) split (let n = length-append other (92 ∷ []) in omega arith) in
          let u : c ≡ 117 = (let t = s.1 in cc) in
          absurd (odd slash nope f u s.0)

  pub none : (slash : Bool) (done text : List ℕ) → whole ≡ done ++ text → IsFlag slash done → NoneBefore (length done) → escape_at slash text ≡ None → HasNoUnicodeEscape whole
  none slash done [] is f below e = λ other h.
      (let long = ap length is ∙ length-append done [] in
      let b = below other h in
      let w = ap length h.1 ∙ length-append other (92 ∷ 117 ∷ h.0) in
      absurd (omega arith))
  none slash done (c ∷ cs) is f below e = here (slash && nat_eq c 117) refl (λ nope t. none (nat_eq c 92 && not slash) (done ++ c ∷ []) cs (is ∙ sym (append_assoc done (c ∷ []) cs)) (flag_push slash done c f) (none_push slash done c cs is f nope below) t) e
    where
      here : (b : Bool) → (slash && nat_eq c 117) ≡ b → ((slash && nat_eq c 117) ≡ false → escape_at (nat_eq c 92 && not slash) cs ≡ None → HasNoUnicodeEscape whole) → cond b (Some 0) (option_map suc (escape_at (nat_eq c 92 && not slash) cs)) ≡ None → HasNoUnicodeEscape whole
      here true t ih e = absurd (let q : ◌≡◌ {A = Option ℕ} (Some 0) None = e in cc)
      here false t ih e = ih t (suc_none (escape_at (nat_eq c 92 && not slash) cs) e)

  pub record IsHit (n : ℕ) : Type 0 where
    pub before : List ℕ
    pub long : 1 + length before ≡ n
    pub first : IsFirstEscape whole before

  pub some : (slash : Bool) (done text : List ℕ) (n : ℕ) → whole ≡ done ++ text → IsFlag slash done → NoneBefore (length done) → escape_at slash text ≡ Some n → IsHit (length done + n)
  some slash done [] n is f below e = absurd (let q : ◌≡◌ {A = Option ℕ} None (Some n) = e in cc)
  some slash done (c ∷ cs) n is f below e = here (slash && nat_eq c 117) refl (λ nope m t. some (nat_eq c 92 && not slash) (done ++ c ∷ []) cs m (is ∙ sym (append_assoc done (c ∷ []) cs)) (flag_push slash done c f) (none_push slash done c cs is f nope below) t) e
    where
      hit : (slash : Bool) → (slash ≡ true) → IsFlag slash done → c ≡ 117 → n ≡ 0 → IsHit (length done + n)
      hit false s f u z = absurd (false≢true s)
      hit true s f u z =
          let long = ap length f.1 ∙ length-append f.0 (92 ∷ []) in
          record {
            before = f.0;
            long = omega arith;
            first = (
              (cs, is ∙ ap (λ xs. xs ++ c ∷ cs) f.1 ∙ append_assoc f.0 (92 ∷ []) (c ∷ cs) ∙ ap (λ x. f.0 ++ 92 ∷ x ∷ cs) u, f.2),
              λ other h. (let b = below other h in omega arith),
            );
          }

      here : (b : Bool) → (slash && nat_eq c 117) ≡ b → ((slash && nat_eq c 117) ≡ false → (m : ℕ) → escape_at (nat_eq c 92 && not slash) cs ≡ Some m → IsHit (length (done ++ c ∷ []) + m)) → cond b (Some 0) (option_map suc (escape_at (nat_eq c 92 && not slash) cs)) ≡ Some n → IsHit (length done + n)
      here true t ih e =
          let p = and_parts slash (nat_eq c 117) t in
          let z : 0 ≡ n = (let q : ◌≡◌ {A = Option ℕ} (Some 0) (Some n) = e in cc) in
          hit slash p.0 f (eqb-true c 117 p.1) (sym z)
      here false t ih e =
          let s = suc_some (escape_at (nat_eq c 92 && not slash) cs) n e in
          subst IsHit (let l = length-append done (c ∷ []) in let q = s.2 in omega arith) (ih t s.0 s.1)

none_yet : (whole : List ℕ) → NoneBefore whole 0
none_yet whole other e = omega arith

pub no_escape : (text : List ℕ) → escape_at false text ≡ None → HasNoUnicodeEscape text
no_escape text e = none text false [] text refl refl (none_yet text) e

-- what the first escape's place says
abbrev pub IsPlace : List ℕ → ℕ → Type 0
IsPlace text n = (n < length text) × (slice_get text n ≡ Some 92) × IsFirstEscape text (take n text)

pub an_escape : (text : List ℕ) (n : ℕ) → escape_at false text ≡ Some n → IsPlace text (n - 1)
an_escape text n e =
    let h = some text false [] text n refl refl (none_yet text) e in
    let place : length h.before ≡ n - 1 = (let l = h.long in omega arith) in
    let front : take (n - 1) text ≡ h.before = ap (take (n - 1)) h.first.0.1 ∙ take_at h.before (92 ∷ 117 ∷ h.first.0.0) (n - 1) place in
    let long = ap length h.first.0.1 ∙ length-append h.before (92 ∷ 117 ∷ h.first.0.0) in (
      omega arith,
      subst (λ t. slice_get t (n - 1) ≡ Some 92) (sym h.first.0.1) (get_at h.before (117 ∷ h.first.0.0) 92 (n - 1) place),
      subst (IsFirstEscape text) (sym front) h.first,
    )

module _ (bytes : List ℕ) (utf8 : IsUtf8 bytes) where
  -- an escape is a backslash and `u` among the bytes, too
  pub no_pair : (HasSubslice bytes (92 ∷ 117 ∷ []) → ⊥) → HasNoUnicodeEscape (chars bytes)
  no_pair none other h =
      let front = encode_utf8_all other in
      let back = encode_utf8_all h.0 in
      let cut : bytes ≡ front ++ (encode_utf8 92 ++ (encode_utf8 117 ++ back)) = sym (encodes-chars bytes utf8) ∙ ap encode_utf8_all h.1 ∙ encodes-append other (92 ∷ 117 ∷ h.0) in
      none (front, back, cut ∙ ap (λ bs. front ++ (bs ++ (encode_utf8 117 ++ back))) (encode_ascii 92 (omega arith)) ∙ ap (λ bs. front ++ 92 ∷ (bs ++ back)) (encode_ascii 117 (omega arith)))

  pub no_backslash : list_any is_backslash bytes ≡ false → HasNoUnicodeEscape (chars bytes)
  no_backslash e = no_pair (λ pair. absurd (false≢true (sym e ∙ ap (list_any is_backslash) pair.2 ∙ list_any-append is_backslash pair.0 (92 ∷ 117 ∷ pair.1) ∙ or-true (list_any is_backslash pair.0))))
