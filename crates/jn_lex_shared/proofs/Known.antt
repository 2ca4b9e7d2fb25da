-- Texts that are numbered one after another.
use Rattle.std.proofs.lemmas.List.{take_more}
use Rattle.std.proofs.Common.{◌≡◌, ℕ, ◌+◌, ◌<◌, ◌≤◌, take, map, get_or, length-take, Bool, true, false, List, [], ◌∷◌, ◌++◌, length, Bor, refl, sym, ap, ◌∙◌, arith, length-append, append_assoc, append-nil}
use Rattle.std.specs.Prelude.{bytes_eq, not, ◌&&◌, if◌then◌else◌}
use Rattle.std.specs.List.{list_any}
use Rattle.jn_trees.specs.Names.{with_name}
use Rattle.jn_lex_shared.specs.Interned.{all_new, interned}

interned_more : (names : List (List ℕ)) (bs : List (Bor (List ℕ))) (b : Bor (List ℕ)) → interned names (bs ++ b ∷ []) ≡ with_name (interned names bs) b.now
interned_more names [] b = refl
interned_more names (a ∷ bs) b = interned_more (with_name names a.now) bs b

one_more : (known : Bool) (names : List (List ℕ)) (text : List ℕ) → length (if known then names else names ++ text ∷ []) ≤ length names + 1
one_more true names text = omega arith
one_more false names text = omega (arith, length-append names (text ∷ []))

interned_length : (names : List (List ℕ)) (bs : List (Bor (List ℕ))) → length (interned names bs) ≤ length names + length bs
interned_length names [] = omega arith
interned_length names (b ∷ bs) =
    let more = one_more (list_any (bytes_eq b.now) names) names b.now in
    let ih = interned_length (with_name names b.now) bs in
    omega (arith, more, ih)

pub further : (old names new : List (List ℕ)) (texts : List (Bor (List ℕ))) (i : ℕ) (d : Bor (List ℕ)) → i < length texts → names ≡ interned old (take i texts) → new ≡ with_name names (get_or texts i d).now → new ≡ interned old (take (i + 1) texts)
further old names new texts i d lt is e =
    e ∙ ap (λ ns. with_name ns (get_or texts i d).now) is ∙ sym (interned_more old (take i texts) (get_or texts i d)) ∙ ap (interned old) (sym (take_more texts i d lt))

pub short : (old names : List (List ℕ)) (texts : List (Bor (List ℕ))) (i : ℕ) → i < length texts → names ≡ interned old (take i texts) → length old + length texts < 4294967295 → length names < 4294967295
short old names texts i lt is fits =
    let h = interned_length old (take i texts) in
    let e : length names ≡ length (interned old (take i texts)) = ap length is in
    omega (arith, h, e, length-take {A = Bor (List ℕ)})

new_and : (known rest : Bool) → (not known && rest) ≡ true → (known ≡ false) × (rest ≡ true)
new_and true rest e = absurd (no_flag e)
  where
    no_flag : false ≡ true → ⊥
    no_flag e = cc
new_and false rest e = (refl, e)

-- texts of which each is new are numbered as they stand
pub as_they_stand : (names : List (List ℕ)) (bs : List (Bor (List ℕ))) → all_new names bs ≡ true → interned names bs ≡ names ++ map (λ b. b.now) bs
as_they_stand names [] e = sym (append-nil names)
as_they_stand names (b ∷ bs) e =
    let first = new_and (list_any (bytes_eq b.now) names) (all_new (names ++ b.now ∷ []) bs) e in
    ap (λ known. interned (if known then names else names ++ b.now ∷ []) bs) first.0
    ∙ as_they_stand (names ++ b.now ∷ []) bs first.1
    ∙ append_assoc names (b.now ∷ []) (map (λ b. b.now) bs)
