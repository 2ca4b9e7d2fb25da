-- Which calls of a source in memory fail, and what a start chooses.
use Rattle.std.proofs.Common.{◌≡◌, ℕ, zero, suc, ◌+◌, ◌-◌, ◌^◌, ◌<◌, ◌≤◌, min, true, false, List, [], ◌∷◌, Option, Some, None, IsSome, is_none, drop, get_or, ◌==◌, refl, sym, ap, subst, ◌∙◌, arith, rules}
use Rattle.std.specs.List.{position}
use Rattle.std.proofs.lemmas.List.{drop-drop}
use Rattle.std.proofs.lemmas.List.Quantifiers.{position-Some}
use Rattle.std.proofs.lemmas.List.Folds.{Any-from_list_any}
use Rattle.std.proofs.lemmas.Option.{slice_get-get_or}
use Rattle.jn_outside.specs.declared.mem_files.MemFile.{MemFile}
use Rattle.jn_outside.specs.Calls.{fails_at, IsSteady}
use Rattle.jn_outside.specs.Memory.{is_named, held_in, bytes_at, bytes_of, left_of}

-- a steady source has no fault to come
pub steady_has_no_fault : (failing : List ℕ) (calls number : ℕ) → IsSteady failing calls → number ≡ min (calls + 1) (2 ^ 64 - 1) → number < 2 ^ 32 → fails_at failing number ≡ true → ⊥
steady_has_no_fault failing calls number steady e small fails =
    let a = Any-from_list_any (λ n. n == number) failing fails in
    let le : a.1 ≤ calls = subst (λ n. n ≤ calls) a.3 (steady a.0 a.1 a.2) in
    let same : a.1 ≡ number = let h = a.4 in search rules in
    omega (arith, le, same, e, small)

-- a start chooses the first file of the name at its first byte
pub starts : (files : List MemFile) (name : List ℕ) (found : Option ℕ) → found ≡ position (is_named name) files → is_none found ≡ false → IsSome (held_in files name) × (Some (left_of (bytes_at found files) 0) ≡ held_in files name)
starts files name None e some = cc
starts [] name (Some at) e some = cc
starts (file ∷ rest) name (Some at) e some =
    let within = (position-Some (is_named name) (file ∷ rest) at file (sym e)).0 in
    let there = ap bytes_of (slice_get-get_or (file ∷ rest) at file within) in
    let held : held_in (file ∷ rest) name ≡ Some (get_or (file ∷ rest) at file).bytes.items = ap (λ p. bytes_at p (file ∷ rest)) (sym e) ∙ there in
    (rw held (search rules), ap (λ o. Some (left_of o 0)) there ∙ sym held)

-- reading on
pub left_behind : (bytes : Option (List ℕ)) (place count : ℕ) → left_of bytes (place + count) ≡ drop count (left_of bytes place)
left_behind None place zero = refl
left_behind None place (suc count) = refl
left_behind (Some bytes) place count = sym (drop-drop count place bytes)

pub ruleset memory_lemmas = (steady_has_no_fault, starts, left_behind)
