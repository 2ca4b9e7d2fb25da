-- The name of a name's URI.
use Rattle.std.proofs.Common.{◌≡◌, ℕ, true, false, List, [], ◌∷◌, ◌++◌, Some, All, refl, sym, ap, ◌∙◌, subst, codes}
use Rattle.std.specs.Str.{is_utf8}
use Rattle.std.proofs.lemmas.Bool.{cond-true, eqb-true}
use Rattle.percent_encoding.specs.Percent.{percent_decode, percent_encode}
use Rattle.percent_encoding.proofs.OnLiterals.{percent_encoding_on_literals}
use Rattle.percent_encoding.proofs.PercentLemmas.{IsByte, percent_encode_kept, round_trip}
use Rattle.percent_encoding.specs.AsciiSet.{contains, should_percent_encode}
use Rattle.jn_lsp_messages.specs.Uris.{is_path, name_at, name_of, path_behind, path_in, uri_of}
use Rattle.jn_lsp_messages.specs.declared.uri.TheConstants.{PATH}

-- a slash is kept, and a percent sign is escaped
slash_is_kept : should_percent_encode PATH 47 ≡ false
unfolding percent_encoding_on_literals
slash_is_kept = refl

percent_is_escaped : contains PATH 37 ≡ true
percent_is_escaped = refl

-- what stands after the scheme of a file's URI
behind_scheme : (rest : List ℕ) → path_in (codes "file://" ++ 47 ∷ rest) ≡ Some (47 ∷ rest)
unfolding path_behind
behind_scheme rest = refl

uri_of_path : (rest : List ℕ) → uri_of (47 ∷ rest) ≡ codes "file://" ++ 47 ∷ percent_encode PATH rest
unfolding uri_of
uri_of_path rest = ap (λ path. codes "file://" ++ path) (percent_encode_kept PATH 47 rest slash_is_kept)

decoded_path : (rest : List ℕ) → All IsByte (47 ∷ rest) → percent_decode (47 ∷ percent_encode PATH rest) ≡ 47 ∷ rest
decoded_path rest small = ap percent_decode (sym (percent_encode_kept PATH 47 rest slash_is_kept)) ∙ round_trip PATH (47 ∷ rest) percent_is_escaped small

name_is_back : (rest : List ℕ) → All IsByte (47 ∷ rest) → is_utf8 (47 ∷ rest) ≡ true → name_of (uri_of (47 ∷ rest)) ≡ 47 ∷ rest
unfolding name_of
name_is_back rest small text =
    ap name_of (uri_of_path rest)
    ∙ ap (name_at (codes "file://" ++ 47 ∷ percent_encode PATH rest)) (behind_scheme (percent_encode PATH rest))
    ∙ cond-true _ _ _ (ap is_utf8 (decoded_path rest small) ∙ text)
    ∙ decoded_path rest small

pub name_back : (name : List ℕ) → All IsByte name → is_utf8 name ≡ true → is_path name ≡ true → name_of (uri_of name) ≡ name
name_back [] small text path = absurd (no_path path)
  where
    no_path : false ≡ true → ⊥
    no_path e = cc
name_back (first ∷ rest) small text path =
    let is = eqb-true first 47 path in
    subst (λ b. All IsByte (b ∷ rest) → is_utf8 (b ∷ rest) ≡ true → name_of (uri_of (b ∷ rest)) ≡ b ∷ rest) (sym is) (name_is_back rest) small text
