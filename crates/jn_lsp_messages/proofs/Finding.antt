-- Paths in URIs, names at paths, and ranges and positions that are found.
use Rattle.std.proofs.Common.{◌≡◌, ℕ, true, false, ◌&&◌, List, Option, Some, None, IsUtf8, option_and_then, sym, ap, ◌∙◌, ◌⊎◌, inl, inr}
use Rattle.std.specs.Prelude.{bytes_eq, drop, length, take}
use Rattle.std.specs.Str.{is_utf8}
use Rattle.std.proofs.lemmas.Bool.{cond-true, cond-false, cases_Bool}
use Rattle.std.proofs.lemmas.Str.{IsUtf8-from_is_utf8, is_utf8-from_IsUtf8}
use Rattle.percent_encoding.specs.Percent.{percent_decode}
use Rattle.serde_json.specs.Data.{Data}
use Rattle.jn_lsp_text.specs.declared.position.Position.{Position}
use Rattle.jn_lsp_text.specs.declared.range.Range.{Range}
use Rattle.jn_lsp_messages.specs.Incoming.{position_in, range_in}
use Rattle.jn_lsp_messages.specs.Uris.{is_path, name_at, path_behind}

-- another front, a path after the front, and no path after it
pub other_front : (front uri : List ℕ) → bytes_eq (take (length front) uri) front ≡ false → None ≡ path_behind front uri
unfolding path_behind
other_front front uri e = sym (cond-false _ _ _ (ap (λ b. b && is_path (drop (length front) uri)) e))

pub path_there : (front uri path : List ℕ) → bytes_eq (take (length front) uri) front ≡ true → path ≡ drop (length front) uri → is_path path ≡ true → Some path ≡ path_behind front uri
unfolding path_behind
path_there front uri path e is there =
    ap Some is ∙ sym (cond-true _ _ _ (ap (λ b. b && is_path (drop (length front) uri)) e ∙ ap is_path (sym is) ∙ there))

pub no_path_there : (front uri path : List ℕ) → bytes_eq (take (length front) uri) front ≡ true → path ≡ drop (length front) uri → is_path path ≡ false → None ≡ path_behind front uri
unfolding path_behind
no_path_there front uri path e is none =
    sym (cond-false _ _ _ (ap (λ b. b && is_path (drop (length front) uri)) e ∙ ap is_path (sym is) ∙ none))

-- a path whose escapes give a text, and one whose escapes give none
pub text_there : (uri path bytes name : List ℕ) → bytes ≡ percent_decode path → IsUtf8 bytes → name ≡ bytes → name ≡ name_at uri (Some path)
text_there uri path bytes name is text e =
    e ∙ is ∙ sym (cond-true _ _ _ (ap is_utf8 (sym is) ∙ is_utf8-from_IsUtf8 bytes text))

pub no_text_there : (uri path bytes : List ℕ) → bytes ≡ percent_decode path → (IsUtf8 bytes → ⊥) → uri ≡ name_at uri (Some path)
no_text_there uri path bytes is none = sym (cond-false _ _ _ (ap is_utf8 (sym is) ∙ not_text (cases_Bool (is_utf8 bytes))))
  where
    not_text : (is_utf8 bytes ≡ true) ⊎ (is_utf8 bytes ≡ false) → is_utf8 bytes ≡ false
    not_text (inl yes_it) = absurd (none (IsUtf8-from_is_utf8 bytes yes_it))
    not_text (inr e) = e

-- a range that was found
pub range_there : (found : Option Data) (d : Data) (r : Option Range) → found ≡ Some d → r ≡ range_in d → r ≡ option_and_then range_in found
range_there found d r e is = is ∙ sym (ap (option_and_then range_in) e)

-- a position that was found
pub position_there : (found : Option Data) (d : Data) (r : Option Position) → found ≡ Some d → r ≡ position_in d → r ≡ option_and_then position_in found
position_there found d r e is = is ∙ sym (ap (option_and_then position_in) e)
