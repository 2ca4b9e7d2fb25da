-- What loops keep that read one item after another.
use Rattle.std.proofs.Common.{◌≡◌, ℕ, zero, suc, ◌+◌, ◌<◌, List, [], ◌∷◌, ◌++◌, refl, ap, ◌∙◌, length, length-append, arith, Option, Some, None}
use Rattle.jn_base.specs.declared.number.NameNo.{NameNo}
use Rattle.jn_trees.specs.declared.token.TokenKind.{TokenKind}
use Rattle.jn_trees.specs.declared.token.TokenKind.TheVariants.{Id, Comma}
use Rattle.jn_trees.specs.Trees.{LocalMark, TypeUseTree, ParameterTree}
use Rattle.jn_trees.specs.Spelling.{spell_marks, spell_type_use}
use Rattle.jn_parse_stmt_law.specs.Fronts.{SpelledIfRead}
use Rattle.jn_parse_stmt_law.specs.Parts.{read_marks, read_type_use}
use Rattle.jn_parse_stmt_law.proofs.Fronts.{marks_spell, type_use_spells}
use Rattle.jn_parse_decl_law.specs.PieceReader.{TryParameters, after_type, parameter_end, parameter_from, add_parameter, more_parameters_from, read_more_parameters}
use Rattle.jn_parse_decl.specs.Front.{prepend_parameters, name_behind, one_parameter}

end_by : (more : List TokenKind → TryParameters) (ms : List LocalMark) (u : TypeUseTree) (ts : List TokenKind) (r : Option (ParameterTree × List TokenKind)) → name_behind ms u ts ≡ r → parameter_end more ms u ts ≡ elim r as (λ _. TryParameters) [ None ↦ None | Some q ↦ add_parameter q.0 (more q.1) ]
end_by more ms u [] r e = ap (λ (o : Option (ParameterTree × List TokenKind)). elim o as (λ _. TryParameters) [ None ↦ None | Some q ↦ add_parameter q.0 (more q.1) ]) e
end_by more ms u (Id n ∷ ts) r e = ap (λ (o : Option (ParameterTree × List TokenKind)). elim o as (λ _. TryParameters) [ None ↦ None | Some q ↦ add_parameter q.0 (more q.1) ]) e
end_by more ms u (_ ∷ ts) r e = ap (λ (o : Option (ParameterTree × List TokenKind)). elim o as (λ _. TryParameters) [ None ↦ None | Some q ↦ add_parameter q.0 (more q.1) ]) e

from_by : (more : List TokenKind → TryParameters) (ms : List LocalMark) (o : Option (TypeUseTree × List TokenKind)) (r : Option (ParameterTree × List TokenKind)) → after_type (name_behind ms) o ≡ r → after_type (parameter_end more ms) o ≡ elim r as (λ _. TryParameters) [ None ↦ None | Some q ↦ add_parameter q.0 (more q.1) ]
from_by more ms None r e = ap (λ (o : Option (ParameterTree × List TokenKind)). elim o as (λ _. TryParameters) [ None ↦ None | Some q ↦ add_parameter q.0 (more q.1) ]) e
from_by more ms (Some q) r e = end_by more ms q.0 q.1 r e

pub from_none : (more : List TokenKind → TryParameters) (ts : List TokenKind) → one_parameter ts ≡ None → parameter_from more ts ≡ None
from_none more ts e = from_by more (read_marks ts).0 (read_type_use (read_marks ts).1) None e

pub from_some : (more : List TokenKind → TryParameters) (ts : List TokenKind) (p : ParameterTree) (rest : List TokenKind) → one_parameter ts ≡ Some (p, rest) → parameter_from more ts ≡ add_parameter p (more rest)
from_some more ts p rest e = from_by more (read_marks ts).0 (read_type_use (read_marks ts).1) (Some (p, rest)) e

-- n more parameters from here give the answer, and n is enough
pub record Going (before : List ParameterTree) (left : List TokenKind) (whole : TryParameters) : Type 0 where
  pub n : ℕ
  pub room : length left < n
  pub gives : whole ≡ prepend_parameters before (more_parameters_from n left)

pub going_start : (before : List ParameterTree) (ts : List TokenKind) → Going before ts (prepend_parameters before (read_more_parameters ts))
unfolding read_more_parameters
going_start before ts = record { n = suc (length ts); room = omega arith; gives = refl }

fails : (before : List ParameterTree) (left after : List TokenKind) (whole : TryParameters) (n : ℕ) → whole ≡ prepend_parameters before (more_parameters_from n left) → left ≡ Comma ∷ after → one_parameter after ≡ None → whole ≡ None
fails before left after whole zero gives e none = gives
fails before left after whole (suc n) gives e none =
    gives ∙ ap (λ ts. prepend_parameters before (more_parameters_from (suc n) ts)) e ∙ ap (λ o. prepend_parameters before o) (from_none (more_parameters_from n) after none)

pub going_fails : (before : List ParameterTree) (left after : List TokenKind) (whole : TryParameters) → Going before left whole → left ≡ Comma ∷ after → one_parameter after ≡ None → whole ≡ None
going_fails before left after whole g e none = fails before left after whole g.n g.gives e none

append_more : (before : List ParameterTree) (p : ParameterTree) (o : TryParameters) → prepend_parameters before (add_parameter p o) ≡ prepend_parameters (before ++ p ∷ []) o
append_more before p None = refl
append_more before p (Some r) = ap (λ ps. Some (ps, r.1)) (joins before p r.0)
  where
    joins : (xs : List ParameterTree) (x : ParameterTree) (ys : List ParameterTree) → xs ++ x ∷ ys ≡ (xs ++ x ∷ []) ++ ys
    joins [] x ys = refl
    joins (z ∷ xs) x ys = ap (λ zs. z ∷ zs) (joins xs x ys)

goes : (before : List ParameterTree) (left after rest : List TokenKind) (p : ParameterTree) (whole : TryParameters) (n : ℕ) → length left < n → whole ≡ prepend_parameters before (more_parameters_from n left) → left ≡ Comma ∷ after → one_parameter after ≡ Some (p, rest) → length rest < length after → Going (before ++ p ∷ []) rest whole
goes before left after rest p whole zero room gives e is less = absurd (omega arith)
goes before left after rest p whole (suc n) room gives e is less =
    let long : length left ≡ suc (length after) = ap length e in
    record {
      n = n;
      room = omega arith;
      gives = gives ∙ ap (λ ts. prepend_parameters before (more_parameters_from (suc n) ts)) e ∙ ap (λ o. prepend_parameters before o) (from_some (more_parameters_from n) after p rest is) ∙ append_more before p (more_parameters_from n rest);
    }

pub going_on : (before : List ParameterTree) (left after rest : List TokenKind) (p : ParameterTree) (whole : TryParameters) → Going before left whole → left ≡ Comma ∷ after → one_parameter after ≡ Some (p, rest) → length rest < length after → Going (before ++ p ∷ []) rest whole
going_on before left after rest p whole g e is less = goes before left after rest p whole g.n g.room g.gives e is less

-- the first parameter before others
pub first_more : (p : ParameterTree) (o : TryParameters) → prepend_parameters (p ∷ []) o ≡ add_parameter p o
first_more p None = refl
first_more p (Some r) = refl

name_shorter : (ms : List LocalMark) (u : TypeUseTree) (ts : List TokenKind) (p : ParameterTree) (rest : List TokenKind) → name_behind ms u ts ≡ Some (p, rest) → length rest < length ts
name_shorter ms u [] p rest e = cc
name_shorter ms u (Id n ∷ ts) p rest e =
    let q : ParameterTree = record { marks = ms; type_use = u; name = n } in
    let same : ◌≡◌ {A = ParameterTree × List TokenKind} (q, ts) (p, rest) = cc in
    let as_long : length ts ≡ length rest = ap (λ (r : ParameterTree × List TokenKind). length r.1) same in
    omega (arith, as_long)
name_shorter ms u (_ ∷ ts) p rest e = cc

typed_shorter : (ms : List LocalMark) (us : List TokenKind) (o : Option (TypeUseTree × List TokenKind)) (p : ParameterTree) (rest : List TokenKind) → SpelledIfRead spell_type_use us o → after_type (name_behind ms) o ≡ Some (p, rest) → length rest < length us
typed_shorter ms us None p rest s e = cc
typed_shorter ms us (Some q) p rest s e =
    let less : length rest < length q.1 = name_shorter ms q.0 q.1 p rest e in
    let long : length us ≡ length (spell_type_use q.0) + length q.1 = ap length s ∙ length-append (spell_type_use q.0) q.1 in
    omega (arith, less, long)

-- a parameter takes tokens
pub one_shorter : (ts : List TokenKind) (p : ParameterTree) (rest : List TokenKind) → one_parameter ts ≡ Some (p, rest) → length rest < length ts
one_shorter ts p rest e =
    let less : length rest < length (read_marks ts).1 = typed_shorter (read_marks ts).0 (read_marks ts).1 (read_type_use (read_marks ts).1) p rest (type_use_spells (read_marks ts).1) e in
    let long : length ts ≡ length (spell_marks (read_marks ts).0) + length (read_marks ts).1 = ap length (marks_spell ts) ∙ length-append (spell_marks (read_marks ts).0) (read_marks ts).1 in
    omega (arith, less, long)

-- names of annotations before those that are left
abbrev pub with_names : List NameNo → Option (List NameNo) → Option (List NameNo)
with_names ns None = None
with_names ns (Some ms) = Some (ns ++ ms)
