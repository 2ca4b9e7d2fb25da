-- Declarators and declarations of locals: what is read spells the front, and what is spelled is read.
use Rattle.std.proofs.Common.{◌≡◌, ℕ, zero, suc, ◌<◌, ◌≤◌, List, [], ◌∷◌, ◌++◌, length, refl, sym, ap, ◌∙◌, arith, append_assoc, length-append, Option, Some, None, false}
use Rattle.jn_base.specs.declared.number.NameNo.{NameNo}
use Rattle.jn_trees.specs.declared.token.TokenKind.{TokenKind}
use Rattle.jn_trees.specs.declared.token.TokenKind.TheVariants.{Id, Comma, Assign}
use Rattle.jn_trees.specs.Trees.{Tree, DeclaratorTree, LocalTree, ParameterTree}
use Rattle.jn_trees.specs.Spelling.{spell, spell_marks, spell_type_use, spell_value, spell_declarator, spell_more_declarators, spell_local, spell_parameter}
use Rattle.jn_trees.specs.WellFormed.{GoodOptional, nesting_optional, GoodDeclarators, nesting_declarators, GoodLocal, nesting_local, assignment_rank}
use Rattle.jn_trees.specs.Longest.{Try}
use Rattle.jn_parse_expr_law.specs.Follow.{reach_of}
use Rattle.jn_parse_expr_law.proofs.Sound.{Sound}
use Rattle.jn_parse_stmt_law.specs.Parts.{Behind, Read, then_read, value_or, read_value, declarator, declarator_behind, put_before, more_declarators, all_declarators, first_and_more, declarators_behind, read_declarators, local_of, local_behind, read_local, read_parameter}
use Rattle.jn_parse_stmt_law.specs.Fronts.{starts_comma, EndsDeclarators, Spelled, SoundParameter, spell_declarators, SoundDeclarators, SoundLocal}
use Rattle.jn_parse_stmt_law.proofs.Fronts.{parameter_sound, parameter_exact}
use Rattle.jn_parse_stmt_law.proofs.Wholes.{Whole, exact_tree}

-- values
abbrev pub SoundValue : ℕ → List TokenKind → Behind (Option Tree) → Type 0
SoundValue d ts r = Spelled spell_value ts r × GoodOptional r.0 × (nesting_optional r.0 ≤ d)

value_or_sound : (d : ℕ) (ts : List TokenKind) (o : Try) → Sound assignment_rank d ts o → SoundValue d (Assign ∷ ts) (value_or (Assign ∷ ts) o)
value_or_sound d ts None s = (refl, tt, omega arith)
value_or_sound d ts (Some r) s = (ap (λ x. Assign ∷ x) s.0, s.1, s.3)

pub value_sound : (d : ℕ) (whole : List TokenKind → Try) → Whole d whole → (ts : List TokenKind) → SoundValue d ts (read_value whole ts)
value_sound d whole w (Assign ∷ ts) = value_or_sound d ts (whole ts) (w.sound ts)
value_sound d whole w _ = (refl, tt, omega arith)

no_value : (whole : List TokenKind → Try) (rest : List TokenKind) → assignment_rank < reach_of rest → read_value whole rest ≡ (None, rest)
no_value whole (Assign ∷ ts) far = absurd (omega (arith, far))
no_value whole _ far = refl

value_exact : (d : ℕ) (whole : List TokenKind → Try) → Whole d whole → (v : Option Tree) (rest : List TokenKind) → GoodOptional v → nesting_optional v ≤ d → assignment_rank < reach_of rest → read_value whole (spell_value v ++ rest) ≡ (v, rest)
value_exact d whole w None rest g m far = no_value whole rest far
value_exact d whole w (Some e) rest g m far = ap (λ o. value_or (Assign ∷ (spell e ++ rest)) o) (exact_tree d whole w e rest g m far)

-- declarators after a comma each
abbrev SoundMore : ℕ → List TokenKind → Behind (List DeclaratorTree) → Type 0
SoundMore d ts r = Spelled spell_more_declarators ts r × GoodDeclarators r.0 × (nesting_declarators r.0 ≤ d)

more_sound : (d : ℕ) (whole : List TokenKind → Try) → Whole d whole → (n : ℕ) (ts : List TokenKind) → SoundMore d ts (more_declarators whole n ts)
more_sound d whole w zero ts = (refl, tt, omega arith)
more_sound d whole w (suc n) (Comma ∷ Id x ∷ ts) =
    let v = read_value whole ts in
    let q = more_declarators whole n v.1 in
    let s = value_sound d whole w ts in
    let k = more_sound d whole w n v.1 in
    (ap (λ y. Comma ∷ Id x ∷ y) (s.0 ∙ ap (λ y. spell_value v.0 ++ y) k.0 ∙ sym (append_assoc (spell_value v.0) (spell_more_declarators q.0) q.1)), (s.1, k.1), omega (arith, s.2, k.2))
more_sound d whole w (suc n) _ = (refl, tt, omega arith)

all_sound : (d : ℕ) (whole : List TokenKind → Try) → Whole d whole → (ts : List TokenKind) → SoundMore d ts (all_declarators whole ts)
unfolding all_declarators
all_sound d whole w ts = more_sound d whole w (length ts) ts

no_more : (whole : List TokenKind → Try) (n : ℕ) (rest : List TokenKind) → starts_comma rest ≡ false → more_declarators whole n rest ≡ ([], rest)
no_more whole zero rest e = refl
no_more whole (suc n) (Comma ∷ ts) e = cc
no_more whole (suc n) _ e = refl

far_more : (ds : List DeclaratorTree) (rest : List TokenKind) → assignment_rank < reach_of rest → assignment_rank < reach_of (spell_more_declarators ds ++ rest)
far_more [] rest far = far
far_more (x ∷ ds) rest far = omega arith

more_exact : (d : ℕ) (whole : List TokenKind → Try) → Whole d whole → (ds : List DeclaratorTree) (n : ℕ) (rest : List TokenKind) → GoodDeclarators ds → nesting_declarators ds ≤ d → EndsDeclarators rest → length ds ≤ n
    → more_declarators whole n (spell_more_declarators ds ++ rest) ≡ (ds, rest)
more_exact d whole w [] n rest g m ends le = no_more whole n rest ends.1
more_exact d whole w (x ∷ ds) zero rest g m ends le = absurd (omega (arith, le))
more_exact d whole w (x ∷ ds) (suc n) rest g m ends le =
    let tail = spell_more_declarators ds ++ rest in
    ap (λ y. put_before (declarator_behind whole x.name y) (more_declarators whole n)) (append_assoc (spell_value x.value) (spell_more_declarators ds) rest)
    ∙ ap (λ v. put_before (declarator x.name v) (more_declarators whole n)) (value_exact d whole w x.value tail g.0 (omega (arith, m)) (far_more ds rest ends.0))
    ∙ ap (λ (r : Behind (List DeclaratorTree)). (x ∷ r.0, r.1)) (more_exact d whole w ds n rest g.1 (omega (arith, m)) ends (omega (arith, le)))

length_more : (ds : List DeclaratorTree) → length ds ≤ length (spell_more_declarators ds)
length_more [] = omega arith
length_more (x ∷ ds) = omega (arith, length_more ds, length-append (spell_declarator x) (spell_more_declarators ds))

all_exact : (d : ℕ) (whole : List TokenKind → Try) → Whole d whole → (ds : List DeclaratorTree) (rest : List TokenKind) → GoodDeclarators ds → nesting_declarators ds ≤ d → EndsDeclarators rest → all_declarators whole (spell_more_declarators ds ++ rest) ≡ (ds, rest)
unfolding all_declarators
all_exact d whole w ds rest g m ends =
    let ts = spell_more_declarators ds ++ rest in
    let long : length ds ≤ length ts = omega (arith, length_more ds, length-append (spell_more_declarators ds) rest) in
    more_exact d whole w ds (length ts) rest g m ends long

-- all of a declaration
pub declarators_behind_sound : (d : ℕ) (whole : List TokenKind → Try) → Whole d whole → (n : NameNo) (ts : List TokenKind) → SoundDeclarators d (Id n ∷ ts) (Some (declarators_behind whole n ts))
declarators_behind_sound d whole w n ts =
    let v = read_value whole ts in
    let q = all_declarators whole v.1 in
    let s = value_sound d whole w ts in
    let k = all_sound d whole w v.1 in
    (ap (λ y. Id n ∷ y) (s.0 ∙ ap (λ y. spell_value v.0 ++ y) k.0 ∙ sym (append_assoc (spell_value v.0) (spell_more_declarators q.0) q.1)), (s.1, k.1), omega (arith, s.2, k.2))

pub declarators_sound : (d : ℕ) (whole : List TokenKind → Try) → Whole d whole → (ts : List TokenKind) → SoundDeclarators d ts (read_declarators whole ts)
declarators_sound d whole w (Id n ∷ ts) = declarators_behind_sound d whole w n ts
declarators_sound d whole w _ = tt

-- from what stands after the first name
pub declarators_behind_exact : (d : ℕ) (whole : List TokenKind → Try) → Whole d whole → (x : DeclaratorTree) (ds : List DeclaratorTree) (rest : List TokenKind) → GoodDeclarators (x ∷ ds) → nesting_declarators (x ∷ ds) ≤ d → EndsDeclarators rest
    → declarators_behind whole x.name (spell_value x.value ++ (spell_more_declarators ds ++ rest)) ≡ ((x, ds), rest)
declarators_behind_exact d whole w x ds rest g m ends =
    let tail = spell_more_declarators ds ++ rest in
    ap (λ v. first_and_more (declarator x.name v) (all_declarators whole)) (value_exact d whole w x.value tail g.0 (omega (arith, m)) (far_more ds rest ends.0))
    ∙ ap (λ (r : Behind (List DeclaratorTree)). ((x, r.0), r.1)) (all_exact d whole w ds rest g.1 (omega (arith, m)) ends)

pub declarators_exact : (d : ℕ) (whole : List TokenKind → Try) → Whole d whole → (x : DeclaratorTree) (ds : List DeclaratorTree) (rest : List TokenKind) → GoodDeclarators (x ∷ ds) → nesting_declarators (x ∷ ds) ≤ d → EndsDeclarators rest
    → read_declarators whole (spell_declarators (x, ds) ++ rest) ≡ Some ((x, ds), rest)
declarators_exact d whole w x ds rest g m ends =
    ap (λ y. Some (declarators_behind whole x.name y)) (append_assoc (spell_value x.value) (spell_more_declarators ds) rest) ∙ ap (λ r. Some r) (declarators_behind_exact d whole w x ds rest g m ends)

-- what is read after a parameter: its name is that of the first declarator
pub local_behind_sound : (d : ℕ) (whole : List TokenKind → Try) → Whole d whole → (us : List TokenKind) (p : ParameterTree) (ts : List TokenKind) → SoundParameter us (Some (p, ts)) → SoundLocal d us (Some (local_behind whole p ts))
local_behind_sound d whole w us p ts h =
    let k = declarators_behind_sound d whole w p.name ts in
    let r = declarators_behind whole p.name ts in (
      h.0 ∙ regroup (spell_marks p.marks) (spell_type_use p.type_use) (Id p.name ∷ []) ts
          ∙ ap (λ y. spell_marks p.marks ++ (spell_type_use p.type_use ++ y)) k.0
          ∙ sym (regroup (spell_marks p.marks) (spell_type_use p.type_use) (spell_declarators r.0) r.1),
      (h.1, k.1),
      k.2,
    )
  where
    regroup : (a b c e : List TokenKind) → (a ++ (b ++ c)) ++ e ≡ a ++ (b ++ (c ++ e))
    regroup a b c e = simp (append_assoc) refl

local_then : (d : ℕ) (whole : List TokenKind → Try) → Whole d whole → (ts : List TokenKind) (o : Read ParameterTree) → SoundParameter ts o → SoundLocal d ts (then_read o (λ p us. Some (local_behind whole p us)))
local_then d whole w ts None h = tt
local_then d whole w ts (Some r) h = local_behind_sound d whole w ts r.0 r.1 h

pub local_sound : (d : ℕ) (whole : List TokenKind → Try) → Whole d whole → (ts : List TokenKind) → SoundLocal d ts (read_local whole ts)
local_sound d whole w ts = local_then d whole w ts (read_parameter ts) (parameter_sound ts)

-- a declaration begins with its parameter
abbrev pub first_of : LocalTree → ParameterTree
first_of l = record { marks = l.marks; type_use = l.type_use; name = l.first.name }

-- what stands after that
abbrev pub spell_behind : LocalTree → List TokenKind → List TokenKind
spell_behind l rest = spell_value l.first.value ++ (spell_more_declarators l.more ++ rest)

pub local_split : (l : LocalTree) (rest : List TokenKind) → spell_local l ++ rest ≡ spell_parameter (first_of l) ++ spell_behind l rest
local_split l rest = regroup (spell_marks l.marks) (spell_type_use l.type_use) (Id l.first.name ∷ []) (spell_value l.first.value) (spell_more_declarators l.more) rest
  where
    regroup : (a b c e f g : List TokenKind) → (a ++ (b ++ ((c ++ e) ++ f))) ++ g ≡ (a ++ (b ++ c)) ++ (e ++ (f ++ g))
    regroup a b c e f g = simp (append_assoc) refl

pub front_exact : (l : LocalTree) (rest : List TokenKind) → GoodLocal l → read_parameter (spell_local l ++ rest) ≡ Some (first_of l, spell_behind l rest)
front_exact l rest g = ap read_parameter (local_split l rest) ∙ parameter_exact (first_of l) (spell_behind l rest) g.0

pub local_behind_exact : (d : ℕ) (whole : List TokenKind → Try) → Whole d whole → (l : LocalTree) (rest : List TokenKind) → GoodLocal l → nesting_local l ≤ d → EndsDeclarators rest → local_behind whole (first_of l) (spell_behind l rest) ≡ (l, rest)
local_behind_exact d whole w l rest g m ends = ap (λ r. local_of (first_of l) r) (declarators_behind_exact d whole w l.first l.more rest g.1 m ends)

pub local_exact : (d : ℕ) (whole : List TokenKind → Try) → Whole d whole → (l : LocalTree) (rest : List TokenKind) → GoodLocal l → nesting_local l ≤ d → EndsDeclarators rest → read_local whole (spell_local l ++ rest) ≡ Some (l, rest)
local_exact d whole w l rest g m ends =
    ap (λ o. then_read o (λ p us. Some (local_behind whole p us))) (front_exact l rest g) ∙ ap (λ r. Some r) (local_behind_exact d whole w l rest g m ends)
