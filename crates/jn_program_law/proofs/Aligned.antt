-- Methods, the constructors that they call, and trees of bodies stand side by side.
use Rattle.std.proofs.Common.{◌≡◌, ◌≤◌, ◌+◌, ℕ, zero, suc, Bool, true, false, List, [], ◌∷◌, ◌++◌, length, Option, Some, None, refl, sym, ap, ◌∙◌, subst, arith}
use Rattle.std.specs.Prelude.{slice_get, slice_index_or}
use Rattle.jn_base.specs.declared.number.BodyNo.{BodyNo}
use Rattle.jn_points.specs.declared.program.Method.{Method}
use Rattle.jn_points.specs.declared.program.Program.{Program}
use Rattle.jn_points.specs.Members.{constructor_of}
use Rattle.jn_places.specs.Placed.{NoPlacedStatements}
use Rattle.jn_classtable.specs.Table.{body_at, count}
use Rattle.jn_declaration_rules.proofs.Tests.{member}
use Rattle.jn_lowering.specs.Bodies.{Source, own_arity}
use Rattle.jn_program_law.specs.FileSources.{BodyTree, numbered}

abbrev pub is_tree : Option BodyTree → Bool
is_tree None = false
is_tree (Some u) = true

-- what the tree of a method's body says
pub record Agrees (P : Program) (x : Method) (calls : List ℕ) (t : Option BodyTree) : Type 0 where
  -- a constructor that begins with `this(..)` calls the one of that arity
  pub called : (u : BodyTree) → t ≡ Some u → x.ctor ≡ true → (n k : ℕ) → own_arity u.body ≡ Some n → constructor_of P x.owner.0 n ≡ Some k → member k calls ≡ true
  -- Object's constructor isn't written
  pub object : (u : BodyTree) → t ≡ Some u → x.owner.0 ≡ 0 → u.body ≡ NoPlacedStatements

module _ (P : Program) where
  -- the bodies are numbered from `body` on, up to `end`
  abbrev pub AllAgree : ℕ → ℕ → List Method → List (List ℕ) → List (Option BodyTree) → Type 0
  AllAgree body end [] [] [] = body ≡ end
  AllAgree body end (x ∷ xs) (c ∷ cs) (t ∷ ts) = (x.body ≡ body_at (is_tree t) body) × (Agrees P x c t × AllAgree (body + count (is_tree t)) end xs cs ts)
  AllAgree body end xs cs ts = ⊥

  pub agree_append : (b m e : ℕ) (xs ys : List Method) (cs ds : List (List ℕ)) (ts us : List (Option BodyTree)) → AllAgree b m xs cs ts → AllAgree m e ys ds us → AllAgree b e (xs ++ ys) (cs ++ ds) (ts ++ us)
  agree_append b m e [] ys [] ds [] us h k = subst (λ n. AllAgree n e ys ds us) (sym h) k
  agree_append b m e [] ys [] ds (t ∷ ts) us h k = absurd h
  agree_append b m e [] ys (c ∷ cs) ds ts us h k = absurd h
  agree_append b m e (x ∷ xs) ys [] ds ts us h k = absurd h
  agree_append b m e (x ∷ xs) ys (c ∷ cs) ds [] us h k = absurd h
  agree_append b m e (x ∷ xs) ys (c ∷ cs) ds (t ∷ ts) us h k = (h.0, (h.1.0, agree_append (b + count (is_tree t)) m e xs ys cs ds ts us h.1.1 k))

  -- a source has the method at its place, whose body has its number
  pub record SourceAt (first body k : ℕ) (xs : List Method) (cs : List (List ℕ)) (s : Source) : Type 0 where
    pub at : ℕ
    pub method : Method
    pub there : slice_get xs at ≡ Some method
    pub number : s.method ≡ first + at
    pub bodied : method.body ≡ Some (record { 0 = body + k })
    pub called : method.ctor ≡ true → (n c : ℕ) → own_arity s.body ≡ Some n → constructor_of P method.owner.0 n ≡ Some c → member c (slice_index_or cs at []) ≡ true
    pub object : method.owner.0 ≡ 0 → s.body ≡ NoPlacedStatements

  pub source_at : (first body end : ℕ) (xs : List Method) (cs : List (List ℕ)) (ts : List (Option BodyTree)) → AllAgree body end xs cs ts → (k : ℕ) (s : Source) → slice_get (numbered first ts) k ≡ Some s → SourceAt first body k xs cs s
  source_at first body end [] cs [] h k s at = cc
  source_at first body end (x ∷ xs) cs [] h k s at = cc
  source_at first body end [] [] (t ∷ ts) h k s at = absurd h
  source_at first body end [] (c ∷ cs) (t ∷ ts) h k s at = absurd h
  source_at first body end (x ∷ xs) [] (t ∷ ts) h k s at = absurd h
  source_at first body end (x ∷ xs) (c ∷ cs) (None ∷ ts) h k s at = behind (source_at (suc first) (body + 0) end xs cs ts h.1.1 k s at)
    where
      behind : SourceAt (suc first) (body + 0) k xs cs s → SourceAt first body k (x ∷ xs) (c ∷ cs) s
      behind r = record {
        at = suc r.at;
        method = r.method;
        there = r.there;
        number = (let e : s.method ≡ suc first + r.at = r.number in omega arith);
        bodied = subst (λ n. r.method.body ≡ Some (record { 0 = n })) (omega arith) r.bodied;
        called = r.called;
        object = r.object;
      }
  source_at first body end (x ∷ xs) (c ∷ cs) (Some u ∷ ts) h zero s at = record {
    at = zero;
    method = x;
    there = refl;
    number = ap (λ (z : Source). z.method) (sym same) ∙ (let e : first ≡ first + 0 = omega arith in e);
    bodied = h.0 ∙ ap (λ n. Some (record { 0 = n })) (let e : body ≡ body + 0 = omega arith in e);
    called = λ i n k o f. h.1.0.called u refl i n k (ap own_arity (ap (λ (z : Source). z.body) same) ∙ o) f;
    object = λ o. ap (λ (z : Source). z.body) (sym same) ∙ h.1.0.object u refl o;
  }
    where
      same : record { method = first; parameters = u.parameters; body = u.body; members = u.members } ≡ s
      same = cc
  source_at first body end (x ∷ xs) (c ∷ cs) (Some u ∷ ts) h (suc k) s at = behind (source_at (suc first) (body + 1) end xs cs ts h.1.1 k s at)
    where
      behind : SourceAt (suc first) (body + 1) k xs cs s → SourceAt first body (suc k) (x ∷ xs) (c ∷ cs) s
      behind r = record {
        at = suc r.at;
        method = r.method;
        there = r.there;
        number = (let e : s.method ≡ suc first + r.at = r.number in omega arith);
        bodied = subst (λ n. r.method.body ≡ Some (record { 0 = n })) (omega arith) r.bodied;
        called = r.called;
        object = r.object;
      }

  -- as many sources as numbers
  pub counted : (first body end : ℕ) (xs : List Method) (cs : List (List ℕ)) (ts : List (Option BodyTree)) → AllAgree body end xs cs ts → body + length (numbered first ts) ≡ end
  counted first body end [] [] [] h = let e : body ≡ end = h in omega arith
  counted first body end [] [] (t ∷ ts) h = absurd h
  counted first body end [] (c ∷ cs) ts h = absurd h
  counted first body end (x ∷ xs) [] ts h = absurd h
  counted first body end (x ∷ xs) (c ∷ cs) [] h = absurd h
  counted first body end (x ∷ xs) (c ∷ cs) (None ∷ ts) h = let e : body + 0 + length (numbered (suc first) ts) ≡ end = counted (suc first) (body + 0) end xs cs ts h.1.1 in omega arith
  counted first body end (x ∷ xs) (c ∷ cs) (Some u ∷ ts) h = let e : body + 1 + length (numbered (suc first) ts) ≡ end = counted (suc first) (body + 1) end xs cs ts h.1.1 in omega arith

  number_is : (b : Bool) (n : ℕ) (m : BodyNo) → body_at b n ≡ Some m → (m.0 ≡ n) × (count b ≡ 1)
  number_is true n m h = (let e : record { 0 = n } ≡ m = cc in ap (λ (z : BodyNo). z.0) (sym e), refl)
  number_is false n m h = cc

  -- bodies after have greater numbers
  not_before : (body end : ℕ) (xs : List Method) (cs : List (List ℕ)) (ts : List (Option BodyTree)) → AllAgree body end xs cs ts → (i : ℕ) (x : Method) (m : BodyNo) → slice_get xs i ≡ Some x → x.body ≡ Some m → body ≤ m.0
  not_before body end [] cs ts h i x m at e = cc
  not_before body end (y ∷ xs) [] ts h i x m at e = absurd h
  not_before body end (y ∷ xs) (c ∷ cs) [] h i x m at e = absurd h
  not_before body end (y ∷ xs) (c ∷ cs) (t ∷ ts) h zero x m at e =
      let same : y ≡ x = cc in
      let n : m.0 ≡ body = (number_is (is_tree t) body m (sym h.0 ∙ (ap (λ (z : Method). z.body) same ∙ e))).0 in
      omega arith
  not_before body end (y ∷ xs) (c ∷ cs) (t ∷ ts) h (suc i) x m at e =
      let l : body + count (is_tree t) ≤ m.0 = not_before (body + count (is_tree t)) end xs cs ts h.1.1 i x m at e in
      omega arith

  -- no two methods have one body
  pub one_method : (body end : ℕ) (xs : List Method) (cs : List (List ℕ)) (ts : List (Option BodyTree)) → AllAgree body end xs cs ts → (i j : ℕ) (x y : Method) (m : BodyNo) → slice_get xs i ≡ Some x → slice_get xs j ≡ Some y → x.body ≡ Some m → y.body ≡ Some m → i ≡ j
  one_method body end [] cs ts h i j x y m ax ay ex ey = cc
  one_method body end (z ∷ xs) [] ts h i j x y m ax ay ex ey = absurd h
  one_method body end (z ∷ xs) (c ∷ cs) [] h i j x y m ax ay ex ey = absurd h
  one_method body end (z ∷ xs) (c ∷ cs) (t ∷ ts) h zero zero x y m ax ay ex ey = refl
  one_method body end (z ∷ xs) (c ∷ cs) (t ∷ ts) h zero (suc j) x y m ax ay ex ey =
      let same : z ≡ x = cc in
      let n = number_is (is_tree t) body m (sym h.0 ∙ (ap (λ (w : Method). w.body) same ∙ ex)) in
      let a : m.0 ≡ body = n.0 in
      let b : count (is_tree t) ≡ 1 = n.1 in
      let l : body + count (is_tree t) ≤ m.0 = not_before (body + count (is_tree t)) end xs cs ts h.1.1 j y m ay ey in
      absurd (omega arith)
  one_method body end (z ∷ xs) (c ∷ cs) (t ∷ ts) h (suc i) zero x y m ax ay ex ey =
      let same : z ≡ y = cc in
      let n = number_is (is_tree t) body m (sym h.0 ∙ (ap (λ (w : Method). w.body) same ∙ ey)) in
      let a : m.0 ≡ body = n.0 in
      let b : count (is_tree t) ≡ 1 = n.1 in
      let l : body + count (is_tree t) ≤ m.0 = not_before (body + count (is_tree t)) end xs cs ts h.1.1 i x m ax ex in
      absurd (omega arith)
  one_method body end (z ∷ xs) (c ∷ cs) (t ∷ ts) h (suc i) (suc j) x y m ax ay ex ey = ap suc (one_method (body + count (is_tree t)) end xs cs ts h.1.1 i j x y m ax ay ex ey)
