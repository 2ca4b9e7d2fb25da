-- When a reader asks its input.
use Rattle.std.proofs.Common.{◌≡◌, ℕ, ◌+◌, ◌<◌, List, [], ◌∷◌, ◌++◌, length, take, drop, Option, Some, None, Result, Err, Ok, refl, sym, ap, ◌∙◌, arith, append-nil, append_assoc, length-append, subst}
use Rattle.std.specs.Result.{IsErrAnd}
use Rattle.std.specs.List.{All}
use Rattle.std.proofs.lemmas.List.{take-append-drop}
use Rattle.std.proofs.lemmas.List.Elements.{All-nil, All-cons, All-append}
use Rattle.jn_base.specs.declared.refusal.Fail.{Fail}
use Rattle.jn_base.specs.declared.refusal.Fail.TheVariants.{Refused, OutOfMemory}
use Rattle.jn_lsp_frames.specs.declared.asking.Asking.{Asking}
use Rattle.jn_lsp_frames.specs.Asking.{Asks, IsAsked, with_asking}
use Rattle.jn_lsp_frames.specs.Header.{HasNoBlock, IsBlock, Says}
use Rattle.jn_lsp_frames.specs.Frames.{IsPartial}
use Rattle.jn_lsp_frames.specs.Reading.{IsNone, IsShorter, IsUnknown, Lacks, Spares, Takes}
use Rattle.jn_lsp_frames.proofs.Taking.{partial_body, partial_header}

-- ---- calls one after the other

module _ (Such : List ℕ → Type 0) (gave pending : List ℕ) (written : Option (List ℕ)) where
  pub asks_none : (old new : List Asking) → new ≡ old → Asks Such gave pending written old new
  asks_none old new same = record { own = []; all = same ∙ sym (append-nil old); each = All-nil (IsAsked Such gave pending written) }

  pub asks_both : (old mid new : List Asking) → Asks Such gave pending written old mid → Asks Such gave pending written mid new → Asks Such gave pending written old new
  asks_both old mid new a b = record {
    own = a.own ++ b.own;
    all = b.all ∙ ap (λ l. l ++ b.own) a.all ∙ append_assoc old a.own b.own;
    each = All-append (IsAsked Such gave pending written) a.own b.own a.each b.each;
  }

  pub asks_one : (old new : List Asking) → new ≡ with_asking old gave written → Such pending → Asks Such gave pending written old new
  asks_one old new is such = record {
    own = record { given = gave; written = written } ∷ [];
    all = is;
    each = All-cons (IsAsked Such gave pending written) (record { given = gave; written = written }) [] (record { more = []; given = sym (append-nil gave); such = subst Such (sym (append-nil pending)) such; stands = refl }) (All-nil (IsAsked Such gave pending written));
  }

-- ---- after what was taken

module _ (Such Then : List ℕ → Type 0) (gave pending now left own : List ℕ) (t : Takes gave pending now left own) (then_such : (more : List ℕ) → Then (left ++ more) → Such (own ++ (left ++ more))) where
  whole : (more : List ℕ) → pending ++ (t.more ++ more) ≡ own ++ (left ++ more)
  whole more = sym (append_assoc pending t.more more) ∙ ap (λ l. l ++ more) t.parts ∙ append_assoc own left more

  such_behind : (more : List ℕ) → Then (left ++ more) → Such (pending ++ (t.more ++ more))
  such_behind more such = subst Such (sym (whole more)) (then_such more such)

  given_behind : (then_ more : List ℕ) → then_ ≡ now ++ more → then_ ≡ gave ++ (t.more ++ more)
  given_behind then_ more is = is ∙ ap (λ l. l ++ more) t.given ∙ append_assoc gave t.more more

  asked_behind : (written : Option (List ℕ)) (asking : Asking) → IsAsked Then now left written asking → IsAsked Such gave pending written asking
  asked_behind written asking a = record {
    more = t.more ++ a.more;
    given = given_behind asking.given a.more a.given;
    such = such_behind a.more a.such;
    stands = a.stands;
  }

  pub asks_behind : (written : Option (List ℕ)) (old new : List Asking) → Asks Then now left written old new → Asks Such gave pending written old new
  asks_behind written old new a = record {
    own = a.own;
    all = a.all;
    each = λ k d lt. asked_behind written _ (a.each k d lt);
  }

  pub lacks_behind : (T E : Type 0) (then_ : List ℕ) (result : Result T (Fail E)) → Lacks Then now left then_ result → Lacks Such gave pending then_ result
  lacks_behind T E then_ (Ok x) l = l
  lacks_behind T E then_ (Err OutOfMemory) l = l
  lacks_behind T E then_ (Err (Refused e)) l = (t.more ++ l.0, given_behind then_ l.0 l.1, such_behind l.0 l.2)

pub lacks_err : (T U E : Type 0) (Such : List ℕ → Type 0) (gave pending now : List ℕ) (fail : Fail E) → Lacks {T = T} Such gave pending now (Err fail) → Lacks {T = U} Such gave pending now (Err fail)
lacks_err T U E Such gave pending now OutOfMemory l = l
lacks_err T U E Such gave pending now (Refused e) l = l

-- an error that is handed on
pub lacks_back : (T U E : Type 0) (Such : List ℕ → Type 0) (gave pending now : List ℕ) (back : Result U (Fail E)) (fail : Fail E) → IsErrAnd back (λ e. e ≡ fail) → Lacks {T = T} Such gave pending now (Err fail) → Lacks {T = U} Such gave pending now back
lacks_back T U E Such gave pending now (Ok x) fail handed l = absurd handed
lacks_back T U E Such gave pending now (Err e) fail handed l = subst (λ (f : Fail E). Lacks {T = U} Such gave pending now (Err f)) (sym handed) (lacks_err T U E Such gave pending now fail l)

pub lacks_spared : (T U E : Type 0) (Such : List ℕ → Type 0) (gave pending now : List ℕ) (fail : Fail E) → Spares {T = T} gave now (Err fail) → Such pending → Lacks {T = U} Such gave pending now (Err fail)
lacks_spared T U E Such gave pending now OutOfMemory s such = s
lacks_spared T U E Such gave pending now (Refused e) s such = ([], s ∙ sym (append-nil gave), subst Such (sym (append-nil pending)) such)

-- ---- no byte

empty : (bytes : List ℕ) → (0 < length bytes → ⊥) → bytes ≡ []
empty [] none = refl
empty (byte ∷ bytes) none = absurd (none (omega arith))

pub asks_empty : (gave pending : List ℕ) (written : Option (List ℕ)) (old new : List Asking) → (0 < length pending → ⊥) → new ≡ with_asking old gave written → Asks IsNone gave pending written old new
asks_empty gave pending written old new none is = asks_one IsNone gave pending written old new is (empty pending none)

pub lacks_empty : (T U E : Type 0) (gave pending now : List ℕ) (fail : Fail E) → (0 < length pending → ⊥) → Spares {T = T} gave now (Err fail) → Lacks {T = U} IsNone gave pending now (Err fail)
lacks_empty T U E gave pending now fail none s = lacks_spared T U E IsNone gave pending now fail s (empty pending none)

-- ---- a body

module _ (total : ℕ) (gave pending now left own : List ℕ) (t : Takes gave pending now left own) (few : length own < total) where
  shorter : (more : List ℕ) → IsNone (left ++ more) → IsShorter total (own ++ (left ++ more))
  shorter more none = omega (arith, few, length-append own (left ++ more), ap length none)

  pub asks_body : (written : Option (List ℕ)) (old mid new : List Asking) → Asks (IsShorter total) gave pending written old mid → Asks IsNone now left written mid new → Asks (IsShorter total) gave pending written old new
  asks_body written old mid new a b = asks_both (IsShorter total) gave pending written old mid new a (asks_behind (IsShorter total) IsNone gave pending now left own t shorter written mid new b)

  pub lacks_body : (T U E : Type 0) (then_ : List ℕ) (fail : Fail E) → Lacks {T = T} IsNone now left then_ (Err fail) → Lacks {T = U} (IsShorter total) gave pending then_ (Err fail)
  lacks_body T U E then_ fail l = lacks_err T U E (IsShorter total) gave pending then_ fail (lacks_behind (IsShorter total) IsNone gave pending now left own t shorter T E then_ (Err fail) l)

-- ---- a header

pub asks_partial : (gave pending : List ℕ) (written : Option (List ℕ)) (old new : List Asking) → Asks IsUnknown gave pending written old new → Asks IsPartial gave pending written old new
asks_partial gave pending written old new a = record {
  own = a.own;
  all = a.all;
  each = λ k d lt. let s = a.each k d lt in record { more = s.more; given = s.given; such = partial_header (pending ++ s.more) s.such.1 s.such.0; stands = s.stands };
}

pub lacks_partial : (T U E : Type 0) (gave pending now : List ℕ) (fail : Fail E) → Lacks {T = T} IsUnknown gave pending now (Err fail) → Lacks {T = U} IsPartial gave pending now (Err fail)
lacks_partial T U E gave pending now OutOfMemory l = l
lacks_partial T U E gave pending now (Refused e) l = (l.0, l.1, partial_header (pending ++ l.0) l.2.1 l.2.0)

module _ (gave pending now left : List ℕ) (t : Takes gave pending now left []) where
  pub asks_head : (written : Option (List ℕ)) (old mid new : List Asking) → HasNoBlock left → length left < 8192 → Asks IsUnknown gave pending written old mid → new ≡ with_asking mid now written → Asks IsUnknown gave pending written old new
  asks_head written old mid new none few a is = asks_both IsUnknown gave pending written old mid new a (asks_behind IsUnknown IsUnknown gave pending now left [] t (λ more s. s) written mid new (asks_one IsUnknown now left written mid new is (none, few)))

  pub lacks_head : (T U E : Type 0) (then_ : List ℕ) (fail : Fail E) → HasNoBlock left → length left < 8192 → Spares {T = T} now then_ (Err fail) → Lacks {T = U} IsUnknown gave pending then_ (Err fail)
  lacks_head T U E then_ fail none few s = lacks_behind IsUnknown IsUnknown gave pending now left [] t (λ more u. u) U E then_ (Err fail) (lacks_spared T U E IsUnknown now left then_ fail s (none, few))

  -- and what is read after it
  pub asks_next : (written : Option (List ℕ)) (old mid new : List Asking) → Asks IsUnknown gave pending written old mid → Asks IsPartial now left written mid new → Asks IsPartial gave pending written old new
  asks_next written old mid new a b = asks_both IsPartial gave pending written old mid new (asks_partial gave pending written old mid a) (asks_behind IsPartial IsPartial gave pending now left [] t (λ more p. p) written mid new b)

  pub lacks_next : (T E : Type 0) (then_ : List ℕ) (result : Result T (Fail E)) → Lacks IsPartial now left then_ result → Lacks IsPartial gave pending then_ result
  lacks_next T E then_ result l = lacks_behind IsPartial IsPartial gave pending now left [] t (λ more p. p) T E then_ result l

-- ---- what stands after a header

module _ (gave pending rest : List ℕ) (end count : ℕ) (block : IsBlock (take end pending)) (says : Says block.lines (Some count)) (at : rest ≡ drop end pending) where
  took : Takes gave pending gave rest (take end pending)
  took = record { more = []; given = sym (append-nil gave); parts = append-nil pending ∙ sym (take-append-drop end pending) ∙ ap (λ l. take end pending ++ l) (sym at) }

  in_body : (more : List ℕ) → IsShorter count (rest ++ more) → IsPartial (take end pending ++ (rest ++ more))
  in_body more few = partial_body block.lines (take end pending) (rest ++ more) count block.is says few

  pub asks_rest : (written : Option (List ℕ)) (old new : List Asking) → Asks (IsShorter count) gave rest written old new → Asks IsPartial gave pending written old new
  asks_rest written old new a = asks_behind IsPartial (IsShorter count) gave pending gave rest (take end pending) took in_body written old new a

  pub lacks_rest : (T E : Type 0) (then_ : List ℕ) (result : Result T (Fail E)) → Lacks (IsShorter count) gave rest then_ result → Lacks IsPartial gave pending then_ result
  lacks_rest T E then_ result l = lacks_behind IsPartial (IsShorter count) gave pending gave rest (take end pending) took in_body T E then_ result l
