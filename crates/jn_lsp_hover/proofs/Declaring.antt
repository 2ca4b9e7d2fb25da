-- The first declared name at a byte, part by part.
use Rattle.std.proofs.Common.{◌≡◌, ◌⊎◌, inl, inr, ℕ, ◌+◌, ◌<◌, ◌≤◌, Bool, true, false, cond, List, [], ◌∷◌, ◌++◌, length, drop, get_or, Option, Some, None, append_assoc, refl, sym, ap, ◌∙◌}
use Rattle.std.specs.Prelude.{filter, is_some}
use Rattle.std.proofs.lemmas.List.{drop_all, drop_more}
use Rattle.jn_base.specs.declared.number.SlotNo.{SlotNo}
use Rattle.jn_heads.specs.declared.head.ClassHead.{ClassHead}
use Rattle.jn_heads.specs.declared.head.MethodHead.{MethodHead}
use Rattle.jn_heads.specs.declared.head.ParamHead.{ParamHead}
use Rattle.jn_points.specs.declared.program.Method.{Method}
use Rattle.jn_lsp_hover.specs.declared.declared.Declared.{Declared}
use Rattle.jn_lsp_hover.specs.Declarations.{declared_at, declared_method, declared_methods, declared_param, declared_params, first_of, methods_of}
use Rattle.jn_lsp_hover.specs.Spots.{has_byte}

-- the first of two parts, else that of the second
abbrev pub or_later : Option Declared → Option Declared → Option Declared
or_later None later = later
or_later (Some one) later = Some one

module _ (file offset : ℕ) where
  abbrev kept : List Declared → List Declared
  kept all = filter (λ (one : Declared). has_byte file offset one.span) all

  one_more : (x : Declared) (xs ys : List Declared) (b : Bool) → first_of (kept (xs ++ ys)) ≡ or_later (first_of (kept xs)) (declared_at file offset ys)
      → first_of (cond b (x ∷ kept (xs ++ ys)) (kept (xs ++ ys))) ≡ or_later (first_of (cond b (x ∷ kept xs) (kept xs))) (declared_at file offset ys)
  one_more x xs ys true h = refl
  one_more x xs ys false h = h

  pub at_both : (xs ys : List Declared) → declared_at file offset (xs ++ ys) ≡ or_later (declared_at file offset xs) (declared_at file offset ys)
  at_both [] ys = refl
  at_both (x ∷ xs) ys = one_more x xs ys (has_byte file offset x.span) (at_both xs ys)

  pub found_first : (xs ys : List Declared) (found : Option Declared) (one : Declared) → found ≡ declared_at file offset xs → found ≡ Some one → Some one ≡ declared_at file offset (xs ++ ys)
  found_first xs ys found one is there = sym (at_both xs ys ∙ ap (λ o. or_later o (declared_at file offset ys)) (sym is ∙ there))

  pub found_later : (xs ys : List Declared) (found later : Option Declared) → found ≡ declared_at file offset xs → found ≡ None → later ≡ declared_at file offset ys → later ≡ declared_at file offset (xs ++ ys)
  found_later xs ys found later is none e = e ∙ sym (at_both xs ys ∙ ap (λ o. or_later o (declared_at file offset ys)) (sym is ∙ none))

-- what is found in a first part is found of all; where nothing is found there, what is found of the others
or_found : (found later whole : Option Declared) → is_some found ≡ true → or_later found later ≡ whole → found ≡ whole
or_found None later whole e h = absurd (cc)
or_found (Some one) later whole e h = h

or_none : (found later whole : Option Declared) → is_some found ≡ false → or_later found later ≡ whole → later ≡ whole
or_none None later whole e h = h
or_none (Some one) later whole e h = absurd (cc)

module _ (file offset : ℕ) (xs ys : List Declared) (found whole : Option Declared) where
  part_found : found ≡ declared_at file offset xs → is_some found ≡ true → declared_at file offset (xs ++ ys) ≡ whole → found ≡ whole
  part_found is there h = or_found found (declared_at file offset ys) whole there (ap (λ o. or_later o (declared_at file offset ys)) is ∙ sym (at_both file offset xs ys) ∙ h)

  part_none : found ≡ declared_at file offset xs → is_some found ≡ false → declared_at file offset (xs ++ ys) ≡ whole → declared_at file offset ys ≡ whole
  part_none is none h = or_none found (declared_at file offset ys) whole none (ap (λ o. or_later o (declared_at file offset ys)) is ∙ sym (at_both file offset xs ys) ∙ h)

-- ---- parameters

module _ (file offset : ℕ) where
  one_found : (one : Declared) (rest : List Declared) (whole : Option Declared) (b : Bool) → b ≡ true → first_of (cond b (one ∷ kept file offset rest) (kept file offset rest)) ≡ whole → Some one ≡ whole
  one_found one rest whole true e h = h
  one_found one rest whole false e h = absurd (cc)

  one_none : (one : Declared) (rest : List Declared) (whole : Option Declared) (b : Bool) → b ≡ false → first_of (cond b (one ∷ kept file offset rest) (kept file offset rest)) ≡ whole → declared_at file offset rest ≡ whole
  one_none one rest whole true e h = absurd (cc)
  one_none one rest whole false e h = h

module _ (params : List ParamHead) (slots : List (Option SlotNo)) (i : ℕ) (p : ParamHead) (slot : Option SlotNo)
    (next : drop i params ≡ p ∷ drop (i + 1) params) (beside : drop i slots ≡ slot ∷ drop (i + 1) slots) where
  params_step : declared_params (drop i params) (drop i slots) ≡ declared_param p slot ∷ declared_params (drop (i + 1) params) (drop (i + 1) slots)
  params_step = ap (λ (ps : List ParamHead). declared_params ps (drop i slots)) next ∙ ap (λ (os : List (Option SlotNo)). declared_params (p ∷ drop (i + 1) params) os) beside

  module _ (file offset : ℕ) (one : Declared) (whole : Option Declared) (is : one ≡ declared_param p slot) (so : declared_at file offset (declared_params (drop i params) (drop i slots)) ≡ whole) where
    at_step : declared_at file offset (one ∷ declared_params (drop (i + 1) params) (drop (i + 1) slots)) ≡ whole
    at_step = ap (λ (x : Declared). declared_at file offset (x ∷ declared_params (drop (i + 1) params) (drop (i + 1) slots))) is ∙ ap (declared_at file offset) (sym params_step) ∙ so

    pub param_found : has_byte file offset one.span ≡ true → Some one ≡ whole
    param_found e = one_found file offset one (declared_params (drop (i + 1) params) (drop (i + 1) slots)) whole (has_byte file offset one.span) e at_step

    pub param_none : has_byte file offset one.span ≡ false → declared_at file offset (declared_params (drop (i + 1) params) (drop (i + 1) slots)) ≡ whole
    param_none e = one_none file offset one (declared_params (drop (i + 1) params) (drop (i + 1) slots)) whole (has_byte file offset one.span) e at_step

params_nil : (params : List ParamHead) → declared_params params [] ≡ []
params_nil [] = refl
params_nil (p ∷ ps) = refl

params_none : (params : List ParamHead) (slots : List (Option SlotNo)) (n : ℕ) → (length params ≤ n) ⊎ (length slots ≤ n) → declared_params (drop n params) (drop n slots) ≡ []
params_none params slots n (inl past) = ap (λ (ps : List ParamHead). declared_params ps (drop n slots)) (drop_all n params past)
params_none params slots n (inr past) = ap (λ (os : List (Option SlotNo)). declared_params (drop n params) os) (drop_all n slots past) ∙ params_nil (drop n params)

pub params_end : (file offset : ℕ) (params : List ParamHead) (slots : List (Option SlotNo)) (n : ℕ) (whole : Option Declared) → (length params ≤ n) ⊎ (length slots ≤ n)
    → declared_at file offset (declared_params (drop n params) (drop n slots)) ≡ whole → None ≡ whole
params_end file offset params slots n whole past so = ap (declared_at file offset) (sym (params_none params slots n past)) ∙ so

-- ---- methods

module _ (heads : List MethodHead) (methods : List Method) (i : ℕ) (h : MethodHead) (m : Method) (within : i < length heads) (inside : i < length methods)
    (h_is : h ≡ get_or heads i h) (m_is : m ≡ get_or methods i m) where
  methods_step : declared_methods (drop i heads) (drop i methods) ≡ declared_method h m ++ declared_methods (drop (i + 1) heads) (drop (i + 1) methods)
  methods_step =
      ap (λ (hs : List MethodHead). declared_methods hs (drop i methods)) (drop_more heads i h within ∙ ap (λ (x : MethodHead). x ∷ drop (i + 1) heads) (sym h_is))
      ∙ ap (λ (ms : List Method). declared_methods (h ∷ drop (i + 1) heads) ms) (drop_more methods i m inside ∙ ap (λ (x : Method). x ∷ drop (i + 1) methods) (sym m_is))

  module _ (file offset : ℕ) (found whole : Option Declared) (is : found ≡ declared_at file offset (declared_method h m)) (so : declared_at file offset (declared_methods (drop i heads) (drop i methods)) ≡ whole) where
    pub method_found : is_some found ≡ true → found ≡ whole
    method_found there = part_found file offset (declared_method h m) (declared_methods (drop (i + 1) heads) (drop (i + 1) methods)) found whole is there (ap (declared_at file offset) (sym methods_step) ∙ so)

    pub method_none : is_some found ≡ false → declared_at file offset (declared_methods (drop (i + 1) heads) (drop (i + 1) methods)) ≡ whole
    method_none none = part_none file offset (declared_method h m) (declared_methods (drop (i + 1) heads) (drop (i + 1) methods)) found whole is none (ap (declared_at file offset) (sym methods_step) ∙ so)

methods_nil : (heads : List MethodHead) → declared_methods heads [] ≡ []
methods_nil [] = refl
methods_nil (h ∷ hs) = refl

methods_none : (heads : List MethodHead) (methods : List Method) (n : ℕ) → (length heads ≤ n) ⊎ (length methods ≤ n) → declared_methods (drop n heads) (drop n methods) ≡ []
methods_none heads methods n (inl past) = ap (λ (hs : List MethodHead). declared_methods hs (drop n methods)) (drop_all n heads past)
methods_none heads methods n (inr past) = ap (λ (ms : List Method). declared_methods (drop n heads) ms) (drop_all n methods past) ∙ methods_nil (drop n heads)

pub methods_end : (file offset : ℕ) (heads : List MethodHead) (methods : List Method) (n : ℕ) (whole : Option Declared) → (length heads ≤ n) ⊎ (length methods ≤ n)
    → declared_at file offset (declared_methods (drop n heads) (drop n methods)) ≡ whole → None ≡ whole
methods_end file offset heads methods n whole past so = ap (declared_at file offset) (sym (methods_none heads methods n past)) ∙ so

-- methods of one class, and those of others after them
pub methods_both : (heads more : List MethodHead) (methods : List Method) → declared_methods (heads ++ more) methods ≡ declared_methods heads methods ++ declared_methods more (drop (length heads) methods)
methods_both [] more methods = refl
methods_both (h ∷ heads) [] [] = refl
methods_both (h ∷ heads) (m ∷ more) [] = refl
methods_both (h ∷ heads) more (x ∷ methods) = ap (λ all. declared_method h x ++ all) (methods_both heads more methods) ∙ sym (append_assoc (declared_method h x) (declared_methods heads methods) (declared_methods more (drop (length heads) methods)))

-- ---- classes

module _ (heads : List ClassHead) (i : ℕ) (h : ClassHead) (of : List MethodHead) (rest : List Method) (within : i < length heads) (h_is : h ≡ get_or heads i h) (of_is : of ≡ h.methods) where
  class_step : declared_methods (methods_of (drop i heads)) rest ≡ declared_methods of rest ++ declared_methods (methods_of (drop (i + 1) heads)) (drop (length of) rest)
  class_step =
      ap (λ (hs : List ClassHead). declared_methods (methods_of hs) rest) (drop_more heads i h within ∙ ap (λ (x : ClassHead). x ∷ drop (i + 1) heads) (sym h_is))
      ∙ ap (λ (ms : List MethodHead). declared_methods (ms ++ methods_of (drop (i + 1) heads)) rest) (sym of_is)
      ∙ methods_both of (methods_of (drop (i + 1) heads)) rest

  module _ (file offset : ℕ) (found whole : Option Declared) (is : found ≡ declared_at file offset (declared_methods of rest)) (so : declared_at file offset (declared_methods (methods_of (drop i heads)) rest) ≡ whole) where
    pub class_found : is_some found ≡ true → found ≡ whole
    class_found there = part_found file offset (declared_methods of rest) (declared_methods (methods_of (drop (i + 1) heads)) (drop (length of) rest)) found whole is there (ap (declared_at file offset) (sym class_step) ∙ so)

    pub class_none : (count : ℕ) (next : List Method) → count ≡ length of → next ≡ drop count rest → is_some found ≡ false → declared_at file offset (declared_methods (methods_of (drop (i + 1) heads)) next) ≡ whole
    class_none count next many behind none =
        ap (λ (ms : List Method). declared_at file offset (declared_methods (methods_of (drop (i + 1) heads)) ms)) (behind ∙ ap (λ (n : ℕ). drop n rest) many)
        ∙ part_none file offset (declared_methods of rest) (declared_methods (methods_of (drop (i + 1) heads)) (drop (length of) rest)) found whole is none (ap (declared_at file offset) (sym class_step) ∙ so)
