-- What a step, a token and a run of tokens do to a stack.
use Rattle.std.proofs.Common.{◌≡◌, ℕ, ◌+◌, ◌<◌, ◌≤◌, List, [], ◌∷◌, ◌++◌, length, take, get_or, append_assoc, ◌∙◌, sym, refl, ap, subst, arith, inl, inr, Bool, true, false, Option, Some, None}
use Rattle.std.proofs.lemmas.List.{map_more, take-map, take_all, length-map}
use Rattle.jn_trees.specs.declared.token.Token.{Token}
use Rattle.jn_trees.specs.declared.token.TokenKind.{TokenKind}
use Rattle.jn_trees.specs.Pieces.{kinds}
use Rattle.jn_follow.specs.declared.frame.Frame.{Frame}
use Rattle.jn_follow.specs.declared.frame.Frame.TheVariants.{Start}
use Rattle.jn_follow.specs.Follow.{Next, more, passes, step, follow, bind, run, may_end}
use Rattle.jn_follow.specs.Moved.{Moved, Became}
use Rattle.jn_follow.specs.Place.{from_start, Whole, IsStop}

pub more_moved : (next : Next) (behind old : List Frame) (taken : Bool) (new : List Frame) → Moved next (behind ++ old) taken new → Moved (more next behind) old taken new
more_moved None behind old taken new h = h
more_moved (Some top) behind old taken new h = (h.0, h.1 ∙ sym (append_assoc top behind old))

became : (next : Next) (old : List Frame) (taken : Bool) (new : List Frame) → Moved next old taken new → Became (more next old) taken new
became None old taken new h = h
became (Some top) old taken new h = h

stepped_by : (b : Bool) (k : TokenKind) (f : Frame) (st : List Frame) (taken : Bool) (new : List Frame) → b ≡ false → Moved (step f k) st taken new → Became (elim b as (λ _. Next) [ true ↦ follow k st | false ↦ more (step f k) st ]) taken new
stepped_by true k f st taken new h m = cc
stepped_by false k f st taken new h m = became (step f k) st taken new m

-- a frame that can't be left out takes the token
pub stepped : (k : TokenKind) (f : Frame) (old st : List Frame) (taken : Bool) (new : List Frame) → old ≡ f ∷ st → passes f k ≡ false → Moved (step f k) st taken new → Became (follow k old) taken new
stepped k f old st taken new e h m = subst (λ x. Became (follow k x) taken new) (sym e) (stepped_by (passes f k) k f st taken new h m)

passed_by : (b : Bool) (k : TokenKind) (f : Frame) (st : List Frame) → b ≡ true → ◌≡◌ {A = Next} (elim b as (λ _. Next) [ true ↦ follow k st | false ↦ more (step f k) st ]) (follow k st)
passed_by true k f st h = refl
passed_by false k f st h = cc

-- one that is left out leaves the token to those below it
pub left_out : (k : TokenKind) (f : Frame) (old st : List Frame) → old ≡ f ∷ st → passes f k ≡ true → follow k st ≡ follow k old
left_out k f old st e h = sym (ap (λ x. follow k x) e ∙ passed_by (passes f k) k f st h)

abbrev kind_of : Token → TokenKind
kind_of t = t.kind

behind_none : (next : Next) → ◌≡◌ {A = Next} (bind next (run [])) next
behind_none None = refl
behind_none (Some x) = refl

run_behind : (ts : List TokenKind) (k : TokenKind) (st : List Frame) → run (ts ++ k ∷ []) st ≡ bind (run ts st) (follow k)
run_behind [] k st = behind_none (follow k st)
run_behind (t ∷ ts) k st =
    (elim (follow t st) as (λ o. bind o (run (ts ++ k ∷ [])) ≡ bind (bind o (run ts)) (follow k))
    [ None ↦ refl | Some next ↦ run_behind ts k next ])

front_more : (ts : List Token) (i : ℕ) (d : Token) → i < length ts → take (i + 1) (kinds ts) ≡ take i (kinds ts) ++ (get_or ts i d).kind ∷ []
front_more ts i d lt = take-map kind_of (i + 1) ts ∙ map_more kind_of ts i d lt ∙ ap (λ ks. ks ++ (get_or ts i d).kind ∷ []) (sym (take-map kind_of i ts))

-- one token more
pub run_more : (ts : List Token) (i : ℕ) (d : Token) (st : List Frame) → i < length ts → from_start (take i (kinds ts)) ≡ Some st → from_start (take (i + 1) (kinds ts)) ≡ follow (get_or ts i d).kind st
run_more ts i d st lt h =
    ap (λ x. from_start x) (front_more ts i d lt)
    ∙ run_behind (take i (kinds ts)) (get_or ts i d).kind (Start ∷ [])
    ∙ ap (λ x. bind x (follow (get_or ts i d).kind)) h

none_of : (next : Next) (taken : Bool) (new : List Frame) → taken ≡ false → Became next taken new → ◌≡◌ {A = Next} next None
none_of None taken new f b = refl
none_of (Some x) taken new f b = cc

-- where the token at a place can't be taken, the run stops there
stop_at : (ts : List Token) (i : ℕ) (d : Token) (st : List Frame) (taken : Bool) (new : List Frame) → i < length ts → from_start (take i (kinds ts)) ≡ Some st → taken ≡ false → Became (follow (get_or ts i d).kind st) taken new → from_start (take (i + 1) (kinds ts)) ≡ None
stop_at ts i d st taken new lt h f b = run_more ts i d st lt h ∙ none_of (follow (get_or ts i d).kind st) taken new f b

pub stops_there : (ts : List Token) (i : ℕ) (d : Token) (st : List Frame) (taken : Bool) (new : List Frame) → i < length ts → from_start (take i (kinds ts)) ≡ Some st → taken ≡ false → Became (follow (get_or ts i d).kind st) taken new → IsStop (kinds ts) i
stops_there ts i d st taken new lt h f b = record {
  stack = st;
  taken = h;
  stops = inl (omega (arith, lt, length-map ts kind_of), stop_at ts i d st taken new lt h f b);
}

some_of : (next : Next) (taken : Bool) (new : List Frame) → taken ≡ true → Became next taken new → ◌≡◌ {A = Next} next (Some new)
some_of None taken new f b = cc
some_of (Some x) taken new f b = ap (λ y. Some y) (sym b.1)

pub goes_there : (ts : List Token) (i : ℕ) (d : Token) (st : List Frame) (taken : Bool) (new : List Frame) → i < length ts → from_start (take i (kinds ts)) ≡ Some st → taken ≡ true → Became (follow (get_or ts i d).kind st) taken new → from_start (take (i + 1) (kinds ts)) ≡ Some new
goes_there ts i d st taken new lt h f b = run_more ts i d st lt h ∙ some_of (follow (get_or ts i d).kind st) taken new f b

all_of : (ts : List Token) (i : ℕ) → i ≡ length ts → take i (kinds ts) ≡ kinds ts
all_of ts i e = take_all i (kinds ts) (omega (arith, e, length-map ts kind_of))

pub ends_there : (ts : List Token) (i : ℕ) (st : List Frame) → i ≡ length ts → from_start (take i (kinds ts)) ≡ Some st → may_end st ≡ true → Whole (kinds ts)
ends_there ts i st e h m = (st, ap (λ x. from_start x) (sym (all_of ts i e)) ∙ h, m)

pub wants_more : (ts : List Token) (i : ℕ) (st : List Frame) → i ≡ length ts → from_start (take i (kinds ts)) ≡ Some st → may_end st ≡ false → IsStop (kinds ts) i
wants_more ts i st e h m = record {
  stack = st;
  taken = h;
  stops = inr (omega (arith, e, length-map ts kind_of), m);
}
