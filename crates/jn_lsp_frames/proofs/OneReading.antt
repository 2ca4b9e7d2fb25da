-- Bytes have one list of frames and one rest; and what was given goes on being frames.
use Rattle.std.proofs.Common.{◌≡◌, ℕ, List, [], ◌∷◌, ◌++◌, length, refl, sym, ap, ◌∙◌, inl, inr, arith, append-nil, append_assoc, subst}
use Rattle.std.proofs.lemmas.List.{take_all, append_cancel_left}
use Rattle.jn_lsp_frames.specs.declared.frame.Frame.{Frame}
use Rattle.jn_lsp_frames.specs.Header.{Says}
use Rattle.jn_lsp_frames.specs.Frames.{body_length, frame_by, HasHeader, IsOverlong, FrameOf, AreFrames, IsPartial}
use Rattle.jn_lsp_frames.specs.Reading.{Takes, Gives}
use Rattle.jn_lsp_frames.proofs.Lines.{one_block}
use Rattle.jn_lsp_frames.proofs.Fields.{one_saying}
use Rattle.jn_lsp_frames.proofs.Taking.{front_is, none_there}

same_front : (a b x y : List ℕ) → a ++ x ≡ b ++ y → length a ≡ length b → a ≡ b
same_front a b x y e l = sym (front_is a b x y e (omega (arith, l))) ∙ take_all (length a) b (omega (arith, l))

-- a header doesn't stand where none does
never_both : (a b x y : List ℕ) (f : Frame) → HasHeader a f → IsOverlong b → a ++ x ≡ b ++ y → ⊥
never_both a b x y f h o e =
    none_there h.block b (h.body ++ x) y (record { lines = h.lines; is = h.is }) o.none (sym (append_assoc h.block h.body x) ∙ ap (λ l. l ++ x) (sym h.parts) ∙ e) (omega (arith, h.is.few, o.many))

module _ (a b x y : List ℕ) (f g : Frame) (h : HasHeader a f) (k : HasHeader b g) (e : a ++ x ≡ b ++ y) where
  all : h.block ++ (h.body ++ x) ≡ k.block ++ (k.body ++ y)
  all = sym (append_assoc h.block h.body x) ∙ ap (λ l. l ++ x) (sym h.parts) ∙ e ∙ ap (λ l. l ++ y) k.parts ∙ append_assoc k.block k.body y

  blocks : (h.lines ≡ k.lines) × (h.block ≡ k.block) × (h.body ++ x ≡ k.body ++ y)
  blocks = one_block h.lines k.lines h.block k.block (h.body ++ x) (k.body ++ y) h.is k.is all

  said : h.said ≡ k.said
  said = one_saying k.lines h.said k.said (subst (λ l. Says l h.said) blocks.0 h.says) k.says

  bodies : h.body ≡ k.body
  bodies = same_front h.body k.body x y blocks.2 (h.whole ∙ ap body_length said ∙ sym k.whole)

  one_header : (a ≡ b) × (f ≡ g)
  one_header = (
    h.parts ∙ ap (λ l. l ++ h.body) blocks.1 ∙ ap (λ l. k.block ++ l) bodies ∙ sym k.parts,
    h.frame_is ∙ ap (λ s. frame_by s h.body) said ∙ ap (λ l. frame_by k.said l) bodies ∙ sym k.frame_is,
  )

pub one_frame : (a b x y : List ℕ) (f g : Frame) → FrameOf a f → FrameOf b g → a ++ x ≡ b ++ y → (a ≡ b) × (f ≡ g)
one_frame a b x y f g (inl h) (inl k) e = one_header a b x y f g h k e
one_frame a b x y f g (inl h) (inr o) e = absurd (never_both a b x y f h o.0 e)
one_frame a b x y f g (inr o) (inl k) e = absurd (never_both b a y x g k o.0 (sym e))
one_frame a b x y f g (inr o) (inr p) e = (same_front a b x y e (o.0.many ∙ sym p.0.many), o.1 ∙ sym p.1)

pub one_reading : (bytes : List ℕ) (fs gs : List Frame) (r s : List ℕ) → AreFrames bytes fs r → AreFrames bytes gs s → IsPartial r → IsPartial s → (fs ≡ gs) × (r ≡ s)
one_reading bytes [] [] r s are others p q = (refl, sym are ∙ others)
one_reading bytes [] (g ∷ gs) r s are others p q = absurd (p others.0 others.1 g others.2 (sym are ∙ others.3))
one_reading bytes (f ∷ fs) [] r s are others p q = absurd (q are.0 are.1 f are.2 (sym others ∙ are.3))
one_reading bytes (f ∷ fs) (g ∷ gs) r s are others p q =
    let e : are.0 ++ are.1 ≡ others.0 ++ others.1 = sym are.3 ∙ others.3 in
    let one = one_frame are.0 others.0 are.1 others.1 f g are.2 others.2 e in
    let behind : are.1 ≡ others.1 = append_cancel_left others.0 are.1 others.1 (ap (λ l. l ++ are.1) (sym one.0) ∙ e) in
    let rest = one_reading others.1 fs gs r s (subst (λ l. AreFrames l fs r) behind are.4) others.4 p q in
    (ap (λ h. h ∷ fs) one.1 ∙ ap (λ hs. g ∷ hs) rest.0, rest.1)

-- ---- reading on

frames_grow : (bytes more : List ℕ) (frames : List Frame) (rest : List ℕ) → AreFrames bytes frames rest → AreFrames (bytes ++ more) frames (rest ++ more)
frames_grow bytes more [] rest are = ap (λ l. l ++ more) are
frames_grow bytes more (frame ∷ frames) rest are = (are.0, are.1 ++ more, are.2, ap (λ l. l ++ more) are.3 ∙ append_assoc are.0 are.1 more, frames_grow are.1 more frames rest are.4)

frames_then : (bytes : List ℕ) (frames : List Frame) (rest own left : List ℕ) (frame : Frame) → AreFrames bytes frames rest → FrameOf own frame → rest ≡ own ++ left → AreFrames bytes (frames ++ frame ∷ []) left
frames_then bytes [] rest own left frame are is e = (own, left, is, are ∙ e, refl)
frames_then bytes (first ∷ frames) rest own left frame are is e = (are.0, are.1, are.2, are.3, frames_then are.1 frames rest own left frame are.4 is e)

pub gives_none : (start : List ℕ) → Gives start start [] []
gives_none start = record { bytes = []; gave = sym (append-nil start); are = refl }

-- the input gave more, and no frame was taken
pub gives_grown : (start gave now more : List ℕ) (frames : List Frame) (pending : List ℕ) → Gives start gave frames pending → now ≡ gave ++ more → Gives start now frames (pending ++ more)
gives_grown start gave now more frames pending g e = record {
  bytes = g.bytes ++ more;
  gave = e ∙ ap (λ l. l ++ more) g.gave ∙ append_assoc start g.bytes more;
  are = frames_grow g.bytes more frames pending g.are;
}

-- after an end
pub gives_end : (start gave now : List ℕ) (frames : List Frame) (pending rest : List ℕ) → Gives start gave frames pending → Takes gave pending now rest [] → Gives start now frames rest
gives_end start gave now frames pending rest g t = subst (λ l. Gives start now frames l) t.parts (gives_grown start gave now t.more frames pending g t.given)

-- after a frame
pub gives_more : (start gave now : List ℕ) (frames : List Frame) (frame : Frame) (pending left own : List ℕ) → Gives start gave frames pending → FrameOf own frame → Takes gave pending now left own → Gives start now (frames ++ frame ∷ []) left
gives_more start gave now frames frame pending left own g is t =
    let h = gives_grown start gave now t.more frames pending g t.given in
    record { bytes = h.bytes; gave = h.gave; are = frames_then h.bytes frames (pending ++ t.more) own left frame h.are is t.parts }
