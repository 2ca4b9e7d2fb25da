use Rattle.std.proofs.Common.{◌≡◌, ◌∙◌, ◌+◌, ◌++◌, ◌∷◌, [], sym, ap, subst, arith, drop, length}
use Rattle.std.specs.Prelude.{encode_utf8_all}
use Rattle.jn_lexer.specs.Characters.{width}
use Rattle.jn_lexer.specs.Lexed.{names_with, kind_of}
use Rattle.jn_lexer.specs.Found.{IsNext, IsNextOrEnd, lexeme_of, word_of, body_of}
use Rattle.jn_lexer.proofs.Widths.{length-width, width-chars}
use Rattle.jn_lexer.specs.Moved.{moved_token}
use Rattle.jn_lexer.proofs.Reading.{next_word, after_extends, more_extends, one_more, places_more, rest_shorter, token, piece_of}
use Rattle.jn_lexer.proofs.Onto.{IsReadOnto, none_onto, onto_more, next_within}
use Rattle.jn_lexer.proofs.lexing.tokens_onto.Goals as goal

pub loop-next-init : goal.loop-next-init
loop-next-init c =
    let w = ap width c.requires.same ∙ width-chars c.args.decoded.now c.utf8.decoded in
    let l = length-width c.args.text.now in
    record { read = none_onto c.args.file c.args.text.now c.args.by c.args.names.now c.args.tokens.now.items; places = omega (arith, w); room = omega (arith, w, l) }

pub returns-in-Ok-None-clause-extends : goal.returns-in-Ok-None-clause-extends
returns-in-Ok-None-clause-extends c = let r = c.loop-next.invariant.read.read in let e = after_extends c.args.names.now r.0 in (e.0, r.3 ∙ e.1)

pub returns-in-Err-clause-extends : goal.returns-in-Err-clause-extends
returns-in-Err-clause-extends c = let r = c.loop-next.invariant.read.read in let e = after_extends c.args.names.now r.0 in (e.0, r.3 ∙ e.1)

pub range-spelled-requires-clause-start_boundary : goal.range-spelled-requires-clause-start_boundary
range-spelled-requires-clause-start_boundary c =
    let n : IsNext c.loop-next.rest.now c.loop-next.at c.in-Ok-Some.next = subst (IsNextOrEnd c.loop-next.rest.now c.loop-next.at) c.in-Ok-Some.field-0-is c.in-Ok-Some.ensures in
    let r = c.loop-next.invariant.read.read in
    λ some. (next_word c.args.decoded.now c.args.text.now c.utf8.decoded c.requires.same r.0 c.loop-next.rest.now c.loop-next.at r.1 c.in-Ok-Some.next n).from

pub range-spelled-requires-clause-end_boundary : goal.range-spelled-requires-clause-end_boundary
range-spelled-requires-clause-end_boundary c =
    let n : IsNext c.loop-next.rest.now c.loop-next.at c.in-Ok-Some.next = subst (IsNextOrEnd c.loop-next.rest.now c.loop-next.at) c.in-Ok-Some.field-0-is c.in-Ok-Some.ensures in
    let r = c.loop-next.invariant.read.read in
    (next_word c.args.decoded.now c.args.text.now c.utf8.decoded c.requires.same r.0 c.loop-next.rest.now c.loop-next.at r.1 c.in-Ok-Some.next n).to

pub kind_of-requires-clause-bytes : goal.kind_of-requires-clause-bytes
kind_of-requires-clause-bytes c =
    let n : IsNext c.loop-next.rest.now c.loop-next.at c.in-Ok-Some.next = subst (IsNextOrEnd c.loop-next.rest.now c.loop-next.at) c.in-Ok-Some.field-0-is c.in-Ok-Some.ensures in
    let r = c.loop-next.invariant.read.read in
    let w = next_word c.args.decoded.now c.args.text.now c.utf8.decoded c.requires.same r.0 c.loop-next.rest.now c.loop-next.at r.1 c.in-Ok-Some.next n in
    c.range-spelled.ensures.value ∙ w.is ∙ ap encode_utf8_all (sym c.word_of.ensures)

pub kind_of-requires-clause-room : goal.kind_of-requires-clause-room
kind_of-requires-clause-room c =
    let n : IsNext c.loop-next.rest.now c.loop-next.at c.in-Ok-Some.next = subst (IsNextOrEnd c.loop-next.rest.now c.loop-next.at) c.in-Ok-Some.field-0-is c.in-Ok-Some.ensures in
    let s = rest_shorter c.loop-next.rest.now c.loop-next.at c.in-Ok-Some.next n in
    let r = c.loop-next.invariant.room in
    let f = c.requires.room in
    omega (arith, s, r, f)

pub returns-in-Err-kind_of-clause-extends : goal.returns-in-Err-kind_of-clause-extends
returns-in-Err-kind_of-clause-extends c = let r = c.loop-next.invariant.read.read in let e = after_extends c.args.names.now r.0 in (e.0, c.in-Err-kind_of.ensures.unchanged ∙ r.3 ∙ e.1)

pub returns-in-Err-push-clause-extends : goal.returns-in-Err-push-clause-extends
returns-in-Err-push-clause-extends c =
    let r = c.loop-next.invariant.read.read in
    let a = after_extends c.args.names.now r.0 in
    let e = more_extends c.args.names.now c.loop-next.names (lexeme_of c.in-Ok-Some.next.shape c.word_of.result.now) (a.0, r.3 ∙ a.1) in
    (e.0, c.in-Ok.ensures.names ∙ e.1)

pub loop-next-preserved : goal.loop-next-preserved
loop-next-preserved c =
    let n : IsNext c.loop-next.rest.now c.loop-next.at c.in-Ok-Some.next = subst (IsNextOrEnd c.loop-next.rest.now c.loop-next.at) c.in-Ok-Some.field-0-is c.in-Ok-Some.ensures in
    let word : c.word_of.result.now ≡ word_of c.loop-next.rest.now c.in-Ok-Some.next = c.word_of.ensures in
    let rest : c.text_behind-rest.result.now ≡ drop c.in-Ok-Some.next.count (body_of c.loop-next.rest.now c.in-Ok-Some.next) = c.text_behind-rest.ensures in
    let names : c.kind_of.new.names ≡ names_with c.loop-next.names (lexeme_of c.in-Ok-Some.next.shape (word_of c.loop-next.rest.now c.in-Ok-Some.next)) = c.in-Ok.ensures.names ∙ ap (λ w. names_with c.loop-next.names (lexeme_of c.in-Ok-Some.next.shape w)) word in
    let kind : c.in-Ok.kind ≡ kind_of c.loop-next.names (lexeme_of c.in-Ok-Some.next.shape (word_of c.loop-next.rest.now c.in-Ok-Some.next)) = c.in-Ok.ensures.kind ∙ ap (λ w. kind_of c.loop-next.names (lexeme_of c.in-Ok-Some.next.shape w)) word in
    let items : c.push.new.self.items ≡ c.loop-next.tokens.items ++ moved_token c.args.by (token c.args.file c.loop-next.names (piece_of c.loop-next.rest.now c.in-Ok-Some.next)) ∷ [] = c.in_default.ensures.items ∙ ap (λ k. c.loop-next.tokens.items ++ (record { kind = k; span = record { file = c.args.file; from = c.args.by + c.in-Ok-Some.next.from; to = c.args.by + c.in-Ok-Some.next.to } }) ∷ []) kind in
    record {
      read = subst (λ xs. IsReadOnto c.args.file c.args.text.now c.args.by c.args.names.now c.args.tokens.now.items xs c.in-Ok-Some.next.to c.push.new.self.items c.kind_of.new.names) (sym rest) (onto_more c.args.file c.args.text.now c.args.by c.args.names.now c.args.tokens.now.items c.loop-next.rest.now c.loop-next.at c.loop-next.tokens.items c.loop-next.names c.loop-next.invariant.read c.in-Ok-Some.next n c.push.new.self.items c.kind_of.new.names items names);
      places = (let p = places_more c.loop-next.rest.now c.loop-next.at c.in-Ok-Some.next n in ap (λ xs. c.in-Ok-Some.next.to + width xs) rest ∙ p ∙ c.loop-next.invariant.places);
      room = (
          let a = ap length names in
          let b = one_more c.loop-next.names (lexeme_of c.in-Ok-Some.next.shape (word_of c.loop-next.rest.now c.in-Ok-Some.next)) in
          let d = ap length rest in
          let s = rest_shorter c.loop-next.rest.now c.loop-next.at c.in-Ok-Some.next n in
          let r = c.loop-next.invariant.room in
          omega (arith, a, b, d, s, r));
    }

pub overflow_add-span : goal.overflow_add-span
overflow_add-span c =
    let n : IsNext c.loop-next.rest.now c.loop-next.at c.in-Ok-Some.next = subst (IsNextOrEnd c.loop-next.rest.now c.loop-next.at) c.in-Ok-Some.field-0-is c.in-Ok-Some.ensures in
    let w = next_within c.loop-next.rest.now c.loop-next.at (length c.args.decoded.now) c.in-Ok-Some.next n c.loop-next.invariant.places in
    let from = w.0 in
    let to = w.1 in
    let f = c.requires.fits in
    omega (arith, from, to, f)

pub overflow_add-span-in-loop-next : goal.overflow_add-span-in-loop-next
overflow_add-span-in-loop-next c =
    let n : IsNext c.loop-next.rest.now c.loop-next.at c.in-Ok-Some.next = subst (IsNextOrEnd c.loop-next.rest.now c.loop-next.at) c.in-Ok-Some.field-0-is c.in-Ok-Some.ensures in
    let to = (next_within c.loop-next.rest.now c.loop-next.at (length c.args.decoded.now) c.in-Ok-Some.next n c.loop-next.invariant.places).1 in
    let f = c.requires.fits in
    omega (arith, to, f)
