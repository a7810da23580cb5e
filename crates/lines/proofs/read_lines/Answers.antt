-- `read_lines`: a turn takes one line more; what is no line is told.
use Rattle.std.proofs.Common.{ℕ, ◌*◌, min, List, [], ◌∷◌, ◌++◌, length, refl, sym, ap, ◌∙◌, inr, arith}
use Rattle.std.proofs.lemmas.List.Edits.{sets}
use Rattle.std.specs.Slice.Iter.{chunks_size, chunks_rest}
use Rattle.lines.specs.Lines.{none}
use Rattle.lines.proofs.Text.{no_line, four_words, taken_more, text_more}
use Rattle.lines.proofs.read_lines.Goals as goal

pub loop-bytes-init : goal.loop-bytes-init
loop-bytes-init c =
    let s = c.into_iter-bytes-iterator.ensures.into_iter_gives in
    let a = c.chunks-bytes-items.ensures in
    ([], ap chunks_size s ∙ a.size, record { fit = none; count = refl; few = omega arith; stored = refl }, sym (ap chunks_rest s ∙ a.rest))

pub returns-in_default : goal.returns-in_default
returns-in_default c =
    let v = c.loop-bytes.invariant in
    let rest = chunks_rest c.loop-bytes.bytes-iterator in
    let s = c.in-Some.ensures.steps.1 in (
      v.0,
      rest,
      v.2,
      v.3,
      λ e. omega (arith, ap length e, s.2),
      inr (no_line rest c.in-Some.bytes.now (chunks_rest c.next.new.self) s.0 (s.1 ∙ ap (λ (n : ℕ). min n (length rest)) v.1) c.in_default.ensures),
    )

pub loop-bytes-preserved : goal.loop-bytes-preserved
loop-bytes-preserved c =
    let t = c.loop-bytes in
    let v = t.invariant in
    let s = c.in-Some.ensures.steps in
    let z = c.in-Some-take_line.ensures in
    let f = v.2.few in (
      v.0 ++ z.0 ∷ [],
      s.0 ∙ v.1,
      taken_more v.0 z.0 t.index c.args.most c.args.stream.now v.2 (omega (arith, c.if-index-most.false)) z.1
          (c.put.ensures ∙ ap (sets t.stream (t.index * 4)) (four_words z.0 c.in-Some-take_line.words z.3)),
      text_more v.0 z.0 c.args.text.now (chunks_rest t.bytes-iterator) (chunks_rest c.next.new.self) v.3
          (s.1.0 ∙ ap (λ (x : List ℕ). x ++ chunks_rest c.next.new.self) z.2),
    )
