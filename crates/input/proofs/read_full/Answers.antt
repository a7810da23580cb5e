-- A read appends the bytes that it gives to those that stand in front, which are all that the reader has given.
use Rattle.std.proofs.Common.{rules, arith, ◌≡◌, ◌≤◌, ℕ, ◌+◌, List, ◌++◌, length, take, refl, sym, ap, subst, ◌∙◌, length-take-le}
use Rattle.std.proofs.Math.Seq.{take-append-add, take-take}
use Rattle.std.proofs.lemmas.Slice.{take-put_mid}
use Rattle.std.specs.Io.KnownBytes.{Consumes}
use Rattle.std.proofs.KnownBytes.{Consumes-trans}
use borrow.Rule.Slice.PartMut.{put_mid}
use Rattle.input.proofs.read_full.Goals as goal

-- ys is put at a place, and of it the first n count
appended : (a k n : ℕ) (xs ys : List ℕ) → a ≤ length xs → n ≤ length ys → take (a + n) (put_mid a k xs ys) ≡ take a xs ++ take n ys
appended a k n xs ys h g =
    let front = length-take-le a xs h in
    sym (take-take (a + n) (a + length ys) (put_mid a k xs ys) (omega arith)) ∙ ap (take (a + n)) (take-put_mid a k xs ys (a + length ys) refl h)
    ∙ ap (λ m. take (m + n) (take a xs ++ ys)) (sym front) ∙ take-append-add (take a xs) ys n

pub loop-n-preserved : goal.loop-n-preserved
loop-n-preserved g c =
    let read = c.in_ok-more.ensures in
    let before = c.loop-n.invariant in
    let after = appended c.loop-n.n _ c.in_ok-more.more c.loop-n.buf c.read.new.buf before.1 read.bound.0 in
    (search rules, search rules, subst (Consumes _ _) (sym after) (Consumes-trans _ _ _ _ _ before.2 read.bytes.0))
