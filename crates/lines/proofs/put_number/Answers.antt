-- `put_number`: a turn stores the last digit that is left, and at the end the byte that ends them.
use Rattle.std.proofs.Common.{◌≡◌, ◌∙◌, ℕ, suc, ◌+◌, ◌-◌, ◌/◌, List, [], ◌∷◌, set, sym, ap, arith}
use Rattle.std.proofs.lemmas.List.Edits.{sets}
use Rattle.lines.specs.Lines.{hex}
use Rattle.lines.proofs.Hex.{length_hex, put_none, put_turn, put_after}
use Rattle.lines.proofs.put_number.Goals as goal

pub loop-i-preserved : goal.loop-i-preserved
loop-i-preserved c =
    let t = c.loop-i in
    let p = c.args.at + c.args.off in
    let i = t.i - 1 in
    let q = c.args.at + (c.args.off + i) in
    let e : suc i ≡ t.i = omega arith in
    ap (λ (l : List ℕ). sets l p (hex i (t.rest / 16))) (c.store.ensures ∙ ap (λ (g : ℕ). set t.out q g) c.byte.ensures)
    ∙ put_turn t.out p q i t.rest (omega arith) ∙ ap (λ (k : ℕ). sets t.out p (hex k t.rest)) e ∙ t.invariant

pub returns : goal.returns
returns c =
    let a = c.args in
    let t = c.loop-i in
    let p = a.at + a.off in
    put_after a.out.now p (a.at + (a.off + a.digits)) (hex a.digits a.n) (a.end ∷ []) (omega (arith, length_hex a.digits a.n))
    (sym (put_none t.out p t.i t.rest (omega arith)) ∙ t.invariant) c.store-2.ensures
