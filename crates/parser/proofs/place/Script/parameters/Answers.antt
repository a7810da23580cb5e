-- Name [',' parlist] | '...'
use mathlib.Core.Path.{◌≡◌, refl, sym, ap, ◌∙◌}
use mathlib.Core.List.{List, [], ◌∷◌}
use Prim.Native.Nat.{ℕ, ◌+◌, ◌*◌}
use native.Mathlib.Omega.{arith}
use Rattle.std.specs.Prelude.{Ok}
use lib.Seq.{sets}
use Rattle.stream.specs.Reader.{read_ahead, take_next}
use Rattle.stream.specs.declared.reader.Cursor.{Cursor}
use Rattle.stream.specs.declared.reader.Token.{Token}
use Rattle.operators.specs.Ranks.{ranks}
use Rattle.tree.specs.Forest.{none, words}
use Rattle.grammar.specs.Term.{Term, check, opt, ◌⇒◌∣◌, empty, any, leaf, plus, ◌⨾◌, refuse, again as again'}
use Rattle.grammar.specs.Reading.{Reader, fail, read, hold}
use Rattle.grammar.specs.Levels.{readers}
use Rattle.grammar.specs.Productions.{parlist}
use Rattle.parser.specs.Contract.{under}
use Rattle.parser.specs.declared.place.Place.{Place}
use Rattle.parser.specs.declared.place.Script.{Script}
use Rattle.parser.proofs.Steps.{took_next, check_in, check_out, check_place, check_note}
use Rattle.parser.proofs.Kit.{Going, ready_at, lower, alter, revalue, renoted, looked, weighs, revalue_going, fails, ends, goes, stop, both}
use Rattle.parser.proofs.Tokens.{paid, any_fine, leaf_fine}
use Rattle.parser.proofs.Looks.{take_fails, take_gets, take_takes, refused, by_none, by_kind, by_others}
use Rattle.parser.proofs.Around.{looping}
use Rattle.parser.proofs.Loops.{Turning}
use Rattle.parser.proofs.Members.{no_token, a_token, handed}
use Rattle.parser.proofs.place.Script.parameters.Goals as goal

-- a turn: after a comma the whole again
abbrev more : Term
more = opt check (48 ∷ []) (any ⨾ again')

abbrev turn : Term
turn = any ⨾ leaf 30 ⨾ plus 2 ⨾ more

module _ (x : Script) where
  abbrev From : Term → Reader
  From e = read x.stream.now (ranks x.ranking) 0 (readers x.stream.now (ranks x.ranking) x.levels) (hold 0 0 none) e (under x.stream.now x.ranking 0 x.levels 0 parlist)

  module _ (p p' : Place) (n n' : List ℕ) (v : ℕ) (t : Turning x 0 0 parlist p p' n n' v) where
    opened : under x.stream.now x.ranking 0 x.levels 0 parlist p'.cursor.place p'.cursor.mark ≡ From (58 ⇒ turn ∣ 36 ⇒ (any ⨾ plus 1) ∣ refuse 63) p'.cursor.place p'.cursor.mark
    unfolding read parlist
    opened = looping x.stream.now x.ranking 0 x.levels 0 (58 ⇒ turn ∣ 36 ⇒ (any ⨾ plus 1) ∣ refuse 63) refl p'.cursor t.0.0.at

    -- a name was read
    a_parameter : {k : Token} {d : Cursor} {n₂ : List ℕ} → (Ok k, d) ≡ take_next x.stream.now p'.cursor → k.kind ≡ 58 → n₂ ≡ sets n' (p'.used * 4) (words 30 k.payload 0 1)
        → Going x.stream.now p.cursor.note p.cursor.place p.used 0 n n₂ (under x.stream.now x.ranking 0 x.levels 0 parlist p.cursor.place p.cursor.mark) (From more) d (p'.used + 1) (v + 2)
    unfolding read parlist
    a_parameter {k} {d} {n₂} y q w =
        let s = x.stream.now in
        let R = readers x.stream.now (ranks x.ranking) x.levels in
        let A = under x.stream.now x.ranking 0 x.levels 0 parlist in
        let a = took_next s p'.cursor (sym y) in
        let f1 = any_fine s (ranks x.ranking) 0 R (hold 0 0 none) A (read_ahead s p'.cursor 1) n' p'.used 0 x.formed (omega (arith, t.0.0.room)) (take_takes s p'.cursor (sym y)) in
        let f2 = leaf_fine s (ranks x.ranking) 0 R (hold 0 0 none) A d n' p'.used 0 (paid a) f1.at 30 (refl, refl, refl) refl (omega (arith, a.place, t.0.0.room)) w in
        let g1 = goes t.1 (From (leaf 30 ⨾ plus 2 ⨾ more)) (opened ∙ by_kind s (ranks x.ranking) 0 R (hold 0 0 none) A p'.cursor (58, turn) ((36, (any ⨾ plus 1)) ∷ []) (refuse 63) (take_gets s p'.cursor (sym y)) q) f1 (omega arith) in
        let g2 = goes g1 (From (plus 2 ⨾ more)) refl f2 (omega arith) in
        revalue_going (omega arith) (goes g2 (From more) refl (weighs {s = s} n₂ (p'.used + 1) 0 2 d f1.at f2.room) (omega arith))

pub returns-in_err-token : goal.returns-in_err-token
unfolding read
returns-in_err-token c =
    let x = c.args.self.now in
    let d = c.loop-token.at.cursor in
    rw (handed c.from_residual.result c.from_residual.ensures.1)
    (fails c.loop-token.invariant.1 (opened x c.args.at.now c.loop-token.at c.args.nodes.now c.loop-token.nodes c.loop-token.value c.loop-token.invariant ∙ by_none x.stream.now (ranks x.ranking) 0 (readers x.stream.now (ranks x.ranking) x.levels) (hold 0 0 none) (under x.stream.now x.ranking 0 x.levels 0 parlist) d (58, turn) ((36, (any ⨾ plus 1)) ∷ []) (refuse 63) (take_fails x.stream.now d (sym c.in_err-token.ensures))))

pub returns-then-token-eq-DOTS : goal.returns-then-token-eq-DOTS
unfolding read
returns-then-token-eq-DOTS c =
    let x = c.args.self.now in
    let d = c.loop-token.at.cursor in
    let t = c.loop-token.invariant in
    let a = took_next x.stream.now d (sym c.in_ok-token.ensures) in
    let R = readers x.stream.now (ranks x.ranking) x.levels in
    let A = under x.stream.now x.ranking 0 x.levels 0 parlist in
    let f1 = any_fine x.stream.now (ranks x.ranking) 0 R (hold 0 0 none) A (read_ahead x.stream.now d 1) c.loop-token.nodes c.loop-token.at.used 0 x.formed (omega (arith, t.0.0.room)) (take_takes x.stream.now d (sym c.in_ok-token.ensures)) in
    let f2 = both _ f1 (weighs _ _ 0 1 _ f1.at f1.room) (omega arith) in (
      lower _
          (revalue (omega arith)
          (ends t.1
          (alter (opened x c.args.at.now c.loop-token.at c.args.nodes.now c.loop-token.nodes c.loop-token.value t ∙ by_kind x.stream.now (ranks x.ranking) 0 R (hold 0 0 none) A d (58, turn) ((36, (any ⨾ plus 1)) ∷ []) (refuse 63) (take_gets x.stream.now d (sym c.in_ok-token.ensures)) c.if-token-eq-DOTS.true) f2)
          (omega arith)))
          (omega (arith, t.1.later, a.place)),
      omega (arith, a.place, t.0.1),
    )

pub returns-then-token-ne-NAME : goal.returns-then-token-ne-NAME
unfolding read
returns-then-token-ne-NAME c =
    let x = c.args.self.now in
    let d = c.loop-token.at.cursor in
    let g = take_gets x.stream.now d (sym c.in_ok-token.ensures) in
    let R = readers x.stream.now (ranks x.ranking) x.levels in
    let A = under x.stream.now x.ranking 0 x.levels 0 parlist in
    fails c.loop-token.invariant.1
    (opened x c.args.at.now c.loop-token.at c.args.nodes.now c.loop-token.nodes c.loop-token.value c.loop-token.invariant ∙ by_others x.stream.now (ranks x.ranking) 0 R (hold 0 0 none) A d (58, turn) ((36, (any ⨾ plus 1)) ∷ []) (refuse 63) g c.if-token-ne-NAME.true c.if-token-eq-DOTS.false
    ∙ refused x.stream.now (ranks x.ranking) 0 R (hold 0 0 none) A d 63 g ∙ ap fail (sym c.unexpected.ensures))

pub returns-then-not-check_ahead : goal.returns-then-not-check_ahead
unfolding read
returns-then-not-check_ahead c =
    let x = c.args.self.now in
    let t = c.loop-token.invariant in
    let d = c.take_next.new.self in
    let y = c.if-not-check_ahead.ensures in
    let a = took_next x.stream.now c.loop-token.at.cursor (sym c.in_ok-token.ensures) in
    let g = a_parameter x c.args.at.now c.loop-token.at c.args.nodes.now c.loop-token.nodes c.loop-token.value t c.in_ok-token.ensures c.if-token-ne-NAME.false c.leaf.ensures in
    let p = check_place x.stream.now d 0 48 y in
    let f = looked {s = x.stream.now} c.leaf.new.nodes (c.loop-token.at.used + 1) 0 d c.check_ahead.new.self
    (check_out x.stream.now (ranks x.ranking) 0 (readers x.stream.now (ranks x.ranking) x.levels) (hold 0 0 none) (under x.stream.now x.ranking 0 x.levels 0 parlist) d 48 (any ⨾ again') empty (λ z. omega arith) y refl) p (check_note x.stream.now d 0 48 y) g.at g.room in
    (revalue (omega arith) (lower _ (ends g f (omega arith)) (omega (arith, t.1.later, a.place, p))), omega (arith, a.place, p, t.0.1))

pub returns-in_err-take_next : goal.returns-in_err-take_next
unfolding read
returns-in_err-take_next c =
    let x = c.args.self.now in
    let t = c.loop-token.invariant in
    let d = c.take_next.new.self in
    let g = a_parameter x c.args.at.now c.loop-token.at c.args.nodes.now c.loop-token.nodes c.loop-token.value t c.in_ok-token.ensures c.if-token-ne-NAME.false c.leaf.ensures in
    rw (handed c.from_residual-in_err-take_next.result c.from_residual-in_err-take_next.ensures.1)
    (fails g (check_in x.stream.now (ranks x.ranking) 0 (readers x.stream.now (ranks x.ranking) x.levels) (hold 0 0 none) (under x.stream.now x.ranking 0 x.levels 0 parlist) d 48 (any ⨾ again') empty (λ z. omega arith) c.if-not-check_ahead.ensures refl
    ∙ stop _ (no_token x c.check_ahead.new.self c.in_err-take_next.ensures)))

pub loop-token-smaller : goal.loop-token-smaller
loop-token-smaller c =
    let x = c.args.self.now in
    let t = c.loop-token.invariant in
    let a = took_next x.stream.now c.loop-token.at.cursor (sym c.in_ok-token.ensures) in
    let p = check_place x.stream.now c.take_next.new.self 0 48 c.if-not-check_ahead.ensures in
    let f = a_token x c.check_ahead.new.self c.leaf.new.nodes (c.loop-token.at.used + 1) 0 (omega (arith, a.place, p, t.0.0.room)) c.in_ok-take_next.ensures in omega (arith, f.later, f.at, a.place, p)

pub loop-token-preserved : goal.loop-token-preserved
unfolding read
loop-token-preserved c =
    let x = c.args.self.now in
    let t = c.loop-token.invariant in
    let d = c.take_next.new.self in
    let y = c.if-not-check_ahead.ensures in
    let a = took_next x.stream.now c.loop-token.at.cursor (sym c.in_ok-token.ensures) in
    let p = check_place x.stream.now d 0 48 y in
    let f = a_token x c.check_ahead.new.self c.leaf.new.nodes (c.loop-token.at.used + 1) 0 (omega (arith, a.place, p, t.0.0.room)) c.in_ok-take_next.ensures in
    let g = a_parameter x c.args.at.now c.loop-token.at c.args.nodes.now c.loop-token.nodes c.loop-token.value t c.in_ok-token.ensures c.if-token-ne-NAME.false c.leaf.ensures in (
      (ready_at f (omega arith), omega (arith, f.later, a.place, p, t.0.1)),
      revalue_going (omega arith)
          (goes g (under x.stream.now x.ranking 0 x.levels 0 parlist) (check_in x.stream.now (ranks x.ranking) 0 (readers x.stream.now (ranks x.ranking) x.levels) (hold 0 0 none) (under x.stream.now x.ranking 0 x.levels 0 parlist) d 48 (any ⨾ again') empty (λ z. omega arith) y refl)
          (renoted (check_note x.stream.now d 0 48 y) f) (omega (arith, p))),
    )
