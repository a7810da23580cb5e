-- Lists whose parts weigh nothing: explist 0 and args 0 read as explist 1 and args 1 do, with the value 0. Assumes nothing.
use mathlib.Core.Path.{◌≡◌, refl, ap, ◌∙◌}
use mathlib.Core.List.{List, [], ◌∷◌}
use mathlib.Core.Bool.{Bool, true, false, ◌&&◌}
use Prim.Native.Nat.{ℕ, zero, suc}
use lib.ListN.{length}
use lib.Dec.{eqb}
use Rattle.stream.specs.Kinds.{LeftParen, RightParen, LeftBrace, String}
use Rattle.stream.specs.Words.{kind}
use Rattle.stream.specs.Reader.{reached}
use Rattle.stream.specs.declared.reader.Cursor.{Cursor}
use Rattle.stream.specs.declared.reader.Note.{Note}
use Rattle.stream.specs.declared.reader.Refusal.{Refusal}
use Rattle.operators.specs.Ranks.{Ranks, ranks}
use Rattle.operators.specs.declared.Ranking.{Ranking}
use Rattle.tree.specs.Forest.{Forest, none}
use Rattle.grammar.specs.Member.{member}
use Rattle.grammar.specs.Term.{Term, Look, far, must, Line, next, check, here, unlined, ◌⇒◌∣◌}
use Rattle.grammar.specs.Term.{empty, any, leaf, plus, ◌⨾◌, on, refuse, node, iter, again}
use Rattle.grammar.specs.Reading.{Out, fine, fail, Reader, Held, hold, add, then, wrap, loop, read, reach}
use Rattle.grammar.specs.Productions.{word, expr, explist, args, table, head, tails, expression}
use Rattle.grammar.specs.Levels.{readers}
use Rattle.parser.specs.Contract.{Fine}

-- the same without the value
abbrev weightless : Out → Out
weightless (fine q m t v) = fine q m t 0
weightless (fail e) = fail e

pub light_fine : {s : List ℕ} {q : Note} {low used more : ℕ} {n n' : List ℕ} {o o' : Out} {c : Cursor} {u v : ℕ} → o' ≡ weightless o → Fine s q low used more n n' o c u v → Fine s q low used more n n' o' c u 0
light_fine e f = record { trees = f.trees; says = e ∙ ap weightless f.says; grown = f.grown; laid = f.laid; at = f.at; later = f.later; room = f.room; noted = f.noted }

pub light_fail : {o o' : Out} {e : Refusal} → o' ≡ weightless o → o ≡ fail e → o' ≡ fail e
light_fail x y = x ∙ ap weightless y

abbrev Light : Reader → Reader → Type 0
Light A B = (p m : ℕ) → A p m ≡ weightless (B p m)

light_wrap : (s : List ℕ) (tag : ℕ) (l : Line) (i : ℕ) (o : Out) → wrap s tag l i o ≡ weightless (wrap s tag l i o)
light_wrap s tag l i (fine q m t v) = refl
light_wrap s tag l i (fail e) = refl

light_then : {a : Out} (b : Out) (f g : Reader) → a ≡ weightless b → Light f g → then a f ≡ weightless (then b g)
light_then b f g e h = ap (λ (o : Out). then o f) e ∙ go b
  where
    put : (t : Forest) (v : ℕ) (o : Out) → add t 0 (weightless o) ≡ weightless (add t v o)
    put t v (fine q m u w) = refl
    put t v (fail x) = refl

    go : (o : Out) → then (weightless o) f ≡ weightless (then o g)
    go (fine q m t v) = ap (add t 0) (h q m) ∙ put t v (g q m)
    go (fail x) = refl

light_pick : (b : Bool) (x y x' y' : Out) → x ≡ weightless x' → y ≡ weightless y' → ◌≡◌ {A = Out} (elim b [ true ↦ x | false ↦ y ]) (weightless (elim b [ true ↦ x' | false ↦ y' ]))
light_pick true x y x' y' e f = e
light_pick false x y x' y' e f = f

light_loop : (s : List ℕ) (f g : Reader → Reader) → ((A B : Reader) → Light A B → Light (f A) (g B)) → (n : ℕ) → Light (loop s n f) (loop s n g)
light_loop s f g h zero p m = refl
light_loop s f g h (suc n) p m = h (loop s n f) (loop s n g) (light_loop s f g h n) p m

-- an expression has no value
light_exps : (s : List ℕ) (rank : Ranks) (g l : ℕ) → Light ((readers s rank g).exps l) ((readers s rank g).exps l)
unfolding read expression
light_exps s rank zero l p m = refl
light_exps s rank (suc g) l p m =
    light_wrap s 17 unlined p (read s rank l (readers s rank g) (hold 0 0 none) (head ⨾ tails) (loop s (length s) (read s rank l (readers s rank g) (hold 0 0 none) expression)) p m)

module _ (s : List ℕ) (rank : Ranks) (limit g : ℕ) (h : Held) where
  abbrev Reads : Term → Reader → Reader
  Reads e A = read s rank limit (readers s rank g) h e A

  any_light : (A B : Reader) → Light (Reads any A) (Reads any B)
  unfolding read
  any_light A B p m = light_pick (eqb (kind s p) 59) _ _ _ _ refl refl

  word_light : (k : ℕ) (A B : Reader) → Light (Reads (word k) A) (Reads (word k) B)
  unfolding read
  word_light k A B p m = light_pick (eqb (kind s p) k) _ _ _ _ refl (light_pick (eqb (kind s p) 59) _ _ _ _ refl refl)

  on_light : (l : Look) (ks : List ℕ) (a b a' b' : Term) (A B : Reader) → Light (Reads a A) (Reads a' B) → Light (Reads b A) (Reads b' B) → Light (Reads (on l ks a b) A) (Reads (on l ks a' b') B)
  unfolding read
  on_light l ks a b a' b' A B x y p m =
      light_pick (must l && eqb (kind s p) 59) _ _ _ _ refl (light_pick (member (kind s (far l p)) ks) _ _ _ _ (x p (reached s m p (reach l))) (y p (reached s m p (reach l))))

  then_light : (a b a' b' : Term) (A B : Reader) → Light (Reads a A) (Reads a' B) → Light (Reads b A) (Reads b' B) → Light (Reads (a ⨾ b) A) (Reads (a' ⨾ b') B)
  unfolding read
  then_light a b a' b' A B x y p m = light_then (Reads a' B p m) (Reads b A) (Reads b' B) (x p m) y

  plus_light : (w w' : ℕ) (A B : Reader) → w ≡ 0 → Light (Reads (plus w) A) (Reads (plus w') B)
  unfolding read
  plus_light w w' A B e p m = ap (fine p m none) e

  exp_light : (A B : Reader) → Light (Reads expr A) (Reads expr B)
  unfolding read
  exp_light A B p m = light_exps s rank g 0 p m

  abbrev Part : ℕ → Term
  Part w = any ⨾ plus w ⨾ expr

  abbrev Turn : ℕ → Term
  Turn w = on check (48 ∷ []) (Part w ⨾ again) empty

  explist_light : (A B : Reader) → Light (Reads (explist 0) A) (Reads (explist 1) B)
  unfolding read explist
  explist_light A B =
      then_light (plus 0) (expr ⨾ iter (Turn 0)) (plus 1) (expr ⨾ iter (Turn 1)) A B (plus_light 0 1 A B refl)
      (then_light expr (iter (Turn 0)) expr (iter (Turn 1)) A B (exp_light A B) (λ p m. light_loop s (Reads (Turn 0)) (Reads (Turn 1)) turn (suc (length s)) p m))
    where
      turn : (X Y : Reader) → Light X Y → Light (Reads (Turn 0) X) (Reads (Turn 1) Y)
      turn X Y e =
          on_light check (48 ∷ []) (Part 0 ⨾ again) empty (Part 1 ⨾ again) empty X Y
          (then_light (Part 0) again (Part 1) again X Y
          (then_light any (plus 0 ⨾ expr) any (plus 1 ⨾ expr) X Y (any_light X Y) (then_light (plus 0) expr (plus 1) expr X Y (plus_light 0 1 X Y refl) (exp_light X Y)))
          (λ p m. e p m))
          (λ p m. refl)

  -- the parts of args
  abbrev Inner : ℕ → Term
  Inner w = RightParen ⇒ empty ∣ explist w

  abbrev Listed : ℕ → Term
  Listed w = any ⨾ Inner w ⨾ word RightParen

  abbrev Tabled : ℕ → Term
  Tabled w = plus w ⨾ node 17 here unlined table

  abbrev Quoted : ℕ → Term
  Quoted w = plus w ⨾ node 17 here unlined (any ⨾ leaf 22)

  abbrev Kinded : ℕ → Term
  Kinded w = String ⇒ Quoted w ∣ refuse 62

  abbrev Others : ℕ → Term
  Others w = LeftBrace ⇒ Tabled w ∣ Kinded w

  arguments_light : (A : Reader) → Light (Reads (args 0) A) (Reads (args 1) A)
  unfolding read args
  arguments_light A =
      on_light next (LeftParen ∷ []) (Listed 0) (Others 0) (Listed 1) (Others 1) A A
      (then_light any (Inner 0 ⨾ word RightParen) any (Inner 1 ⨾ word RightParen) A A (any_light A A)
      (then_light (Inner 0) (word RightParen) (Inner 1) (word RightParen) A A (on_light next (RightParen ∷ []) empty (explist 0) empty (explist 1) A A (λ p m. refl) (explist_light A A)) (word_light RightParen A A)))
      (on_light next (LeftBrace ∷ []) (Tabled 0) (Kinded 0) (Tabled 1) (Kinded 1) A A (boxed table)
      (on_light next (String ∷ []) (Quoted 0) (refuse 62) (Quoted 1) (refuse 62) A A (boxed (any ⨾ leaf 22)) (λ p m. light_pick (eqb (kind s p) 59) _ _ _ _ refl refl)))
    where
      boxed : (e : Term) → Light (Reads (plus 0 ⨾ node 17 here unlined e) A) (Reads (plus 1 ⨾ node 17 here unlined e) A)
      boxed e = then_light (plus 0) (node 17 here unlined e) (plus 1) (node 17 here unlined e) A A (plus_light 0 1 A A refl) (λ p m. light_wrap s 17 unlined p (Reads e A p m))

module _ (s : List ℕ) (k : Ranking) (limit g : ℕ) (h : Held) (A : Reader) (c : Cursor) where
  pub exps_light : read s (ranks k) limit (readers s (ranks k) g) h (explist 0) A c.place c.mark ≡ weightless (read s (ranks k) limit (readers s (ranks k) g) h (explist 1) A c.place c.mark)
  exps_light = explist_light s (ranks k) limit g h A A c.place c.mark

  pub args_light : read s (ranks k) limit (readers s (ranks k) g) h (args 0) A c.place c.mark ≡ weightless (read s (ranks k) limit (readers s (ranks k) g) h (args 1) A c.place c.mark)
  args_light = arguments_light s (ranks k) limit g h A c.place c.mark
