-- Suffixes, each by its first token; the tag of what stands last, which tells the shape of all; and a call as a statement. Assumes nothing.
use mathlib.Core.Path.{◌≡◌, refl, sym, ap, ◌∙◌, subst}
use mathlib.Core.List.{List, [], ◌∷◌}
use mathlib.Core.Bool.{Bool, true, false}
use Prim.Native.Nat.{ℕ, ◌+◌, ◌*◌, ◌≤◌}
use native.Mathlib.Omega.{arith}
use lib.Dec.{eqb}
use Rattle.stream.specs.Words.{kind, line as line_at}
use Rattle.stream.specs.Reader.{reached, read_ahead}
use Rattle.stream.specs.declared.reader.Cursor.{Cursor}
use Rattle.stream.specs.declared.reader.Note.{Note}
use Rattle.stream.specs.declared.reader.Refusal.{Refusal}
use Rattle.stream.proofs.Reading.{get_token}
use Rattle.operators.specs.Ranks.{ranks}
use Rattle.operators.specs.declared.Ranking.{Ranking}
use Rattle.tree.specs.Forest.{Forest, none, join}
use Rattle.tree.proofs.Lay.{join_none}
use Rattle.grammar.specs.Member.{member}
use Rattle.grammar.specs.Grammar.{first_suffix}
use Rattle.grammar.specs.Term.{Term, Line, Shape, ahead, next, here, opening, unlined, call, many}
use Rattle.grammar.specs.Term.{any, leaf, weigh, plus, ◌⨾◌, on, refuse, node}
use Rattle.grammar.specs.Reading.{Out, fine, fail, Reader, hold, last, add, then, wrap, shaped, keep, read}
use Rattle.grammar.specs.Reading.{ends as fitting}
use Rattle.grammar.specs.Productions.{word, named, expr, table, primary, suffix, suffixed, args}
use Rattle.grammar.specs.Levels.{readers}
use Rattle.grammar.proofs.Shapes.{last_join}
use Rattle.parser.specs.Parts as P
use Rattle.parser.specs.Contract.{Fine, Meets, Calls, misfit, under, says, again, kids}
use Rattle.std.specs.Prelude.{Result, Ok, Err}
use Rattle.parser.proofs.Kit.{alter, weighed, Going, turns, over}
use Rattle.parser.proofs.Looks.{Row, pick, by_kind, begins_again, on_again}
use Rattle.parser.proofs.Around.{held_at, keep_fine, keep_fail}

-- the tag of the last tree that was read, or x
abbrev pub last_from : ℕ → Out → ℕ
last_from x (fine q m t v) = last x t
last_from x (fail e) = 0

pub tag_is : {s : List ℕ} {m : Note} {low used more : ℕ} {n n' : List ℕ} {o : Out} {c : Cursor} {u v : ℕ} (f : Fine s m low used more n n' o c u v) (tag : ℕ) → last_from 0 o ≡ tag → tag ≡ last 0 f.trees
tag_is f tag e = sym e ∙ ap (last_from 0) f.says

-- a suffix is the one that its first token says
module _ (s : List ℕ) (k : Ranking) (g : ℕ) (c : Cursor) where
  abbrev Rows : List Row
  Rows = (51, P.index) ∷ (46, P.method) ∷ []

  suffix_is : (j : ℕ) → kind s c.place ≡ j → (j ≡ 59 → ⊥) → says s k g suffix c ≡ says s k g (pick ((44, P.dotted) ∷ Rows) P.call j) (read_ahead s c 1)
  unfolding suffix
  suffix_is j x real = by_kind s (ranks k) 0 (readers s (ranks k) g) (hold 0 0 none) again c (44, P.dotted) Rows P.call (get_token s c (λ q. real (sym x ∙ q))) x

  -- which reads the same before the look at that token
  begun : (tag : ℕ) (e : Term) → wrap s tag unlined c.place (says s k g (any ⨾ e) (read_ahead s c 1)) ≡ wrap s tag unlined c.place (says s k g (any ⨾ e) c)
  begun tag e = ap (wrap s tag unlined c.place) (begins_again s (ranks k) 0 (readers s (ranks k) g) (hold 0 0 none) again c.place c.mark e)

  pub dotted_is : kind s c.place ≡ 44 → says s k g suffix c ≡ says s k g P.dotted c
  unfolding read
  dotted_is x = suffix_is 44 x (λ q. omega arith) ∙ begun 32 (named ⨾ weigh)

  pub index_is : kind s c.place ≡ 51 → says s k g suffix c ≡ says s k g P.index c
  unfolding read
  index_is x = suffix_is 51 x (λ q. omega arith) ∙ begun 33 (expr ⨾ word 52)

  pub method_is : kind s c.place ≡ 46 → says s k g suffix c ≡ says s k g P.method c
  unfolding read
  method_is x = suffix_is 46 x (λ q. omega arith) ∙ begun 35 (named ⨾ weigh ⨾ args 0)

  abbrev Listless : Term
  Listless = on next (53 ∷ []) (plus 1 ⨾ node 17 here unlined table) (on next (57 ∷ []) (plus 1 ⨾ node 17 here unlined (any ⨾ leaf 22)) (refuse 62))

  pub call_is : (j : ℕ) → kind s c.place ≡ j → (j ≡ 59 → ⊥) → pick ((44, P.dotted) ∷ Rows) P.call j ≡ P.call → says s k g suffix c ≡ says s k g P.call c
  unfolding read args
  call_is j x real e =
      suffix_is j x real ∙ ap (λ (z : Term). says s k g z (read_ahead s c 1)) e
      ∙ ap (wrap s 34 unlined c.place) (on_again s (ranks k) 0 (readers s (ranks k) g) (hold 0 0 none) again c.place c.mark (49 ∷ []) P.list Listless)

-- a suffix with its tag
wrap_last : (s : List ℕ) (tag : ℕ) (l : Line) (i : ℕ) {p m v : ℕ} {t : Forest} (o : Out) → wrap s tag l i o ≡ fine p m t v → last_from 0 (wrap s tag l i o) ≡ tag
wrap_last s tag l i (fine q m t v) e = refl
wrap_last s tag l i (fail x) e = let z : ◌≡◌ {A = ℕ} 0 1 = cc in absurd (omega arith)

pub suffix_part : {s : List ℕ} {m : Note} {low used more : ℕ} {n n' : List ℕ} {c : Cursor} {u v : ℕ} (k tag : ℕ) (l : Line) (i : ℕ) {o : Out} (b : Out) → member k first_suffix ≡ true → o ≡ wrap s tag l i b
    → Fine s m low used more n n' (wrap s tag l i b) c u v → (member k first_suffix ≡ true) × ((f : Fine s m low used more n n' o c u v) × (tag ≡ last 0 f.trees))
suffix_part {s} k tag l i b y e x = let a = alter e x in (y, (a, tag_is a tag (ap (last_from 0) e ∙ wrap_last s tag l i b x.says)))

-- the tag of the last tree, by a name that no variable of the code has
abbrev pub last_tag : ℕ → Forest → ℕ
last_tag x t = last x t

-- a suffix is one tree at least, so its tag is that of the last tree whatever stood before it
wrap_same : (s : List ℕ) (tag : ℕ) (l : Line) (i x y : ℕ) (o : Out) → last_from x (wrap s tag l i o) ≡ last_from y (wrap s tag l i o)
wrap_same s tag l i x y (fine q m t v) = refl
wrap_same s tag l i x y (fail e) = refl

pick_same : (x y : ℕ) (b : Bool) (o o' : Out) → last_from x o ≡ last_from y o → last_from x o' ≡ last_from y o'
    → last_from x (elim b [ true ↦ o | false ↦ o' ]) ≡ last_from y (elim b [ true ↦ o | false ↦ o' ])
pick_same x y true o o' e f = e
pick_same x y false o o' e f = f

module _ (s : List ℕ) (k : Ranking) (g x y : ℕ) where
  abbrev Same : Term → Type 0
  Same e = (p m : ℕ) → last_from x (under s k 0 g 0 e p m) ≡ last_from y (under s k 0 g 0 e p m)

  node_same : (tag : ℕ) (e : Term) → Same (node tag here unlined e)
  unfolding read
  node_same tag e p m = wrap_same s tag unlined p x y (under s k 0 g 0 e p m)

  on_same : (ks : List ℕ) (a b : Term) → Same a → Same b → Same (on next ks a b)
  unfolding read
  on_same ks a b e f p m = pick_same x y (eqb (kind s p) 59) _ _ refl (pick_same x y (member (kind s p) ks) _ _ (e p (reached s m p 2)) (f p (reached s m p 2)))

  suffix_same : Same suffix
  unfolding suffix
  suffix_same =
      on_same (44 ∷ []) P.dotted (on next (51 ∷ []) P.index (on next (46 ∷ []) P.method P.call)) (node_same 32 (any ⨾ named ⨾ weigh))
      (on_same (51 ∷ []) P.index (on next (46 ∷ []) P.method P.call) (node_same 33 (any ⨾ expr ⨾ word 52))
      (on_same (46 ∷ []) P.method P.call (node_same 35 (any ⨾ named ⨾ weigh ⨾ args 0)) (node_same 34 (args 1))))

pub suffix_tag : (s : List ℕ) (k : Ranking) (g : ℕ) (c : Cursor) {m : Note} {low used more : ℕ} {n n' : List ℕ} {d : Cursor} {u v : ℕ} (x : ℕ) (f : Fine s m low used more n n' (says s k g suffix c) d u v) → last 0 f.trees ≡ last x f.trees
suffix_tag s k g c x f = sym (ap (last_from 0) f.says) ∙ suffix_same s k g 0 x c.place c.mark ∙ ap (last_from x) f.says

-- a turn of the loop: what stands last
pub turns_last : {s : List ℕ} {m : Note} {low used more : ℕ} {n n' : List ℕ} {o : Out} {rest : Reader} {c : Cursor} {u v : ℕ} (g : Going s m low used more n n' o rest c u v) {low' more' : ℕ} {n₂ : List ℕ} {y : Out} {d : Cursor} {w : ℕ} (k : ℕ)
    → rest c.place c.mark ≡ then (add none k y) rest → (f : Fine s c.note low' u more' n' n₂ y d w 0) → c.place ≤ low' → w ≤ 4 * d.place + more → (x tag : ℕ) → tag ≡ last (last x g.trees) f.trees
    → (z : Going s m low used more n n₂ o rest d w (v + (k + 0))) × (tag ≡ last x z.trees)
unfolding turns weighed
turns_last g k e f l r x tag q = (turns g e (weighed k f) l r, q ∙ sym (last_join x g.trees f.trees))

-- what stands last among the parts of a record
abbrev last_kid : Out → ℕ
last_kid (fine q m t v) = last 0 (kids t)
last_kid (fail e) = 0

pub parts_last : {s : List ℕ} {m m' m'' : Note} {low used more : ℕ} {n n₁ : List ℕ} {o : Out} {c : Cursor} {u : ℕ} (rest : Reader) (f : Fine s m low used more n n₁ o c u 0)
    {low' used' more' : ℕ} {n₂ n₃ : List ℕ} {d : Cursor} {w v : ℕ} (g : Going s m' low' used' more' n₂ n₃ (rest c.place c.mark) rest d w v)
    (e : Cursor) → rest d.place d.mark ≡ fine e.place e.mark none 0
    → (tag : ℕ) (l : Line) (i : ℕ) {low'' used'' more'' : ℕ} {n₄ n₅ : List ℕ} {z y : ℕ} (r : Fine s m'' low'' used'' more'' n₄ n₅ (wrap s tag l i (then o rest)) e z y)
    → (first later : ℕ) → first ≡ last 0 f.trees → later ≡ last first g.trees → later ≡ last 0 (kids r.trees)
parts_last {s} rest f {v = v} g e q tag l i r first later a b =
    b ∙ ap (λ (z : ℕ). last z g.trees) a ∙ sym (last_join 0 f.trees g.trees) ∙ ap (last 0) (ap (join f.trees) (sym (join_none g.trees)))
    ∙ sym (ap (λ (z : Out). last_kid (wrap s tag l i z)) (ap (λ (z : Out). then z rest) f.says ∙ ap (add f.trees 0) (g.says ∙ ap (add g.trees v) q)))
    ∙ ap last_kid r.says

-- the shape of a suffixed expression is told by the tag of its last part
abbrev trees_of : Out → Forest
trees_of (fine q m t v) = t
trees_of (fail e) = none

shape_is : (x : Shape) (s : List ℕ) (l : Line) (i : ℕ) (o : Out) {q m v : ℕ} {t : Forest} → wrap s 29 l i o ≡ fine q m t v → shaped x t ≡ fitting x (last 0 (kids t))
shape_is x s l i (fine a b t' w) e = subst (λ (z : Forest). shaped x z ≡ fitting x (last 0 (kids z))) (ap trees_of e) refl
shape_is x s l i (fail r) e = let z : ◌≡◌ {A = ℕ} 0 1 = cc in absurd (omega arith)

pub suffixed_fits : (s : List ℕ) (k : Ranking) (g : ℕ) (c : Cursor) (x : Shape) {m : Note} {low used more : ℕ} {n n' : List ℕ} {d : Cursor} {u v tag : ℕ} (f : Fine s m low used more n n' (says s k g suffixed c) d u v)
    → tag ≡ last 0 (kids f.trees) → shaped x f.trees ≡ fitting x tag
unfolding read suffixed
suffixed_fits s k g c x f e = shape_is x s unlined c.place (says s k g (primary ⨾ many ahead (44 ∷ 51 ∷ 46 ∷ 49 ∷ 53 ∷ 57 ∷ []) (plus 1 ⨾ suffix)) c) f.says ∙ ap (fitting x) (sym e)

-- a call as a statement, or what is none
pub called : {s : List ℕ} {m : Note} {low more : ℕ} {n n₁ : List ℕ} {o : Out} {c : Cursor} {u : ℕ} (used tag i line after : ℕ) (n₂ : List ℕ) (f : Fine s m low (used + 1) more n n₁ o c u 0) (d : Cursor) → d.place ≡ c.place → d.note ≡ c.note
    → shaped call f.trees ≡ member tag (34 ∷ 35 ∷ []) → line ≡ line_at s i → after ≡ line_at s c.place → (r : Result Unit Refusal) → Calls used u n₁ n₂ line tag after r
    → Meets s m low used more n n₂ (wrap s 15 opening i (keep call (misfit 4 (line_at s c.place)) (fine d.place d.mark f.trees 0))) (record { cursor = d; used = u }) r
unfolding held_at
called {s} {c = c} used tag i line after n₂ f d p y x l a (Ok e) z =
    let h = keep_fine call (misfit 4 (line_at s c.place)) refl (held_at f d p y) (x ∙ z.0) in
    over 15 opening i line (refl, refl, refl) h z.1 l
called {s} {c = c} used tag i line after n₂ f d p y x l a (Err e) z =
    ap (wrap s 15 opening i) (keep_fail call (misfit 4 (line_at s c.place)) refl (held_at f d p y) (x ∙ z.0)) ∙ ap (λ (q : ℕ). fail (misfit 4 q)) (sym a) ∙ ap fail (sym z.1)
