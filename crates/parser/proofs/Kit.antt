-- The kit: what was read so far, and one part more, said of the reading and of the array. Grouped otherwise; under another name and another
-- bound; what is left to read, as in loops; one after the other; a record over its parts. Assumes nothing.
use mathlib.Core.Path.{◌≡◌, refl, sym, ap, ◌∙◌, subst}
use mathlib.Core.Bool.{Bool, true, false}
use mathlib.Core.List.{List}
use Prim.Native.Nat.{ℕ, ◌+◌, ◌*◌, ◌-◌, ◌≤◌, ◌<◌}
use native.Mathlib.Nat.{zero-add, add_assoc}
use native.Mathlib.Omega.{arith}
use Rattle.std.specs.Prelude.{Result, Ok, Err}
use lib.ListN.{length}
use lib.Dec.{eqb}
use lib.Seq.{sets, length-sets}
use Rattle.stream.specs.Words.{records, kind}
use Rattle.stream.specs.Formed.{Formed}
use Rattle.stream.specs.declared.reader.Cursor.{Cursor}
use Rattle.stream.specs.declared.reader.Note.{Note}
use Rattle.stream.specs.declared.reader.Token.{Token}
use Rattle.stream.specs.declared.reader.Refusal.{Refusal}
use Rattle.stream.proofs.Words.{token_next}
use Rattle.tree.specs.Forest.{Forest, none, tree, size, join, words, flat}
use Rattle.tree.proofs.Lay.{size_join, join_assoc, lay_join, lay_tree}
use Rattle.grammar.specs.Term.{Line, unlined}
use Rattle.grammar.specs.Reading.{Out, fine, fail, Reader, add, then, wrap, line_of}
use Rattle.quarrel.specs.Notes.{noted, held, hears, fresh, resumed}
use Rattle.quarrel.proofs.Added.{noted_join, noted_tree}
use Rattle.parser.specs.Contract.{Ready, Fined, Fine, Meets, Sums, Ordinary, chained, counts, begins, backs}
use Rattle.parser.specs.declared.place.Place.{Place}
use Rattle.parser.proofs.Steps.{Advanced}

-- trees and values before what is read
pub add_none : (o : Out) → add none 0 o ≡ o
add_none (fine q m t v) = ap (fine q m t) (zero-add v)
add_none (fail e) = refl

add_add : (t u : Forest) (v w : ℕ) (o : Out) → add t v (add u w o) ≡ add (join t u) (v + w) o
add_add t u v w (fine q m x y) = ap (λ (z : Forest). fine q m z (v + (w + y))) (sym (join_assoc t u x)) ∙ ap (fine q m (join (join t u) x)) (sym (add_assoc v w y))
add_add t u v w (fail e) = refl

add_then : (t : Forest) (v : ℕ) (o : Out) (f : Reader) → then (add t v o) f ≡ add t v (then o f)
add_then t v (fine q m u w) f = sym (add_add t u v w (f q m))
add_then t v (fail e) f = refl

-- one after the other, grouped to the left and to the right: two parts that are read as one, and what comes after them; three parts
pub then_assoc : (o : Out) (f g : Reader) → then (then o f) g ≡ then o (λ p m. then (f p m) g)
then_assoc (fine q m t v) f g = add_then t v (f q m) g
then_assoc (fail e) f g = refl

pub then_assoc3 : (o : Out) (f g h : Reader) → then (then o (λ p m. then (f p m) g)) h ≡ then o (λ p m. then (f p m) (λ q k. then (g q k) h))
then_assoc3 (fine q m t v) f g h = add_then t v (then (f q m) g) h ∙ ap (add t v) (then_assoc (f q m) g h)
then_assoc3 (fail e) f g h = refl

-- what was read: the array keeps its length
pub kept : {w' : Forest → Note → Note} {s : List ℕ} {q : Note} {low used more : ℕ} {n n' : List ℕ} {o : Out} {c : Cursor} {u v : ℕ} → Fined w' s q low used more n n' o c u v → length n' ≡ length n
kept {used = used} {n = n} f = ap length f.laid ∙ length-sets n (used * 4) (flat f.trees)

-- what may be relied on after it; and after a look
pub ready_at : {w' : Forest → Note → Note} {s : List ℕ} {q : Note} {low used more : ℕ} {n n' : List ℕ} {o : Out} {c : Cursor} {u v slack : ℕ} → Fined w' s q low used more n n' o c u v → more ≤ slack → Ready s (record { cursor = c; used = u }) slack
ready_at f l = record { at = f.at; room = omega (arith, f.room) }

pub ready_seen : {s : List ℕ} {p : Place} {slack : ℕ} (d : Cursor) → Ready s p slack → d.place ≡ p.cursor.place → Ready s (record { cursor = d; used = p.used }) slack
ready_seen d r e = record { at = omega (arith, r.at, e); room = omega (arith, r.room, e) }

-- a record is kept for a parent
pub ready_open : {s : List ℕ} {p : Place} {slack : ℕ} → Ready s p slack → Ready s (record { cursor = p.cursor; used = p.used + 1 }) (slack + 1)
ready_open r = record { at = r.at; room = omega (arith, r.room) }

-- with another bound, which the cursor shows; under another name; with a value under another name
pub lower : {w' : Forest → Note → Note} {s : List ℕ} {q : Note} {low used more : ℕ} {n n' : List ℕ} {o : Out} {c : Cursor} {u v : ℕ} (low' : ℕ) → Fined w' s q low used more n n' o c u v → low' ≤ c.place → Fined w' s q low' used more n n' o c u v
lower low' f l = record { trees = f.trees; says = f.says; grown = f.grown; laid = f.laid; at = f.at; later = l; room = f.room; noted = f.noted }

pub alter : {w' : Forest → Note → Note} {s : List ℕ} {q : Note} {low used more : ℕ} {n n' : List ℕ} {o o' : Out} {c : Cursor} {u v : ℕ} → o' ≡ o → Fined w' s q low used more n n' o c u v → Fined w' s q low used more n n' o' c u v
alter e f = record { trees = f.trees; says = e ∙ f.says; grown = f.grown; laid = f.laid; at = f.at; later = f.later; room = f.room; noted = f.noted }

pub revalue : {w' : Forest → Note → Note} {s : List ℕ} {q : Note} {low used more : ℕ} {n n' : List ℕ} {o : Out} {c : Cursor} {u v w : ℕ} → v ≡ w → Fined w' s q low used more n n' o c u v → Fined w' s q low used more n n' o c u w
revalue {w'} {s} {q} {low} {used} {more} {n} {n'} {o} {c} {u} e f = subst (Fined w' s q low used more n n' o c u) e f

-- with more room
pub roomier : {w' : Forest → Note → Note} {s : List ℕ} {q : Note} {low used more : ℕ} {n n' : List ℕ} {o : Out} {c : Cursor} {u v : ℕ} (more' : ℕ) → Fined w' s q low used more n n' o c u v → more ≤ more' → Fined w' s q low used more' n n' o c u v
roomier more' f l = record { trees = f.trees; says = f.says; grown = f.grown; laid = f.laid; at = f.at; later = f.later; room = omega (arith, f.room); noted = f.noted }

-- from another note, which is the same
pub still : (q : Note) → q ≡ q
still q = refl

unfoldable pub renoted : {w' : Forest → Note → Note} {s : List ℕ} {q q' : Note} {low used more : ℕ} {n n' : List ℕ} {o : Out} {c : Cursor} {u v : ℕ} → q ≡ q' → Fined w' s q low used more n n' o c u v → Fined w' s q' low used more n n' o c u v
renoted {w'} e f = record { trees = f.trees; says = f.says; grown = f.grown; laid = f.laid; at = f.at; later = f.later; room = f.room; noted = f.noted ∙ ap (w' f.trees) e }

-- an answer under another name, with a smaller bound; a number of things likewise
module _ (s : List ℕ) {q q' : Note} (x : q ≡ q') {low low' : ℕ} (used more : ℕ) (n n' : List ℕ) {o o' : Out} where
  pub moved : (p : Place) (r : Result Unit Refusal) → o' ≡ o → low' ≤ low → Meets s q low used more n n' o p r → Meets s q' low' used more n n' o' p r
  moved p (Ok y) e l f = alter e (lower low' (renoted x f) (omega (arith, f.later)))
  moved p (Err z) e l f = e ∙ f

  pub moved_sum : {start start' : ℕ} (p : Place) (r : Result ℕ Refusal) → o' ≡ o → start' ≤ start → low' ≤ low → Sums s q start low used more n n' o p r → Sums s q' start' low' used more n n' o' p r
  moved_sum p (Ok v) e a l f = (alter e (lower low' (renoted x f.0) (omega (arith, f.0.later))), omega (arith, f.1))
  moved_sum p (Err z) e a l f = e ∙ f

-- nothing was laid: a look; a token; a weight alone
pub looked : {s : List ℕ} {o : Out} (n : List ℕ) (used more : ℕ) (c d : Cursor) → o ≡ fine d.place d.mark none 0 → d.place ≡ c.place → d.note ≡ c.note → c.place < records s → used ≤ 4 * c.place + more
    → Fine s c.note c.place used more n n o d used 0
looked n used more c d e p x a r = record { trees = none; says = e; grown = omega arith; laid = refl; at = omega arith; later = omega arith; room = omega arith; noted = x }

pub passed : {s : List ℕ} {o : Out} {c d : Cursor} {t : Token} (n : List ℕ) (used more : ℕ) → Formed s → Advanced s c t d → o ≡ fine d.place d.mark none 0 → used ≤ 4 * c.place + (4 + more)
    → Fine s c.note (c.place + 1) used more n n o d used 0
passed {s} {c = c} n used more f a e r =
    let x = token_next s f c.place a.real in
    record { trees = none; says = e; grown = omega arith; laid = refl; at = omega (arith, a.place); later = omega (arith, a.place); room = omega (arith, a.place); noted = a.note }

pub weighs : {s : List ℕ} (n : List ℕ) (used more w : ℕ) (c : Cursor) → c.place < records s → used ≤ 4 * c.place + more → Fine s c.note c.place used more n n (fine c.place c.mark none w) c used w
weighs n used more w c a r = record { trees = none; says = refl; grown = omega arith; laid = refl; at = a; later = omega arith; room = r; noted = refl }

-- a weight before a part
unfoldable pub weighed : {w' : Forest → Note → Note} {s : List ℕ} {q : Note} {low used more : ℕ} {n n' : List ℕ} {o : Out} {c : Cursor} {u v : ℕ} (w : ℕ) → Fined w' s q low used more n n' o c u v → Fined w' s q low used more n n' (add none w o) c u (w + v)
weighed w f = record { trees = f.trees; says = ap (add none w) f.says; grown = f.grown; laid = f.laid; at = f.at; later = f.later; room = f.room; noted = f.noted }

-- what was read so far, and what the reading says of the rest
pub record Going (s : List ℕ) (q : Note) (low used more : ℕ) (n n' : List ℕ) (o : Out) (rest : Reader) (c : Cursor) (u v : ℕ) : Type 0 where
  pub trees : Forest
  pub says : o ≡ add trees v (rest c.place c.mark)
  pub grown : u ≡ used + size trees
  pub laid : n' ≡ sets n (used * 4) (flat trees)
  pub at : c.place < records s
  pub later : low ≤ c.place
  pub room : u ≤ 4 * c.place + more
  pub heard : c.note ≡ noted s trees q

-- a loop begins; it goes on after a first part
unfoldable pub begin : {s : List ℕ} {o : Out} (n : List ℕ) (used more : ℕ) (c : Cursor) (rest : Reader) → o ≡ rest c.place c.mark → c.place < records s → used ≤ 4 * c.place + more
    → Going s c.note c.place used more n n o rest c used 0
begin n used more c rest e a r = record { trees = none; says = e ∙ sym (add_none (rest c.place c.mark)); grown = omega arith; laid = refl; at = a; later = omega arith; room = r; heard = refl }

pub follow : {s : List ℕ} {q : Note} {low used more : ℕ} {n n' : List ℕ} {o : Out} {c : Cursor} {u v : ℕ} (rest : Reader) → Fine s q low used more n n' o c u v → Going s q low used more n n' (then o rest) rest c u v
follow rest f = record { trees = f.trees; says = ap (λ (z : Out). then z rest) f.says; grown = f.grown; laid = f.laid; at = f.at; later = f.later; room = f.room; heard = f.noted }

pub revalue_going : {s : List ℕ} {q : Note} {low used more : ℕ} {n n' : List ℕ} {o : Out} {rest : Reader} {c : Cursor} {u v w : ℕ} → v ≡ w → Going s q low used more n n' o rest c u v → Going s q low used more n n' o rest c u w
revalue_going {s} {q} {low} {used} {more} {n} {n'} {o} {rest} {c} {u} e g = subst (Going s q low used more n n' o rest c u) e g

module _ {s : List ℕ} {q : Note} {low used more : ℕ} {n n' : List ℕ} {o : Out} {rest : Reader} {c : Cursor} {u v : ℕ} (g : Going s q low used more n n' o rest c u v) where
  -- a look: what is left is left at the cursor that it gave
  pub looks : (f : Reader) (d : Cursor) → rest c.place c.mark ≡ f d.place d.mark → d.place ≡ c.place → d.note ≡ c.note → Going s q low used more n n' o f d u v
  looks f d e p x = record { trees = g.trees; says = g.says ∙ ap (add g.trees v) e; grown = g.grown; laid = g.laid; at = omega (arith, g.at, p); later = omega (arith, g.later, p); room = omega (arith, g.room, p); heard = x ∙ g.heard }

  -- what is left fails
  pub fails : {e : Refusal} → rest c.place c.mark ≡ fail e → o ≡ fail e
  fails x = g.says ∙ ap (add g.trees v) x

  -- one part more: what was laid, and what follows
  module _ {low' more' : ℕ} {n₂ : List ℕ} {x : Out} {d : Cursor} {w k : ℕ} (y : Fine s c.note low' u more' n' n₂ x d w k) where
    all_grown : w ≡ used + size (join g.trees y.trees)
    all_grown = omega (arith, g.grown, y.grown, size_join g.trees y.trees)

    all_laid : n₂ ≡ sets n (used * 4) (flat (join g.trees y.trees))
    all_laid = y.laid ∙ ap (λ (z : List ℕ). sets z (u * 4) (flat y.trees)) g.laid ∙ lay_join n used u g.trees y.trees g.grown

    all_noted : d.note ≡ noted s (join g.trees y.trees) q
    all_noted = y.noted ∙ ap (noted s y.trees) g.heard ∙ sym (noted_join s g.trees y.trees q)

    further : (f : Reader) → rest c.place c.mark ≡ then x f → c.place ≤ low' → (more'' : ℕ) → w ≤ 4 * d.place + more'' → Going s q low used more'' n n₂ o f d w (v + k)
    further f e l more'' r =
        record {
          trees = join g.trees y.trees;
          says = g.says ∙ ap (add g.trees v) (e ∙ ap (λ (z : Out). then z f) y.says) ∙ add_add g.trees y.trees v k (f d.place d.mark);
          grown = all_grown;
          laid = all_laid;
          at = y.at;
          later = omega (arith, g.later, y.later);
          room = r;
          heard = all_noted;
        }

  -- what is left was read; a part of it, and what follows it; a turn, and the rest again
  pub ends : {low' more' : ℕ} {n₂ : List ℕ} {d : Cursor} {w k : ℕ} → Fine s c.note low' u more' n' n₂ (rest c.place c.mark) d w k → c.place ≤ low' → Fine s q low used more' n n₂ o d w (v + k)
  ends y l =
      record {
        trees = join g.trees y.trees;
        says = g.says ∙ ap (add g.trees v) y.says;
        grown = all_grown y;
        laid = all_laid y;
        at = y.at;
        later = omega (arith, g.later, y.later);
        room = y.room;
        noted = all_noted y;
      }

  pub goes : {low' more' : ℕ} {n₂ : List ℕ} {x : Out} {d : Cursor} {w k : ℕ} (f : Reader) → rest c.place c.mark ≡ then x f → Fine s c.note low' u more' n' n₂ x d w k → c.place ≤ low' → Going s q low used more' n n₂ o f d w (v + k)
  goes f e y l = further y f e l _ y.room

  unfoldable pub turns : {low' more' : ℕ} {n₂ : List ℕ} {x : Out} {d : Cursor} {w k : ℕ} → rest c.place c.mark ≡ then x rest → Fine s c.note low' u more' n' n₂ x d w k → c.place ≤ low' → w ≤ 4 * d.place + more
      → Going s q low used more n n₂ o rest d w (v + k)
  unfolding further add_add all_grown all_laid all_noted
  turns e y l r = further y rest e l more r

-- one after the other: the first fails; the second fails; both were read
pub stop : {o : Out} {e : Refusal} (f : Reader) → o ≡ fail e → then o f ≡ fail e
stop f x = ap (λ (z : Out). then z f) x

pub past : {s : List ℕ} {q : Note} {low used more : ℕ} {n n' : List ℕ} {o : Out} {c : Cursor} {u v : ℕ} {e : Refusal} (f : Reader) → Fine s q low used more n n' o c u v → f c.place c.mark ≡ fail e → then o f ≡ fail e
past f x y = fails (follow f x) y

pub both : {s : List ℕ} {q : Note} {low low' used more more' : ℕ} {n n₁ n₂ : List ℕ} {o : Out} {c d : Cursor} {u w v v' : ℕ} (f : Reader) → Fine s q low used more n n₁ o c u v
    → Fine s c.note low' u more' n₁ n₂ (f c.place c.mark) d w v' → c.place ≤ low' → Fine s q low used more' n n₂ (then o f) d w (v + v')
both f x y l = ends (follow f x) y l

-- what comes next answers for both; where it is the later part that moves on
pub onward_later : {s : List ℕ} {q : Note} {low low' used more : ℕ} {n n₁ : List ℕ} {o : Out} {c : Cursor} {u : ℕ} (low'' more' : ℕ) (n₂ : List ℕ) (f : Reader) → Fine s q low used more n n₁ o c u 0 → (p : Place) (r : Result Unit Refusal)
    → Meets s c.note low' u more' n₁ n₂ (f c.place c.mark) p r → c.place ≤ low' → low'' ≤ low' → Meets s q low'' used more' n n₂ (then o f) p r
onward_later low'' more' n₂ f x p (Ok z) y l k = lower low'' (both f x y l) (omega (arith, y.later))
onward_later low'' more' n₂ f x p (Err e) y l k = past f x y

pub onward : {s : List ℕ} {q : Note} {low low' used more : ℕ} {n n₁ : List ℕ} {o : Out} {c : Cursor} {u : ℕ} (more' : ℕ) (n₂ : List ℕ) (f : Reader) → Fine s q low used more n n₁ o c u 0 → (p : Place) (r : Result Unit Refusal)
    → Meets s c.note low' u more' n₁ n₂ (f c.place c.mark) p r → c.place ≤ low' → Meets s q low used more' n n₂ (then o f) p r
onward {low = low} more' n₂ f x p r y l = onward_later low more' n₂ f x p r y l (omega (arith, x.later))

-- a record over what was read, which stands behind it: whatever that added to a note, and whatever the record does
laid_over : {w w' : Forest → Note → Note} {s : List ℕ} {q q' : Note} {low used more : ℕ} {n n₁ n₂ : List ℕ} {o : Out} {c : Cursor} {u v : ℕ} (tag : ℕ) (l : Line) (i line : ℕ) (d : Cursor) → d.place ≡ c.place → d.mark ≡ c.mark
    → (f : Fined w' s q' low (used + 1) more n n₁ o c u v) → n₂ ≡ sets n₁ (used * 4) (words tag v line (u - used)) → line ≡ line_of s l i c.place
    → d.note ≡ w (tree tag v (line_of s l i c.place) i f.trees none) q → Fined w s q low used more n n₂ (wrap s tag l i o) d u 0
laid_over {s = s} {used = used} {n = n} {n₁ = n₁} {c = c} {u = u} {v = v} tag l i line d p m f e x y =
    let t = tree tag v (line_of s l i c.place) i f.trees none in
    record {
      trees = t;
      says = ap (wrap s tag l i) f.says ∙ sym (ap (λ (z : ℕ). fine z d.mark t 0) p ∙ ap (λ (z : ℕ). fine c.place z t 0) m);
      grown = omega (arith, f.grown);
      laid = lay_tree n n₁ used tag v (line_of s l i c.place) (u - used) i f.trees f.laid (e ∙ ap (λ (z : ℕ). sets n₁ (used * 4) (words tag v z (u - used))) x) (omega (arith, f.grown));
      at = omega (arith, f.at, p);
      later = omega (arith, f.later, p);
      room = omega (arith, f.room, p);
      noted = y;
    }

pub over : {s : List ℕ} {q : Note} {low used more : ℕ} {n n₁ n₂ : List ℕ} {o : Out} {c : Cursor} {u v : ℕ} (tag : ℕ) (l : Line) (i line : ℕ) → Ordinary tag → Fine s q low (used + 1) more n n₁ o c u v
    → n₂ ≡ sets n₁ (used * 4) (words tag v line (u - used)) → line ≡ line_of s l i c.place → Fine s q low used more n n₂ (wrap s tag l i o) c u 0
over {s} {q} {c = c} {v = v} tag l i line y f e p = laid_over tag l i line c refl refl f e p (f.noted ∙ sym (noted_tree s tag v (line_of s l i c.place) i f.trees none q y))

-- an operand that a unary operator holds, and one that a tail holds, after the tail's operator
abbrev Holds : ℕ → List ℕ → Note → ℕ → Note
Holds tag s q i = elim (eqb tag 19) as (λ z. Note) [ true ↦ hears q (kind s i) i | false ↦ q ]

pub over_held : {s : List ℕ} {low used more : ℕ} {n n₁ n₂ : List ℕ} {o : Out} {c : Cursor} {u v : ℕ} (tag : ℕ) (q : Note) (l : Line) (i line : ℕ)
    → ((v l : ℕ) (k : Forest) → noted s (tree tag v l i k none) q ≡ held s k (Holds tag s q i)) → Fined (held s) s (Holds tag s q i) low (used + 1) more n n₁ o c u v
    → n₂ ≡ sets n₁ (used * 4) (words tag v line (u - used)) → line ≡ line_of s l i c.place → Fine s q low used more n n₂ (wrap s tag l i o) c u 0
over_held {s} {c = c} {v = v} tag q l i line y f e p = laid_over tag l i line c refl refl f e p (f.noted ∙ sym (y v (line_of s l i c.place) f.trees))

-- what is read under a limit that is not 0 is an operand
pub held_of : {s : List ℕ} {q : Note} {low used more : ℕ} {n n' : List ℕ} {o : Out} {c : Cursor} {u v : ℕ} (limit : ℕ) → eqb limit 0 ≡ false → Fined (counts s limit) s q low used more n n' o c u v → Fined (held s) s q low used more n n' o c u v
held_of {s} {q} limit e f = record { trees = f.trees; says = f.says; grown = f.grown; laid = f.laid; at = f.at; later = f.later; room = f.room; noted = f.noted ∙ ap (λ (z : Bool). chained z s f.trees q) e }

-- an expression's record over what has no operators of its own
pub over_own : {s : List ℕ} {q : Note} {low used more : ℕ} {n n₁ n₂ : List ℕ} {o : Out} {c : Cursor} {u v : ℕ} (i : ℕ) (f : Fine s q low (used + 1) more n n₁ o c u v) → noted s f.trees q ≡ resumed q (noted s f.trees (fresh q))
    → n₂ ≡ sets n₁ (used * 4) (words 17 v 0 (u - used)) → Fine s q low used more n n₂ (wrap s 17 unlined i o) c u 0
over_own {c = c} i f y w = laid_over 17 unlined i 0 c refl refl f w refl (f.noted ∙ y)

-- an expression's record: it has a chain of its own, or goes on with the one that it stands in
pub over_expression : {s : List ℕ} {low used more : ℕ} {n n₁ n₂ : List ℕ} {o : Out} {e : Cursor} {u v : ℕ} (x : Bool) (q b d : Note) (i : ℕ) → b ≡ begins x q → d ≡ backs x q e.note
    → Fine s b low (used + 1) more n n₁ o e u v → n₂ ≡ sets n₁ (used * 4) (words 17 v 0 (u - used)) → Fined (chained x s) s q low used more n n₂ (wrap s 17 unlined i o) (record { place = e.place; mark = e.mark; note = d }) u 0
over_expression {s} {low} {used} {more} {n} {n₁} {n₂} {o} {e} {u} {v} x q b d i p r f w =
    laid_over 17 unlined i 0 (record { place = e.place; mark = e.mark; note = d }) refl refl f w refl (r ∙ backed_note x f.trees (f.noted ∙ ap (noted s f.trees) p))
  where
    backed_note : (x : Bool) (k : Forest) → e.note ≡ noted s k (begins x q) → backs x q e.note ≡ chained x s (tree 17 v 0 i k none) q
    backed_note true k y = ap (resumed q) y
    backed_note false k y = y
