-- Records laid over a list of words, as far as they fit, and trees side by side. Assumes nothing.
use mathlib.Core.Path.{◌≡◌, refl, sym, ap, ◌∙◌}
use mathlib.Core.List.{List, [], ◌∷◌, ◌++◌, append-nil, append_assoc}
use Prim.Native.Nat.{ℕ, suc, ◌+◌, ◌*◌, ◌≤◌, ◌<◌}
use native.Mathlib.Nat.{add-zero}
use native.Mathlib.Omega.{arith}
use lib.ListN.{length, set, drop, length-append}
use lib.Seq.{sets, sets-eq, set_comm, set_out}
use Rattle.tree.specs.Forest.{Forest, none, tree, size, join, words, flat}

-- past the end nothing is stored
pub sets_out : (vs l : List ℕ) (i : ℕ) → length l ≤ i → sets l i vs ≡ l
sets_out [] l i h = refl
sets_out (v ∷ vs) l i h = rw (set_out l i v h) (sets_out vs l (suc i) (omega arith))

pub sets_append : (xs ys l : List ℕ) (i : ℕ) → sets l i (xs ++ ys) ≡ sets (sets l i xs) (i + length xs) ys
sets_append [] ys l i = rw add-zero
sets_append (x ∷ xs) ys l i =
    let e : suc i + length xs ≡ i + suc (length xs) = omega arith in
    sets_append xs ys (set l i x) (suc i) ∙ ap (λ (k : ℕ). sets (sets (set l i x) (suc i) xs) k ys) e

set_sets : (ys l : List ℕ) (i j v : ℕ) → i < j → set (sets l j ys) i v ≡ sets (set l i v) j ys
set_sets [] l i j v h = refl
set_sets (y ∷ ys) l i j v h =
    set_sets ys (set l j y) i (suc j) v (omega arith) ∙ ap (λ (k : List ℕ). sets k (suc j) ys) (set_comm l j i y v (omega arith))

-- what stands before may be stored after
pub sets_comm : (xs ys l : List ℕ) (i j : ℕ) → i + length xs ≤ j → sets (sets l j ys) i xs ≡ sets (sets l i xs) j ys
sets_comm [] ys l i j h = refl
sets_comm (x ∷ xs) ys l i j h =
    ap (λ (k : List ℕ). sets k (suc i) xs) (set_sets ys l i j x (omega arith)) ∙ sets_comm xs ys (set l i x) (suc i) j (omega arith)

pub length_flat : (t : Forest) → length (flat t) ≡ size t * 4
length_flat none = refl
length_flat (tree tag value line place kids rest) = omega (arith, length-append (flat kids) (flat rest), length_flat kids, length_flat rest)

flat_join : (a b : Forest) → flat (join a b) ≡ flat a ++ flat b
flat_join none b = refl
flat_join (tree tag value line place kids rest) b = simp (flat_join rest b, append_assoc)

pub size_join : (a b : Forest) → size (join a b) ≡ size a + size b
size_join none b = omega arith
size_join (tree tag value line place kids rest) b = omega (arith, size_join rest b)

pub join_assoc : (a b c : Forest) → join (join a b) c ≡ join a (join b c)
join_assoc none b c = refl
join_assoc (tree tag value line place kids rest) b c = ap (tree tag value line place kids) (join_assoc rest b c)

pub join_none : (a : Forest) → join a none ≡ a
join_none none = refl
join_none (tree tag value line place kids rest) = ap (tree tag value line place kids) (join_none rest)

-- trees after trees
pub lay_join : (n : List ℕ) (u v : ℕ) (a b : Forest) → v ≡ u + size a → sets (sets n (u * 4) (flat a)) (v * 4) (flat b) ≡ sets n (u * 4) (flat (join a b))
lay_join n u v a b e =
    let p : v * 4 ≡ u * 4 + length (flat a) = omega (arith, length_flat a) in
    rw (flat_join a b, sets_append (flat a) (flat b) n (u * 4), p)

-- a parent before its children, stored after them
pub lay_tree : (n n₁ : List ℕ) {n₂ : List ℕ} (u tag v line z p : ℕ) (ts : Forest)
    → n₁ ≡ sets n ((u + 1) * 4) (flat ts) → n₂ ≡ sets n₁ (u * 4) (words tag v line z) → z ≡ suc (size ts)
    → n₂ ≡ sets n (u * 4) (flat (tree tag v line p ts none))
lay_tree n n₁ u tag v line z p ts e₁ e₂ e₃ =
    let xs : List ℕ = words tag v line (suc (size ts)) in
    let q : (u + 1) * 4 ≡ u * 4 + 4 = omega arith in
    e₂ ∙ ap (λ (k : ℕ). sets n₁ (u * 4) (words tag v line k)) e₃
    ∙ ap (λ (k : List ℕ). sets k (u * 4) xs) (e₁ ∙ ap (λ (k : ℕ). sets n k (flat ts)) q)
    ∙ sets_comm xs (flat ts) n (u * 4) (u * 4 + 4) (omega arith)
    ∙ sym (sets_append xs (flat ts) n (u * 4))
    ∙ ap (λ (k : List ℕ). sets n (u * 4) (xs ++ k)) (sym (append-nil (flat ts)))

-- all of them from the start, with room
pub lay_whole : (n : List ℕ) (t : Forest) → size t * 4 ≤ length n → sets n 0 (flat t) ≡ flat t ++ drop (size t * 4) n
lay_whole n t h =
    let e : 0 + length (flat t) ≡ size t * 4 = omega (arith, length_flat t) in
    sets-eq (flat t) n 0 (omega arith) ∙ ap (λ (k : ℕ). flat t ++ drop k n) e
