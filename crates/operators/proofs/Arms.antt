-- The arms of a `match` over a table's kinds, in the table's order. Assumes nothing.
use mathlib.Core.Path.{◌≡◌, refl, ◌∙◌}
use mathlib.Core.List.{List, [], ◌∷◌}
use Prim.Native.Nat.{ℕ}
use Rattle.operators.specs.Ranks.{Row, row, binary, find, ranks, priority}
use Rattle.operators.specs.declared.Priority.{Priority}
use Rattle.operators.specs.declared.Ranking.{Ranking}
use Rattle.operators.specs.declared.Ranking.TheVariants.{Crate, Manual}
use Rattle.operators.proofs.Laws.{find_later}

-- what the last arm knows: the kind is no row's
abbrev pub Outside : ℕ → List Row → Type 0 → Type 0
Outside k [] A = A
Outside k (x ∷ xs) A = Outside k xs (A × (k ≡ x.kind → ⊥))

before : (A : Type 0) (k : ℕ) (rows : List Row) → Outside k rows A → A
before A k [] o = o
before A k (x ∷ xs) o = (before _ k xs o).0

outside : (A : Type 0) (k : ℕ) (rows : List Row) → Outside k rows A → find k rows ≡ row k 0 0 0
unfolding find
outside A k [] o = refl
outside A k (x ∷ xs) o = find_later k x xs (before _ k xs o).1 ∙ outside _ k xs o

pub none : (k : ℕ) (rows : List Row) → Outside k rows Unit → find k rows ≡ row k 0 0 0
none = outside Unit

-- the rank of `~=`
abbrev pub unequal : Ranking → ℕ
unequal Crate = 10
unequal Manual = 3

-- an arm answers the ranks of its row
pub arm : (g : Ranking) {p : Priority} {k m : ℕ} {x : Row} → k ≡ m → find m (binary (unequal g)) ≡ x → (p.left ≡ x.left) × (p.right ≡ x.right)
    → p ≡ priority (ranks g) k
arm Crate e f q = rw (e, f) (λ i. record { left = q.0 i; right = q.1 i })
arm Manual e f q = rw (e, f) (λ i. record { left = q.0 i; right = q.1 i })
